use Rattle.std.proofs.Common.{◌≡◌, ◌≤◌, drop, map, pos}
use Rattle.std.specs.List.{AllByRecursion}
use Rattle.proclang_types.specs.Views.{entry_view}
use Rattle.footprint.specs.Declaration.{with_entries, declared_footprint}
use Rattle.footprint.specs.Tables.{HasTable}
use Rattle.footprint.specs.OfCatalogue.{IsFootprintOf}
use Rattle.footprint.proofs.declare.with_entries.Given as goal

-- what the rest adds to what stands so far is what all entries add, and what stands so far is of the catalogue
abbrev pub invariant-loop-entry : goal.invariant-loop-entry
invariant-loop-entry l = record {
  meant : with_entries (pos 0) l.catalogue l.arguments l.count l.footprint (map entry_view (drop l.entry-index l.entries.items)) ≡ declared_footprint l.catalogue l.arguments (map entry_view l.entries.items);
  tables : AllByRecursion (HasTable l.catalogue) (map entry_view (drop l.entry-index l.entries.items));
  few : l.count ≤ 65536;
  of_catalogue : IsFootprintOf l.catalogue l.footprint;
}
