use Rattle.std.proofs.Common.{◌≡◌, map, take}
use Rattle.std.specs.List.{AllByRecursion}
use Rattle.interp.specs.Entries.{entry_shape}
use Rattle.interp.specs.Over.{AreEntriesOver}
use Rattle.sequencer.specs.Attempts.{requests_of}
use Rattle.sequencer.specs.Entries.{prepared}
use Rattle.sequencer.proofs.preparing.entries_of.Given as goal

-- the entries so far are those of the requests so far, over the tables of the catalogue
abbrev pub invariant-loop-place : goal.invariant-loop-place
invariant-loop-place g l = record {
  exact : map entry_shape l.entries.items ≡ map (prepared (g.V.RowView.rows l.view)) (take l.place (requests_of l.carried l.items));
  tables : AllByRecursion (λ entry. entry.request.proc.tables ≡ l.catalogue) l.entries.items;
  of_catalogue : AreEntriesOver l.catalogue l.entries.items;
}
