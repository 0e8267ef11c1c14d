use Rattle.std.proofs.Common.{◌≡◌, ◌<◌, ◌^◌, [], drop, map}
use Rattle.std.specs.List.{AllByRecursion}
use Rattle.serde_json.specs.View.{view}
use Rattle.catalogue.specs.Bounds.{bounds_after}
use Rattle.catalogue.proofs.reading.read_bounds.Given as goal

-- what is read so far, and what the rest then gives
abbrev pub invariant-loop-document : goal.invariant-loop-document
invariant-loop-document l = record {
  exact : bounds_after l.bounds.items l.before (map view (drop l.document-index l.documents)) ≡ bounds_after [] 0 (map view l.documents);
  signed : AllByRecursion (λ bound. bound < 2 ^ 63) l.bounds.items;
}
