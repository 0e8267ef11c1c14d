use Rattle.std.proofs.Common.{◌≡◌, ◌+◌, drop, map}
use Rattle.serde_json.specs.View.{view}
use Rattle.proclang_types.specs.Views.{entry_view}
use Rattle.proclang_expressions.specs.Paths.{places}
use Rattle.proclang_expressions.specs.Walk.{each_from, appended}
use Rattle.proclang.specs.Procs.{entry_at, each_entry}
use Rattle.proclang.proofs.read_footprint.read_each.Given as goal

-- what the rest gives after the entries so far
abbrev pub invariant-loop-index : goal.invariant-loop-index
invariant-loop-index l = each_from (λ p before e. appended before (entry_at l.catalogue l.scope p e)) (places l.path) (l.index + 1) (map entry_view l.entries.items) (map view (drop l.index l.values))
    ≡ each_entry l.catalogue (places l.path) l.scope (map view l.values)
