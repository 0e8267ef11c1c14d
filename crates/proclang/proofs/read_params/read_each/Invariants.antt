use Rattle.std.proofs.Common.{◌≡◌, drop, map}
use Rattle.serde_json.specs.View.{view}
use Rattle.proclang_types.specs.Procedures.{param_shape}
use Rattle.proclang_expressions.specs.Paths.{places}
use Rattle.proclang_expressions.specs.Walk.{each_from, appended}
use Rattle.proclang.specs.Procs.{param_at, each_param}
use Rattle.proclang.proofs.read_params.read_each.Given as goal

-- what the rest gives after the parameters so far
abbrev pub invariant-loop-index : goal.invariant-loop-index
invariant-loop-index l = each_from (λ p before d. appended before (param_at p before d)) (places l.path) l.index (map param_shape l.params.items) (map view (drop l.index l.values))
    ≡ each_param (places l.path) (map view l.values)
