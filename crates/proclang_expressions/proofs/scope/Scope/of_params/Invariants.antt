use Rattle.std.proofs.Common.{◌≡◌, map, take}
use Rattle.proclang_types.specs.Procedures.{param_shape}
use Rattle.proclang_expressions.specs.Seen.{seen, seen_of}
use Rattle.proclang_expressions.proofs.scope.Scope.of_params.Given as goal

-- the parameters so far
abbrev pub invariant-loop-param : goal.invariant-loop-param
invariant-loop-param l = map seen l.variables.items ≡ seen_of (map param_shape (take l.param-index l.params))
