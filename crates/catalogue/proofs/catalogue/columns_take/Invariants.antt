use Rattle.std.proofs.Common.{◌≡◌, map}
use Rattle.values.specs.Rows.{kinds_match}
use Rattle.catalogue.proofs.catalogue.columns_take.Given as goal

-- the types that are left take the values that are left as all types take all values
abbrev pub invariant-loop-kind : goal.invariant-loop-kind
invariant-loop-kind l = kinds_match l.kind-iterator l.rest ≡ kinds_match (map (λ e. e.1) l.columns.entries) l.values
