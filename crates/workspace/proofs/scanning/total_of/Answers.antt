use Rattle.std.proofs.Common.{◌≡◌, ◌+ℤ◌, ◌-ℤ◌, ◌≤ℤ◌, pos, arith, ap, subst, ◌∙◌, ℤ}
use Rattle.std.proofs.lemmas.Int.{to_z-of_z}
use mir.Syntax.{w128, w64}
use mir.Val.{to_z, of_z}
use Rattle.workspace.proofs.Scanned.{total_added, total_high, total_low}
use Rattle.workspace.proofs.scanning.total_of.Goals as goal

pub loop-row-preserved : goal.loop-row-preserved
loop-row-preserved c =
    let new : ℤ = to_z w128 (of_z w128 c.added-sum.result) in
    let sum : ℤ = to_z w128 c.loop-row.sum-bits in
    let v : to_z w64 (of_z w64 c.number_in.result) ≡ c.number_in.result = let t = c.number_in.type_inv in grind (arith, to_z-of_z, t) in
    let z : new ≡ c.added-sum.result = let t = c.added-sum.type_inv in grind (arith, to_z-of_z, t) in
    let e : new ≡ sum +ℤ c.number_in.result = z ∙ c.added-sum.ensures.sum ∙ ap (λ x. sum +ℤ x) v in
    let high : c.number_in.result ≤ℤ pos 9223372036854775808 = subst (λ x. x ≤ℤ pos 9223372036854775808) v c.added-sum.ensures.high in
    let low : (pos 0 -ℤ pos 9223372036854775808) ≤ℤ c.number_in.result = subst (λ x. (pos 0 -ℤ pos 9223372036854775808) ≤ℤ x) v c.added-sum.ensures.low in
    record {
      all = total_added c.args.column c.loop-row.row-index c.args.rows.now c.loop-row-item.result sum new c.number_in.result _ c.loop-row-item.is c.loop-row-test.true e c.number_in.ensures c.loop-row.invariant.all;
      high = total_high c.loop-row.row-index sum new c.number_in.result e c.loop-row.invariant.high high;
      low = total_low c.loop-row.row-index sum new c.number_in.result e c.loop-row.invariant.low low;
    }
