use Rattle.std.proofs.Common.{◌≡◌, ◌+◌, ◌*◌, ◌-◌, ◌/◌, ◌∙◌, take, drop, ap, sym, subst, arith}
use mir.Val.{bool_byte}
use Rattle.catalogue.proofs.Splits.{IsBetween, counted, passed, quartered}
use Rattle.catalogue.proofs.split.bounds_passed.Goals as goal

pub loop-left-preserved : goal.loop-left-preserved
loop-left-preserved c =
    let some = c.loop-left-test.true in
    let step = (c.loop-left.left + 1) / 4 in
    let sum : c.from.result + c.from-in-loop-left.result + c.from-in-loop-left-2.result ≡ bool_byte c.is_passed-first.result + bool_byte c.is_passed-second.result + bool_byte c.is_passed-third.result = cc in
    subst (λ n. IsBetween c.args.bounds.now c.args.number (c.loop-left.passed + step * n) (c.loop-left.left - 3 * step)) (sym sum)
    (quartered c.args.bounds.now c.args.number c.loop-left.passed c.loop-left.left step c.is_passed-first.result c.is_passed-second.result c.is_passed-third.result
    c.requires c.loop-left.invariant (omega (arith, some)) (omega arith) c.is_passed-first.ensures c.is_passed-second.ensures c.is_passed-third.ensures)

pub returns : goal.returns
returns c =
    let left : c.loop-left.passed + c.loop-left.left - c.loop-left.passed ≡ c.loop-left.left = omega arith in
    sym (counted c.args.bounds.now c.args.number c.loop-left.passed c.loop-left.left c.loop-left.invariant
    ∙ ap (λ n. c.loop-left.passed + passed c.args.number (take n (drop c.loop-left.passed c.args.bounds.now))) (sym left) ∙ ap (λ n. c.loop-left.passed + n) (sym c.passed_of.ensures))
