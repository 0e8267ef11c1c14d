use Rattle.std.proofs.Common.{◌≡◌, ◌∷◌, ◌++◌, ap, arith, drop, rules, to_z-of_z, ◌∙◌}
use Rattle.std.proofs.lemmas.Fmt.{length-decimal-le}
use Rattle.std.specs.Fmt.{decimal, signed_decimal}
use Rattle.itoa.proofs.Decimal.{minus_first}
use Rattle.row_text.proofs.Written.{set_before}
use Rattle.row_text.proofs.words.put_signed.Goals as goal

pub write_digits-start-requires : goal.write_digits-start-requires
write_digits-start-requires c = (omega (arith, length-decimal-le 19 c.unsigned_abs.result (omega arith) (omega arith) (omega arith)), search rules)

pub returns-then-number-ge0-clause-within : goal.returns-then-number-ge0-clause-within
returns-then-number-ge0-clause-within c =
    let long = length-decimal-le 19 c.unsigned_abs.result (omega arith) (omega arith) (omega arith) in (omega arith, omega arith)

pub overflow_sub-room : goal.overflow_sub-room
overflow_sub-room c = omega (arith, length-decimal-le 19 c.unsigned_abs.result (omega arith) (omega arith) (omega arith))

pub overflow_sub-result : goal.overflow_sub-result
overflow_sub-result c = omega (arith, length-decimal-le 19 c.unsigned_abs.result (omega arith) (omega arith) (omega arith))

pub returns-clause-within : goal.returns-clause-within
returns-clause-within c =
    let long = length-decimal-le 19 c.unsigned_abs.result (omega arith) (omega arith) (omega arith) in (omega arith, omega arith)

pub returns-clause-written : goal.returns-clause-written
returns-clause-written c =
    let long = length-decimal-le 19 c.unsigned_abs.result (omega arith) (omega arith) (omega arith) in
    let back = to_z-of_z c.ranges.number in
    let minus : 45 ∷ decimal c.unsigned_abs.result ≡ signed_decimal c.args.number = rw (c.unsigned_abs.ensures.value, back) (minus_first c.args.number (rw back at c.if-number-ge0.false)) in
    set_before c.write_digits-start.new.buf c.write_digits-start.result 45 (omega arith) (omega arith) ∙ ap (λ l. 45 ∷ l) c.write_digits-start.ensures.written
    ∙ ap (λ l. l ++ drop c.args.end c.args.room.now) minus
