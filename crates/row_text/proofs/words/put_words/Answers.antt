use Rattle.std.proofs.Common.{◌≡◌, ◌++◌, ap, arith, codes, drop, rules, ◌∙◌}
use Rattle.std.specs.Fmt.{decimal}
use Rattle.row_text.proofs.Written.{words_before}
use Rattle.row_text.proofs.words.put_words.Goals as goal

pub returns : goal.returns
returns c =
    let key : c.number.result ≡ c.args.key = search rules in (
      omega (arith, c.in_ok-end.ensures.0),
      c.put_key.ensures.written ∙ ap (λ n. (codes " " ++ decimal n) ++ drop c.in_ok-end.end c.put_values.new.room) key
          ∙ ap (λ l. (codes " " ++ decimal c.args.key) ++ l) c.in_ok-end.ensures.1 ∙ words_before c.args.key c.args.values.now (drop c.args.end c.args.room.now),
    )
