use Rattle.std.proofs.Common.{◌++◌, ap, arith, codes, drop, rules, sym, ◌∙◌}
use Rattle.row_text.specs.Texts.{line_end, value_text}
use Rattle.row_text.proofs.Written.{no_values, set_before, value_before}
use Rattle.row_text.proofs.words.put_values.Goals as goal

pub loop-left-init : goal.loop-left-init
loop-left-init c = record {
  within = omega arith;
  left = omega arith;
  written = set_before c.args.room.now c.args.end 10 (omega arith) (omega arith)
      ∙ sym (no_values c.args.values.now (line_end ++ drop c.args.end c.args.room.now));
}

pub loop-left-preserved : goal.loop-left-preserved
loop-left-preserved c = record {
  within = search rules;
  left = search rules;
  written = c.in_ok-start.ensures.1
      ∙ ap (λ l. (codes " " ++ value_text c.index-values-left.result) ++ l) c.loop-left.invariant.written
      ∙ value_before c.args.values.now c.loop-left.left c.index-values-left.result (line_end ++ drop c.args.end c.args.room.now) (omega arith) (omega arith) c.index-values-left.is;
}
