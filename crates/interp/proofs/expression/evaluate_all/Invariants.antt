use Rattle.std.proofs.Common.{◌≡◌, drop, map}
use Rattle.proclang_types.specs.Views.{value_view}
use Rattle.meaning.specs.Meaning.{values_of}
use Rattle.meaning.specs.Entries.{nothing}
use Rattle.workspace.specs.Coverage.{rule_of, KeepsCovered}
use Rattle.workspace.specs.States.{state_at}
use Rattle.workspace.specs.Answers.{prefixed}
use Rattle.interp.proofs.expression.evaluate_all.Given as goal

-- the values so far, and after them those of what is left, are those of all
abbrev pub invariant-loop-expression : goal.invariant-loop-expression
invariant-loop-expression g l =
    let rows = g.V.RowView.rows l.shown.view.now in
    let rule = rule_of l.shown.permit in
    record {
      gives : prefixed l.values.items (values_of nothing rule (map value_view (drop l.expression-index l.expressions.items)) (state_at rows l.space))
          ≡ values_of nothing rule (map value_view l.expressions.items) (state_at rows l.fn.space);
      kept : KeepsCovered l.shown.permit l.fn.space l.space;
    }
