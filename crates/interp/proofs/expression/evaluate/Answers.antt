use Rattle.std.proofs.Common.{arith}
use Rattle.meaning.specs.Runs.{and_then}
use Rattle.workspace.specs.Coverage.{rule_of}
use Rattle.interp.proofs.expression.evaluate.Goals as goal

pub returns-in_ok-text-in-Text-clause-gives : goal.returns-in_ok-text-in-Text-clause-gives
unfolding and_then
returns-in_ok-text-in-Text-clause-gives g c =
    let h = c.text_of.ensures (g.V.RowView.rows c.args.shown.now.view.now) (rule_of c.args.shown.now.permit) in
    grind (arith, h)
