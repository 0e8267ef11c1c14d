use Rattle.std.proofs.Common.{arith}
use Rattle.meaning.specs.Runs.{and_then}
use Rattle.workspace.specs.Coverage.{rule_of}
use Rattle.interp.proofs.truth.+evaluate_bool.Goals as goal

pub returns-in-CompareTexts-clause-gives : goal.returns-in-CompareTexts-clause-gives
unfolding and_then
returns-in-CompareTexts-clause-gives g t c =
    let h = c.text_of.ensures (g.V.RowView.rows c.args.shown.now.view.now) (rule_of c.args.shown.now.permit) in
    let k = c.text_of-in-CompareTexts.ensures (g.V.RowView.rows c.args.shown.now.view.now) (rule_of c.args.shown.now.permit) in
    grind (arith, h, k)
