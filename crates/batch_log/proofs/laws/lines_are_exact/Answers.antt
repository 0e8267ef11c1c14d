use Rattle.batch_log.proofs.LineLaws.{line_is_exact}
use Rattle.batch_log.proofs.laws.lines_are_exact.Goals as goal

pub returns : goal.returns
returns c = line_is_exact
