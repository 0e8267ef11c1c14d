use Rattle.batch_log.proofs.FilterLaws.{all_bytes, bare_lines}
use Rattle.batch_log.proofs.laws.whole_lines_are_the_lines.Goals as goal

pub returns : goal.returns
returns c = λ text. record { all = all_bytes text; lines = bare_lines text }
