use Rattle.devices.proofs.Lines.{joined-lines_of, lines_of_whole, lines_of-joined}
use Rattle.devices.proofs.laws.lines_are_cut_at_newlines.Goals as goal

pub returns-clause-whole : goal.returns-clause-whole
returns-clause-whole c = lines_of_whole

pub returns-clause-back : goal.returns-clause-back
returns-clause-back c = lines_of-joined

pub returns-clause-all : goal.returns-clause-all
returns-clause-all c = joined-lines_of
