use Rattle.retries.proofs.Few.{attempts_few, few, left_within}
use Rattle.retries.proofs.Later.{later_few}
use Rattle.retries.proofs.laws.attempts_are_few.Goals as goal

pub returns-clause-attempts : goal.returns-clause-attempts
returns-clause-attempts c = attempts_few

pub returns-clause-carried : goal.returns-clause-carried
returns-clause-carried c = few

pub returns-clause-after : goal.returns-clause-after
returns-clause-after c = left_within

pub returns-clause-in_log : goal.returns-clause-in_log
returns-clause-in_log c = later_few
