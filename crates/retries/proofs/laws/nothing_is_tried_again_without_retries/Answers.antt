use Rattle.retries.proofs.Few.{each_first, none_carried, own_alone}
use Rattle.retries.proofs.Followed.{closed_alone}
use Rattle.retries.proofs.laws.nothing_is_tried_again_without_retries.Goals as goal

pub returns-clause-carried : goal.returns-clause-carried
returns-clause-carried c = none_carried

pub returns-clause-first : goal.returns-clause-first
returns-clause-first c = each_first

pub returns-clause-closed : goal.returns-clause-closed
returns-clause-closed c = closed_alone

pub returns-clause-entries : goal.returns-clause-entries
returns-clause-entries c = own_alone
