use Rattle.sequencer.proofs.TriedAgain.{left_is_tried_again, each_is_left, at_most_tried, none_tried}
use Rattle.sequencer.proofs.laws.left_requests_were_stale.Goals as goal

pub returns-clause-again : goal.returns-clause-again
returns-clause-again c = left_is_tried_again

pub returns-clause-most : goal.returns-clause-most
returns-clause-most c = at_most_tried

pub returns-clause-none : goal.returns-clause-none
returns-clause-none c = none_tried

pub returns-clause-all : goal.returns-clause-all
returns-clause-all c = each_is_left
