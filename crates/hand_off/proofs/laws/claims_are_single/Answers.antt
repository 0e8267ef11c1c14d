use Rattle.hand_off.proofs.Claimed.{claimed_at_most_once, claimed_as_put, held_as_put}
use Rattle.hand_off.proofs.laws.claims_are_single.Goals as goal

pub returns-clause-once : goal.returns-clause-once
returns-clause-once g c = claimed_at_most_once g.W.Work.comes_of

pub returns-clause-as_put : goal.returns-clause-as_put
returns-clause-as_put g c = claimed_as_put g.W.Work.comes_of

pub returns-clause-held : goal.returns-clause-held
returns-clause-held g c = held_as_put g.W.Work.comes_of
