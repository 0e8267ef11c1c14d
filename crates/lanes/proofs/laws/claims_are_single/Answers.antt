use Rattle.lanes.proofs.Stands.{once, as_put, held, claim_is_the_only_one, claim_is_as_put}
use Rattle.lanes.proofs.laws.claims_are_single.Goals as goal

pub returns-clause-once : goal.returns-clause-once
returns-clause-once c = once c.claims_are_single.ensures.once

pub returns-clause-as_put : goal.returns-clause-as_put
returns-clause-as_put c = as_put c.claims_are_single.ensures.as_put

pub returns-clause-held : goal.returns-clause-held
returns-clause-held c = held c.claims_are_single.ensures.held

pub returns-clause-only : goal.returns-clause-only
returns-clause-only c = claim_is_the_only_one (once c.claims_are_single.ensures.once)

pub returns-clause-is_put : goal.returns-clause-is_put
returns-clause-is_put c = claim_is_as_put (as_put c.claims_are_single.ensures.as_put) (held c.claims_are_single.ensures.held)
