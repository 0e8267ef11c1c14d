use Rattle.std.proofs.Common.{sym}
use Rattle.modes.specs.Modes.{own, subtree}
use Rattle.coarsen.proofs.Requesting.{over_both, own_both}
use Rattle.coarsen.proofs.Drafting.{on_ok, over_served}
use Rattle.coarsen.proofs.requests.Draft.+request_up.Goals as goal

pub returns-in_ok-request-in-Some-2-clause-own : goal.returns-in_ok-request-in-Some-2-clause-own
returns-in_ok-request-in-Some-2-clause-own t c = λ r.
    own_both _ _ (own c.args.mode) (own c.intention.result) _ _ _ c.intention.ensures.own (c.in_ok-request_up-in-Some-2.ensures.own r) (c.in_ok-request-in-Some-2.ensures.own r)

pub returns-in_ok-request-in-Some-2-clause-subtree : goal.returns-in_ok-request-in-Some-2-clause-subtree
returns-in_ok-request-in-Some-2-clause-subtree t c = λ r.
    over_both r c.args.resource c.in-Some.parent (subtree c.args.mode) (subtree c.intention.result) _ _ _ (sym c.in-Some.ensures) c.intention.ensures.subtree
    (c.in_ok-request_up-in-Some-2.ensures.subtree r) (c.in_ok-request-in-Some-2.ensures.subtree r)

-- the last request shows that the ancestors ask for as much
pub returns-in-Some-clause-subtree : goal.returns-in-Some-clause-subtree
returns-in-Some-clause-subtree t c =
    on_ok c.request-in-Some.result (λ is r. over_served c.args.self.now r c.args.resource c.in-Some.parent
    (subtree c.args.mode) _ (sym c.in-Some.ensures) (c.serves_below.ensures c.if-serves_below.true) (is r)) c.request-in-Some.ensures.subtree
