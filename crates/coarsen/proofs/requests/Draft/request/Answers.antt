use Rattle.std.proofs.Common.{◌∙◌, ap, max, rules}
use Rattle.footprint.specs.declared.resource.Resource.{Resource}
use Rattle.modes.specs.declared.mode.Mode.{Mode}
use Rattle.modes.specs.Modes.{own, subtree}
use Rattle.coarsen.specs.Subtrees.{is_same}
use Rattle.footprint.proofs.Placing.{sorted-set, sorted-inserted}
use Rattle.coarsen.proofs.Greatest.{greatest-set, greatest-inserted}
use Rattle.coarsen.proofs.Drafting.{sorted-pushed, greatest-pushed, asks-requested}
use Rattle.coarsen.proofs.requests.Draft.request.Goals as goal

-- the request was there, and takes the joined mode
pub invariant_of-self : goal.invariant_of-self
invariant_of-self c = (
  sorted-set _ c.self.invariant.0 _ _ _ (rw (← c.deref.ensures.value) c.in-Ok.ensures.found),
  asks-requested c.self.inside.requests.items _ c.args.resource (subtree c.args.mode)
      (λ r. greatest-set subtree (is_same r) c.self.inside.requests.items c.in-Ok.place c.index.result.now c.args.resource
      c.join-joined.result (subtree c.args.mode)
      (rw (← c.deref.ensures.value) c.in-Ok.ensures.found)
      (c.join-joined.ensures.subtree ∙ ap (λ (e : Resource × Mode). max (subtree e.1) (subtree c.args.mode)) c.index.ensures))
      (rw c.self.view_is c.requires) c.self.invariant.1,
)

pub returns-in-Ok-clause-own : goal.returns-in-Ok-clause-own
returns-in-Ok-clause-own c = λ r. rw (← c.self.view_is)
    (greatest-set own (is_same r) c.self.inside.requests.items c.in-Ok.place c.index.result.now c.args.resource c.join-joined.result (own c.args.mode)
    (rw (← c.deref.ensures.value) c.in-Ok.ensures.found)
    (c.join-joined.ensures.own ∙ ap (λ (e : Resource × Mode). max (own e.1) (own c.args.mode)) c.index.ensures))

pub returns-in-Ok-clause-subtree : goal.returns-in-Ok-clause-subtree
returns-in-Ok-clause-subtree c = λ r. rw (← c.self.view_is)
    (greatest-set subtree (is_same r) c.self.inside.requests.items c.in-Ok.place c.index.result.now c.args.resource c.join-joined.result (subtree c.args.mode)
    (rw (← c.deref.ensures.value) c.in-Ok.ensures.found)
    (c.join-joined.ensures.subtree ∙ ap (λ (e : Resource × Mode). max (subtree e.1) (subtree c.args.mode)) c.index.ensures))

-- it wasn't, and comes at the end
pub invariant_of-self-in-Continue-1 : goal.invariant_of-self-in-Continue-1
invariant_of-self-in-Continue-1 c = (
  sorted-pushed c.self.inside.requests.items _ c.in-Err.place c.args.resource _
      (rw (← c.deref.ensures.value) c.in-Err.ensures.absent) (search rules) c.in_ok-push-in-Err.ensures.items c.self.invariant.0,
  rw c.in_ok-push-in-Err.ensures.items (asks-requested c.self.inside.requests.items _ c.args.resource (subtree c.args.mode)
      (λ r. greatest-pushed subtree (is_same r) c.self.inside.requests.items c.args.resource c.args.mode)
      (rw c.self.view_is c.requires) c.self.invariant.1),
)

pub returns-in_ok-push-in-Err-clause-own : goal.returns-in_ok-push-in-Err-clause-own
returns-in_ok-push-in-Err-clause-own c = λ r. rw (c.in_ok-push-in-Err.ensures.items, ← c.self.view_is)
    (greatest-pushed own (is_same r) c.self.inside.requests.items c.args.resource c.args.mode)

pub returns-in_ok-push-in-Err-clause-subtree : goal.returns-in_ok-push-in-Err-clause-subtree
returns-in_ok-push-in-Err-clause-subtree c = λ r. rw (c.in_ok-push-in-Err.ensures.items, ← c.self.view_is)
    (greatest-pushed subtree (is_same r) c.self.inside.requests.items c.args.resource c.args.mode)

-- it wasn't, and is put into the gap for it
pub invariant_of-self-in-Continue-branch-2 : goal.invariant_of-self-in-Continue-branch-2
invariant_of-self-in-Continue-branch-2 c = rw c.in_ok-insert-in-Err.ensures.items (
  sorted-inserted c.self.inside.requests.items _ _ _
      (rw (← c.deref.ensures.value) c.in-Err.ensures.absent) c.self.invariant.0,
  asks-requested c.self.inside.requests.items _ c.args.resource (subtree c.args.mode)
      (λ r. greatest-inserted subtree (is_same r) c.self.inside.requests.items c.in-Err.place c.args.resource c.args.mode)
      (rw c.self.view_is c.requires) c.self.invariant.1,
)

pub returns-in_ok-insert-in-Err-clause-own : goal.returns-in_ok-insert-in-Err-clause-own
returns-in_ok-insert-in-Err-clause-own c = λ r. rw (c.in_ok-insert-in-Err.ensures.items, ← c.self.view_is)
    (greatest-inserted own (is_same r) c.self.inside.requests.items c.in-Err.place c.args.resource c.args.mode)

pub returns-in_ok-insert-in-Err-clause-subtree : goal.returns-in_ok-insert-in-Err-clause-subtree
returns-in_ok-insert-in-Err-clause-subtree c = λ r. rw (c.in_ok-insert-in-Err.ensures.items, ← c.self.view_is)
    (greatest-inserted subtree (is_same r) c.self.inside.requests.items c.in-Err.place c.args.resource c.args.mode)
