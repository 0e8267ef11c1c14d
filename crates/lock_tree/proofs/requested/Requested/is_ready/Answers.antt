use Rattle.std.proofs.Common.{refl, sym, ap, ◌∙◌}
use Rattle.lock_tree.specs.Locks.{Locks}
use Rattle.lock_tree.specs.Ready.{ready}
use Rattle.lock_tree.specs.Views.{all_waiting, enqueued}
use Rattle.lock_tree.proofs.Places.{no_plan}
use Rattle.lock_tree.proofs.Trees.{ready_flag, not_ready}
use Rattle.lock_tree.proofs.requested.Requested.is_ready.Goals as goal

pub returns-in-Some : goal.returns-in-Some
returns-in-Some c =
    let r = c.in-Some.ensures.found in
    c.is_ready.ensures ∙ ready_flag c.self.inside.lines (enqueued c.self.inside.transactions) (enqueued c.self.inside.transactions) c.args.self.now.waiting c.args.no r.place c.in-Some.entry.now refl
    (ap (λ (l : Locks). l.waiting) c.self.view_is) c.self.invariant.lines c.self.invariant.known (sym r.exact) r.within r.there

pub returns-in-None : goal.returns-in-None
returns-in-None c =
    sym (not_ready c.args.no (all_waiting (enqueued c.self.inside.transactions))
    (no_plan c.args.no (all_waiting (enqueued c.self.inside.transactions)) c.in-None.ensures.none))
    ∙ ap (λ (l : Locks). ready l.waiting c.args.no) c.self.view_is
