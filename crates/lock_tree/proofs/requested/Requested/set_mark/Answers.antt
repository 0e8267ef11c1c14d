use Rattle.std.proofs.Common.{List, ap, ◌∙◌}
use Rattle.lock_tree.specs.Locks.{Locks, Waiting, with_mark}
use Rattle.lock_tree.specs.Views.{enqueued}
use Rattle.lock_tree.specs.Lines.{line}
use Rattle.lock_tree.proofs.Trees.{IsMarked, marked_tree, marked_seen, marked_known, marked_chained}
use Rattle.lock_tree.proofs.requested.Requested.set_mark.Goals as goal

pub invariant_of-self : goal.invariant_of-self
invariant_of-self c =
    let k = c.args.no in let m = c.args.mark in let t = c.self.inside.transactions in let new = c.set_mark.new.self in let ok = c.self.invariant in
    let is : IsMarked k m (enqueued t) (enqueued new) = record { there = c.set_mark.ensures.there; none = c.set_mark.ensures.none } in
    marked_tree c.self.inside.arena k m t new c.self.inside.lines ok
    (marked_seen k m (enqueued t) (enqueued new) is ok.indexed.rising) c.set_mark.ensures.indexed
    (marked_known k m (enqueued t) (enqueued new) is (line c.self.inside.lines) ok.known) (marked_chained k m (enqueued t) (enqueued new) is c.self.inside.lines ok.chained)

pub returns : goal.returns
returns c =
    let is : IsMarked c.args.no c.args.mark (enqueued c.self.inside.transactions) (enqueued c.set_mark.new.self) = record { there = c.set_mark.ensures.there; none = c.set_mark.ensures.none } in
    ap (λ (ws : List Waiting). record { arena = c.self.inside.arena; waiting = ws })
    (marked_seen c.args.no c.args.mark (enqueued c.self.inside.transactions) (enqueued c.set_mark.new.self) is c.self.invariant.indexed.rising)
    ∙ ap (λ (l : Locks). record { arena = l.arena; waiting = with_mark c.args.no c.args.mark l.waiting }) c.self.view_is
