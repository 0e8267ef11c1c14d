use Rattle.std.proofs.Common.{◌≡◌, ℕ, ap, ◌∙◌, sym, subst, length, arith}
use Rattle.lock_tree.specs.Locks.{Locks, Waiting, used}
use Rattle.lock_tree.specs.Enqueues.{AreBelow}
use Rattle.lock_tree.specs.Lines.{line}
use Rattle.lock_tree.specs.Views.{all_waiting, enqueued}
use Rattle.lock_tree.proofs.Queueing.{plan_under_next}
use Rattle.lock_tree.proofs.Trees.{same_tree, known_as_before, joined_tree}
use Rattle.lock_tree.specs.Chained.{AreChained}
use Rattle.lock_tree.proofs.Chaining.{chained_same}
use Rattle.footprint.specs.InTreeOrder.{IsInTreeOrder}
use Rattle.coarsen.specs.Subtrees.{Requests}
use Rattle.lock_tree.proofs.requested.Requested.enqueue.Goals as goal

pub invariant_of-self-in_err-make_room : goal.invariant_of-self-in_err-make_room
invariant_of-self-in_err-make_room c =
    let made = c.in_err-make_room.ensures in
    same_tree c.self.inside.arena c.self.inside.transactions c.make_place.new.self c.self.inside.lines c.make_room.new.self made.numbered made.granted made.free made.same made.chained
    c.make_place.ensures.same c.make_place.ensures.indexed c.self.invariant

pub enqueue_transaction-requires-clause-entry : goal.enqueue_transaction-requires-clause-entry
enqueue_transaction-requires-clause-entry c = record {
  owned = ap (λ (w : Waiting). w.no) c.new.ensures.waiting;
  asks_for = ap (λ (w : Waiting). w.plan) c.new.ensures.waiting ∙ sym c.requests-2.ensures.same;
  waits = c.new.ensures.waits;
}

pub enqueue_transaction-requires-clause-agree : goal.enqueue_transaction-requires-clause-agree
enqueue_transaction-requires-clause-agree c = record {
  numbered = c.make_room.ensures.numbered;
  granted = c.make_room.ensures.granted;
  indexed = c.make_place.ensures.indexed;
  known = known_as_before c.self.inside.lines c.make_room.new.self (enqueued c.self.inside.transactions) (enqueued c.make_place.new.self) c.make_room.ensures.same c.make_place.ensures.same c.self.invariant.known;
  chained =
      subst (AreChained c.make_room.new.self) (sym c.make_place.ensures.same)
      (chained_same c.self.inside.lines c.make_room.new.self c.make_room.ensures.chained (enqueued c.self.inside.transactions) c.self.invariant.chained);
}

pub enqueue_transaction-requires-clause-room : goal.enqueue_transaction-requires-clause-room
enqueue_transaction-requires-clause-room c =
    let asked : c.new.result.plan.value ≡ c.args.plan.now = ap (λ (w : Waiting). w.plan) c.new.ensures.waiting in
    let plan : length c.new.result.plan.value ≡ length c.args.plan.now = ap length asked in
    record {
      free =
          let arena : c.self.inside.arena ≡ c.args.self.now.arena = ap (λ (l : Locks). l.arena) c.self.view_is in
          let taken : used (all_waiting (enqueued c.self.inside.transactions)) ≡ used c.args.self.now.waiting = ap (λ (l : Locks). used l.waiting) c.self.view_is in
          let room = c.requires.room in
          let free = c.self.invariant.room in
          let same = c.make_room.ensures.free in omega (arith, plan, arena, taken, room, free, same);
      numbers =
          let same : length c.requests.result.now ≡ length c.args.plan.now = ap length c.requests.ensures.same in
          let room = c.in_ok-make_room.ensures.room in omega (arith, plan, same, room);
      apart = subst (λ (requests : Requests). IsInTreeOrder requests) (sym asked) c.requests.ensures.sound.ordered;
      above =
          plan_under_next c.new.result.no (line c.make_room.new.self) (all_waiting (enqueued c.self.inside.transactions)) (λ r. c.make_room.ensures.same r ∙ c.self.invariant.lines r)
          (subst (AreBelow c.new.result.no) (sym (ap (λ (l : Locks). l.waiting) c.self.view_is))
          (subst (λ (n : ℕ). AreBelow n c.args.self.now.waiting) (sym (ap (λ (w : Waiting). w.no) c.new.ensures.waiting)) c.requires.below)) c.new.result.plan.value;
    }

pub invariant_of-self-2 : goal.invariant_of-self-2
invariant_of-self-2 c =
    joined_tree c.self.inside.arena c.self.inside.transactions c.make_place.new.self c.enqueue_transaction.new.transactions c.new.result c.self.inside.lines c.make_room.new.self c.enqueue_transaction.new.lines
    c.self.invariant c.make_place.ensures.same c.make_room.ensures.same c.make_room.ensures.free
    c.enqueue_transaction.ensures.agree.indexed c.in_ok-enqueue_transaction.ensures.enqueued.lines c.in_ok-enqueue_transaction.ensures.waiting c.enqueue_transaction.ensures.agree.known c.enqueue_transaction.ensures.agree.numbered c.enqueue_transaction.ensures.agree.granted c.in_ok-enqueue_transaction.ensures.enqueued.free c.enqueue_transaction.ensures.agree.chained
