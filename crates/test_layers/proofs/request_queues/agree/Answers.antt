use Rattle.std.proofs.Common.{ℕ, IfSome, Option, sym, subst}
use Rattle.request_arena.specs.Lists.{IsLive}
use Rattle.test_layers.proofs.Firsts.{live_some}
use Rattle.test_layers.proofs.request_queues.agree.Goals.{then-of-queue+in-Some+else-ne, else-of-queue}
use Rattle.test_layers.proofs.request_queues.agree.Goals as goal

pub loop-of-init : goal.loop-of-init
loop-of-init c = c.first-at.ensures.live

pub get-requires : goal.get-requires
get-requires c = live_some c.args.queues.now c.loop-of.at c.in-Some.id c.loop-of.invariant c.in-Some.is

pub loop-of-preserved : goal.loop-of-preserved
loop-of-preserved c = elim c.if-of-queue.branch [
  | then-of-queue+in-Some+else-ne w ↦ subst (λ (o : Option ℕ). IfSome o (λ id. IsLive c.args.queues.now id)) (sym w.at-is) w.next-at.ensures.live
  | else-of-queue w ↦ subst (λ (o : Option ℕ). IfSome o (λ id. IsLive c.args.queues.now id)) (sym w.at-is) c.loop-of.invariant
]
