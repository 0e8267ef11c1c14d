use Rattle.std.proofs.Common.{IfSome}
use Rattle.request_arena.specs.Lists.{IsLive}
use Rattle.test_layers.proofs.request_queues.agree.Given as goal

abbrev pub invariant-loop-of : goal.invariant-loop-of
invariant-loop-of l = IfSome l.at (λ id. IsLive l.queues id)
