use Rattle.std.proofs.Common.{IfSome}
use Rattle.request_arena.specs.Lists.{IsLive}
use Rattle.test_layers.proofs.request_queues.node_at.Given as goal

abbrev pub invariant-loop : goal.invariant-loop
invariant-loop l = IfSome l.at (λ id. IsLive l.queues id)
