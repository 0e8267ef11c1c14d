-- Of the code: invariants and steps; no promise rests on these words.
-- Nodes whose links lead to places below 2^32.
use Rattle.std.specs.Prelude.{◌<◌, ◌^◌, ⊤, Option, None, Some, IfSome}
use Rattle.request_arena.specs.declared.node.Node.{Node}
use Rattle.request_arena.specs.declared.node.Held.{Held}

abbrev pub IsSmallHeld : Option Held → Type 0
IsSmallHeld None = ⊤
IsSmallHeld (Some h) = IfSome h.successor (λ place. place < 2 ^ 32)

pub record IsSmall (n : Node) : Type 0 where
  pub next : n.next < 2 ^ 32
  pub prev : n.prev < 2 ^ 32
  pub home : n.home < 2 ^ 32
  pub held : IsSmallHeld n.held
