-- Claimed: what contracts promise to a reader rests on these words.
-- What is left where a node is removed.
use Rattle.std.specs.Prelude.{◌≡◌, ◌≢◌, ℕ, true, ◌∷◌, map, Option, None, IfSome, slice_set}
use Rattle.request_arena.specs.Following.{without}
use Rattle.request_arena.specs.Chains.{chain, chain_from, held_at}
use Rattle.request_arena.specs.Lists.{Lists, IsLive, BeginsChain}

-- A node, the first of its chain, is in no queue and no chain any more; the next of its chain, if there is one, is the
-- first of it. The other chains are as they were, and begin where they began.
pub record IsRemoved (was : Lists) (id : ℕ) (successor : Option ℕ) (now : Lists) : Type 0 where
  pub gone : now.held ≡ slice_set was.held id None
  pub queues : now.queues ≡ map (without id) was.queues
  pub rest : chain was.held id ≡ id ∷ chain_from now.held successor
  pub chains : (a : ℕ) → a ≢ id → held_at was.held a ≡ true → chain now.held a ≡ chain was.held a
  pub begins : IfSome successor (λ b. IsLive now b × BeginsChain now b)
  pub firsts : (a : ℕ) → BeginsChain was a → BeginsChain now a
