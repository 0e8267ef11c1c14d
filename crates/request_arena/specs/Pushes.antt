-- Claimed: what contracts promise to a reader rests on these words.
-- What a push leaves.
use Rattle.std.specs.Prelude.{◌≡◌, ℕ, true, cond, eqb, List, [], ◌∷◌, ◌++◌, Option, Some, None, slice_get, slice_set, slice_index_or}
use Rattle.std.specs.List.{list_any}
use Rattle.request_arena.specs.declared.node.Request.{Request}
use Rattle.request_arena.specs.Chains.{chain, held_at, linked}
use Rattle.request_arena.specs.Lists.{Lists, BeginsChain}

-- a chain with y at its end, if the tail is one of its nodes
abbrev pub appended : Option ℕ → ℕ → List ℕ → List ℕ
appended None y xs = xs
appended (Some t) y xs = cond (list_any (eqb t) xs) (xs ++ y ∷ []) xs

-- a free node is last in the queue and in each chain that the tail is in, and holds the request; with no tail it is the
-- first of its chain; all else is as it was
pub record Pushed (was : Lists) (queue : ℕ) (tail : Option ℕ) (request : Request) (id : ℕ) (now : Lists) : Type 0 where
  -- the node was free
  pub fresh : slice_get was.held id ≡ Some None
  -- it is at the back of the queue
  pub queues : now.queues ≡ slice_set was.queues queue (slice_index_or was.queues queue [] ++ id ∷ [])
  -- it holds the request, and comes after the tail: no other node holds anything else than before
  pub held : now.held ≡ slice_set (linked tail id was.held) id (Some (record { request = request; successor = None }))
  -- it is at the end of each chain that the tail is in, and every other chain is as it was
  pub chains : (a : ℕ) → held_at was.held a ≡ true → chain now.held a ≡ appended tail id (chain was.held a)
  pub alone : chain now.held id ≡ id ∷ []
  -- with no tail it is the first of its chain
  pub first : tail ≡ None → BeginsChain now id
  -- every other first node is still one
  pub firsts : (a : ℕ) → held_at was.held a ≡ true → BeginsChain was a → BeginsChain now a
