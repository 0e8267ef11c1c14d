-- Claimed: what contracts promise to a reader rests on these words.
-- What a clause sees of the queues.
use Rattle.std.specs.Prelude.{◌≡◌, ◌≢◌, ℕ, suc, true, List, [], ◌∷◌, Option, Some, None, slice_get}
use Rattle.request_arena.specs.declared.node.Held.{Held}
use Rattle.request_arena.specs.declared.node.Request.{Request}
use Rattle.request_arena.specs.Chains.{held_at, step}

-- the nodes of each queue, front first, and what each node holds: nothing where it is free.
-- A node is named by its place
pub record Lists : Type 0 where
  pub queues : List (List ℕ)
  pub held : List (Option Held)

-- how many nodes are free, and how many are live
abbrev pub free_nodes : List (Option Held) → ℕ
free_nodes [] = 0
free_nodes (None ∷ held) = suc (free_nodes held)
free_nodes (Some h ∷ held) = free_nodes held

-- how many nodes hold a request
abbrev pub live_nodes : List (Option Held) → ℕ
live_nodes [] = 0
live_nodes (None ∷ held) = live_nodes held
live_nodes (Some h ∷ held) = suc (live_nodes held)

-- a node holds a request
abbrev pub IsLive : Lists → ℕ → Type 0
IsLive lists a = (h : Held) × (slice_get lists.held a ≡ Some (Some h))

-- the node at a is live, with that request
abbrev pub HoldsRequest : Lists → ℕ → Request → Type 0
HoldsRequest lists a request =
    (b : Option ℕ) × (slice_get lists.held a ≡ Some (Some (record { request = request; successor = b })))

-- the node at a is live, and the last of its chain
abbrev pub EndsChain : Lists → ℕ → Type 0
EndsChain lists a = (r : Request) × (slice_get lists.held a ≡ Some (Some (record { request = r; successor = None })))

-- no node comes before a in its chain
abbrev pub BeginsChain : Lists → ℕ → Type 0
BeginsChain lists a = (b : ℕ) → held_at lists.held b ≡ true → step lists.held b ≢ a
