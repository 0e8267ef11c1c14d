-- Claimed: what contracts promise to a reader rests on these words.
-- The chain of a transaction: its nodes, one after another. `held` is what each node holds, which is nothing where it
-- is free.
use Rattle.std.specs.Prelude.{ℕ, Bool, true, false, List, [], length, Option, Some, None, slice_get}
use Rattle.request_arena.specs.declared.node.Held.{Held}
use Rattle.request_arena.specs.Following.{changed, follow}

-- the node after one in its chain, if there is one
abbrev pub successor_of : Option (Option Held) → Option ℕ
successor_of None = None
successor_of (Some None) = None
successor_of (Some (Some h)) = h.successor

-- the place of a node, or n where there is none
abbrev pub place_or : ℕ → Option ℕ → ℕ
place_or n None = n
place_or n (Some id) = id

abbrev pub successor_or : ℕ → Option (Option Held) → ℕ
successor_or n h = place_or n (successor_of h)

abbrev pub holds : Option (Option Held) → Bool
holds None = false
holds (Some None) = false
holds (Some (Some h)) = true

-- from a node to the one after it, or past all nodes where there is none
abbrev pub step : List (Option Held) → ℕ → ℕ
step held a = successor_or (length held) (slice_get held a)

-- whether the node at a is live
abbrev pub held_at : List (Option Held) → ℕ → Bool
held_at held a = holds (slice_get held a)

-- the nodes of the chain from a on, a first; none where a is free
abbrev pub chain : List (Option Held) → ℕ → List ℕ
chain held a = follow (step held) (held_at held) (length held) a

-- the chain from a node on, if there is one
abbrev pub chain_from : List (Option Held) → Option ℕ → List ℕ
chain_from held None = []
chain_from held (Some id) = chain held id

abbrev pub with_successor : Option Held → ℕ → Option Held
with_successor None id = None
with_successor (Some h) id = Some (record h { successor = Some id })

-- the node id comes after the node at a
abbrev pub link : List (Option Held) → ℕ → ℕ → List (Option Held)
link held a id = changed held a (λ h. with_successor h id)

-- the node id comes after the tail, if there is one
abbrev pub linked : Option ℕ → ℕ → List (Option Held) → List (Option Held)
linked None id held = held
linked (Some t) id held = link held t id
