-- Of the code: invariants and steps; no promise rests on these words.
-- How the nodes of the block are linked, and the lists that they say. The nodes are the first c places of the block,
-- and the heads of the k queues lie after them.
use Rattle.std.specs.Prelude.{◌≡◌, ℕ, zero, suc, ◌+◌, ◌<◌, ◌^◌, true, false, eqb, IfSome, List, [], ◌∷◌, length, Option, Some, slice_get, slice_index_or}
use Rattle.std.specs.List.{list_any}
use Rattle.request_arena.specs.declared.node.Node.{Node}
use Rattle.request_arena.specs.declared.node.Held.{Held}
use Rattle.request_arena.specs.Following.{follow}
use Rattle.request_arena.specs.Walks.{Walk, IsRing}
use Rattle.request_arena.specs.Chains.{step, held_at, successor_of}
use Rattle.request_arena.specs.Nodes.{next, prev, home, live}
use Rattle.request_arena.specs.Lists.{Lists, free_nodes}

-- f at h and at the next places, k in all
abbrev pub spread : (ℕ → List ℕ) → ℕ → ℕ → List (List ℕ)
spread f h zero = []
spread f h (suc k) = f h ∷ spread f (suc h) k

-- what each of the first c nodes holds
abbrev pub held_in : ℕ → List Node → List (Option Held)
held_in zero ns = []
held_in (suc c) [] = []
held_in (suc c) (n ∷ ns) = n.held ∷ held_in c ns

-- the queue of the head h
abbrev pub queue_of : List Node → ℕ → ℕ → List ℕ
queue_of ns c h = follow (next ns) (live ns) c (next ns h)

abbrev pub lists_of : List Node → ℕ → ℕ → Lists
lists_of ns c k = record { queues = spread (queue_of ns c) c k; held = held_in c ns }

-- the free nodes from v on
abbrev pub Stack : List Node → ℕ → ℕ → List ℕ → Type 0
Stack ns c v [] = Unit {0}
Stack ns c v (x ∷ xs) =
    (v ≡ x) × (x < c) × (live ns x ≡ false) × (list_any (eqb x) xs ≡ false) × Stack ns c (next ns x) xs

pub record IsLinked (ns : List Node) (c k vacant free : ℕ) : Type 0 where
  pub long : length ns ≡ c + k
  pub fits : c + k < 2 ^ 30
  pub ring : IsRing c (c + k) (next ns) (prev ns) (live ns)
  pub stack : (fs : List ℕ) × (Stack ns c vacant fs × (length fs ≡ free))
  pub count : free_nodes (held_in c ns) ≡ free

-- each node of a queue notes the queue
abbrev pub AreHome : List Node → ℕ → ℕ → Type 0
AreHome ns c k = (q i a : ℕ) → slice_get (slice_index_or (spread (queue_of ns c) c k) q []) i ≡ Some a → home ns a ≡ q

-- each chain ends
abbrev pub IsChained : List (Option Held) → Type 0
IsChained held = (a : ℕ) → held_at held a ≡ true → (xs : List ℕ) × Walk (step held) (held_at held) a xs (length held)

-- no two nodes have one node after them
abbrev pub IsApart : List (Option Held) → Type 0
IsApart held = (a b : ℕ) → held_at held a ≡ true → held_at held b ≡ true → step held a ≡ step held b
    → held_at held (step held a) ≡ true → a ≡ b

-- what is after a node is live
abbrev pub AreSuccessorsLive : List (Option Held) → Type 0
AreSuccessorsLive held = (a : ℕ) → IfSome (successor_of (slice_get held a)) (λ b. held_at held b ≡ true)

pub record AreChains (held : List (Option Held)) : Type 0 where
  pub end : IsChained held
  pub apart : IsApart held
  pub successor : AreSuccessorsLive held
