-- Of the code: invariants and steps; no promise rests on these words.
-- The requests of a transaction, each in its queue, chained in the order of the plan.
use Rattle.std.specs.Prelude.{◌≡◌, ℕ, ⊤, true, List, [], ◌∷◌, Option, Some, None, IfSome, eqb, slice_get}
use Rattle.std.specs.List.{AllByRecursion, list_any}
use Rattle.footprint.specs.declared.resource.Resource.{Resource}
use Rattle.coarsen.specs.Subtrees.{Requests}
use Rattle.request_arena.specs.Chains.{chain_from}
use Rattle.request_arena.specs.Lists.{IsLive, BeginsChain, EndsChain}
use Rattle.lock_tree.specs.Entered.{Enqueued}
use Rattle.lock_tree.specs.Lines.{Lines, request_at, nodes_of, number_of}

-- a node of the transaction is in the queue of a resource, which has that number
pub record IsPlaced (lines : Lines) (owner : ℕ) (resource : Resource) (number a : ℕ) : Type 0 where
  pub named : number_of lines resource ≡ Some number
  pub place : ℕ
  pub there : slice_get (nodes_of lines.nodes number) place ≡ Some a
  pub owned : (request_at lines.nodes.held a).0 ≡ owner

-- so does one for each request
abbrev pub ArePlaced : Lines → ℕ → Requests → List ℕ → List ℕ → Type 0
ArePlaced lines owner [] [] [] = ⊤
ArePlaced lines owner (e ∷ plan) (number ∷ numbers) (a ∷ nodes) =
    IsPlaced lines owner e.0 number a × ArePlaced lines owner plan numbers nodes
ArePlaced lines owner plan numbers nodes = ⊥

abbrev pub Begins : Lines → Option ℕ → Type 0
Begins lines head = IfSome head (λ a. IsLive lines.nodes a × BeginsChain lines.nodes a)

-- the chain from the head on has the nodes of these requests
pub record Chains (lines : Lines) (owner : ℕ) (plan : Requests) (numbers : List ℕ) (head : Option ℕ) : Type 0 where
  pub begins : Begins lines head
  pub placed : ArePlaced lines owner plan numbers (chain_from lines.nodes.held head)

abbrev pub IsChained : Lines → Enqueued → Type 0
IsChained lines e = (numbers : List ℕ) × Chains lines e.no e.plan.value numbers e.head

abbrev pub AreChained : Lines → List Enqueued → Type 0
AreChained lines es = AllByRecursion (IsChained lines) es

-- the last node of the chain from the head on
abbrev pub IsTail : Lines → ℕ → Option ℕ → Option ℕ → Type 0
IsTail lines owner head None = head ≡ None
IsTail lines owner head (Some t) = (list_any (eqb t) (chain_from lines.nodes.held head) ≡ true)
    × EndsChain lines.nodes t × ((request_at lines.nodes.held t).0 ≡ owner)

-- the head of a chain with one more node at its end
abbrev pub head_or : Option ℕ → ℕ → ℕ
head_or None a = a
head_or (Some h) a = h
