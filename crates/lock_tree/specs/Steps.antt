-- Of the code: invariants and steps; no promise rests on these words.
-- What a step of the code leaves of the queues.
use Rattle.std.specs.Prelude.{◌≡◌, ◌≢◌, ◌<◌, ◌≤◌, ◌+◌, ℕ, false, List, [], ◌∷◌, ◌++◌, length, if◌then◌else◌, Option, Some, None, slice_get}
use Rattle.std.specs.List.{AllByRecursion}
use Rattle.footprint.specs.declared.resource.Resource.{Resource}
use Rattle.modes.specs.declared.mode.Mode.{Mode}
use Rattle.coarsen.specs.Subtrees.{Requests}
use Rattle.request_arena.specs.declared.node.Request.{Request}
use Rattle.request_arena.specs.Lists.{Lists, IsLive, free_nodes}
use Rattle.request_arena.specs.Pushes.{Pushed}
use Rattle.request_arena.specs.Removals.{IsRemoved}
use Rattle.footprint.specs.InTreeOrder.{IsInTreeOrder}
use Rattle.lock_tree.specs.Entered.{Enqueued}
use Rattle.lock_tree.specs.Queues.{asks, mode_on}
use Rattle.lock_tree.specs.Lines.{Lines, line, number_of, nodes_of, in_order, others, is_same, HasRoom, AllUnder, numbers_of}
use Rattle.lock_tree.specs.Numbered.{IsNumbered}
use Rattle.lock_tree.specs.Granted.{AreGranted}
use Rattle.lock_tree.specs.Chained.{IsChained, Chains, IsTail, head_or}

-- a resource has a queue with a number, which is open for one more request
pub record IsOpened (was : Lines) (resource : Resource) (number : ℕ) (now : Lines) : Type 0 where
  pub numbered : IsNumbered now (Some number)
  pub granted : AreGranted now
  pub within : number < length now.lines.items
  pub nodes : now.nodes ≡ was.nodes
  pub named : number_of now resource ≡ Some number
  pub kept : (other : Resource) (n : ℕ) → number_of was other ≡ Some n → number_of now other ≡ Some n
  pub same : (other : Resource) → line now other ≡ line was other
  pub room : (count : ℕ) → HasRoom was (count + 1) → HasRoom now count

-- where its queue is empty, a resource has no number
pub record IsForgotten (was : Lines) (resource : Resource) (number : ℕ) (now : Lines) : Type 0 where
  pub numbered : IsNumbered now None
  pub granted : AreGranted now
  pub lines : now.lines ≡ was.lines
  pub nodes : now.nodes ≡ was.nodes
  pub gone : nodes_of now.nodes number ≡ [] → number_of now resource ≡ None
  pub kept : (other : Resource) (n i a : ℕ) → number_of was other ≡ Some n → slice_get (nodes_of was.nodes n) i ≡ Some a
      → number_of now other ≡ Some n
  pub same : (other : Resource) → line now other ≡ line was other

-- each node of a queue is live
abbrev pub AreLive : Lists → Type 0
AreLive lists = (q i a : ℕ) → slice_get (nodes_of lists q) i ≡ Some a → IsLive lists a

-- a node of a queue is in no other queue, and at no other place
abbrev pub StandApart : Lists → Type 0
StandApart lists = (q r i j a : ℕ) → slice_get (nodes_of lists q) i ≡ Some a → slice_get (nodes_of lists r) j ≡ Some a
    → (q ≡ r) × (i ≡ j)

-- a request came to the back of a queue
pub record IsAdded (was : Lines) (number : ℕ) (tail : Option ℕ) (request : Request) (id : ℕ) (now : Lines)
    : Type 0 where
  pub numbered : IsNumbered now None
  pub granted : AreGranted now
  pub numbers : now.numbers ≡ was.numbers
  pub free : free_nodes now.nodes.held + 1 ≡ free_nodes was.nodes.held
  pub live : AreLive was.nodes
  pub pushed : Pushed was.nodes number tail request id now.nodes
  pub here : in_order now.nodes number ≡ in_order was.nodes number ++ (request.no, request.mode) ∷ []
  pub elsewhere : (other : ℕ) → other ≢ number → in_order now.nodes other ≡ in_order was.nodes other

-- a node left a queue
pub record IsLeft (was : Lines) (number owner id : ℕ) (successor : Option ℕ) (now : Lines) : Type 0 where
  pub numbered : IsNumbered now (Some number)
  pub granted : AreGranted now
  pub numbers : now.numbers ≡ was.numbers
  pub many : length now.lines.items ≡ length was.lines.items
  pub free : free_nodes now.nodes.held ≡ free_nodes was.nodes.held + 1
  pub live : AreLive was.nodes
  pub removed : IsRemoved was.nodes id successor now.nodes
  pub here : in_order now.nodes number ≡ others owner (in_order was.nodes number)
  pub elsewhere : (other : ℕ) → other ≢ number → in_order now.nodes other ≡ in_order was.nodes other

-- other transactions' requests are chained as before
abbrev pub OthersChained : ℕ → Lines → Lines → Type 0
OthersChained owner was now = (entry : Enqueued) → (entry.no ≡ owner → ⊥) → IsChained was entry → IsChained now entry

-- the transaction's chain has one more request at its end
abbrev pub IsLonger : ℕ → Resource → ℕ → Option ℕ → ℕ → Lines → Lines → Type 0
IsLonger owner resource number tail id was now =
    (plan : Requests) (mode : Mode) (numbers : List ℕ) (head : Option ℕ) → Chains was owner plan numbers head
    → IsTail was owner head tail
    → Chains now owner (plan ++ (resource, mode) ∷ []) (numbers ++ number ∷ []) (Some (head_or head id))
    × IsTail now owner (Some (head_or head id)) (Some id)

-- the transaction's chain has lost its first request
abbrev pub IsShorter : ℕ → ℕ → Option ℕ → Lines → Lines → Type 0
IsShorter owner id successor was now =
    (e : Resource × Mode) (plan : Requests) (number : ℕ) (numbers : List ℕ)
    → Chains was owner (e ∷ plan) (number ∷ numbers) (Some id) → Chains now owner plan numbers successor

-- a request came to the back of the queue of its resource
pub record IsPushed (was : Lines) (resource : Resource) (request : Request) (now : Lines) : Type 0 where
  pub numbered : IsNumbered now None
  pub granted : AreGranted now
  pub free : free_nodes now.nodes.held + 1 ≡ free_nodes was.nodes.held
  pub lines : (other : Resource) → line now other
      ≡ (if is_same other resource then line was other ++ (request.no, request.mode) ∷ [] else line was other)
  pub room : (count : ℕ) → HasRoom was (count + 1) → HasRoom now count
  pub others_chained : OthersChained request.no was now

-- a transaction's request left the queue of its resource
pub record IsTakenOff (was : Lines) (resource : Resource) (owner : ℕ) (now : Lines) : Type 0 where
  pub numbered : IsNumbered now None
  pub granted : AreGranted now
  pub free : free_nodes now.nodes.held ≡ free_nodes was.nodes.held + 1
  pub lines : (other : Resource) → line now other
      ≡ (if is_same other resource then others owner (line was other) else line was other)
  pub others_chained : OthersChained owner was now

-- there is room for the requests of a plan, each of which comes after the others on its resource
pub record HasRoomFor (queues : Lines) (owner : ℕ) (plan : Requests) : Type 0 where
  pub free : length plan ≤ free_nodes queues.nodes.held
  pub numbers : HasRoom queues (length plan)
  pub apart : IsInTreeOrder plan
  pub above : AllByRecursion (λ request. AllUnder owner (numbers_of (line queues request.0))) plan

-- the requests of a plan came to the back of their queues
pub record AreEnqueued (was : Lines) (owner : ℕ) (plan : Requests) (now : Lines) : Type 0 where
  pub numbered : IsNumbered now None
  pub granted : AreGranted now
  pub free : free_nodes now.nodes.held + length plan ≡ free_nodes was.nodes.held
  pub lines : (other : Resource) → line now other ≡ line was other ++ asks owner (mode_on other plan) []
  pub others_chained : OthersChained owner was now

-- an entry is that of a transaction that waits for the requests of a plan
pub record IsEntryOf (owner : ℕ) (asked : Requests) (entry : Enqueued) : Type 0 where
  pub owned : entry.no ≡ owner
  pub asks_for : entry.plan.value ≡ asked
  pub waits : entry.ready ≡ false
