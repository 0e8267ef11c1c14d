-- Of the code: invariants and steps; no promise rests on these words.
-- The code's queues as the queues that contracts see.
use Rattle.std.specs.Prelude.{◌<◌, ◌≤◌, ◌==◌, ℕ, Bool, not, ⊤, List, [], ◌∷◌, map, filter, Option, Some, None, slice_get, slice_index_or}
use Rattle.std.specs.Ordering.{eq_by_cmp}
use Rattle.std.specs.HashMap.{get, spare}
use Rattle.footprint.specs.declared.resource.Resource.{Resource}
use Rattle.footprint.specs.Tree.{resource_cmp}
use Rattle.modes.specs.declared.mode.Mode.{Mode}
use Rattle.modes.specs.declared.mode.Mode.TheVariants.{IntentionShared}
use Rattle.request_arena.specs.declared.node.Held.{Held}
use Rattle.request_arena.specs.Lists.{Lists}
use Rattle.lock_tree.specs.declared.lines.Lines.{Lines as CodeLines}
use Rattle.lock_tree.specs.Keys.{resource_eq}
use Rattle.lock_tree.specs.Queues.{Queue}

abbrev pub Lines : Type 0
Lines = CodeLines

-- the request that a node holds
abbrev pub asked : Option (Option Held) → ℕ × Mode
asked None = (0, IntentionShared)
asked (Some None) = (0, IntentionShared)
asked (Some (Some h)) = (h.request.no, h.request.mode)

abbrev pub request_at : List (Option Held) → ℕ → ℕ × Mode
request_at held a = asked (slice_get held a)

-- the requests that these nodes hold
abbrev pub requests : List (Option Held) → List ℕ → Queue
requests held nodes = map (request_at held) nodes

-- the nodes of the queue with a number, and their requests
abbrev pub nodes_of : Lists → ℕ → List ℕ
nodes_of lists number = slice_index_or lists.queues number []

abbrev pub in_order : Lists → ℕ → Queue
in_order lists number = requests lists.held (nodes_of lists number)

abbrev pub numbered : Lists → Option ℕ → Queue
numbered lists None = []
numbered lists (Some number) = in_order lists number

-- the number of a resource's queue, if anyone asks for the resource
abbrev pub number_of : Lines → Resource → Option ℕ
number_of lines resource = get resource_eq lines.numbers resource

-- the queue of a resource
abbrev pub line : Lines → Resource → Queue
line lines resource = numbered lines.nodes (number_of lines resource)

-- the numbers of `count` more resources can be noted
abbrev pub HasRoom : Lines → ℕ → Type 0
HasRoom lines count = count ≤ spare lines.numbers

abbrev pub is_same : Resource → Resource → Bool
is_same a b = eq_by_cmp resource_cmp a b

-- the requests of all but one transaction
abbrev pub others : ℕ → Queue → Queue
others number queue = filter (λ q. not (q.0 == number)) queue

-- the numbers of the transactions that ask, and the modes that they ask for
abbrev pub numbers_of : Queue → List ℕ
numbers_of queue = map (λ q. q.0) queue

abbrev pub modes_of : Queue → List Mode
modes_of queue = map (λ q. q.1) queue

-- each number is less
abbrev pub AllUnder : ℕ → List ℕ → Type 0
AllUnder number [] = ⊤
AllUnder number (x ∷ xs) = (x < number) × AllUnder number xs
