-- Of the code: invariants and steps; no promise rests on these words.
-- What is at each place of the block, and the block after one write.
use Rattle.std.specs.Prelude.{ℕ, Bool, false, List, Option, Some, None, is_some, slice_get}
use Rattle.request_arena.specs.declared.node.Node.{Node}
use Rattle.request_arena.specs.declared.node.Held.{Held}
use Rattle.request_arena.specs.Chains.{with_successor}
use Rattle.request_arena.specs.Following.{changed}

abbrev pub next_of : Option Node → ℕ
next_of None = 0
next_of (Some n) = n.next

abbrev pub prev_of : Option Node → ℕ
prev_of None = 0
prev_of (Some n) = n.prev

abbrev pub home_of : Option Node → ℕ
home_of None = 0
home_of (Some n) = n.home

abbrev pub is_live : Option Node → Bool
is_live None = false
is_live (Some n) = is_some n.held

-- where the links of a place lead, the queue that it notes, and whether a live node is there
abbrev pub next : List Node → ℕ → ℕ
next ns a = next_of (slice_get ns a)

abbrev pub prev : List Node → ℕ → ℕ
prev ns a = prev_of (slice_get ns a)

abbrev pub home : List Node → ℕ → ℕ
home ns a = home_of (slice_get ns a)

abbrev pub live : List Node → ℕ → Bool
live ns a = is_live (slice_get ns a)

-- the block after a write to the i-th place
abbrev pub with_next : List Node → ℕ → ℕ → List Node
with_next ns i to = changed ns i (λ n. record n { next = to })

abbrev pub with_prev : List Node → ℕ → ℕ → List Node
with_prev ns i to = changed ns i (λ n. record n { prev = to })

abbrev pub with_home : List Node → ℕ → ℕ → List Node
with_home ns i queue = changed ns i (λ n. record n { home = queue })

abbrev pub with_held : List Node → ℕ → Option Held → List Node
with_held ns i held = changed ns i (λ n. record n { held = held })

abbrev pub with_successor_at : List Node → ℕ → ℕ → List Node
with_successor_at ns i id = changed ns i (λ n. record n { held = with_successor n.held id })

-- the same where there may be no tail to write to
abbrev pub with_tail : List Node → Option ℕ → ℕ → List Node
with_tail ns None id = ns
with_tail ns (Some tail) id = with_successor_at ns tail id
