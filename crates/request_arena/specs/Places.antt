-- Of the code: invariants and steps; no promise rests on these words.
-- Where nodes and heads lie in the block, and what is at a place that nothing was written to.
use Rattle.std.specs.Prelude.{ℕ, zero, suc, ◌+◌, ◌-◌, ◌*◌, ◌/◌, ◌%◌, ◌^◌, ◌<◌, ◌≤◌, nat_lt, if◌then◌else◌, List, [], ◌∷◌, map, None, slice_index_or}
use Rattle.request_arena.specs.declared.node.Node.{Node}
use Rattle.request_arena.specs.declared.packed.Packed.{Packed}
use Rattle.request_arena.specs.Packed.{unpacked}

-- what is at a place that nothing was written to: a free node, which leads to the next
-- place, or the head of an empty queue
abbrev pub fresh : ℕ → ℕ → Node
fresh nodes place =
    record { next = if nat_lt place nodes then place + 1 else place; prev = place; home = 0; held = None }

-- Nodes lie in runs of 64, and after each run the heads of as many queues: so what is used first lies first, and nodes
-- that are used one after another lie side by side.
abbrev pub index_of : ℕ → ℕ → ℕ
index_of nodes place =
    if nat_lt place nodes then place / 64 * 128 + place % 64 else (place - nodes) / 64 * 128 + 64 + (place - nodes) % 64

abbrev pub at_place : ℕ → List Packed → ℕ → Node
at_place nodes written place = slice_index_or (map unpacked written) (index_of nodes place) (fresh nodes place)

-- f at h and at the next places, k in all
abbrev pub tabulated : (ℕ → Node) → ℕ → ℕ → List Node
tabulated f h zero = []
tabulated f h (suc k) = f h ∷ tabulated f (suc h) k

-- what is at each place, where this was written
abbrev pub laid : ℕ → ℕ → List Packed → List Node
laid nodes queues written = tabulated (at_place nodes written) 0 (nodes + queues)

-- there is room for all nodes and heads
pub record IsRoomy (capacity nodes queues : ℕ) : Type 0 where
  pub of_nodes : (nodes / 64 + 1) * 128 ≤ capacity
  pub of_queues : (queues / 64 + 1) * 128 ≤ capacity
  pub most : capacity < 2 ^ 31
  pub fit : nodes + queues < 2 ^ 30
