-- Of the code: invariants and steps; no promise rests on these words.
-- The numbers of queues.
use Rattle.std.specs.Prelude.{◌≡◌, ◌≤◌, ◌<◌, ◌^◌, ℕ, ◌+◌, List, [], ◌∷◌, length, Option, Some, None, slice_get, slice_index_or}
use Rattle.std.specs.Vec.{vec_capacity}
use Rattle.footprint.specs.declared.resource.Resource.{Resource}
use Rattle.request_arena.specs.Lists.{free_nodes}
use Rattle.lock_tree.specs.Lines.{Lines, nodes_of, number_of}

-- whether a queue has nodes, as a number, and whether it has none
abbrev pub some : List ℕ → ℕ
some [] = 0
some (a ∷ nodes) = 1

abbrev pub none : List ℕ → ℕ
none [] = 1
none (a ∷ nodes) = 0

-- how many queues have nodes, and how many nodes these are
abbrev pub occupied : List (List ℕ) → ℕ
occupied [] = 0
occupied (nodes ∷ queues) = some nodes + occupied queues

abbrev pub total : List (List ℕ) → ℕ
total [] = 0
total (nodes ∷ queues) = length nodes + total queues

-- whether the queue that is open has no node
abbrev pub gap : List (List ℕ) → Option ℕ → ℕ
gap queues None = 0
gap queues (Some number) = none (slice_index_or queues number [])

-- each number is a resource's whose queue has nodes, or it is vacant; the one that is open is a resource's in any case.
-- The resource is noted by its number. So there is a number left where a node is free, and room to note each
pub record IsNumbered (lines : Lines) (open_one : Option ℕ) : Type 0 where
  pub few : length lines.lines.items ≤ length lines.nodes.held
  pub many : length lines.nodes.queues ≡ length lines.nodes.held
  pub small : length lines.nodes.held < 2 ^ 32
  pub named : (r : Resource) (number : ℕ) → number_of lines r ≡ Some number
      → (number < length lines.lines.items) × (nodes_of lines.nodes number ≡ [] → open_one ≡ Some number)
  pub noted : (r : Resource) (number : ℕ) → number_of lines r ≡ Some number
      → slice_get lines.resources.items number ≡ Some r
  pub as_many : length lines.resources.items ≡ length lines.lines.items
  pub fresh : (number : ℕ) → length lines.lines.items ≤ number → nodes_of lines.nodes number ≡ []
  pub vacant : (i number : ℕ) → slice_get lines.vacant.items i ≡ Some number
      → (number < length lines.lines.items) × (nodes_of lines.nodes number ≡ []) × (open_one ≡ Some number → ⊥)
  pub apart : (i j number : ℕ) → slice_get lines.vacant.items i ≡ Some number
      → slice_get lines.vacant.items j ≡ Some number → i ≡ j
  pub count : length lines.lines.items
      ≡ occupied lines.nodes.queues + length lines.vacant.items + gap lines.nodes.queues open_one
  pub room : total lines.nodes.queues + free_nodes lines.nodes.held ≤ length lines.nodes.held
  pub lines_fit : length lines.nodes.held ≤ vec_capacity lines.lines
  pub resources_fit : length lines.nodes.held ≤ vec_capacity lines.resources
  pub vacant_fit : length lines.nodes.held ≤ vec_capacity lines.vacant
