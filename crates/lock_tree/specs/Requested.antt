-- Of the code: invariants and steps; no promise rests on these words.
-- A lock tree before and after its first plan is enqueued.
use Rattle.std.specs.Prelude.{◌≡◌, ⊤, ℕ, [], Option, Some, None}
use Rattle.lock_tree.specs.Locks.{Locks}

-- what contracts see of a tree: before anything was requested, the room and no transaction
abbrev pub locks_of : ℕ → Option Locks → Locks
locks_of arena None = record { arena = arena; waiting = [] }
locks_of arena (Some requested) = requested

-- what was requested has the room of the tree
abbrev pub HasArena : ℕ → Option Locks → Type 0
HasArena arena None = ⊤
HasArena arena (Some requested) = requested.arena ≡ arena
