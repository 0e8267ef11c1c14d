-- Of the code: invariants and steps; no promise rests on these words.
-- What is granted of each queue.
use Rattle.std.specs.Prelude.{◌≡◌, ◌≤◌, ◌==◌, ◌&&◌, ℕ, Bool, List, length, take, [], Option, Some, None, slice_get}
use Rattle.std.specs.List.{list_all}
use Rattle.modes.specs.declared.mode.Mode.{Mode}
use Rattle.modes.specs.Modes.{are_compatible}
use Rattle.request_arena.specs.declared.node.Held.{Held as HeldNode}
use Rattle.request_arena.specs.Following.{without}
use Rattle.lock_tree.specs.declared.line.Line.{Line}
use Rattle.lock_tree.specs.Queues.{Queue, granted}
use Rattle.lock_tree.specs.Lines.{Lines, requests, nodes_of, numbers_of, modes_of, others}
use Rattle.lock_tree.specs.Open.{AreRising}
use Rattle.lock_tree.specs.Held.{AreHeld}

-- a front of the nodes is granted: `granted` of them, in the modes that are held; and the first of the others is known
pub record IsFront (queue : Queue) (nodes : List ℕ) (line : Line) : Type 0 where
  pub within : line.granted ≤ length (granted queue)
  pub held : AreHeld line.held (modes_of (take line.granted queue))
  pub waiting : line.waiting ≡ slice_get nodes line.granted

-- numbers rise, and all is granted that can be
pub record IsLine (held : List (Option HeldNode)) (nodes : List ℕ) (line : Line) : Type 0 where
  pub rising : AreRising (numbers_of (requests held nodes))
  pub all : line.granted ≡ length (granted (requests held nodes))
  pub front : IsFront (requests held nodes) nodes line

-- what stays granted without a transaction's node, before more is granted
pub record Stays (held : List (Option HeldNode)) (nodes : List ℕ) (a owner : ℕ) (line : Line) : Type 0 where
  pub count : line.granted ≡ length (others owner (granted (requests held nodes)))
  pub modes : AreHeld line.held (modes_of (others owner (granted (requests held nodes))))
  pub waiting : line.waiting ≡ slice_get (without a nodes) line.granted

-- nothing is granted, and none waits
pub record IsEmpty (line : Line) : Type 0 where
  pub granted : line.granted ≡ 0
  pub held : AreHeld line.held []
  pub waiting : line.waiting ≡ None

-- so it is of each number's queue
abbrev pub AreGranted : Lines → Type 0
AreGranted lines = (number : ℕ) (x : Line) → slice_get lines.lines.items number ≡ Some x
    → IsLine lines.nodes.held (nodes_of lines.nodes number) x

-- one more request in a mode would be granted at once: all that is there is granted, and is compatible with it
abbrev pub admits : Queue → Mode → Bool
admits queue mode =
    (length (granted queue) == length queue) && list_all (λ h. are_compatible h mode) (modes_of queue)
