-- Claimed: what contracts promise to a reader rests on these words.
-- The queues of resources, and what is granted of them. (Calvin, 2012: locks are granted in the order of the requests.)
use Rattle.std.specs.Prelude.{ℕ, Bool, ◌==◌, if◌then◌else◌, List, [], ◌∷◌, Option, Some, None}
use Rattle.std.specs.List.{list_all, list_any}
use Rattle.std.specs.FinMap.Entries.{find}
use Rattle.footprint.specs.declared.resource.Resource.{Resource}
use Rattle.footprint.specs.Tree.{resource_cmp}
use Rattle.modes.specs.declared.mode.Mode.{Mode}
use Rattle.modes.specs.Modes.{are_compatible}
use Rattle.coarsen.specs.Subtrees.{Requests}
use Rattle.lock_tree.specs.Locks.{Waiting}

-- the mode that a plan asks for on a resource
abbrev pub mode_on : Resource → Requests → Option Mode
mode_on resource requests = find resource_cmp resource requests

-- a queue: the numbers of transactions, and the modes that they ask for
abbrev pub Queue : Type 0
Queue = List (ℕ × Mode)

-- the request of a transaction for this resource, if it has one, before those of the others
abbrev pub asks : ℕ → Option Mode → Queue → Queue
asks number None queue = queue
asks number (Some mode) queue = (number, mode) ∷ queue

-- the queue of a resource: the requests on it, in order
abbrev pub queue : Resource → List Waiting → Queue
queue resource [] = []
queue resource (w ∷ ws) = asks w.no (mode_on resource w.plan) (queue resource ws)

-- what is granted of a queue: its longest front whose members are compatible with each other, and with what is held
abbrev pub granted_beside : List Mode → Queue → Queue
granted_beside held [] = []
granted_beside held (q ∷ qs) =
    if list_all (λ h. are_compatible h q.1) held then q ∷ granted_beside (q.1 ∷ held) qs else []

-- what is granted of a queue: its longest front whose members go together
abbrev pub granted : Queue → Queue
granted queue = granted_beside [] queue

abbrev pub has_number : ℕ → Queue → Bool
has_number number queue = list_any (λ q. q.0 == number) queue
