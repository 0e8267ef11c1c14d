-- Of the code: invariants and steps; no promise rests on these words.
-- Which transactions are in a lock tree.
use Rattle.std.specs.Prelude.{◌≡◌, ℕ, Bool, true, false, List, length, IsSome, slice_index_or}
use Rattle.lock_tree.specs.Locks.{Waiting, plan_of}
use Rattle.lock_tree.specs.Enqueues.{AreBelow}

-- those that are said to be there are, and none has a greater number than there are
pub record IsCrowd (there : List Bool) (waiting : List Waiting) : Type 0 where
  pub known : (n : ℕ) → slice_index_or there n false ≡ true → IsSome (plan_of waiting n)
  pub below : AreBelow (length there) waiting
