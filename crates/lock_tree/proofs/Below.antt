-- Transactions that are ready.
use Rattle.std.proofs.Common.{◌≡◌, ℕ, true, List, Option, None, Some, is_some, refl}
use Rattle.coarsen.specs.Subtrees.{Requests}
use Rattle.lock_tree.specs.Locks.{Waiting, plan_of}
use Rattle.lock_tree.specs.Ready.{ready, all_granted}

some_plan : (ws : List Waiting) (k : ℕ) (o : Option Requests) → all_granted ws k o ≡ true → is_some o ≡ true
some_plan ws k None h = absurd (cc)
some_plan ws k (Some plan) h = refl

-- who is ready is there
pub ready_there : (ws : List Waiting) (k : ℕ) → ready ws k ≡ true → is_some (plan_of ws k) ≡ true
ready_there ws k h = some_plan ws k (plan_of ws k) h
