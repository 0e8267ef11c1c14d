-- Numbers that are less than the next one.
use Rattle.std.proofs.Common.{◌≡◌, ℕ, ◌+◌, ◌==◌, Bool, true, false, cond, List, [], ◌∷◌, ◌++◌, arith}
use Rattle.lock_tree.specs.Locks.{Waiting, without, with_mark}
use Rattle.lock_tree.specs.Enqueues.{AreBelow}
use Rattle.lock_tree.proofs.Places.{number_kept}

pub next : (n : ℕ) (ws : List Waiting) → AreBelow n ws → AreBelow (n + 1) ws
next n [] below = tt
next n (w ∷ ws) below = (let l = below.0 in omega (arith, l), next n ws below.1)

pub appended : (n : ℕ) (ws : List Waiting) (w : Waiting) → w.no ≡ n → AreBelow n ws → AreBelow (n + 1) (ws ++ w ∷ [])
appended n [] w is below = (omega (arith, is), tt)
appended n (v ∷ ws) w is below = (let l = below.0 in omega (arith, l), appended n ws w is below.1)

pub marked : (n k : ℕ) (m : Bool) (ws : List Waiting) → AreBelow n ws → AreBelow n (with_mark k m ws)
marked n k m [] below = tt
marked n k m (w ∷ ws) below = (let l = below.0 in let e = number_kept (w.no == k) w m in omega (arith, l, e), marked n k m ws below.1)

pub removed : (n k : ℕ) (ws : List Waiting) → AreBelow n ws → AreBelow n (without k ws)
removed n k [] below = tt
removed n k (w ∷ ws) below = elim (w.no == k) as (λ v. AreBelow n (cond v (without k ws) (w ∷ without k ws))) [
  | true ↦ removed n k ws below.1
  | false ↦ (below.0, removed n k ws below.1)
]
