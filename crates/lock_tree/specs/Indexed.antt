-- Of the code: invariants and steps; no promise rests on these words.
-- Transactions under their numbers, with the numbers of the open ones.
use Rattle.std.specs.Prelude.{◌≡◌, ◌≤◌, ◌<◌, ⊤, ℕ, List, [], ◌∷◌, length, Some, slice_index_or}
use Rattle.std.specs.VecDeque.{deque_capacity}
use Rattle.lock_tree.specs.Entered.{Enqueued}
use Rattle.lock_tree.specs.declared.transactions.Transactions.{Transactions}
use Rattle.lock_tree.specs.Locks.{IsRising}
use Rattle.lock_tree.specs.Placing.{place_numbered}
use Rattle.lock_tree.specs.Views.{all_waiting, enqueued}
use Rattle.lock_tree.specs.Open.{open_of}

-- each transaction is under its own number
abbrev pub AreNamed : List (ℕ × Enqueued) → Type 0
AreNamed [] = ⊤
AreNamed (e ∷ es) = (e.0 ≡ e.1.no) × AreNamed es

-- numbers rise, each transaction is found by its own, the open ones are noted, and there is room to note all
pub record IsIndexed (t : Transactions) : Type 0 where
  pub rising : IsRising (all_waiting (enqueued t))
  pub named : AreNamed t.entries.entries
  pub open_ones : t.open.items ≡ open_of (enqueued t)
  pub room : length (enqueued t) ≤ deque_capacity t.open

-- the number of one more transaction can be noted
pub record HasPlace (t : Transactions) : Type 0 where
  pub open_ones : length (enqueued t) < deque_capacity t.open

-- the one with a number is at its place
pub record IsFound (es : List Enqueued) (number : ℕ) (e : Enqueued) : Type 0 where
  pub place : ℕ
  pub exact : place_numbered number (all_waiting es) ≡ Some place
  pub within : place < length es
  pub there : e ≡ slice_index_or es place e
