-- Of the code: invariants and steps; no promise rests on these words.
-- The places of transactions.
use Rattle.std.specs.Prelude.{ℕ, ◌+◌, ◌==◌, if◌then◌else◌, List, [], ◌∷◌, Option, Some, None, option_map}
use Rattle.lock_tree.specs.Locks.{Waiting}

-- the place of the transaction with a number
abbrev pub place_numbered : ℕ → List Waiting → Option ℕ
place_numbered number [] = None
place_numbered number (w ∷ ws) = if w.no == number then Some 0 else option_map (λ n. n + 1) (place_numbered number ws)
