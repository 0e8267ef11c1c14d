-- Claimed: what contracts promise to a reader rests on these words.
-- The numbers that a loop goes through.
use Rattle.std.specs.Prelude.{ℕ, zero, suc, ℤ, pos, negsuc, ◌+ℤ◌, ◌-ℤ◌, List, [], ◌∷◌}

-- n numbers, one after another, from one on
abbrev pub numbers_from : ℕ → ℤ → List ℤ
numbers_from zero first = []
numbers_from (suc count) first = first ∷ numbers_from count (first +ℤ pos 1)

-- a number that is not negative, and 0 for one that is
abbrev pub or_zero : ℤ → ℕ
or_zero (pos n) = n
or_zero (negsuc n) = 0

-- the numbers from one to another, both included; none where the first is above the second
abbrev pub numbers_between : ℤ → ℤ → List ℤ
numbers_between low high = numbers_from (or_zero ((high +ℤ pos 1) -ℤ low)) low
