-- Of the code: invariants and steps; no promise rests on these words.
-- Going through the numbers of a loop one by one.
use Rattle.std.specs.Prelude.{ℤ, pos, ◌+ℤ◌, int_lt, int_le, List, [], ◌∷◌, Option, None, Some, if◌then◌else◌}
use Rattle.meaning.specs.Turns.{numbers_between}

abbrev pub first_number : ℤ → ℤ → Option ℤ
first_number low high = if int_le low high then Some low else None

abbrev pub number_after : ℤ → ℤ → Option ℤ
number_after number last = if int_lt number last then Some (number +ℤ pos 1) else None

-- the numbers that are left, up to the last: the next one, and those after it
abbrev pub numbers_left : Option ℤ → ℤ → List ℤ
numbers_left None last = []
numbers_left (Some number) last = number ∷ numbers_between (number +ℤ pos 1) last
