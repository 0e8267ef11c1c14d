-- Claimed: what contracts promise to a reader rests on these words.
-- The numbers of the abort codes.
use Rattle.std.specs.Prelude.{ℕ}
use Rattle.footprint.specs.declared.abort_code.AbortCode.{AbortCode}
use Rattle.footprint.specs.declared.abort_code.AbortCode.TheVariants.{NoRow, DuplicateRow, Overflow, DivisionByZero, BadKey, BadPart, TooLong, Budget, Uncovered, Own}

-- the number of an abort: 1 to 9 for the language's own, and for a procedure's own the number that it gives
abbrev pub number_of : AbortCode → ℕ
number_of NoRow = 1
number_of DuplicateRow = 2
number_of Overflow = 3
number_of DivisionByZero = 4
number_of BadKey = 5
number_of BadPart = 6
number_of TooLong = 7
number_of Budget = 8
number_of Uncovered = 9
number_of (Own number) = number
