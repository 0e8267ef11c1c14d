-- Claimed: what contracts promise to a reader rests on these words.
-- Tests of numbers and of texts.
use Rattle.std.specs.Prelude.{ℕ, ℤ, int_lt, int_le, Bool, not, List}
use Rattle.std.specs.Ordering.{int_eq}
use Rattle.std.specs.Str.{bytes_eq}
use Rattle.proclang_types.specs.declared.operator.Comparison.{Comparison}
use Rattle.proclang_types.specs.declared.operator.Comparison.TheVariants as ints
use Rattle.proclang_types.specs.declared.operator.Equality.{Equality}
use Rattle.proclang_types.specs.declared.operator.Equality.TheVariants as texts

-- rule: expression.less
-- the tests of two numbers
abbrev pub compare : Comparison → ℤ → ℤ → Bool
compare ints.Equal x y = int_eq x y
compare ints.Unequal x y = not (int_eq x y)
compare ints.Less x y = int_lt x y
compare ints.AtMost x y = int_le x y

-- rule: expression.equal
-- texts are compared byte by byte
abbrev pub compare_bytes : Equality → List ℕ → List ℕ → Bool
compare_bytes texts.Equal s t = bytes_eq s t
compare_bytes texts.Unequal s t = not (bytes_eq s t)
