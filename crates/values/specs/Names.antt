-- Claimed: what contracts promise to a reader rests on these words.
-- Names: 1 to 32 bytes, a lower-case letter, then lower-case letters, digits and `_`.
use Rattle.std.specs.Prelude.{ℕ, List, [], ◌∷◌, length, Bool, false, ◌&&◌, ◌||◌, ◌==◌, nat_le, nat_lt}
use Rattle.std.specs.List.{list_all}

-- a byte is a lower-case letter
abbrev pub is_lower : ℕ → Bool
is_lower b = nat_le 97 b && nat_le b 122

-- a byte is a digit
abbrev pub is_digit : ℕ → Bool
is_digit b = nat_le 48 b && nat_le b 57

-- a byte is a lower-case letter, a digit or `_`
abbrev pub is_name_byte : ℕ → Bool
is_name_byte b = is_lower b || (is_digit b || b == 95)

-- rule: name.form
-- a lower-case letter, then lower-case letters, digits and `_`: 1 to 32 bytes in all
abbrev pub is_name : List ℕ → Bool
is_name [] = false
is_name (b ∷ bs) = is_lower b && (nat_lt (length bs) 32 && list_all is_name_byte bs)
