-- Claimed: what contracts promise to a reader rests on these words.
-- The lines of a text, and their numbers.
use Rattle.std.specs.Prelude.{◌≡◌, ℕ, ◌+◌, ◌-◌, ◌^◌, ◌==◌, ◌⊎◌, min, List, [], ◌∷◌, ◌++◌, count_by, Bool, false, if◌then◌else◌}
use Rattle.std.specs.List.{All, flat_map, list_any}

-- the code of a newline
abbrev pub newline : ℕ
newline = 10

abbrev pub is_newline : ℕ → Bool
is_newline b = b == newline

-- some byte of the text is a newline
abbrev pub has_newline : List ℕ → Bool
has_newline text = list_any is_newline text

-- how many bytes of the text are newlines
abbrev pub newlines_in : List ℕ → ℕ
newlines_in text = count_by is_newline text

-- a byte goes onto the first line of what follows it
abbrev pub onto_first : ℕ → List (List ℕ) → List (List ℕ)
onto_first b [] = (b ∷ []) ∷ []
onto_first b (line ∷ lines) = (b ∷ line) ∷ lines

-- the text cut at each newline; a rest after the last newline is a line if it isn't empty
abbrev pub lines_of : List ℕ → List (List ℕ)
lines_of [] = []
lines_of (b ∷ rest) = if is_newline b then [] ∷ lines_of rest else onto_first b (lines_of rest)

-- the lines, each with a newline after it
abbrev pub joined : List (List ℕ) → List ℕ
joined lines = flat_map (λ line. line ++ newline ∷ []) lines

-- ---- numbers of lines, which stop rising at 2^64 - 1

abbrev pub line_number : ℕ → ℕ
line_number n = min n (2 ^ 64 - 1)

-- the number of the next line
abbrev pub next_number : ℕ → ℕ
next_number n = line_number (n + 1)

-- the lines, each with its number, after a line of number n
abbrev pub numbered : ℕ → List (List ℕ) → List (ℕ × List ℕ)
numbered n [] = []
numbered n (line ∷ lines) = (next_number n, line) ∷ numbered (next_number n) lines

-- the lines of a text, each with its number, where n newlines come before the text
abbrev pub numbered_lines : ℕ → List ℕ → List (ℕ × List ℕ)
numbered_lines n text = numbered n (lines_of text)

-- ---- laws of `lines_of`

-- no line has a newline in it
abbrev pub LinesHaveNoNewline : Type 0
LinesHaveNoNewline = (text : List ℕ) → All (λ line. has_newline line ≡ false) (lines_of text)

-- whole lines that are joined are read back
abbrev pub JoinedAreReadBack : Type 0
JoinedAreReadBack =
    (lines : List (List ℕ)) → All (λ line. has_newline line ≡ false) lines → lines_of (joined lines) ≡ lines

-- the lines of a text, joined, are the text, but for a newline that it may lack at its end
abbrev pub LinesLoseNothing : Type 0
LinesLoseNothing = (text : List ℕ) → (joined (lines_of text) ≡ text) ⊎ (joined (lines_of text) ≡ text ++ newline ∷ [])
