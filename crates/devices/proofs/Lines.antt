-- The lines of a text, one at a time.
use Rattle.std.proofs.Common.{◌≡◌, ◌⊎◌, ℕ, ◌+◌, ◌<◌, List, [], ◌∷◌, ◌++◌, length, append_assoc, Bool, true, false, ◌||◌, cond, refl, ◌∙◌, ap, arith, inl, inr}
use Rattle.std.specs.List.{All}
use Rattle.std.proofs.lemmas.Bool.{eqb-true}
use Rattle.std.proofs.lemmas.List.Elements.{All-nil, All-cons, All-head, All-tail}
use Rattle.std.proofs.lemmas.List.Sums.{sum_by-append}
use Rattle.devices.specs.Lines.{has_newline, is_newline, joined, lines_of, newline, newlines_in, next_number, numbered_lines, onto_first}

-- ---- texts without a newline

pub first_not : (b : ℕ) (rest : List ℕ) → has_newline (b ∷ rest) ≡ false → is_newline b ≡ false
first_not b rest h = elim (is_newline b) as (λ v. (v || has_newline rest) ≡ false → v ≡ false) [ true ↦ λ e. e | false ↦ λ e. refl ] h

pub rest_not : (b : ℕ) (rest : List ℕ) → has_newline (b ∷ rest) ≡ false → has_newline rest ≡ false
rest_not b rest h = elim (is_newline b) as (λ v. (v || has_newline rest) ≡ false → has_newline rest ≡ false) [ true ↦ λ e. cc | false ↦ λ e. e ] h

pub has_newline-append : (line piece : List ℕ) → has_newline line ≡ false → has_newline piece ≡ false → has_newline (line ++ piece) ≡ false
has_newline-append [] piece h e = e
has_newline-append (x ∷ xs) piece h e = rw (first_not x xs h, has_newline-append xs piece (rest_not x xs h) e) refl

pub newlines_in-line : (line : List ℕ) → has_newline line ≡ false → newlines_in line ≡ 0
newlines_in-line [] h = refl
newlines_in-line (b ∷ rest) h = rw (first_not b rest h, newlines_in-line rest (rest_not b rest h)) refl

-- ---- a line and what follows it

pub lines_of-newline : (line rest : List ℕ) → has_newline line ≡ false → lines_of (line ++ newline ∷ rest) ≡ line ∷ lines_of rest
lines_of-newline [] rest h = refl
lines_of-newline (b ∷ line) rest h = rw (first_not b line h, lines_of-newline line rest (rest_not b line h)) refl

pub lines_of-last : (b : ℕ) (line : List ℕ) → has_newline (b ∷ line) ≡ false → lines_of (b ∷ line) ≡ (b ∷ line) ∷ []
lines_of-last b [] h = rw (first_not b [] h) refl
lines_of-last b (x ∷ line) h = rw (first_not b (x ∷ line) h, lines_of-last x line (rest_not b (x ∷ line) h)) refl

pub newlines_in-newline : (line : List ℕ) → has_newline line ≡ false → newlines_in (line ++ newline ∷ []) ≡ 1
newlines_in-newline line h = sum_by-append (λ b. cond (is_newline b) 1 0) line (newline ∷ []) ∙ ap (λ n. n + 1) (newlines_in-line line h)

pub numbered_lines-newline : (n : ℕ) (line rest : List ℕ) → has_newline line ≡ false →
    numbered_lines n ((line ++ newline ∷ []) ++ rest) ≡ (next_number n, line) ∷ numbered_lines (next_number n) rest
numbered_lines-newline n line rest h = rw (append_assoc, lines_of-newline line rest h) refl

pub numbered_lines-last : (n : ℕ) (line : List ℕ) → has_newline line ≡ false → 0 < length line → numbered_lines n line ≡ (next_number n, line) ∷ []
numbered_lines-last n [] h some = absurd (omega arith)
numbered_lines-last n (b ∷ line) h some = rw (lines_of-last b line h) refl

-- ---- laws

abbrev IsLine : List ℕ → Type 0
IsLine line = has_newline line ≡ false

onto_first_whole : (b : ℕ) (lines : List (List ℕ)) → is_newline b ≡ false → All IsLine lines → All IsLine (onto_first b lines)
onto_first_whole b [] e h = All-cons IsLine (b ∷ []) [] (rw e refl) (All-nil IsLine)
onto_first_whole b (line ∷ lines) e h = All-cons IsLine (b ∷ line) lines (rw (e, All-head IsLine line lines h) refl) (All-tail IsLine line lines h)

cut_whole : (b : ℕ) (v : Bool) (lines : List (List ℕ)) → is_newline b ≡ v → All IsLine lines → All IsLine (cond v ([] ∷ lines) (onto_first b lines))
cut_whole b true lines e h = All-cons IsLine [] lines refl h
cut_whole b false lines e h = onto_first_whole b lines e h

pub lines_of_whole : (text : List ℕ) → All (λ line. has_newline line ≡ false) (lines_of text)
lines_of_whole [] = All-nil IsLine
lines_of_whole (b ∷ rest) = cut_whole b (is_newline b) (lines_of rest) refl (lines_of_whole rest)

pub lines_of-joined : (lines : List (List ℕ)) → All (λ line. has_newline line ≡ false) lines → lines_of (joined lines) ≡ lines
lines_of-joined [] h = refl
lines_of-joined (line ∷ lines) h =
    rw (append_assoc, lines_of-newline line (joined lines) (All-head IsLine line lines h), lines_of-joined lines (All-tail IsLine line lines h)) refl

-- a text joined is the text itself, or the text and a newline
abbrev Keeps : List ℕ → List ℕ → Type 0
Keeps whole text = (whole ≡ text) ⊎ (whole ≡ text ++ newline ∷ [])

more_kept : (b : ℕ) (whole text : List ℕ) → Keeps whole text → Keeps (b ∷ whole) (b ∷ text)
more_kept b whole text (inl e) = inl (ap (λ l. b ∷ l) e)
more_kept b whole text (inr e) = inr (ap (λ l. b ∷ l) e)

onto_first_kept : (b : ℕ) (lines : List (List ℕ)) (rest : List ℕ) → Keeps (joined lines) rest → Keeps (joined (onto_first b lines)) (b ∷ rest)
onto_first_kept b [] [] h = inr refl
onto_first_kept b [] (x ∷ rest) (inl e) = cc
onto_first_kept b [] (x ∷ rest) (inr e) = cc
onto_first_kept b (line ∷ lines) rest h = more_kept b (joined (line ∷ lines)) rest h

cut_kept : (b : ℕ) (v : Bool) (lines : List (List ℕ)) (rest : List ℕ) → is_newline b ≡ v → Keeps (joined lines) rest →
    Keeps (joined (cond v ([] ∷ lines) (onto_first b lines))) (b ∷ rest)
cut_kept b true lines rest e h = rw (eqb-true b newline e) (more_kept newline (joined lines) rest h)
cut_kept b false lines rest e h = onto_first_kept b lines rest h

pub joined-lines_of : (text : List ℕ) → (joined (lines_of text) ≡ text) ⊎ (joined (lines_of text) ≡ text ++ newline ∷ [])
joined-lines_of [] = inl refl
joined-lines_of (b ∷ rest) = cut_kept b (is_newline b) (lines_of rest) rest refl (joined-lines_of rest)
