-- Where a reader of lines stands after one call and another.
use Rattle.std.proofs.Common.{◌≡◌, ℕ, ◌+◌, ◌<◌, List, [], ◌∷◌, ◌++◌, append-nil, length, Bool, true, false, cond, Option, None, Some, inl, inr, refl, sym, ◌∙◌, ap, arith}
use Rattle.std.proofs.lemmas.List.Sums.{sum_by-append}
use Rattle.std.specs.Io.KnownBytes.{Consumes}
use Rattle.std.proofs.KnownBytes.{Consumes-nil, Consumes-trans}
use Rattle.devices.specs.Devices.{Passes}
use Rattle.devices.specs.Lines.{is_newline, line_number, lines_of, newlines_in, onto_first}
use Rattle.devices.specs.LineReader.{LosesLine, Position, position_after, TakesLine}
use Rattle.batch_log.specs.Moves.{Moves}

-- ---- lines of two texts

length-onto_first : (b : ℕ) (lines : List (List ℕ)) → 0 < length lines → length (onto_first b lines) ≡ length lines
length-onto_first b [] h = absurd (omega arith)
length-onto_first b (line ∷ lines) h = refl

after_none : (n : ℕ) → n ≡ 0 + n
after_none n = omega arith

cut_lines : (b : ℕ) (v : Bool) (lines : List (List ℕ)) → 0 < length lines → length (cond v ([] ∷ lines) (onto_first b lines)) ≡ cond v 1 0 + length lines
cut_lines b true lines h = omega arith
cut_lines b false lines h = length-onto_first b lines h ∙ after_none (length lines)

some_lines : (b : ℕ) (rest : List ℕ) → 0 < length (lines_of (b ∷ rest))
some_lines b rest = elim (is_newline b) as (λ v. 0 < length (cond v ([] ∷ lines_of rest) (onto_first b (lines_of rest)))) [ true ↦ omega arith | false ↦ some_onto b (lines_of rest) ]
  where
    some_onto : (x : ℕ) (lines : List (List ℕ)) → 0 < length (onto_first x lines)
    some_onto x [] = omega arith
    some_onto x (line ∷ lines) = omega arith

newlines_first : (x : ℕ) (xs : List ℕ) → newlines_in (x ∷ xs) ≡ cond (is_newline x) 1 0 + newlines_in xs
newlines_first x xs = sum_by-append (λ b. cond (is_newline b) 1 0) (x ∷ []) xs ∙ ap (λ n. n + newlines_in xs) (sym (after_none (cond (is_newline x) 1 0)))

length-lines_of : (xs : List ℕ) (y : ℕ) (ys : List ℕ) → length (lines_of (xs ++ y ∷ ys)) ≡ newlines_in xs + length (lines_of (y ∷ ys))
length-lines_of [] y ys = after_none (length (lines_of (y ∷ ys)))
length-lines_of (x ∷ xs) y ys =
    let rest = length-lines_of xs y ys in
    let some : 0 < length (lines_of (xs ++ y ∷ ys)) = rw rest (some_sum (newlines_in xs) (length (lines_of (y ∷ ys))) (some_lines y ys)) in
    let one = cut_lines x (is_newline x) (lines_of (xs ++ y ∷ ys)) some in
    rw (newlines_first x xs) (sum_of (cond (is_newline x) 1 0) (newlines_in xs) (length (lines_of (y ∷ ys))) (length (lines_of (xs ++ y ∷ ys))) (length (lines_of (x ∷ xs ++ y ∷ ys))) one rest)
  where
    some_sum : (a b : ℕ) → 0 < b → 0 < a + b
    some_sum a b h = omega arith

    sum_of : (a b c d e : ℕ) → e ≡ a + d → d ≡ b + c → e ≡ (a + b) + c
    sum_of a b c d e p q = omega arith

-- ---- one position and another

number_twice : (n a b : ℕ) → line_number (line_number (n + a) + b) ≡ line_number (n + (a + b))
number_twice n a b = omega arith

abbrev place : ℕ → ℕ → Position
place newlines begun = record { newlines = newlines; begun = begun }

place_same : (a b c d : ℕ) → a ≡ c → b ≡ d → place a b ≡ place c d
place_same a b c d e f = rw (e, f) refl

position_trans : (p : Position) (xs ys : List ℕ) → position_after (position_after p xs) ys ≡ position_after p (xs ++ ys)
position_trans p [] ys = refl
position_trans p (x ∷ xs) [] = ap (λ l. position_after p l) (sym (append-nil (x ∷ xs)))
position_trans p (x ∷ xs) (y ∷ ys) =
    place_same (line_number (line_number (p.newlines + newlines_in (x ∷ xs)) + newlines_in (y ∷ ys)))
    (line_number (line_number (p.newlines + newlines_in (x ∷ xs)) + length (lines_of (y ∷ ys))))
    (line_number (p.newlines + newlines_in (x ∷ xs ++ y ∷ ys)))
    (line_number (p.newlines + length (lines_of (x ∷ xs ++ y ∷ ys))))
    (number_twice p.newlines (newlines_in (x ∷ xs)) (newlines_in (y ∷ ys)) ∙ ap (λ n. line_number (p.newlines + n)) (sym (sum_by-append (λ b. cond (is_newline b) 1 0) (x ∷ xs) (y ∷ ys))))
    (number_twice p.newlines (newlines_in (x ∷ xs)) (length (lines_of (y ∷ ys))) ∙ ap (λ n. line_number (p.newlines + n)) (sym (length-lines_of (x ∷ xs) y ys)))

-- ---- calls

pub Moves-none : (a : Option (List ℕ)) (p : Position) → Moves a a p p
Moves-none a p = record { bytes = []; takes = (Consumes-nil a, refl) }

pub Moves-trans : (a b c : Option (List ℕ)) (p q r : Position) → Moves a b p q → Moves b c q r → Moves a c p r
Moves-trans a b c p q r m n = record {
  bytes = m.bytes ++ n.bytes;
  takes = (
    Consumes-trans a b c m.bytes n.bytes m.takes.0 n.takes.0,
    n.takes.1 ∙ ap (λ x. position_after x n.bytes) m.takes.1 ∙ position_trans p m.bytes n.bytes,
  );
}

pub Moves-line : (a b : Option (List ℕ)) (p q : Position) (bare : Bool) (line : List ℕ) → TakesLine a b p q bare line → Moves a b p q
Moves-line a b p q bare line t = elim t.1 [ inl takes ↦ record { bytes = _; takes = takes.1 } | inr last ↦ record { bytes = line; takes = last.2 } ]

pub Moves-lost : (a b : Option (List ℕ)) (p q : Position) → LosesLine a b p q → Moves a b p q
Moves-lost a b p q t = record { bytes = t.0; takes = t.2 }

consumes_none : (a b : Option (List ℕ)) → Passes (λ xs ys. (xs ≡ []) × (ys ≡ [])) a b → Consumes a b []
unfolding Passes
consumes_none None b h = tt
consumes_none (Some x) None h = absurd h
consumes_none (Some x) (Some y) h = h.0 ∙ sym h.1

pub Moves-end : (a b : Option (List ℕ)) (p q : Position) → Passes (λ xs ys. (xs ≡ []) × (ys ≡ [])) a b → q ≡ p → Moves a b p q
Moves-end a b p q h e = record { bytes = []; takes = (consumes_none a b h, e) }
