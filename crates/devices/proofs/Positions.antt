-- Where a reader stands after it took bytes.
use Rattle.std.proofs.Common.{◌≡◌, ℕ, ◌+◌, ◌<◌, ◌^◌, List, [], ◌∷◌, ◌++◌, length, Bool, true, false, Option, refl, sym, ◌∙◌, ap, arith, inl, inr, length-append}
use Rattle.std.specs.Io.KnownBytes.{Consumes, IsAtEnd, Keeps}
use Rattle.std.proofs.KnownBytes.{Consumes-kept}
use Rattle.devices.specs.Devices.{Passes}
use Rattle.devices.specs.Lines.{has_newline, line_number, lines_of, newline, newlines_in, next_number, numbered_lines}
use Rattle.devices.specs.LineReader.{LosesLine, Position, position_after, Takes, TakesLine}
use Rattle.devices.proofs.Lines.{has_newline-append, lines_of-last, lines_of-newline, newlines_in-line, newlines_in-newline, numbered_lines-last, numbered_lines-newline}
use Rattle.devices.proofs.Passing.{Passes-from_consumes, Passes-at_end}

length-lines_of-newline : (line : List ℕ) → has_newline line ≡ false → length (lines_of (line ++ newline ∷ [])) ≡ 1
length-lines_of-newline line h = ap length (lines_of-newline line [] h)

number_same : (n : ℕ) → n < 2 ^ 64 → line_number (n + 0) ≡ n
number_same n h = omega arith

after_some : (p : Position) (b : ℕ) (rest : List ℕ) (m k : ℕ) → newlines_in (b ∷ rest) ≡ m → length (lines_of (b ∷ rest)) ≡ k →
    position_after p (b ∷ rest) ≡ record { newlines = line_number (p.newlines + m); begun = line_number (p.newlines + k) }
after_some p b rest m k e f = rw (e, f) refl

pub after_newline : (p : Position) (line : List ℕ) → has_newline line ≡ false →
    position_after p (line ++ newline ∷ []) ≡ record { newlines = next_number p.newlines; begun = next_number p.newlines }
after_newline p [] h = refl
after_newline p (b ∷ line) h = after_some p b (line ++ newline ∷ []) 1 1 (newlines_in-newline (b ∷ line) h) (length-lines_of-newline (b ∷ line) h)

after_none : (p q : Position) (line : List ℕ) → has_newline line ≡ false → p.newlines < 2 ^ 64 →
    (length line ≡ 0 → q.begun ≡ p.begun) → (0 < length line → q.begun ≡ next_number p.newlines) → record { newlines = p.newlines; begun = q.begun } ≡ position_after p line
after_none p q [] h small none some = rw (none refl) refl
after_none p q (b ∷ line) h small none some =
    let e = after_some p b line 0 1 (newlines_in-line (b ∷ line) h) (ap length (lines_of-last b line h)) in
    let f : q.begun ≡ next_number p.newlines = some (omega arith) in
    rw (e, f, number_same p.newlines small) refl

pub after_line : (p q : Position) (line : List ℕ) → has_newline line ≡ false → p.newlines < 2 ^ 64 → q.newlines ≡ p.newlines →
    (length line ≡ 0 → q.begun ≡ p.begun) → (0 < length line → q.begun ≡ next_number p.newlines) → q ≡ position_after p line
after_line p q line h small same none some =
    let at : ℕ → Position = λ n. record { newlines = n; begun = q.begun } in
    ap at same ∙ after_none p q line h small none some

-- ---- what a call of the reader takes

pub line_taken : (a c : Option (List ℕ)) (p : Position) (line : List ℕ) (m k : ℕ) → has_newline line ≡ false →
    Consumes a c (line ++ newline ∷ []) → m ≡ next_number p.newlines → k ≡ next_number p.newlines →
    TakesLine a c p (record { newlines = m; begun = k }) false line
line_taken a c p line m k h taken e f = (h, inl (refl, (taken, rw (e, f) (sym (after_newline p line h)))))

pub last_taken : (a m c : Option (List ℕ)) (p q : Position) (line : List ℕ) → has_newline line ≡ false → 0 < length line → p.newlines < 2 ^ 64 → q.newlines ≡ p.newlines →
    Consumes a m line → Keeps m c → IsAtEnd c → q.begun ≡ next_number p.newlines → TakesLine a c p q true line
last_taken a m c p q line h some small same first second end f =
    (h, inr (refl, some, (Consumes-kept a m c line first second, after_line p q line h small same (λ none. absurd (omega arith)) (λ _. f)), end))

pub line_lost : (a m c : Option (List ℕ)) (p q : Position) (line : List ℕ) → has_newline line ≡ false → p.newlines < 2 ^ 64 → q.newlines ≡ p.newlines →
    (length line ≡ 0 → q.begun ≡ p.begun) → (0 < length line → q.begun ≡ next_number p.newlines) → Consumes a m line → Keeps m c → LosesLine a c p q
line_lost a m c p q line h small same none some first second =
    (line, h, (Consumes-kept a m c line first second, after_line p q line h small same none some))

pub piece_lost : (a c : Option (List ℕ)) (p q : Position) (line piece : List ℕ) → has_newline line ≡ false → has_newline piece ≡ false → 0 < length piece → p.newlines < 2 ^ 64 →
    q.newlines ≡ p.newlines → Consumes a c (line ++ piece) → q.begun ≡ next_number p.newlines → LosesLine a c p q
piece_lost a c p q line piece h e some small same taken f =
    let whole = has_newline-append line piece h e in
    let more : 0 < length (line ++ piece) = simp length-append (omega arith) in
    (line ++ piece, whole, (taken, after_line p q (line ++ piece) whole small same (λ none. absurd (omega arith)) (λ _. f)))

-- ---- a line taken is the first of the lines that were left

numbered_newline : (a c : Option (List ℕ)) (p q : Position) (line : List ℕ) → has_newline line ≡ false → Takes a c p q (line ++ newline ∷ []) →
    Passes (λ xs ys. numbered_lines p.newlines xs ≡ (q.begun, line) ∷ numbered_lines q.newlines ys) a c
numbered_newline a c p q line h takes =
    let at : q ≡ record { newlines = next_number p.newlines; begun = next_number p.newlines } = takes.1 ∙ after_newline p line h in
    Passes-from_consumes _ a c (line ++ newline ∷ []) (λ ys. rw at (numbered_lines-newline p.newlines line ys h)) takes.0

numbered_last : (a c : Option (List ℕ)) (p q : Position) (line : List ℕ) → has_newline line ≡ false → 0 < length line → p.newlines < 2 ^ 64 → Takes a c p q line → IsAtEnd c →
    Passes (λ xs ys. numbered_lines p.newlines xs ≡ (q.begun, line) ∷ numbered_lines q.newlines ys) a c
numbered_last a c p q line h some small takes end =
    let at : q ≡ record { newlines = p.newlines; begun = next_number p.newlines } = takes.1 ∙ sym (after_line p (record { newlines = p.newlines; begun = next_number p.newlines }) line h small refl (λ none. absurd (omega arith)) (λ _. refl)) in
    Passes-at_end _ a c line (rw at (numbered_lines-last p.newlines line h some)) takes.0 end

pub numbered_of_line : (a c : Option (List ℕ)) (p q : Position) (bare : Bool) (line : List ℕ) → p.newlines < 2 ^ 64 → TakesLine a c p q bare line →
    Passes (λ xs ys. numbered_lines p.newlines xs ≡ (q.begun, line) ∷ numbered_lines q.newlines ys) a c
numbered_of_line a c p q bare line small t =
    elim t.1 [ inl takes ↦ numbered_newline a c p q line t.0 takes.1 | inr last ↦ numbered_last a c p q line t.0 last.1 small last.2 last.3 ]
