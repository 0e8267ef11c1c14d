-- The content of a JSON string in UTF-8 is UTF-8.
use Rattle.std.proofs.Common.{◌≡◌, ℕ, suc, ◌+◌, ◌*◌, ◌<◌, ◌≤◌, ◌⊎◌, inl, inr, Bool, true, false, cond, ◌&&◌, ◌||◌, ◌==◌, nat_lt, nat_le, List, [], ◌∷◌, ◌++◌, length, drop, get_or, Option, Some, None, option_and_then, IfSome, refl, sym, ap, ◌∙◌, subst, arith, append_assoc, append-nil, length-append}
use Rattle.std.specs.Prelude.{⊤}
use Rattle.std.specs.Char.{digit_value, is_digit, encode_utf8}
use Rattle.std.specs.Str.{IsUtf8}
use Rattle.std.proofs.lemmas.Bool.{true≢false, and_from, and_parts, cases_lt, eqb-true, ltb-true, leb-true, le-leb, le-ltb, lt-ltb, ne_eqb}
use Rattle.std.proofs.lemmas.Str.{IsUtf8-append, IsUtf8-drop, IsUtf8-encode, IsUtf8-take, IsCharBoundary-after_ascii, IsCharBoundary-before_ascii, encode_ascii}
use lib.Utf8.{scalar, low_scalar}
use lib.Seq.{take_at, drop_at, get_or-append-add}
use Rattle.json.specs.Text.{code_unit, short_escape, is_high_surrogate, is_low_surrogate, surrogate_pair, Within, plain, after_backslash, after_u, after_high, prepend, content}

-- ---- a text beside one of its ASCII bytes

pub ascii_split : (pre : List ℕ) (x : ℕ) (xs : List ℕ) → x < 128 → IsUtf8 (pre ++ x ∷ xs) → IsUtf8 pre × IsUtf8 xs
ascii_split pre x xs low h =
    let n = length pre in
    let long : length (pre ++ x ∷ xs) ≡ n + suc (length xs) = length-append pre (x ∷ xs) in
    let none : n ≡ n + 0 = omega arith in
    let here : get_or (pre ++ x ∷ xs) n 0 ≡ x = ap (λ k. get_or (pre ++ x ∷ xs) k 0) none ∙ get_or-append-add pre (x ∷ xs) 0 0 in
    let inside : n < length (pre ++ x ∷ xs) = omega (arith, long) in
    let ascii : get_or (pre ++ x ∷ xs) n 0 < 128 = omega (arith, here, low) in
    let one : pre ++ x ∷ xs ≡ (pre ++ x ∷ []) ++ xs = sym (append_assoc pre (x ∷ []) xs) in
    let past : length (pre ++ x ∷ []) ≡ n + 1 = length-append pre (x ∷ []) in (
      subst IsUtf8 (take_at pre (x ∷ xs) n refl) (IsUtf8-take (pre ++ x ∷ xs) n h (IsCharBoundary-before_ascii (pre ++ x ∷ xs) n inside ascii)),
      subst IsUtf8 (ap (drop (n + 1)) one ∙ drop_at (pre ++ x ∷ []) xs (n + 1) past) (IsUtf8-drop (pre ++ x ∷ xs) (n + 1) h (IsCharBoundary-after_ascii (pre ++ x ∷ xs) n h inside ascii)),
    )

one_ascii : (c : ℕ) → c < 128 → IsUtf8 (c ∷ [])
one_ascii c low = subst IsUtf8 (encode_ascii c low) (IsUtf8-encode c (low_scalar c (omega arith)))

-- ---- escapes

pick : {A : Type 0} (P : A → Type 0) (b : Bool) (x y : Option A) → (b ≡ true → IfSome x P) → (b ≡ false → IfSome y P) → IfSome (cond b x y) P
pick P true x y f g = f refl
pick P false x y f g = g refl

-- two bytes below 128
record AreLow (x c : ℕ) : Type 0 where
  of : x < 128
  is : c < 128

short_is : (x : ℕ) → IfSome (short_escape x) (AreLow x)
unfolding short_escape
short_is x = by (cases_lt x 128)
  where
    not : (k : ℕ) → k < 128 → 128 ≤ x → x ≡ k → ⊥
    not k low high e = omega (arith, low, high, e)

    by : (x < 128) ⊎ (128 ≤ x) → IfSome (short_escape x) (AreLow x)
    by (inl low) =
        pick (AreLow x) ((x == 34) || (x == 92) || (x == 47)) _ _ (λ e. lows low) (λ e. pick (AreLow x) (x == 98) _ _ (λ e. lows (omega arith)) (λ e. pick (AreLow x) (x == 102) _ _ (λ e. lows (omega arith))
        (λ e. pick (AreLow x) (x == 110) _ _ (λ e. lows (omega arith)) (λ e. pick (AreLow x) (x == 114) _ _ (λ e. lows (omega arith)) (λ e. pick (AreLow x) (x == 116) _ _ (λ e. lows (omega arith)) (λ e. tt))))))
      where
        lows : {c : ℕ} → c < 128 → AreLow x c
        lows h = record { of = low; is = h }
    by (inr high) =
        rw (ne_eqb x 34 (not 34 (omega arith) high), ne_eqb x 92 (not 92 (omega arith) high), ne_eqb x 47 (not 47 (omega arith) high), ne_eqb x 98 (not 98 (omega arith) high), ne_eqb x 102 (not 102 (omega arith) high), ne_eqb x 110 (not 110 (omega arith) high), ne_eqb x 114 (not 114 (omega arith) high), ne_eqb x 116 (not 116 (omega arith) high)) tt

digit_low : (x : ℕ) → is_digit x 16 ≡ true → x < 128
digit_low x h = by (cases_lt x 128)
  where
    by : (x < 128) ⊎ (128 ≤ x) → x < 128
    by (inl low) = low
    by (inr high) =
        let none : is_digit x 16 ≡ false = rw (le-ltb x 48 (omega arith), le-ltb x 58 (omega arith), le-ltb x 65 (omega arith), le-ltb x 91 (omega arith), le-ltb x 97 (omega arith), le-ltb x 123 (omega arith)) refl in
        absurd (true≢false (sym h ∙ none))

-- four hexadecimal digits, and the unit that they spell
record IsUnit (a b c d u : ℕ) : Type 0 where
  first : a < 128
  second : b < 128
  third : c < 128
  fourth : d < 128
  few : u < 65536

unit_is : (a b c d : ℕ) → IfSome (code_unit a b c d) (IsUnit a b c d)
unfolding code_unit
unit_is a b c d = pick (IsUnit a b c d) _ _ _ (λ h. by h) (λ h. tt)
  where
    by : (is_digit a 16 && is_digit b 16 && is_digit c 16 && is_digit d 16) ≡ true → IsUnit a b c d (digit_value a * 4096 + digit_value b * 256 + digit_value c * 16 + digit_value d)
    by h =
        let p = and_parts (is_digit a 16 && is_digit b 16 && is_digit c 16) (is_digit d 16) h in
        let q = and_parts (is_digit a 16 && is_digit b 16) (is_digit c 16) p.0 in
        let r = and_parts (is_digit a 16) (is_digit b 16) q.0 in
        let va = ltb-true (digit_value a) 16 r.0 in
        let vb = ltb-true (digit_value b) 16 r.1 in
        let vc = ltb-true (digit_value c) 16 q.1 in
        let vd = ltb-true (digit_value d) 16 p.1 in
        record { first = digit_low a r.0; second = digit_low b r.1; third = digit_low c q.1; fourth = digit_low d p.1; few = below (digit_value a) (digit_value b) (digit_value c) (digit_value d) va vb vc vd }
      where
        below : (i j k l : ℕ) → i < 16 → j < 16 → k < 16 → l < 16 → i * 4096 + j * 256 + k * 16 + l < 65536
        below i j k l p q r s = omega arith

alone : (u : ℕ) → u < 65536 → is_high_surrogate u ≡ false → is_low_surrogate u ≡ false → scalar u ≡ true
alone u few high low = by (cases_lt u 55296) (cases_lt u 56320) (cases_lt u 57344)
  where
    by : (u < 55296) ⊎ (55296 ≤ u) → (u < 56320) ⊎ (56320 ≤ u) → (u < 57344) ⊎ (57344 ≤ u) → scalar u ≡ true
    by (inl l) y z = low_scalar u l
    by (inr g) (inl l) z = absurd (true≢false (sym (and_from _ _ (le-leb 55296 u g) (lt-ltb u 56320 l)) ∙ high))
    by (inr g) (inr k) (inl l) = absurd (true≢false (sym (and_from _ _ (le-leb 56320 u k) (lt-ltb u 57344 l)) ∙ low))
    by (inr g) (inr k) (inr m) = rw (le-ltb u 55296 g, le-leb 57344 u m, lt-ltb u 1114112 (omega arith)) refl

paired : (h l : ℕ) → is_high_surrogate h ≡ true → is_low_surrogate l ≡ true → scalar (surrogate_pair h l) ≡ true
paired h l high low =
    let p = and_parts (nat_le 55296 h) (nat_lt h 56320) high in
    let q = and_parts (nat_le 56320 l) (nat_lt l 57344) low in
    let a = leb-true 55296 h p.0 in
    let b = ltb-true h 56320 p.1 in
    let c = leb-true 56320 l q.0 in
    let d = ltb-true l 57344 q.1 in
    let u : ℕ = surrogate_pair h l in
    rw (le-ltb u 55296 (omega arith), le-leb 57344 u (omega arith), lt-ltb u 1114112 (omega arith)) refl

-- ---- content

-- what there is of a content after some bytes of a text
abbrev Good : List ℕ → Option (List ℕ) → Type 0
Good pre None = ⊤
Good pre (Some s) = IsUtf8 (pre ++ s)

-- bytes, and what is read after them: a plain place may lie within a character
abbrev Before : Within → List ℕ → List ℕ → Type 0
Before plain pre xs = IsUtf8 (pre ++ xs)
Before after_backslash pre xs = IsUtf8 pre × IsUtf8 xs
Before after_u pre xs = IsUtf8 pre × IsUtf8 xs
Before (after_high h) pre xs = IsUtf8 pre × IsUtf8 xs × (is_high_surrogate h ≡ true)

both : (pre : List ℕ) (b : Bool) (x y : Option (List ℕ)) → (b ≡ true → Good pre x) → (b ≡ false → Good pre y) → Good pre (cond b x y)
both pre true x y f g = f refl
both pre false x y f g = g refl

then : (pre : List ℕ) (P : ℕ → Type 0) (f : ℕ → Option (List ℕ)) (o : Option ℕ) → IfSome o P → ((u : ℕ) → P u → Good pre (f u)) → Good pre (option_and_then f o)
then pre P f None p h = tt
then pre P f (Some u) p h = h u p

longer : (pre a : List ℕ) (r : Option (List ℕ)) → Good (pre ++ a) r → Good pre (prepend a r)
longer pre a None h = tt
longer pre a (Some s) h = subst IsUtf8 (append_assoc pre a s) h

past_four : (a b c d : ℕ) (xs : List ℕ) → a < 128 → b < 128 → c < 128 → d < 128 → IsUtf8 (a ∷ b ∷ c ∷ d ∷ xs) → IsUtf8 xs
past_four a b c d xs p q r s h = (ascii_split [] d xs s (ascii_split [] c (d ∷ xs) r (ascii_split [] b (c ∷ d ∷ xs) q (ascii_split [] a (b ∷ c ∷ d ∷ xs) p h).1).1).1).1

is_low_byte : (x k : ℕ) → (x == k) ≡ true → k < 128 → x < 128
is_low_byte x k e low = let same : x ≡ k = eqb-true x k e in omega (arith, same, low)

pub content_utf8 : (w : Within) (pre xs : List ℕ) → Before w pre xs → Good pre (content w xs)
unfolding content
content_utf8 plain pre [] h = tt
content_utf8 plain pre (x ∷ xs) h =
    both pre (x == 34) _ _ (λ q. subst IsUtf8 (sym (append-nil pre)) (ascii_split pre x xs (is_low_byte x 34 q (omega arith)) h).0)
    (λ q. both pre (x == 92) _ _ (λ b. content_utf8 after_backslash pre xs (ascii_split pre x xs (is_low_byte x 92 b (omega arith)) h))
    (λ b. both pre (nat_lt x 32) _ _ (λ l. tt) (λ l. longer pre (x ∷ []) (content plain xs) (content_utf8 plain (pre ++ x ∷ []) xs (subst IsUtf8 (sym (append_assoc pre (x ∷ []) xs)) h)))))
content_utf8 after_backslash pre [] h = tt
content_utf8 after_backslash pre (x ∷ xs) h =
    both pre (x == 117) _ _ (λ u. content_utf8 after_u pre xs (h.0, (ascii_split [] x xs (is_low_byte x 117 u (omega arith)) h.1).1))
    (λ u. then pre (AreLow x) _ (short_escape x) (short_is x)
    (λ c f. longer pre (c ∷ []) (content plain xs) (content_utf8 plain (pre ++ c ∷ []) xs (IsUtf8-append (pre ++ c ∷ []) xs (IsUtf8-append pre (c ∷ []) h.0 (one_ascii c f.is)) (ascii_split [] x xs f.of h.1).1))))
content_utf8 after_u pre [] h = tt
content_utf8 after_u pre (a ∷ []) h = tt
content_utf8 after_u pre (a ∷ b ∷ []) h = tt
content_utf8 after_u pre (a ∷ b ∷ c ∷ []) h = tt
content_utf8 after_u pre (a ∷ b ∷ c ∷ d ∷ xs) h =
    then pre (IsUnit a b c d) _ (code_unit a b c d) (unit_is a b c d)
    (λ u f. let rest = past_four a b c d xs f.first f.second f.third f.fourth h.1 in
    both pre (is_high_surrogate u) _ _ (λ y. content_utf8 (after_high u) pre xs (h.0, rest, y))
    (λ y. both pre (is_low_surrogate u) _ _ (λ l. tt)
    (λ l. longer pre (encode_utf8 u) (content plain xs) (content_utf8 plain (pre ++ encode_utf8 u) xs
    (IsUtf8-append (pre ++ encode_utf8 u) xs (IsUtf8-append pre (encode_utf8 u) h.0 (IsUtf8-encode u (alone u f.few y l))) rest)))))
content_utf8 (after_high k) pre [] h = tt
content_utf8 (after_high k) pre (s ∷ []) h = tt
content_utf8 (after_high k) pre (s ∷ u ∷ []) h = tt
content_utf8 (after_high k) pre (s ∷ u ∷ a ∷ []) h = tt
content_utf8 (after_high k) pre (s ∷ u ∷ a ∷ b ∷ []) h = tt
content_utf8 (after_high k) pre (s ∷ u ∷ a ∷ b ∷ c ∷ []) h = tt
content_utf8 (after_high k) pre (s ∷ u ∷ a ∷ b ∷ c ∷ d ∷ xs) h =
    both pre ((s == 92) && (u == 117)) _ _
    (λ e. let heads = and_parts (s == 92) (u == 117) e in
    then pre (IsUnit a b c d) _ (code_unit a b c d) (unit_is a b c d)
    (λ l f. let rest = past_four a b c d xs f.first f.second f.third f.fourth (ascii_split [] u (a ∷ b ∷ c ∷ d ∷ xs) (is_low_byte u 117 heads.1 (omega arith)) (ascii_split [] s (u ∷ a ∷ b ∷ c ∷ d ∷ xs) (is_low_byte s 92 heads.0 (omega arith)) h.1).1).1 in
    both pre (is_low_surrogate l) _ _
    (λ y. longer pre (encode_utf8 (surrogate_pair k l)) (content plain xs) (content_utf8 plain (pre ++ encode_utf8 (surrogate_pair k l)) xs
    (IsUtf8-append (pre ++ encode_utf8 (surrogate_pair k l)) xs (IsUtf8-append pre (encode_utf8 (surrogate_pair k l)) h.0 (IsUtf8-encode (surrogate_pair k l) (paired k l h.2 y))) rest)))
    (λ y. tt)))
    (λ e. tt)

-- a string that begins after a quote of a text
pub string_utf8 : (xs s : List ℕ) → IsUtf8 xs → content plain xs ≡ Some s → IsUtf8 s
string_utf8 xs s h e = subst (Good []) e (content_utf8 plain [] xs h)
