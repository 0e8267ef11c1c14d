-- What is written for a character is read as that character, and the lexer passes over it.
use Rattle.std.proofs.Common.{◌≡◌, ℕ, ◌+◌, ◌-◌, ◌*◌, ◌/◌, ◌%◌, ◌<◌, ◌≤◌, ◌⊎◌, inl, inr, Bool, true, false, cond, ◌&&◌, leb, ltb, List, [], ◌∷◌, ◌++◌, Option, Some, None, option_and_then, refl, sym, ap, ap₂, ◌∙◌, subst, arith, append_assoc}
use Rattle.std.specs.Char.{digit_char, digit_value}
use Rattle.std.specs.Char.Escape.{encode_utf16, hex_digit_at}
use Rattle.std.specs.Int.{is_in_range}
use Rattle.std.specs.List.{flat_map}
use Rattle.std.specs.Str.{IsUtf8, chars}
use Rattle.std.proofs.lemmas.Bool.{and_parts, and_right, cases_eq, cases_lt, cond_above, cond_below, le-leb, le-ltb, lt-leb, lt-ltb, ne_eqb}
use Rattle.std.proofs.lemmas.Str.{digit_value-digit_char, encode_ascii, encodes-chars, scalars-chars}
use lib.Utf8.{scalar, scalars, scalar_cases, encode, encodes}
use Rattle.json.specs.Text.{code_unit, content, plain, after_high, is_high_surrogate, is_low_surrogate, prepend, short_escape, surrogate_pair}
use Rattle.json.specs.Token.{string}
use Rattle.json.specs.Word.{is_operator, is_space}
use Rattle.json.specs.Lex.{Lexeme, Mode, token, string_token, lex, lex_byte, between, in_string, operator, space, other}
use Rattle.rows_document.specs.Texts.{character_text, json_text, unit_text}

-- ---- hexadecimal digits

pub hex_below : (place c : ℕ) → c / place % 16 < 16
hex_below place c = omega arith

hex_not : (d : ℕ) → d < 16 → (digit_char d ≡ 34 → ⊥) × (digit_char d ≡ 92 → ⊥)
hex_not d h = by (cases_lt d 10)
  where
    by : (d < 10) ⊎ (10 ≤ d) → (digit_char d ≡ 34 → ⊥) × (digit_char d ≡ 92 → ⊥)
    by (inl few) = let is : 48 + d ≡ digit_char d = cond_below d 10 (48 + d) (87 + d) few in (λ z. omega arith, λ z. omega arith)
    by (inr many) = let is : 87 + d ≡ digit_char d = cond_above d 10 (48 + d) (87 + d) (87 + d) many refl in (λ z. omega arith, λ z. omega arith)

abbrev unit_by : ℕ → ℕ → ℕ → ℕ → Option ℕ
unit_by a b c d = cond (ltb a 16 && ltb b 16 && ltb c 16 && ltb d 16) (Some (a * 4096 + b * 256 + c * 16 + d)) None

unit_of : (a b c d : ℕ) → a < 16 → b < 16 → c < 16 → d < 16 → unit_by a b c d ≡ Some (a * 4096 + b * 256 + c * 16 + d)
unit_of a b c d p q r s = rw (lt-ltb a 16 p, lt-ltb b 16 q, lt-ltb c 16 r, lt-ltb d 16 s) refl

value_is : (d : ℕ) → d < 16 → digit_value (digit_char d) ≡ d
value_is d h = digit_value-digit_char d (omega arith)

code_unit_of : (a b c d : ℕ) → a < 16 → b < 16 → c < 16 → d < 16 → code_unit (digit_char a) (digit_char b) (digit_char c) (digit_char d) ≡ Some (a * 4096 + b * 256 + c * 16 + d)
unfolding code_unit
code_unit_of a b c d p q r s = (λ i. unit_by (value_is a p i) (value_is b q i) (value_is c r i) (value_is d s i)) ∙ unit_of a b c d p q r s

whole_unit : (u : ℕ) → u < 65536 → u / 4096 % 16 * 4096 + u / 256 % 16 * 256 + u / 16 % 16 * 16 + u / 1 % 16 ≡ u
whole_unit u h = omega arith

code_unit-unit : (u : ℕ) → u < 65536 → code_unit (hex_digit_at 4096 u) (hex_digit_at 256 u) (hex_digit_at 16 u) (hex_digit_at 1 u) ≡ Some u
code_unit-unit u h =
    code_unit_of (u / 4096 % 16) (u / 256 % 16) (u / 16 % 16) (u / 1 % 16) (hex_below 4096 u) (hex_below 256 u) (hex_below 16 u) (hex_below 1 u)
    ∙ ap (λ (v : ℕ). Some v) (whole_unit u h)

-- ---- a unit inside a string

content-unit : (u : ℕ) (r : List ℕ) → u < 65536
    → content plain (unit_text u ++ r) ≡ cond (is_high_surrogate u) (content (after_high u) r) (cond (is_low_surrogate u) None (prepend (encode u) (content plain r)))
unfolding content
content-unit u r h =
    ap (option_and_then (λ v. cond (is_high_surrogate v) (content (after_high v) r) (cond (is_low_surrogate v) None (prepend (encode v) (content plain r))))) (code_unit-unit u h)

content-low : (high low : ℕ) (r : List ℕ) → low < 65536 → is_low_surrogate low ≡ true → content (after_high high) (unit_text low ++ r) ≡ prepend (encode (surrogate_pair high low)) (content plain r)
unfolding content
content-low high low r h is =
    ap (option_and_then (λ v. cond (is_low_surrogate v) (prepend (encode (surrogate_pair high v)) (content plain r)) None)) (code_unit-unit low h)
    ∙ ap (λ b. cond b (prepend (encode (surrogate_pair high low)) (content plain r)) None) is

stays_inside : (o s : Bool) (x : ℕ) (r : List ℕ) (k : Mode → List Lexeme) → lex_byte in_string (cond o operator (cond s space other)) x r k ≡ k in_string
stays_inside true s x r k = refl
stays_inside false true x r k = refl
stays_inside false false x r k = refl

inside : (x : ℕ) (r : List ℕ) → (x ≡ 34 → ⊥) × (x ≡ 92 → ⊥) → lex in_string (x ∷ r) ≡ lex in_string r
unfolding lex
inside x r h = rw (ne_eqb x 34 h.0, ne_eqb x 92 h.1) (stays_inside (is_operator x) (is_space x) x r (λ m. lex m r))

digit_inside : (place u : ℕ) (r : List ℕ) → lex in_string (hex_digit_at place u ∷ r) ≡ lex in_string r
digit_inside place u r = inside (hex_digit_at place u) r (hex_not (u / place % 16) (hex_below place u))

unit_inside : (u : ℕ) (r : List ℕ) → lex in_string (unit_text u ++ r) ≡ lex in_string r
unfolding lex
unit_inside u r =
    digit_inside 4096 u (hex_digit_at 256 u ∷ hex_digit_at 16 u ∷ hex_digit_at 1 u ∷ r) ∙ digit_inside 256 u (hex_digit_at 16 u ∷ hex_digit_at 1 u ∷ r)
    ∙ digit_inside 16 u (hex_digit_at 1 u ∷ r) ∙ digit_inside 1 u r

-- ---- characters

-- what both readers make of what is written for a character
record Passes (c : ℕ) : Type 0 where
  read : (r : List ℕ) → content plain (character_text c ++ r) ≡ prepend (encode c) (content plain r)
  lexed : (r : List ℕ) → lex in_string (character_text c ++ r) ≡ lex in_string r

quote_passes : Passes 34
unfolding character_text content lex short_escape encode
quote_passes = record { read = λ r. refl; lexed = λ r. refl }

backslash_passes : Passes 92
unfolding character_text content lex short_escape encode
backslash_passes = record { read = λ r. refl; lexed = λ r. refl }

pub plain_is : (c : ℕ) → (c ≡ 34 → ⊥) × (c ≡ 92 → ⊥) → 32 ≤ c → c ≤ 126 → character_text c ≡ c ∷ []
unfolding character_text
plain_is c not low high = rw (ne_eqb c 34 not.0, ne_eqb c 92 not.1, le-leb 32 c low, le-leb c 126 high) refl

plain_read : (c : ℕ) (r : List ℕ) → (c ≡ 34 → ⊥) × (c ≡ 92 → ⊥) → 32 ≤ c → content plain (c ∷ r) ≡ prepend (c ∷ []) (content plain r)
unfolding content
plain_read c r not low = rw (ne_eqb c 34 not.0, ne_eqb c 92 not.1, le-ltb c 32 low) refl

plain_passes : (c : ℕ) → (c ≡ 34 → ⊥) × (c ≡ 92 → ⊥) → 32 ≤ c → c ≤ 126 → Passes c
plain_passes c not low high = record {
  read = λ r. ap (λ t. content plain (t ++ r)) (plain_is c not low high) ∙ plain_read c r not low ∙ ap (λ t. prepend t (content plain r)) (sym (encode_ascii c (omega arith)));
  lexed = λ r. ap (λ t. lex in_string (t ++ r)) (plain_is c not low high) ∙ inside c r not;
}

-- a character that is written as its units
pub escaped_is : (c : ℕ) → (c ≡ 34 → ⊥) × (c ≡ 92 → ⊥) → (c < 32) ⊎ (126 < c) → character_text c ≡ flat_map unit_text (encode_utf16 c)
unfolding character_text
escaped_is c not (inl low) = rw (ne_eqb c 34 not.0, ne_eqb c 92 not.1, lt-leb 32 c low) refl
escaped_is c not (inr high) =
    let out : is_in_range 32 126 c ≡ false = and_right (leb 32 c) (leb c 126) (lt-leb c 126 high) in
    rw (ne_eqb c 34 not.0, ne_eqb c 92 not.1, out) refl

pub one_unit : (c : ℕ) → c < 65536 → flat_map unit_text (encode_utf16 c) ≡ unit_text c
one_unit c h = rw (lt-ltb c 65536 h) refl

pub two_units : (c : ℕ) → 65536 ≤ c → flat_map unit_text (encode_utf16 c) ≡ unit_text (0xd800 + (c - 65536) / 1024) ++ unit_text (0xdc00 + (c - 65536) % 1024)
two_units c h = rw (le-ltb c 65536 h) refl

not_high : (c : ℕ) → (c < 55296) ⊎ (57344 ≤ c) → is_high_surrogate c ≡ false
not_high c (inl l) = ap (λ b. b && ltb c 56320) (lt-leb 55296 c l)
not_high c (inr g) = and_right _ (ltb c 56320) (le-ltb c 56320 (omega arith))

not_low : (c : ℕ) → (c < 55296) ⊎ (57344 ≤ c) → is_low_surrogate c ≡ false
not_low c (inl l) = ap (λ b. b && ltb c 57344) (lt-leb 56320 c (omega arith))
not_low c (inr g) = and_right _ (ltb c 57344) (le-ltb c 57344 g)

one_unit_read : (c : ℕ) (r : List ℕ) → c < 65536 → (c < 55296) ⊎ (57344 ≤ c) → content plain (unit_text c ++ r) ≡ prepend (encode c) (content plain r)
one_unit_read c r h out = content-unit c r h ∙ rw (not_high c out, not_low c out) refl

two_units_read : (c : ℕ) (r : List ℕ) → 65536 ≤ c → c < 1114112
    → content plain (unit_text (0xd800 + (c - 65536) / 1024) ++ (unit_text (0xdc00 + (c - 65536) % 1024) ++ r)) ≡ prepend (encode c) (content plain r)
two_units_read c r h below =
    let high : ℕ = 0xd800 + (c - 65536) / 1024 in
    let low : ℕ = 0xdc00 + (c - 65536) % 1024 in
    let is_high : is_high_surrogate high ≡ true = ap₂ (λ a b. a && b) (le-leb 0xd800 high (omega arith)) (lt-ltb high 0xdc00 (omega arith)) in
    let is_low : is_low_surrogate low ≡ true = ap₂ (λ a b. a && b) (le-leb 0xdc00 low (omega arith)) (lt-ltb low 0xe000 (omega arith)) in
    let pair : surrogate_pair high low ≡ c = omega arith in
    content-unit high (unit_text low ++ r) (omega arith)
    ∙ ap (λ b. cond b (content (after_high high) (unit_text low ++ r)) (cond (is_low_surrogate high) None (prepend (encode high) (content plain (unit_text low ++ r))))) is_high
    ∙ content-low high low r (omega arith) is_low ∙ ap (λ v. prepend (encode v) (content plain r)) pair

escaped_passes : (c : ℕ) → scalar c ≡ true → (c ≡ 34 → ⊥) × (c ≡ 92 → ⊥) → (c < 32) ⊎ (126 < c) → Passes c
escaped_passes c ok not out = by (cases_lt c 65536) (scalar_cases c ok)
  where
    by : (c < 65536) ⊎ (65536 ≤ c) → (c < 55296) ⊎ ((57344 ≤ c) × (c < 1114112)) → Passes c
    by (inl few) kind =
        let is = escaped_is c not out ∙ one_unit c few in
        let apart : (c < 55296) ⊎ (57344 ≤ c) = elim kind [ inl l ↦ inl l | inr g ↦ inr g.0 ] in
        record {
          read = λ r. ap (λ t. content plain (t ++ r)) is ∙ one_unit_read c r few apart;
          lexed = λ r. ap (λ t. lex in_string (t ++ r)) is ∙ unit_inside c r;
        }
    by (inr many) (inl l) = absurd (omega arith)
    by (inr many) (inr g) =
        let is = escaped_is c not out ∙ two_units c many in
        let high : ℕ = 0xd800 + (c - 65536) / 1024 in
        let low : ℕ = 0xdc00 + (c - 65536) % 1024 in
        record {
          read = λ r. ap (λ t. content plain (t ++ r)) is ∙ two_units_read c r many g.1;
          lexed = λ r. ap (λ t. lex in_string (t ++ r)) is ∙ unit_inside high (unit_text low ++ r) ∙ unit_inside low r;
        }

passes : (c : ℕ) → scalar c ≡ true → Passes c
passes c ok = by (cases_eq c 34) (cases_eq c 92) (cases_lt c 32) (cases_lt 126 c)
  where
    by : (c ≡ 34) ⊎ (c ≡ 34 → ⊥) → (c ≡ 92) ⊎ (c ≡ 92 → ⊥) → (c < 32) ⊎ (32 ≤ c) → (126 < c) ⊎ (c ≤ 126) → Passes c
    by (inl e) b l h = subst Passes (sym e) quote_passes
    by (inr a) (inl e) l h = subst Passes (sym e) backslash_passes
    by (inr a) (inr b) (inl l) h = escaped_passes c ok (a, b) (inl l)
    by (inr a) (inr b) (inr l) (inl h) = escaped_passes c ok (a, b) (inr h)
    by (inr a) (inr b) (inr l) (inr h) = plain_passes c (a, b) l h

-- ---- texts

content-characters : (cs r : List ℕ) → scalars cs ≡ true → content plain (flat_map character_text cs ++ 34 ∷ r) ≡ Some (encodes cs)
unfolding content
content-characters [] r ok = refl
content-characters (c ∷ cs) r ok =
    let both = and_parts _ _ ok in
    ap (content plain) (append_assoc (character_text c) (flat_map character_text cs) (34 ∷ r)) ∙ (passes c both.0).read (flat_map character_text cs ++ 34 ∷ r)
    ∙ ap (prepend (encode c)) (content-characters cs r both.1)

lex-characters : (cs r : List ℕ) → scalars cs ≡ true → lex in_string (flat_map character_text cs ++ 34 ∷ r) ≡ lex between r
unfolding lex
lex-characters [] r ok = refl
lex-characters (c ∷ cs) r ok =
    let both = and_parts _ _ ok in
    ap (lex in_string) (append_assoc (character_text c) (flat_map character_text cs) (34 ∷ r)) ∙ (passes c both.0).lexed (flat_map character_text cs ++ 34 ∷ r)
    ∙ lex-characters cs r both.1

-- a text that was written is read as that text
pub lex-json_text : (text r : List ℕ) → IsUtf8 text → lex between (json_text text ++ r) ≡ token (string text) ∷ lex between r
unfolding lex
lex-json_text text r utf8 =
    let body = flat_map character_text (chars text) in
    ap (λ l. lex between (34 ∷ l)) (append_assoc body (34 ∷ []) r)
    ∙ ap₂ (λ o l. token (string_token o) ∷ l) (content-characters (chars text) r (scalars-chars text utf8) ∙ ap (λ (s : List ℕ). Some s) (encodes-chars text utf8))
    (lex-characters (chars text) r (scalars-chars text utf8))
