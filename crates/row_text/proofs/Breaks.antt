-- Texts that end at the first byte of a kind.
use Rattle.std.proofs.Common.{◌≡◌, ℕ, zero, suc, ◌+◌, ◌<◌, ◌^◌, ◌==◌, ◌/◌, ◌%◌, ◌&&◌, not, Bool, true, false, List, [], ◌∷◌, ◌++◌, get_or, refl, sym, arith}
use Rattle.std.specs.Fmt.{decimal}
use Rattle.std.specs.List.{list_all}
use Rattle.std.proofs.lemmas.Bool.Decides.{nat_tests}
use Rattle.std.proofs.lemmas.Fmt.{decimal_by_steps}
use Rattle.hex.specs.Hex.{encode_with, lower_digits}
use Rattle.values.specs.Names.{is_lower, is_name, is_name_byte}
use Rattle.row_text.specs.Texts.{digest}

-- a text without a byte
abbrev pub Lacks : ℕ → List ℕ → Type 0
Lacks b [] = Unit {0}
Lacks b (x ∷ xs) = (x ≡ b → ⊥) × Lacks b xs

lacks-append : (b : ℕ) (xs ys : List ℕ) → Lacks b xs → Lacks b ys → Lacks b (xs ++ ys)
lacks-append b [] ys h k = k
lacks-append b (x ∷ xs) ys h k = (h.0, lacks-append b xs ys h.1 k)

-- two texts, each up to such a byte
pub same_front : (b : ℕ) (xs ys r s : List ℕ) → Lacks b xs → Lacks b ys → xs ++ b ∷ r ≡ ys ++ b ∷ s → (xs ≡ ys) × (r ≡ s)
same_front b [] [] r s h k e = (refl, (cc))
same_front b [] (y ∷ ys) r s h k e = absurd (k.0 (let same : b ≡ y = cc in sym same))
same_front b (x ∷ xs) [] r s h k e = absurd (h.0 (cc))
same_front b (x ∷ xs) (y ∷ ys) r s h k e =
    let head : x ≡ y = cc in
    let rest : xs ++ b ∷ r ≡ ys ++ b ∷ s = cc in
    let same = same_front b xs ys r s h.1 k.1 rest in
    let front : xs ≡ ys = same.0 in
    (cc, same.1)

-- ---- digits

pub decimal_lacks : (n : ℕ) → n < 2 ^ 64 → Lacks 32 (decimal n)
decimal_lacks = decimal_by_steps (λ m ds. Lacks 32 ds) (λ m l. ((λ e. omega arith), tt)) (λ m ds l h. lacks-append 32 ds ((48 + m % 10) ∷ []) h ((λ e. omega arith), tt))

digit_at : (b : ℕ) (table : List ℕ) → Lacks b table → (0 ≡ b → ⊥) → (k : ℕ) → get_or table k 0 ≡ b → ⊥
digit_at b [] h none k e = none e
digit_at b (x ∷ xs) h none zero e = h.0 e
digit_at b (x ∷ xs) h none (suc k) e = digit_at b xs h.1 none k e

encoded_lacks : (b : ℕ) (table : List ℕ) → Lacks b table → (0 ≡ b → ⊥) → (bytes : List ℕ) → Lacks b (encode_with table bytes)
unfolding encode_with
encoded_lacks b table h none [] = tt
encoded_lacks b table h none (x ∷ bytes) = (digit_at b table h none (x / 16), (digit_at b table h none (x % 16), encoded_lacks b table h none bytes))

and_both : (c d : Bool) → (c && d) ≡ true → (c ≡ true) × (d ≡ true)
and_both true d e = (refl, e)
and_both false d e = absurd cc

differs : (x b : ℕ) → not (x == b) ≡ true → x ≡ b → ⊥
differs x b f same = grind (arith, nat_tests)

-- a text that a test shows to lack a byte
tested : (b : ℕ) (xs : List ℕ) → list_all (λ x. not (x == b)) xs ≡ true → Lacks b xs
tested b [] h = tt
tested b (x ∷ xs) h = let parts = and_both (not (x == b)) (list_all (λ x. not (x == b)) xs) h in ((λ same. differs x b parts.0 same), tested b xs parts.1)

pub digest_lacks : (text : List ℕ) → Lacks 10 (digest text)
unfolding digest
digest_lacks text = encoded_lacks 10 lower_digits (tested 10 lower_digits refl) (λ e. omega arith) _

-- ---- names

name_byte : (x : ℕ) → is_name_byte x ≡ true → x ≡ 32 → ⊥
name_byte x h e = grind (arith, nat_tests)

bytes_lack : (xs : List ℕ) → list_all is_name_byte xs ≡ true → Lacks 32 xs
bytes_lack [] h = tt
bytes_lack (x ∷ xs) h = let parts = and_both (is_name_byte x) (list_all is_name_byte xs) h in ((λ e. name_byte x parts.0 e), bytes_lack xs parts.1)

lower : (x : ℕ) → is_lower x ≡ true → x ≡ 32 → ⊥
lower x h e = grind (arith, nat_tests)

pub name_lacks : (name : List ℕ) → is_name name ≡ true → Lacks 32 name
name_lacks [] h = tt
name_lacks (x ∷ xs) h =
    let first = and_both (is_lower x) _ h in
    let rest = and_both _ (list_all is_name_byte xs) first.1 in
    ((λ e. lower x first.0 e), bytes_lack xs rest.1)
