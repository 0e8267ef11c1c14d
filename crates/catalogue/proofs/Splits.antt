-- Bounds that rise: how many of them a key has passed.
use Rattle.std.proofs.Common.{◌≡◌, ℕ, zero, suc, ◌+◌, ◌-◌, ◌*◌, ◌<◌, ◌≤◌, nat_le, nat_lt, count_by, slice_index, slice_index_or, take, drop, Bool, ◌||◌, ◌==◌, cond, true, false, List, [], ◌∷◌, length, refl, ap, sym, ◌∙◌, arith}
use Rattle.std.specs.List.{list_any}
use mir.Val.{bool_byte}
use Rattle.std.proofs.lemmas.Bool.{leb-true, leb-false, le-leb, lt-leb}
use Rattle.std.proofs.lemmas.Bool.Decides.{nat_tests}
use Rattle.std.proofs.lemmas.List.Sums.{sum_by-cons}
use Rattle.catalogue.specs.Rules.{AreRising}

abbrev pub passed : ℕ → List ℕ → ℕ
passed k bounds = count_by (λ bound. nat_le bound k) bounds

-- all before a place are passed, and none after those that are left from there on
pub record IsBetween (bs : List ℕ) (key before left : ℕ) : Type 0 where
  pub within : before + left ≤ length bs
  pub all : (k : ℕ) → k < before → nat_le (slice_index bs k) key ≡ true
  pub none : (k : ℕ) → before + left ≤ k → k < length bs → nat_le (slice_index bs k) key ≡ false

-- so as many are passed as are before, and of those that are left
pub counted : (bs : List ℕ) (key before left : ℕ) → IsBetween bs key before left → passed key bs ≡ before + passed key (take left (drop before bs))
counted [] key zero zero h = refl
counted [] key zero (suc left) h = let w = h.within in absurd (omega (arith, w))
counted [] key (suc before) left h = let w = h.within in absurd (omega (arith, w))
counted (b ∷ bs) key zero zero h =
    let rest = counted bs key zero zero (record { within = omega arith; all = λ k low. absurd (omega (arith, low)); none = λ k low at. h.none (suc k) (omega arith) (omega (arith, at)) }) in
    sum_by-cons (λ y. cond (nat_le y key) 1 0) b bs ∙ ap (λ t. cond t 1 0 + passed key bs) (h.none 0 (omega arith) (omega arith)) ∙ omega (arith, rest)
counted (b ∷ bs) key zero (suc left) h =
    let w = h.within in
    let rest = counted bs key zero left (record { within = omega (arith, w); all = λ k low. absurd (omega (arith, low)); none = λ k low at. h.none (suc k) (omega (arith, low)) (omega (arith, at)) }) in
    let first = sum_by-cons (λ y. cond (nat_le y key) 1 0) b bs in
    let taken = sum_by-cons (λ y. cond (nat_le y key) 1 0) b (take left bs) in
    omega (arith, rest, first, taken)
counted (b ∷ bs) key (suc before) left h =
    let w = h.within in
    let rest = counted bs key before left (record { within = omega (arith, w); all = λ k low. h.all (suc k) (omega (arith, low)); none = λ k low at. h.none (suc k) (omega (arith, low)) (omega (arith, at)) }) in
    sum_by-cons (λ y. cond (nat_le y key) 1 0) b bs ∙ ap (λ t. cond t 1 0 + passed key bs) (h.all 0 (omega arith)) ∙ omega (arith, rest)

above : (least : ℕ) (bs : List ℕ) → AreRising least bs → (j d : ℕ) → j < length bs → least < slice_index_or bs j d
above least [] h j d at = absurd (omega (arith, at))
above least (b ∷ bs) h zero d at = h.0
above least (b ∷ bs) h (suc j) d at = let rest = above b bs h.1 j d (omega (arith, at)) in let first = h.0 in omega (arith, rest, first)

ascending : (least : ℕ) (bs : List ℕ) → AreRising least bs → (i j d : ℕ) → i ≤ j → j < length bs → slice_index_or bs i d ≤ slice_index_or bs j d
ascending least [] h i j d le at = absurd (omega (arith, at))
ascending least (b ∷ bs) h zero zero d le at = omega arith
ascending least (b ∷ bs) h zero (suc j) d le at = let rest = above b bs h.1 j d (omega (arith, at)) in omega (arith, rest)
ascending least (b ∷ bs) h (suc i) zero d le at = absurd (omega (arith, le))
ascending least (b ∷ bs) h (suc i) (suc j) d le at = ascending b bs h.1 i j d (omega (arith, le)) (omega (arith, at))

-- those up to one that is passed are passed
up_to : (bs : List ℕ) (key place : ℕ) → AreRising 0 bs → place < length bs → nat_le (slice_index bs place) key ≡ true → (k : ℕ) → k ≤ place → nat_le (slice_index bs k) key ≡ true
up_to bs key place h at is k low =
    let up = ascending 0 bs h k place 0 low at in
    let less = leb-true (slice_index bs place) key is in
    le-leb (slice_index bs k) key (omega (arith, up, less))

-- and those from one on that isn't passed aren't
from_on : (bs : List ℕ) (key place : ℕ) → AreRising 0 bs → nat_le (slice_index bs place) key ≡ false → (k : ℕ) → place ≤ k → k < length bs → nat_le (slice_index bs k) key ≡ false
from_on bs key place h is k low at =
    let up = ascending 0 bs h place k 0 low at in
    let more = leb-false (slice_index bs place) key is in
    lt-leb (slice_index bs k) key (omega (arith, up, more))

-- three that quarter what is left say by how many of them are passed which quarter the key is in
pub quartered : (bs : List ℕ) (key before left step : ℕ) (x y z : Bool) → AreRising 0 bs → IsBetween bs key before left → 0 < step → 4 * step ≤ left + 1
    → x ≡ nat_le (slice_index bs (before + step - 1)) key → y ≡ nat_le (slice_index bs (before + 2 * step - 1)) key → z ≡ nat_le (slice_index bs (before + 3 * step - 1)) key
    → IsBetween bs key (before + step * (bool_byte x + bool_byte y + bool_byte z)) (left - 3 * step)
quartered bs key before left step false false false h i some few x y z = let w = i.within in record {
  within = omega (arith, w);
  all = λ k low. i.all k (omega (arith, low));
  none = λ k low at. from_on bs key (before + step - 1) h (sym x) k (omega (arith, low, few)) at;
}
quartered bs key before left step true false false h i some few x y z = let w = i.within in record {
  within = omega (arith, w, few);
  all = λ k low. up_to bs key (before + step - 1) h (omega (arith, w, few, some)) (sym x) k (omega (arith, low));
  none = λ k low at. from_on bs key (before + 2 * step - 1) h (sym y) k (omega (arith, low, few)) at;
}
quartered bs key before left step true true false h i some few x y z = let w = i.within in record {
  within = omega (arith, w, few);
  all = λ k low. up_to bs key (before + 2 * step - 1) h (omega (arith, w, few, some)) (sym y) k (omega (arith, low));
  none = λ k low at. from_on bs key (before + 3 * step - 1) h (sym z) k (omega (arith, low, few)) at;
}
quartered bs key before left step true true true h i some few x y z = let w = i.within in record {
  within = omega (arith, w, few);
  all = λ k low. up_to bs key (before + 3 * step - 1) h (omega (arith, w, few, some)) (sym z) k (omega (arith, low));
  none = λ k low at. i.none k (omega (arith, low, few)) at;
}
quartered bs key before left step false true z' h i some few x y z =
    let w = i.within in
    let no = from_on bs key (before + step - 1) h (sym x) (before + 2 * step - 1) (omega arith) (omega (arith, w, few, some)) in
    absurd (cc (no, y))
quartered bs key before left step x' false true h i some few x y z =
    let w = i.within in
    let no = from_on bs key (before + 2 * step - 1) h (sym y) (before + 3 * step - 1) (omega arith) (omega (arith, w, few, some)) in
    absurd (cc (no, z))

-- ---- the next number is a bound exactly where it has passed more

both_at : (b k : ℕ) → (nat_le b (k + 1) ≡ (nat_le b k || (b == k + 1))) × (nat_le b k ≡ true → (b == k + 1) ≡ false)
both_at b k = (grind (arith, nat_tests), λ h. grind (arith, nat_tests, h))

step : (s t u : Bool) (m n : ℕ) (rest : Bool) → u ≡ s || t → (s ≡ true → t ≡ false) → m ≤ n → nat_lt m n ≡ rest
    → (cond s 1 0 + m ≤ cond u 1 0 + n) × (nat_lt (cond s 1 0 + m) (cond u 1 0 + n) ≡ (t || rest))
step true true u m n rest is apart low h = absurd (let g = apart refl in cc)
step true false true m n rest is apart low h = (omega (arith, low), grind (arith, nat_tests, h))
step true false false m n rest is apart low h = absurd (cc)
step false true true m n rest is apart low h = (omega (arith, low), grind (arith, nat_tests, low))
step false true false m n rest is apart low h = absurd (cc)
step false false true m n rest is apart low h = absurd (cc)
step false false false m n rest is apart low h = (omega (arith, low), grind (arith, nat_tests, h))

pub next_is : (k : ℕ) (bounds : List ℕ) → (passed k bounds ≤ passed (k + 1) bounds) × (nat_lt (passed k bounds) (passed (k + 1) bounds) ≡ list_any (λ bound. bound == k + 1) bounds)
next_is k [] = (omega arith, refl)
next_is k (b ∷ bs) =
    let at = both_at b k in
    let rest = next_is k bs in
    let here = step (nat_le b k) (b == k + 1) (nat_le b (k + 1)) (passed k bs) (passed (k + 1) bs) (list_any (λ bound. bound == k + 1) bs) at.0 at.1 rest.0 rest.1 in
    let low = sum_by-cons (λ bound. cond (nat_le bound k) 1 0) b bs in
    let high = sum_by-cons (λ bound. cond (nat_le bound (k + 1)) 1 0) b bs in
    (omega (arith, low, high, here.0), ap (λ m. nat_lt m (passed (k + 1) (b ∷ bs))) low ∙ ap (λ n. nat_lt (cond (nat_le b k) 1 0 + passed k bs) n) high ∙ here.1)
