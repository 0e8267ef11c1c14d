-- A list that a sort by key leaves is the one with ascending keys that has the same elements.
use Rattle.std.proofs.Common.{◌≡◌, ℕ, ◌<◌, ◌≤◌, ◌&&◌, Bool, true, false, cond, eqb, List, [], ◌∷◌, map, length, get_or, Option, Some, None, refl, sym, ap, ◌∙◌, subst, T, arith, Ordering, Less, IsPermutation}
use Rattle.std.specs.Cmp.{tied_itself}
use Rattle.std.specs.List.{AllByRecursion, IsDistinct}
use Rattle.std.specs.List.Sorted.{IsNonDecreasing, IsNonDecreasingBy, IsStrictlySortedBy}
use Rattle.std.specs.Ordering.{eq_by_cmp, is_eq, is_lt, nat_cmp}
use Rattle.std.specs.FinMap.{find, is_sorted, nat_cmp-IsAntisymmetric}
use Rattle.std.specs.FinMap.Entries.{below_all, same_entries}
use Rattle.std.proofs.lemmas.Bool.Decides.{nat_tests}
use Rattle.std.proofs.lemmas.Cmp.{nat_cmp_total}
use Rattle.std.proofs.lemmas.List.{get_or-map, length-map}
use Rattle.std.proofs.lemmas.List.Elements.{All-from_recursion, recursion_from_All}
use Rattle.std.proofs.lemmas.List.Sorted.{All-permutation, IsPermutation-map, IsPermutation-sym}
use Rattle.std.proofs.lemmas.Map.Keys.{IsDistinct-IsPermutation, IsDistinct-from_apart, IsStrictlyIncreasing-from_distinct, below_from_sorted, sorted_from_strictly_increasing}
use Rattle.values.specs.Database.{RowOf}

abbrev pub Keyed : Type 0
Keyed = List (ℕ × RowOf)

abbrev pub keys : Keyed → List ℕ
keys es = map (λ e. e.0) es

-- ---- in order

head_sorted : (e : ℕ × RowOf) (rest : Keyed) → IsStrictlySortedBy nat_cmp (keys (e ∷ rest)) → AllByRecursion (λ y. nat_cmp e.0 y ≡ Less) (keys rest)
unfolding IsStrictlySortedBy
head_sorted e rest s = s.0

tail_sorted : (e : ℕ × RowOf) (rest : Keyed) → IsStrictlySortedBy nat_cmp (keys (e ∷ rest)) → IsStrictlySortedBy nat_cmp (keys rest)
unfolding IsStrictlySortedBy
tail_sorted e rest s = s.1

both : (a b : Bool) → T a → T b → T (a && b)
both true b s t = t
both false b s t = absurd s

less : (o : Ordering) → o ≡ Less → T (is_lt o)
less o e = subst (λ o. T (is_lt o)) (sym e) tt

below : (key : ℕ) (es : Keyed) → AllByRecursion (λ y. nat_cmp key y ≡ Less) (keys es) → T (below_all nat_cmp key es)
below key [] h = tt
below key (e ∷ es) h = both _ _ (less _ h.0) (below key es h.1)

rises : (es : Keyed) → IsStrictlySortedBy nat_cmp (keys es) → T (is_sorted nat_cmp es)
rises [] s = tt
rises (e ∷ es) s = both _ _ (below e.0 es (head_sorted e es s)) (rises es (tail_sorted e es s))

-- ---- the same elements

apart : (a b : ℕ) → nat_cmp a b ≡ Less → eq_by_cmp nat_cmp b a ≡ false
apart a b e = grind (arith, nat_tests)

same_key : (a b : ℕ) → eq_by_cmp nat_cmp a b ≡ true → a ≡ b
same_key a b e = grind (arith, nat_tests)

found_after : (e : ℕ × RowOf) (es all : Keyed) → AllByRecursion (λ y. nat_cmp e.0 y ≡ Less) (keys es) → AllByRecursion (λ x. find nat_cmp x.0 all ≡ Some x.1) es
    → AllByRecursion (λ x. find nat_cmp x.0 (e ∷ all) ≡ Some x.1) es
found_after e [] all h f = tt
found_after e (x ∷ es) all h f = (ap (λ b. cond b (Some e.1) (find nat_cmp x.0 all)) (apart e.0 x.0 h.0) ∙ f.0, found_after e es all h.1 f.1)

all_found : (es : Keyed) → IsStrictlySortedBy nat_cmp (keys es) → AllByRecursion (λ e. find nat_cmp e.0 es ≡ Some e.1) es
all_found [] s = tt
all_found (e ∷ es) s = (
  ap (λ (o : Ordering). cond (is_eq o) (Some e.1) (find nat_cmp e.0 es)) (tied_itself nat_cmp_total e.0),
  found_after e es es (head_sorted e es s) (all_found es (tail_sorted e es s)),
)

carried : (q : ℕ) (row : RowOf) (es all : Keyed) → AllByRecursion (λ e. find nat_cmp e.0 all ≡ Some e.1) es → find nat_cmp q es ≡ Some row → find nat_cmp q all ≡ Some row
carried q row [] all f g = absurd cc
carried q row (e ∷ es) all f g = elim (eq_by_cmp nat_cmp q e.0) as (λ b. eq_by_cmp nat_cmp q e.0 ≡ b → cond b (Some e.1) (find nat_cmp q es) ≡ Some row → find nat_cmp q all ≡ Some row) [
  | true ↦ λ is h. ap (λ k. find nat_cmp k all) (same_key q e.0 is) ∙ f.0 ∙ h
  | false ↦ λ is h. carried q row es all f.1 h
] refl g

found_there : (xs ys : Keyed) → IsPermutation xs ys → IsStrictlySortedBy nat_cmp (keys ys) → AllByRecursion (λ e. find nat_cmp e.0 ys ≡ Some e.1) xs
found_there xs ys p s =
    recursion_from_All (λ e. find nat_cmp e.0 ys ≡ Some e.1) xs
    (All-permutation (λ e. find nat_cmp e.0 ys ≡ Some e.1) ys xs (IsPermutation-sym xs ys p) (All-from_recursion (λ e. find nat_cmp e.0 ys ≡ Some e.1) ys (all_found ys s)))

same_option : (o p : Option RowOf) → ((row : RowOf) → o ≡ Some row → p ≡ Some row) → ((row : RowOf) → p ≡ Some row → o ≡ Some row) → o ≡ p
same_option None None f g = refl
same_option None (Some row) f g = g row refl
same_option (Some row) p f g = sym (f row refl)

same_elements : (xs ys : Keyed) → IsPermutation xs ys → IsStrictlySortedBy nat_cmp (keys xs) → IsStrictlySortedBy nat_cmp (keys ys) → ys ≡ xs
same_elements xs ys p s t = same_entries nat_cmp nat_cmp_total nat_cmp-IsAntisymmetric ys xs (rises ys t) (rises xs s) (λ q.
    same_option (find nat_cmp q ys) (find nat_cmp q xs)
    (λ row e. carried q row ys xs (found_there ys xs (IsPermutation-sym xs ys p) s) e)
    (λ row e. carried q row xs ys (found_there xs ys p t) e))

-- ---- keys that do not fall

non_falling : {X : Type 0} (n : X → ℕ) (xs : List X) → IsNonDecreasingBy n xs → IsNonDecreasing (map n xs)
non_falling n [] up i j d le l = absurd (omega arith)
non_falling n (x ∷ xs) up i j d le l =
    let long : j < length (x ∷ xs) = subst (λ k. j < k) (length-map (x ∷ xs) n) l in
    let early : i < length (x ∷ xs) = omega arith in
    subst (λ a. a ≤ get_or (map n (x ∷ xs)) j d) (sym (get_or-map n (x ∷ xs) i x d early))
    (subst (λ b. n (get_or (x ∷ xs) i x) ≤ b) (sym (get_or-map n (x ∷ xs) j x d long)) (up i j x le long))

not_same : (a b : ℕ) → a < b → eqb a b ≡ false
not_same a b l = grind (arith, nat_tests)

flips : (a b : ℕ) → eqb a b ≡ eqb b a
flips a b = grind (arith, nat_tests)

distinct : (ks : List ℕ) → IsStrictlySortedBy nat_cmp ks → IsDistinct eqb ks
distinct ks s = IsDistinct-from_apart eqb ks (λ i j d a b. not_same _ _ (below_from_sorted ks i j d s a b))

-- the keys of xs rise, and those of ys do not fall
pub sorted_is : (xs ys : Keyed) → IsPermutation xs ys → IsStrictlySortedBy nat_cmp (keys xs) → IsNonDecreasing (keys ys) → ys ≡ xs
sorted_is xs ys p s up =
    same_elements xs ys p s (sorted_from_strictly_increasing (keys ys)
    (IsStrictlyIncreasing-from_distinct (keys ys) up (IsDistinct-IsPermutation eqb flips (keys xs) (keys ys) (IsPermutation-map (λ e. e.0) xs ys p) (distinct (keys xs) s))))

pub non_falling_keys : {X : Type 0} (n : X → ℕ) (xs : List X) (ks : List ℕ) → map n xs ≡ ks → IsNonDecreasingBy n xs → IsNonDecreasing ks
non_falling_keys n xs ks is up = subst IsNonDecreasing is (non_falling n xs up)
