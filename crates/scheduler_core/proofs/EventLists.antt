-- Lists of events: what a test leaves of a list, and lists in a strict order.
use Rattle.std.proofs.Common.{◌≡◌, ℕ, zero, suc, inl, inr, ◌%◌, Bool, true, List, [], ◌∷◌, length, Option, None, Some, refl, sym, ◌∙◌, ap, subst, arith, slice_get}
use Rattle.std.specs.Prelude.{filter, get_or}
use Rattle.std.specs.List.{Contains, All, AllPairs}
use Rattle.std.proofs.lemmas.List.{get_or_default}
use Rattle.std.proofs.Math.Nat.{mod-lt}
use Rattle.scheduler_core.specs.Choices.{IsBefore, chosen}
use Rattle.scheduler_core.specs.declared.event.Event.{Event}
use Rattle.scheduler_core.proofs.Lists.{cases, some_is, none_some, get_at, contains_first, contains_later, first_or_later, not_in_nothing}

pub filter_passes : {X : Type 0} (test : X → Bool) (xs : List X) (x : X) → Contains (filter test xs) x → test x ≡ true
filter_passes test [] x has = absurd (not_in_nothing x has)
filter_passes test (y ∷ xs) x has = elim (cases (test y)) [
  | inr not ↦ filter_passes test xs x (rw not at has)
  | inl passes ↦ elim (first_or_later y (filter test xs) x (rw passes at has)) [
    | inl same ↦ sym (ap test same) ∙ passes
    | inr later ↦ filter_passes test xs x later
  ]
]

pub filter_keeps : {X : Type 0} (test : X → Bool) (xs : List X) (x : X) → Contains xs x → test x ≡ true → Contains (filter test xs) x
filter_keeps test [] x has passes = absurd (not_in_nothing x has)
filter_keeps test (y ∷ xs) x has passes = elim (first_or_later y xs x has) [
  | inl same ↦ rw (ap test same ∙ passes) (subst (λ z. Contains (y ∷ filter test xs) z) same (contains_first y (filter test xs)))
  | inr later ↦
      let rest = filter_keeps test xs x later passes in
      elim (cases (test y)) [ inl first ↦ rw first (contains_later y (filter test xs) x rest) | inr not ↦ rw not rest ]
]

pub nothing_in : {X : Type 0} (xs : List X) → ((x : X) → Contains xs x → ⊥) → xs ≡ []
nothing_in [] none = refl
nothing_in (x ∷ xs) none = absurd (none x (contains_first x xs))

pub get_contained : {X : Type 0} (xs : List X) (k : ℕ) (x : X) → slice_get xs k ≡ Some x → Contains xs x
get_contained [] k x is = absurd (none_some x is)
get_contained (y ∷ xs) zero x is = subst (λ z. Contains (y ∷ xs) z) (some_is y x is) (contains_first y xs)
get_contained (y ∷ xs) (suc k) x is = contains_later y xs x (get_contained xs k x is)

pub chosen_there : (n : ℕ) (events : List Event) (event : Event) → chosen n events ≡ Some event → Contains events event
chosen_there n [] event is = absurd (none_some event is)
chosen_there n (e ∷ events) event is = get_contained (e ∷ events) (n % length (e ∷ events)) event is

pub chosen_none : (n : ℕ) (events : List Event) → chosen n events ≡ None → events ≡ []
chosen_none n [] is = refl
chosen_none n (e ∷ events) is =
    let h = get_at (e ∷ events) (n % length (e ∷ events)) (mod-lt n (omega arith)) in
    absurd (none_some h.0 (sym is ∙ h.1))

-- each element of a list, and each of its places
pub all_contained : {X : Type 0} (P : X → Type 0) (xs : List X) → ((x : X) → Contains xs x → P x) → All P xs
all_contained P xs each k d less = each (get_or xs k d) (k, less, get_or_default xs k (get_or xs k d) d less)

module _ {X : Type 0} (R : X → X → Type 0) (not_both : (a b : X) → R a b → R b a → ⊥) where
  tail_ordered : (x : X) (xs : List X) → AllPairs R (x ∷ xs) → AllPairs R xs
  tail_ordered x xs h i j d less within = h (suc i) (suc j) d (omega (arith, less)) (omega (arith, within))

  head_before : (x : X) (xs : List X) (y : X) → AllPairs R (x ∷ xs) → Contains xs y → R x y
  head_before x xs y h (k, less, is) = subst (λ z. R x z) is (h 0 (suc k) y (omega arith) (omega (arith, less)))

  -- what is in a tail is in the other list's tail
  in_tail : (x y : X) (xs ys : List X) → x ≡ y → AllPairs R (x ∷ xs) → ((z : X) → Contains (x ∷ xs) z → Contains (y ∷ ys) z) → (z : X) → Contains xs z → Contains ys z
  in_tail x y xs ys same h has z there = elim (first_or_later y ys z (has z (contains_later x xs z there))) [
    | inr later ↦ later
    | inl here ↦
        let before : R x z = head_before x xs z h there in
        let itself : R x x = subst (λ w. R x w) (sym (same ∙ here)) before in
        absurd (not_both x x itself itself)
  ]

  -- lists in a strict order that have the same elements are one
  pub one_order : (xs ys : List X) → AllPairs R xs → AllPairs R ys → ((z : X) → Contains xs z → Contains ys z) → ((z : X) → Contains ys z → Contains xs z) → xs ≡ ys
  one_order [] [] h k to from = refl
  one_order [] (y ∷ ys) h k to from = absurd (not_in_nothing y (from y (contains_first y ys)))
  one_order (x ∷ xs) [] h k to from = absurd (not_in_nothing x (to x (contains_first x xs)))
  one_order (x ∷ xs) (y ∷ ys) h k to from =
      let same : x ≡ y = elim (first_or_later y ys x (to x (contains_first x xs))) [
        | inl here ↦ sym here
        | inr later ↦ elim (first_or_later x xs y (from y (contains_first y ys))) [
          | inl here ↦ here
          | inr after ↦ absurd (not_both x y (head_before x xs y h after) (head_before y ys x k later))
        ]
      ] in
      ap (λ z. z ∷ xs) same
      ∙ ap (λ zs. y ∷ zs) (one_order xs ys (tail_ordered x xs h) (tail_ordered y ys k) (in_tail x y xs ys same h to) (in_tail y x ys xs (sym same) k from))

pub before_not_both : (m n : Option ℕ) → IsBefore m n → IsBefore n m → ⊥
before_not_both None None h k = h
before_not_both None (Some n) h k = k
before_not_both (Some m) None h k = h
before_not_both (Some m) (Some n) h k = omega (arith, h, k)
