-- What is granted where one transaction leaves its queues.
use Rattle.std.proofs.Common.{◌≡◌, ℕ, ◌≤◌, ◌⊎◌, inl, inr, ◌==◌, Bool, true, false, cond, not, ◌&&◌, ◌||◌, List, [], ◌∷◌, ◌++◌, length, take, drop, Option, None, Some, refl, sym, ◌∙◌, ap, arith}
use Rattle.std.specs.List.{list_all, AllByRecursion}
use Rattle.std.specs.Ordering.{is_eq}
use Rattle.std.proofs.lemmas.Cmp.{tied_itself}
use Rattle.std.proofs.lemmas.Bool.Decides.{nat_tests}
use Rattle.footprint.specs.declared.resource.Resource.{Resource}
use Rattle.modes.specs.declared.mode.Mode.{Mode}
use Rattle.modes.specs.Modes.{are_compatible}
use Rattle.coarsen.specs.Subtrees.{Requests}
use Rattle.lock_tree.specs.Entered.{Enqueued}
use Rattle.lock_tree.specs.Queues.{Queue, mode_on, granted_beside, granted, has_number}
use Rattle.lock_tree.specs.Lines.{is_same, others}
use Rattle.lock_tree.specs.Known.{granted_in, Knows, AreKnown}
use Rattle.lock_tree.specs.Views.{all_waiting}
use Rattle.footprint.proofs.Resources.{resources_total}
use Rattle.lock_tree.proofs.Resources.{same_resource}

both : (a b : Bool) → (a && b) ≡ true → (a ≡ true) × (b ≡ true)
both true b h = (refl, h)
both false b h = absurd (cc)

and : (a b : Bool) → a ≡ true → b ≡ true → (a && b) ≡ true
and a b e f = ap (λ x. x && b) e ∙ f

same_numbers : (i k : ℕ) → (i == k) ≡ true → i ≡ k
same_numbers i k h = grind (arith, nat_tests)

-- ---- the front of a queue

pub front_length : (held : List Mode) (q : Queue) → length (granted_beside held q) ≤ length q
front_length held [] = omega arith
front_length held (x ∷ q) = elim (list_all (λ h. are_compatible h x.1) held) as (λ v. length (cond v (x ∷ granted_beside (x.1 ∷ held) q) []) ≤ length (x ∷ q)) [
  | true ↦ let h = front_length (x.1 ∷ held) q in omega (arith, h)
  | false ↦ omega arith
]

front_beside : (held : List Mode) (q : Queue) → take (length (granted_beside held q)) q ≡ granted_beside held q
front_beside held [] = refl
front_beside held (x ∷ q) = elim (list_all (λ h. are_compatible h x.1) held) as (λ v. take (length (cond v (x ∷ granted_beside (x.1 ∷ held) q) [])) (x ∷ q) ≡ cond v (x ∷ granted_beside (x.1 ∷ held) q) []) [
  | true ↦ ap (λ xs. x ∷ xs) (front_beside (x.1 ∷ held) q)
  | false ↦ refl
]

pub granted_length : (q : Queue) → length (granted q) ≤ length q
granted_length q = front_length [] q

pub granted_front : (q : Queue) → take (length (granted q)) q ≡ granted q
granted_front q = front_beside [] q

-- ---- less held, and one less that asks

-- whatever is compatible with the more is compatible with the less
abbrev HoldsLess : List Mode → List Mode → Type 0
HoldsLess less more = (m : Mode) → list_all (λ h. are_compatible h m) more ≡ true → list_all (λ h. are_compatible h m) less ≡ true

less_beside : (x : Mode) (less more : List Mode) → HoldsLess less more → HoldsLess less (x ∷ more)
less_beside x less more h m t = h m (both (are_compatible x m) (list_all (λ h. are_compatible h m) more) t).1

both_more : (x : Mode) (less more : List Mode) → HoldsLess less more → HoldsLess (x ∷ less) (x ∷ more)
both_more x less more h m t =
    let p = both (are_compatible x m) (list_all (λ h. are_compatible h m) more) t in
    and (are_compatible x m) (list_all (λ h. are_compatible h m) less) p.0 (h m p.1)

-- what was granted to the others stays granted, and more may follow
front_grows : (less more : List Mode) (k : ℕ) (q : Queue) → HoldsLess less more
    → (rest : Queue) × (granted_beside less (others k q) ≡ others k (granted_beside more q) ++ rest)
front_grows less more k [] h = ([], refl)
front_grows less more k (x ∷ q) h = elim (list_all (λ h. are_compatible h x.1) more) as (λ v. list_all (λ h. are_compatible h x.1) more ≡ v
    → (rest : Queue) × (granted_beside less (others k (x ∷ q)) ≡ others k (cond v (x ∷ granted_beside (x.1 ∷ more) q) []) ++ rest)) [
      | true ↦ λ fits. elim (x.0 == k) as (λ u. (rest : Queue) × (granted_beside less (cond (not u) (x ∷ others k q) (others k q))
          ≡ cond (not u) (x ∷ others k (granted_beside (x.1 ∷ more) q)) (others k (granted_beside (x.1 ∷ more) q)) ++ rest)) [
            | true ↦ front_grows less (x.1 ∷ more) k q (less_beside x.1 less more h)
            | false ↦
                let r = front_grows (x.1 ∷ less) (x.1 ∷ more) k q (both_more x.1 less more h) in
                (r.0, ap (λ v. cond v (x ∷ granted_beside (x.1 ∷ less) (others k q)) []) (h x.1 fits) ∙ ap (λ xs. x ∷ xs) r.1)
          ]
      | false ↦ λ fits. (granted_beside less (others k (x ∷ q)), refl)
    ] refl

drop_front : (xs ys : Queue) → drop (length xs) (xs ++ ys) ≡ ys
drop_front [] ys = refl
drop_front (x ∷ xs) ys = drop_front xs ys

append_length : (xs ys : Queue) → length xs ≤ length (xs ++ ys)
append_length [] ys = omega arith
append_length (x ∷ xs) ys = let h = append_length xs ys in omega (arith, h)

-- those who get granted as one leaves
abbrev pub newly : ℕ → Queue → Queue
newly k q = drop (length (others k (granted q))) (granted (others k q))

pub granted_grows : (k : ℕ) (q : Queue) → granted (others k q) ≡ others k (granted q) ++ newly k q
granted_grows k q =
    let r = front_grows [] [] k q (λ m t. t) in
    let rest : newly k q ≡ r.0 = ap (drop (length (others k (granted q)))) r.1 ∙ drop_front (others k (granted q)) r.0 in
    r.1 ∙ ap (λ xs. others k (granted q) ++ xs) (sym rest)

pub stay_within : (k : ℕ) (q : Queue) → length (others k (granted q)) ≤ length (granted (others k q))
stay_within k q = let l = append_length (others k (granted q)) (newly k q) in let e = ap length (granted_grows k q) in omega (arith, l, e)

-- ---- who has a number

has_either : (n : ℕ) (xs ys : Queue) → has_number n (xs ++ ys) ≡ has_number n xs || has_number n ys
has_either n [] ys = refl
has_either n (x ∷ xs) ys = elim (x.0 == n) as (λ v. (v || has_number n (xs ++ ys)) ≡ (v || has_number n xs) || has_number n ys) [
  | true ↦ refl
  | false ↦ has_either n xs ys
]

has_of_others : (n k : ℕ) (xs : Queue) → (n == k) ≡ false → has_number n (others k xs) ≡ has_number n xs
has_of_others n k [] h = refl
has_of_others n k (x ∷ xs) h = elim (x.0 == k) as (λ v. (x.0 == k) ≡ v → has_number n (cond (not v) (x ∷ others k xs) (others k xs)) ≡ (x.0 == n) || has_number n xs) [
  | true ↦ λ e.
      let other : (x.0 == n) ≡ false = grind (arith, nat_tests) in
      has_of_others n k xs h ∙ sym (ap (λ v. v || has_number n xs) other)
  | false ↦ λ e. ap (λ v. (x.0 == n) || v) (has_of_others n k xs h)
] refl

or_parts : (a b : Bool) → (a || b) ≡ true → (a ≡ true) ⊎ (b ≡ true)
or_parts true b h = inl refl
or_parts false b h = inr h

or_left : (a b : Bool) → a ≡ true → (a || b) ≡ true
or_left a b h = ap (λ v. v || b) h

-- of another transaction
still_granted : (n k : ℕ) (q : Queue) → (n == k) ≡ false → has_number n (granted q) ≡ true → has_number n (granted (others k q)) ≡ true
still_granted n k q h g =
    ap (has_number n) (granted_grows k q) ∙ has_either n (others k (granted q)) (newly k q)
    ∙ or_left (has_number n (others k (granted q))) (has_number n (newly k q)) (has_of_others n k (granted q) h ∙ g)

newly_granted : (n k : ℕ) (q : Queue) → (n == k) ≡ false → has_number n (granted (others k q)) ≡ true → (has_number n (granted q) ≡ true) ⊎ (has_number n (newly k q) ≡ true)
newly_granted n k q h g =
    elim (or_parts (has_number n (others k (granted q))) (has_number n (newly k q)) (sym (has_either n (others k (granted q)) (newly k q)) ∙ sym (ap (has_number n) (granted_grows k q)) ∙ g)) [
      | inl was ↦ inl (sym (has_of_others n k (granted q) h) ∙ was)
      | inr now ↦ inr now
    ]

-- ---- plans

-- the queues after one left that of a resource
abbrev pub Left : ℕ → Resource → (Resource → Queue) → (Resource → Queue) → Type 0
Left k r old new = (x : Resource) → new x ≡ cond (is_same x r) (others k (old x)) (old x)

module _ (k : ℕ) (r : Resource) (old new : Resource → Queue) (left : Left k r old new) (n : ℕ) (other : (n == k) ≡ false) where
  one_still : (x : Resource) (v : Bool) → new x ≡ cond v (others k (old x)) (old x) → has_number n (granted (old x)) ≡ true → has_number n (granted (new x)) ≡ true
  one_still x true is g = ap (λ q. has_number n (granted q)) is ∙ still_granted n k (old x) other g
  one_still x false is g = ap (λ q. has_number n (granted q)) is ∙ g

  plan_still : (plan : Requests) → granted_in old n plan ≡ true → granted_in new n plan ≡ true
  plan_still [] g = refl
  plan_still (e ∷ plan) g =
      let p = both (has_number n (granted (old e.0))) (granted_in old n plan) g in
      and (has_number n (granted (new e.0))) (granted_in new n plan) (one_still e.0 (is_same e.0 r) (left e.0) p.0) (plan_still plan p.1)

  one_newly : (x : Resource) (v : Bool) → is_same x r ≡ v → new x ≡ cond v (others k (old x)) (old x) → has_number n (granted (new x)) ≡ true
      → (has_number n (granted (old x)) ≡ true) ⊎ (has_number n (newly k (old r)) ≡ true)
  one_newly x true s is g =
      elim (newly_granted n k (old x) other (sym (ap (λ q. has_number n (granted q)) is) ∙ g)) [
        | inl was ↦ inl was
        | inr now ↦ inr (sym (ap (λ y. has_number n (newly k (old y))) (same_resource x r s)) ∙ now)
      ]
  one_newly x false s is g = inl (sym (ap (λ q. has_number n (granted q)) is) ∙ g)

  plan_newly : (plan : Requests) → granted_in new n plan ≡ true → (granted_in old n plan ≡ true) ⊎ (has_number n (newly k (old r)) ≡ true)
  plan_newly [] g = inl refl
  plan_newly (e ∷ plan) g =
      let p = both (has_number n (granted (new e.0))) (granted_in new n plan) g in
      elim (one_newly e.0 (is_same e.0 r) refl (left e.0) p.0) [
        | inl here ↦ elim (plan_newly plan p.1) [
          | inl rest ↦ inl (and (has_number n (granted (old e.0))) (granted_in old n plan) here rest)
          | inr now ↦ inr now
        ]
        | inr now ↦ inr now
      ]

no_one : (n : ℕ) → has_number n [] ≡ true → ⊥
no_one n h = absurd (cc)

-- an entry that knows goes on knowing, but for what was granted lately
pub knows_left : (k : ℕ) (r : Resource) (old new : Resource → Queue) → Left k r old new → (e : Enqueued) → (e.no == k) ≡ false → Knows old [] e → Knows new (newly k (old r)) e
knows_left k r old new left e other known = record {
  sound = λ h. plan_still k r old new left e.no other e.plan.value (known.sound h);
  complete = λ h. elim (plan_newly k r old new left e.no other e.plan.value h) [
    | inl was ↦ elim (known.complete was) [
      | inl ready ↦ inl ready
      | inr none ↦ absurd (no_one e.no none)
    ]
    | inr now ↦ inr now
  ];
}

-- ---- entries

same_itself : (r : Resource) → is_same r r ≡ true
same_itself r = ap is_eq (tied_itself resources_total r)

-- the queue that was left
pub left_here : (k : ℕ) (r : Resource) (old new : Resource → Queue) → Left k r old new → new r ≡ others k (old r)
left_here k r old new left = left r ∙ ap (λ v. cond v (others k (old r)) (old r)) (same_itself r)

pub known_left : (k : ℕ) (r : Resource) (old new : Resource → Queue) → Left k r old new → (es : List Enqueued) → AllByRecursion (λ w. (w.no == k) ≡ false) (all_waiting es)
    → AreKnown old [] es → AreKnown new (newly k (old r)) es
known_left k r old new left [] other known = tt
known_left k r old new left (e ∷ es) other known = (knows_left k r old new left e other.0 known.0, known_left k r old new left es other.1 known.1)

-- ---- a whole plan

others_again : (k : ℕ) (q : Queue) → others k (others k q) ≡ others k q
others_again k [] = refl
others_again k (x ∷ q) = elim (x.0 == k) as (λ v. (x.0 == k) ≡ v → others k (cond (not v) (x ∷ others k q) (others k q)) ≡ cond (not v) (x ∷ others k q) (others k q)) [
  | true ↦ λ e. others_again k q
  | false ↦ λ e. ap (λ v. cond (not v) (x ∷ others k (others k q)) (others k (others k q))) e ∙ ap (λ xs. x ∷ xs) (others_again k q)
] refl

same_others : (k : ℕ) (v : Bool) (now new : Queue) → new ≡ cond v (others k now) now → others k new ≡ others k now
same_others k true now new is = ap (others k) is ∙ others_again k now
same_others k false now new is = ap (others k) is

pub rest_left : (k : ℕ) (r other : Resource) (now old new : Queue) → new ≡ cond (is_same other r) (others k now) now → others k now ≡ others k old → others k new ≡ others k old
rest_left k r other now old new is rest = same_others k (is_same other r) now new is ∙ rest

one_left : (k : ℕ) (mode : Mode) (v : Bool) (now old new : Queue) (found : Option Mode) → new ≡ cond v (others k now) now → others k now ≡ others k old
    → (cond v (Some mode) found ≡ None → now ≡ others k old) → found ≡ None → new ≡ others k old
one_left k mode true now old new found is rest left none = is ∙ rest
one_left k mode false now old new found is rest left none = is ∙ left none

pub more_left : (k : ℕ) (other : Resource) (e : Resource × Mode) (now old new : Queue) (this rest : Requests) → new ≡ cond (is_same other e.0) (others k now) now → others k now ≡ others k old
    → this ≡ e ∷ rest → (mode_on other this ≡ None → now ≡ others k old) → mode_on other rest ≡ None → new ≡ others k old
more_left k other e now old new this rest is again front left none =
    one_left k e.1 (is_same other e.0) now old new (mode_on other rest) is again (λ h. left (ap (mode_on other) front ∙ h)) none
