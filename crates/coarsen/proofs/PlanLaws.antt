-- Which requests a plan has.
use Rattle.std.proofs.Common.{◌≡◌, ℕ, true, [], ◌∷◌, refl, sym, ap, ◌∙◌, subst, arith, inl, inr}
use Rattle.std.specs.List.{Contains}
use Rattle.footprint.specs.declared.resource.Resource.{Resource}
use Rattle.footprint.specs.Rights.{FootprintOf}
use Rattle.modes.specs.declared.mode.Mode.{Mode}
use Rattle.modes.specs.declared.mode.Mode.TheVariants.{IntentionShared, IntentionExclusive, Shared, SharedIntentionExclusive, Exclusive}
use Rattle.modes.specs.Modes.{own, subtree}
use Rattle.coarsen.specs.Subtrees.{Requests, is_same, greatest, right_on, right_under}
use Rattle.coarsen.specs.Plans.{IsPlanOf}
use Rattle.coarsen.specs.Laws.{PlansAreExact, ClashEitherWay}
use Rattle.footprint.proofs.Resources.{resources_total}
use Rattle.footprint.specs.InTreeOrder.{IsInTreeOrder}
use Rattle.coarsen.proofs.Tree.{same_resource, is_same_itself}
use Rattle.coarsen.proofs.Greatest.{has_greatest, some_greatest, greatest_least, first_or_later, later}
use Rattle.coarsen.proofs.Planning.{subtree_some}
use Rattle.coarsen.proofs.Merging.{less_than_later, ordered_tail, not_itself, conflict_turned}
use Rattle.coarsen.proofs.Clashing.{clash_either}

-- a mode is its pair of rights
one_mode : (a b : Mode) → own a ≡ own b → subtree a ≡ subtree b → a ≡ b
one_mode IntentionShared IntentionShared h k = refl
one_mode IntentionShared IntentionExclusive h k = absurd (omega (arith, k))
one_mode IntentionShared Shared h k = absurd (omega (arith, h))
one_mode IntentionShared SharedIntentionExclusive h k = absurd (omega (arith, h))
one_mode IntentionShared Exclusive h k = absurd (omega (arith, h))
one_mode IntentionExclusive IntentionShared h k = absurd (omega (arith, k))
one_mode IntentionExclusive IntentionExclusive h k = refl
one_mode IntentionExclusive Shared h k = absurd (omega (arith, h))
one_mode IntentionExclusive SharedIntentionExclusive h k = absurd (omega (arith, h))
one_mode IntentionExclusive Exclusive h k = absurd (omega (arith, h))
one_mode Shared IntentionShared h k = absurd (omega (arith, h))
one_mode Shared IntentionExclusive h k = absurd (omega (arith, h))
one_mode Shared Shared h k = refl
one_mode Shared SharedIntentionExclusive h k = absurd (omega (arith, k))
one_mode Shared Exclusive h k = absurd (omega (arith, h))
one_mode SharedIntentionExclusive IntentionShared h k = absurd (omega (arith, h))
one_mode SharedIntentionExclusive IntentionExclusive h k = absurd (omega (arith, h))
one_mode SharedIntentionExclusive Shared h k = absurd (omega (arith, k))
one_mode SharedIntentionExclusive SharedIntentionExclusive h k = refl
one_mode SharedIntentionExclusive Exclusive h k = absurd (omega (arith, h))
one_mode Exclusive IntentionShared h k = absurd (omega (arith, h))
one_mode Exclusive IntentionExclusive h k = absurd (omega (arith, h))
one_mode Exclusive Shared h k = absurd (omega (arith, h))
one_mode Exclusive SharedIntentionExclusive h k = absurd (omega (arith, h))
one_mode Exclusive Exclusive h k = refl

-- a resource stands once
one_request : (es : Requests) (a b : Resource × Mode) → IsInTreeOrder es → Contains es a → Contains es b → is_same a.0 b.0 ≡ true → b ≡ a
one_request [] a b o i j t = absurd (let l = i.1 in omega (arith, l))
one_request (e ∷ es) a b o i j t =
    let at = same_resource a.0 b.0 t in
    elim (first_or_later e es a i) [
      | inl x ↦ elim (first_or_later e es b j) [
        | inl y ↦ sym y ∙ x
        | inr l ↦ absurd (not_itself e.0 b.0 (less_than_later (e ∷ es) es e b refl o l) (ap (λ (q : Resource × Mode). q.0) x ∙ at))
      ]
      | inr k ↦ elim (first_or_later e es b j) [
        | inl y ↦ absurd (not_itself e.0 a.0 (less_than_later (e ∷ es) es e a refl o k) (ap (λ (q : Resource × Mode). q.0) y ∙ sym at))
        | inr l ↦ one_request es a b (ordered_tail (e ∷ es) es e refl o) k l t
      ]
    ]

-- so the rights of a resource are those of its request
rights_of : (f : Mode → ℕ) (es : Requests) (a : Resource × Mode) → IsInTreeOrder es → Contains es a → greatest f (is_same a.0) es ≡ f a.1
rights_of f es a o i =
    let low = has_greatest f (is_same a.0) es a i (is_same_itself a.0) in
    let high = greatest_least f (is_same a.0) es (f a.1) (λ b j t. let e : f b.1 ≡ f a.1 = ap (λ (q : Resource × Mode). f q.1) (one_request es a b o i j t) in omega (arith, e)) in
    omega (arith, low, high)

request_is : (f : FootprintOf) (plan : Requests) → IsPlanOf f plan → (r : Resource) (m : Mode) → Contains plan (r, m) → (own m ≡ right_on f r) × (subtree m ≡ right_under f r)
request_is f plan is r m k = (sym (rights_of own plan (r, m) is.ordered k) ∙ is.owns r, sym (rights_of subtree plan (r, m) is.ordered k) ∙ is.subtrees r)

request_there : (f : FootprintOf) (plan : Requests) → IsPlanOf f plan → (r : Resource) (m : Mode) → own m ≡ right_on f r → subtree m ≡ right_under f r → Contains plan (r, m)
request_there f plan is r m h k =
    let s = is.subtrees r in
    let some = subtree_some m in
    let e = some_greatest subtree (is_same r) plan (subtree m) some (omega (arith, s, k)) in
    let at : r ≡ e.0.0 = same_resource r e.0.0 e.2 in
    let there : Contains plan (r, e.0.1) = subst (Contains plan) (ap (λ (q : Resource). (q, e.0.1)) (sym at)) e.1 in
    let rights = request_is f plan is r e.0.1 there in
    subst (λ (n : Mode). Contains plan (r, n)) (one_mode e.0.1 m (rights.0 ∙ sym h) (rights.1 ∙ sym k)) there

before : (e d : Resource × Mode) (es ds : Requests) → IsInTreeOrder (e ∷ es) → IsInTreeOrder (d ∷ ds)
    → Contains (d ∷ ds) e → Contains (e ∷ es) d → e ≡ d
before e d es ds o p i j = elim (first_or_later d ds e i) [
  | inl same ↦ sym same
  | inr k ↦ elim (first_or_later e es d j) [
    | inl same ↦ same
    | inr l ↦
        let x = less_than_later (d ∷ ds) ds d e refl p k in
        let y = less_than_later (e ∷ es) es e d refl o l in
        absurd (not_itself e.0 e.0 (resources_total.trans e.0 d.0 e.0 y x) refl)
  ]
]

-- lists in order with the same requests are one
one_list : (es ds : Requests) → IsInTreeOrder es → IsInTreeOrder ds
    → ((x : Resource × Mode) → Contains es x → Contains ds x) → ((x : Resource × Mode) → Contains ds x → Contains es x) → es ≡ ds
one_list [] [] o p f g = refl
one_list [] (d ∷ ds) o p f g = absurd (let l = (g d (0, omega arith, refl)).1 in omega (arith, l))
one_list (e ∷ es) [] o p f g = absurd (let l = (f e (0, omega arith, refl)).1 in omega (arith, l))
one_list (e ∷ es) (d ∷ ds) o p f g =
    let same = before e d es ds o p (f e (0, omega arith, refl)) (g d (0, omega arith, refl)) in
    let rest = one_list es ds (ordered_tail (e ∷ es) es e refl o) (ordered_tail (d ∷ ds) ds d refl p)
    (λ x k. elim (first_or_later d ds x (f x (later e es x k))) [
      | inl at ↦ absurd (not_itself e.0 x.0 (less_than_later (e ∷ es) es e x refl o k) (ap (λ (q : Resource × Mode). q.0) (same ∙ at)))
      | inr l ↦ l
    ])
    (λ x k. elim (first_or_later e es x (g x (later d ds x k))) [
      | inl at ↦ absurd (not_itself d.0 x.0 (less_than_later (d ∷ ds) ds d x refl p k) (ap (λ (q : Resource × Mode). q.0) (sym same ∙ at)))
      | inr l ↦ l
    ]) in
    ap (λ q. q ∷ es) same ∙ ap (λ qs. d ∷ qs) rest

moved_over : (f : FootprintOf) (a b : Requests) → IsPlanOf f a → IsPlanOf f b → (x : Resource × Mode) → Contains a x → Contains b x
moved_over f a b is at x k = let r = request_is f a is x.0 x.1 k in request_there f b at x.0 x.1 r.0 r.1

pub plans_exact : PlansAreExact
plans_exact = record {
  requests = λ f plan is r m. (λ k. request_is f plan is r m k, λ (h, k). request_there f plan is r m h k);
  one = λ f a b is at. one_list a b is.ordered at.ordered (moved_over f a b is at) (moved_over f b a at is);
}

pub clash_either_way : ClashEitherWay
clash_either_way = record { requests = conflict_turned; rows = clash_either }
