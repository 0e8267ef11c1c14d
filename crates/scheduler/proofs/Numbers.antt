-- Numbers and places, and what is lent to whom.
use Rattle.std.proofs.Common.{◌≡◌, ◌≢◌, ◌<◌, ◌≤◌, ◌+◌, ◌-◌, ◌++◌, ℕ, zero, suc, nat_lt, Bool, true, false, List, [], ◌∷◌, length, Option, Some, None, slice_get, slice_set, refl, sym, ap, ◌∙◌, arith, ◌⊎◌, inl, inr, if◌then◌else◌}
use Rattle.std.proofs.lemmas.Bool.Decides.{nat_tests}
use Rattle.std.proofs.lemmas.Option.{slice_get_past}
use Rattle.std.specs.FinMap.{FinMap, get}
use Rattle.std.specs.Ordering.{nat_cmp}
use Rattle.coarsen.specs.Subtrees.{Requests}
use Rattle.interp.specs.Entries.{EntryParts, entry_shape}
use Rattle.scheduler_core.specs.declared.phase.Phase.{Phase}
use Rattle.scheduler_core.specs.declared.phase.Phase.TheVariants as phase
use Rattle.scheduler_core.specs.Transactions.{Transaction}
use Rattle.scheduler_core.specs.Phases.{is_out, at_number}
use Rattle.scheduler.specs.Logs.{transactions_of}
use Rattle.scheduler.specs.Schedules.{Work, log_of}
use Rattle.scheduler.specs.Scheduled.{plan_out, lent_to}
use Rattle.scheduler.proofs.Places.{push_end, push_before, set_here, set_elsewhere}

-- ---- numbers and places

pub same_number : (a b : ℕ) → (a ≡ b) ⊎ (a ≢ b)
same_number zero zero = inl refl
same_number zero (suc b) = inr (λ e. absurd (omega (arith, e)))
same_number (suc a) zero = inr (λ e. absurd (omega (arith, e)))
same_number (suc a) (suc b) = elim (same_number a b) [
  | inl e ↦ inl (ap suc e)
  | inr n ↦ inr (λ e. n (omega (arith, e)))
]

-- what has a number is at its place
pub at_place : {X : Type 0} (first : ℕ) (xs : List X) (place : ℕ) → at_number first xs (first + place) ≡ slice_get xs place
at_place first xs place =
    let above : nat_lt (first + place) first ≡ false = grind (arith, nat_tests) in
    let back : first + place - first ≡ place = omega arith in
    rw (above, back) refl

below : {X : Type 0} (first : ℕ) (xs : List X) (number : ℕ) → number < first → at_number first xs number ≡ None
below first xs number less = let b : nat_lt number first ≡ true = grind (arith, nat_tests) in rw b refl

pub numbered : {X : Type 0} (first : ℕ) (xs : List X) (number : ℕ) (x : X) → at_number first xs number ≡ Some x → (number ≡ first + (number - first)) × (slice_get xs (number - first) ≡ Some x)
numbered first xs number x is = elim (nat_lt number first) as (λ b. nat_lt number first ≡ b → (if b then None else slice_get xs (number - first)) ≡ Some x → (number ≡ first + (number - first)) × (slice_get xs (number - first) ≡ Some x)) [
  | true ↦ λ _ e. absurd (let g : None ≡ Some x = e in cc)
  | false ↦ λ n e. (let m : first ≤ number = grind (arith, nat_tests) in omega (arith, m), e)
] refl is

-- ---- logs

pub log_at : (entries : List EntryParts) (plans : List Requests) (place : ℕ) (e : EntryParts) (p : Requests) → slice_get entries place ≡ Some e → slice_get plans place ≡ Some p
    → slice_get (transactions_of entries plans) place ≡ Some (record { entry = entry_shape e; plan = p })
log_at [] plans place e p i j = let g : None ≡ Some e = i in cc
log_at (x ∷ entries) [] place e p i j = let g : None ≡ Some p = j in cc
log_at (x ∷ entries) (q ∷ plans) zero e p i j = let a : x ≡ e = cc in let b : q ≡ p = cc in rw (a, b) refl
log_at (x ∷ entries) (q ∷ plans) (suc place) e p i j = log_at entries plans place e p i j

pub log_length : (entries : List EntryParts) (plans : List Requests) → length plans ≡ length entries → length (transactions_of entries plans) ≡ length entries
log_length [] plans e = refl
log_length (x ∷ entries) [] e = absurd (omega (arith, e))
log_length (x ∷ entries) (q ∷ plans) e = ap suc (log_length entries plans (omega (arith, e)))

-- ---- what is lent

no_plan : (o : Option Transaction) → plan_out o None ≡ None
no_plan None = refl
no_plan (Some t) = refl

idle_plan : (o : Option Transaction) → plan_out o (Some phase.Idle) ≡ None
idle_plan None = refl
idle_plan (Some t) = refl

unlent_plan : (o : Option Transaction) (p : Phase) → is_out (Some p) ≡ false → plan_out o (Some p) ≡ None
unlent_plan None p e = refl
unlent_plan (Some t) p e = ap (λ (b : Bool). if b then Some t.plan else None) e

-- one more that is not out
pushed_plan : (o : Option Transaction) (ps : List Phase) (p : Phase) (place : ℕ) → is_out (Some p) ≡ false → plan_out o (slice_get (ps ++ p ∷ []) place) ≡ plan_out o (slice_get ps place)
pushed_plan o ps p place here = elim (same_number place (length ps)) [
  | inl e ↦
      let there : slice_get (ps ++ p ∷ []) place ≡ Some p = ap (slice_get (ps ++ p ∷ [])) e ∙ push_end ps p in
      let past : slice_get ps place ≡ None = slice_get_past ps place (omega (arith, e)) in
      ap (plan_out o) there ∙ unlent_plan o p here ∙ sym (ap (plan_out o) past ∙ no_plan o)
  | inr n ↦ ap (plan_out o) (push_before ps p place n)
]

-- by number, below the first and from the first on
by_place : (first number : ℕ) → (number < first) ⊎ (number ≡ first + (number - first))
by_place first number = elim (nat_lt number first) as (λ b. nat_lt number first ≡ b → (number < first) ⊎ (number ≡ first + (number - first))) [
  | true ↦ λ e. inl (grind (arith, nat_tests))
  | false ↦ λ e. let m : first ≤ number = grind (arith, nat_tests) in inr (omega (arith, m))
] refl

module _ (w : Work) where
  at_lent : (ps : List Phase) (number place : ℕ) → number ≡ w.first + place → lent_to w ps number ≡ plan_out (slice_get (log_of w) place) (slice_get ps place)
  at_lent ps number place e =
      ap (λ n. plan_out (at_number w.first (log_of w) n) (at_number w.first ps n)) e
      ∙ ap (λ o. plan_out o (at_number w.first ps (w.first + place))) (at_place w.first (log_of w) place)
      ∙ ap (plan_out (slice_get (log_of w) place)) (at_place w.first ps place)

  under_lent : (ps : List Phase) (number : ℕ) → number < w.first → lent_to w ps number ≡ None
  under_lent ps number less = ap (λ o. plan_out o (at_number w.first ps number)) (below w.first (log_of w) number less)

  -- before anything is admitted nothing is lent
  pub nothing_lent : (number : ℕ) → lent_to w [] number ≡ None
  nothing_lent number = elim (by_place w.first number) [
    | inl less ↦ under_lent [] number less
    | inr e ↦ at_lent [] number (number - w.first) e ∙ no_plan (slice_get (log_of w) (number - w.first))
  ]

  pub lent_pushed : (ps : List Phase) (p : Phase) (number : ℕ) → is_out (Some p) ≡ false → lent_to w (ps ++ p ∷ []) number ≡ lent_to w ps number
  lent_pushed ps p number here = elim (by_place w.first number) [
    | inl less ↦ under_lent (ps ++ p ∷ []) number less ∙ sym (under_lent ps number less)
    | inr e ↦ at_lent (ps ++ p ∷ []) number (number - w.first) e ∙ pushed_plan (slice_get (log_of w) (number - w.first)) ps p (number - w.first) here ∙ sym (at_lent ps number (number - w.first) e)
  ]

  lent_elsewhere : (ps : List Phase) (place : ℕ) (p : Phase) (number : ℕ) → number ≢ w.first + place → lent_to w (slice_set ps place p) number ≡ lent_to w ps number
  lent_elsewhere ps place p number n = elim (by_place w.first number) [
    | inl less ↦ under_lent (slice_set ps place p) number less ∙ sym (under_lent ps number less)
    | inr e ↦
        at_lent (slice_set ps place p) number (number - w.first) e
        ∙ ap (plan_out (slice_get (log_of w) (number - w.first))) (set_elsewhere ps place (number - w.first) p (λ same. n (omega (arith, e, same))))
        ∙ sym (at_lent ps number (number - w.first) e)
  ]

  -- the plan that is lent to what is out
  pub lent_here : (ps : List Phase) (place : ℕ) (t : Transaction) (p : Phase) → slice_get (log_of w) place ≡ Some t → slice_get ps place ≡ Some p → is_out (Some p) ≡ true → lent_to w ps (w.first + place) ≡ Some t.plan
  lent_here ps place t p at is out =
      at_lent ps (w.first + place) place refl ∙ ap (λ o. plan_out o (slice_get ps place)) at ∙ ap (plan_out (Some t)) is ∙ ap (λ (b : Bool). if b then Some t.plan else None) out

  pub unlent_here : (ps : List Phase) (place : ℕ) → slice_get ps place ≡ Some phase.Idle → lent_to w ps (w.first + place) ≡ None
  unlent_here ps place is = at_lent ps (w.first + place) place refl ∙ ap (plan_out (slice_get (log_of w) place)) is ∙ idle_plan (slice_get (log_of w) place)

  -- who has a plan that is lent
  plan_parts : (o : Option Transaction) (p : Option Phase) (requests : Requests) → plan_out o p ≡ Some requests → (t : Transaction) × (o ≡ Some t) × (is_out p ≡ true) × (requests ≡ t.plan)
  plan_parts None p requests e = absurd (let g : None ≡ Some requests = e in cc)
  plan_parts (Some t) p requests e = elim (is_out p) as (λ b. is_out p ≡ b → (if b then Some t.plan else None) ≡ Some requests → (u : Transaction) × (Some t ≡ Some u) × (is_out p ≡ true) × (requests ≡ u.plan)) [
    | true ↦ λ out i. (t, refl, out, let g : Some t.plan ≡ Some requests = i in cc)
    | false ↦ λ _ i. absurd (let g : None ≡ Some requests = i in cc)
  ] refl e

  pub who : (ps : List Phase) (number : ℕ) (requests : Requests) → lent_to w ps number ≡ Some requests
      → (place : ℕ) × (t : Transaction) × (slice_get (log_of w) place ≡ Some t) × (is_out (slice_get ps place) ≡ true) × (requests ≡ t.plan)
  who ps number requests is = elim (by_place w.first number) [
    | inl less ↦ absurd (let g : None ≡ Some requests = sym (under_lent ps number less) ∙ is in cc)
    | inr e ↦ let p = plan_parts (slice_get (log_of w) (number - w.first)) (slice_get ps (number - w.first)) requests (sym (at_lent ps number (number - w.first) e) ∙ is) in
        (number - w.first, p.0, p.1, p.2, p.3)
  ]

  -- a map that changes at one number
  pub lent_changes : (ps : List Phase) (m new : FinMap nat_cmp Requests) (place : ℕ) (old p : Phase) → ((i : ℕ) → get m i ≡ lent_to w ps i) → slice_get ps place ≡ Some old
      → get new (w.first + place) ≡ plan_out (slice_get (log_of w) place) (Some p) → ((i : ℕ) → i ≢ w.first + place → get new i ≡ get m i)
      → (i : ℕ) → get new i ≡ lent_to w (slice_set ps place p) i
  lent_changes ps m new place old p h is here others i = elim (same_number i (w.first + place)) [
    | inl e ↦ ap (get new) e ∙ here ∙ sym (at_lent (slice_set ps place p) i place e ∙ ap (plan_out (slice_get (log_of w) place)) (set_here ps place old p is))
    | inr n ↦ others i n ∙ h i ∙ sym (lent_elsewhere ps place p i n)
  ]
