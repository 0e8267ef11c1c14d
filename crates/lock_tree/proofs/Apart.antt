-- Who is granted is compatible with all before it, and the first is granted.
use Rattle.std.proofs.Common.{◌≡◌, ℕ, ◌<◌, ◌⊎◌, inl, inr, ◌==◌, zero, suc, Bool, true, false, cond, ◌&&◌, ◌||◌, List, [], ◌∷◌, Option, None, Some, is_some, refl, sym, ◌∙◌, ap, subst, arith, Less, Greater}
use Rattle.std.specs.List.{list_all, Contains, AllByRecursion}
use Rattle.std.specs.Map.{keys_of}
use Rattle.std.specs.List.Sorted.{IsStrictlySortedBy}
use Rattle.std.specs.FinMap.Entries.{find}
use Rattle.std.specs.Ordering.{is_eq, ordering_reverse}
use Rattle.std.proofs.lemmas.Cmp.{tied_itself}
use Rattle.std.proofs.lemmas.Bool.Decides.{nat_tests}
use Rattle.footprint.specs.declared.resource.Resource.{Resource}
use Rattle.footprint.specs.Tree.{resource_cmp}
use Rattle.footprint.proofs.Resources.{resources_total}
use Rattle.footprint.specs.InTreeOrder.{IsInTreeOrder}
use Rattle.modes.specs.declared.mode.Mode.{Mode}
use Rattle.modes.specs.Modes.{are_compatible}
use Rattle.coarsen.specs.Subtrees.{Requests}
use Rattle.lock_tree.specs.Locks.{Waiting, plan_of, AreAbove, IsRising}
use Rattle.lock_tree.specs.Queues.{Queue, mode_on, asks, queue, granted_beside, granted, has_number}
use Rattle.lock_tree.specs.Ready.{all_granted as all_of}
use Rattle.lock_tree.specs.Laws.{ReadyApart, FirstReady}

pub same_itself : (k : ℕ) → (k == k) ≡ true
same_itself k = grind (arith, nat_tests)

pub same_numbers : (i k : ℕ) → (i == k) ≡ true → i ≡ k
same_numbers i k h = grind (arith, nat_tests)

pub other_numbers : (i k : ℕ) → i < k → (i == k) ≡ false
other_numbers i k h = grind (arith, nat_tests)

cases : (b : Bool) → (b ≡ true) ⊎ (b ≡ false)
cases true = inl refl
cases false = inr refl

pub both : (a b : Bool) → (a && b) ≡ true → (a ≡ true) × (b ≡ true)
both true b h = (refl, h)
both false b h = absurd (cc)

or_parts : (a b : Bool) → (a || b) ≡ true → (a ≡ true) ⊎ (b ≡ true)
or_parts true b h = inl refl
or_parts false b h = inr h

or_later : (v : Bool) (m : Mode) (o : Option Mode) → is_some o ≡ true → is_some (cond v (Some m) o) ≡ true
or_later true m o h = refl
or_later false m o h = h

true_false : true ≡ false → ⊥
true_false e = absurd (cc)

some_same : {X : Type 0} (x y : X) → Some x ≡ Some y → x ≡ y
some_same x y e = cc

no_plan : {X : Type 0} (x : X) → None ≡ Some x → ⊥
no_plan x e = absurd (cc)

-- ---- the mode that a plan asks for

keys : (P : Resource → Type 0) (es : Requests) (x : Resource × Mode) → AllByRecursion P (keys_of es) → Contains es x → P x.0
keys P [] x h k = absurd (let l = k.1 in omega (arith, l))
keys P (e ∷ es) x h (zero, l, is) = let at : e.0 ≡ x.0 = ap (λ (y : Resource × Mode). y.0) is in subst P at h.0
keys P (e ∷ es) x h (suc n, l, is) = keys P es x h.1 (n, omega (arith, l), is)

-- a request of a plan is what the plan asks for on its resource
pub asked : (es : Requests) (x : Resource × Mode) → IsInTreeOrder es → Contains es x → mode_on x.0 es ≡ Some x.1
unfolding IsStrictlySortedBy
asked [] x o k = absurd (let l = k.1 in omega (arith, l))
asked (e ∷ es) x o (zero, l, is) =
    let same : e ≡ x = is in
    ap (λ (y : Resource × Mode). cond (is_eq (resource_cmp x.0 y.0)) (Some y.1) (find resource_cmp x.0 es)) same
    ∙ ap (λ t. cond (is_eq t) (Some x.1) (find resource_cmp x.0 es)) (tied_itself resources_total x.0)
asked (e ∷ es) x o (suc n, l, is) =
    let there : Contains es x = (n, omega (arith, l), is) in
    let before = keys (λ y. resource_cmp e.0 y ≡ Less) es x o.0 there in
    let after : resource_cmp x.0 e.0 ≡ Greater = resources_total.antisymm x.0 e.0 ∙ ap ordering_reverse before in
    ap (λ t. cond (is_eq t) (Some e.1) (find resource_cmp x.0 es)) after ∙ asked es x o.1 there

-- ---- past requests of others

pub head_fits : (held : List Mode) (q : ℕ × Mode) (qs : Queue) (k : ℕ) → has_number k (granted_beside held (q ∷ qs)) ≡ true
    → (list_all (λ h. are_compatible h q.1) held ≡ true) × (((q.0 == k) ≡ true) ⊎ (has_number k (granted_beside (q.1 ∷ held) qs) ≡ true))
head_fits held q qs k = elim (list_all (λ h. are_compatible h q.1) held) as (λ v. has_number k (cond v (q ∷ granted_beside (q.1 ∷ held) qs) []) ≡ true → (v ≡ true) × (((q.0 == k) ≡ true) ⊎ (has_number k (granted_beside (q.1 ∷ held) qs) ≡ true))) [
  | true ↦ λ h. (refl, or_parts (q.0 == k) (has_number k (granted_beside (q.1 ∷ held) qs)) h)
  | false ↦ λ h. absurd (cc)
]

passes : (held : List Mode) (n k : ℕ) (o : Option Mode) (qs : Queue) (b : Mode) → (n == k) ≡ false
    → ((more : List Mode) → has_number k (granted_beside more qs) ≡ true → list_all (λ h. are_compatible h b) more ≡ true)
    → has_number k (granted_beside held (asks n o qs)) ≡ true → list_all (λ h. are_compatible h b) held ≡ true
passes held n k None qs b other rest granted = rest held granted
passes held n k (Some c) qs b other rest granted = elim ((head_fits held (n, c) qs k granted).1) [
  | inl here ↦ absurd (true_false (sym here ∙ other))
  | inr later ↦ (both (are_compatible c b) (list_all (λ h. are_compatible h b) held) (rest (c ∷ held) later)).1
]

-- who is granted is compatible with all that is held
granted_fits : (r : Resource) (held : List Mode) (ws : List Waiting) (k : ℕ) (plan : Requests) (b : Mode)
    → plan_of ws k ≡ Some plan → mode_on r plan ≡ Some b → has_number k (granted_beside held (queue r ws)) ≡ true → list_all (λ h. are_compatible h b) held ≡ true
granted_fits r held [] k plan b is on granted = absurd (no_plan plan is)
granted_fits r held (w ∷ ws) k plan b is on granted = elim (w.no == k) as (λ v. (w.no == k) ≡ v → cond v (Some w.plan) (plan_of ws k) ≡ Some plan → list_all (λ h. are_compatible h b) held ≡ true) [
  | true ↦ λ here is.
      let o : mode_on r w.plan ≡ Some b = ap (mode_on r) (some_same w.plan plan is) ∙ on in
      (head_fits held (w.no, b) (queue r ws) k (sym (ap (λ x. has_number k (granted_beside held (asks w.no x (queue r ws)))) o) ∙ granted)).0
  | false ↦ λ elsewhere is. passes held w.no k (mode_on r w.plan) (queue r ws) b elsewhere (λ more. granted_fits r more ws k plan b is on) granted
] refl is

beyond : (held : List Mode) (n k : ℕ) (o : Option Mode) (qs : Queue) (a b : Mode) → (n == k) ≡ false
    → ((more : List Mode) → has_number k (granted_beside more qs) ≡ true → are_compatible a b ≡ true)
    → has_number k (granted_beside held (asks n o qs)) ≡ true → are_compatible a b ≡ true
beyond held n k None qs a b other rest granted = rest held granted
beyond held n k (Some c) qs a b other rest granted = elim ((head_fits held (n, c) qs k granted).1) [
  | inl here ↦ absurd (true_false (sym here ∙ other))
  | inr later ↦ rest (c ∷ held) later
]

above_there : (n : ℕ) (ws : List Waiting) (k : ℕ) (plan : Requests) → AreAbove n ws → plan_of ws k ≡ Some plan → n < k
above_there n [] k plan h is = absurd (no_plan plan is)
above_there n (w ∷ ws) k plan h is = elim (w.no == k) as (λ v. (w.no == k) ≡ v → cond v (Some w.plan) (plan_of ws k) ≡ Some plan → n < k) [
  | true ↦ λ here is. (let e = same_numbers w.no k here in let l = h.0 in omega (arith, e, l))
  | false ↦ λ elsewhere is. above_there n ws k plan h.1 is
] refl is

-- of two that are in a queue, if the later one is granted the two are compatible
granted_apart : (r : Resource) (held : List Mode) (ws : List Waiting) (i k : ℕ) (p q : Requests) (a b : Mode)
    → IsRising ws → i < k → plan_of ws i ≡ Some p → plan_of ws k ≡ Some q → mode_on r p ≡ Some a → mode_on r q ≡ Some b
    → has_number k (granted_beside held (queue r ws)) ≡ true → are_compatible a b ≡ true
granted_apart r held [] i k p q a b rising less first second on_p on_q granted = absurd (no_plan p first)
granted_apart r held (w ∷ ws) i k p q a b rising less first second on_p on_q granted =
    elim (w.no == i) as (λ v. (w.no == i) ≡ v → cond v (Some w.plan) (plan_of ws i) ≡ Some p → are_compatible a b ≡ true) [
      | true ↦ λ here first.
          let o : mode_on r w.plan ≡ Some a = ap (mode_on r) (some_same w.plan p first) ∙ on_p in
          let other : (w.no == k) ≡ false = other_numbers w.no k (let e = same_numbers w.no i here in omega (arith, e, less)) in
          let there : plan_of ws k ≡ Some q = sym (ap (λ v. cond v (Some w.plan) (plan_of ws k)) other) ∙ second in
          let g : has_number k (granted_beside held ((w.no, a) ∷ queue r ws)) ≡ true = sym (ap (λ x. has_number k (granted_beside held (asks w.no x (queue r ws)))) o) ∙ granted in
          elim ((head_fits held (w.no, a) (queue r ws) k g).1) [
            | inl clash ↦ absurd (true_false (sym clash ∙ other))
            | inr later ↦ (both (are_compatible a b) (list_all (λ h. are_compatible h b) held) (granted_fits r (a ∷ held) ws k q b there on_q later)).0
          ]
      | false ↦ λ elsewhere first.
          let before = above_there w.no ws i p rising.0 first in
          let other : (w.no == k) ≡ false = other_numbers w.no k (omega (arith, before, less)) in
          let after : plan_of ws k ≡ Some q = sym (ap (λ v. cond v (Some w.plan) (plan_of ws k)) other) ∙ second in
          beyond held w.no k (mode_on r w.plan) (queue r ws) a b other (λ more. granted_apart r more ws i k p q a b rising.1 less first after on_p on_q) granted
    ] refl first

pub each : (test : Resource × Mode → Bool) (es : Requests) (x : Resource × Mode) → list_all test es ≡ true → Contains es x → test x ≡ true
each test [] x h k = absurd (let l = k.1 in omega (arith, l))
each test (e ∷ es) x h (zero, l, is) = let same : e ≡ x = is in sym (ap test same) ∙ (both (test e) (list_all test es) h).0
each test (e ∷ es) x h (suc n, l, is) = each test es x (both (test e) (list_all test es) h).1 (n, omega (arith, l), is)

pub ready_transactions_apart : ReadyApart
ready_transactions_apart = λ ws rising i k less p q first second sound_p sound_q is_ready (r, m, n, in_p, in_q, h).
    let every : list_all (λ e. has_number k (granted (queue e.0 ws))) q ≡ true = sym (ap (λ o. all_of ws k o) second) ∙ is_ready in
    let here = each (λ e. has_number k (granted (queue e.0 ws))) q (r, n) every in_q in
    true_false (sym (granted_apart r [] ws i k p q m n rising less first second (asked p (r, m) sound_p.ordered in_p) (asked q (r, n) sound_q.ordered in_q) here) ∙ h)

-- ---- the first

first_asks : (k : ℕ) (o : Option Mode) (qs : Queue) → is_some o ≡ true → has_number k (granted (asks k o qs)) ≡ true
first_asks k None qs has = absurd (cc)
first_asks k (Some b) qs has = ap (λ v. v || has_number k (granted_beside (b ∷ []) qs)) (same_itself k)

each_request : (test : Resource → Bool) (es : Requests) → ((r : Resource) → is_some (mode_on r es) ≡ true → test r ≡ true) → list_all (λ e. test e.0) es ≡ true
each_request test [] h = refl
each_request test (e ∷ es) h =
    let here : test e.0 ≡ true = h e.0 (ap (λ t. is_some (cond (is_eq t) (Some e.1) (find resource_cmp e.0 es))) (tied_itself resources_total e.0)) in
    ap (λ v. v && list_all (λ e. test e.0) es) here ∙ each_request test es (λ r has. h r (or_later (is_eq (resource_cmp r e.0)) e.1 (mode_on r es) has))

pub first_is_ready : FirstReady
first_is_ready = λ w ws.
    ap (λ v. all_of (w ∷ ws) w.no (cond v (Some w.plan) (plan_of ws w.no))) (same_itself w.no)
    ∙ each_request (λ r. has_number w.no (granted (queue r (w ∷ ws)))) w.plan (λ r has. first_asks w.no (mode_on r w.plan) (queue r ws) has)
