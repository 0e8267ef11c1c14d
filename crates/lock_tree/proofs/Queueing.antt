-- What one more transaction at the end of its queues changes.
use Rattle.std.proofs.Common.{◌≡◌, ℕ, ◌<◌, ◌==◌, inl, Bool, true, false, cond, ◌&&◌, ◌||◌, List, [], ◌∷◌, ◌++◌, Option, None, Some, refl, sym, ◌∙◌, ap, subst, arith, Less}
use Rattle.std.specs.List.{list_all, AllByRecursion}
use Rattle.std.specs.Map.{keys_of}
use Rattle.std.specs.List.Sorted.{IsStrictlySortedBy}
use Rattle.std.specs.Ordering.{is_eq, ordering_reverse}
use Rattle.std.proofs.lemmas.Bool.Decides.{nat_tests}
use Rattle.footprint.specs.declared.resource.Resource.{Resource}
use Rattle.footprint.specs.Tree.{resource_cmp}
use Rattle.modes.specs.declared.mode.Mode.{Mode}
use Rattle.modes.specs.Modes.{are_compatible}
use Rattle.coarsen.specs.Subtrees.{Requests}
use Rattle.lock_tree.specs.Entered.{Enqueued}
use Rattle.lock_tree.specs.Locks.{Waiting}
use Rattle.lock_tree.specs.Queues.{Queue, mode_on, asks, queue, granted_beside, granted, has_number}
use Rattle.lock_tree.specs.Enqueues.{AreBelow}
use Rattle.lock_tree.specs.Lines.{is_same, numbers_of, AllUnder}
use Rattle.lock_tree.specs.Known.{granted_in, Knows, AreKnown}
use Rattle.lock_tree.specs.Views.{all_waiting}
use Rattle.footprint.proofs.Resources.{resources_total}
use Rattle.footprint.specs.InTreeOrder.{IsInTreeOrder}
use Rattle.lock_tree.proofs.Resources.{same_resource}

-- ---- the resources of a plan stand once each

other_later : (r x : Resource) → resource_cmp r x ≡ Less → is_same x r ≡ false
other_later r x h = ap is_eq (resources_total.antisymm x r ∙ ap ordering_reverse h)

-- none of the later ones is the first
none_later : (r other : Resource) (plan : Requests) → is_same other r ≡ true → AllByRecursion (λ x. resource_cmp r x ≡ Less) (keys_of plan) → mode_on other plan ≡ None
none_later r other [] same later = refl
none_later r other (e ∷ plan) same later =
    let at : other ≡ r = same_resource other r same in
    let turned : is_same other e.0 ≡ false = ap (λ x. is_same x e.0) at ∙ ap is_eq later.0 in
    ap (λ v. cond v (Some e.1) (mode_on other plan)) turned ∙ none_later r other plan same later.1

nothing_added : (q : Queue) → q ++ [] ≡ q
nothing_added [] = refl
nothing_added (x ∷ q) = ap (λ xs. x ∷ xs) (nothing_added q)

one_joined : (number : ℕ) (mode : Mode) (v : Bool) (now new target : Queue) (found : Option Mode) → new ≡ cond v (now ++ (number, mode) ∷ []) now
    → (v ≡ true → found ≡ None) → now ++ asks number (cond v (Some mode) found) [] ≡ target → new ++ asks number found [] ≡ target
one_joined number mode true now new target found is none before =
    ap (λ o. new ++ asks number o []) (none refl) ∙ nothing_added new ∙ is ∙ before
one_joined number mode false now new target found is none before = ap (λ xs. xs ++ asks number found []) is ∙ before

sorted_first : (e : Resource × Mode) (plan : Requests) → IsInTreeOrder (e ∷ plan) → AllByRecursion (λ x. resource_cmp e.0 x ≡ Less) (keys_of plan)
unfolding IsStrictlySortedBy
sorted_first e plan h = h.0

sorted_rest : (e : Resource × Mode) (plan : Requests) → IsInTreeOrder (e ∷ plan) → IsInTreeOrder plan
unfolding IsStrictlySortedBy
sorted_rest e plan h = h.1

-- a request joined, and the others are still to join
pub more_joined : (number : ℕ) (other : Resource) (e : Resource × Mode) (this rest : Requests) (now new target : Queue) → this ≡ e ∷ rest → IsInTreeOrder this
    → new ≡ cond (is_same other e.0) (now ++ (number, e.1) ∷ []) now → now ++ asks number (mode_on other this) [] ≡ target → new ++ asks number (mode_on other rest) [] ≡ target
more_joined number other e this rest now new target front sorted is before =
    let later = sorted_first e rest (subst (λ (p : Requests). IsInTreeOrder p) front sorted) in
    one_joined number e.1 (is_same other e.0) now new target (mode_on other rest) is (λ same. none_later e.0 other rest same later)
    (sym (ap (λ (p : Requests). now ++ asks number (mode_on other p) []) front) ∙ before)

pub still_apart : (e : Resource × Mode) (this rest : Requests) → this ≡ e ∷ rest → IsInTreeOrder this → IsInTreeOrder rest
still_apart e this rest front sorted = sorted_rest e rest (subst (λ (p : Requests). IsInTreeOrder p) front sorted)

-- what holds of all other resources goes on holding of the later ones
module _ (before after : Resource → Type 0) where
  kept_later : (r : Resource) (plan : Requests) → AllByRecursion (λ x. resource_cmp r x ≡ Less) (keys_of plan)
      → ((other : Resource) → is_same other r ≡ false → before other → after other) → AllByRecursion (λ e. before e.0) plan → AllByRecursion (λ e. after e.0) plan
  kept_later r [] later kept all = tt
  kept_later r (e ∷ plan) later kept all = (kept e.0 (other_later r e.0 later.0) all.0, kept_later r plan later.1 kept all.1)

  pub still_of_later : (e : Resource × Mode) (this rest : Requests) → this ≡ e ∷ rest → IsInTreeOrder this
      → ((other : Resource) → is_same other e.0 ≡ false → before other → after other) → AllByRecursion (λ x. before x.0) this → AllByRecursion (λ x. after x.0) rest
  still_of_later e this rest front sorted kept all =
      let later = sorted_first e rest (subst (λ (p : Requests). IsInTreeOrder p) front sorted) in
      kept_later e.0 rest later kept (subst (λ (p : Requests). AllByRecursion (λ x. before x.0) p) front all).1

-- a queue whose numbers are less, where another one changed
pub under_kept : (number : ℕ) (v : Bool) (now longer new : Queue) → new ≡ cond v longer now → v ≡ false → AllUnder number (numbers_of now) → AllUnder number (numbers_of new)
under_kept number v now longer new is other under = subst (λ (q : Queue). AllUnder number (numbers_of q)) (sym (is ∙ ap (λ b. cond b longer now) other)) under

-- all numbers of a queue are less than the next one
under_next : (number : ℕ) (r : Resource) (ws : List Waiting) → AreBelow number ws → AllUnder number (numbers_of (queue r ws))
under_next number r [] below = tt
under_next number r (w ∷ ws) below = elim (mode_on r w.plan) as (λ o. AllUnder number (numbers_of (asks w.no o (queue r ws)))) [
  | None ↦ under_next number r ws below.1
  | Some mode ↦ (below.0, under_next number r ws below.1)
]

pub plan_under_next : (number : ℕ) (lines : Resource → Queue) (ws : List Waiting) → ((r : Resource) → lines r ≡ queue r ws) → AreBelow number ws
    → (plan : Requests) → AllByRecursion (λ e. AllUnder number (numbers_of (lines e.0))) plan
plan_under_next number lines ws is below [] = tt
plan_under_next number lines ws is below (e ∷ plan) =
    (subst (λ (q : Queue). AllUnder number (numbers_of q)) (sym (is e.0)) (under_next number e.0 ws below), plan_under_next number lines ws is below plan)

-- ---- nothing changes for those before

granted_before : (held : List Mode) (n k : ℕ) (mode : Mode) (q : Queue) → (k == n) ≡ false → has_number n (granted_beside held (q ++ (k, mode) ∷ [])) ≡ has_number n (granted_beside held q)
granted_before held n k mode [] other = elim (list_all (λ h. are_compatible h mode) held) as (λ v. has_number n (cond v ((k, mode) ∷ []) []) ≡ false) [
  | true ↦ ap (λ v. v || false) other
  | false ↦ refl
]
granted_before held n k mode (x ∷ q) other = elim (list_all (λ h. are_compatible h x.1) held) as (λ v. has_number n (cond v (x ∷ granted_beside (x.1 ∷ held) (q ++ (k, mode) ∷ [])) []) ≡ has_number n (cond v (x ∷ granted_beside (x.1 ∷ held) q) [])) [
  | true ↦ ap (λ v. (x.0 == n) || v) (granted_before (x.1 ∷ held) n k mode q other)
  | false ↦ refl
]

asked_before : (n k : ℕ) (o : Option Mode) (q : Queue) → (k == n) ≡ false → has_number n (granted (q ++ asks k o [])) ≡ has_number n (granted q)
asked_before n k None q other = ap (λ xs. has_number n (granted xs)) (nothing_added q)
asked_before n k (Some mode) q other = granted_before [] n k mode q other

later_other : (n k : ℕ) → n < k → (k == n) ≡ false
later_other n k h = grind (arith, nat_tests)

module _ (k : ℕ) (old new : Resource → Queue) (modes : Resource → Option Mode) (joined : (x : Resource) → new x ≡ old x ++ asks k (modes x) []) where
  plan_before : (n : ℕ) → (k == n) ≡ false → (plan : Requests) → granted_in new n plan ≡ granted_in old n plan
  plan_before n other [] = refl
  plan_before n other (e ∷ plan) =
      ap (λ xs. has_number n (granted xs) && granted_in new n plan) (joined e.0)
      ∙ ap (λ v. v && granted_in new n plan) (asked_before n k (modes e.0) (old e.0) other)
      ∙ ap (λ v. has_number n (granted (old e.0)) && v) (plan_before n other plan)

  pub known_before : (es : List Enqueued) → AreBelow k (all_waiting es) → AreKnown old [] es → AreKnown new [] es
  known_before [] below known = tt
  known_before (e ∷ es) below known =
      let same = plan_before e.no (later_other e.no k below.0) e.plan.value in (
        record { sound = λ h. same ∙ known.0.sound h; complete = λ g. known.0.complete (sym same ∙ g) },
        known_before es below.1 known.1,
      )

pub knows_exactly : (queues : Resource → Queue) (e : Enqueued) → e.ready ≡ granted_in queues e.no e.plan.value → Knows queues [] e
knows_exactly queues e is = record { sound = λ h. sym is ∙ h; complete = λ g. inl (is ∙ g) }

pub known_and : (queues : Resource → Queue) (es : List Enqueued) (e : Enqueued) → AreKnown queues [] es → Knows queues [] e → AreKnown queues [] (es ++ e ∷ [])
known_and queues [] e known one = (one, tt)
known_and queues (f ∷ es) e known one = (known.0, known_and queues es e known.1 one)
