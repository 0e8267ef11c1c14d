-- One more transaction, where all that wait are ready.
use Rattle.std.proofs.Common.{◌≡◌, ℕ, ◌<◌, ◌==◌, zero, suc, Bool, true, false, cond, ◌&&◌, ◌||◌, List, [], ◌∷◌, length, None, Some, refl, sym, ◌∙◌, ap, subst, arith}
use Rattle.std.proofs.lemmas.Bool.Decides.{nat_tests}
use Rattle.std.specs.List.{list_all, Contains}
use Rattle.std.specs.FinMap.Entries.{find}
use Rattle.std.specs.Ordering.{is_eq}
use Rattle.footprint.specs.declared.resource.Resource.{Resource}
use Rattle.footprint.specs.Tree.{resource_cmp}
use Rattle.modes.specs.declared.mode.Mode.{Mode}
use Rattle.modes.specs.Modes.{are_compatible}
use Rattle.coarsen.specs.Subtrees.{Requests}
use Rattle.coarsen.specs.Clashes.{ModesClash}
use Rattle.lock_tree.specs.Locks.{Waiting, plan_of, AreAbove, IsRising}
use Rattle.lock_tree.specs.Queues.{Queue, mode_on, asks, queue, granted_beside, granted, has_number}
use Rattle.lock_tree.specs.Ready.{ready, all_granted}
use Rattle.lock_tree.specs.Lines.{modes_of, numbers_of}
use Rattle.lock_tree.specs.Open.{AllOver, AreRising}
use Rattle.lock_tree.specs.Granted.{admits}
use Rattle.lock_tree.specs.Laws.{ReadyBeside}
use Rattle.lock_tree.proofs.Apart.{same_itself, other_numbers, each}
use Rattle.lock_tree.proofs.Joining.{joins}
use Rattle.lock_tree.proofs.Resources.{same_resource}

contains_later : {X : Type 0} (x : X) (xs : List X) (y : X) → Contains xs y → Contains (x ∷ xs) y
contains_later x xs y (k, l, is) = (suc k, omega (arith, l), is)

-- ---- a queue in which each request is granted

over_each : (n : ℕ) (q : Queue) (x : ℕ × Mode) → AllOver n (numbers_of q) → Contains q x → n < x.0
over_each n [] x over there = absurd (let l = there.1 in omega (arith, l))
over_each n (y ∷ q) x over (zero, l, is) = subst (λ (z : ℕ × Mode). n < z.0) is over.0
over_each n (y ∷ q) x over (suc k, l, is) = over_each n q x over.1 (k, omega (arith, l), is)

past : (a : Bool) (b : Bool) → a ≡ false → (a || b) ≡ true → b ≡ true
past a b barred is = ap (λ v. v || b) (sym barred) ∙ is

-- then its longest compatible front is all of it
all_of_it : (held : List Mode) (q : Queue) → AreRising (numbers_of q) → ((x : ℕ × Mode) → Contains q x → has_number x.0 (granted_beside held q) ≡ true)
    → length (granted_beside held q) ≡ length q
all_of_it held [] rising all = refl
all_of_it held (x ∷ q) rising all = elim (list_all (λ h. are_compatible h x.1) held) as (λ v. ((y : ℕ × Mode) → Contains (x ∷ q) y → has_number y.0 (cond v (x ∷ granted_beside (x.1 ∷ held) q) []) ≡ true)
    → length (cond v (x ∷ granted_beside (x.1 ∷ held) q) []) ≡ suc (length q)) [
      | true ↦ λ granted. ap suc (all_of_it (x.1 ∷ held) q rising.1
          (λ y there. past (x.0 == y.0) (has_number y.0 (granted_beside (x.1 ∷ held) q)) (other_numbers x.0 y.0 (over_each x.0 q y rising.0 there)) (granted y (contains_later x q y there))))
      | false ↦ λ granted. absurd (let g : false ≡ true = granted x (0, omega arith, refl) in cc)
    ] all

-- ---- the queue of a resource, by the plans of those that wait

over_queue : (n : ℕ) (r : Resource) (ws : List Waiting) → AreAbove n ws → AllOver n (numbers_of (queue r ws))
over_queue n r [] above = tt
over_queue n r (w ∷ ws) above = elim (mode_on r w.plan) as (λ o. AllOver n (numbers_of (asks w.no o (queue r ws)))) [
  | None ↦ over_queue n r ws above.1
  | Some mode ↦ (above.0, over_queue n r ws above.1)
]

rising_queue : (r : Resource) (ws : List Waiting) → IsRising ws → AreRising (numbers_of (queue r ws))
rising_queue r [] rising = tt
rising_queue r (w ∷ ws) rising = elim (mode_on r w.plan) as (λ o. AreRising (numbers_of (asks w.no o (queue r ws)))) [
  | None ↦ rising_queue r ws rising.1
  | Some mode ↦ (over_queue w.no r ws rising.0, rising_queue r ws rising.1)
]

-- who asks for it
abbrev Asker : Resource → List Waiting → ℕ × Mode → Type 0
Asker r ws x = (w : Waiting) × Contains ws w × (w.no ≡ x.0) × (mode_on r w.plan ≡ Some x.1)

later : (r : Resource) (w : Waiting) (ws : List Waiting) (x : ℕ × Mode) → Asker r ws x → Asker r (w ∷ ws) x
later r w ws x a = (a.0, contains_later w ws a.0 a.1, a.2, a.3)

first_asker : (r : Resource) (w : Waiting) (ws : List Waiting) (x : ℕ × Mode) (mode : Mode) → mode_on r w.plan ≡ Some mode → ((y : ℕ × Mode) → Contains (queue r ws) y → Asker r ws y)
    → Contains ((w.no, mode) ∷ queue r ws) x → Asker r (w ∷ ws) x
first_asker r w ws x mode on others (zero, l, is) = (w, (0, omega arith, refl), ap (λ (y : ℕ × Mode). y.0) is, on ∙ ap (λ (y : ℕ × Mode). Some y.1) is)
first_asker r w ws x mode on others (suc k, l, is) = later r w ws x (others x (k, omega (arith, l), is))

asker : (r : Resource) (ws : List Waiting) (x : ℕ × Mode) → Contains (queue r ws) x → Asker r ws x
asker r [] x there = absurd (let l = there.1 in omega (arith, l))
asker r (w ∷ ws) x there = elim (mode_on r w.plan) as (λ o. mode_on r w.plan ≡ o → Contains (asks w.no o (queue r ws)) x → Asker r (w ∷ ws) x) [
  | None ↦ λ _ there. later r w ws x (asker r ws x there)
  | Some mode ↦ λ on there. first_asker r w ws x mode on (asker r ws) there
] refl there

-- what a plan asks for on a resource is one of its requests
requested : (r : Resource) (es : Requests) (mode : Mode) → mode_on r es ≡ Some mode → Contains es (r, mode)
requested r [] mode on = absurd (let g : None ≡ Some mode = on in cc)
requested r (e ∷ es) mode on = elim (is_eq (resource_cmp r e.0)) as (λ v. is_eq (resource_cmp r e.0) ≡ v → cond v (Some e.1) (find resource_cmp r es) ≡ Some mode → Contains (e ∷ es) (r, mode)) [
  | true ↦ λ same on.
      let here : r ≡ e.0 = same_resource r e.0 same in
      let at : e.1 ≡ mode = cc in
      (0, omega arith, sym (ap (λ (s : Resource). (s, mode)) here ∙ ap (λ m. (e.0, m)) (sym at)))
  | false ↦ λ _ on. contains_later e es (r, mode) (requested r es mode on)
] refl on

above_each : (n : ℕ) (ws : List Waiting) (w : Waiting) → AreAbove n ws → Contains ws w → n < w.no
above_each n [] w above there = absurd (let l = there.1 in omega (arith, l))
above_each n (x ∷ ws) w above (zero, l, is) = subst (λ (y : Waiting). n < y.no) is above.0
above_each n (x ∷ ws) w above (suc k, l, is) = above_each n ws w above.1 (k, omega (arith, l), is)

plan_there : (ws : List Waiting) (w : Waiting) → IsRising ws → Contains ws w → plan_of ws w.no ≡ Some w.plan
plan_there [] w rising there = absurd (let l = there.1 in omega (arith, l))
plan_there (x ∷ ws) w rising (zero, l, is) =
    subst (λ (y : Waiting). plan_of (x ∷ ws) y.no ≡ Some y.plan) is (ap (λ v. cond v (Some x.plan) (plan_of ws x.no)) (same_itself x.no))
plan_there (x ∷ ws) w rising (suc k, l, is) =
    let there : Contains ws w = (k, omega (arith, l), is) in
    ap (λ v. cond v (Some x.plan) (plan_of ws w.no)) (other_numbers x.no w.no (above_each x.no ws w rising.0 there)) ∙ plan_there ws w rising.1 there

-- ---- one more

all_modes : (mode : Mode) (q : Queue) → ((x : ℕ × Mode) → Contains q x → are_compatible x.1 mode ≡ true) → list_all (λ h. are_compatible h mode) (modes_of q) ≡ true
all_modes mode [] all = refl
all_modes mode (x ∷ q) all =
    ap (λ v. v && list_all (λ h. are_compatible h mode) (modes_of q)) (all x (0, omega arith, refl)) ∙ all_modes mode q (λ y there. all y (contains_later x q y there))

every : (test : Resource × Mode → Bool) (es : Requests) → ((e : Resource × Mode) → Contains es e → test e ≡ true) → list_all test es ≡ true
every test [] all = refl
every test (e ∷ es) all = ap (λ v. v && list_all test es) (all e (0, omega arith, refl)) ∙ every test es (λ x there. all x (contains_later e es x there))

not_false : (b : Bool) → (b ≡ false → ⊥) → b ≡ true
not_false true h = refl
not_false false h = absurd (h refl)

module _ (ws : List Waiting) (rising : IsRising ws) (plan : Requests)
    (apart : (other : ℕ) (p : Requests) → plan_of ws other ≡ Some p → (ready ws other ≡ true) × (ModesClash p plan → ⊥)) where
  module _ (e : Resource × Mode) (asks_for : Contains plan e) (x : ℕ × Mode) (there : Contains (queue e.0 ws) x) where
    who : Asker e.0 ws x
    who = asker e.0 ws x there

    has_plan : plan_of ws who.0.no ≡ Some who.0.plan
    has_plan = plan_there ws who.0 rising who.1

    its_request : Contains who.0.plan (e.0, x.1)
    its_request = requested e.0 who.0.plan x.1 who.3

    is_granted : has_number x.0 (granted (queue e.0 ws)) ≡ true
    is_granted =
        let granted_all : list_all (λ (y : Resource × Mode). has_number who.0.no (granted (queue y.0 ws))) who.0.plan ≡ true = sym (ap (all_granted ws who.0.no) has_plan) ∙ (apart who.0.no who.0.plan has_plan).0 in
        ap (λ n. has_number n (granted (queue e.0 ws))) (sym who.2)
        ∙ each (λ (y : Resource × Mode). has_number who.0.no (granted (queue y.0 ws))) who.0.plan (e.0, x.1) granted_all its_request

    goes_with : are_compatible x.1 e.1 ≡ true
    goes_with = not_false (are_compatible x.1 e.1) (λ bars. (apart who.0.no who.0.plan has_plan).1 (e.0, x.1, e.1, its_request, asks_for, bars))

  admitted : (e : Resource × Mode) → Contains plan e → admits (queue e.0 ws) e.1 ≡ true
  admitted e asks_for =
      let whole : length (granted (queue e.0 ws)) ≡ length (queue e.0 ws) = all_of_it [] (queue e.0 ws) (rising_queue e.0 ws rising) (λ x there. is_granted e asks_for x there) in
      ap (λ v. v && list_all (λ h. are_compatible h e.1) (modes_of (queue e.0 ws))) (let t : (length (granted (queue e.0 ws)) == length (queue e.0 ws)) ≡ true = grind (arith, nat_tests) in t)
      ∙ all_modes e.1 (queue e.0 ws) (λ x there. goes_with e asks_for x there)

pub one_more_is_ready : ReadyBeside
one_more_is_ready = λ ws rising number below plan sound apart.
    joins ws number plan below sound ∙ every (λ e. admits (queue e.0 ws) e.1) plan (λ e there. admitted ws rising plan apart e there)
