-- What is ready stays ready.
use Rattle.std.proofs.Common.{◌≡◌, ◌≢◌, ℕ, ◌⊎◌, inl, inr, ◌==◌, Bool, true, false, cond, not, ◌&&◌, ◌||◌, List, [], ◌∷◌, ◌++◌, Option, None, Some, is_some, refl, sym, ◌∙◌, ap, arith}
use Rattle.std.specs.List.{list_all}
use Rattle.std.proofs.lemmas.Bool.Decides.{nat_tests}
use Rattle.footprint.specs.declared.resource.Resource.{Resource}
use Rattle.modes.specs.declared.mode.Mode.{Mode}
use Rattle.modes.specs.Modes.{are_compatible}
use Rattle.coarsen.specs.Subtrees.{Requests}
use Rattle.lock_tree.specs.Locks.{Waiting, plan_of, without, with_mark}
use Rattle.lock_tree.specs.Lines.{others}
use Rattle.lock_tree.specs.Queues.{Queue, mode_on, asks, queue, granted_beside, granted, has_number}
use Rattle.lock_tree.specs.Ready.{ready, all_granted}
use Rattle.lock_tree.specs.Laws.{ReadyStays}
use Rattle.lock_tree.proofs.Apart.{both, head_fits, same_numbers}
use Rattle.lock_tree.proofs.Below.{ready_there}
use Rattle.lock_tree.proofs.Trees.{queue_end, queue_marked, queue_without}

-- ---- in a queue

-- what goes with all of the one list goes with all of the other
abbrev Fewer : List Mode → List Mode → Type 0
Fewer less more = (b : Mode) → list_all (λ h. are_compatible h b) more ≡ true → list_all (λ h. are_compatible h b) less ≡ true

without_first : (less more : List Mode) (m : Mode) → Fewer less more → Fewer less (m ∷ more)
without_first less more m fewer b all = fewer b (both (are_compatible m b) (list_all (λ h. are_compatible h b) more) all).1

with_first : (less more : List Mode) (m : Mode) → Fewer less more → Fewer (m ∷ less) (m ∷ more)
with_first less more m fewer b all =
    let (here, rest) = both (are_compatible m b) (list_all (λ h. are_compatible h b) more) all in
    ap (λ v. v && list_all (λ h. are_compatible h b) less) here ∙ fewer b rest

or_second : (a b : Bool) → b ≡ true → (a || b) ≡ true
or_second true b h = refl
or_second false b h = h

-- a request that fits is granted, and so is who is granted after it
granted_after : (held : List Mode) (q : ℕ × Mode) (qs : Queue) (n : ℕ) → list_all (λ h. are_compatible h q.1) held ≡ true
    → ((q.0 == n) ≡ true) ⊎ (has_number n (granted_beside (q.1 ∷ held) qs) ≡ true) → has_number n (granted_beside held (q ∷ qs)) ≡ true
granted_after held q qs n fits who =
    ap (λ v. has_number n (cond v (q ∷ granted_beside (q.1 ∷ held) qs) [])) fits
    ∙ elim who as (λ _. ((q.0 == n) || has_number n (granted_beside (q.1 ∷ held) qs)) ≡ true) [
      | inl here ↦ ap (λ v. v || has_number n (granted_beside (q.1 ∷ held) qs)) here
      | inr later ↦ or_second (q.0 == n) (has_number n (granted_beside (q.1 ∷ held) qs)) later
    ]

granted_before_more : (held : List Mode) (qs more : Queue) (n : ℕ) → has_number n (granted_beside held qs) ≡ true → has_number n (granted_beside held (qs ++ more)) ≡ true
granted_before_more held [] more n h = absurd (cc)
granted_before_more held (q ∷ qs) more n h =
    let (fits, who) = head_fits held q qs n h in
    granted_after held q (qs ++ more) n fits (elim who as (λ _. ((q.0 == n) ≡ true) ⊎ (has_number n (granted_beside (q.1 ∷ held) (qs ++ more)) ≡ true)) [
      | inl here ↦ inl here
      | inr later ↦ inr (granted_before_more (q.1 ∷ held) qs more n later)
    ])

not_both : (k n m : ℕ) → k ≢ n → (m == k) ≡ true → (m == n) ≡ true → ⊥
not_both k n m differ is_k is_n = differ (sym (same_numbers m k is_k) ∙ same_numbers m n is_n)

granted_without : (less more : List Mode) (qs : Queue) (k n : ℕ) → k ≢ n → Fewer less more → has_number n (granted_beside more qs) ≡ true
    → has_number n (granted_beside less (others k qs)) ≡ true
granted_without less more [] k n differ fewer h = absurd (cc)
granted_without less more (q ∷ qs) k n differ fewer h =
    let (fits, who) = head_fits more q qs n h in
    elim (q.0 == k) as (λ v. (q.0 == k) ≡ v → has_number n (granted_beside less (cond (not v) (q ∷ others k qs) (others k qs))) ≡ true) [
      | true ↦ λ is_k. elim who as (λ _. has_number n (granted_beside less (others k qs)) ≡ true) [
        | inl here ↦ absurd (not_both k n q.0 differ is_k here)
        | inr later ↦ granted_without less (q.1 ∷ more) qs k n differ (without_first less more q.1 fewer) later
      ]
      | false ↦ λ _. granted_after less q (others k qs) n (fewer q.1 fits) (elim who as (λ _. ((q.0 == n) ≡ true) ⊎ (has_number n (granted_beside (q.1 ∷ less) (others k qs)) ≡ true)) [
        | inl here ↦ inl here
        | inr later ↦ inr (granted_without (q.1 ∷ less) (q.1 ∷ more) qs k n differ (with_first less more q.1 fewer) later)
      ])
    ] refl

-- ---- in all queues of a plan

each_too : (old new : Resource → Bool) (plan : Requests) → ((r : Resource) → old r ≡ true → new r ≡ true) → list_all (λ e. old e.0) plan ≡ true → list_all (λ e. new e.0) plan ≡ true
each_too old new [] more h = refl
each_too old new (e ∷ plan) more h =
    let (here, rest) = both (old e.0) (list_all (λ e. old e.0) plan) h in
    ap (λ v. v && list_all (λ e. new e.0) plan) (more e.0 here) ∙ each_too old new plan more rest

all_stay : (old new : List Waiting) (n : ℕ) (o : Option Requests) → ((r : Resource) → has_number n (granted (queue r old)) ≡ true → has_number n (granted (queue r new)) ≡ true)
    → all_granted old n o ≡ true → all_granted new n o ≡ true
all_stay old new n None more h = h
all_stay old new n (Some plan) more h = each_too (λ r. has_number n (granted (queue r old))) (λ r. has_number n (granted (queue r new))) plan more h

ready_too : (old new : List Waiting) (n : ℕ) → plan_of new n ≡ plan_of old n → ((r : Resource) → has_number n (granted (queue r old)) ≡ true → has_number n (granted (queue r new)) ≡ true)
    → ready old n ≡ true → ready new n ≡ true
ready_too old new n same more h = ap (all_granted new n) same ∙ all_stay old new n (plan_of old n) more h

plan_before_more : (ws : List Waiting) (w : Waiting) (n : ℕ) → is_some (plan_of ws n) ≡ true → plan_of (ws ++ w ∷ []) n ≡ plan_of ws n
plan_before_more [] w n there = absurd (cc)
plan_before_more (v ∷ ws) w n there = elim (v.no == n) as (λ b. is_some (cond b (Some v.plan) (plan_of ws n)) ≡ true → cond b (Some v.plan) (plan_of (ws ++ w ∷ []) n) ≡ cond b (Some v.plan) (plan_of ws n)) [
  | true ↦ λ _. refl
  | false ↦ λ there. plan_before_more ws w n there
] there

plan_marked : (ws : List Waiting) (k : ℕ) (mark : Bool) (n : ℕ) → plan_of (with_mark k mark ws) n ≡ plan_of ws n
plan_marked [] k mark n = refl
plan_marked (w ∷ ws) k mark n = elim (w.no == k) as (λ b. plan_of (cond b (record w { marked = mark }) w ∷ with_mark k mark ws) n ≡ plan_of (w ∷ ws) n) [
  | true ↦ ap (cond (w.no == n) (Some w.plan)) (plan_marked ws k mark n)
  | false ↦ ap (cond (w.no == n) (Some w.plan)) (plan_marked ws k mark n)
]

plan_without : (ws : List Waiting) (k n : ℕ) → k ≢ n → plan_of (without k ws) n ≡ plan_of ws n
plan_without [] k n differ = refl
plan_without (w ∷ ws) k n differ = elim (w.no == k) as (λ b. (w.no == k) ≡ b → plan_of (cond b (without k ws) (w ∷ without k ws)) n ≡ plan_of (w ∷ ws) n) [
  | true ↦ λ is_k. plan_without ws k n differ ∙ sym (ap (λ b. cond b (Some w.plan) (plan_of ws n)) (another k n w.no differ is_k))
  | false ↦ λ _. ap (cond (w.no == n) (Some w.plan)) (plan_without ws k n differ)
] refl
  where
    another : (k n m : ℕ) → k ≢ n → (m == k) ≡ true → (m == n) ≡ false
    another k n m differ is_k = grind (arith, nat_tests)

pub ready_stays : ReadyStays
ready_stays = record {
  enqueued = λ ws w n h. ready_too ws (ws ++ w ∷ []) n (plan_before_more ws w n (ready_there ws n h))
      (λ r g. ap (λ q. has_number n (granted q)) (queue_end r ws w) ∙ granted_before_more [] (queue r ws) (asks w.no (mode_on r w.plan) []) n g) h;
  marked = λ ws k mark n h. ready_too ws (with_mark k mark ws) n (plan_marked ws k mark n) (λ r g. ap (λ q. has_number n (granted q)) (queue_marked r k mark ws) ∙ g) h;
  released = λ ws k n differ h. ready_too ws (without k ws) n (plan_without ws k n differ)
      (λ r g. ap (λ q. has_number n (granted q)) (queue_without r k ws) ∙ granted_without [] [] (queue r ws) k n differ (λ b all. all) g) h;
}
