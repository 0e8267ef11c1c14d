-- The next steps of transactions, and which of them is first.
use Rattle.std.proofs.Common.{◌≡◌, ℕ, zero, suc, ◌+◌, ◌<◌, ◌≤◌, ◌⊎◌, inl, inr, nat_le, ◌&&◌, ◌==◌, Bool, true, false, cond, List, [], ◌∷◌, ◌++◌, length, Option, None, Some, refl, sym, ◌∙◌, ap, subst, arith, slice_get}
use Rattle.std.specs.List.{Contains, AllPairs, list_all}
use Rattle.std.proofs.lemmas.Bool.Decides.{nat_tests}
use Rattle.std.proofs.lemmas.List.Kept.{AllPairs-cons}
use Rattle.lock_tree.specs.Locks.{Waiting, used}
use Rattle.lock_tree.specs.Ready.{ready}
use Rattle.lock_tree.specs.Laws.{FirstReady}
use Rattle.scheduler_core.specs.declared.event.Event.{Event}
use Rattle.scheduler_core.specs.declared.event.Event.TheVariants.{Admit, Lend, Run, Settle}
use Rattle.scheduler_core.specs.declared.phase.Phase.{Phase}
use Rattle.scheduler_core.specs.declared.phase.Phase.TheVariants.{Idle, Out, Ran, Settled}
use Rattle.scheduler_core.specs.Transactions.{Transaction}
use Rattle.scheduler_core.specs.Phases.{is_lent, was_run, is_out, is_open, is_settled, is_done, phase_of}
use Rattle.scheduler_core.specs.Events.{waiting, has_room, enabled}
use Rattle.scheduler_core.specs.Choices.{next_step, next_steps, first_step, number_of, IsBefore, IsLeastOpen, IsNextEvent}
use Rattle.scheduler_core.specs.Laws.{FitIn, NoStuckState, NextEventIsEnabled}
use Rattle.scheduler_core.proofs.Lists.{cases, split, true_false, some_is, none_some, get_at, contains_first, contains_later, first_or_later, not_in_nothing, each_passes}
use Rattle.scheduler_core.proofs.Numbers.{same_number, at_place, placed}
use Rattle.scheduler_core.proofs.PhaseTests.{open_is, unsettled_open}
use Rattle.scheduler_core.proofs.WaitChanges.{wait}
use Rattle.scheduler_core.proofs.Readies.{lend_there}
use Rattle.scheduler_core.proofs.EventLists.{all_contained}

abbrev pub step_of : ℕ → Phase → Event
step_of number p = first_step (next_step number p)

-- ---- what is among the next steps

appended_there : (number : ℕ) (p : Phase) (rest : List Event) → is_settled (Some p) ≡ false → Contains (next_step number p ++ rest) (step_of number p)
appended_there number Idle rest unsettled = contains_first (Lend number) rest
appended_there number Out rest unsettled = contains_first (Run number) rest
appended_there number Ran rest unsettled = contains_first (Settle number) rest
appended_there number Settled rest unsettled = absurd (cc)

appended_later : (number : ℕ) (p : Phase) (rest : List Event) (event : Event) → Contains rest event → Contains (next_step number p ++ rest) event
appended_later number Idle rest event there = contains_later (Lend number) rest event there
appended_later number Out rest event there = contains_later (Run number) rest event there
appended_later number Ran rest event there = contains_later (Settle number) rest event there
appended_later number Settled rest event there = there

pub step_there : (first : ℕ) (phases : List Phase) (place : ℕ) (p : Phase) → slice_get phases place ≡ Some p → is_settled (Some p) ≡ false
    → Contains (next_steps first phases) (step_of (first + place) p)
step_there first [] place p is unsettled = absurd (none_some p is)
step_there first (q ∷ phases) zero p is unsettled =
    let e : first ≡ first + 0 = omega arith in
    let same : step_of first q ≡ step_of (first + 0) p = ap (step_of first) (some_is q p is) ∙ ap (λ (n : ℕ). step_of n p) e in
    subst (λ (x : Event). Contains (next_steps first (q ∷ phases)) x) same (appended_there first q (next_steps (suc first) phases) (ap (λ (x : Phase). is_settled (Some x)) (some_is q p is) ∙ unsettled))
step_there first (q ∷ phases) (suc place) p is unsettled =
    let e : suc first + place ≡ first + suc place = omega arith in
    appended_later first q (next_steps (suc first) phases) (step_of (first + suc place) p)
    (subst (λ (n : ℕ). Contains (next_steps (suc first) phases) (step_of n p)) e (step_there (suc first) phases place p is unsettled))

-- ---- in order

abbrev Before : Event → Event → Type 0
Before a b = IsBefore (number_of a) (number_of b)

abbrev IsFrom : ℕ → Event → Type 0
IsFrom first event = (n : ℕ) × (number_of event ≡ Some n) × (first ≤ n)

later_from : (first : ℕ) (event : Event) → IsFrom (suc first) event → IsFrom first event
later_from first event (n, is, le) = (n, is, omega (arith, le))

from_steps : (first : ℕ) (p : Phase) (rest : List Event) (event : Event) → ((e : Event) → Contains rest e → IsFrom (suc first) e) → Contains (next_step first p ++ rest) event → IsFrom first event
from_steps first Idle rest event after there = elim (first_or_later (Lend first) rest event there) [
  | inl same ↦ (first, sym (ap number_of same), omega arith)
  | inr later ↦ later_from first event (after event later)
]
from_steps first Out rest event after there = elim (first_or_later (Run first) rest event there) [
  | inl same ↦ (first, sym (ap number_of same), omega arith)
  | inr later ↦ later_from first event (after event later)
]
from_steps first Ran rest event after there = elim (first_or_later (Settle first) rest event there) [
  | inl same ↦ (first, sym (ap number_of same), omega arith)
  | inr later ↦ later_from first event (after event later)
]
from_steps first Settled rest event after there = later_from first event (after event there)

steps_from : (first : ℕ) (phases : List Phase) (event : Event) → Contains (next_steps first phases) event → IsFrom first event
steps_from first [] event there = absurd (not_in_nothing event there)
steps_from first (p ∷ phases) event there = from_steps first p (next_steps (suc first) phases) event (steps_from (suc first) phases) there

before_from : (first : ℕ) (o : Option ℕ) (event : Event) → o ≡ Some first → IsFrom (suc first) event → IsBefore o (number_of event)
before_from first o event is (n, numbered, le) = rw (is, numbered) (let l : first < n = omega (arith, le) in l)

ordered_steps : (first : ℕ) (p : Phase) (rest : List Event) → AllPairs Before rest → ((e : Event) → Contains rest e → IsFrom (suc first) e) → AllPairs Before (next_step first p ++ rest)
ordered_steps first Idle rest h after = AllPairs-cons Before (Lend first) rest (all_contained (Before (Lend first)) rest (λ e there. before_from first (Some first) e refl (after e there))) h
ordered_steps first Out rest h after = AllPairs-cons Before (Run first) rest (all_contained (Before (Run first)) rest (λ e there. before_from first (Some first) e refl (after e there))) h
ordered_steps first Ran rest h after = AllPairs-cons Before (Settle first) rest (all_contained (Before (Settle first)) rest (λ e there. before_from first (Some first) e refl (after e there))) h
ordered_steps first Settled rest h after = h

all_ordered : (first : ℕ) (phases : List Phase) → AllPairs Before (next_steps first phases)
all_ordered first [] = λ i j d less within. absurd (omega (arith, within))
all_ordered first (p ∷ phases) = ordered_steps first p (next_steps (suc first) phases) (all_ordered (suc first) phases) (steps_from (suc first) phases)

admit_before : (o : Option ℕ) (n : ℕ) → o ≡ Some n → IsBefore None o
admit_before o n is = rw is tt

pub admit_first : (first : ℕ) (phases : List Phase) → AllPairs Before (Admit ∷ next_steps first phases)
admit_first first phases =
    AllPairs-cons Before Admit (next_steps first phases) (all_contained (Before Admit) (next_steps first phases) (λ e there. let f = steps_from first phases e there in admit_before (number_of e) f.0 f.1)) (all_ordered first phases)

-- ---- the first of them

pub first_appended : (number : ℕ) (p : Phase) (rest : List Event) → is_settled (Some p) ≡ false → first_step (next_step number p ++ rest) ≡ step_of number p
first_appended number Idle rest unsettled = refl
first_appended number Out rest unsettled = refl
first_appended number Ran rest unsettled = refl
first_appended number Settled rest unsettled = absurd (cc)

pub settled_no_step : (number : ℕ) (p : Phase) → is_settled (Some p) ≡ true → next_step number p ≡ []
settled_no_step number Idle gone = absurd (cc)
settled_no_step number Out gone = absurd (cc)
settled_no_step number Ran gone = absurd (cc)
settled_no_step number Settled gone = refl

-- all that are admitted are settled
record IsRested (first : ℕ) (log : List Transaction) (phases : List Phase) : Type 0 where
  pub none : waiting first log phases ≡ []
  pub every : list_all (λ p. is_settled (Some p)) phases ≡ true
  pub steps : next_steps first phases ≡ []

-- the first that is not
record HasFirst (first : ℕ) (log : List Transaction) (phases : List Phase) : Type 0 where
  pub place : ℕ
  pub transaction : Transaction
  pub phase : Phase
  pub phase_at : slice_get phases place ≡ Some phase
  pub unsettled : is_settled (Some phase) ≡ false
  pub rest : List Waiting
  pub waits : waiting first log phases ≡ wait (first + place) transaction (is_out (Some phase)) ∷ rest
  pub steps : first_step (next_steps first phases) ≡ step_of (first + place) phase
  pub least : (i : ℕ) (p : Phase) → slice_get phases i ≡ Some p → is_settled (Some p) ≡ false → place ≤ i

rested_more : (first : ℕ) (t : Transaction) (log : List Transaction) (p : Phase) (phases : List Phase) → is_settled (Some p) ≡ true
    → IsRested (suc first) log phases → IsRested first (t ∷ log) (p ∷ phases)
rested_more first t log p phases gone h = record {
  none = rw gone h.none;
  every = rw gone h.every;
  steps = ap (λ es. es ++ next_steps (suc first) phases) (settled_no_step first p gone) ∙ h.steps;
}

least_deeper : (p : Phase) (phases : List Phase) (place : ℕ) → is_settled (Some p) ≡ true
    → ((i : ℕ) (q : Phase) → slice_get phases i ≡ Some q → is_settled (Some q) ≡ false → place ≤ i)
    → (i : ℕ) (q : Phase) → slice_get (p ∷ phases) i ≡ Some q → is_settled (Some q) ≡ false → suc place ≤ i
least_deeper p phases place gone least zero q is unsettled =
    absurd (true_false (is_settled (Some p)) gone (ap (λ (x : Phase). is_settled (Some x)) (some_is p q is) ∙ unsettled))
least_deeper p phases place gone least (suc i) q is unsettled = let le = least i q is unsettled in omega (arith, le)

first_deeper : (first : ℕ) (t : Transaction) (log : List Transaction) (p : Phase) (phases : List Phase) → is_settled (Some p) ≡ true
    → HasFirst (suc first) log phases → HasFirst first (t ∷ log) (p ∷ phases)
first_deeper first t log p phases gone h =
    let e : suc first + h.place ≡ first + suc h.place = omega arith in
    record {
      place = suc h.place;
      transaction = h.transaction;
      phase = h.phase;
      phase_at = h.phase_at;
      unsettled = h.unsettled;
      rest = h.rest;
      waits = rw gone (h.waits ∙ ap (λ (n : ℕ). wait n h.transaction (is_out (Some h.phase)) ∷ h.rest) e);
      steps = ap (λ es. first_step (es ++ next_steps (suc first) phases)) (settled_no_step first p gone) ∙ h.steps ∙ ap (λ (n : ℕ). step_of n h.phase) e;
      least = least_deeper p phases h.place gone h.least;
    }

first_of : (first : ℕ) (log : List Transaction) (phases : List Phase) → length phases ≤ length log → IsRested first log phases ⊎ HasFirst first log phases
first_of first [] [] le = inl (record { none = refl; every = refl; steps = refl })
first_of first [] (p ∷ phases) le = absurd (omega arith)
first_of first (t ∷ log) [] le = inl (record { none = refl; every = refl; steps = refl })
first_of first (t ∷ log) (p ∷ phases) le = elim (cases (is_settled (Some p))) [
  | inl gone ↦ elim (first_of (suc first) log phases (omega arith)) [
    | inl rested ↦ inl (rested_more first t log p phases gone rested)
    | inr has ↦ inr (first_deeper first t log p phases gone has)
  ]
  | inr here ↦
      let e : first ≡ first + 0 = omega arith in
      inr (record {
        place = 0;
        transaction = t;
        phase = p;
        phase_at = refl;
        unsettled = here;
        rest = waiting (suc first) log phases;
        waits = rw here (ap (λ (n : ℕ). wait n t (is_out (Some p)) ∷ waiting (suc first) log phases) e);
        steps = first_appended first p (next_steps (suc first) phases) here ∙ ap (λ (n : ℕ). step_of n p) e;
        least = λ i q is unsettled. omega arith;
      })
]

-- ---- the next event

step_numbered : (number : ℕ) (p : Phase) → is_settled (Some p) ≡ false → number_of (step_of number p) ≡ Some number
step_numbered number Idle unsettled = refl
step_numbered number Out unsettled = refl
step_numbered number Ran unsettled = refl
step_numbered number Settled unsettled = absurd (cc)

module _ (first_ready : FirstReady) (arena first : ℕ) (log : List Transaction) (phases : List Phase) where
  ready_first : (w : Waiting) (rest : List Waiting) → waiting first log phases ≡ w ∷ rest → ready (waiting first log phases) w.no ≡ true
  ready_first w rest is = ap (λ ws. ready ws w.no) is ∙ first_ready w rest

  enabled_at : (place : ℕ) (p : Phase) → slice_get phases place ≡ Some p → is_settled (Some p) ≡ false → ready (waiting first log phases) (first + place) ≡ true
      → enabled arena first log phases (step_of (first + place) p) ≡ true
  enabled_at place Idle is unsettled is_ready = lend_there arena first log phases place is is_ready
  enabled_at place Out is unsettled is_ready = ap is_lent (at_place first phases place ∙ is)
  enabled_at place Ran is unsettled is_ready = ap was_run (at_place first phases place ∙ is)
  enabled_at place Settled is unsettled is_ready = absurd (cc)

  first_enabled : (h : HasFirst first log phases) → enabled arena first log phases (first_step (next_steps first phases)) ≡ true
  first_enabled h =
      ap (enabled arena first log phases) h.steps
      ∙ enabled_at h.place h.phase h.phase_at h.unsettled (ready_first (wait (first + h.place) h.transaction (is_out (Some h.phase))) h.rest h.waits)

  first_least : (h : HasFirst first log phases) → IsLeastOpen first phases (Some (first + h.place))
  first_least h = (
    ap is_open (at_place first phases h.place ∙ h.phase_at) ∙ unsettled_open h.phase h.unsettled,
    λ number is_open.
        let (p, is, unsettled) = open_is (phase_of first phases number) is_open in
        let (place, numbered, at) = placed first phases number p is in
        let le = h.least place p at unsettled in
        omega (arith, numbered, le),
  )

  rested_admits : length phases ≤ length log → FitIn arena log → IsRested first log phases → is_done log phases ≡ false → enabled arena first log phases Admit ≡ true
  rested_admits within fit h unfinished = elim (split (length phases) (length log)) [
    | inl less ↦
        let (t, at) = get_at log (length phases) less in
        let room : nat_le (used [] + length t.plan) arena ≡ true = (let le = fit (length phases) t at in grind (arith, nat_tests)) in
        ap (λ ws. has_room arena ws (slice_get log (length phases))) h.none ∙ ap (has_room arena []) at ∙ room
    | inr rest ↦ absurd (
        let same : length phases ≡ length log = elim rest [ inl e ↦ e | inr more ↦ absurd (omega (arith, more, within)) ] in
        let test : (length phases == length log) ≡ true = ap (λ (n : ℕ). n == length log) same ∙ same_number (length log) in
        true_false (is_done log phases) (ap (λ b. b && list_all (λ p. is_settled (Some p)) phases) test ∙ h.every) unfinished)
  ]

  rested_least : IsRested first log phases → IsLeastOpen first phases None
  rested_least h number = elim (cases (is_open (phase_of first phases number))) [
    | inr not ↦ not
    | inl is_open ↦ absurd (
        let (p, is, unsettled) = open_is (phase_of first phases number) is_open in
        let (place, numbered, at) = placed first phases number p is in
        true_false (is_settled (Some p)) (each_passes (λ q. is_settled (Some q)) phases place p h.every at) unsettled)
  ]

  pub unfinished_next : length phases ≤ length log → FitIn arena log → is_done log phases ≡ false
      → (enabled arena first log phases (first_step (next_steps first phases)) ≡ true) × IsLeastOpen first phases (number_of (first_step (next_steps first phases)))
  unfinished_next within fit unfinished = elim (first_of first log phases within) [
    | inl rested ↦
        let admits : first_step (next_steps first phases) ≡ Admit = ap first_step rested.steps in (
          ap (enabled arena first log phases) admits ∙ rested_admits within fit rested unfinished,
          subst (λ o. IsLeastOpen first phases o) (sym (ap number_of admits)) (rested_least rested),
        )
    | inr has ↦ (
      first_enabled has,
      subst (λ o. IsLeastOpen first phases o) (sym (ap number_of has.steps ∙ step_numbered (first + has.place) has.phase has.unsettled)) (first_least has),
    )
  ]

  next_or_done : length phases ≤ length log → FitIn arena log → (b : Bool) → is_done log phases ≡ b
      → IsNextEvent arena first log phases (cond b None (Some (first_step (next_steps first phases))))
  next_or_done within fit true done = done
  next_or_done within fit false unfinished = let h = unfinished_next within fit unfinished in (unfinished, h.0, h.1)

pub next_enabled : FirstReady → NextEventIsEnabled
next_enabled first_ready arena first log phases within fit = next_or_done first_ready arena first log phases within fit (is_done log phases) refl

pub never_stuck : FirstReady → NoStuckState
never_stuck first_ready arena first log phases within fit unfinished =
    (first_step (next_steps first phases), (unfinished_next first_ready arena first log phases within fit unfinished).0)
