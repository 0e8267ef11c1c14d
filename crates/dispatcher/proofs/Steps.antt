-- What the events of a scheduler on one thread settle.
use Rattle.std.proofs.Common.{◌≡◌, ℕ, zero, suc, ◌+◌, ◌-◌, ◌<◌, ◌≤◌, nat_lt, Bool, true, false, if◌then◌else◌, ◌⊎◌, inl, inr, List, [], ◌∷◌, length, map, Option, None, Some, refl, sym, ap, ◌∙◌, subst, arith, slice_get, slice_set}
use Rattle.std.proofs.lemmas.Bool.Decides.{nat_tests}
use Rattle.scheduler_core.specs.declared.event.Event.TheVariants.{Admit, Lend, Run, Settle}
use Rattle.scheduler_core.specs.declared.phase.Phase.{Phase}
use Rattle.scheduler_core.specs.declared.phase.Phase.TheVariants.{Idle, Out, Ran, Settled}
use Rattle.scheduler_core.specs.Phases.{is_idle, is_lent, was_run, is_settled, phase_of, with_number}
use Rattle.scheduler_core.specs.Events.{step}
use Rattle.scheduler.specs.Settling.{after_settling}
use Rattle.scheduler.specs.Schedules.{Schedule, Work, phases_of}
use Rattle.scheduler.specs.Moments.{can_make}
use Rattle.progress.specs.Accounts.{Account}
use Rattle.dispatcher.specs.Runs.{StaysSettled}
use Rattle.dispatcher.specs.Tallies.{settled_among}
use Rattle.dispatcher.specs.Listeners.{AreCounted, AreOthersCounted, replies_in}
use Rattle.dispatcher.proofs.Facts.{and_left}
use Rattle.dispatcher.proofs.Counting.{pushed_same, settling_same}
use Rattle.dispatcher.proofs.Told.{at_number, open_counted, others_counted, same_counted}

-- ---- numbers and places

split : (b : Bool) (x : Option Phase) (test : Option Phase → Bool) → test None ≡ false → test (if b then None else x) ≡ true → (b ≡ false) × (test x ≡ true)
split true x test none is = absurd (let e : true ≡ false = sym is ∙ none in cc)
split false x test none is = (refl, is)

-- a number that has a phase is not below the first
pub phase_there : (first number : ℕ) (phases : List Phase) (test : Option Phase → Bool) → test None ≡ false → test (phase_of first phases number) ≡ true
    → (nat_lt number first ≡ false) × (test (slice_get phases (number - first)) ≡ true)
phase_there first number phases test none is = split (nat_lt number first) (slice_get phases (number - first)) test none is

with_there : (first number : ℕ) (phases : List Phase) (p : Phase) → nat_lt number first ≡ false → with_number first phases number p ≡ slice_set phases (number - first) p
with_there first number phases p there = ap (λ (b : Bool). if b then phases else slice_set phases (number - first) p) there

above : (first number : ℕ) → nat_lt number first ≡ false → first ≤ number
above first number there = grind (arith, nat_tests, there)

idle_open : (o : Option Phase) → is_idle o ≡ true → is_settled o ≡ false
idle_open None is = refl
idle_open (Some Idle) is = refl
idle_open (Some Out) is = refl
idle_open (Some Ran) is = refl
idle_open (Some Settled) is = absurd (let e : false ≡ true = is in cc)

lent_open : (o : Option Phase) → is_lent o ≡ true → is_settled o ≡ false
lent_open None is = refl
lent_open (Some Idle) is = refl
lent_open (Some Out) is = refl
lent_open (Some Ran) is = refl
lent_open (Some Settled) is = absurd (let e : false ≡ true = is in cc)

run_open : (o : Option Phase) → was_run o ≡ true → is_settled o ≡ false
run_open None is = refl
run_open (Some Idle) is = refl
run_open (Some Out) is = refl
run_open (Some Ran) is = refl
run_open (Some Settled) is = absurd (let e : false ≡ true = is in cc)

-- ---- events

module _ (s new : Schedule) (a : Option Account) (work : new.work ≡ s.work) (told : AreCounted s a) where
  pub admit_told : phases_of new ≡ step s.work.first (phases_of s) Admit → AreCounted new a
  admit_told phases = same_counted s new a work (
      ap (λ (w : Work). settled_among (phases_of new) (replies_in w)) work
      ∙ ap (λ (ps : List Phase). settled_among ps (replies_in s.work)) phases
      ∙ pushed_same (phases_of s) (replies_in s.work)) told

  pub lend_told : (number : ℕ) → can_make s (Lend number) ≡ true → phases_of new ≡ step s.work.first (phases_of s) (Lend number) → AreCounted new a
  lend_told number can phases =
      let there = phase_there s.work.first number (phases_of s) is_idle refl (and_left (is_idle (phase_of s.work.first (phases_of s) number)) _ can) in
      same_counted s new a work (open_counted s new (number - s.work.first) Out work
      (phases ∙ with_there s.work.first number (phases_of s) Out there.0) (idle_open (slice_get (phases_of s) (number - s.work.first)) there.1) refl) told

  pub run_told : (number : ℕ) → can_make s (Run number) ≡ true → phases_of new ≡ step s.work.first (phases_of s) (Run number) → AreCounted new a
  run_told number can phases =
      let there = phase_there s.work.first number (phases_of s) is_lent refl can in
      same_counted s new a work (open_counted s new (number - s.work.first) Ran work
      (phases ∙ with_there s.work.first number (phases_of s) Ran there.0) (lent_open (slice_get (phases_of s) (number - s.work.first)) there.1) refl) told

  pub settle_told : (number : ℕ) → can_make s (Settle number) ≡ true → phases_of new ≡ step s.work.first (phases_of s) (Settle number)
      → (new.work.first ≤ number) × AreOthersCounted new number a
  settle_told number can phases =
      let there = phase_there s.work.first number (phases_of s) was_run refl can in (
        subst (λ (w : Work). w.first ≤ number) (sym work) (above s.work.first number there.0),
        others_counted s new number Settled a work (phases ∙ with_there s.work.first number (phases_of s) Settled there.0)
            (run_open (slice_get (phases_of s) (number - s.work.first)) there.1) told,
      )

-- ---- settling one by one

set_settles : (ps : List Phase) (k : ℕ) → StaysSettled ps (slice_set ps k Settled)
set_settles [] k place is = is
set_settles (p ∷ ps) zero zero is = refl
set_settles (p ∷ ps) zero (suc place) is = is
set_settles (p ∷ ps) (suc k) zero is = is
set_settles (p ∷ ps) (suc k) (suc place) is = set_settles ps k place is

set_not_run : (ps : List Phase) (k : ℕ) → was_run (slice_get (slice_set ps k Settled) k) ≡ false
set_not_run [] k = refl
set_not_run (p ∷ ps) zero = refl
set_not_run (p ∷ ps) (suc k) = set_not_run ps k

set_others : (ps : List Phase) (k place : ℕ) → was_run (slice_get ps place) ≡ false → was_run (slice_get (slice_set ps k Settled) place) ≡ false
set_others [] k place none = none
set_others (p ∷ ps) zero zero none = refl
set_others (p ∷ ps) zero (suc place) none = none
set_others (p ∷ ps) (suc k) zero none = none
set_others (p ∷ ps) (suc k) (suc place) none = set_others ps k place none

module _ (s new : Schedule) (number : ℕ) (can : can_make s (Settle number) ≡ true) (phases : phases_of new ≡ step s.work.first (phases_of s) (Settle number)) where
  abbrev place : ℕ
  place = number - s.work.first

  set_there : phases_of new ≡ slice_set (phases_of s) place Settled
  set_there = phases ∙ with_there s.work.first number (phases_of s) Settled (phase_there s.work.first number (phases_of s) was_run refl can).0

  pub settle_settles : StaysSettled (phases_of s) (phases_of new)
  settle_settles = subst (StaysSettled (phases_of s)) (sym set_there) (set_settles (phases_of s) place)

  pub settle_this : was_run (slice_get (phases_of new) place) ≡ false
  settle_this = subst (λ ps. was_run (slice_get ps place) ≡ false) (sym set_there) (set_not_run (phases_of s) place)

  pub settle_others : (other : ℕ) → was_run (slice_get (phases_of s) other) ≡ false → was_run (slice_get (phases_of new) other) ≡ false
  settle_others other none = subst (λ ps. was_run (slice_get ps other) ≡ false) (sym set_there) (set_others (phases_of s) place other none)

-- a number that can't be settled was not run
pub not_run : (s : Schedule) (number : ℕ) → s.work.first ≤ number → can_make s (Settle number) ≡ false → was_run (slice_get (phases_of s) (number - s.work.first)) ≡ false
not_run s number h none = ap was_run (sym (at_number s.work.first number (phases_of s) h)) ∙ none

none_past : (ps : List Phase) (place : ℕ) → length ps ≤ place → slice_get ps place ≡ None
none_past [] place h = refl
none_past (p ∷ ps) zero h = absurd (omega (arith, h))
none_past (p ∷ ps) (suc place) h = none_past ps place (omega (arith, h))

by_place : (ps : List Phase) (n place : ℕ) → length ps ≤ n → ((k : ℕ) → k < n → was_run (slice_get ps k) ≡ false) → (place < n) ⊎ (n ≤ place) → was_run (slice_get ps place) ≡ false
by_place ps n place few none (inl lt) = none place lt
by_place ps n place few none (inr le) = ap was_run (none_past ps place (omega (arith, few, le)))

below_or : (place n : ℕ) → (place < n) ⊎ (n ≤ place)
below_or place zero = inr (omega arith)
below_or zero (suc n) = inl (omega arith)
below_or (suc place) (suc n) = elim (below_or place n) [ inl lt ↦ inl (omega (arith, lt)) | inr le ↦ inr (omega (arith, le)) ]

-- of so many, none was run
pub none_run : (ps : List Phase) (n : ℕ) → length ps ≤ n → ((k : ℕ) → k < n → was_run (slice_get ps k) ≡ false) → (place : ℕ) → was_run (slice_get ps place) ≡ false
none_run ps n few none place = by_place ps n place few none (below_or place n)

settling_settles : (ps : List Phase) → StaysSettled ps (map after_settling ps)
settling_settles [] place is = is
settling_settles (Idle ∷ ps) zero is = is
settling_settles (Out ∷ ps) zero is = is
settling_settles (Ran ∷ ps) zero is = refl
settling_settles (Settled ∷ ps) zero is = is
settling_settles (p ∷ ps) (suc place) is = settling_settles ps place is

-- taking back what was only lent
module _ (s new : Schedule) (work : new.work ≡ s.work) (phases : phases_of new ≡ map after_settling (phases_of s)) where
  pub taken_back_settles : StaysSettled (phases_of s) (phases_of new)
  taken_back_settles = subst (StaysSettled (phases_of s)) (sym phases) (settling_settles (phases_of s))

  pub taken_back_told : (a : Option Account) → ((place : ℕ) → was_run (slice_get (phases_of s) place) ≡ false) → AreCounted s a → AreCounted new a
  taken_back_told a none told = same_counted s new a work (
      ap (λ (w : Work). settled_among (phases_of new) (replies_in w)) work
      ∙ ap (λ (ps : List Phase). settled_among ps (replies_in s.work)) phases
      ∙ settling_same (phases_of s) (replies_in s.work) none) told

place_or_below : (ps qs : List Phase) (n k : ℕ) → was_run (slice_get qs n) ≡ false
    → ((j : ℕ) → was_run (slice_get ps j) ≡ false → was_run (slice_get qs j) ≡ false) → ((j : ℕ) → j < n → was_run (slice_get ps j) ≡ false)
    → k < n + 1 → (k < n) ⊎ (n ≤ k) → was_run (slice_get qs k) ≡ false
place_or_below ps qs n k this others before lt (inl below) = others k (before k below)
place_or_below ps qs n k this others before lt (inr at) =
    let e : n ≡ k = omega (arith, lt, at) in subst (λ (j : ℕ). was_run (slice_get qs j) ≡ false) e this

-- of one place more, none was run
pub one_place_more : (ps qs : List Phase) (n : ℕ) → was_run (slice_get qs n) ≡ false
    → ((j : ℕ) → was_run (slice_get ps j) ≡ false → was_run (slice_get qs j) ≡ false) → ((j : ℕ) → j < n → was_run (slice_get ps j) ≡ false)
    → (k : ℕ) → k < n + 1 → was_run (slice_get qs k) ≡ false
one_place_more ps qs n this others before k lt = place_or_below ps qs n k this others before lt (below_or k n)
