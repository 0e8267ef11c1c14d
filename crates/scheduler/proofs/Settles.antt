-- Settling what is here, place by place.
use Rattle.std.proofs.Common.{◌≡◌, ◌≢◌, ◌<◌, ◌+◌, ◌++◌, ℕ, zero, suc, true, false, List, [], ◌∷◌, length, map, take, drop, Option, Some, None, option_map, slice_get, slice_set, ◌⊎◌, inl, inr, refl, sym, ap, ◌∙◌, arith}
use Rattle.std.proofs.lemmas.Option.{slice_get-map}
use Rattle.scheduler.specs.JobRuns.{JobOf}
use Rattle.scheduler_core.specs.declared.event.Event.TheVariants.{Settle}
use Rattle.scheduler_core.specs.declared.event.StepAnswer.{StepAnswer}
use Rattle.scheduler_core.specs.declared.event.StepAnswer.TheVariants.{Made, Refused, NoMemory}
use Rattle.scheduler_core.specs.declared.phase.Phase.{Phase}
use Rattle.scheduler_core.specs.declared.phase.Phase.TheVariants as phase
use Rattle.scheduler_core.specs.Transactions.{Transaction}
use Rattle.scheduler_core.specs.Phases.{was_run}
use Rattle.scheduler_core.specs.Events.{Answers}
use Rattle.scheduler_core.specs.Laws.{AreByPlaces}
use Rattle.scheduler.specs.declared.slot.Slot.{Slot}
use Rattle.scheduler.specs.declared.slot.Slot.TheVariants as slot
use Rattle.scheduler.specs.Schedules.{phase_in}
use Rattle.scheduler.specs.Settling.{after_settling, settled_at}

-- the list with the settled phase at a place
settled_set : (ps : List Phase) (place : ℕ) (p : Phase) → slice_get ps place ≡ Some p → settled_at place ps ≡ slice_set ps place (after_settling p)
settled_set [] place p is = refl
settled_set (q ∷ ps) zero p is = let e : q ≡ p = cc in ap (λ x. after_settling x ∷ ps) e
settled_set (q ∷ ps) (suc place) p is = ap (λ xs. q ∷ xs) (settled_set ps place p is)

same_at : (ps : List Phase) (place : ℕ) → ((p : Phase) → slice_get ps place ≡ Some p → after_settling p ≡ p) → settled_at place ps ≡ ps
same_at [] place same = refl
same_at (q ∷ ps) zero same = ap (λ x. x ∷ ps) (same q refl)
same_at (q ∷ ps) (suc place) same = ap (λ xs. q ∷ xs) (same_at ps place same)

run_there : (o : Option Phase) → was_run o ≡ true → o ≡ Some phase.Ran
run_there None e = absurd (cc)
run_there (Some phase.Idle) e = absurd (cc)
run_there (Some phase.Out) e = absurd (cc)
run_there (Some phase.Ran) e = refl
run_there (Some phase.Settled) e = absurd (cc)

set_there : (ps : List Phase) (place : ℕ) (p q : Phase) → slice_get ps place ≡ Some p → slice_get (slice_set ps place q) place ≡ Some q
set_there [] place p q is = let g : None ≡ Some p = is in absurd (cc)
set_there (x ∷ ps) zero p q is = refl
set_there (x ∷ ps) (suc place) p q is = set_there ps place p q is

-- a slot at a place that holds a job, or doesn't
held_or : (o : Option Slot) → ((job : JobOf) × (o ≡ Some (slot.Held job))) ⊎ ((job : JobOf) → o ≡ Some (slot.Held job) → ⊥)
held_or None = inr (λ job e. cc)
held_or (Some slot.Idle) = inr (λ job e. cc)
held_or (Some slot.Lent) = inr (λ job e. cc)
held_or (Some (slot.Held job)) = inl (job, refl)
held_or (Some (slot.Ran job outcome)) = inr (λ other e. cc)
held_or (Some (slot.Settled outcome)) = inr (λ other e. cc)

-- what is neither with the caller, nor held, nor run stays as it is
stays : (o : Option Slot) (p : Phase) → option_map phase_in o ≡ Some p → (o ≡ Some slot.Lent → ⊥) → ((job : JobOf) → o ≡ Some (slot.Held job) → ⊥) → was_run (Some p) ≡ false → after_settling p ≡ p
stays None p e a b r = let g : None ≡ Some p = e in absurd (cc)
stays (Some slot.Idle) p e a b r = let g : phase.Idle ≡ p = cc in sym (ap after_settling g) ∙ g
stays (Some slot.Lent) p e a b r = absurd (a refl)
stays (Some (slot.Held job)) p e a b r = absurd (b job refl)
stays (Some (slot.Ran job outcome)) p e a b r = let g : phase.Ran ≡ p = cc in let h : true ≡ false = ap (λ x. was_run (Some x)) g ∙ r in absurd (cc)
stays (Some (slot.Settled outcome)) p e a b r = let g : phase.Settled ≡ p = cc in sym (ap after_settling g) ∙ g

module _ (arena first : ℕ) (log : List Transaction) (one two three : List Slot) (place : ℕ) (places : AreByPlaces arena first log (map phase_in one))
    (keeps : (k : ℕ) → slice_get two k ≡ Some slot.Lent → ⊥)
    (held : (job : JobOf) → slice_get two place ≡ Some (slot.Held job) → map phase_in three ≡ slice_set (map phase_in two) place phase.Idle)
    (other : ((job : JobOf) → slice_get two place ≡ Some (slot.Held job) → ⊥) → map phase_in three ≡ map phase_in two) where
  out_there : (job : JobOf) → slice_get two place ≡ Some (slot.Held job) → slice_get (map phase_in two) place ≡ Some phase.Out
  out_there job is = slice_get-map phase_in two place ∙ ap (option_map phase_in) is

  pub settles_place : (answer : StepAnswer) → answer ≢ NoMemory → Answers arena first log (map phase_in one) (Settle (first + place)) answer (map phase_in two)
      → map phase_in three ≡ settled_at place (map phase_in one)
  settles_place Made memory a =
      let ran : slice_get (map phase_in one) place ≡ Some phase.Ran = run_there (slice_get (map phase_in one) place) (sym (places.settle place) ∙ a.0) in
      let now : map phase_in two ≡ slice_set (map phase_in one) place phase.Settled = a.1 ∙ places.after_settle place in
      let there : slice_get (map phase_in two) place ≡ Some phase.Settled = ap (λ ps. slice_get ps place) now ∙ set_there (map phase_in one) place phase.Ran phase.Settled ran in
      other (λ job is. let g : Some phase.Out ≡ Some phase.Settled = sym (out_there job is) ∙ there in cc) ∙ now ∙ sym (settled_set (map phase_in one) place phase.Ran ran)
  settles_place Refused memory a =
      let not_run : was_run (slice_get (map phase_in one) place) ≡ false = sym (places.settle place) ∙ a.0 in
      elim (held_or (slice_get two place)) [
        | inl (job, is) ↦
            let out : slice_get (map phase_in one) place ≡ Some phase.Out = ap (λ ps. slice_get ps place) (sym a.1) ∙ out_there job is in
            held job is ∙ ap (λ ps. slice_set ps place phase.Idle) a.1 ∙ sym (settled_set (map phase_in one) place phase.Out out)
        | inr none ↦ other none ∙ a.1 ∙ sym (same_at (map phase_in one) place (λ p at.
            let here : option_map phase_in (slice_get two place) ≡ Some p = sym (slice_get-map phase_in two place) ∙ ap (λ ps. slice_get ps place) a.1 ∙ at in
            stays (slice_get two place) p here (keeps place) none (sym (ap was_run at) ∙ not_run)))
      ]
  settles_place NoMemory memory a = absurd (memory refl)

-- the first so many are settled
abbrev pub settled_before : ℕ → List Phase → List Phase
settled_before n ps = map after_settling (take n ps) ++ drop n ps

one_later : (ps : List Phase) (n : ℕ) → n < length ps → settled_at n (settled_before n ps) ≡ settled_before (suc n) ps
one_later [] n less = absurd (omega (arith, less))
one_later (p ∷ ps) zero less = refl
one_later (p ∷ ps) (suc n) less = ap (λ xs. after_settling p ∷ xs) (one_later ps n (omega (arith, less)))

pub one_more : (ps : List Phase) (n : ℕ) → n < length ps → settled_at n (settled_before n ps) ≡ settled_before (n + 1) ps
one_more ps n less = one_later ps n less ∙ ap (λ k. settled_before k ps) (let e : suc n ≡ n + 1 = omega arith in e)

pub all_settled : (ps : List Phase) (n : ℕ) → length ps ≡ n → settled_before n ps ≡ map after_settling ps
all_settled [] zero e = refl
all_settled [] (suc n) e = absurd (omega (arith, e))
all_settled (p ∷ ps) zero e = absurd (omega (arith, e))
all_settled (p ∷ ps) (suc n) e = ap (λ xs. after_settling p ∷ xs) (all_settled ps n (omega (arith, e)))
