-- Events by the places of their transactions.
use Rattle.std.proofs.Common.{◌≡◌, ℕ, zero, suc, ◌+◌, ◌<◌, inl, inr, nat_lt, ◌&&◌, ◌==◌, Bool, true, false, cond, List, [], ◌∷◌, ◌++◌, length, take, None, Some, refl, sym, ◌∙◌, ap, arith, slice_get}
use Rattle.std.specs.List.{list_all}
use Rattle.std.proofs.lemmas.Bool.Decides.{nat_tests}
use Rattle.std.proofs.lemmas.List.{append-nil, append_assoc}
use Rattle.lock_tree.specs.Ready.{ready}
use Rattle.scheduler_core.specs.declared.event.Event.{Event}
use Rattle.scheduler_core.specs.declared.event.Event.TheVariants.{Admit}
use Rattle.scheduler_core.specs.declared.phase.Phase.{Phase}
use Rattle.scheduler_core.specs.declared.phase.Phase.TheVariants.{Out, Ran, Settled}
use Rattle.scheduler_core.specs.Transactions.{Transaction}
use Rattle.scheduler_core.specs.Phases.{is_idle, is_lent, was_run, is_settled, is_done, phase_of}
use Rattle.scheduler_core.specs.Events.{waiting}
use Rattle.scheduler_core.specs.Choices.{next_step, next_steps, first_step, next_event}
use Rattle.scheduler_core.specs.Laws.{EventsByPlaces}
use Rattle.scheduler_core.proofs.Lists.{cases, both, some_is, none_some, true_false, each_passes}
use Rattle.scheduler_core.proofs.Numbers.{at_place, with_place}
use Rattle.scheduler_core.proofs.NextSteps.{step_of, settled_no_step, first_appended}

below_first : (number first : ℕ) → number < first → nat_lt number first ≡ true
below_first number first less = grind (arith, nat_tests)

no_number : (first : ℕ) (phases : List Phase) (number : ℕ) → number < first → phase_of first phases number ≡ None
no_number first phases number less = rw (below_first number first less) refl

steps_more : (first : ℕ) (phases : List Phase) (place : ℕ) (p : Phase) → slice_get phases place ≡ Some p
    → next_steps first (take (suc place) phases) ≡ next_steps first (take place phases) ++ next_step (first + place) p
steps_more first [] place p is = absurd (none_some p is)
steps_more first (q ∷ phases) zero p is =
    let e : first ≡ first + 0 = omega arith in
    append-nil (next_step first q) ∙ ap (next_step first) (some_is q p is) ∙ ap (λ (n : ℕ). next_step n p) e
steps_more first (q ∷ phases) (suc place) p is =
    let e : suc first + place ≡ first + suc place = omega arith in
    ap (λ es. next_step first q ++ es) (steps_more (suc first) phases place p is ∙ ap (λ (n : ℕ). next_steps (suc first) (take place phases) ++ next_step n p) e)
    ∙ sym (append_assoc (next_step first q) (next_steps (suc first) (take place phases)) (next_step (first + suc place) p))

every_settled : (phases : List Phase) → ((i : ℕ) → i < length phases → is_settled (slice_get phases i) ≡ true) → list_all (λ p. is_settled (Some p)) phases ≡ true
every_settled [] each = refl
every_settled (p ∷ phases) each = rw (each 0 (omega arith)) (every_settled phases (λ i less. each (suc i) (omega (arith, less))))

first_unsettled : (first : ℕ) (phases : List Phase) (place : ℕ) (p : Phase) → slice_get phases place ≡ Some p → is_settled (Some p) ≡ false
    → ((i : ℕ) → i < place → is_settled (slice_get phases i) ≡ true) → first_step (next_steps first phases) ≡ step_of (first + place) p
first_unsettled first [] place p is unsettled before = absurd (none_some p is)
first_unsettled first (q ∷ phases) zero p is unsettled before =
    let e : first ≡ first + 0 = omega arith in
    first_appended first q (next_steps (suc first) phases) (ap (λ (x : Phase). is_settled (Some x)) (some_is q p is) ∙ unsettled)
    ∙ ap (step_of first) (some_is q p is) ∙ ap (λ (n : ℕ). step_of n p) e
first_unsettled first (q ∷ phases) (suc place) p is unsettled before =
    let e : suc first + place ≡ first + suc place = omega arith in
    ap (λ es. first_step (es ++ next_steps (suc first) phases)) (settled_no_step first q (before 0 (omega arith)))
    ∙ first_unsettled (suc first) phases place p is unsettled (λ i less. before (suc i) (omega (arith, less)))
    ∙ ap (λ (n : ℕ). step_of n p) e

no_steps : (first : ℕ) (phases : List Phase) → list_all (λ p. is_settled (Some p)) phases ≡ true → next_steps first phases ≡ []
no_steps first [] every = refl
no_steps first (p ∷ phases) every =
    let parts = both (is_settled (Some p)) (list_all (λ q. is_settled (Some q)) phases) every in
    ap (λ es. es ++ next_steps (suc first) phases) (settled_no_step first p parts.0) ∙ no_steps (suc first) phases parts.1

and_true : (b : Bool) → (b && true) ≡ b
and_true true = refl
and_true false = refl

module _ (first : ℕ) (log : List Transaction) (phases : List Phase) where
  next_open : (place : ℕ) (p : Phase) → slice_get phases place ≡ Some p → is_settled (Some p) ≡ false
      → ((i : ℕ) → i < place → is_settled (slice_get phases i) ≡ true) → next_event first log phases ≡ Some (step_of (first + place) p)
  next_open place p is unsettled before =
      let unfinished : is_done log phases ≡ false = elim (cases (is_done log phases)) [
        | inr not ↦ not
        | inl done ↦ absurd (true_false (is_settled (Some p)) (each_passes (λ q. is_settled (Some q)) phases place p (both (length phases == length log) (list_all (λ q. is_settled (Some q)) phases) done).1 is) unsettled)
      ] in
      ap (λ b. cond b None (Some (first_step (next_steps first phases)))) unfinished ∙ ap (λ (e : Event). Some e) (first_unsettled first phases place p is unsettled before)

  next_admits : ((i : ℕ) → i < length phases → is_settled (slice_get phases i) ≡ true) → next_event first log phases ≡ cond (length phases == length log) None (Some Admit)
  next_admits each =
      let every = every_settled phases each in
      ap (λ b. cond ((length phases == length log) && b) None (Some (first_step (next_steps first phases)))) every
      ∙ ap (λ b. cond b None (Some (first_step (next_steps first phases)))) (and_true (length phases == length log))
      ∙ ap (λ es. cond (length phases == length log) None (Some (first_step es))) (no_steps first phases every)

pub by_places : EventsByPlaces
by_places arena first log phases = record {
  phase = at_place first phases;
  no_phase = no_number first phases;
  lend = λ place. ap (λ o. is_idle o && ready (waiting first log phases) (first + place)) (at_place first phases place);
  run = λ place. ap is_lent (at_place first phases place);
  settle = λ place. ap was_run (at_place first phases place);
  after_lend = λ place. with_place first phases place Out;
  after_run = λ place. with_place first phases place Ran;
  after_settle = λ place. with_place first phases place Settled;
  steps_before = steps_more first phases;
  first_open = λ place p is unsettled before. next_open first log phases place p is unsettled before;
  none_open = λ each. next_admits first log phases each;
}
