-- Slots, and their phases.
use Rattle.std.proofs.Common.{◌≡◌, ℕ, false, List, map, Option, Some, None, option_map, IfSome, slice_get, refl, sym, ap, ◌∙◌}
use Rattle.std.proofs.lemmas.Option.{slice_get-map}
use Rattle.meaning.specs.declared.outcome.Outcome.{Outcome}
use Rattle.scheduler.specs.JobRuns.{JobOf}
use Rattle.scheduler_core.specs.Phases.{was_run}
use Rattle.scheduler.specs.declared.slot.Slot.{Slot}
use Rattle.scheduler.specs.declared.slot.Slot.TheVariants.{Idle, Lent, Held, Ran, Settled}
use Rattle.scheduler.specs.Schedules.{phase_in}

-- the phase at a place
pub phase_at : (slots : List Slot) (place : ℕ) (slot : Slot) → slice_get slots place ≡ Some slot → slice_get (map phase_in slots) place ≡ Some (phase_in slot)
phase_at slots place slot is = slice_get-map phase_in slots place ∙ ap (option_map phase_in) is

other_phase : (slot : Slot) → ((job : JobOf) (outcome : Outcome) → slot ≡ Ran job outcome → ⊥) → was_run (Some (phase_in slot)) ≡ false
other_phase Idle other = refl
other_phase Lent other = refl
other_phase (Held job) other = refl
other_phase (Ran job outcome) other = absurd (other job outcome refl)
other_phase (Settled outcome) other = refl

pub not_run : (slots : List Slot) (place : ℕ) (slot : Slot) → slice_get slots place ≡ Some slot → ((job : JobOf) (outcome : Outcome) → slot ≡ Ran job outcome → ⊥) → was_run (slice_get (map phase_in slots) place) ≡ false
not_run slots place slot is other = ap was_run (phase_at slots place slot is) ∙ other_phase slot other

pub not_held : (slots : List Slot) (place : ℕ) (slot : Slot) → slice_get slots place ≡ Some slot → ((job : JobOf) → slot ≡ Held job → ⊥) → (job : JobOf) → slice_get slots place ≡ Some (Held job) → ⊥
not_held slots place slot is other job held = other job (let e : Some slot ≡ Some (Held job) = sym is ∙ held in cc)

-- of what is there
pub if_some : {A : Type 0} {P Q : A → Type 0} (o : Option A) → IfSome o P → ((x : A) → P x → Q x) → IfSome o Q
if_some None p f = p
if_some (Some x) p f = f x p
