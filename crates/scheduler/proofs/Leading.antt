-- The leading transactions that are settled.
use Rattle.std.proofs.Common.{◌≡◌, ◌≢◌, ◌<◌, ◌≤◌, ◌+◌, ◌++◌, ℕ, true, false, List, [], ◌∷◌, length, length-set, map, Some, slice_get, slice_set, refl, sym, ap, ◌∙◌, arith, inl, inr}
use Rattle.scheduler_core.specs.declared.phase.Phase.TheVariants as phase
use Rattle.scheduler_core.specs.Phases.{is_settled}
use Rattle.scheduler.specs.declared.slot.Slot.{Slot}
use Rattle.scheduler.specs.declared.slot.Slot.TheVariants.{Idle}
use Rattle.scheduler.specs.Schedules.{phase_in}
use Rattle.scheduler.specs.Scheduled.{AreSettledBefore}
use Rattle.scheduler.proofs.Places.{length_map, map_push, map_set, push_before, push_end, set_here, set_elsewhere}
use Rattle.scheduler.proofs.Slots.{phase_at}
use Rattle.scheduler.proofs.Numbers.{same_number}

pushed_phase : (slots : List Slot) (place : ℕ) → place ≢ length slots → slice_get (map phase_in (slots ++ Idle ∷ [])) place ≡ slice_get (map phase_in slots) place
pushed_phase slots place n =
    ap (λ ps. slice_get ps place) (map_push phase_in slots Idle)
    ∙ push_before (map phase_in slots) phase.Idle place (λ e. n (e ∙ length_map phase_in slots))

last_phase : (slots : List Slot) (place : ℕ) → place ≡ length slots → slice_get (map phase_in (slots ++ Idle ∷ [])) place ≡ Some phase.Idle
last_phase slots place e =
    ap (λ ps. slice_get ps place) (map_push phase_in slots Idle)
    ∙ ap (slice_get (map phase_in slots ++ phase.Idle ∷ [])) (e ∙ sym (length_map phase_in slots))
    ∙ push_end (map phase_in slots) phase.Idle

pub length_pushed : (slots : List Slot) (slot : Slot) → length (slots ++ slot ∷ []) ≡ length slots + 1
length_pushed [] slot = refl
length_pushed (x ∷ slots) slot = let e = length_pushed slots slot in omega (arith, e)

-- one more slot that is idle
pub settled_pushed : (slots : List Slot) (n : ℕ) → AreSettledBefore slots n → AreSettledBefore (slots ++ Idle ∷ []) n
settled_pushed slots n s = record {
  before = λ place less. let w : n ≤ length slots = s.within in ap is_settled (pushed_phase slots place (λ e. absurd (omega (arith, e, less, w)))) ∙ s.before place less;
  next = elim (same_number n (length slots)) [
    | inl e ↦ ap is_settled (last_phase slots n e)
    | inr m ↦ ap is_settled (pushed_phase slots n m) ∙ s.next
  ];
  within = let w : n ≤ length slots = s.within in let e = length_pushed slots Idle in omega (arith, e, w);
}

-- what is not settled stands after the leading ones
apart : (slots : List Slot) (n place : ℕ) (old : Slot) → AreSettledBefore slots n → slice_get slots place ≡ Some old → is_settled (Some (phase_in old)) ≡ false → (k : ℕ) → k < n → k ≢ place
apart slots n place old s is open_yet k less e =
    let settled : is_settled (Some (phase_in old)) ≡ true = sym (ap is_settled (phase_at slots place old is)) ∙ ap (λ (i : ℕ). is_settled (slice_get (map phase_in slots) i)) (sym e) ∙ s.before k less in
    let g : true ≡ false = sym settled ∙ open_yet in cc

set_phase : (slots : List Slot) (place k : ℕ) (slot : Slot) → k ≢ place → slice_get (map phase_in (slice_set slots place slot)) k ≡ slice_get (map phase_in slots) k
set_phase slots place k slot n = ap (λ ps. slice_get ps k) (map_set phase_in slots place slot) ∙ set_elsewhere (map phase_in slots) place k (phase_in slot) n

pub settled_before : (slots : List Slot) (n place : ℕ) (old new : Slot) → AreSettledBefore slots n → slice_get slots place ≡ Some old → is_settled (Some (phase_in old)) ≡ false
    → (k : ℕ) → k < n → is_settled (slice_get (map phase_in (slice_set slots place new)) k) ≡ true
settled_before slots n place old new s is open_yet k less = ap is_settled (set_phase slots place k new (apart slots n place old s is open_yet k less)) ∙ s.before k less

pub settled_within : (slots : List Slot) (n place : ℕ) (new : Slot) → AreSettledBefore slots n → n ≤ length (slice_set slots place new)
settled_within slots n place new s = let w : n ≤ length slots = s.within in let e : length (slice_set slots place new) ≡ length slots = length-set slots place new in omega (arith, e, w)

-- another slot that is not settled
pub settled_set : (slots : List Slot) (n place : ℕ) (old new : Slot) → AreSettledBefore slots n → slice_get slots place ≡ Some old → is_settled (Some (phase_in old)) ≡ false → is_settled (Some (phase_in new)) ≡ false
    → AreSettledBefore (slice_set slots place new) n
settled_set slots n place old new s is open_yet still = record {
  before = settled_before slots n place old new s is open_yet;
  next = elim (same_number n place) [
    | inl e ↦ ap (λ (i : ℕ). is_settled (slice_get (map phase_in (slice_set slots place new)) i)) e ∙ ap is_settled (phase_at (slice_set slots place new) place new (set_here slots place old new is)) ∙ still
    | inr m ↦ ap is_settled (set_phase slots place n new m) ∙ s.next
  ];
  within = settled_within slots n place new s;
}
