-- The next event.
use Rattle.std.proofs.Common.{◌≡◌, ◌≢◌, ◌<◌, ◌≤◌, ◌+◌, ◌==◌, ℕ, Bool, true, false, if◌then◌else◌, List, [], ◌∷◌, length, map, Option, Some, None, slice_get, sym, ap, ◌∙◌, arith}
use Rattle.std.proofs.lemmas.Bool.Decides.{nat_tests}
use Rattle.row_store.specs.Stock.{Stock}
use Rattle.lock_tree.specs.Locks.{Locks}
use Rattle.scheduler_core.specs.declared.event.Event.{Event}
use Rattle.scheduler_core.specs.declared.event.Event.TheVariants.{Admit, Lend, Run, Settle}
use Rattle.scheduler_core.specs.declared.phase.Phase.{Phase}
use Rattle.scheduler_core.specs.declared.phase.Phase.TheVariants as phase
use Rattle.scheduler_core.specs.Phases.{is_settled}
use Rattle.scheduler_core.specs.Choices.{next_step, first_step, next_event}
use Rattle.scheduler_core.specs.Laws.{AreByPlaces}
use Rattle.scheduler.specs.declared.slot.Slot.{Slot}
use Rattle.scheduler.specs.Schedules.{Work, log_of, phase_in, steps_of}
use Rattle.scheduler.specs.Scheduled.{IsFitting, IsScheduled, AreSettledBefore}
use Rattle.scheduler.proofs.Places.{length_map}
use Rattle.scheduler.proofs.Slots.{phase_at}
use Rattle.scheduler.proofs.Numbers.{log_length}

one_step : (r : Option Event) (event : Event) → steps_of r ≡ event ∷ [] → r ≡ Some event
one_step None event e = absurd (cc)
one_step (Some x) event e = let g : x ≡ event = cc in ap (λ y. Some y) g

first_of : (r : Option Event) (number : ℕ) (p : Phase) → is_settled (Some p) ≡ false → steps_of r ≡ next_step number p → r ≡ Some (first_step (next_step number p))
first_of r number phase.Idle open_yet e = one_step r (Lend number) e
first_of r number phase.Out open_yet e = one_step r (Run number) e
first_of r number phase.Ran open_yet e = one_step r (Settle number) e
first_of r number phase.Settled open_yet e = absurd (cc)

module _ (w : Work) (slots : List Slot) (stock : Stock) (tree : Locks) (fits : IsFitting w) (s : IsScheduled w slots stock tree) (n : ℕ) (leading : AreSettledBefore slots n)
    (places : AreByPlaces w.arena w.first (log_of w) (map phase_in slots)) where
  pub open_next : (slot : Slot) (r : Option Event) → slice_get slots n ≡ Some slot → steps_of r ≡ next_step (w.first + n) (phase_in slot) → r ≡ next_event w.first (log_of w) (map phase_in slots)
  open_next slot r at e =
      let open_yet : is_settled (Some (phase_in slot)) ≡ false = sym (ap is_settled (phase_at slots n slot at)) ∙ leading.next in
      first_of r (w.first + n) (phase_in slot) open_yet e ∙ sym (places.first_open n (phase_in slot) (phase_at slots n slot at) open_yet leading.before)

  all_settled : length slots ≤ n → (i : ℕ) → i < length (map phase_in slots) → is_settled (slice_get (map phase_in slots) i) ≡ true
  all_settled past i less = let c : length (map phase_in slots) ≡ length slots = length_map phase_in slots in leading.before i (omega (arith, past, less, c))

  counts : (length (map phase_in slots) ≡ length slots) × (length (log_of w) ≡ length w.entries)
  counts = (length_map phase_in slots, log_length w.entries w.plans fits.plans)

  pub done_next : length slots ≤ n → length slots ≡ length w.entries → None ≡ next_event w.first (log_of w) (map phase_in slots)
  done_next past e =
      let c = counts in
      let same : (length (map phase_in slots) == length (log_of w)) ≡ true = (let g : length (map phase_in slots) ≡ length (log_of w) = omega (arith, e, c.0, c.1) in grind (arith, nat_tests)) in
      sym (places.none_open (all_settled past) ∙ ap (λ (b : Bool). if b then None else Some Admit) same)

  pub admit_next : length slots ≤ n → length slots ≢ length w.entries → Some Admit ≡ next_event w.first (log_of w) (map phase_in slots)
  admit_next past d =
      let c = counts in
      let apart : (length (map phase_in slots) == length (log_of w)) ≡ false = (let g : length (map phase_in slots) ≢ length (log_of w) = λ x. d (omega (arith, x, c.0, c.1)) in grind (arith, nat_tests)) in
      sym (places.none_open (all_settled past) ∙ ap (λ (b : Bool). if b then None else Some Admit) apart)
