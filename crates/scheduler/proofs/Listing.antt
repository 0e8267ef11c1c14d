-- The enabled events, one transaction after the other.
use Rattle.std.proofs.Common.{◌≡◌, ◌≤◌, ◌+◌, ◌++◌, ℕ, suc, Bool, true, false, if◌then◌else◌, List, [], ◌∷◌, length, map, take, filter, Option, Some, None, slice_get, refl, sym, ap, ◌∙◌, arith}
use Rattle.scheduler_core.specs.declared.event.Event.{Event}
use Rattle.scheduler_core.specs.declared.event.Event.TheVariants.{Admit}
use Rattle.scheduler_core.specs.declared.phase.Phase.{Phase}
use Rattle.scheduler_core.specs.Transactions.{Transaction}
use Rattle.scheduler_core.specs.Events.{enabled}
use Rattle.scheduler_core.specs.Choices.{next_step, next_steps, enabled_events, chosen}
use Rattle.scheduler_core.specs.Laws.{AreByPlaces, EnabledEventsAreListed, FitIn}
use Rattle.scheduler.specs.declared.slot.Slot.{Slot}
use Rattle.scheduler.specs.Schedules.{Work, log_of, phase_in, steps_of, next_of, IsChoice}
use Rattle.scheduler.proofs.Slots.{phase_at}

filter_both : (p : Event → Bool) (xs ys : List Event) → filter p (xs ++ ys) ≡ filter p xs ++ filter p ys
filter_both p [] ys = refl
filter_both p (x ∷ xs) ys = elim (p x) as (λ b. p x ≡ b → (if b then x ∷ filter p (xs ++ ys) else filter p (xs ++ ys)) ≡ (if b then x ∷ filter p xs else filter p xs) ++ filter p ys) [
  | true ↦ λ _. ap (λ zs. x ∷ zs) (filter_both p xs ys)
  | false ↦ λ _. filter_both p xs ys
] refl

module _ (w : Work) (slots : List Slot) (places : AreByPlaces w.arena w.first (log_of w) (map phase_in slots)) where
  abbrev test : Event → Bool
  test = enabled w.arena w.first (log_of w) (map phase_in slots)

  pub one_more : (place : ℕ) (slot : Slot) (items : List Event) (r : Option Event) → slice_get slots place ≡ Some slot
      → items ≡ filter (enabled w.arena w.first (log_of w) (map phase_in slots)) (Admit ∷ next_steps w.first (take place (map phase_in slots)))
      → steps_of r ≡ filter (enabled w.arena w.first (log_of w) (map phase_in slots)) (next_of (w.first + place) (slice_get slots place))
      → items ++ steps_of r ≡ filter (enabled w.arena w.first (log_of w) (map phase_in slots)) (Admit ∷ next_steps w.first (take (place + 1) (map phase_in slots)))
  one_more place slot items r at so_far step =
      let next : next_of (w.first + place) (slice_get slots place) ≡ next_step (w.first + place) (phase_in slot) = ap (next_of (w.first + place)) at in
      ap (λ xs. xs ++ steps_of r) so_far
      ∙ ap (λ ys. filter test (Admit ∷ next_steps w.first (take place (map phase_in slots))) ++ ys) (step ∙ ap (filter test) next)
      ∙ sym (filter_both test (Admit ∷ next_steps w.first (take place (map phase_in slots))) (next_step (w.first + place) (phase_in slot)))
      ∙ ap (λ zs. filter test (Admit ∷ zs)) (sym (places.steps_before place (phase_in slot) (phase_at slots place slot at)))
      ∙ ap (λ k. filter test (Admit ∷ next_steps w.first (take k (map phase_in slots)))) (let e : suc place ≡ place + 1 = omega arith in e)

-- what is chosen is enabled, and nothing is chosen exactly where all is done
pub choice_is : EnabledEventsAreListed → (arena first : ℕ) (log : List Transaction) (phases : List Phase) (n : ℕ) → length phases ≤ length log → FitIn arena log
    → (o : Option Event) → o ≡ chosen n (enabled_events arena first log phases) → IsChoice arena first log phases o
choice_is law arena first log phases n within fit None e = (law.no_choice arena first log phases n within fit).0 (sym e)
choice_is law arena first log phases n within fit (Some event) e = law.choice arena first log phases n event (sym e)
