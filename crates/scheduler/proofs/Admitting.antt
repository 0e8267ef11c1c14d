-- Admitting a transaction.
use Rattle.std.proofs.Common.{◌≡◌, ◌≤◌, ◌+◌, ℕ, zero, suc, nat_le, false, List, [], ◌∷◌, length, map, Some, None, slice_get, refl, sym, ap, ◌∙◌, subst, arith}
use Rattle.std.proofs.lemmas.Option.{slice_get_past}
use Rattle.coarsen.specs.Subtrees.{Requests}
use Rattle.lock_tree.specs.Locks.{Locks, used}
use Rattle.lock_tree.specs.Enqueues.{AreBelow}
use Rattle.interp.specs.Entries.{EntryParts, entry_shape}
use Rattle.row_store.specs.Stock.{Stock}
use Rattle.scheduler_core.specs.declared.event.Event.TheVariants.{Admit}
use Rattle.scheduler_core.specs.Transactions.{Transaction}
use Rattle.scheduler_core.specs.Events.{waiting, enabled, has_room}
use Rattle.scheduler.specs.declared.slot.Slot.{Slot}
use Rattle.scheduler.specs.Logs.{transactions_of}
use Rattle.scheduler.specs.Schedules.{Work, log_of, phase_in}
use Rattle.scheduler.specs.Scheduled.{IsFitting, IsScheduled}
use Rattle.scheduler_core.specs.Laws.{FollowsPhases}
use Rattle.scheduler.proofs.Places.{length_map}
use Rattle.scheduler.proofs.Numbers.{log_length}

-- the transaction of a plan
pub transaction_there : (entries : List EntryParts) (plans : List Requests) (place : ℕ) (p : Requests) → length plans ≡ length entries → slice_get plans place ≡ Some p
    → (t : Transaction) × (slice_get (transactions_of entries plans) place ≡ Some t) × (t.plan ≡ p)
transaction_there [] [] place p e is = absurd (let g : None ≡ Some p = is in cc)
transaction_there [] (q ∷ plans) place p e is = absurd (omega (arith, e))
transaction_there (x ∷ entries) [] place p e is = absurd (omega (arith, e))
transaction_there (x ∷ entries) (q ∷ plans) zero p e is = (record { entry = entry_shape x; plan = q }, refl, let g : Some q ≡ Some p = is in cc)
transaction_there (x ∷ entries) (q ∷ plans) (suc place) p e is = transaction_there entries plans place p (omega (arith, e)) is

module _ (w : Work) (slots : List Slot) (stock : Stock) (tree : Locks) (s : IsScheduled w slots stock tree) where
  -- whether there is room for the next plan
  pub room : (t : Transaction) → slice_get (log_of w) (length slots) ≡ Some t → enabled w.arena w.first (log_of w) (map phase_in slots) Admit ≡ nat_le (used tree.waiting + length t.plan) w.arena
  room t at =
      let count : length (map phase_in slots) ≡ length slots = length_map phase_in slots in
      ap (λ n. has_room w.arena (waiting w.first (log_of w) (map phase_in slots)) (slice_get (log_of w) n)) count
      ∙ ap (has_room w.arena (waiting w.first (log_of w) (map phase_in slots))) at
      ∙ ap (λ (l : Locks). nat_le (used l.waiting + length t.plan) w.arena) (sym s.tree_is)

  -- past the last transaction nothing is admitted
  pub none_next : IsFitting w → length w.plans ≤ length slots → enabled w.arena w.first (log_of w) (map phase_in slots) Admit ≡ false
  none_next fits past =
      let count : length (map phase_in slots) ≡ length slots = length_map phase_in slots in
      let all : length (log_of w) ≡ length w.entries = log_length w.entries w.plans fits.plans in
      let same : length w.plans ≡ length w.entries = fits.plans in
      let none : slice_get (log_of w) (length (map phase_in slots)) ≡ None = slice_get_past (log_of w) (length (map phase_in slots)) (omega (arith, count, all, same, past)) in
      ap (has_room w.arena (waiting w.first (log_of w) (map phase_in slots))) none

  -- numbers rise
  pub below_number : FollowsPhases w.first (log_of w) → (number : ℕ) → number ≡ w.first + length slots → AreBelow number tree.waiting
  below_number follows number e =
      let count : length (map phase_in slots) ≡ length slots = length_map phase_in slots in
      let n : w.first + length (map phase_in slots) ≡ number = omega (arith, count, e) in
      subst (λ k. AreBelow k tree.waiting) n (subst (λ (l : Locks). AreBelow (w.first + length (map phase_in slots)) l.waiting) (sym s.tree_is) (follows.below (map phase_in slots)))
