-- What a scheduler has come to once all are settled.
use Rattle.std.proofs.Common.{◌≡◌, ◌<◌, ◌==◌, ℕ, zero, suc, true, false, List, [], ◌∷◌, length, map, Option, Some, None, slice_get, refl, sym, ap, ◌∙◌, arith}
use Rattle.std.proofs.lemmas.Bool.Decides.{nat_tests}
use Rattle.std.specs.List.{list_all}
use Rattle.std.specs.FinMap.{get-empty, empty, same_map, nat_cmp-IsAntisymmetric}
use Rattle.std.specs.Cmp.{nat_cmp_total}
use Rattle.std.specs.Ordering.{nat_cmp}
use Rattle.coarsen.specs.Subtrees.{Requests}
use Rattle.lock_tree.specs.Locks.{Locks}
use Rattle.meaning.specs.declared.outcome.Outcome.{Outcome}
use Rattle.meaning.specs.Entries.{EntryShape, Reply}
use Rattle.meaning.specs.Outcomes.{as_reply}
use Rattle.meaning.specs.Serial.{serial_end, serial_replies}
use Rattle.interp.specs.Entries.{EntryParts, entry_shape}
use Rattle.row_store.specs.Stock.{Stock}
use Rattle.scheduler_core.specs.declared.phase.Phase.{Phase}
use Rattle.scheduler_core.specs.declared.phase.Phase.TheVariants as phase
use Rattle.scheduler_core.specs.Transactions.{entries_of}
use Rattle.scheduler_core.specs.Serial.{IsByPlaces}
use Rattle.scheduler_core.specs.Phases.{is_done, is_out, is_settled}
use Rattle.scheduler_core.specs.Laws.{StaysSound}
use Rattle.scheduler.specs.declared.slot.Slot.{Slot}
use Rattle.scheduler.specs.declared.slot.Slot.TheVariants.{Idle, Lent, Held, Ran, Settled}
use Rattle.scheduler.specs.Logs.{transactions_of}
use Rattle.scheduler.specs.Schedules.{Work, log_of, phase_in}
use Rattle.scheduler.specs.Scheduled.{lent_to, IsFitting, IsScheduled}
use Rattle.scheduler.specs.Replies.{replies_of, AreSettled}
use Rattle.scheduler.proofs.Places.{length_map}
use Rattle.scheduler.proofs.Numbers.{who}
use Rattle.scheduler.proofs.Ends.{settled_one, where_all, both}

pub entries_are : (entries : List EntryParts) (plans : List Requests) → length plans ≡ length entries → entries_of (transactions_of entries plans) ≡ map entry_shape entries
entries_are [] plans e = refl
entries_are (x ∷ entries) [] e = absurd (omega (arith, e))
entries_are (x ∷ entries) (p ∷ plans) e = ap (λ es. entry_shape x ∷ es) (entries_are entries plans (omega (arith, e)))

are_settled : (slots : List Slot) → list_all settled_one (map phase_in slots) ≡ true → AreSettled slots
are_settled [] all = tt
are_settled (Settled outcome ∷ slots) all = (tt, are_settled slots all)
are_settled (Idle ∷ slots) all = absurd (cc)
are_settled (Lent ∷ slots) all = absurd (cc)
are_settled (Held job ∷ slots) all = absurd (cc)
are_settled (Ran job outcome ∷ slots) all = absurd (cc)

as_many : (slots : List Slot) → AreSettled slots → length (map as_reply (replies_of slots)) ≡ length slots
as_many [] all = refl
as_many (Settled outcome ∷ slots) all = ap suc (as_many slots all.1)
as_many (Idle ∷ slots) all = absurd all.0
as_many (Lent ∷ slots) all = absurd all.0
as_many (Held job ∷ slots) all = absurd all.0
as_many (Ran job outcome ∷ slots) all = absurd all.0

reply_there : (slots : List Slot) → AreSettled slots → (place : ℕ) (r : Reply) → slice_get (map as_reply (replies_of slots)) place ≡ Some r
    → (outcome : Outcome) × (slice_get slots place ≡ Some (Settled outcome)) × (as_reply outcome ≡ r)
reply_there [] all place r is = absurd (let g : None ≡ Some r = is in cc)
reply_there (Settled outcome ∷ slots) all zero r is = (outcome, refl, let g : Some (as_reply outcome) ≡ Some r = is in cc)
reply_there (Settled outcome ∷ slots) all (suc place) r is = reply_there slots all.1 place r is
reply_there (Idle ∷ slots) all place r is = absurd all.0
reply_there (Lent ∷ slots) all place r is = absurd all.0
reply_there (Held job ∷ slots) all place r is = absurd all.0
reply_there (Ran job outcome ∷ slots) all place r is = absurd all.0

not_both : (o : Option Phase) → is_settled o ≡ true → is_out o ≡ true → ⊥
not_both None a b = cc
not_both (Some phase.Idle) a b = cc
not_both (Some phase.Out) a b = cc
not_both (Some phase.Ran) a b = cc
not_both (Some phase.Settled) a b = cc

out_within : (ps : List Phase) (place : ℕ) → is_out (slice_get ps place) ≡ true → place < length ps
out_within [] place out = absurd (let g : false ≡ true = out in cc)
out_within (p ∷ ps) zero out = omega arith
out_within (p ∷ ps) (suc place) out = let l = out_within ps place out in omega (arith, l)

module _ (w : Work) (slots : List Slot) (stock : Stock) (tree : Locks) (fits : IsFitting w) (s : IsScheduled w slots stock tree) (done : is_done (log_of w) (map phase_in slots) ≡ true) where
  all : list_all settled_one (map phase_in slots) ≡ true
  all = (both (length (map phase_in slots) == length (log_of w)) (list_all settled_one (map phase_in slots)) done).1

  pub settled_slots : AreSettled slots
  settled_slots = are_settled slots all

  same_entries : entries_of (log_of w) ≡ map entry_shape w.entries
  same_entries = entries_are w.entries w.plans fits.plans

  pub end_rows : StaysSound w.tables w.first (log_of w) w.start → stock.rows ≡ serial_end (map entry_shape w.entries) w.start
  end_rows sound = sound.ends (map phase_in slots) stock.rows s.sound done ∙ ap (λ (es : List EntryShape). serial_end es w.start) same_entries

  nothing_out : (number : ℕ) (o : Option Requests) → lent_to w (map phase_in slots) number ≡ o → o ≡ None
  nothing_out number None e = refl
  nothing_out number (Some requests) e = absurd (
      let x = who w (map phase_in slots) number requests e in
      not_both (slice_get (map phase_in slots) x.0) (where_all (map phase_in slots) all x.0 (out_within (map phase_in slots) x.0 x.3)) x.3)

  pub nothing_lent : stock.lent ≡ empty
  nothing_lent = same_map nat_cmp_total nat_cmp-IsAntisymmetric stock.lent empty (λ number.
      s.lent_is number ∙ nothing_out number (lent_to w (map phase_in slots) number) refl ∙ sym (get-empty {X = Requests} nat_cmp number))

  pub end_replies : IsByPlaces (log_of w) w.start → map as_reply (replies_of slots) ≡ serial_replies (map entry_shape w.entries) w.start
  end_replies places =
      let count : length (map as_reply (replies_of slots)) ≡ length slots = as_many slots settled_slots in
      let phases : length (map phase_in slots) ≡ length slots = length_map phase_in slots in
      let same : length (map phase_in slots) ≡ length (log_of w) = (let t = (both (length (map phase_in slots) == length (log_of w)) (list_all settled_one (map phase_in slots)) done).0 in grind (arith, nat_tests)) in
      places.all (map as_reply (replies_of slots)) (omega (arith, count, phases, same)) (λ place r is.
      let x = reply_there slots settled_slots place r is in
      s.kept place (Settled x.0) x.1 ∙ ap (λ (q : Reply). Some q) x.2)
      ∙ ap (λ (es : List EntryShape). serial_replies es w.start) same_entries
