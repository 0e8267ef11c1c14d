-- What a listener was told, step by step.
use Rattle.std.proofs.Common.{◌≡◌, ℕ, zero, suc, ◌+◌, ◌-◌, ◌≤◌, ◌^◌, nat_lt, true, false, List, [], ◌∷◌, length, map, Option, None, Some, refl, sym, ap, ◌∙◌, subst, arith, slice_get, slice_set}
use Rattle.std.proofs.lemmas.Bool.Decides.{nat_tests}
use Rattle.std.proofs.lemmas.List.{length-map}
use Rattle.values.specs.Database.{Database}
use Rattle.coarsen.specs.Subtrees.{Requests}
use Rattle.meaning.specs.Entries.{Reply, EntryShape, meaning}
use Rattle.meaning.specs.Serial.{serial_replies}
use Rattle.interp.specs.Entries.{EntryParts, entry_shape}
use Rattle.scheduler_core.specs.declared.phase.Phase.{Phase}
use Rattle.scheduler_core.specs.declared.phase.Phase.TheVariants.{Idle}
use Rattle.scheduler_core.specs.Serial.{serial_reply}
use Rattle.scheduler_core.specs.Phases.{is_settled, phase_of}
use Rattle.scheduler.specs.Logs.{transactions_of}
use Rattle.scheduler.specs.declared.slot.Slot.{Slot}
use Rattle.scheduler.specs.Schedules.{Schedule, Work, log_of, phases_of, phase_in}
use Rattle.progress.specs.declared.tally.Tally.{Tally}
use Rattle.progress.specs.Tallies.{latest}
use Rattle.progress.specs.Accounts.{Account}
use Rattle.dispatcher.specs.Tallies.{tally_of, together, counted, settled_among}
use Rattle.dispatcher.specs.Listeners.{HasRoomForOne, Hears, AreCounted, AreOthersCounted, replies_in, settled_in}
use Rattle.dispatcher.proofs.Facts.{none_some}
use Rattle.dispatcher.proofs.Counting.{set_open, set_more, among_few, together_counted}
use Rattle.progress.proofs.Pushed.{latest_push}

-- ---- lists

set_twice : {X : Type 0} (xs : List X) (k : ℕ) (v w : X) → slice_set (slice_set xs k v) k w ≡ slice_set xs k w
set_twice [] k v w = refl
set_twice (x ∷ xs) zero v w = refl
set_twice (x ∷ xs) (suc k) v w = ap (λ ys. x ∷ ys) (set_twice xs k v w)

pub set_phase : (slots : List Slot) (k : ℕ) (slot : Slot) → map phase_in (slice_set slots k slot) ≡ slice_set (map phase_in slots) k (phase_in slot)
set_phase [] k slot = refl
set_phase (x ∷ slots) zero slot = refl
set_phase (x ∷ slots) (suc k) slot = ap (λ (ps : List Phase). phase_in x ∷ ps) (set_phase slots k slot)

-- ---- replies

-- each entry has a reply
pub replies_each : (entries : List EntryShape) (db : Database) → length (serial_replies entries db) ≡ length entries
replies_each [] db = refl
replies_each (e ∷ es) db = let rest = replies_each es (meaning e db).1 in cc

-- the reply of a place of the log is the one of its entry
pub reply_at : (entries : List EntryParts) (plans : List Requests) (db : Database) (k : ℕ) (r : Reply) → serial_reply (transactions_of entries plans) db k ≡ Some r
    → slice_get (serial_replies (map entry_shape entries) db) k ≡ Some r
reply_at [] plans db k r h = h
reply_at (e ∷ es) [] db k r h = absurd (none_some r h)
reply_at (e ∷ es) (p ∷ ps) db zero r h = h
reply_at (e ∷ es) (p ∷ ps) db (suc k) r h = reply_at es ps (meaning (entry_shape e) db).1 k r h

pub replies_many : (w : Work) → length (replies_in w) ≡ length w.entries
replies_many w = replies_each (map entry_shape w.entries) w.start ∙ length-map w.entries entry_shape

pub log_many : (entries : List EntryParts) (plans : List Requests) → length plans ≡ length entries → length (transactions_of entries plans) ≡ length entries
log_many [] plans same = refl
log_many (e ∷ es) [] same = absurd (cc)
log_many (e ∷ es) (p ∷ ps) same = ap suc (log_many es ps (cc))

-- ---- steps

-- no more is settled
pub same_counted : (s new : Schedule) (a : Option Account) → new.work ≡ s.work → settled_in new ≡ settled_in s → AreCounted s a → AreCounted new a
same_counted s new None work same h = tt
same_counted s new (Some a) work same h = record {
  first = h.first ∙ ap (λ (w : Work). w.first) (sym work);
  few = subst (λ (w : Work). w.first + length w.entries ≤ 2 ^ 48) (sym work) h.few;
  shows = h.shows ∙ ap (λ (rs : List Reply). together a.ended (tally_of rs)) (sym same);
}

-- another phase at a place where nothing is settled, nor will be
pub open_counted : (s new : Schedule) (k : ℕ) (p : Phase) → new.work ≡ s.work → phases_of new ≡ slice_set (phases_of s) k p
    → is_settled (slice_get (phases_of s) k) ≡ false → is_settled (Some p) ≡ false → settled_in new ≡ settled_in s
open_counted s new k p work phases was now =
    ap (λ (w : Work). settled_among (phases_of new) (replies_in w)) work
    ∙ ap (λ (ps : List Phase). settled_among ps (replies_in s.work)) phases
    ∙ set_open (phases_of s) (replies_in s.work) k p was now

-- something at a place where nothing was settled
pub others_counted : (s new : Schedule) (number : ℕ) (p : Phase) (a : Option Account) → new.work ≡ s.work → phases_of new ≡ slice_set (phases_of s) (number - s.work.first) p
    → is_settled (slice_get (phases_of s) (number - s.work.first)) ≡ false → AreCounted s a → AreOthersCounted new number a
others_counted s new number p None work phases was h = tt
others_counted s new number p (Some a) work phases was h =
    let k : ℕ = number - s.work.first in
    let rs : List Reply = replies_in s.work in
    let same : settled_among (slice_set (phases_of new) (number - new.work.first) Idle) (replies_in new.work) ≡ settled_in s =
    ap (λ (w : Work). settled_among (slice_set (phases_of new) (number - w.first) Idle) (replies_in w)) work
    ∙ ap (λ (ps : List Phase). settled_among (slice_set ps k Idle) rs) phases
    ∙ ap (λ (ps : List Phase). settled_among ps rs) (set_twice (phases_of s) k p Idle)
    ∙ set_open (phases_of s) rs k Idle was refl in
    record {
      first = h.first ∙ ap (λ (w : Work). w.first) (sym work);
      few = subst (λ (w : Work). w.first + length w.entries ≤ 2 ^ 48) (sym work) h.few;
      shows = h.shows ∙ ap (λ (xs : List Reply). together a.ended (tally_of xs)) (sym same);
    }

-- ---- telling

pub at_number : (first number : ℕ) (phases : List Phase) → first ≤ number → phase_of first phases number ≡ slice_get phases (number - first)
at_number first number phases h = let below : nat_lt number first ≡ false = grind (arith, nat_tests) in rw below refl

module _ (s : Schedule) (number : ℕ) (r : Reply) (settled : is_settled (slice_get (phases_of s) (number - s.work.first)) ≡ true)
    (reply : serial_reply (log_of s.work) s.work.start (number - s.work.first) ≡ Some r) where
  abbrev others : List Reply
  others = settled_among (slice_set (phases_of s) (number - s.work.first) Idle) (replies_in s.work)

  one_more : tally_of (settled_in s) ≡ counted (tally_of others) r
  one_more = set_more (phases_of s) (replies_in s.work) (number - s.work.first) r settled (reply_at s.work.entries s.work.plans s.work.start (number - s.work.first) r reply)

  pub tell_room : (a : Option Account) → AreOthersCounted s number a → HasRoomForOne a
  tell_room None h = tt
  tell_room (Some a) h =
      let now : (latest a.published).settled ≡ a.ended.settled + length others = ap (λ (t : Tally). t.settled) h.shows in
      let next : length (settled_in s) ≡ length others + 1 = ap (λ (t : Tally). t.settled) one_more in
      let most : length (settled_in s) ≤ length (replies_in s.work) = among_few (phases_of s) (replies_in s.work) in
      omega (arith, now, next, most, replies_many s.work, h.first, h.few)

  pub tell_counts : (a b : Option Account) → AreOthersCounted s number a → Hears a r b → AreCounted s b
  tell_counts None b h heard = subst (AreCounted s) (sym heard) tt
  tell_counts (Some a) b h heard = subst (AreCounted s) (sym heard) (record {
    first = h.first;
    few = h.few;
    shows =
        latest_push a.published (counted (latest a.published) r)
        ∙ ap (λ (t : Tally). counted t r) h.shows
        ∙ sym (together_counted a.ended (tally_of others) r)
        ∙ ap (together a.ended) (sym one_more);
  })

-- nothing is settled at the place
pub tell_none : (s : Schedule) (number : ℕ) (a : Option Account) → is_settled (slice_get (phases_of s) (number - s.work.first)) ≡ false
    → AreOthersCounted s number a → AreCounted s a
tell_none s number None was h = tt
tell_none s number (Some a) was h = record {
  first = h.first;
  few = h.few;
  shows = h.shows ∙ ap (λ (xs : List Reply). together a.ended (tally_of xs)) (set_open (phases_of s) (replies_in s.work) (number - s.work.first) Idle was refl);
}
