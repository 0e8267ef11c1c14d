-- What comes of a transaction that is run at once.
use Rattle.std.proofs.Common.{◌≡◌, ℕ, zero, suc, ◌+◌, ◌-◌, ◌<◌, ◌≤◌, ◌^◌, ◌++◌, List, [], ◌∷◌, length, map, Option, None, Some, refl, sym, ap, ◌∙◌, subst, arith, cond, slice_set}
use Rattle.std.proofs.lemmas.List.{length-append, length-map}
use Rattle.std.proofs.lemmas.List.Sums.{sum_by_push}
use Rattle.scheduler_core.specs.declared.phase.Phase.{Phase}
use Rattle.scheduler_core.specs.declared.phase.Phase.TheVariants.{Idle, Settled}
use Rattle.scheduler_core.specs.Phases.{is_out, is_settled, progress, was_run}
use Rattle.meaning.specs.declared.outcome.Outcome.{Outcome}
use Rattle.meaning.specs.Entries.{Reply}
use Rattle.scheduler.specs.declared.slot.Slot.{Slot}
use Rattle.scheduler.specs.declared.slot.Slot.TheVariants as slot
use Rattle.scheduler.specs.Schedules.{Schedule, Work, phases_of, phase_in}
use Rattle.progress.specs.Accounts.{Account}
use Rattle.dispatcher.specs.Runs.{StaysSettled}
use Rattle.dispatcher.specs.Tallies.{tally_of, together, settled_among}
use Rattle.dispatcher.specs.Listeners.{AreCounted, AreOthersCounted, replies_in, settled_in}
use Rattle.lanes.specs.Seats.{SchedulerSeatOf}
use Rattle.dispatcher.specs.Dispatched.{AreInLanes}
use Rattle.dispatcher.proofs.Counting.{pushed_same}
use Rattle.dispatcher.proofs.InLanes.{pushed_lanes}

-- ---- one more phase

map_pushed : (slots : List Slot) (x : Slot) → map phase_in (slots ++ x ∷ []) ≡ map phase_in slots ++ phase_in x ∷ []
map_pushed [] x = refl
map_pushed (y ∷ slots) x = ap (λ (ps : List Phase). phase_in y ∷ ps) (map_pushed slots x)

idle_at_end : (ps : List Phase) (n : ℕ) → n ≡ length ps → slice_set (ps ++ Settled ∷ []) n Idle ≡ ps ++ Idle ∷ []
idle_at_end [] zero e = refl
idle_at_end [] (suc n) e = absurd (cc)
idle_at_end (p ∷ ps) zero e = absurd (cc)
idle_at_end (p ∷ ps) (suc n) e = ap (λ (qs : List Phase). p ∷ qs) (idle_at_end ps n (cc))

more_settled : (ps : List Phase) → StaysSettled ps (ps ++ Settled ∷ [])
more_settled [] place is = absurd (cc)
more_settled (p ∷ ps) zero is = is
more_settled (p ∷ ps) (suc place) is = more_settled ps place is

-- the transaction takes its four steps at once
four_further : (ps : List Phase) → progress (ps ++ Settled ∷ []) ≡ progress ps + 4
four_further ps =
    let long = length-append ps (Settled ∷ []) in
    let out = sum_by_push (λ p. cond (is_out (Some p)) 1 0) ps Settled in
    let run = sum_by_push (λ p. cond (was_run (Some p)) 1 0) ps Settled in
    let done = sum_by_push (λ p. cond (is_settled (Some p)) 1 0) ps Settled in
    omega (arith, long, out, run, done)

module _ (s new : Schedule) (outcome : Outcome) (is : new ≡ record s { slots = s.slots ++ slot.Settled outcome ∷ [] }) where
  phases_are : phases_of new ≡ phases_of s ++ Settled ∷ []
  phases_are = ap (λ (x : Schedule). phases_of x) is ∙ map_pushed s.slots (slot.Settled outcome)

  pub same_work : new.work ≡ s.work
  same_work = ap (λ (x : Schedule). x.work) is

  pub straight_settles : StaysSettled (phases_of s) (phases_of new)
  straight_settles = subst (StaysSettled (phases_of s)) (sym phases_are) (more_settled (phases_of s))

  pub straight_lanes : (seat : SchedulerSeatOf) → AreInLanes s seat → AreInLanes new seat
  straight_lanes seat h = subst (λ (t : Schedule). AreInLanes t seat) (sym is) (pushed_lanes s (slot.Settled outcome) refl seat h)

  pub straight_further : progress (phases_of s) < progress (phases_of new)
  straight_further = let four = four_further (phases_of s) in let now = ap progress phases_are in omega (arith, four, now)

  -- all others were told of
  pub straight_told : (number : ℕ) (a : Option Account) → number ≡ s.work.first + length s.slots → AreCounted s a → AreOthersCounted new number a
  straight_told number None n h = tt
  straight_told number (Some a) n h =
      let count : length (phases_of s) ≡ length s.slots = length-map s.slots phase_in in
      let spot : number - s.work.first ≡ length (phases_of s) = omega (arith, n, count) in
      let rs : List Reply = replies_in s.work in
      let same : settled_among (slice_set (phases_of new) (number - new.work.first) Idle) (replies_in new.work) ≡ settled_in s =
      ap (λ (w : Work). settled_among (slice_set (phases_of new) (number - w.first) Idle) (replies_in w)) same_work
      ∙ ap (λ (ps : List Phase). settled_among (slice_set ps (number - s.work.first) Idle) rs) phases_are
      ∙ ap (λ (ps : List Phase). settled_among ps rs) (idle_at_end (phases_of s) (number - s.work.first) spot)
      ∙ pushed_same (phases_of s) rs in
      record {
        first = h.first ∙ ap (λ (w : Work). w.first) (sym same_work);
        few = subst (λ (w : Work). w.first + length w.entries ≤ 2 ^ 48) (sym same_work) h.few;
        shows = h.shows ∙ ap (λ (xs : List Reply). together a.ended (tally_of xs)) (sym same);
      }
