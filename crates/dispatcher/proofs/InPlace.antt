-- A job that is lent, run and settled at once: what is in the lanes is as before.
use Rattle.std.proofs.Common.{◌≡◌, ◌≢◌, ℕ, ◌+◌, ◌-◌, true, false, List, Option, None, Some, refl, sym, ap, ◌∙◌, subst, arith, slice_get, slice_set}
use Rattle.std.specs.Prelude.{IfSome, is_some}
use Rattle.meaning.specs.declared.outcome.Outcome.{Outcome}
use Rattle.scheduler.specs.JobRuns.{JobOf, DoneOf, IsDoneOf}
use Rattle.scheduler_core.specs.declared.event.Event.TheVariants as events
use Rattle.scheduler_core.specs.Phases.{is_out, is_settled}
use Rattle.scheduler_core.specs.Events.{enabled}
use Rattle.scheduler.specs.declared.slot.Slot.{Slot}
use Rattle.scheduler.specs.declared.slot.Slot.TheVariants.{Idle, Lent, Settled}
use Rattle.scheduler.specs.Schedules.{Schedule, log_of, phase_in, phases_of}
use Rattle.scheduler.specs.Moments.{can_make, IsLeastLendAt}
use Rattle.scheduler.specs.Jobs.{LendsJob, LendsTo, number_of_job}
use Rattle.scheduler.proofs.Places.{set_twice}
use Rattle.lanes.specs.Seats.{SchedulerSeatOf}
use Rattle.dispatcher.specs.Dispatched.{IsOut, AreInLanes, GetsFurther}
use Rattle.dispatcher.proofs.Told.{set_phase, others_counted}
use Rattle.dispatcher.proofs.Further.{run_further}
use Rattle.dispatcher.proofs.InLanes.{StaysInLanes, set_past, out_at, set_settled, set_out, was_idle_at, apart_places, done_number}

-- a job that was lent is of a transaction to which rows could be lent
pub lends_some : (s mid : Schedule) (o : Option JobOf) (job : JobOf) → o ≡ Some job → LendsTo s o mid → IsLeastLendAt s (number_of_job o)
    → LendsJob s job mid × (can_make s (events.Lend job.no) ≡ true)
lends_some s mid o job is lends least = (
  subst (λ (p : Option JobOf). LendsTo s p mid) is lends,
  (subst (λ (p : Option JobOf). IsLeastLendAt s (number_of_job p)) is least).0,
)

module _ (s : Schedule) (seat : SchedulerSeatOf) (h : AreInLanes s seat) (job : JobOf) (mid : Schedule) (lends : LendsJob s job mid)
    (can : enabled s.work.arena s.work.first (log_of s.work) (phases_of s) (events.Lend job.no) ≡ true) (done : DoneOf) (is : IsDoneOf job done) where
  abbrev place : ℕ
  place = job.no - s.work.first

  numbered : job.no ≡ s.work.first + place
  numbered = lends.lent.job_at.no

  was_idle : slice_get s.slots place ≡ Some Idle
  was_idle = was_idle_at s mid job lends can

  other_slot : (other : JobOf) → IsOut s other → other.no - s.work.first ≢ place
  other_slot other o = apart_places s.slots (other.no - s.work.first) place Lent Idle o.out was_idle (λ e. let x : Lent ≡ Idle = e in cc)

  abbrev with_slot : Slot → Schedule
  with_slot slot = record s { slots = slice_set s.slots place slot }

  again : (slot : Slot) → record mid { slots = slice_set mid.slots (done.job.no - mid.work.first) slot } ≡ with_slot slot
  again slot =
      ap (λ (n : ℕ). record mid { slots = slice_set mid.slots (n - mid.work.first) slot }) (done_number job done is)
      ∙ ap (λ (t : Schedule). record t { slots = slice_set t.slots (job.no - t.work.first) slot }) lends.new_is
      ∙ ap (λ (xs : List Slot). record s { slots = xs }) (set_twice s.slots place Lent slot)

  stays : (slot : Slot) → is_out (Some (phase_in slot)) ≡ false → StaysInLanes s (with_slot slot) seat job.no
  stays slot home = record {
    lanes = record {
      each = λ lane other there. let o = h.each lane other there in record {
        out = set_past s.slots place (other.no - s.work.first) slot (other_slot other o) ∙ o.out;
        lent = o.lent;
      };
      apart = h.apart;
      all = λ p out. h.all p (set_out s.slots place Idle slot was_idle home p out).1;
    };
    settled = set_settled s.slots place Idle slot was_idle refl;
    work = refl;
    above = omega (arith, numbered);
    told = λ a told. others_counted s (with_slot slot) job.no (phase_in slot) a refl (set_phase s.slots place slot) (ap is_settled (out_at s.slots place Idle was_idle)) told;
  }

  pub stays_by : (new : Schedule) (o : Option Outcome)
      → IfSome o (λ outcome. new ≡ record mid { slots = slice_set mid.slots (done.job.no - mid.work.first) (Settled outcome) })
      → (o ≡ None → new ≡ record mid { slots = slice_set mid.slots (done.job.no - mid.work.first) Idle })
      → StaysInLanes s new seat job.no
  stays_by new None settled back = subst (λ (t : Schedule). StaysInLanes s t seat job.no) (sym (back refl ∙ again Idle)) (stays Idle refl)
  stays_by new (Some outcome) settled back = subst (λ (t : Schedule). StaysInLanes s t seat job.no) (sym (settled ∙ again (Settled outcome))) (stays (Settled outcome) refl)

  -- and the run got further, where the job was run
  pub stays_further : (new : Schedule) (o : Option Outcome) → is_some o ≡ true
      → IfSome o (λ outcome. new ≡ record mid { slots = slice_set mid.slots (done.job.no - mid.work.first) (Settled outcome) }) → GetsFurther s new
  stays_further new None some settled = absurd (let e : false ≡ true = some in cc)
  stays_further new (Some outcome) some settled = run_further s new place outcome was_idle (settled ∙ again (Settled outcome))
