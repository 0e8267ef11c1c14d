-- Lanes without a job, at the start and at the end.
use Rattle.std.proofs.Common.{◌≡◌, ℕ, zero, suc, ◌-◌, ◌<◌, Bool, true, false, cond, List, [], ◌∷◌, Option, None, Some, refl, sym, ap, ◌∙◌, arith, inl, inr, ◌⊎◌, slice_get}
use Rattle.std.specs.Prelude.{is_some}
use Rattle.std.proofs.lemmas.List.Sums.{sum_by-cons}
use Rattle.scheduler.specs.JobRuns.{JobOf}
use Rattle.scheduler_core.specs.Phases.{is_out}
use Rattle.scheduler.specs.declared.slot.Slot.TheVariants.{Lent}
use Rattle.scheduler.specs.Schedules.{Schedule, phases_of, KeepsItsJobs}
use Rattle.lanes.specs.Seats.{SchedulerSeatOf, jobs_in}
use Rattle.dispatcher.specs.Runs.{NoneIsOut}
use Rattle.dispatcher.specs.Dispatched.{AreInLanes}
use Rattle.dispatcher.proofs.Facts.{none_some, some_is}
use Rattle.dispatcher.proofs.InLanes.{out_at}

some_counted : (jobs : List (Option JobOf)) (lane : ℕ) (job : JobOf) → slice_get jobs lane ≡ Some (Some job) → 0 < jobs_in jobs
some_counted [] lane job there = absurd (none_some (Some job) there)
some_counted (x ∷ jobs) zero job there =
    let e : x ≡ Some job = some_is x (Some job) there in
    let one : ◌≡◌ {A = ℕ} (cond (is_some x) 1 0) 1 = ap (λ o. cond (is_some o) 1 0) e in
    let more = sum_by-cons (λ o. cond (is_some o) 1 0) x jobs in
    omega (arith, one, more)
some_counted (x ∷ jobs) (suc lane) job there =
    let rest = some_counted jobs lane job there in
    let more = sum_by-cons (λ o. cond (is_some o) 1 0) x jobs in
    omega (arith, rest, more)

nothing_in : (jobs : List (Option JobOf)) → jobs_in jobs ≡ 0 → (lane : ℕ) (job : JobOf) → slice_get jobs lane ≡ Some (Some job) → ⊥
nothing_in jobs empty lane job there = let some = some_counted jobs lane job there in omega (arith, some, empty)

-- where nothing is out and no lane has a job
pub none_lanes : (s : Schedule) (seat : SchedulerSeatOf) → jobs_in seat.jobs ≡ 0 → NoneIsOut (phases_of s) → AreInLanes s seat
none_lanes s seat empty none = record {
  each = λ lane job there. absurd (nothing_in seat.jobs empty lane job there);
  apart = λ i k job other d there also. absurd (nothing_in seat.jobs empty i job there);
  all = λ place out. absurd (let e : false ≡ true = sym (none place) ∙ out in cc);
}

abbrev HasAJob : List (Option JobOf) → Type 0
HasAJob jobs = (lane : ℕ) × (job : JobOf) × (slice_get jobs lane ≡ Some (Some job))

-- a lane has a job, or none has
job_or_none : (jobs : List (Option JobOf)) → (jobs_in jobs ≡ 0) ⊎ HasAJob jobs
job_or_none [] = inl refl
job_or_none (Some job ∷ jobs) = inr (0, job, refl)
job_or_none (None ∷ jobs) = elim (job_or_none jobs) [
  | inl empty ↦ inl (let more = sum_by-cons (λ o. cond (is_some o) 1 0) None jobs in omega (arith, more, empty))
  | inr found ↦ inr (suc found.0, found.1, found.2)
]

no_job : (s : Schedule) (seat : SchedulerSeatOf) → AreInLanes s seat → NoneIsOut (phases_of s)
    → (jobs_in seat.jobs ≡ 0) ⊎ HasAJob seat.jobs → jobs_in seat.jobs ≡ 0
no_job s seat h none (inl empty) = empty
no_job s seat h none (inr found) =
    let out = h.each found.0 found.1 found.2 in
    let e : true ≡ false = sym (ap is_out (out_at s.slots (found.1.no - s.work.first) Lent out.out)) ∙ none (found.1.no - s.work.first) in absurd (cc)

-- where none is out, no lane has a job
pub rests_empty : (s : Schedule) (seat : SchedulerSeatOf) → AreInLanes s seat → NoneIsOut (phases_of s) → jobs_in seat.jobs ≡ 0
rests_empty s seat h none = no_job s seat h none (job_or_none seat.jobs)

none_by : (s : Schedule) (seat : SchedulerSeatOf) → AreInLanes s seat → jobs_in seat.jobs ≡ 0 → (place : ℕ) (b : Bool) → is_out (slice_get (phases_of s) place) ≡ b → b ≡ false
none_by s seat h empty place false is = refl
none_by s seat h empty place true is =
    let has = h.all place is in let some = some_counted seat.jobs has.lane has.job has.there in absurd (omega (arith, some, empty))

-- where no lane has a job, none is out
pub empty_rests : (s : Schedule) (seat : SchedulerSeatOf) → AreInLanes s seat → jobs_in seat.jobs ≡ 0 → NoneIsOut (phases_of s)
empty_rests s seat h empty place = none_by s seat h empty place (is_out (slice_get (phases_of s) place)) refl

-- where none is out, the caller has no job
pub none_kept : (s : Schedule) → NoneIsOut (phases_of s) → KeepsItsJobs s
none_kept s none place is = let e : true ≡ false = sym (ap is_out (out_at s.slots place Lent is)) ∙ none place in cc
