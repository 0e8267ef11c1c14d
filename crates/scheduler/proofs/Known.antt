-- What is known of a scheduler where a call of it begins.
use Rattle.std.proofs.Common.{◌≡◌, ◌+◌, ℕ, List, slice_get, slice_set, Some, sym, ap, ◌∙◌, subst, inl, inr}
use Rattle.coarsen.specs.Subtrees.{Requests}
use Rattle.lock_tree.specs.Locks.{Locks}
use Rattle.row_store.specs.Stock.{Stock}
use Rattle.scheduler_core.specs.Laws.{StaysSound, FollowsPhases, RowsAreSerial, AdmittedAndUnsettledWait}
use Rattle.scheduler.specs.declared.scheduler.Scheduler.TheInside.{Inside}
use Rattle.scheduler.specs.declared.slot.Slot.{Slot}
use Rattle.scheduler.specs.declared.slot.Slot.TheVariants.{Lent}
use Rattle.scheduler.specs.Schedules.{Work, Schedule, log_of, work_of, KeepsItsJobs}
use Rattle.scheduler.specs.Logs.{plans_for}
use Rattle.scheduler.specs.Scheduled.{IsFitting, IsScheduled, AreSettledBefore, HasPlans}
use Rattle.scheduler.proofs.Places.{set_or_was}

-- the plans of its entries, made or not
abbrev pub plans_in : Inside → List Requests
plans_in s = plans_for s.threshold s.arena s.entries.items

-- what it works on, and what contracts see of it
abbrev pub work_in : Inside → Work
work_in s = work_of s.catalogue s.arena s.first s.entries.items (plans_in s) s.start.value.rows

abbrev pub schedule_in : Inside → Schedule
schedule_in s = record { work = work_in s; slots = s.slots.items }

-- what it keeps to
abbrev pub Keeps : Work → List Slot → ℕ → Stock → Locks → Type 0
Keeps w slots settled stock tree = IsFitting w × IsScheduled w slots stock tree × AreSettledBefore slots settled

-- that, and the laws of the core at its work
pub record Known (s : Inside) : Type 0 where
  pub fits : IsFitting (work_in s)
  pub scheduled : IsScheduled (work_in s) s.slots.items s.store s.locks
  pub settled : AreSettledBefore s.slots.items s.settled
  pub sound : StaysSound s.catalogue s.first (log_of (work_in s)) s.start.value.rows
  pub follows : FollowsPhases s.first (log_of (work_in s))

pub known : (s : Inside)
    → IsFitting (work_in s) × IsScheduled (work_in s) s.slots.items s.store s.locks × AreSettledBefore s.slots.items s.settled × HasPlans (work_in s) s.slots.items s.settled s.plans.from s.plans.made.items
    → RowsAreSerial → AdmittedAndUnsettledWait → Known s
known s keeps serial waits = record {
  fits = keeps.0;
  scheduled = keeps.1;
  settled = keeps.2;
  sound = serial s.catalogue s.first (log_of (work_in s)) s.start.value.rows keeps.0.planned;
  follows = waits s.first (log_of (work_in s));
}

module _ (s : Inside) (now : Schedule) (view : schedule_in s ≡ now) where
  -- the number of a place
  pub number_at : (number place : ℕ) → number ≡ now.work.first + place → number ≡ s.first + place
  number_at number place is = is ∙ ap (λ (t : Schedule). t.work.first + place) (sym view)

  pub keeps_jobs : KeepsItsJobs now → KeepsItsJobs (schedule_in s)
  keeps_jobs keeps = subst KeepsItsJobs (sym view) keeps

  -- no job is with the caller, where another slot is put back
  pub still_keeps : KeepsItsJobs now → (place : ℕ) (slot : Slot) (new : List Slot) → (slot ≡ Lent → ⊥) → new ≡ slice_set s.slots.items place slot
      → (k : ℕ) → slice_get new k ≡ Some Lent → ⊥
  still_keeps keeps place slot new other is k lent = elim (set_or_was s.slots.items place slot k Lent (ap (λ (xs : List Slot). slice_get xs k) (sym is) ∙ lent)) [
    | inl e ↦ other e
    | inr was ↦ keeps_jobs keeps k was
  ]
