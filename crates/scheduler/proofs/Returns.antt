-- Jobs that come back.
use Rattle.std.proofs.Common.{◌≡◌, ◌<◌, ◌+◌, ◌-◌, ℕ, ◌&&◌, true, false, List, length, map, Option, Some, None, IsSome, slice_get, slice_set, refl, sym, ap, ◌∙◌, subst, if◌then◌else◌}
use Rattle.std.proofs.lemmas.Option.{slice_get_within}
use Rattle.std.specs.FinMap.{get, remove}
use Rattle.values.specs.declared.name.RowName.{RowName}
use Rattle.values.specs.Database.{Database}
use Rattle.proclang_types.specs.declared.right.Right.TheVariants.{Read, Write}
use Rattle.coarsen.specs.Clashes.{locks_row}
use Rattle.lock_tree.specs.Locks.{Locks, plan_of, with_mark, without}
use Rattle.lock_tree.specs.Ready.{ready}
use Rattle.meaning.specs.declared.outcome.Outcome.{Outcome}
use Rattle.meaning.specs.Outcomes.{as_reply}
use Rattle.row_store.specs.Stock.{Stock}
use Rattle.scheduler.specs.JobRuns.{JobOf, DoneOf, ComesOf, IsDoneOf, transaction_of}
use Rattle.scheduler_core.specs.declared.event.Event.TheVariants.{Lend}
use Rattle.scheduler_core.specs.declared.phase.Phase.{Phase}
use Rattle.scheduler_core.specs.declared.phase.Phase.TheVariants as phase
use Rattle.scheduler_core.specs.Transactions.{Transaction}
use Rattle.scheduler_core.specs.Phases.{is_idle, is_out, is_settled}
use Rattle.scheduler_core.specs.Events.{waiting, enabled}
use Rattle.scheduler_core.specs.Sound as core
use Rattle.scheduler_core.specs.Laws.{StaysSound, EventsByPlaces}
use Rattle.scheduler.specs.declared.scheduler.Scheduler.TheInside.{Inside}
use Rattle.scheduler.specs.declared.slot.Slot.{Slot}
use Rattle.scheduler.specs.declared.slot.Slot.TheVariants.{Idle, Lent, Held, Ran, Settled}
use Rattle.scheduler.specs.Schedules.{Work, Schedule, log_of, phase_in}
use Rattle.scheduler.specs.Jobs.{IsJobAt, IsLentAt, IsRunAt, ComesBack}
use Rattle.scheduler.specs.Scheduled.{IsScheduled, AreSettledBefore}
use Rattle.scheduler.proofs.Places.{set_here, map_set}
use Rattle.scheduler.proofs.Slots.{phase_at}
use Rattle.scheduler.proofs.Numbers.{lent_here}
use Rattle.scheduler.proofs.Steps.{ran, taken_back, settled, same_phase}
use Rattle.scheduler.proofs.Leading.{settled_before, settled_set}
use Rattle.scheduler.proofs.Known.{Known, Keeps, work_in, schedule_in}
use Rattle.scheduler.proofs.Restored.{read_too}

-- a job whose loan alone has changed
same_but_rows : (lent job : JobOf) (rows : Database) → job ≡ record lent { loan = record (lent.loan) { rows = rows } }
    → (job.no ≡ lent.no) × (job.loan.tables ≡ lent.loan.tables) × (transaction_of job ≡ transaction_of lent)
same_but_rows lent job rows e = (ap (λ (j : JobOf). j.no) e, ap (λ (j : JobOf). j.loan.tables) e, ap transaction_of e)

pub back_parts : (s : Schedule) (done : DoneOf) (number : ℕ) (job : JobOf) (o p : Option Outcome) → ComesBack s done → number ≡ done.job.no → job ≡ done.job → o ≡ done.outcome → o ≡ p
    → (slice_get s.slots (number - s.work.first) ≡ Some Lent) × (lent : JobOf) × IsLentAt s.work (number - s.work.first) lent × ComesOf lent p job
back_parts s done number job o p b n j e f = (
  subst (λ k. slice_get s.slots (k - s.work.first) ≡ Some Lent) (sym n) b.out,
  b.lent,
  subst (λ k. IsLentAt s.work (k - s.work.first) b.lent) (sym n) b.was_lent,
  subst (λ q. ComesOf b.lent q job) (sym e ∙ f) (subst (λ x. ComesOf b.lent done.outcome x) (sym j) b.comes),
)

-- what a run comes to, by its parts
pub comes_of : (job : JobOf) (done : DoneOf) (job2 : JobOf) (o p : Option Outcome) → IsDoneOf job done → job2 ≡ done.job → o ≡ done.outcome → o ≡ p → ComesOf job p job2
comes_of job done job2 o p comes j e f = subst (λ q. ComesOf job q job2) (sym e ∙ f) (subst (λ x. ComesOf job done.outcome x) (sym j) comes)

-- the number of a job is that of its place
pub number_there : (w : Work) (place : ℕ) (job : JobOf) (number : ℕ) (done : DoneOf) → IsJobAt w place job → number ≡ done.job.no → job ≡ done.job → number ≡ w.first + place
number_there w place job number done j n e = n ∙ sym (ap (λ (x : JobOf). x.no) e) ∙ j.no

-- a job that is given back is the one that was lent
pub given_back : (w : Work) (place : ℕ) (lent job : JobOf) → IsLentAt w place lent → job ≡ lent → IsLentAt w place job
given_back w place lent job is e = subst (IsLentAt w place) (sym e) is

module _ (w : Work) (place : ℕ) (sound : StaysSound w.tables w.first (log_of w) w.start) where
  -- the run of a job that was lent is the serial run's
  pub run_at : (lent job : JobOf) (outcome : Outcome) → IsLentAt w place lent → ComesOf lent (Some outcome) job → IsRunAt w place job outcome
  run_at lent job outcome is comes =
      let same = same_but_rows lent job job.loan.rows comes.0 in
      record {
        job_at = record {
          no = same.0 ∙ is.job_at.no;
          tables = same.1 ∙ is.job_at.tables;
          transaction = is.job_at.transaction ∙ ap (λ (t : Transaction). Some t) (sym same.2);
        };
        run = sound.run_rows place (transaction_of lent) lent.loan.rows (as_reply outcome) job.loan.rows is.job_at.transaction is.shows
            (subst (λ ts. core.IsRunOf ts (transaction_of lent) lent.loan.rows (as_reply outcome) job.loan.rows) is.job_at.tables comes.1);
      }

-- the rows of a store where a job was given back
abbrev RowsOf : JobOf → Database → Database → Type 0
RowsOf job old new = (name : RowName) → get new name ≡ (if locks_row job.loan.tables job.loan.plan name Write then get job.loan.rows name else get old name)

-- a job of a transaction that is out: what giving its rows back asks of it, and what holds of the scheduler with them
pub record Return (s : Inside) (number place : ℕ) (old : Slot) (job : JobOf) : Type 0 where
  pub number_is : number ≡ s.first + place
  pub was : slice_get s.slots.items place ≡ Some old
  pub lent : get s.store.lent number ≡ Some job.loan.plan
  pub there : IsSome (plan_of s.locks.waiting number)
  pub tables : job.loan.tables ≡ s.store.tables
  pub within : place < length s.slots.items
  pub settles : (outcome : Outcome) → IsRunAt (work_in s) place job outcome → (new : List Slot) (stock : Stock) (tree : Locks) → new ≡ slice_set s.slots.items place (Settled outcome)
      → stock.tables ≡ s.store.tables → RowsOf job s.store.rows stock.rows → stock.lent ≡ remove s.store.lent number
      → tree ≡ record (s.locks) { waiting = without number s.locks.waiting } → IsScheduled (work_in s) new stock tree
  pub before : (outcome : Outcome) (new : List Slot) → new ≡ slice_set s.slots.items place (Settled outcome) → (i : ℕ) → i < s.settled → is_settled (slice_get (map phase_in new) i) ≡ true
  pub takes_back : IsLentAt (work_in s) place job → (new : List Slot) (stock : Stock) (tree : Locks) → new ≡ slice_set s.slots.items place Idle
      → stock.tables ≡ s.store.tables → RowsOf job s.store.rows stock.rows → stock.lent ≡ remove s.store.lent number
      → tree ≡ record (s.locks) { waiting = with_mark number false s.locks.waiting } → Keeps (work_in s) new s.settled stock tree
  -- where it is given back, its transaction can be lent its rows again
  pub lent_again : EventsByPlaces → (new : List Slot) → new ≡ slice_set s.slots.items place Idle → enabled s.arena s.first (log_of (work_in s)) (map phase_in new) (Lend number) ≡ true

module _ (s : Inside) (k : Known s) (number place : ℕ) (number_is : number ≡ s.first + place) (old : Slot) (at : slice_get s.slots.items place ≡ Some old)
    (out : is_out (Some (phase_in old)) ≡ true) (still : is_settled (Some (phase_in old)) ≡ false) (job : JobOf) (j : IsJobAt (work_in s) place job) where
  was : slice_get (map phase_in s.slots.items) place ≡ Some (phase_in old)
  was = phase_at s.slots.items place old at

  -- the rows of a job that shows what it was lent are those of the store
  same_rows : (new : Database) → core.IsLent s.catalogue (log_of (work_in s)) s.start.value.rows place job.loan.rows → RowsOf job s.store.rows new → (name : RowName) → get new name ≡ get s.store.rows name
  same_rows new shows rows name = rows name ∙ elim (locks_row job.loan.tables job.loan.plan name Write) as (λ b. locks_row job.loan.tables job.loan.plan name Write ≡ b → (if b then get job.loan.rows name else get s.store.rows name) ≡ get s.store.rows name) [
    | true ↦ λ locked.
        let read : locks_row s.catalogue job.loan.plan name Read ≡ true = ap (λ ts. locks_row ts job.loan.plan name Read) (sym j.tables) ∙ read_too job.loan.tables job.loan.plan name locked in
        shows (transaction_of job) j.transaction name read
        ∙ sym (k.sound.out_rows (map phase_in s.slots.items) s.store.rows place (transaction_of job) k.scheduled.sound (ap (λ (o : Option Phase). is_out o) was ∙ out) j.transaction name read)
    | false ↦ λ _. refl
  ] refl

  pub return : Return s number place old job
  return =
      let ps = map phase_in s.slots.items in
      let is_out_there : is_out (slice_get ps place) ≡ true = ap (λ (o : Option Phase). is_out o) was ∙ out in
      let found : plan_of s.locks.waiting number ≡ Some job.loan.plan =
      ap (plan_of s.locks.waiting) number_is ∙ ap (λ (l : Locks). plan_of l.waiting (s.first + place)) k.scheduled.tree_is
      ∙ k.follows.there ps place (transaction_of job) (phase_in old) j.transaction was still in
      record {
        number_is = number_is;
        was = at;
        lent =
            ap (get s.store.lent) number_is ∙ k.scheduled.lent_is (s.first + place)
            ∙ lent_here (work_in s) ps place (transaction_of job) (phase_in old) j.transaction was out;
        there = subst (λ q. IsSome q) (sym found) refl;
        tables = j.tables ∙ sym k.scheduled.tables;
        within = slice_get_within s.slots.items place old at;
        settles = λ outcome run new stock tree set tables rows lent released.
            subst (λ (xs : List Slot). IsScheduled (work_in s) xs stock tree) (sym set)
            (settled (work_in s) k.sound k.follows s.slots.items s.store stock s.locks tree place old job outcome k.scheduled at out run tables rows
            (lent ∙ ap (remove s.store.lent) number_is)
            (released ∙ ap (λ n. record (s.locks) { waiting = without n s.locks.waiting }) number_is));
        before = λ outcome new set.
            subst (λ (xs : List Slot). (i : ℕ) → i < s.settled → is_settled (slice_get (map phase_in xs) i) ≡ true) (sym set)
            (settled_before s.slots.items s.settled place old (Settled outcome) k.settled at still);
        takes_back = λ is new stock tree set tables rows lent unmarked. (
          k.fits,
          subst (λ (xs : List Slot). IsScheduled (work_in s) xs stock tree) (sym set)
              (taken_back (work_in s) k.sound k.follows s.slots.items s.store stock s.locks tree place old (transaction_of job) k.scheduled at out j.transaction tables (same_rows stock.rows is.shows rows)
              (lent ∙ ap (remove s.store.lent) number_is)
              (unmarked ∙ ap (λ n. record (s.locks) { waiting = with_mark n false s.locks.waiting }) number_is)),
          subst (λ (xs : List Slot). AreSettledBefore xs s.settled) (sym set) (settled_set s.slots.items s.settled place old Idle k.settled at still refl),
        );
        lent_again = λ by_places new set.
            let qs = map phase_in (slice_set s.slots.items place Idle) in
            let idle : slice_get qs place ≡ Some phase.Idle = phase_at (slice_set s.slots.items place Idle) place Idle (set_here s.slots.items place old Idle at) in
            let is_ready : ready (waiting s.first (log_of (work_in s)) qs) (s.first + place) ≡ true =
            ap (λ (rs : List Phase). ready (waiting s.first (log_of (work_in s)) rs) (s.first + place)) (map_set phase_in s.slots.items place Idle)
            ∙ k.follows.stays_ready.gives_back ps place is_out_there k.scheduled.ready in
            ap (λ (xs : List Slot). enabled s.arena s.first (log_of (work_in s)) (map phase_in xs) (Lend number)) set
            ∙ ap (λ (n : ℕ). enabled s.arena s.first (log_of (work_in s)) qs (Lend n)) number_is
            ∙ (by_places s.arena s.first (log_of (work_in s)) qs).lend place
            ∙ ap (λ (o : Option Phase). is_idle o && ready (waiting s.first (log_of (work_in s)) qs) (s.first + place)) idle
            ∙ is_ready;
      }

-- a job that comes back run, and one that is given back
module _ (s : Inside) (k : Known s) (now : Schedule) (view : schedule_in s ≡ now) (done : DoneOf) (back : ComesBack now done)
    (number : ℕ) (job : JobOf) (o : Option Outcome) (n : number ≡ done.job.no) (same : job ≡ done.job) (e : o ≡ done.outcome) where
  returns : IsJobAt (work_in s) (number - s.first) job → slice_get s.slots.items (number - s.first) ≡ Some Lent → Return s number (number - s.first) Lent job
  returns at was = return s k number (number - s.first) (number_there (work_in s) (number - s.first) job number done at n same) Lent was refl refl job at

  pub returns_run : (outcome : Outcome) → o ≡ Some outcome → IsRunAt (work_in s) (number - s.first) job outcome × Return s number (number - s.first) Lent job
  returns_run outcome is =
      let b = back_parts (schedule_in s) done number job o (Some outcome) (subst (λ t. ComesBack t done) (sym view) back) n same e is in
      let run = run_at (work_in s) (number - s.first) k.sound b.1 job outcome b.2 b.3 in
      (run, returns run.job_at b.0)

  pub returns_lent : o ≡ None → IsLentAt (work_in s) (number - s.first) job × Return s number (number - s.first) Lent job
  returns_lent is =
      let b = back_parts (schedule_in s) done number job o None (subst (λ t. ComesBack t done) (sym view) back) n same e is in
      let lent = given_back (work_in s) (number - s.first) b.1 job b.2 b.3 in
      (lent, returns lent.job_at b.0)

-- a job that is with the scheduler is run, and one that could not be run stays lent
module _ (s : Inside) (k : Known s) (place : ℕ) (held job : JobOf) (new : List Slot) (was : slice_get s.slots.items place ≡ Some (Held held)) where
  pub runs : (outcome : Outcome) → ComesOf held (Some outcome) job → new ≡ slice_set s.slots.items place (Ran job outcome) → Keeps (work_in s) new s.settled s.store s.locks
  runs outcome comes set =
      let fits = k.scheduled.kept place (Held held) was in
      let run = run_at (work_in s) place k.sound held job outcome fits comes in (
        k.fits,
        subst (λ (xs : List Slot). IsScheduled (work_in s) xs s.store s.locks) (sym set)
            (ran (work_in s) k.sound k.follows s.slots.items s.store s.locks place (Held held) (Ran job outcome) (transaction_of held) k.scheduled was refl fits.job_at.transaction refl run),
        subst (λ (xs : List Slot). AreSettledBefore xs s.settled) (sym set) (settled_set s.slots.items s.settled place (Held held) (Ran job outcome) k.settled was refl refl),
      )

  pub stays_lent : job ≡ held → new ≡ slice_set s.slots.items place (Held job) → Keeps (work_in s) new s.settled s.store s.locks
  stays_lent same set = (
    k.fits,
    subst (λ (xs : List Slot). IsScheduled (work_in s) xs s.store s.locks) (sym set)
        (same_phase (work_in s) k.sound k.follows s.slots.items s.store s.locks place (Held held) (Held job) k.scheduled was refl (given_back (work_in s) place held job (k.scheduled.kept place (Held held) was) same)),
    subst (λ (xs : List Slot). AreSettledBefore xs s.settled) (sym set) (settled_set s.slots.items s.settled place (Held held) (Held job) k.settled was refl refl),
  )
