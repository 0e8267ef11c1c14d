use Rattle.std.proofs.Common.{◌≡◌, ◌≢◌, ◌≤◌, ℕ, true, length, map, Some, slice_get, subst}
use Rattle.coarsen.specs.Clashes.{ModesClash}
use Rattle.scheduler.specs.JobRuns.{JobOf}
use Rattle.scheduler_core.specs.Transactions.{Transaction}
use Rattle.scheduler_core.specs.Phases.{is_out}
use Rattle.scheduler_core.specs.Events.{OutAreReady}
use Rattle.scheduler.specs.declared.slot.Slot.TheVariants.{Held}
use Rattle.scheduler.specs.Schedules.{Schedule, log_of, phases_of, phase_in, work_of}
use Rattle.scheduler.specs.Jobs.{IsLentAt}
use Rattle.scheduler.proofs.Ends.{admitted_within}
use Rattle.scheduler.proofs.Known.{plans_in}
use Rattle.scheduler.proofs.scheduler.Scheduler.observe.Goals as goal

pub returns-clause-jobs : goal.returns-clause-jobs
returns-clause-jobs c =
    subst (λ (s : Schedule). (place : ℕ) (job : JobOf) → slice_get s.slots place ≡ Some (Held job) → IsLentAt s.work place job) c.self.view_is
    (λ place job at. c.self.invariant.1.kept place (Held job) at)

pub returns-clause-apart : goal.returns-clause-apart
returns-clause-apart c =
    let w = work_of c.self.inside.catalogue c.self.inside.arena c.self.inside.first c.self.inside.entries.items (plans_in c.self.inside) c.self.inside.start.value.rows in
    let sound = c.rows_are_serial.ensures w.tables w.first (log_of w) w.start c.self.invariant.0.planned in
    subst (λ (s : Schedule). (i k : ℕ) (t u : Transaction) → i ≢ k → slice_get (log_of s.work) i ≡ Some t → slice_get (log_of s.work) k ≡ Some u
    → is_out (slice_get (phases_of s) i) ≡ true → is_out (slice_get (phases_of s) k) ≡ true → ModesClash t.plan u.plan → ⊥) c.self.view_is
    (λ i k t u apart at_i at_k out_i out_k. sound.outs_apart (map phase_in c.self.inside.slots.items) c.self.inside.store.rows i k t u c.self.invariant.1.sound apart out_i out_k at_i at_k)

pub returns-clause-within : goal.returns-clause-within
returns-clause-within c =
    let w = work_of c.self.inside.catalogue c.self.inside.arena c.self.inside.first c.self.inside.entries.items (plans_in c.self.inside) c.self.inside.start.value.rows in
    subst (λ (s : Schedule). length s.slots ≤ length s.work.entries) c.self.view_is
    (admitted_within w c.self.inside.slots.items c.self.inside.store c.self.inside.locks c.self.invariant.0 c.self.invariant.1)

pub returns-clause-ready : goal.returns-clause-ready
returns-clause-ready c = subst (λ (s : Schedule). OutAreReady s.work.first (log_of s.work) (phases_of s)) c.self.view_is c.self.invariant.1.ready
