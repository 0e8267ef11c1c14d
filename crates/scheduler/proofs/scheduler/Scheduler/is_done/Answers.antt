use Rattle.std.proofs.Common.{◌≡◌, nat_eq, length, ap, ◌∙◌, subst, arith}
use Rattle.scheduler_core.specs.Phases.{is_done}
use Rattle.scheduler.specs.Schedules.{Schedule, log_of, phases_of, work_of}
use Rattle.scheduler.proofs.Ends.{done_test}
use Rattle.scheduler.proofs.Known.{plans_in}
use Rattle.scheduler.proofs.scheduler.Scheduler.is_done.Goals as goal

pub returns : goal.returns
returns c =
    let w = work_of c.self.inside.catalogue c.self.inside.arena c.self.inside.first c.self.inside.entries.items (plans_in c.self.inside) c.self.inside.start.value.rows in
    let count : c.len.result ≡ length c.self.inside.entries.items = omega (arith, c.len.ensures) in
    subst (λ (s : Schedule). nat_eq c.self.inside.settled c.len.result ≡ is_done (log_of s.work) (phases_of s)) c.self.view_is
    (ap (nat_eq c.self.inside.settled) count ∙ done_test w c.self.inside.slots.items c.self.inside.store c.self.inside.locks c.self.invariant.0 c.self.invariant.1 c.self.inside.settled c.self.invariant.2)
