use Rattle.std.proofs.Common.{◌≡◌, true, sym, ap, ◌∙◌, subst, slice_get}
use Rattle.scheduler_core.specs.Phases.{is_settled}
use Rattle.scheduler.specs.Schedules.{Schedule, phases_of}
use Rattle.dispatcher.specs.Dispatched.{AreInLanes}
use Rattle.dispatcher.specs.Listeners.{settled_in}
use Rattle.dispatcher.proofs.InLanes.{admitted_lanes, admitted_settled, admitted_counts}
use Rattle.dispatcher.proofs.advancing.admit_next.Goals as goal

pub returns-in-Ok-clause-lanes : goal.returns-in-Ok-clause-lanes
returns-in-Ok-clause-lanes c = λ seat h. subst (λ (t : Schedule). AreInLanes t seat) (sym c.in-Ok.ensures.admitted) (admitted_lanes c.args.scheduler.now seat h)

pub returns-in-Ok-clause-settled : goal.returns-in-Ok-clause-settled
returns-in-Ok-clause-settled c = λ place settled.
    subst (λ (t : Schedule). is_settled (slice_get (phases_of t) place) ≡ true) (sym c.in-Ok.ensures.admitted) (admitted_settled c.args.scheduler.now place settled)

pub returns-in-Ok-clause-none_settled : goal.returns-in-Ok-clause-none_settled
returns-in-Ok-clause-none_settled c = ap settled_in c.in-Ok.ensures.admitted ∙ admitted_counts c.args.scheduler.now
