use Rattle.std.proofs.Common.{◌≡◌, ◌-◌, false, refl, sym, subst, slice_get}
use Rattle.scheduler_core.specs.Phases.{was_run}
use Rattle.scheduler.specs.Schedules.{Work, phases_of}
use Rattle.dispatcher.proofs.Steps.{settle_told, settle_settles, settle_this, settle_others}
use Rattle.dispatcher.proofs.alone.settle_run.Goals as goal

pub tell-requires-clause-others : goal.tell-requires-clause-others
tell-requires-clause-others g c =
    (settle_told c.args.scheduler.now c.step.new.self (g.L.Listener.account c.args.listener.now) c.step.ensures.work c.requires.told c.args.no
    c.in-Made.ensures.answer.0 c.in-Made.ensures.answer.1).1

pub unreachable-requires : goal.unreachable-requires
unreachable-requires g c = c.step.ensures.memory c.args.no refl c.in-NoMemory.is

pub returns-in-Made-clause-runs : goal.returns-in-Made-clause-runs
returns-in-Made-clause-runs g c = record {
  work = c.step.ensures.work;
  settled = settle_settles c.args.scheduler.now c.step.new.self c.args.no c.in-Made.ensures.answer.0 c.in-Made.ensures.answer.1;
  told = c.tell.ensures.told;
  onward = c.tell.ensures.onward;
}

pub returns-in-Made-clause-this : goal.returns-in-Made-clause-this
returns-in-Made-clause-this g c =
    subst (λ (w : Work). was_run (slice_get (phases_of c.step.new.self) (c.args.no - w.first)) ≡ false) (sym c.step.ensures.work)
    (settle_this c.args.scheduler.now c.step.new.self c.args.no c.in-Made.ensures.answer.0 c.in-Made.ensures.answer.1)

pub returns-in-Made-clause-others : goal.returns-in-Made-clause-others
returns-in-Made-clause-others g c = settle_others c.args.scheduler.now c.step.new.self c.args.no c.in-Made.ensures.answer.0 c.in-Made.ensures.answer.1
