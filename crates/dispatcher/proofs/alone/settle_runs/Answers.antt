use Rattle.std.proofs.Common.{◌≡◌, ℕ, ◌+◌, ◌-◌, ◌≤◌, length, false, sym, ap, ◌∙◌, subst, arith, slice_get}
use Rattle.std.proofs.lemmas.Bool.Decides.{nat_tests}
use Rattle.std.proofs.lemmas.List.{length-map}
use Rattle.scheduler_core.specs.Phases.{was_run}
use Rattle.scheduler.specs.Schedules.{Work, phases_of, phase_in}
use Rattle.dispatcher.specs.Runs.{NoneIsOut}
use Rattle.dispatcher.specs.Dispatched.{RunsOn}
use Rattle.dispatcher.proofs.Rests.{settling_rests}
use Rattle.dispatcher.proofs.Onward.{hears_nothing, runs_twice}
use Rattle.dispatcher.proofs.Steps.{none_run, one_place_more, taken_back_settles, taken_back_told}
use Rattle.dispatcher.proofs.alone.settle_runs.Goals as goal

pub loop-place-preserved : goal.loop-place-preserved
loop-place-preserved g c =
    let was = c.loop-place.invariant in
    let new = c.settle_run.new.scheduler in
    let runs : RunsOn c.args.scheduler.now (g.L.Listener.account c.args.listener.now) new (g.L.Listener.account c.settle_run.new.listener) =
    runs_twice c.args.scheduler.now c.loop-place.scheduler new
    (g.L.Listener.account c.args.listener.now) (g.L.Listener.account c.loop-place.listener) (g.L.Listener.account c.settle_run.new.listener)
    was.0 c.settle_run.ensures.runs in
    let first : new.work.first ≡ c.args.first = ap (λ (w : Work). w.first) runs.work ∙ sym c.requires.numbered.0 in
    let spot : (c.args.first + c.loop-place.place) - new.work.first ≡ c.loop-place.place = omega (arith, first) in (
      runs,
      c.settle_run.ensures.keeps,
      one_place_more (phases_of c.loop-place.scheduler) (phases_of new) c.loop-place.place
          (subst (λ (n : ℕ). was_run (slice_get (phases_of new) n) ≡ false) spot c.settle_run.ensures.this)
          c.settle_run.ensures.others was.2,
    )

pub returns-clause-runs : goal.returns-clause-runs
returns-clause-runs g c =
    let s = c.loop-place.scheduler in
    let a = g.L.Listener.account c.loop-place.listener in
    let was = c.loop-place.invariant.0 in
    let admitted : length (phases_of s) ≡ length s.slots = length-map s.slots phase_in in
    let entries : length s.work.entries ≡ c.args.count = ap (λ (w : Work). length w.entries) was.work ∙ sym c.requires.numbered.1 in
    let few : length (phases_of s) ≤ c.loop-place.place = grind (arith, nat_tests, admitted, entries, c.observe.ensures.within, c.loop-place-test.false) in
    runs_twice c.args.scheduler.now s c.settle_held.new.self (g.L.Listener.account c.args.listener.now) a a was (record {
      work = c.settle_held.ensures.work;
      settled = taken_back_settles s c.settle_held.new.self c.settle_held.ensures.work c.settle_held.ensures.phases;
      told = taken_back_told s c.settle_held.new.self c.settle_held.ensures.work c.settle_held.ensures.phases a
          (none_run (phases_of s) c.loop-place.place few c.loop-place.invariant.2) was.told;
      onward = hears_nothing a;
    })

pub returns-clause-none_out : goal.returns-clause-none_out
returns-clause-none_out g c = subst NoneIsOut (sym c.settle_held.ensures.phases) (settling_rests (phases_of c.loop-place.scheduler))
