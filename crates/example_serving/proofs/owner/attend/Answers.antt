use Rattle.std.proofs.Common.{◌∙◌, Ok, Err, refl}
use Rattle.example_serving.proofs.Owned.{none_had, then_had, then_away}
use Rattle.example_serving.proofs.owner.attend.Goals as goal

pub loop-init : goal.loop-init
loop-init g c = record { pass = c.requires.pass; held = refl; idle = c.requires.idle; served = none_had c.args.owner c.requires.idle }

pub returns-in-Err-clause-served : goal.returns-in-Err-clause-served
returns-in-Err-clause-served g c =
    then_away c.args.owner c.attend_once.new.owner c.turn_away.new.pass c.in-Err.fault
    (then_had c.args.owner c.loop.owner c.attend_once.new.owner tt (Err c.in-Err.fault) c.loop.invariant.served c.in-Err.ensures.served) c.turn_away.ensures.drawn

pub loop-preserved : goal.loop-preserved
loop-preserved g c = record {
  pass = c.in_default.ensures.pass.0;
  held = c.in_default.ensures.pass.1 ∙ c.loop.invariant.held;
  idle = c.in_default.ensures.served.serves.idle;
  served = then_had c.args.owner c.loop.owner c.attend_once.new.owner tt (Ok tt) c.loop.invariant.served c.in_default.ensures.served;
}
