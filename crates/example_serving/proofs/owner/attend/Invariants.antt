use Rattle.std.proofs.Common.{◌≡◌, Ok, false}
use Rattle.intake.specs.Passes.{IsDrawerOf, held_by}
use Rattle.engine.specs.Engines.{is_busy}
use Rattle.example_serving.specs.Steps.{HasServed}
use Rattle.example_serving.proofs.owner.attend.Given as goal

abbrev pub invariant-loop : goal.invariant-loop
invariant-loop g l = record {
  pass : IsDrawerOf l.intake l.owner.pass;
  held : held_by l.owner.pass ≡ held_by l.fn.owner.pass;
  idle : is_busy l.owner.engine.core ≡ false;
  served : HasServed l.fn.owner l.owner (Ok tt);
}
