use Rattle.std.proofs.Common.{◌≡◌}
use Rattle.intake.specs.Passes.{IsDrawerOf, held_by}
use Rattle.example_serving.specs.Steps.{DrawsOn}
use Rattle.example_serving.proofs.owner.turn_away.Given as goal

abbrev pub invariant-loop : goal.invariant-loop
invariant-loop g l = record {
  pass : IsDrawerOf l.intake l.pass;
  held : held_by l.pass ≡ held_by l.initial.pass;
  drawn : DrawsOn l.initial.pass l.pass;
}
