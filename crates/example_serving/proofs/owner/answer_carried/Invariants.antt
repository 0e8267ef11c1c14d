use Rattle.std.proofs.Common.{◌≡◌, [], false}
use Rattle.engine.specs.Engines.{is_busy}
use Rattle.example_serving.specs.Steps.{AnswersAll}
use Rattle.example_serving.proofs.owner.answer_carried.Given as goal

-- batches without calls were answered
abbrev pub invariant-loop : goal.invariant-loop
invariant-loop g l = record {
  served : AnswersAll [] l.initial.engine.core l.engine.core l.initial.told.items l.told.items;
  idle : is_busy l.engine.core ≡ false;
}
