use Rattle.std.proofs.Common.{◌≡◌, ◌++◌, List, false}
use Rattle.std.specs.Vec.Iter.{into_iter_items}
use Rattle.engine.specs.Engines.{is_busy}
use Rattle.example_serving.specs.Calls.{CallItem}
use Rattle.example_serving.specs.Services.{calls_of_batches}
use Rattle.example_serving.specs.Steps.{AnswersAll, items_in}
use Rattle.example_serving.proofs.owner.answer_left.Given as goal

-- the first of the calls were served, and the others are left
abbrev pub invariant-loop-items : goal.invariant-loop-items
invariant-loop-items g l = record {
  first : List CallItem;
  calls : calls_of_batches (items_in l.fn.left.items) ≡ first ++ calls_of_batches (items_in (into_iter_items l.items-iterator));
  served : AnswersAll first l.initial.engine.core l.engine.core l.initial.told.items l.told.items;
  idle : is_busy l.engine.core ≡ false;
}
