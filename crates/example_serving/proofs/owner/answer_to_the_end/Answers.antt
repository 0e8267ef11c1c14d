use Rattle.std.proofs.Common.{[], subst}
use Rattle.std.proofs.lemmas.List.{append-nil}
use Rattle.example_serving.specs.Services.{AnswersFirstPart, calls_of_batches}
use Rattle.example_serving.specs.Steps.{items_in}
use Rattle.example_serving.proofs.Served.{then_served}
use Rattle.example_serving.proofs.owner.answer_to_the_end.Goals as goal

pub returns : goal.returns
returns g c =
    let calls = calls_of_batches (items_in c.args.left.items) in
    let left = c.answer_left.new in
    let all = c.answer_carried.new in
    subst (λ l. AnswersFirstPart l c.answer_carried.result c.args.engine.now.core all.engine.core c.args.told.now.items all.told.items) (append-nil calls)
    (then_served calls [] c.answer_carried.result c.args.engine.now.core left.engine.core all.engine.core c.args.told.now.items left.told.items all.told.items c.in_ok-answer_left.ensures c.answer_carried.ensures)
