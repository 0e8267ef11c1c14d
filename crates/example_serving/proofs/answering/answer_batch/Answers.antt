use Rattle.std.proofs.Common.{◌≡◌, rules}
use Rattle.sequencer.specs.Batches.{items_of}
use Rattle.example_serving.specs.Calls.{requests_of, asked_of}
use Rattle.example_serving.proofs.Again.{enough_said}
use Rattle.example_serving.proofs.Executed.{err_is, stopped_served, executed_served}
use Rattle.example_serving.proofs.answering.answer_batch.Goals as goal

pub answer-requires-clause-each : goal.answer-requires-clause-each
answer-requires-clause-each g c =
    enough_said c.carried-carried.result c.args.engine.now.core.carried (items_of c.of_items.result) c.args.engine.now.core.next c.in_ok-done.done.replies.items c.carried-carried.ensures.same c.in_ok-done.ensures.done.sent

pub returns-in_err-done : goal.returns-in_err-done
returns-in_err-done g c =
    let requests : items_of c.of_items.result ≡ requests_of c.args.engine.now.core.procs c.args.items.items = search rules in
    stopped_served c.args.items.items c.of_items.result c.in_err-done.field-0.0 c.from_residual-in_err-done.result c.args.engine.now.core c.execute.new.engine.core c.args.told.now.items c.reserve.new.self.items
    (err_is c.from_residual-in_err-done.result c.in_err-done.field-0.0 c.from_residual-in_err-done.ensures.1) requests c.in_err-done.ensures.same c.requires c.in_err-done.ensures.stopped c.in_ok-reserve.ensures.items

pub returns : goal.returns
returns g c =
    let requests : items_of c.of_items.result ≡ requests_of c.args.engine.now.core.procs c.args.items.items = search rules in
    let asked : c.in_ok-requests.asked.items ≡ asked_of c.args.engine.now.core.procs c.args.items.items = search rules in
    executed_served c.args.items.items c.of_items.result c.in_ok-done.done c.carried-carried.result c.in_ok-requests.asked.items c.args.engine.now.core c.execute.new.engine.core c.args.told.now.items c.reserve.new.self.items c.answer.new.told.items
    requests c.carried-carried.ensures.same asked c.in_ok-done.ensures.same c.in_ok-done.ensures.done c.in_ok-reserve.ensures.items c.answer.ensures
