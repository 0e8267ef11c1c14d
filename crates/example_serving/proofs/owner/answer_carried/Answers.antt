use Rattle.std.proofs.Common.{[]}
use Rattle.example_serving.proofs.Executed.{err_is}
use Rattle.example_serving.proofs.Owned.{none_so, stopped_so}
use Rattle.example_serving.proofs.Served.{then_all}
use Rattle.example_serving.proofs.owner.answer_carried.Goals as goal

pub loop-preserved : goal.loop-preserved
loop-preserved g c = record {
  served = then_all [] [] c.args.engine.now.core c.loop.engine.core c.answer_batch.new.engine.core c.args.told.now.items c.loop.told.items c.answer_batch.new.told.items c.loop.invariant.served
      (none_so c.new.result.items c.loop.engine.core c.answer_batch.new.engine.core c.loop.told.items c.answer_batch.new.told.items c.new.ensures.items c.in_ok-answer_batch.ensures);
  idle = c.in_ok-answer_batch.ensures.idle;
}

pub returns-in_err-answer_batch : goal.returns-in_err-answer_batch
returns-in_err-answer_batch g c =
    stopped_so c.new.result.items c.in_err-answer_batch.field-0.0 c.from_residual.result c.args.engine.now.core c.loop.engine.core c.answer_batch.new.engine.core
    c.args.told.now.items c.loop.told.items c.answer_batch.new.told.items c.new.ensures.items (err_is c.from_residual.result c.in_err-answer_batch.field-0.0 c.from_residual.ensures.1) c.loop.invariant.served c.in_err-answer_batch.ensures
