use Rattle.std.proofs.Common.{◌≡◌, ◌∙◌, ◌∷◌, ◌++◌, [], sym, ap, append_assoc, rules}
use Rattle.std.specs.Vec.Iter.{into_iter_items}
use Rattle.example_serving.specs.Services.{calls_of_batches}
use Rattle.example_serving.specs.Steps.{items_in}
use Rattle.example_serving.proofs.Served.{nothing_served, then_all}
use Rattle.example_serving.proofs.Executed.{err_is}
use Rattle.example_serving.proofs.Owned.{left_stopped}
use Rattle.example_serving.proofs.owner.answer_left.Goals as goal

pub loop-items-init : goal.loop-items-init
loop-items-init g c =
    let start : into_iter_items c.into_iter-items-iterator.result ≡ c.args.left.items = search rules in
    record { first = []; calls = ap (λ l. calls_of_batches (items_in l)) (sym start); served = nothing_served c.args.engine.now.core c.args.told.now.items c.requires; idle = c.requires }

pub loop-items-preserved : goal.loop-items-preserved
loop-items-preserved g c =
    let turn : into_iter_items c.loop-items.items-iterator ≡ c.in-Some.items ∷ into_iter_items c.next.new.self = search rules in
    let inv = c.loop-items.invariant in
    let b = c.in-Some.items.items in
    record {
      first = inv.first ++ b;
      calls = inv.calls ∙ ap (λ l. inv.first ++ calls_of_batches (items_in l)) turn ∙ sym (append_assoc inv.first b (calls_of_batches (items_in (into_iter_items c.next.new.self))));
      served = then_all inv.first b c.args.engine.now.core c.loop-items.engine.core c.answer_batch.new.engine.core c.args.told.now.items c.loop-items.told.items c.answer_batch.new.told.items inv.served c.in_ok-answer_batch.ensures;
      idle = c.in_ok-answer_batch.ensures.idle;
    }

pub returns-in_err-answer_batch : goal.returns-in_err-answer_batch
returns-in_err-answer_batch g c =
    let turn : into_iter_items c.loop-items.items-iterator ≡ c.in-Some.items ∷ into_iter_items c.next.new.self = search rules in
    let inv = c.loop-items.invariant in
    left_stopped (calls_of_batches (items_in c.args.left.items)) inv.first c.in-Some.items.items (calls_of_batches (items_in (into_iter_items c.next.new.self))) c.in_err-answer_batch.field-0.0 c.from_residual.result
    c.args.engine.now.core c.loop-items.engine.core c.answer_batch.new.engine.core c.args.told.now.items c.loop-items.told.items c.answer_batch.new.told.items (inv.calls ∙ ap (λ l. inv.first ++ calls_of_batches (items_in l)) turn)
    (err_is c.from_residual.result c.in_err-answer_batch.field-0.0 c.from_residual.ensures.1) inv.served c.in_err-answer_batch.ensures
