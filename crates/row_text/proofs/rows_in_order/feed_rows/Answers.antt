use Rattle.std.proofs.Common.{rules, ◌++◌}
use Rattle.row_text.specs.Feeding.{table_lines}
use Rattle.row_text.proofs.Fed.{all_lines, few_lines}
use Rattle.row_text.proofs.rows_in_order.feed_rows.Goals as goal

pub loop-start-preserved : goal.loop-start-preserved
loop-start-preserved c = λ all h.
    let f = c.loop-start.invariant all h in
    (_, c.in_ok-push_rows.ensures f.0 (c.in_ok-make_room.ensures f.0 f.1), few_lines c.args.catalogue.now c.args.table c.args.rows.now c.loop-start.start c.min-end.result f.0 (all ++ table_lines c.args.catalogue.now c.args.table c.args.rows.now) (search rules) f.2)

pub returns : goal.returns
returns c = λ all h.
    let f = c.loop-start.invariant all h in
    rw (← all_lines c.args.catalogue.now c.args.table c.args.rows.now c.loop-start.start f.0 (all ++ table_lines c.args.catalogue.now c.args.table c.args.rows.now) c.loop-start-test.false f.2) f.1
