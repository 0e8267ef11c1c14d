use Rattle.std.proofs.Common.{◌+◌, ◌++◌, ◌∙◌, ap, drop, rules}
use Rattle.row_text.specs.Feeding.{table_lines}
use Rattle.row_text.proofs.Fed.{all_lines, more_lines}
use Rattle.row_text.proofs.scratch.Scratch.push_each.Goals as goal

pub loop-row-preserved : goal.loop-row-preserved
loop-row-preserved c =
    ap (λ t. t ++ table_lines c.args.catalogue.now c.args.table (drop (c.loop-row.row-index + 1) c.args.rows.now)) c.in_ok-push_line.ensures
    ∙ more_lines c.args.catalogue.now c.args.table c.args.rows.now c.loop-row.row-index c.new-name.result c.row-item.result c.loop-row.text.items (c.args.text.now.items ++ table_lines c.args.catalogue.now c.args.table c.args.rows.now) (search rules) (search rules) (search rules) c.loop-row.invariant

pub returns : goal.returns
returns c = all_lines c.args.catalogue.now c.args.table c.args.rows.now c.loop-row.row-index _ (c.args.text.now.items ++ table_lines c.args.catalogue.now c.args.table c.args.rows.now) (search rules) c.loop-row.invariant
