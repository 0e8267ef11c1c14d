use Rattle.std.proofs.Common.{◌++◌, ap, arith, rules, sym, ◌∙◌}
use Rattle.std.proofs.lemmas.List.{drop_all}
use Rattle.row_text.specs.Feeding.{row_words, table_lines}
use Rattle.row_text.proofs.Written.{line_before}
use Rattle.row_text.proofs.lines.put_lines.Goals as goal

pub loop-left-init : goal.loop-left-init
loop-left-init c = record {
  within = omega arith;
  left = omega arith;
  written = drop_all 2048 c.args.room.now (omega arith)
      ∙ sym (ap (table_lines c.args.catalogue.now c.args.table) (drop_all _ c.args.rows.now (omega arith)));
}

pub loop-left-preserved : goal.loop-left-preserved
loop-left-preserved c =
    let row = c.index-rows-left.result in
    record {
      within = c.in_ok-start.ensures.0;
      left = search rules;
      written = c.in_ok-start.ensures.1
          ∙ ap (λ l. (c.table_name-name.result.now ++ row_words row.0 row.1.now) ++ l) c.loop-left.invariant.written
          ∙ line_before c.args.catalogue.now c.args.table c.args.rows.now c.loop-left.left row c.table_name-name.result.now (omega arith) (omega arith) c.index-rows-left.is c.table_name-name.ensures;
    }
