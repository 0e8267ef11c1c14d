use Rattle.std.proofs.Common.{rules, ◌∙◌, subst}
use Rattle.rows_document.specs.Listing.{Lists}
use Rattle.rows_document.proofs.Listed.{held_more, named_more}
use Rattle.rows_document.proofs.document.push_rows.Goals as goal

pub loop-row-preserved : goal.loop-row-preserved
loop-row-preserved c = record {
  listed = λ before so_far.
      subst (λ rows. Lists c.args.catalogue.now rows c.push.new.self) (named_more c.args.table c.args.rows.now c.loop-row.row-index c.row-item.result before (search rules) (search rules))
      (c.in_ok-push.ensures.listed c.args.catalogue.now c.args.table _ (c.deref.ensures.value ∙ c.in_ok-head.ensures) (c.loop-row.invariant.listed before so_far));
  held = held_more c.args.table c.args.rows.now c.loop-row.row-index c.row-item.result (search rules) (search rules) c.loop-row.invariant.held c.in_ok-push.ensures.held;
}
