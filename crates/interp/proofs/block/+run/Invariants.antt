use Rattle.std.proofs.Common.{◌≡◌, drop, length, map, pos}
use Rattle.proclang_types.specs.Syntax.{block_of}
use Rattle.proclang_types.specs.Views.{stmts_view}
use Rattle.meaning.specs.Turns.{numbers_between}
use Rattle.meaning.specs.Meaning.{in_order, turns}
use Rattle.meaning.specs.Entries.{nothing}
use Rattle.workspace.specs.Coverage.{rule_of, KeepsCovered}
use Rattle.workspace.specs.States.{state_at}
use Rattle.interp.specs.Numbers.{numbers_left}
use Rattle.interp.proofs.block.+run.Given as goal

-- what is left of the block is to be done
abbrev pub invariant-block-loop-statement : goal.invariant-block-loop-statement
invariant-block-loop-statement g l =
    let rows = g.V.RowView.rows l.shown.view.now in
    record {
      gives : in_order nothing (rule_of l.shown.permit) (block_of (stmts_view (drop l.statement-index l.statements.items))) (state_at rows l.space)
          ≡ in_order nothing (rule_of l.shown.permit) (block_of (stmts_view l.statements.items)) (state_at rows l.fn.space);
      kept : KeepsCovered l.shown.permit l.fn.space l.space;
    }

-- what is left of the numbers is to be gone through
abbrev pub invariant-for_each_number-loop-next : goal.invariant-for_each_number-loop-next
invariant-for_each_number-loop-next g l =
    let rows = g.V.RowView.rows l.shown.view.now in
    let body = in_order nothing (rule_of l.shown.permit) (block_of (stmts_view l.statements.items)) in
    record {
      gives : turns body (numbers_left l.next l.high) (state_at rows l.space) ≡ turns body (numbers_between l.low l.high) (state_at rows l.fn.space);
      kept : KeepsCovered l.shown.permit l.fn.space l.space;
    }

abbrev pub decreases-for_each_number-loop-next : goal.decreases-for_each_number-loop-next
decreases-for_each_number-loop-next g l = length (numbers_left l.next l.high)

-- what is left of the keys is to be gone through
abbrev pub invariant-for_each_key-loop-key : goal.invariant-for_each_key-loop-key
invariant-for_each_key-loop-key g l =
    let rows = g.V.RowView.rows l.shown.view.now in
    let body = in_order nothing (rule_of l.shown.permit) (block_of (stmts_view l.statements.items)) in
    record {
      gives : turns body (map pos (drop l.key-index l.keys.items)) (state_at rows l.space) ≡ turns body (map pos l.keys.items) (state_at rows l.fn.space);
      kept : KeepsCovered l.shown.permit l.fn.space l.space;
    }
