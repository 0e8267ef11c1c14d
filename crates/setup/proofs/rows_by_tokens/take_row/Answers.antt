use Rattle.std.proofs.Common.{sym}
use Rattle.value_tokens.proofs.Documents.{end_taken}
use Rattle.setup.proofs.RowTokens.{fresh_is, named_after, row_is_read, values_taken}
use Rattle.setup.proofs.TokenSteps.{ok_holds}
use Rattle.setup.proofs.rows_by_tokens.take_row.Goals as goal

pub returns-then-branch-clause-row : goal.returns-then-branch-clause-row
returns-then-branch-clause-row c = λ holds.
    let fresh = ok_holds c.add.result _ c.in_ok-ok.field-0 c.in_ok-ok.ensures.value (c.add.ensures.fresh holds) in
    let takes = values_taken c.args.catalogue.now c.in_ok-table.table c.in_ok-values.values.items c.deref.result.now c.takes.result c.if-not-takes.false c.deref.ensures.value c.takes.ensures in
    rw c.new-then-branch.ensures
    (row_is_read c.args.catalogue.now c.args.before.now c.in_ok-take_text.field-0.now c.in_ok-table.table c.in_ok-key.key c.in_ok-values.values.items _ _ _ _ _ _
    c.in_ok-take_begin_array.ensures c.in_ok-take_text.ensures c.in_ok-key.ensures c.in_ok-values.ensures (end_taken _ _ c.if-not-take_end_array.ensures) (sym c.in_ok-table.ensures) takes
    (fresh_is c.new.result c.in_ok-table.table c.in_ok-key.key c.args.before.now c.in_ok-ok.field-0 c.new.ensures c.if-branch.true fresh))

pub returns-then-branch-clause-names : goal.returns-then-branch-clause-names
returns-then-branch-clause-names c = λ holds.
    named_after c.new.result c.in_ok-table.table c.in_ok-key.key c.new-then-branch.result c.args.before.now c.add.new.self c.new.ensures
    (ok_holds c.add.result _ c.in_ok-ok.field-0 c.in_ok-ok.ensures.value (c.add.ensures.names holds c.new-then-branch.result))
