use Rattle.std.proofs.Common.{subst, sym}
use Rattle.std.specs.declared.ops.Bound.TheVariants.{Unbounded}
use Rattle.std.specs.BTreeMap.Range.{IsRangeOf}
use Rattle.values.specs.Database.{name_cmp}
use Rattle.workspace.specs.Walks.{IsNextWriteAt, bound_of}
use Rattle.workspace.proofs.OwnRows.{no_write, one_write, past_table, same_numbers, other_numbers}
use Rattle.workspace.proofs.workspace.Workspace.next_write.Goals as goal

pub returns-in_err-name : goal.returns-in_err-name
returns-in_err-name c =
    let m = c.args.self.now.writes in
    let r : IsRangeOf name_cmp (bound_of c.args.table c.args.after) Unbounded m c.range.result =
    subst (λ b. IsRangeOf name_cmp b Unbounded m c.range.result) c.bound_of-start.ensures (c.range.ensures.in_range tt) in
    let n = no_write m c.args.table c.args.after c.range.result r c.in_err-name.ensures.steps.0 in
    rw c.from_residual.ensures n

pub returns-then-eq : goal.returns-then-eq
returns-then-eq c =
    let m = c.args.self.now.writes in
    let r : IsRangeOf name_cmp (bound_of c.args.table c.args.after) Unbounded m c.range.result =
    subst (λ b. IsRangeOf name_cmp b Unbounded m c.range.result) c.bound_of-start.ensures (c.range.ensures.in_range tt) in
    subst (λ live. IsNextWriteAt m.entries c.args.table c.args.after c.in_ok-name.name.now.key live) (sym c.is_some.ensures)
    (one_write m c.args.table c.args.after (c.in_ok-name.name.now, c.in_ok-name.write.now) _ c.range.result r c.in_ok-name.ensures.steps (same_numbers _ _ c.if-eq.ensures))

pub returns-else-eq : goal.returns-else-eq
returns-else-eq c =
    let m = c.args.self.now.writes in
    let r : IsRangeOf name_cmp (bound_of c.args.table c.args.after) Unbounded m c.range.result =
    subst (λ b. IsRangeOf name_cmp b Unbounded m c.range.result) c.bound_of-start.ensures (c.range.ensures.in_range tt) in
    past_table m c.args.table c.args.after (c.in_ok-name.name.now, c.in_ok-name.write.now) _ c.range.result r c.in_ok-name.ensures.steps (other_numbers _ _ c.if-eq.ensures)
