use Rattle.std.proofs.Common.{ℕ, Option, ◌-◌}
use Rattle.workspace.specs.Walks.{IsNextKey, untouched, keys_before}
use Rattle.workspace.proofs.walk.next_untouched.Given as goal

-- what comes next from here came next from the start
abbrev pub invariant-loop-key : goal.invariant-loop-key
invariant-loop-key g l =
    let rows = untouched l.space.writes.entries (g.V.RowView.rows l.shown.view.now) in
    (r : Option ℕ) → IsNextKey l.shown.permit.catalogue.now rows l.table l.part l.at r → IsNextKey l.shown.permit.catalogue.now rows l.table l.part l.fn.after r

abbrev pub decreases-loop-key : goal.decreases-loop-key
decreases-loop-key g l = 9223372036854775808 - keys_before l.at
