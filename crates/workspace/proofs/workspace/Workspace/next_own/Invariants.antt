use Rattle.std.proofs.Common.{ℕ, Option, ◌-◌}
use Rattle.workspace.specs.Walks.{IsNextKey, own_rows, keys_before}
use Rattle.workspace.proofs.workspace.Workspace.next_own.Given as goal

-- what comes next from here came next from the start
abbrev pub invariant-loop-key : goal.invariant-loop-key
invariant-loop-key l =
    (r : Option ℕ) → IsNextKey l.catalogue (own_rows l.self.writes.entries) l.table l.part l.at r → IsNextKey l.catalogue (own_rows l.self.writes.entries) l.table l.part l.fn.after r

abbrev pub decreases-loop-key : goal.decreases-loop-key
decreases-loop-key l = 9223372036854775808 - keys_before l.at
