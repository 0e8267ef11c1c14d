use Rattle.std.proofs.Common.{Some, None, arith}
use Rattle.std.proofs.lemmas.Bool.Decides.{nat_tests}
use Rattle.workspace.proofs.OwnRows.{found, passed, ended}
use Rattle.workspace.proofs.workspace.Workspace.next_own.Goals as goal
use Rattle.workspace.proofs.workspace.Workspace.next_own.Goals.{else-live-via-then-live+else-part_of-part, else-live-via-else-live}

pub returns-then-part_of-part : goal.returns-then-part_of-part
returns-then-part_of-part c =
    c.loop-key.invariant (Some _)
    (found c.args.catalogue.now c.args.self.now.writes.entries _ _ _ _ _ c.in-Some.ensures (cc) (grind (arith, nat_tests)))

pub loop-key-preserved : goal.loop-key-preserved
loop-key-preserved c = λ r h.
    c.loop-key.invariant r
    (passed c.args.catalogue.now c.args.self.now.writes.entries _ _ _ _ _ r c.in-Some.ensures
    (elim c.else-live.branch [
      | else-live-via-then-live+else-part_of-part w ↦ grind (arith, nat_tests)
      | else-live-via-else-live w ↦ cc
    ]) h)

pub returns : goal.returns
returns c =
    c.loop-key.invariant None (ended c.args.catalogue.now c.args.self.now.writes.entries _ _ c.loop-key.at c.in_default.ensures)
