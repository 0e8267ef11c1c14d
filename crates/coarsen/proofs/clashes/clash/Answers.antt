use Rattle.coarsen.proofs.Clashing.{conflict_from_clash, clash_from_conflict}
use Rattle.coarsen.proofs.clashes.clash.Goals as goal

pub conflict-requires-clause-first : goal.conflict-requires-clause-first
conflict-requires-clause-first c = rw c.requests.ensures.same (c.requests.ensures.sound.ordered)

pub conflict-requires-clause-second : goal.conflict-requires-clause-second
conflict-requires-clause-second c = rw c.requests-2.ensures.same (c.requests-2.ensures.sound.ordered)

pub returns-clause-rows : goal.returns-clause-rows
returns-clause-rows c = λ tables is u v.
    let s = c.requests.ensures.sound in
    let t = c.requests-2.ensures.sound in
    let both = rw (c.requests.ensures.same, c.requests-2.ensures.same) at c.conflict.ensures in (
      λ h. clash_from_conflict tables is c.args.first.now c.args.second.now s t u v (both.0 h),
      λ k. both.1 (conflict_from_clash tables c.args.first.now c.args.second.now s t k),
    )
