use Rattle.std.proofs.Common.{◌-◌, List}
use Rattle.coarsen.specs.Subtrees.{Requests}
use Rattle.scheduler.specs.Scheduled.{AreMade}
use Rattle.scheduler.proofs.planning.Plans.drop_settled.Given as goal

-- what is left serves as well
abbrev pub invariant-loop-self : goal.invariant-loop-self
invariant-loop-self l =
    (plans : List Requests) → AreMade plans l.settled l.place l.initial.self.from l.initial.self.made.items
    → AreMade plans l.settled l.place l.self.from l.self.made.items

abbrev pub decreases-loop-self : goal.decreases-loop-self
decreases-loop-self l = l.settled - l.self.from
