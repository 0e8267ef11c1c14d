use Rattle.std.proofs.Common.{◌+◌, ◌-◌, length}
use Rattle.scheduler.specs.Logs.{plans_for}
use Rattle.scheduler.specs.Scheduled.{AreMade}
use Rattle.scheduler.proofs.planning.Plans.make_next.Given as goal

abbrev pub invariant-loop-self : goal.invariant-loop-self
invariant-loop-self l = AreMade (plans_for l.threshold l.arena l.entries) l.settled l.place l.self.from l.self.made.items

abbrev pub decreases-loop-self : goal.decreases-loop-self
decreases-loop-self l = (l.place + 2) - (l.self.from + length l.self.made.items)
