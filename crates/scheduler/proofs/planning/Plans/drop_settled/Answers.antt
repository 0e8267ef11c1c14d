use Rattle.scheduler.proofs.Making.{first_dropped}
use Rattle.scheduler.proofs.planning.Plans.drop_settled.Goals as goal

pub loop-self-preserved : goal.loop-self-preserved
loop-self-preserved c = λ plans are.
    first_dropped plans c.args.settled c.args.place c.loop-self.self.from c.loop-self.self.made.items c.pop_front.new.self.items c.in-Some._plan
    c.loop-self-test.true c.in-Some.ensures.items (c.loop-self.invariant plans are)
