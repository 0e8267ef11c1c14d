use Rattle.dispatcher.proofs.Straight.{same_work, straight_told, straight_settles, straight_lanes}
use Rattle.dispatcher.proofs.alone.run_next.Goals as goal

pub tell-requires-clause-others : goal.tell-requires-clause-others
tell-requires-clause-others g c =
    let ran = rw c.in-Some.is at c.in_ok-no.ensures.ran in
    straight_told c.args.scheduler.now c.run_next.new.self ran.1 ran.2 c.in-Some.no (g.L.Listener.account c.args.listener.now) ran.0 c.requires.told

pub returns-clause-runs : goal.returns-clause-runs
returns-clause-runs g c =
    let ran = rw c.in-Some.is at c.in_ok-no.ensures.ran in
    record {
      work = same_work c.args.scheduler.now c.run_next.new.self ran.1 ran.2;
      settled = λ place is. straight_settles c.args.scheduler.now c.run_next.new.self ran.1 ran.2 place is;
      told = c.tell.ensures.told;
      onward = c.tell.ensures.onward;
    }

pub returns-clause-lanes : goal.returns-clause-lanes
returns-clause-lanes g c = λ seat h.
    let ran = rw c.in-Some.is at c.in_ok-no.ensures.ran in
    straight_lanes c.args.scheduler.now c.run_next.new.self ran.1 ran.2 seat h
