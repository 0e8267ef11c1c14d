use Rattle.std.proofs.Common.{ap}
use Rattle.retries.specs.Standings.{Standing}
use Rattle.running.proofs.Closers.{IsClosing-cut, IsClosing-end, stops_unthreaded, where_ok}
use Rattle.running.proofs.closing.close.Goals as goal

pub returns-in-Ok-clause-closed : goal.returns-in-Ok-clause-closed
returns-in-Ok-clause-closed g c = λ start ran before h.
    let closed = c.in-Ok.ensures.closed start ran before h in
    IsClosing-end c.finish.result _ _ _ _ _ _ _ closed.reported
    c.finish.ensures.count c.finish.ensures.text c.finish.ensures.front c.finish.ensures.stops.1

pub returns-in-Err-clause-closed : goal.returns-in-Err-clause-closed
returns-in-Err-clause-closed g c = λ start ran before h.
    let closed = c.in-Err.ensures.closed start ran before h in
    IsClosing-cut _ _ _ _ _ closed.stop

pub returns-in-Ok-clause-rows : goal.returns-in-Ok-clause-rows
returns-in-Ok-clause-rows g c = λ start ran before h.
    let closed = c.in-Ok.ensures.closed start ran before h in
    where_ok c.finish.result (rw c.finish.ensures.same (ap (λ (s : Standing). s.rows) closed.reported.standing_is))

pub returns-in-Ok-clause-idle : goal.returns-in-Ok-clause-idle
returns-in-Ok-clause-idle g c = where_ok c.finish.result (rw c.finish.ensures.same c.in-Ok.ensures.between.idle)

pub returns-in-Ok-clause-stops : goal.returns-in-Ok-clause-stops
returns-in-Ok-clause-stops g c = stops_unthreaded c.finish.result c.args.line _ c.finish.ensures.stops.0 c.finish.ensures.stops.1
