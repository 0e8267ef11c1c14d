use Rattle.std.proofs.Common.{sym, ap, ◌∙◌, map}
use Rattle.lanes.specs.Seats.{jobs_in}
use Rattle.lanes.specs.Kept.{job_of}
use Rattle.lanes.proofs.Put.{opened_is, none_there}
use Rattle.lanes.proofs.Counts.{none_in}
use Rattle.lanes.proofs.table.Lanes.new.Goals as goal

pub returns-clause-seat : goal.returns-clause-seat
returns-clause-seat c = let lanes = c.in_ok-table.ensures.lanes in let seat = c.in_ok-table.ensures.seat in
    opened_is c.in_ok-table.seat.table_id record { table = c.in_ok-table.table.table.shared.table_id; count = c.in_ok-table.table.count } c.args.count c.in_ok-table.seat.me seat.1
    (λ i. record { table = seat.0.lanes i; count = (lanes.1 ∙ sym lanes.0) i }) lanes.1

pub returns-clause-no_jobs : goal.returns-clause-no_jobs
returns-clause-no_jobs c = ap (λ v. jobs_in (map job_of v.known)) c.in_ok-table.ensures.seat.1 ∙ ap jobs_in (none_there c.args.count) ∙ none_in c.args.count
