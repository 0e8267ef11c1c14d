use Rattle.std.proofs.Common.{refl, ap}
use Rattle.std.specs.FinMap.{empty}
use Rattle.row_store.specs.Stock.{with_rows}
use Rattle.devices.specs.LineReader.{Position}
use Rattle.batch_log.specs.Reader.{came, position_of}
use Rattle.calvin.proofs.FirstBatchEnds.{batch_first, ends_at_fault, ends_planned, ends_without_memory, fault_first, none_first}
use Rattle.calvin.proofs.locks.first_plans.Goals as goal

pub returns-in-Ok-None-clause-planned : goal.returns-in-Ok-None-clause-planned
returns-in-Ok-None-clause-planned g c =
    let newlines = ap (λ (p : Position). p.newlines) c.requires.position in
    ends_planned _ _ _ _ _ _ (came c.next_batch.new.self) (position_of c.next_batch.new.self) _ _ (rw c.requires.position at c.next_batch.ensures.taken.1) c.next_batch.new.self.lines.ahead c.new.result (rw (c.requires.calls, c.requires.retries_are) at c.in-Ok-None.ensures.taken.0) ((c.in-Ok-None.ensures.tells c.requires.fault).fails)
    (none_first c.args.setup.procs c.args.setup.retries (with_rows empty c.args.setup.rows.items) c.args.settings _ _ _ _ _ newlines c.requires.calls ((rw (c.in-Ok-None.field-0-is, c.requires.retries_are) at c.in-Ok-None.ensures.end) refl) c.new.ensures.bytes)

pub returns-in-Err-clause-planned : goal.returns-in-Err-clause-planned
returns-in-Err-clause-planned g c =
    let newlines = ap (λ (p : Position). p.newlines) c.requires.position in
    ends_at_fault _ _ _ _ _ _ (came c.next_batch.new.self) (position_of c.next_batch.new.self) _ _ (rw c.requires.position at c.next_batch.ensures.taken.1) c.next_batch.new.self.lines.ahead c.in-Err.fault (rw (c.requires.calls, c.requires.retries_are) at c.in-Err.ensures.taken.0) ((c.in-Err.ensures.tells c.requires.fault).fails)
    (λ of. fault_first c.args.setup.procs c.args.setup.retries (with_rows empty c.args.setup.rows.items) _ _ _ _ c.in-Err.fault newlines c.requires.calls (rw c.requires.retries_are at (c.in-Err.ensures.fault c.requires.fault of))) ((c.in-Err.ensures.tells c.requires.fault).place) ((c.in-Err.ensures.tells c.requires.fault).spent)

pub returns-in-Ok-clause-planned : goal.returns-in-Ok-clause-planned
returns-in-Ok-clause-planned g c =
    let newlines = ap (λ (p : Position). p.newlines) c.requires.position in
    ends_planned _ _ _ _ _ _ (came c.next_batch.new.self) (position_of c.next_batch.new.self) _ _ (rw c.requires.position at c.next_batch.ensures.taken.1) c.next_batch.new.self.lines.ahead c.in-Ok.lines (rw (c.requires.calls, c.requires.retries_are) at c.in-Ok-Some.ensures.taken.0) ((c.in-Ok-Some.ensures.tells c.requires.fault).fails)
    (batch_first c.args.setup.procs c.args.setup.retries (with_rows empty c.args.setup.rows.items) c.args.settings _ _ _ _ _ _ c.in-Ok-Some.requests.items c.args.setup.catalogue _ newlines c.requires.calls (rw (c.in-Ok-Some.field-0-is, c.requires.retries_are) at c.in-Ok-Some.ensures.batch).0 c.args.setup.over c.in-Ok.ensures)

pub returns-in-Err-lines_of-clause-planned : goal.returns-in-Err-lines_of-clause-planned
returns-in-Err-lines_of-clause-planned g c =
    ends_without_memory _ _ _ _ _ _ (came c.next_batch.new.self) (position_of c.next_batch.new.self) _ _ (rw c.requires.position at c.next_batch.ensures.taken.1) c.next_batch.new.self.lines.ahead c.at.result c.last_line.result (rw (c.requires.calls, c.requires.retries_are) at c.in-Ok-Some.ensures.taken.0) c.at.ensures ((c.in-Ok-Some.ensures.tells c.requires.fault).fails) c.last_line.ensures
