use Rattle.std.proofs.Common.{refl, ◌≡◌, Ok, Err}
use Rattle.devices.specs.LineReader.{newlines_taken}
use Rattle.devices.proofs.Passing.{Passes-weaken}
use Rattle.batch_log.specs.Lines.{line_said}
use Rattle.batch_log.proofs.Lines.{of_line, said_next}
use Rattle.batch_log.proofs.Moves.{Moves-end, Moves-line, Moves-lost}
use Rattle.batch_log.proofs.Taken.{first_line, lost_line, lost_whole}
use Rattle.batch_log.proofs.batch.next_said.Goals as goal

pub returns-in-Ok-clause-line : goal.returns-in-Ok-clause-line
returns-in-Ok-clause-line g c =
    let said : line_said c.args.procs.now.procs c.in-Ok-Some.line.items ≡ Ok c.in-Ok.said = rw c.deref.ensures.value at c.in-Ok.ensures.exact in
    Passes-weaken _ _ _ _ (rw c.in-Ok-Some.field-0-is at c.in-Ok-Some.ensures.line).1 (λ x y p. said_next _ (newlines_taken c.args.lines.now) (newlines_taken c.next_line.new.self) _ _ x y _ said p)

pub returns-clause-fault : goal.returns-clause-fault
returns-clause-fault g c = λ of.
    let said : line_said c.args.procs.now.procs c.in-Ok-Some.line.items ≡ Err c.in-Err-read_line_with.kind =
    rw c.deref.ensures.value at (c.in-Err-read_line_with.ensures.exact (of_line _ (rw c.fault_of_line.ensures at of))) in
    rw c.fault_of_line.ensures (Passes-weaken _ _ _ _ (rw c.in-Ok-Some.field-0-is at c.in-Ok-Some.ensures.line).1 (λ x y p. said_next _ (newlines_taken c.args.lines.now) (newlines_taken c.next_line.new.self) _ _ x y _ said p))

pub returns-in-Ok-None-clause-moves : goal.returns-in-Ok-None-clause-moves
returns-in-Ok-None-clause-moves g c =
    Moves-end _ _ _ _ ((rw c.in-Ok-None.field-0-is at c.in-Ok-None.ensures.end) refl).0 ((rw c.in-Ok-None.field-0-is at c.in-Ok-None.ensures.end) refl).1

pub returns-in-Err-clause-moves : goal.returns-in-Err-clause-moves
returns-in-Err-clause-moves g c = Moves-lost _ _ _ _ c.in-Err.ensures.lost

pub returns-in-Ok-clause-moves : goal.returns-in-Ok-clause-moves
returns-in-Ok-clause-moves g c = Moves-line _ _ _ _ _ c.in-Ok-Some.line.items (rw c.in-Ok-Some.field-0-is at c.in-Ok-Some.ensures.line).0

pub returns-clause-moves : goal.returns-clause-moves
returns-clause-moves g c = Moves-line _ _ _ _ _ c.in-Ok-Some.line.items (rw c.in-Ok-Some.field-0-is at c.in-Ok-Some.ensures.line).0

pub returns-in-Ok-clause-first : goal.returns-in-Ok-clause-first
returns-in-Ok-clause-first g c =
    let said : line_said c.args.procs.now.procs c.in-Ok-Some.line.items ≡ Ok c.in-Ok.said = rw c.deref.ensures.value at c.in-Ok.ensures.exact in
    Passes-weaken _ _ _ _ (first_line _ _ _ _ _ c.in-Ok-Some.line.items (rw c.in-Ok-Some.field-0-is at c.in-Ok-Some.ensures.line).0) (λ x y h. (c.in-Ok-Some.line.items, h, said))

pub returns-in-Err-clause-lost : goal.returns-in-Err-clause-lost
returns-in-Err-clause-lost g c = lost_line _ _ _ _ _ c.in-Err.ensures.lost

pub returns-clause-lost : goal.returns-clause-lost
returns-clause-lost g c =
    lost_whole _ _ _ _ _ _ c.in-Ok-Some.line.items (rw c.fault_of_line.ensures c.in-Err-read_line_with.ensures.no_device) (rw c.in-Ok-Some.field-0-is at c.in-Ok-Some.ensures.line).0
