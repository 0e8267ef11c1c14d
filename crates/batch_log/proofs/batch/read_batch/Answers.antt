use Rattle.std.proofs.Common.{◌≡◌, ◌+◌, ◌<◌, [], ◌∷◌, ◌++◌, length, true, false, refl, rules, ap}
use Rattle.devices.specs.LineReader.{newlines_taken}
use Rattle.devices.proofs.Passing.{Passes-refl, Passes-trans}
use Rattle.batch_log.specs.Lines.{lines_said}
use Rattle.batch_log.specs.Log.{is_room, log_said}
use Rattle.batch_log.proofs.Batches.{each_push, Fault-of_line, Fault-too_long, IsEnd-here, NextBatch-cut, NextBatch-end, Reads-call, Reads-none}
use Rattle.batch_log.proofs.Moves.{Moves-none, Moves-trans}
use Rattle.batch_log.proofs.Taken.{CallsSoFar-none, CallsSoFar-push, TakesCalls-end, TakesCalls-line, TakesCalls-lost, room_for}
use Rattle.batch_log.proofs.batch.read_batch.Goals as goal

pub lines-init : goal.lines-init
lines-init g c = record {
  same = refl;
  taken = Passes-refl _ _ (λ x. rw c.new-calls.ensures.items (Reads-none (log_said c.args.retries c.args.procs.now.procs (newlines_taken c.args.lines.now) c.args.total.now x)));
  lines_so_far = Passes-refl _ _ (λ x. rw c.new-calls.ensures.items (CallsSoFar-none c.args.procs.now.procs x));
  moves = Moves-none _ _;
  tables = search rules;
  few = search rules;
  room = c.requires;
  counted = search rules;
  stays = λ h. h;
  fails = λ h. refl;
  goes_on = λ h e. e;
}

pub returns-in-Ok-None-clause-end : goal.returns-in-Ok-None-clause-end
returns-in-Ok-None-clause-end g c = λ _.
    let none : length c.lines.calls.items ≡ 0 = search rules in
    Passes-trans _ _ _ _ _ _ c.lines.invariant.taken ((rw c.in-Ok-None.field-0-is at c.in-Ok-None.ensures.end) refl)
    (λ x y z p q. (IsEnd-here _ _ _ _ _ _ none p (ap (lines_said c.args.procs.now.procs (newlines_taken c.lines.lines)) q.0), q.1))

pub returns-in-Ok-None-2-clause-batch : goal.returns-in-Ok-None-2-clause-batch
returns-in-Ok-None-2-clause-batch g c =
    let some : 0 < length c.lines.calls.items = search rules in
    Passes-trans _ _ _ _ _ _ c.lines.invariant.taken ((rw c.in-Ok-None.field-0-is at c.in-Ok-None.ensures.end) refl)
    (λ x y z p q. rw q.1 (NextBatch-end _ _ _ _ _ _ some p (ap (lines_said c.args.procs.now.procs (newlines_taken c.lines.lines)) q.0)))

pub returns-in-Err-clause-fault : goal.returns-in-Err-clause-fault
returns-in-Err-clause-fault g c = λ of.
    Passes-trans _ _ _ _ _ _ c.lines.invariant.taken (c.in-Err.ensures.fault of)
    (λ x y z p q. Fault-of_line _ _ _ _ _ _ _ _ _ p q)

pub returns-in-Ok-Some-Cut-clause-batch : goal.returns-in-Ok-Some-Cut-clause-batch
returns-in-Ok-Some-Cut-clause-batch g c =
    Passes-trans _ _ _ _ _ _ c.lines.invariant.taken (rw (c.in-Ok-Some-Cut.field-0-is, c.in-Ok-Some-Cut.field-0-0-is) at c.in-Ok-Some-Cut.ensures.line)
    (λ x y z p q. NextBatch-cut _ _ _ _ _ _ _ _ p q)

pub returns-then-not-is_room-clause-fault : goal.returns-then-not-is_room-clause-fault
returns-then-not-is_room-clause-fault g c = λ _.
    let full : is_room c.args.retries (length c.lines.calls.items) c.lines.total ≡ false = search rules in
    rw c.fault_of_line.ensures (Passes-trans _ _ _ _ _ _ c.lines.invariant.taken (rw (c.in-Ok-Some-Call.field-0-is, c.in-Ok-Some-Call.field-0-0-is) at c.in-Ok-Some-Call.ensures.line)
    (λ x y z p q. Fault-too_long _ _ _ _ _ _ _ _ _ full p q))

pub lines-preserved : goal.lines-preserved
lines-preserved g c =
    let room : is_room c.args.retries (length c.lines.calls.items) c.lines.total ≡ true = search rules in
    let pushed : c.push.new.self.items ≡ c.lines.calls.items ++ c.in-Ok-Some-Call.call ∷ [] = search rules in
    let one : length c.push.new.self.items ≡ length c.lines.calls.items + 1 = search rules in
    record {
      same = search rules;
      taken = Passes-trans _ _ _ _ _ _ c.lines.invariant.taken (rw (c.in-Ok-Some-Call.field-0-is, c.in-Ok-Some-Call.field-0-0-is) at c.in-Ok-Some-Call.ensures.line)
          (λ x y z p q. Reads-call _ _ _ _ _ _ _ _ _ _ room pushed one p q);
      lines_so_far = Passes-trans _ _ _ _ _ _ c.lines.invariant.lines_so_far (rw (c.in-Ok-Some-Call.field-0-is, c.in-Ok-Some-Call.field-0-0-is) at c.in-Ok-Some-Call.ensures.first)
          (λ x y z s h. CallsSoFar-push _ _ _ h.0 x y z _ one s h.1 h.2);
      moves = Moves-trans _ _ _ _ _ _ c.lines.invariant.moves c.next_said.ensures.moves;
      tables = rw pushed (each_push (λ call. call.proc.tables ≡ c.args.procs.now.tables) _ _ c.lines.invariant.tables
          (rw (c.in-Ok-Some-Call.field-0-is, c.in-Ok-Some-Call.field-0-0-is) at c.in-Ok-Some-Call.ensures.tables));
      few = search rules;
      room = search rules;
      counted = search rules;
      stays = λ h. search rules;
      fails = λ h. search rules;
      goes_on = λ h e. search rules;
    }

-- ---- which bytes are taken

pub returns-in-Ok-Some-Cut-clause-taken : goal.returns-in-Ok-Some-Cut-clause-taken
returns-in-Ok-Some-Cut-clause-taken g c =
    Passes-trans _ _ _ _ _ _ c.lines.invariant.lines_so_far (rw (c.in-Ok-Some-Cut.field-0-is, c.in-Ok-Some-Cut.field-0-0-is) at c.in-Ok-Some-Cut.ensures.first)
    (λ x y z s h. TakesCalls-line _ _ _ h.0 x y z c.lines.invariant.few (room_for _ _ _ _ c.lines.invariant.counted c.lines.invariant.room) s h.1)

pub returns-in-Ok-None-clause-taken : goal.returns-in-Ok-None-clause-taken
returns-in-Ok-None-clause-taken g c =
    Passes-trans _ _ _ _ _ _ c.lines.invariant.lines_so_far ((rw c.in-Ok-None.field-0-is at c.in-Ok-None.ensures.end) refl)
    (λ x y z s h. TakesCalls-end _ _ _ x y z c.lines.invariant.few (room_for _ _ _ _ c.lines.invariant.counted c.lines.invariant.room) s h.0 h.1)

pub returns-in-Ok-None-2-clause-taken : goal.returns-in-Ok-None-2-clause-taken
returns-in-Ok-None-2-clause-taken g c =
    Passes-trans _ _ _ _ _ _ c.lines.invariant.lines_so_far ((rw c.in-Ok-None.field-0-is at c.in-Ok-None.ensures.end) refl)
    (λ x y z s h. TakesCalls-end _ _ _ x y z c.lines.invariant.few (room_for _ _ _ _ c.lines.invariant.counted c.lines.invariant.room) s h.0 h.1)

pub returns-in-Err-clause-taken : goal.returns-in-Err-clause-taken
returns-in-Err-clause-taken g c =
    Passes-trans _ _ _ _ _ _ c.lines.invariant.lines_so_far c.in-Err.ensures.lost
    (λ x y z s h. TakesCalls-lost _ _ _ _ x y z c.lines.invariant.few (room_for _ _ _ _ c.lines.invariant.counted c.lines.invariant.room) s h)

pub returns-then-not-is_room-clause-taken : goal.returns-then-not-is_room-clause-taken
returns-then-not-is_room-clause-taken g c =
    rw c.fault_of_line.ensures (Passes-trans _ _ _ _ _ _ c.lines.invariant.lines_so_far (rw (c.in-Ok-Some-Call.field-0-is, c.in-Ok-Some-Call.field-0-0-is) at c.in-Ok-Some-Call.ensures.first)
    (λ x y z s h. TakesCalls-line _ _ _ h.0 x y z c.lines.invariant.few (room_for _ _ _ _ c.lines.invariant.counted c.lines.invariant.room) s h.1))

pub returns-then-is_err-clause-taken : goal.returns-then-is_err-clause-taken
returns-then-is_err-clause-taken g c =
    rw c.fault_of_line-then-is_err.ensures (Passes-trans _ _ _ _ _ _ c.lines.invariant.lines_so_far (rw (c.in-Ok-Some-Call.field-0-is, c.in-Ok-Some-Call.field-0-0-is) at c.in-Ok-Some-Call.ensures.first)
    (λ x y z s h. TakesCalls-line _ _ _ h.0 x y z c.lines.invariant.few (room_for _ _ _ _ c.lines.invariant.counted c.lines.invariant.room) s h.1))

-- ---- and by how much the position goes on

pub returns-in-Ok-Some-Cut-clause-moves : goal.returns-in-Ok-Some-Cut-clause-moves
returns-in-Ok-Some-Cut-clause-moves g c = Moves-trans _ _ _ _ _ _ c.lines.invariant.moves c.next_said.ensures.moves

pub returns-in-Ok-None-clause-moves : goal.returns-in-Ok-None-clause-moves
returns-in-Ok-None-clause-moves g c = Moves-trans _ _ _ _ _ _ c.lines.invariant.moves c.next_said.ensures.moves

pub returns-in-Ok-None-2-clause-moves : goal.returns-in-Ok-None-2-clause-moves
returns-in-Ok-None-2-clause-moves g c = Moves-trans _ _ _ _ _ _ c.lines.invariant.moves c.next_said.ensures.moves

pub returns-in-Err-clause-moves : goal.returns-in-Err-clause-moves
returns-in-Err-clause-moves g c = Moves-trans _ _ _ _ _ _ c.lines.invariant.moves c.next_said.ensures.moves

pub returns-then-not-is_room-clause-moves : goal.returns-then-not-is_room-clause-moves
returns-then-not-is_room-clause-moves g c = Moves-trans _ _ _ _ _ _ c.lines.invariant.moves c.next_said.ensures.moves

pub returns-then-is_err-clause-moves : goal.returns-then-is_err-clause-moves
returns-then-is_err-clause-moves g c = Moves-trans _ _ _ _ _ _ c.lines.invariant.moves c.next_said.ensures.moves
