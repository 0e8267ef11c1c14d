-- Where a run stopped.
use Rattle.std.proofs.Common.{◌≡◌, ℕ, ◌+◌, List, [], ◌∷◌, ◌++◌, append_assoc, append-nil, length, Bool, true, false, Option, Some, None, if◌then◌else◌, arith, refl, sym, ◌∙◌, ap, subst}
use Rattle.std.specs.Prelude.{⊤}
use Rattle.std.proofs.lemmas.List.{append_cancel_right}
use Rattle.std.specs.Option.{IfSome}
use Rattle.std.proofs.KnownBytes.{Appends-nil}
use Rattle.devices.specs.Devices.{AppendsFront, Passes}
use Rattle.devices.specs.Lines.{line_number, newlines_in, next_number}
use Rattle.devices.specs.LineReader.{Position}
use Rattle.devices.proofs.Passing.{Passes-weaken}
use Rattle.requests.specs.Requests.{Call}
use Rattle.batch_log.specs.Log.{log_said, IsEnd, IsNextBatch}
use Rattle.batch_log.specs.Moves.{Moves}
use Rattle.batch_log.proofs.Moves.{Moves-trans}
use Rattle.batch_log.specs.Taken.{TakesCalls}
use Rattle.batch_log.proofs.Taken.{TakesCalls-none}
use Rattle.retries.specs.Standings.{call_count}
use Rattle.engine.specs.Engines.{EngineParts}
use Rattle.running.specs.declared.run_fault.RunFault.{RunFault}
use Rattle.running.specs.declared.transcript.Transcript.{Transcript}
use Rattle.running.specs.Batches.{due_text}
use Rattle.running.specs.Reported.{HasReadAll}
use Rattle.running.specs.Starts.{Start}
use Rattle.running.specs.Stops.{IfOfMachine, IsMachineFault, last_line}
use Rattle.running.specs.Stopped.{at_end, in_batch, in_closing, line_after, reading, text_at, texts_of, AppendsAndFront, HaveClosed, IsEndedBy, IsStop, IsStoppedAt, IsTakenAt, Stage}
use Rattle.running.proofs.Reported.{calls_grown, next_text_is}
use Rattle.running.proofs.SoFar.{After, After-start, SoFar}
use Rattle.running.proofs.Stopping.{at_line, begun_after, newlines_after, next_of_number, nothing_taken}

-- ---- bytes taken in two calls

joined_bytes : (log xs ys bytes taken all : List ℕ) → log ≡ bytes ++ xs → xs ≡ taken ++ ys → log ≡ all ++ ys → all ≡ bytes ++ taken
joined_bytes log xs ys bytes taken all e f g =
    append_cancel_right all (bytes ++ taken) ys (sym g ∙ e ∙ ap (λ x. bytes ++ x) f ∙ sym (append_assoc bytes taken ys))

-- the line of a fault, by where the reader stands
abbrev pub line_at : Bool → Position → ℕ
line_at failed at = if failed then next_number at.newlines else at.begun

line_of_bytes : (failed : Bool) (at : Position) (bytes : List ℕ) → at.newlines ≡ line_number (newlines_in bytes) → at.begun ≡ last_line bytes → line_at failed at ≡ line_after failed bytes
line_of_bytes true at bytes e f = ap next_number e ∙ next_of_number (newlines_in bytes)
line_of_bytes false at bytes e f = f

-- ---- what is known of a stage

-- how many calls are read at a stage
abbrev pub calls_at : Stage → ℕ
calls_at reading = 0
calls_at (in_batch calls) = length calls
calls_at in_closing = 0
calls_at at_end = 0

-- what the reader promises of a stage: from a place after so many newlines and calls to another
abbrev pub Reads : Stage → Start → ℕ → ℕ → ℕ → ℕ → List ℕ → List ℕ → Type 0
Reads reading start m total next total2 xs ys = ⊤
Reads (in_batch calls) start m total next total2 xs ys = IsNextBatch (log_said start.retries start.procs.procs m total xs) calls (log_said start.retries start.procs.procs next total2 ys)
Reads in_closing start m total next total2 xs ys = IsEnd (log_said start.retries start.procs.procs m total xs) × (ys ≡ [])
Reads at_end start m total next total2 xs ys = IsEnd (log_said start.retries start.procs.procs m total xs) × (ys ≡ [])

-- at the end of a log
pub reads_end : (stage : Stage) (start : Start) (m total next total2 : ℕ) (xs ys : List ℕ) → HasReadAll stage → IsEnd (log_said start.retries start.procs.procs m total xs) × (ys ≡ []) →
    Reads stage start m total next total2 xs ys
reads_end reading start m total next total2 xs ys all h = absurd all
reads_end (in_batch calls) start m total next total2 xs ys all h = absurd all
reads_end in_closing start m total next total2 xs ys all h = h
reads_end at_end start m total next total2 xs ys all h = h

pub none_at_end : (stage : Stage) (total total2 : ℕ) → HasReadAll stage → total2 ≡ total + 0 → total2 ≡ total + calls_at stage
none_at_end reading total total2 all e = absurd all
none_at_end (in_batch calls) total total2 all e = absurd all
none_at_end in_closing total total2 all e = e
none_at_end at_end total total2 all e = e

taken_at : (stage : Stage) (start : Start) (m total next total2 : ℕ) (ran : List (List Call)) (bytes taken rest xs : List ℕ) →
    xs ≡ taken ++ rest → m ≡ line_number (newlines_in bytes) → total ≡ call_count ran → next ≡ line_number (newlines_in (bytes ++ taken)) → total2 ≡ total + calls_at stage →
    Reads stage start m total next total2 xs rest → IsTakenAt stage start ran bytes taken rest
taken_at reading start m total next total2 ran bytes taken rest xs e0 e1 e2 e3 e4 h = tt
taken_at (in_batch calls) start m total next total2 ran bytes taken rest xs e0 e1 e2 e3 e4 h =
    let counted : total2 ≡ call_count (ran ++ calls ∷ []) = e4 ∙ ap (λ n. n + length calls) e2 ∙ sym (calls_grown ran calls) in
    rw (e0, e1, e2, e3, counted) at h
taken_at in_closing start m total next total2 ran bytes taken rest xs e0 e1 e2 e3 e4 h = rw (e0, e1, e2) at h
taken_at at_end start m total next total2 ran bytes taken rest xs e0 e1 e2 e3 e4 h = rw (e0, e1, e2) at h

-- ---- where a run stopped

stopped_known : (stage : Stage) (start : Start) (failed : Bool) (m total next total2 line : ℕ) (ran closers : List (List Call)) (log xs ys bytes taken : List ℕ) (sink filled : Option (List ℕ)) →
    After start m total ran log xs → log ≡ bytes ++ xs → xs ≡ taken ++ ys →
    m ≡ line_number (newlines_in bytes) → next ≡ line_number (newlines_in (bytes ++ taken)) → total ≡ call_count ran → total2 ≡ total + calls_at stage →
    TakesCalls start.retries start.procs.procs total failed xs ys → Reads stage start m total next total2 xs ys → HaveClosed stage start ran closers →
    AppendsAndFront sink filled (texts_of start (ran ++ closers)) (text_at stage start (ran ++ closers)) → line ≡ line_after failed (bytes ++ taken) →
    IsStoppedAt stage start failed log sink filled line
stopped_known stage start failed m total next total2 line ran closers log xs ys bytes taken sink filled g e f en ex et ec takes reads closed written line_is =
    let after : After start (line_number (newlines_in bytes)) (call_count ran) ran log (taken ++ ys) = rw (f, en, et) at g in
    record {
      reported = ran;
      closers = closers;
      bytes = bytes;
      taken = taken;
      rest = ys;
      whole = e ∙ ap (λ x. bytes ++ x) f;
      batches = after.batches;
      fault = after.fault;
      calls = rw (f, et) at takes;
      at = taken_at stage start m total next total2 ran bytes taken ys xs f en et ex ec reads;
      closed = closed;
      written = written;
      line_is = line_is;
    }

-- a run stopped after the batches so far, after one more call of the reader
pub SoFar-stopped : (stage : Stage) (failed : Bool) (start : Start) (m total next total2 line : ℕ) (engine : EngineParts) (transcript : Transcript) (closers : List (List Call))
    (left now after taken gave given : Option (List ℕ)) (p q : Position) →
    (s : SoFar start m total engine transcript left now taken gave) → Moves left now nothing_taken p → Moves now after p q → m ≡ p.newlines → next ≡ q.newlines →
    total2 ≡ total + calls_at stage → Passes (TakesCalls start.retries start.procs.procs total failed) now after → Passes (Reads stage start m total next total2) now after →
    HaveClosed stage start s.ran closers →
    AppendsAndFront taken given (texts_of start (s.ran ++ closers)) (text_at stage start (s.ran ++ closers)) → line ≡ line_at failed q →
    IfSome left (λ log. IsStoppedAt stage start failed log taken given line)
unfolding Passes
SoFar-stopped stage failed start m total next total2 line engine transcript closers None now after taken gave given p q s h t em en ec takes reads closed written line_is = tt
SoFar-stopped stage failed start m total next total2 line engine transcript closers (Some log) None after taken gave given p q s h t em en ec takes reads closed written line_is = absurd h.takes.0
SoFar-stopped stage failed start m total next total2 line engine transcript closers (Some log) (Some xs) None taken gave given p q s h t em en ec takes reads closed written line_is = absurd t.takes.0
SoFar-stopped stage failed start m total next total2 line engine transcript closers (Some log) (Some xs) (Some ys) taken gave given p q s h t em en ec takes reads closed written line_is =
    let all : Moves (Some log) (Some ys) nothing_taken q = Moves-trans (Some log) (Some xs) (Some ys) nothing_taken p q h t in
    let same : all.bytes ≡ h.bytes ++ t.bytes = joined_bytes log xs ys h.bytes t.bytes all.bytes h.takes.0 t.takes.0 all.takes.0 in
    let newlines : q.newlines ≡ line_number (newlines_in (h.bytes ++ t.bytes)) = ap (λ (r : Position). r.newlines) all.takes.1 ∙ newlines_after all.bytes ∙ ap (λ l. line_number (newlines_in l)) same in
    let begun : q.begun ≡ last_line (h.bytes ++ t.bytes) = ap (λ (r : Position). r.begun) all.takes.1 ∙ begun_after all.bytes ∙ ap last_line same in
    stopped_known stage start failed m total next total2 line s.ran closers log xs ys h.bytes t.bytes taken given s.after h.takes.0 t.takes.0
    (em ∙ ap (λ (r : Position). r.newlines) h.takes.1 ∙ newlines_after h.bytes) (en ∙ newlines) s.total_is ec takes reads closed
    written (line_is ∙ line_of_bytes failed q (h.bytes ++ t.bytes) newlines begun)

-- ---- the text of each stage

nothing_at : (gave : Option (List ℕ)) → AppendsFront gave gave []
nothing_at gave = ([], [], refl, Appends-nil gave)

-- nothing closes a log that isn't read to its end
none_closed : (start : Start) (stage : Stage) (ran : List (List Call)) (sink filled : Option (List ℕ)) →
    AppendsAndFront sink filled (texts_of start ran) (text_at stage start ran) →
    AppendsAndFront sink filled (texts_of start (ran ++ [])) (text_at stage start (ran ++ []))
none_closed start stage ran sink filled h =
    let P : List (List Call) → Type 0 = λ bs. AppendsAndFront sink filled (texts_of start bs) (text_at stage start bs) in subst P (sym (append-nil ran)) h

-- a run that stopped in reading
pub SoFar-stopped_reading : (failed : Bool) (start : Start) (m total next line : ℕ) (engine : EngineParts) (transcript : Transcript) (left now after taken gave : Option (List ℕ)) (p q : Position) →
    (s : SoFar start m total engine transcript left now taken gave) → Moves left now nothing_taken p → Moves now after p q → m ≡ p.newlines → next ≡ q.newlines →
    Passes (TakesCalls start.retries start.procs.procs total failed) now after → line ≡ line_at failed q → IfSome left (λ log. IsStoppedAt reading start failed log taken gave line)
SoFar-stopped_reading failed start m total next line engine transcript left now after taken gave p q s h t em en takes line_is =
    SoFar-stopped reading failed start m total next total line engine transcript [] left now after taken gave gave p q s h t em en (plus_none total)
    takes (Passes-weaken _ _ now after takes (λ x y z. tt)) refl (none_closed start reading s.ran taken gave (gave, s.reported.text_is, nothing_at gave)) line_is
  where
    plus_none : (n : ℕ) → n ≡ n + 0
    plus_none n = omega arith

-- a run that stopped in a batch of its log
pub SoFar-stopped_in_batch : (start : Start) (m total next total2 line : ℕ) (calls : List Call) (engine : EngineParts) (transcript : Transcript)
    (left now after taken gave given : Option (List ℕ)) (p q : Position) →
    (s : SoFar start m total engine transcript left now taken gave) → Moves left now nothing_taken p → Moves now after p q → m ≡ p.newlines → next ≡ q.newlines →
    total2 ≡ total + length calls → Passes (TakesCalls start.retries start.procs.procs total false) now after →
    Passes (λ xs ys. IsNextBatch (log_said start.retries start.procs.procs m total xs) calls (log_said start.retries start.procs.procs next total2 ys)) now after →
    AppendsFront gave given (due_text engine transcript calls) → line ≡ q.begun →
    IfSome left (λ log. IsStoppedAt (in_batch calls) start false log taken given line)
SoFar-stopped_in_batch start m total next total2 line calls engine transcript left now after taken gave given p q s h t em en ec takes reads front line_is =
    SoFar-stopped (in_batch calls) false start m total next total2 line engine transcript [] left now after taken gave given p q s h t em en ec takes reads refl
    (none_closed start (in_batch calls) s.ran taken given (gave, s.reported.text_is, rw (next_text_is start s.ran calls engine transcript taken gave s.reported) at front)) line_is

-- a run that stopped before anything was read
pub nothing_stopped : (start : Start) (left taken : Option (List ℕ)) → IfSome left (λ log. IsStoppedAt reading start false log taken taken 0)
nothing_stopped start None taken = tt
nothing_stopped start (Some log) taken =
    stopped_known reading start false 0 0 0 0 0 [] [] log log log [] [] taken taken (After-start start log) refl refl refl refl refl refl
    (TakesCalls-none start.procs.procs 0 false log (omega arith)) tt refl (taken, Appends-nil taken, nothing_at taken) refl

-- ---- the fault that it stopped with

pub stop_of_machine : (stage : Stage) (failed : Bool) (fault : RunFault) (start : Start) (left taken given : Option (List ℕ)) (line : ℕ) →
    IsMachineFault line fault → IsEndedBy stage failed fault → IfSome left (λ log. IsStoppedAt stage start failed log taken given line) →
    IfOfMachine fault (λ at. IfSome left (λ log. IsStop start failed fault log taken given at))
stop_of_machine stage failed fault start left taken given line h ends stopped =
    at_line fault line (λ at. IfSome left (λ log. IsStop start failed fault log taken given at)) h (known left stopped)
  where
    known : (left : Option (List ℕ)) → IfSome left (λ log. IsStoppedAt stage start failed log taken given line) → IfSome left (λ log. IsStop start failed fault log taken given line)
    known None stopped = tt
    known (Some log) stopped = (stage, ends, stopped)
