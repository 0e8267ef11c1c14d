-- How a run ends, and what came of it.
use Rattle.std.proofs.Common.{◌≡◌, ℕ, ◌+◌, ◌||◌, List, [], length, Bool, true, false, Option, Some, None, Result, Ok, Err, IfErr, OnOk, refl, sym, ◌∙◌, ap}
use Rattle.std.specs.Option.{IfSome}
use Rattle.std.specs.Io.KnownBytes.{prepend_known, Appends}
use Rattle.std.proofs.lemmas.List.{append-nil}
use Rattle.devices.specs.Devices.{AppendsFront, Passes}
use Rattle.devices.specs.LineReader.{Position}
use Rattle.devices.proofs.Passing.{left_at_end, Passes-first, Passes-trans, Passes-weaken}
use Rattle.requests.specs.Requests.{Call}
use Rattle.batch_log.specs.declared.fault.LogFaultKind.TheVariants.{Memory}
use Rattle.batch_log.specs.declared.fault.LogFault.{LogFault}
use Rattle.batch_log.specs.Faults.{is_io, line_named, IsOfLine}
use Rattle.batch_log.specs.Log.{log_said, IsEnd, IsFault}
use Rattle.batch_log.specs.Moves.{Moves}
use Rattle.batch_log.proofs.Moves.{Moves-none}
use Rattle.batch_log.specs.Taken.{TakesCalls}
use Rattle.report_text.specs.Report.{all_transactions}
use Rattle.retries.specs.Standings.{in_turn, start_of}
use Rattle.retries.proofs.Serial.{next_is}
use Rattle.engine.specs.Engines.{EngineParts}
use Rattle.running.specs.Standings.{standing_after}
use Rattle.running.specs.declared.run_fault.RunFault.{RunFault}
use Rattle.running.specs.declared.run_fault.RunFault.TheVariants as runs
use Rattle.running.specs.declared.transcript.Transcript.{Transcript}
use Rattle.running.specs.Reported.{with_closing, IsClosing}
use Rattle.running.specs.Reports.{batches_in, log_fault, report_of, rows_after}
use Rattle.running.specs.Runs.{device_with, Device, IsRunOfLog}
use Rattle.running.specs.Stops.{ends_in_io, is_of_device, IsMachineFault}
use Rattle.running.specs.Starts.{Start}
use Rattle.running.specs.Stopped.{IsEndedBy, IsStoppedAt, reading, Stage}
use Rattle.running.proofs.Fronts.{front_of_stopped}
use Rattle.running.proofs.SoFar.{calls_at_end, report_at_end, report_at_fault, SoFar}
use Rattle.running.proofs.Stopped.{none_at_end, nothing_stopped, reads_end, stop_of_machine, SoFar-stopped}
use Rattle.running.proofs.Stopping.{at_line, line_begun_is, line_of_fault, none_before, not_of_line, or_read, or_write, nothing_taken}

pub or_nothing : (k : Bool) → k ≡ (k || false)
or_nothing true = refl
or_nothing false = refl

-- ---- a fault ends a run

-- a fault of a machine, with the reader after a batch
pub run_stops : (stage : Stage) (e : RunFault) (start : Start) (left last taken given : Option (List ℕ)) (came : List ℕ) (at : Position) (line : ℕ) (f f2 k mid k2 : Bool) →
    IsMachineFault line e → IsEndedBy stage false e → f2 ≡ f → mid ≡ k → k2 ≡ (mid || is_of_device e) → line ≡ at.begun → Moves left (prepend_known came last) nothing_taken at →
    IfSome left (λ log. IsStoppedAt stage start false log taken given line) →
    IsRunOfLog start (device_with left f) (device_with last f2) (device_with taken k) (device_with given k2) (Err e)
run_stops stage e start left last taken given came at line f f2 k mid k2 stops ends same_f same_k fails begun moves stopped = record {
  count = tt;
  sound = tt;
  read = tt;
  ok = tt;
  fault = not_of_line e line _ stops;
  until = not_of_line e line _ stops;
  front = front_of_stopped stage start false left taken given line stopped;
  devices = rw same_f (or_write f k k2 (is_of_device e) (fails ∙ ap (λ x. x || is_of_device e) same_k));
  line = λ works. at_line e line _ stops (line_begun_is f2 left last came at line (same_f ∙ works) begun moves);
  stop = λ works. rw (same_f ∙ works) (stop_of_machine stage false e start left taken given line stops ends stopped);
}

-- it is the log's first, and the report up to it was written
fault_of_line : (fault : LogFault) (start : Start) (m total : ℕ) (engine : EngineParts) (transcript : Transcript) (left now after taken gave : Option (List ℕ)) →
    SoFar start m total engine transcript left now taken gave → Passes (λ xs ys. IsFault (log_said start.retries start.procs.procs m total xs) fault) now after →
    IfSome left (λ log. log_fault start log ≡ Some fault) × IfSome left (λ log. Appends taken gave (report_of start log))
fault_of_line fault start m total engine transcript left now after taken gave s p =
    let P : List ℕ → List ℕ → Type 0 = λ x y. (log_fault start x ≡ Some fault) × Appends taken gave (report_of start x) in
    let joined : Passes P left after = Passes-trans _ _ P left now after s.after p
    (λ x y z g h. (g.fault ∙ h.first, rw (report_at_fault start m total s.ran x y fault g h) s.reported.text_is)) in
    (Passes-first P _ left after joined (λ x y g. g.0), Passes-first P _ left after joined (λ x y g. g.1))

-- the reader ended with a fault
pub run_faults : (fault : LogFault) (start : Start) (m total : ℕ) (engine : EngineParts) (transcript : Transcript)
    (left now last taken gave : Option (List ℕ)) (came : List ℕ) (at : Position) (f mid f2 k k2 : Bool) →
    SoFar start m total engine transcript left now taken gave →
    (IsOfLine fault.kind → Passes (λ xs ys. IsFault (log_said start.retries start.procs.procs m total xs) fault) now (prepend_known came last)) →
    fault.line ≡ line_named fault.kind at → (is_io fault.kind ≡ true → came ≡ []) → mid ≡ f → f2 ≡ (mid || is_io fault.kind) → k2 ≡ k → Moves left (prepend_known came last) nothing_taken at →
    IfSome left (λ log. IsStoppedAt reading start (is_io fault.kind) log taken gave fault.line) →
    IsRunOfLog start (device_with left f) (device_with last f2) (device_with taken k) (device_with gave k2) (Err (runs.Log fault))
run_faults fault start m total engine transcript left now last taken gave came at f mid f2 k k2 s first place spent same_f fails same_k moves stopped =
    let failed : f2 ≡ (f || is_io fault.kind) = fails ∙ ap (λ x. x || is_io fault.kind) same_f in
    record {
      count = tt;
      sound = tt;
      read = tt;
      ok = tt;
      fault = λ of. (fault_of_line fault start m total engine transcript left now (prepend_known came last) taken gave s (first of)).0;
      until = λ of. (fault_of_line fault start m total engine transcript left now (prepend_known came last) taken gave s (first of)).1;
      front = front_of_stopped reading start (is_io fault.kind) left taken gave fault.line stopped;
      devices = rw same_k (or_read f k f2 (is_io fault.kind) failed);
      line = λ works. λ _. line_of_fault fault.kind f2 left last came at fault.line (failed ∙ ap (λ x. x || is_io fault.kind) works) place spent moves;
      stop = λ works of.
          rw (failed ∙ ap (λ x. x || is_io fault.kind) works) (stop_of_machine reading (is_io fault.kind) (runs.Log fault) start left taken gave fault.line (of, refl) (refl, tt) stopped of);
    }

-- memory was refused before anything was read
pub nothing_run : (e : RunFault) (start : Start) (left taken : Option (List ℕ)) (f k : Bool) → e ≡ runs.Log (record { kind = Memory; line = 0 }) →
    IsRunOfLog start (device_with left f) (device_with left f) (device_with taken k) (device_with taken k) (Err e)
nothing_run e start left taken f k is =
    let none : Moves left (prepend_known [] left) nothing_taken nothing_taken = rw (none_before left) (Moves-none left nothing_taken) in
    rw is (run_stops reading (runs.Log (record { kind = Memory; line = 0 })) start left left taken taken [] nothing_taken 0 f f k k k (tt, refl) (refl, tt) refl refl (or_nothing k) refl none
    (nothing_stopped start left taken))

-- ---- the log was closed

-- what is known of the log where all of it was read and closed
closed_well : (n : ℕ) (start : Start) (m total : ℕ) (engine : EngineParts) (transcript : Transcript) (left now after taken gave given : Option (List ℕ)) →
    (s : SoFar start m total engine transcript left now taken gave) → IsClosing start s.ran taken given (Ok n) →
    Passes (λ xs ys. IsEnd (log_said start.retries start.procs.procs m total xs) × (ys ≡ [])) now after →
    Passes (λ x y. (n ≡ length (all_transactions (batches_in start x))) × (log_fault start x ≡ None) × Appends taken given (report_of start x) × (y ≡ [])) left after
closed_well n start m total engine transcript left now after taken gave given s h p =
    Passes-trans _ _ _ left now after s.after p (λ x y z g e. (
      h.count ∙ next_is start.retries start.rows (with_closing start s.ran)
          ∙ ap (λ (bs : List (List Call)). length (all_transactions (in_turn start.retries (start_of start.rows) bs))) (sym (calls_at_end start m total s.ran x y g e.0)),
      g.fault ∙ e.0.fault,
      rw (report_at_end start m total s.ran x y g e.0) h.text,
      e.1,
    ))

front_of_whole : (left taken given : Option (List ℕ)) (report : List ℕ → List ℕ) → IfSome left (λ log. Appends taken given (report log)) → IfSome left (λ log. AppendsFront taken given (report log))
front_of_whole None taken given report h = tt
front_of_whole (Some log) taken given report h = (report log, [], sym (append-nil (report log)), h)

-- all was read, and then the log was closed, or a fault stopped that
pub run_closes : (r : Result ℕ RunFault) (start : Start) (m total next total2 line : ℕ) (engine : EngineParts) (transcript : Transcript)
    (left now last taken gave given : Option (List ℕ)) (came : List ℕ) (p at : Position) (f f2 k mid k2 : Bool) →
    (s : SoFar start m total engine transcript left now taken gave) → IsClosing start s.ran taken given r →
    Passes (λ xs ys. IsEnd (log_said start.retries start.procs.procs m total xs) × (ys ≡ [])) now (prepend_known came last) → Passes (TakesCalls start.retries start.procs.procs total false) now (prepend_known came last) →
    m ≡ p.newlines → next ≡ at.newlines → total2 ≡ total + 0 → Moves left now nothing_taken p → Moves now (prepend_known came last) p at → Moves left (prepend_known came last) nothing_taken at →
    IfErr r (IsMachineFault line) → f2 ≡ f → mid ≡ k → k2 ≡ (mid || ends_in_io r) → line ≡ at.begun →
    IsRunOfLog start (device_with left f) (device_with last f2) (device_with taken k) (device_with given k2) r
run_closes (Ok n) start m total next total2 line engine transcript left now last taken gave given came p at f f2 k mid k2 s h end takes em en ec before after moves stops same_f same_k fails begun =
    let P : List ℕ → List ℕ → Type 0 = λ x y.
    (n ≡ length (all_transactions (batches_in start x))) × (log_fault start x ≡ None) × Appends taken given (report_of start x) × (y ≡ []) in
    let known : Passes P left (prepend_known came last) = closed_well n start m total engine transcript left now (prepend_known came last) taken gave given s h end in
    let ok : IfSome left (λ log. Appends taken given (report_of start log)) = Passes-first P _ left _ known (λ x y g. g.2) in
    record {
      count = Passes-first P _ left _ known (λ x y g. g.0);
      sound = Passes-first P _ left _ known (λ x y g. g.1);
      read = left_at_end P left last came known (λ x y g. g.3);
      ok = ok;
      fault = tt;
      until = tt;
      front = front_of_whole left taken given (report_of start) ok;
      devices = rw same_f (or_write f k k2 false (fails ∙ ap (λ x. x || false) same_k));
      line = λ works. tt;
      stop = λ works. tt;
    }
run_closes (Err e) start m total next total2 line engine transcript left now last taken gave given came p at f f2 k mid k2 s h end takes em en ec before after moves stops same_f same_k fails begun =
    let stage = h.stop.stage in
    let read = h.stop.all_read in
    let cut = h.stop.cut in
    run_stops stage e start left last taken given came at line f f2 k mid k2 stops cut.ends same_f same_k fails begun moves
    (SoFar-stopped stage false start m total next total2 line engine transcript cut.closers left now (prepend_known came last) taken gave given p at s before after em en
    (none_at_end stage total total2 read ec) takes
    (Passes-weaken _ _ now (prepend_known came last) end (λ xs ys e. reads_end stage start m total next total2 xs ys read e))
    cut.closed cut.written begun)

-- the rows are then those that the log leaves
pub rows_at_end : (r : Result ℕ RunFault) (start : Start) (m total : ℕ) (engine after : EngineParts) (transcript : Transcript) (left now last taken gave : Option (List ℕ)) →
    (s : SoFar start m total engine transcript left now taken gave) →
    OnOk r (after.rows ≡ (standing_after start (with_closing start s.ran)).rows) →
    Passes (λ xs ys. IsEnd (log_said start.retries start.procs.procs m total xs) × (ys ≡ [])) now last → OnOk r (IfSome left (λ log. after.rows ≡ rows_after start log))
rows_at_end (Ok n) start m total engine after transcript left now last taken gave s h end =
    let P : List ℕ → List ℕ → Type 0 = λ x y. after.rows ≡ rows_after start x in
    let known : Passes P left last = Passes-trans _ _ _ left now last s.after end
    (λ x y z g e. h ∙ ap (λ (bs : List (List Call)). (standing_after start bs).rows) (sym (calls_at_end start m total s.ran x y g e.0))) in
    Passes-first P _ left last known (λ x y g. g)
rows_at_end (Err e) start m total engine after transcript left now last taken gave s h end = tt

-- ---- the source of a reader

-- a run of a reader is one of the source that it reads
pub run_through : {T : Type 0} (start : Start) (bytes : T → Option (List ℕ)) (failed : T → Bool) (old given first last : T) (unread : Option (List ℕ)) (sink filled : Device) (r : Result ℕ RunFault) →
    IsRunOfLog start (device_with unread (failed first)) (device_with (bytes last) (failed last)) sink filled r →
    unread ≡ bytes old → first ≡ old → given ≡ last →
    IsRunOfLog start (device_with (bytes old) (failed old)) (device_with (bytes given) (failed given)) sink filled r
run_through start bytes failed old given first last unread sink filled r h u f e = rw e (rw (u, f) at h)
