-- What is left where a read of a log failed.
use Rattle.std.proofs.Common.{◌≡◌, ℕ, List, [], ◌++◌, Bool, true, false, Option, Some, None, Result, sym, subst, ◌∙◌, ap}
use Rattle.std.proofs.lemmas.Bool.{both_ways}
use Rattle.std.specs.Io.KnownBytes.{prepend_known}
use Rattle.devices.specs.Devices.{Passes}
use Rattle.devices.specs.Lines.{line_number, newlines_in}
use Rattle.devices.specs.LineReader.{IsFeedEnd, Origin, Position}
use Rattle.devices.proofs.Feeds.{failed_of_log, left_of_log}
use Rattle.batch_log.specs.declared.reader.LogReader.{LogReader}
use Rattle.batch_log.specs.Reader.{failed_in, left_in, origin_of, source_of, unread}
use Rattle.running.specs.declared.run_fault.RunFault.{RunFault}
use Rattle.running.specs.Runs.{device_with, Device, IsRunOfLog}
use Rattle.batch_log.specs.Moves.{Moves}
use Rattle.batch_log.specs.Taken.{TakesCalls}
use Rattle.retries.specs.Standings.{call_count}
use Rattle.engine.specs.Engines.{EngineParts, is_busy}
use Rattle.running.specs.declared.transcript.Transcript.{Transcript}
use Rattle.running.specs.Followed.{IsFollowedTo, LeavesBetween}
use Rattle.running.specs.Standings.{standing_of}
use Rattle.running.specs.Starts.{Start}
use Rattle.running.proofs.SoFar.{After, SoFar}
use Rattle.running.proofs.Stopping.{newlines_after, none_before, nothing_taken}

-- the reader was at a place, and read on until a read failed
between : (start : Start) (m total : ℕ) (engine : EngineParts) (transcript : Transcript) (left now last taken gave : Option (List ℕ)) (p q : Position) →
    SoFar start m total engine transcript left now taken gave → Moves left now nothing_taken p → Moves now last p q → m ≡ p.newlines →
    Passes (TakesCalls start.retries start.procs.procs total true) now last → Passes (IsFollowedTo start taken gave (standing_of engine)) left last
unfolding Passes
between start m total engine transcript None now last taken gave p q s h t em takes = tt
between start m total engine transcript (Some log) None last taken gave p q s h t em takes = absurd h.takes.0
between start m total engine transcript (Some log) (Some xs) None taken gave p q s h t em takes = absurd t.takes.0
between start m total engine transcript (Some log) (Some xs) (Some ys) taken gave p q s h t em takes =
    let en : m ≡ line_number (newlines_in h.bytes) = em ∙ ap (λ (r : Position). r.newlines) h.takes.1 ∙ newlines_after h.bytes in
    let read : xs ≡ t.bytes ++ ys = t.takes.0 in
    let after : After start (line_number (newlines_in h.bytes)) (call_count s.ran) s.ran log (t.bytes ++ ys) = rw (read, en, s.total_is) at s.after in
    record {
      reported = s.ran;
      bytes = h.bytes;
      taken = t.bytes;
      whole = h.takes.0 ∙ ap (λ x. h.bytes ++ x) read;
      batches = after.batches;
      fault = after.fault;
      calls = rw (read, s.total_is) at takes;
      written = s.reported.text_is;
      standing_is = s.reported.standing_is;
    }

-- a feed has ended
pub left_between : (start : Start) (m total : ℕ) (engine : EngineParts) (transcript : Transcript) (left now last taken gave : Option (List ℕ)) (came : List ℕ) (p q : Position) (io : Bool) →
    SoFar start m total engine transcript left now taken gave → is_busy engine ≡ false → Moves left now nothing_taken p → Moves now (prepend_known came last) p q → m ≡ p.newlines →
    Passes (TakesCalls start.retries start.procs.procs total io) now (prepend_known came last) → (io ≡ true → came ≡ []) → io ≡ true → LeavesBetween start left last taken gave engine
left_between start m total engine transcript left now last taken gave came p q io s idle h t em takes spent is =
    let none : prepend_known came last ≡ last = ap (λ c. prepend_known c last) (spent is) ∙ none_before last in
    record {
      idle = idle;
      followed = between start m total engine transcript left now last taken gave p q s h (rw none at t) em (rw (is, none) at takes);
    }

-- a feed that goes on has not ended
pub none_ended : {T : Type 0} (io ended : Bool) (left : Option (List ℕ)) → (ended ≡ true → IsFeedEnd io left) → io ≡ false → ended ≡ true → T
none_ended io ended left end e has = absurd (both_ways io e (end has).0)

-- a run of a reader of a log that is no feed is one of the source that it reads
pub run_of_source : {S : Type 0} (left : S → Option (List ℕ)) (failed : S → Bool) (start : Start) (reader spent : LogReader S) (sink filled : Device) (result : Result ℕ RunFault) (first given : S) →
    IsRunOfLog start (device_with (unread left reader) (failed_in failed reader)) (device_with (left_in left spent) (failed_in failed spent)) sink filled result →
    origin_of spent ≡ origin_of reader → (origin_of reader).is_feed ≡ false → unread left reader ≡ left first → source_of reader ≡ first → given ≡ source_of spent →
    IsRunOfLog start (device_with (left first) (failed first)) (device_with (left given) (failed given)) sink filled result
run_of_source left failed start reader spent sink filled result first given run same none unread_is begins gives =
    let still : spent.lines.is_feed ≡ false = ap (λ (o : Origin). o.is_feed) same ∙ none in
    let was : failed_in failed reader ≡ failed first = failed_of_log failed reader.lines none ∙ ap failed begins in
    let is : failed_in failed spent ≡ failed given = failed_of_log failed spent.lines still ∙ ap failed (sym gives) in
    let rest : left_in left spent ≡ left given = left_of_log left spent.lines still ∙ ap left (sym gives) in
    subst (λ (d : Device × Device). IsRunOfLog start d.0 d.1 sink filled result) (λ i. (device_with (unread_is i) (was i), device_with (rest i) (is i))) run
