use Rattle.std.proofs.Common.{◌≡◌, ◌∙◌, ◌+◌, false, rules, refl, sym, ap, arith}
use Rattle.std.proofs.lemmas.Result.{IfErr-weaker}
use Rattle.devices.specs.LineReader.{Position}
use Rattle.requests.specs.ProcLists.{ProcsParts}
use Rattle.batch_log.specs.Faults.{is_io}
use Rattle.batch_log.specs.Log.{most_calls}
use Rattle.batch_log.specs.Reader.{calls_read, came, newlines_taken, position_of, retries_of}
use Rattle.batch_log.proofs.Moves.{Moves-none, Moves-trans}
use Rattle.running.specs.Standings.{standing_of}
use Rattle.running.specs.Stopped.{in_batch}
use Rattle.running.proofs.Reported.{log_after, room_in_log}
use Rattle.running.proofs.SoFar.{SoFar-start, SoFar-next}
use Rattle.running.proofs.Stopped.{SoFar-stopped_in_batch, SoFar-stopped_reading}
use Rattle.running.proofs.Stopping.{nothing_taken}
use Rattle.running.proofs.Following.{left_between, none_ended}
use Rattle.running.proofs.RunEnds.{or_nothing, rows_at_end, run_closes, run_faults, run_stops}
use Rattle.running.proofs.Runs.{keeps_on, keeps_still}
use Rattle.running.proofs.log.run_reader.Goals as goal

pub batches-init : goal.batches-init
batches-init g c = record {
  idle = c.requires.fresh.0;
  same = refl;
  setting = keeps_still _;
  retries = c.requires.unread.retries_are;
  no_fault = c.requires.unread.fault;
  moves = rw c.requires.unread.position (Moves-none _ nothing_taken);
  goes_on = c.requires.unread.goes_on;
  source_works = refl;
  sink_works = refl;
  digest = search rules;
  so_far = SoFar-start _ _ _ _ _ _ _ _ (ap (λ (p : Position). p.newlines) c.requires.unread.position) c.requires.unread.calls refl c.requires.fresh.1 c.observe_fresh.ensures.none c.new-transcript.ensures.batch c.new-transcript.ensures.said c.new-transcript.ensures.form;
}

pub close-requires-clause-between : goal.close-requires-clause-between
close-requires-clause-between g c =
    let s = c.batches.invariant.so_far in
    let total : calls_read c.next_batch.new.self ≡ calls_read c.batches.reader + 0 = rw c.in-Ok-None.field-0-is at c.in-Ok-None.ensures.counted.0 in
    let most : most_calls (retries_of c.next_batch.new.self) ≡ most_calls c.args.engine.now.core.retries = ap most_calls (c.next_batch.ensures.same.1 ∙ c.batches.invariant.retries) in
    record {
      idle = c.batches.invariant.idle;
      digest_kept = c.batches.invariant.digest;
      log = ∣ rw s.reported.retries_are (log_after _ (calls_read c.batches.reader) _ (standing_of c.batches.engine.core) _ s.ran s.reported.standing_is s.total_is (omega (arith, total, c.next_batch.ensures.counted.1)) most) ∣₁;
    }

pub returns-in-Ok-None-clause-run : goal.returns-in-Ok-None-clause-run
returns-in-Ok-None-clause-run g c =
    let s = c.batches.invariant.so_far in
    let pe : c.procs.result.now ≡ c.args.engine.now.core.procs = c.procs.ensures ∙ s.reported.procs_are in
    run_closes c.close.result _ _ _ (newlines_taken c.next_batch.new.self) (calls_read c.next_batch.new.self) c.last_line-last.result _ _ _ _ _ _ _ _ (came c.next_batch.new.self)
    (position_of c.batches.reader) (position_of c.next_batch.new.self) _ _ _ _ _ s (c.close.ensures.closed _ s.ran _ s.reported)
    (rw (pe, c.batches.invariant.retries) at ((rw c.in-Ok-None.field-0-is at c.in-Ok-None.ensures.end) refl)) (rw (pe, c.batches.invariant.retries) at c.in-Ok-None.ensures.taken.0)
    refl refl (rw c.in-Ok-None.field-0-is at c.in-Ok-None.ensures.counted.0) c.batches.invariant.moves c.next_batch.ensures.taken.1 (Moves-trans _ _ _ _ _ _ c.batches.invariant.moves c.next_batch.ensures.taken.1)
    (IfErr-weaker c.close.result _ _ (λ e h. h.0) c.close.ensures.stops) ((c.in-Ok-None.ensures.tells c.batches.invariant.no_fault).fails ∙ sym (or_nothing _) ∙ c.batches.invariant.source_works) c.batches.invariant.sink_works c.close.ensures.fails
    c.last_line-last.ensures

pub returns-in-Ok-None-clause-same : goal.returns-in-Ok-None-clause-same
returns-in-Ok-None-clause-same g c = (c.next_batch.ensures.same.0 ∙ c.batches.invariant.same, keeps_on _ _ _ c.batches.invariant.setting c.close.ensures.same)

pub returns-in-Ok-None-clause-threads : goal.returns-in-Ok-None-clause-threads
returns-in-Ok-None-clause-threads g c = IfErr-weaker c.close.result _ _ (λ e h. h.1) c.close.ensures.stops

pub returns-in-Ok-None-clause-rows : goal.returns-in-Ok-None-clause-rows
returns-in-Ok-None-clause-rows g c =
    let s = c.batches.invariant.so_far in
    let pe : c.procs.result.now ≡ c.args.engine.now.core.procs = c.procs.ensures ∙ s.reported.procs_are in
    rows_at_end c.close.result _ _ _ c.batches.engine.core c.close.new.engine.core _ _ _ _ _ _ s (c.close.ensures.rows _ s.ran _ s.reported)
    (rw (pe, c.batches.invariant.retries) at ((rw c.in-Ok-None.field-0-is at c.in-Ok-None.ensures.end) refl))

pub returns-in-Err-clause-same : goal.returns-in-Err-clause-same
returns-in-Err-clause-same g c = (c.next_batch.ensures.same.0 ∙ c.batches.invariant.same, c.batches.invariant.setting)

pub returns-in-Err-run_batch-clause-same : goal.returns-in-Err-run_batch-clause-same
returns-in-Err-run_batch-clause-same g c = (c.next_batch.ensures.same.0 ∙ c.batches.invariant.same, keeps_on _ _ _ c.batches.invariant.setting c.run_batch.ensures.same)

pub returns-in-Err-clause-run : goal.returns-in-Err-clause-run
returns-in-Err-clause-run g c =
    let s = c.batches.invariant.so_far in
    let pe : c.procs.result.now ≡ c.args.engine.now.core.procs = c.procs.ensures ∙ s.reported.procs_are in
    run_faults c.in-Err.fault _ _ _ _ _ _ _ _ _ _ (came c.next_batch.new.self) (position_of c.next_batch.new.self) _ _ _ _ _ s
    (rw (pe, c.batches.invariant.retries) at (c.in-Err.ensures.fault c.batches.invariant.no_fault)) ((c.in-Err.ensures.tells c.batches.invariant.no_fault).place) ((c.in-Err.ensures.tells c.batches.invariant.no_fault).spent)
    c.batches.invariant.source_works ((c.in-Err.ensures.tells c.batches.invariant.no_fault).fails) c.batches.invariant.sink_works (Moves-trans _ _ _ _ _ _ c.batches.invariant.moves c.next_batch.ensures.taken.1)
    (SoFar-stopped_reading (is_io c.in-Err.fault.kind) _ _ _ _ _ _ _ _ _ _ _ _ _ _ s c.batches.invariant.moves c.next_batch.ensures.taken.1 refl refl
    (rw (pe, c.batches.invariant.retries) at c.in-Err.ensures.taken.0) ((c.in-Err.ensures.tells c.batches.invariant.no_fault).place))

pub run_batch-requires-clause-due : goal.run_batch-requires-clause-due
run_batch-requires-clause-due g c =
    let s = c.batches.invariant.so_far in
    let most : most_calls (retries_of c.next_batch.new.self) ≡ most_calls c.args.engine.now.core.retries = ap most_calls (c.next_batch.ensures.same.1 ∙ c.batches.invariant.retries) in
    record {
      over = rw (ap (λ (p : ProcsParts). p.tables) c.procs.ensures) at (rw c.in-Ok-Some.field-0-is at c.in-Ok-Some.ensures.batch).1;
      few = (rw c.in-Ok-Some.field-0-is at c.in-Ok-Some.ensures.batch).2;
      idle = c.batches.invariant.idle;
      room = room_in_log c.args.engine.now.core.retries (calls_read c.batches.reader) (calls_read c.next_batch.new.self) _ (standing_of c.batches.engine.core) _ s.ran c.in-Ok-Some.requests.items s.reported.standing_is c.observe_fresh.ensures.few s.total_is
          (rw c.in-Ok-Some.field-0-is at c.in-Ok-Some.ensures.counted.0) c.next_batch.ensures.counted.1 most;
      digest_kept = c.batches.invariant.digest;
    }

pub batches-preserved-in-Ok : goal.batches-preserved-in-Ok
batches-preserved-in-Ok g c =
    let s = c.batches.invariant.so_far in
    let pe : c.procs.result.now ≡ c.args.engine.now.core.procs = c.procs.ensures ∙ s.reported.procs_are in
    record {
      idle = c.in-Ok.ensures.reported.0.idle;
      same = search rules;
      setting = keeps_on _ _ _ c.batches.invariant.setting c.in-Ok.ensures.same;
      retries = c.next_batch.ensures.same.1 ∙ c.batches.invariant.retries;
      no_fault = search rules;
      moves = Moves-trans _ _ _ _ _ _ c.batches.invariant.moves c.next_batch.ensures.taken.1;
      goes_on = search rules;
      source_works = (c.in-Ok-Some.ensures.tells c.batches.invariant.no_fault).fails ∙ sym (or_nothing _) ∙ c.batches.invariant.source_works;
      sink_works = c.in-Ok.ensures.fails ∙ sym (or_nothing _) ∙ c.batches.invariant.sink_works;
      digest = c.in-Ok.ensures.kept.0;
      so_far = SoFar-next _ _ _ _ _ _ _ _ _ _ _ _ _ _ _ _ s (rw (pe, c.batches.invariant.retries) at (rw c.in-Ok-Some.field-0-is at c.in-Ok-Some.ensures.batch).0)
          (rw c.in-Ok-Some.field-0-is at c.in-Ok-Some.ensures.counted.0) c.in-Ok.ensures.same.procs c.in-Ok.ensures.same.retries c.in-Ok.ensures.kept.1 c.in-Ok.ensures.reported.0;
    }

pub returns-in-Err-run_batch-clause-run : goal.returns-in-Err-run_batch-clause-run
returns-in-Err-run_batch-clause-run g c =
    let s = c.batches.invariant.so_far in
    let pe : c.procs.result.now ≡ c.args.engine.now.core.procs = c.procs.ensures ∙ s.reported.procs_are in
    run_stops (in_batch c.in-Ok-Some.requests.items) c.in-Err-run_batch.fault _ _ _ _ _ (came c.next_batch.new.self) (position_of c.next_batch.new.self) c.last_line-line.result _ _ _ _ _
    c.in-Err-run_batch.ensures.stops.0 refl ((c.in-Ok-Some.ensures.tells c.batches.invariant.no_fault).fails ∙ sym (or_nothing _) ∙ c.batches.invariant.source_works) c.batches.invariant.sink_works
    c.in-Err-run_batch.ensures.fails c.last_line-line.ensures (Moves-trans _ _ _ _ _ _ c.batches.invariant.moves c.next_batch.ensures.taken.1)
    (SoFar-stopped_in_batch _ _ _ (newlines_taken c.next_batch.new.self) (calls_read c.next_batch.new.self) c.last_line-line.result c.in-Ok-Some.requests.items _ _ _ _ _ _ _ _
    (position_of c.batches.reader) (position_of c.next_batch.new.self) s c.batches.invariant.moves c.next_batch.ensures.taken.1 refl refl
    (rw c.in-Ok-Some.field-0-is at c.in-Ok-Some.ensures.counted.0) (rw (pe, c.batches.invariant.retries) at c.in-Ok-Some.ensures.taken.0)
    (rw (pe, c.batches.invariant.retries) at (rw c.in-Ok-Some.field-0-is at c.in-Ok-Some.ensures.batch).0) c.run_batch.ensures.front c.last_line-line.ensures)

-- ---- the end of a feed

pub returns-in-Err-clause-followed : goal.returns-in-Err-clause-followed
returns-in-Err-clause-followed g c = λ ended.
    let s = c.batches.invariant.so_far in
    let pe : c.procs.result.now ≡ c.args.engine.now.core.procs = c.procs.ensures ∙ s.reported.procs_are in
    let tells = c.in-Err.ensures.tells c.batches.invariant.no_fault in
    left_between _ _ _ _ _ _ _ _ _ _ (came c.next_batch.new.self) (position_of c.batches.reader) (position_of c.next_batch.new.self) (is_io c.in-Err.fault.kind) s c.batches.invariant.idle
    c.batches.invariant.moves c.next_batch.ensures.taken.1 refl (rw (pe, c.batches.invariant.retries) at c.in-Err.ensures.taken.0) tells.spent (tells.end c.batches.invariant.goes_on ended).0

pub returns-in-Err-clause-feed : goal.returns-in-Err-clause-feed
returns-in-Err-clause-feed g c = λ ended. ((c.in-Err.ensures.tells c.batches.invariant.no_fault).end c.batches.invariant.goes_on ended).1

pub returns-in-Err-run_batch-clause-followed : goal.returns-in-Err-run_batch-clause-followed
returns-in-Err-run_batch-clause-followed g c = λ ended.
    none_ended false _ _ ((c.in-Ok-Some.ensures.tells c.batches.invariant.no_fault).end c.batches.invariant.goes_on) refl ended

pub returns-in-Err-run_batch-clause-feed : goal.returns-in-Err-run_batch-clause-feed
returns-in-Err-run_batch-clause-feed g c = λ ended.
    none_ended false _ _ ((c.in-Ok-Some.ensures.tells c.batches.invariant.no_fault).end c.batches.invariant.goes_on) refl ended

pub returns-in-Ok-None-clause-followed : goal.returns-in-Ok-None-clause-followed
returns-in-Ok-None-clause-followed g c = λ ended.
    none_ended false _ _ ((c.in-Ok-None.ensures.tells c.batches.invariant.no_fault).end c.batches.invariant.goes_on) refl ended

pub returns-in-Ok-None-clause-feed : goal.returns-in-Ok-None-clause-feed
returns-in-Ok-None-clause-feed g c = λ ended.
    none_ended false _ _ ((c.in-Ok-None.ensures.tells c.batches.invariant.no_fault).end c.batches.invariant.goes_on) refl ended
