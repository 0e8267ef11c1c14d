use Rattle.std.proofs.Common.{◌≡◌, ◌+◌, ◌++◌, [], ◌∷◌, append_assoc, ℕ, refl, ap, ◌∙◌, arith}
use Rattle.std.proofs.Math.Logic.{∥∥₁_map}
use Rattle.requests.specs.ProcLists.{ProcsParts}
use Rattle.batch_log.specs.declared.feed.LogFeed.{LogFeed}
use Rattle.batch_log.specs.Feeds.{place_of}
use Rattle.session.proofs.Rooms.{due_at, ready_after, waiting_few}
use Rattle.session.proofs.Runs.{front-next, front_keeps, on_both, on_ok_both, reported_next, stopped_in_batch, stopped_reading}
use Rattle.session.proofs.Told.{at-replies-begin, keeps_itself, replied_next, replied_still, run_keeps}
use Rattle.session.proofs.Turns.{at-begins}
use Rattle.session.proofs.work.Work.take_byte.Goals as goal

pub run-requires : goal.run-requires
run-requires c =
    let batch = rw c.in-Ok-Some.field-0-is at c.in-Ok-Some.ensures.counts in
    due_at c.args.self.now c.in-Ok-Some.calls.items c.requires.ready (rw batch.0 c.requires.ready.over) (rw batch.0 c.take.ensures.limits.0)
    (waiting_few c.args.self.now c.in-Ok-Some.calls.items batch.0)

pub returns-in-Ok-Some-clause-ready : goal.returns-in-Ok-Some-clause-ready
returns-in-Ok-Some-clause-ready c =
    let batch = rw c.in-Ok-Some.field-0-is at c.in-Ok-Some.ensures.counts in
    ready_after c.run.result c.args.self.now c.run.new.self _ c.in-Ok-Some.calls.items c.requires.ready c.run.ensures.feed batch c.take.ensures.limits.2 c.run.ensures.same _ _ c.run.ensures.reported

pub returns-in-Ok-Some-clause-taken : goal.returns-in-Ok-Some-clause-taken
returns-in-Ok-Some-clause-taken c = on_ok_both c.run.result _ _ _ c.run.ensures.reported c.run.ensures.replied
    (λ reported replied start fed drained passed h.
    let e : c.procs.result.now ≡ start.procs = c.procs.ensures ∙ h.reported.procs_are in
    let at = rw c.in-Ok-Some.field-0-is at ((rw e at c.in-Ok-Some.ensures.batch) h.ended fed h.at) in
    record {
      ended = h.ended ++ c.in-Ok-Some.calls.items ∷ [];
      limit = ap (λ (feed : LogFeed). (place_of feed).retries) c.run.ensures.feed ∙ c.take.ensures.limits.2 ∙ h.limit;
      at = rw c.run.ensures.feed at;
      reported = reported_next start h.ended c.in-Ok-Some.calls.items drained _ _ _ _ c.args.self.now.report c.run.new.self.report h.reported c.run.ensures.same c.run.ensures.form reported;
      replied = replied_next start h.ended c.in-Ok-Some.calls.items passed _ c.args.self.now.replies c.run.new.self.replies h.reported.standing_is h.replied replied;
    })

pub returns-in-Ok-Some-clause-fault : goal.returns-in-Ok-Some-clause-fault
returns-in-Ok-Some-clause-fault c = on_both c.run.result _ _ _ c.run.ensures.memory c.run.ensures.unreplied
    (λ fault kind same start fed drained more passed h.
    let e : c.procs.result.now ≡ start.procs = c.procs.ensures ∙ h.reported.procs_are in
    let at = rw c.in-Ok-Some.field-0-is at ((rw e at c.in-Ok-Some.ensures.batch) h.ended fed h.at) in
    stopped_in_batch start _ _ _ h.ended (h.ended ++ c.in-Ok-Some.calls.items ∷ []) fault kind (front-next start h.ended c.in-Ok-Some.calls.items drained _ _ c.args.self.now.report c.run.new.self.report h.reported c.run.ensures.front)
    (at-begins start _ _ (fed ++ c.args.byte ∷ []) more (c.take.ensures.limits.2 ∙ h.limit) at)
    (replied_still start h.ended passed c.args.self.now.replies c.run.new.self.replies h.replied same)
    (rw (append_assoc fed (c.args.byte ∷ []) more) (at-replies-begin start _ h.ended fed (c.args.byte ∷ more) h.limit h.at)))

pub returns-in-Ok-Some-clause-kept : goal.returns-in-Ok-Some-clause-kept
returns-in-Ok-Some-clause-kept c = front_keeps _ _ _ c.run.ensures.front

pub returns-in-Ok-None-clause-ready : goal.returns-in-Ok-None-clause-ready
returns-in-Ok-None-clause-ready c =
    let counted = rw c.in-Ok-None.field-0-is at c.in-Ok-None.ensures.counts in
    let was = c.requires.ready in
    record {
      over = rw (ap (λ (p : ProcsParts). p.tables) c.procs.ensures) at c.take.ensures.tables;
      limit = c.take.ensures.limits.2 ∙ was.limit;
      few = was.few;
      idle = was.idle;
      digest_kept = was.digest_kept;
      log = ∥∥₁_map was.log (λ log. record { db = log.db; ran = log.ran; standing_is = log.standing_is; counted = more _ _ _ _ _ log.counted counted });
    }
  where
    more : (ran calls total calls2 total2 : ℕ) → ran + calls ≡ total → total2 + calls ≡ total + calls2 → ran + calls2 ≡ total2
    more ran calls total calls2 total2 was counted = omega (arith, was, counted)

pub returns-in-Ok-None-clause-taken : goal.returns-in-Ok-None-clause-taken
returns-in-Ok-None-clause-taken c = λ start fed drained passed h.
    let e : c.procs.result.now ≡ start.procs = c.procs.ensures ∙ h.reported.procs_are in
    record {
      ended = h.ended;
      limit = c.take.ensures.limits.2 ∙ h.limit;
      at = (rw c.in-Ok-None.field-0-is at ((rw e at c.in-Ok-None.ensures.place) h.ended fed h.at)) refl;
      reported = h.reported;
      replied = h.replied;
    }

pub returns-in-Err-clause-fault : goal.returns-in-Err-clause-fault
returns-in-Err-clause-fault c = λ start fed drained more passed h.
    let e : c.procs.result.now ≡ start.procs = c.procs.ensures ∙ h.reported.procs_are in
    let faulty = (rw e at c.in-Err.ensures.fault) h.ended fed more h.at in
    stopped_reading start _ _ _ h.ended c.in-Err.fault (rw h.limit at faulty) c.in-Err.ensures.no_device h.reported.text_is
    (rw (append_assoc fed (c.args.byte ∷ []) more) (at-begins start _ h.ended fed (c.args.byte ∷ more) h.limit h.at)) h.replied
    (rw (append_assoc fed (c.args.byte ∷ []) more) (at-replies-begin start _ h.ended fed (c.args.byte ∷ more) h.limit h.at))

pub returns-in-Ok-Some-clause-replies : goal.returns-in-Ok-Some-clause-replies
returns-in-Ok-Some-clause-replies c = run_keeps c.run.result _ _ _ c.run.ensures.replied c.run.ensures.unreplied

pub returns-in-Ok-None-clause-replies : goal.returns-in-Ok-None-clause-replies
returns-in-Ok-None-clause-replies c = keeps_itself _

pub returns-in-Err-clause-replies : goal.returns-in-Err-clause-replies
returns-in-Err-clause-replies c = keeps_itself _
