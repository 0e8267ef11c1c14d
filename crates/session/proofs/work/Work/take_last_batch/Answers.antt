use Rattle.std.proofs.Common.{◌≡◌, ◌++◌, [], ◌∷◌, append-nil, refl, ap, ◌∙◌}
use Rattle.requests.specs.ProcLists.{ProcsParts}
use Rattle.session.proofs.Rooms.{between_after, between_now, due_at}
use Rattle.session.proofs.Runs.{front-next, front_keeps, on_both, on_ok_both, reported_next, stopped_in_batch, stopped_reading}
use Rattle.session.proofs.Told.{at-replies-begin, keeps_itself, replied_next, replied_still, run_keeps}
use Rattle.session.proofs.Turns.{at-begins, report-begins}
use Rattle.session.proofs.work.Work.take_last_batch.Goals as goal

pub run-requires : goal.run-requires
run-requires c =
    due_at c.args.self.now c.in-Ok-Some.calls.items c.requires.ready (rw (ap (λ (p : ProcsParts). p.tables) c.procs.ensures) at (rw c.in-Ok-Some.field-0-is at c.in-Ok-Some.ensures.last).0)
    (rw c.in-Ok-Some.field-0-is at c.in-Ok-Some.ensures.last).1 (rw c.in-Ok-Some.field-0-is at c.in-Ok-Some.ensures.last).2

pub returns-in-Ok-Some-clause-between : goal.returns-in-Ok-Some-clause-between
returns-in-Ok-Some-clause-between c =
    between_after c.run.result c.args.self.now c.run.new.self c.in-Ok-Some.calls.items c.requires.ready (rw c.in-Ok-Some.field-0-is at c.in-Ok-Some.ensures.last).2 c.run.ensures.same _ _ c.run.ensures.reported

pub returns-in-Ok-Some-clause-whole : goal.returns-in-Ok-Some-clause-whole
returns-in-Ok-Some-clause-whole c = on_ok_both c.run.result _ _ _ c.run.ensures.reported c.run.ensures.replied
    (λ reported replied start fed drained passed h.
    let e : c.procs.result.now ≡ start.procs = c.procs.ensures ∙ h.reported.procs_are in
    let whole = rw c.in-Ok-Some.field-0-is at ((rw e at c.in-Ok-Some.ensures.batch) h.ended fed h.at) in
    record {
      ended = h.ended ++ c.in-Ok-Some.calls.items ∷ [];
      whole = rw h.limit at whole;
      reported = reported_next start h.ended c.in-Ok-Some.calls.items drained _ _ _ _ c.args.self.now.report c.run.new.self.report h.reported c.run.ensures.same c.run.ensures.form reported;
      replied = replied_next start h.ended c.in-Ok-Some.calls.items passed _ c.args.self.now.replies c.run.new.self.replies h.reported.standing_is h.replied replied;
    })

pub returns-in-Ok-Some-clause-fault : goal.returns-in-Ok-Some-clause-fault
returns-in-Ok-Some-clause-fault c = on_both c.run.result _ _ _ c.run.ensures.memory c.run.ensures.unreplied
    (λ fault kind same start fed drained passed h.
    let e : c.procs.result.now ≡ start.procs = c.procs.ensures ∙ h.reported.procs_are in
    let read = rw c.in-Ok-Some.field-0-is at ((rw e at c.in-Ok-Some.ensures.batch) h.ended fed h.at) in
    let whole = rw h.limit at read in
    stopped_in_batch start fed _ _ h.ended (h.ended ++ c.in-Ok-Some.calls.items ∷ []) fault kind (front-next start h.ended c.in-Ok-Some.calls.items drained _ _ c.args.self.now.report c.run.new.self.report h.reported c.run.ensures.front)
    (report-begins start fed (h.ended ++ c.in-Ok-Some.calls.items ∷ []) [] whole.batches)
    (replied_still start h.ended passed c.args.self.now.replies c.run.new.self.replies h.replied same)
    (rw (append-nil fed) at (at-replies-begin start _ h.ended fed [] h.limit h.at)))

pub returns-in-Ok-Some-clause-kept : goal.returns-in-Ok-Some-clause-kept
returns-in-Ok-Some-clause-kept c = front_keeps _ _ _ c.run.ensures.front

pub returns-in-Ok-None-clause-between : goal.returns-in-Ok-None-clause-between
returns-in-Ok-None-clause-between c = between_now c.args.self.now c.requires.ready

pub returns-in-Ok-None-clause-whole : goal.returns-in-Ok-None-clause-whole
returns-in-Ok-None-clause-whole c = λ start fed drained passed h.
    let e : c.procs.result.now ≡ start.procs = c.procs.ensures ∙ h.reported.procs_are in
    let whole = (rw c.in-Ok-None.field-0-is at ((rw e at c.in-Ok-None.ensures.whole) h.ended fed h.at)) refl in
    record { ended = h.ended; whole = rw h.limit at whole; reported = h.reported; replied = h.replied }

pub returns-in-Err-clause-fault : goal.returns-in-Err-clause-fault
returns-in-Err-clause-fault c = λ start fed drained passed h.
    let e : c.procs.result.now ≡ start.procs = c.procs.ensures ∙ h.reported.procs_are in
    let faulty = (rw e at c.in-Err.ensures.fault) h.ended fed h.at in
    stopped_reading start fed _ _ h.ended c.in-Err.fault (rw h.limit at faulty) c.in-Err.ensures.no_device h.reported.text_is
    (rw (append-nil fed) at (at-begins start _ h.ended fed [] h.limit h.at)) h.replied
    (rw (append-nil fed) at (at-replies-begin start _ h.ended fed [] h.limit h.at))

pub returns-in-Ok-Some-clause-replies : goal.returns-in-Ok-Some-clause-replies
returns-in-Ok-Some-clause-replies c = run_keeps c.run.result _ _ _ c.run.ensures.replied c.run.ensures.unreplied

pub returns-in-Ok-None-clause-replies : goal.returns-in-Ok-None-clause-replies
returns-in-Ok-None-clause-replies c = keeps_itself _

pub returns-in-Err-clause-replies : goal.returns-in-Err-clause-replies
returns-in-Err-clause-replies c = keeps_itself _

pub returns-in-Ok-None-clause-setting : goal.returns-in-Ok-None-clause-setting
returns-in-Ok-None-clause-setting c = (record { procs = refl; settings = refl; retries = refl }, refl)

pub returns-in-Err-clause-setting : goal.returns-in-Err-clause-setting
returns-in-Err-clause-setting c = (record { procs = refl; settings = refl; retries = refl }, refl)
