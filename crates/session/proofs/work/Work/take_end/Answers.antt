use Rattle.std.proofs.Common.{List, ℕ, ap}
use Rattle.batch_log.specs.declared.fault.LogFault.{LogFault}
use Rattle.running.specs.Reported.{reply_text, with_closing}
use Rattle.session.proofs.Growing.{begins_onward}
use Rattle.session.proofs.Runs.{front_keeps, stopped_at_end, whole_where_written}
use Rattle.session.proofs.work.Work.take_end.Goals as goal

pub returns-in-Ok-finish-clause-whole : goal.returns-in-Ok-finish-clause-whole
returns-in-Ok-finish-clause-whole c = λ start fed drained passed h.
    let run = c.in-Ok.ensures.whole start fed drained passed h in
    let m : List ℕ = reply_text start (with_closing start run.ended) in
    rw c.finish.ensures.same
    (whole_where_written start fed drained run.ended _ _ c.take_rest.new.self.report c.finish.new.sink run.reported run.whole passed c.take_rest.new.self.replies c.in-Ok-finish.count c.in-Ok-finish.ensures.count run.replied
    (rw c.replace-transcript.ensures.value at (c.in-Ok-finish.ensures.text m (rw c.replace-transcript.ensures.value run.reported.said_is))))

pub returns-in-Ok-finish-clause-kept : goal.returns-in-Ok-finish-clause-kept
returns-in-Ok-finish-clause-kept c = λ start fed drained passed h.
    let run = c.in-Ok.ensures.whole start fed drained passed h in
    let m : List ℕ = reply_text start (with_closing start run.ended) in
    begins_onward _ _ _ c.take_rest.ensures.kept (front_keeps _ _ _ (c.finish.ensures.front m (rw c.replace-transcript.ensures.value run.reported.said_is)))

pub returns-in-Err-finish-clause-fault : goal.returns-in-Err-finish-clause-fault
returns-in-Err-finish-clause-fault c = λ start fed drained passed h.
    let run = c.in-Ok.ensures.whole start fed drained passed h in
    let m : List ℕ = reply_text start (with_closing start run.ended) in
    stopped_at_end start fed drained run.ended _ _ c.take_rest.new.self.report c.finish.new.sink run.reported run.whole passed c.take_rest.new.self.replies c.no_memory.result (ap (λ (f : LogFault). f.kind) c.no_memory.ensures) run.replied
    (rw c.replace-transcript.ensures.value at (c.finish.ensures.front m (rw c.replace-transcript.ensures.value run.reported.said_is)))

pub returns-in-Err-finish-clause-kept : goal.returns-in-Err-finish-clause-kept
returns-in-Err-finish-clause-kept c = λ start fed drained passed h.
    let run = c.in-Ok.ensures.whole start fed drained passed h in
    let m : List ℕ = reply_text start (with_closing start run.ended) in
    begins_onward _ _ _ c.take_rest.ensures.kept (front_keeps _ _ _ (c.finish.ensures.front m (rw c.replace-transcript.ensures.value run.reported.said_is)))
