use Rattle.std.proofs.Common.{List, ap, ◌∙◌}
use Rattle.session.specs.Replies.{kept_in, kept_with, NumberedReply}
use Rattle.session.proofs.Runs.{on_ok}
use Rattle.session.proofs.Told.{batch_told}
use Rattle.session.proofs.work.Work.run.Goals as goal

pub returns-in-Ok-clause-replied : goal.returns-in-Ok-clause-replied
returns-in-Ok-clause-replied c = on_ok c.keep.result _ _ c.keep.ensures.ok
    (λ kept. kept ∙ ap (λ (more : List NumberedReply). kept_with (kept_in c.args.self.now.replies) more) (batch_told _ _ c.args.calls.items c.in-Ok.done c.in-Ok.ensures.reported.1))
