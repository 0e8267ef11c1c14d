use Rattle.session.proofs.Told.{replied_kept}
use Rattle.session.proofs.session.Session.keep_replies.Goals as goal

pub returns-clause-taken : goal.returns-clause-taken
returns-clause-taken c = λ start fed drained passed h.
    let kept = replied_kept start h.run.ended passed _ _ c.keep.ensures.first c.keep.ensures.again h.run.replied in (
      kept.0,
      record {
        goes_on = h.goes_on;
        run = record { ended = h.run.ended; limit = h.run.limit; at = h.run.at; reported = h.run.reported; replied = kept.1 };
      },
    )
