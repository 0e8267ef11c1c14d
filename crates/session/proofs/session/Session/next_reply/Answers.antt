use Rattle.session.proofs.Told.{replied_taken}
use Rattle.session.proofs.session.Session.next_reply.Goals as goal

pub returns-clause-taken : goal.returns-clause-taken
returns-clause-taken c = λ start fed drained passed h. record {
  goes_on = h.goes_on;
  run = record {
    ended = h.run.ended;
    limit = h.run.limit;
    at = h.run.at;
    reported = h.run.reported;
    replied = replied_taken start h.run.ended passed _ _ c.take.result c.take.ensures.next c.take.ensures.left h.run.replied;
  };
}
