use Rattle.batch_log.proofs.Places.{IsAt-next}
use Rattle.batch_log.proofs.feed.LogFeed.call.Goals as goal

pub returns-clause-place : goal.returns-clause-place
returns-clause-place c = λ ended fed at. IsAt-next c.add.result _ _ _ ended fed _ _ at c.requires.whole c.in_ok-call.ensures.said c.add.ensures.added
