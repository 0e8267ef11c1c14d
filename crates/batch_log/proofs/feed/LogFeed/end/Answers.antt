use Rattle.std.proofs.Common.{rules, refl, ◌≡◌, ◌≢◌, length}
use Rattle.batch_log.proofs.Places.{whole_with, whole_without}
use Rattle.batch_log.proofs.feed.LogFeed.end.Goals as goal

pub returns-in-Ok-Some-clause-batch : goal.returns-in-Ok-Some-clause-batch
returns-in-Ok-Some-clause-batch c = λ ended fed at. rw c.in-Ok-Some.field-0-is at (c.in-Ok-Some.ensures.batch ended fed at)

pub returns-in-Ok-None-clause-whole : goal.returns-in-Ok-None-clause-whole
returns-in-Ok-None-clause-whole c = λ ended fed at _.
    let none : length c.take_last_line.new.self.calls.items ≡ 0 = search rules in
    whole_without _ _ _ ended fed none ((rw c.in-Ok-None.field-0-is at (c.in-Ok-None.ensures.whole ended fed at)) refl)

pub returns-in-Ok-None-2-clause-batch : goal.returns-in-Ok-None-2-clause-batch
returns-in-Ok-None-2-clause-batch c = λ ended fed at.
    let some : length c.take_last_line.new.self.calls.items ≢ 0 = search rules in
    rw c.replace.ensures.value (whole_with _ _ _ ended fed some ((rw c.in-Ok-None.field-0-is at (c.in-Ok-None.ensures.whole ended fed at)) refl))
