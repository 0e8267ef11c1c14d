use Rattle.std.proofs.Common.{rules, ◌≡◌, ◌≢◌, length}
use Rattle.batch_log.proofs.Places.{IsAt-end, last_call, last_cut, last_fault, no_line}
use Rattle.batch_log.proofs.feed.LogFeed.take_last_line.Goals as goal

pub returns-then-is_empty-clause-whole : goal.returns-then-is_empty-clause-whole
returns-then-is_empty-clause-whole c = λ ended fed at _.
    let none : length c.args.self.now.line.items ≡ 0 = search rules in
    IsAt-end _ _ ended fed at (no_line _ none)

pub returns-clause-whole : goal.returns-clause-whole
returns-clause-whole c = λ ended fed at.
    let some : length c.args.self.now.line.items ≢ 0 = search rules in
    last_call c.take_line.result _ _ _ ended fed some at c.take_line.ensures.call

pub returns-clause-batch : goal.returns-clause-batch
returns-clause-batch c = λ ended fed at.
    let some : length c.args.self.now.line.items ≢ 0 = search rules in
    last_cut c.take_line.result _ _ _ ended fed some at c.take_line.ensures.cut

pub returns-clause-fault : goal.returns-clause-fault
returns-clause-fault c = λ ended fed at.
    let some : length c.args.self.now.line.items ≢ 0 = search rules in
    last_fault c.take_line.result _ _ ended fed some at c.take_line.ensures.fault
