use Rattle.std.proofs.Common.{◌≡◌, refl, ap}
use Rattle.row_store.specs.Stock.{Stock}
use Rattle.scheduler.proofs.Restored.{still_lent, restored}
use Rattle.scheduler.proofs.lending.lend_to.Goals.{After-give_back}
use Rattle.scheduler.proofs.lending.lend_to.Goals as goal

pub give_back-requires-clause-lent : goal.give_back-requires-clause-lent
give_back-requires-clause-lent c =
    let e = c.in_ok-loan.ensures in
    still_lent c.args.store.now c.lend.new.self c.args.no c.args.plan.now c.in_ok-loan.loan c.in-Err.loan c.requires.can.unlent e.lent e.loan.tables e.loan.of_plan c.in-Err.ensures.back

-- the store has all that it lent
back : (c : After-give_back) → ◌≡◌ {A = Stock} c.give_back.new.self c.args.store.now
back c =
    let e = c.in_ok-loan.ensures in
    restored c.args.store.now c.lend.new.self c.args.no c.args.plan.now c.in_ok-loan.loan c.in-Err.loan c.requires.can.unlent e.lent e.loan.tables e.loan.of_plan c.in-Err.ensures.back
    c.give_back.new.self e.loan.rows c.lend.ensures.tables c.lend.ensures.rows c.give_back.ensures.tables c.give_back.ensures.rows c.give_back.ensures.lent

pub returns-in-Err-clause-rows : goal.returns-in-Err-clause-rows
returns-in-Err-clause-rows c = ap (λ (s : Stock). s.rows) (back (goal.at.returns-in-Err-clause-rows c).After-give_back)

pub returns-in-Err-clause-err : goal.returns-in-Err-clause-err
returns-in-Err-clause-err c = (back (goal.at.returns-in-Err-clause-err c).After-give_back, refl)
