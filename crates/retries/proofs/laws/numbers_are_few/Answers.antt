use Rattle.retries.proofs.Spent.{at_most, at_most_next, each_may, fits, in_batch}
use Rattle.retries.proofs.laws.numbers_are_few.Goals as goal

pub returns-clause-most : goal.returns-clause-most
returns-clause-most c = at_most

pub returns-clause-next : goal.returns-clause-next
returns-clause-next c = at_most_next

pub returns-clause-fit : goal.returns-clause-fit
returns-clause-fit c = fits

pub returns-clause-step : goal.returns-clause-step
returns-clause-step c = in_batch

pub returns-clause-carried_one : goal.returns-clause-carried_one
returns-clause-carried_one c = λ retries s. each_may retries s.carried
