use Rattle.language_laws.proofs.Numbers.{by_order}
use Rattle.language_laws.proofs.operators.numbers_are_compared_by_order.Goals as goal

pub returns : goal.returns
returns c = by_order
