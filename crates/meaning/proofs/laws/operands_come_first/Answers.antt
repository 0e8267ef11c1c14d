use Rattle.meaning.proofs.Order.{first_in_order}
use Rattle.meaning.proofs.laws.operands_come_first.Goals as goal

pub returns : goal.returns
returns c = first_in_order
