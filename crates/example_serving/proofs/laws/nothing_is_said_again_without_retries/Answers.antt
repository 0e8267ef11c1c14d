use Rattle.example_serving.proofs.Alone.{none_carried, said_alone, rows_alone, next_alone}
use Rattle.example_serving.proofs.laws.nothing_is_said_again_without_retries.Goals as goal

pub returns-clause-carried : goal.returns-clause-carried
returns-clause-carried c = none_carried

pub returns-clause-said : goal.returns-clause-said
returns-clause-said c = said_alone

pub returns-clause-rows : goal.returns-clause-rows
returns-clause-rows c = rows_alone

pub returns-clause-next : goal.returns-clause-next
returns-clause-next c = next_alone
