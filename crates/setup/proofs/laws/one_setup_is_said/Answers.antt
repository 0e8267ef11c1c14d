use Rattle.setup.proofs.OneSetup.{one_setup}
use Rattle.setup.proofs.laws.one_setup_is_said.Goals as goal

pub returns : goal.returns
returns c = one_setup c.one_catalogue_is_said.ensures c.one_list_of_procedures_is_said.ensures
