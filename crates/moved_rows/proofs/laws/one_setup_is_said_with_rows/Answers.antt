use Rattle.moved_rows.proofs.OneSetup.{one_setup}
use Rattle.moved_rows.proofs.laws.one_setup_is_said_with_rows.Goals as goal

pub returns : goal.returns
returns c = one_setup c.one_catalogue_is_said.ensures c.one_list_of_procedures_is_said.ensures
