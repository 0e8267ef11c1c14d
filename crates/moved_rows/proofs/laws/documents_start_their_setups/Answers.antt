use Rattle.std.proofs.Common.{refl}
use Rattle.moved_rows.proofs.laws.documents_start_their_setups.Goals as goal

pub returns : goal.returns
returns c = λ document over. record { tables = document.setup.over; over = over; procs = refl; retries = refl; rows = refl; digest = refl }
