use Rattle.scheduler_core.proofs.Room.{room_kept}
use Rattle.scheduler_core.proofs.laws.room_is_kept.Goals as goal

pub returns : goal.returns
returns c = room_kept
