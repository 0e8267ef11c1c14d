use Rattle.scheduler_core.proofs.Places.{by_places}
use Rattle.scheduler_core.proofs.laws.events_by_places.Goals as goal

pub returns : goal.returns
returns c = by_places
