use Rattle.meaning.proofs.StandIns.{never_shows}
use Rattle.meaning.proofs.laws.stand_in_never_shows.Goals as goal

pub returns : goal.returns
returns c = never_shows
