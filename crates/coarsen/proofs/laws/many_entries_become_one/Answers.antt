use Rattle.coarsen.proofs.CoarseningLaws.{replaces_many}
use Rattle.coarsen.proofs.laws.many_entries_become_one.Goals as goal

pub returns : goal.returns
returns c = replaces_many
