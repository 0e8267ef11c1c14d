use Rattle.coarsen.proofs.Planning.{sound_of}
use Rattle.coarsen.proofs.plan.Plan.of.Goals as goal

pub invariant_of-result : goal.invariant_of-result
invariant_of-result c = sound_of c.args.footprint.now _ c.in_ok-requests.ensures
