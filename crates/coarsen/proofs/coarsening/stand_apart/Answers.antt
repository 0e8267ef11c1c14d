use Rattle.std.proofs.Common.{ap, ◌∙◌, sym}
use Rattle.std.proofs.lemmas.Map.Iter.{rest_all}
use Rattle.std.specs.Map.Iter.{deref_pair}
use Rattle.coarsen.proofs.Apart.{apart, apart_needed}
use Rattle.coarsen.proofs.coarsening.stand_apart.Goals as goal

-- nothing is left, so all stand apart
pub returns : goal.returns
returns c = λ _.
    let none = rest_all deref_pair c.loop-resource.resource-iterator c.next.new.self c.next.result c.in-None.is c.next.ensures.steps in
    apart_needed c.args.footprint.now (sym c.loop-resource.invariant ∙ ap (apart c.loop-resource.last) none)
