use Rattle.std.proofs.Common.{◌≡◌, List, ap, arith}
use Rattle.std.proofs.lemmas.Map.Iter.{rest_all}
use Rattle.std.specs.Map.Iter.{deref_pair}
use Rattle.proclang_types.specs.declared.right.Right.{Right}
use Rattle.footprint.specs.declared.resource.Resource.{Resource}
use Rattle.coarsen.proofs.Counts.{count}
use Rattle.coarsen.proofs.Apart.{few_lifted}
use Rattle.coarsen.proofs.coarsening.are_few.Goals as goal

-- nothing is left, so no resource has more children than there was room
pub returns : goal.returns
returns c = λ _.
    let none = rest_all deref_pair c.loop-resource.resource-iterator c.next.new.self c.next.result c.in-None.is c.next.ensures.steps in
    few_lifted c.args.level c.args.threshold c.args.footprint.now (λ q.
    let i = c.loop-resource.invariant q in
    let e : count c.args.level c.loop-resource.resource-iterator q ≡ 0 = ap (λ (es : List (Resource × Right)). count c.args.level es q) none in
    omega (arith, i, e))
