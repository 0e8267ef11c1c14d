use Rattle.std.proofs.Common.{ap, arith, length}
use Rattle.coarsen.proofs.Apart.{coarse_already}
use Rattle.coarsen.proofs.coarsening.is_coarse.Goals as goal

-- all entries are needed, and they are few
pub returns-then-len-threshold : goal.returns-then-len-threshold
returns-then-len-threshold c = λ h.
    let n = ap length c.iter.ensures.entries in
    coarse_already c.args.threshold c.args.footprint.now (c.stand_apart.ensures h) (let l = c.len.ensures.value in omega (arith, n, l, c.if-len-threshold.true))
