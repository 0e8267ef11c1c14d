use Rattle.std.proofs.Common.{◌&&◌, ◌∙◌}
use Rattle.lock_tree.proofs.Holding.{counts_fit}
use Rattle.lock_tree.proofs.held.Held.fits.Goals as goal

pub returns : goal.returns
returns c = λ held is.
    (λ i. (((c.spares.ensures i && c.spares-2.ensures i) && c.spares-3.ensures i) && c.spares-4.ensures i) && c.spares-5.ensures i) ∙ counts_fit c.args.self.now held c.args.mode is
