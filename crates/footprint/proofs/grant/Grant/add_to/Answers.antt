use Rattle.std.proofs.Common.{subst}
use Rattle.footprint.specs.Grants.{IsGrantOf}
use Rattle.footprint.proofs.OfCatalogue.{on_one_more}
use Rattle.footprint.proofs.grant.Grant.add_to.Goals as goal

pub returns-in-OnOne-clause-of_catalogue : goal.returns-in-OnOne-clause-of_catalogue
returns-in-OnOne-clause-of_catalogue c = λ of.
    on_one_more c.args.catalogue.now c.args.footprint.now c.in-OnOne.resource c.in-OnOne.right c.add.result c.add.new.self of (subst (IsGrantOf c.args.catalogue.now) c.in-OnOne.is c.requires) c.add.ensures.added
