use Rattle.std.proofs.Common.{sym}
use Rattle.shelves.proofs.Copies.{copied}
use Rattle.shelves.proofs.contents.copy_of.Goals as goal

pub returns : goal.returns
returns c = λ q otherwise. copied _ (λ a b h. sym h) c.args.places.now.entries c.in_ok-clone.field-0.entries c.in_ok-clone.ensures.cases q otherwise
