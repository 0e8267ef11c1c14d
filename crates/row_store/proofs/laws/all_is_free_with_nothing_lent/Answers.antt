use Rattle.std.proofs.Common.{ap, ◌∙◌}
use Rattle.row_store.specs.Stock.{is_free}
use Rattle.row_store.proofs.Shown.{all_free}
use Rattle.row_store.proofs.laws.all_is_free_with_nothing_lent.Goals as goal

pub returns : goal.returns
returns c = λ tables lent none name. ap (λ l. is_free tables l name) none ∙ all_free tables name
