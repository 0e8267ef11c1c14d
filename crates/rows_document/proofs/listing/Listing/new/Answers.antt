use Rattle.std.proofs.Common.{refl, ◌∙◌}
use Rattle.std.specs.Str.{chars}
use Rattle.rows_document.specs.Texts.{character_text}
use Rattle.rows_document.proofs.listing.Listing.new.Goals as goal

pub returns : goal.returns
unfolding character_text chars
returns c = λ tables. record { text = c.in_ok-text.ensures.items ∙ refl; any = refl }
