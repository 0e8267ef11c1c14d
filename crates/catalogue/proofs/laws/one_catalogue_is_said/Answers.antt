use Rattle.std.proofs.Common.{◌≡◌, Ok, sym, ◌∙◌}
use Rattle.catalogue.proofs.Catalogues.{catalogue_read}
use Rattle.catalogue.proofs.laws.one_catalogue_is_said.Goals as goal

pub returns : goal.returns
returns c = λ d ts us says is says_too is_too.
    let one : Ok ts ≡ Ok us = sym (catalogue_read d ts says is) ∙ catalogue_read d us says_too is_too in cc
