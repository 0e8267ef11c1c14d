-- A footprint without resources.
use Rattle.std.proofs.Common.{◌≡◌, true, false, List, is_some, sym, ap, ◌∙◌}
use Rattle.std.specs.FinMap.{empty, get-empty}
use Rattle.catalogue.specs.Shapes.{TableShape}
use Rattle.proclang_types.specs.declared.right.Right.{Right}
use Rattle.footprint.specs.Tree.{resource_cmp}
use Rattle.footprint.specs.OfCatalogue.{IsFootprintOf}

-- it is of each catalogue
pub nothing_of_catalogue : (tables : List TableShape) → IsFootprintOf tables empty
nothing_of_catalogue tables = λ r there. let w : false ≡ true = sym (ap is_some (get-empty {X = Right} resource_cmp r)) ∙ there in absurd (cc)
