-- Footprints that are of a catalogue.
use Rattle.std.proofs.Common.{◌≡◌, true, false, cond, List, Some, is_some, Result, Ok, Err, refl, sym, ap, ◌∙◌, subst, Ordering, Less, Equal, Greater}
use Rattle.std.specs.FinMap.{empty, get, get-empty, get-insert}
use Rattle.std.specs.Prelude.{OnOk}
use Rattle.std.specs.Ordering.{eq_by_cmp, is_eq}
use Rattle.catalogue.specs.Shapes.{TableShape}
use Rattle.proclang_types.specs.declared.right.Right.{Right}
use Rattle.footprint.specs.declared.resource.Resource.{Resource}
use Rattle.footprint.specs.Tree.{resource_cmp}
use Rattle.footprint.specs.Rights.{FootprintOf, greater, with_right}
use Rattle.footprint.specs.OfCatalogue.{IsResourceOf, IsFootprintOf}
use Rattle.footprint.proofs.Resources.{resources_total, exact_resources}

tied : (o : Ordering) → is_eq o ≡ true → o ≡ Equal
tied Less h = absurd (cc)
tied Equal h = refl
tied Greater h = absurd (cc)

-- the footprint without resources is of each catalogue
pub nothing_of_catalogue : (tables : List TableShape) → IsFootprintOf tables empty
nothing_of_catalogue tables = λ r there. let w : false ≡ true = sym (ap is_some (get-empty {X = Right} resource_cmp r)) ∙ there in absurd (cc)

-- and one of a catalogue stays so with one more right on a resource of it
pub more_of_catalogue : (tables : List TableShape) (f : FootprintOf) (r : Resource) (x : Right) → IsFootprintOf tables f → IsResourceOf tables r → IsFootprintOf tables (with_right f r x)
more_of_catalogue tables f r x of is = λ q there.
    let got = get-insert resources_total f r (greater (get f r) x) q in
    elim (eq_by_cmp resource_cmp q r) as (λ b. eq_by_cmp resource_cmp q r ≡ b → get (with_right f r x) q ≡ cond b (Some (greater (get f r) x)) (get f q) → IsResourceOf tables q) [
      | true ↦ λ e g. subst (IsResourceOf tables) (sym (exact_resources q r (tied (resource_cmp q r) e))) is
      | false ↦ λ e g. of q (sym (ap is_some g) ∙ there)
    ] refl got

-- what an addition leaves is of the catalogue, where it was made
pub on_one_more : {X Y : Type 0} (tables : List TableShape) (f : FootprintOf) (r : Resource) (x : Right) (result : Result X Y) (left : FootprintOf) → IsFootprintOf tables f → IsResourceOf tables r
    → OnOk result (left ≡ with_right f r x) → OnOk result (IsFootprintOf tables left)
on_one_more tables f r x (Ok u) left of is added = subst (IsFootprintOf tables) (sym added) (more_of_catalogue tables f r x of is)
on_one_more tables f r x (Err e) left of is added = tt
