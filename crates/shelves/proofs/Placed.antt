-- What is seen where a place or a shelf was put in, or added.
use Rattle.std.proofs.Common.{◌≡◌, Bool, true, false, not, ◌&&◌, if◌then◌else◌, List, refl, sym, ap, ◌∙◌, Option, Some, None, is_some}
use Rattle.std.specs.BTreeMap.{is_at}
use Rattle.std.specs.Cmp.{eq_by_cmp_equiv}
use Rattle.std.specs.Map.{lookup, set_value}
use Rattle.std.proofs.lemmas.Map.{lookup-set_value}
use Rattle.values.specs.declared.name.RowName.{RowName}
use Rattle.values.specs.Database.{RowOf, name_cmp}
use Rattle.footprint.specs.declared.resource.Resource.{Resource}
use Rattle.footprint.specs.Tree.{resource_cmp}
use Rattle.footprint.proofs.Resources.{resources_total}
use Rattle.shelves.specs.declared.place.Place.{Place}
use Rattle.shelves.specs.declared.shelf.Shelf.{Shelf}
use Rattle.shelves.specs.Places.{PlaceOf, is_same_name, is_same_shelf, seen_over, seen_in, seen_on, has_in, has_on, full, emptied}
use Rattle.shelves.proofs.Exact.{names_total, same_name, same_shelf}

-- a place, or a shelf, is put in the place of another
pub set_place : (n q : RowName) (es : List (RowName × Place)) (old new : Place) → lookup (is_at (name_cmp n)) es ≡ Some old
    → lookup (is_at (name_cmp q)) (set_value (is_at (name_cmp n)) es new) ≡ (if is_same_name n q then Some new else lookup (is_at (name_cmp q)) es)
set_place n q es old new is =
    lookup-set_value (eq_by_cmp_equiv names_total) (is_at (name_cmp n)) (λ a b h. ap (λ k. is_at (name_cmp k) b) (same_name n a h)) q new es (ap is_some is)

pub set_shelf : (at d : Resource) (es : List (Resource × Shelf)) (old new : Shelf) → lookup (is_at (resource_cmp at)) es ≡ Some old
    → lookup (is_at (resource_cmp d)) (set_value (is_at (resource_cmp at)) es new) ≡ (if is_same_shelf at d then Some new else lookup (is_at (resource_cmp d)) es)
set_shelf at d es old new is =
    lookup-set_value (eq_by_cmp_equiv resources_total) (is_at (resource_cmp at)) (λ a b h. ap (λ k. is_at (resource_cmp k) b) (same_shelf at a h)) d new es (ap is_some is)

-- the place of one name is emptied
pub one_emptied : (b : Bool) (old new : Place) (was : Option Place) (otherwise : Option RowOf) → seen_over (Some new) otherwise ≡ emptied (seen_over (Some old) otherwise)
    → (b ≡ true → was ≡ Some old)
    → seen_over (if b then Some new else was) otherwise ≡ (if b && is_some was then emptied (seen_over was otherwise) else seen_over was otherwise)
one_emptied true old new was otherwise h is = h ∙ ap (λ o. if is_some o then emptied (seen_over o otherwise) else seen_over o otherwise) (sym (is refl))
one_emptied false old new was otherwise h is = refl

pub one_shelf_emptied : (b n : Bool) (old new : Shelf) (was : Option Shelf) (q : RowName) → seen_in new q ≡ (if n && has_in old q then emptied (seen_in old q) else seen_in old q)
    → (b ≡ true → was ≡ Some old)
    → seen_on (if b then Some new else was) q ≡ (if b && (n && has_on was q) then emptied (seen_on was q) else seen_on was q)
one_shelf_emptied true n old new was q h is = h ∙ ap (λ o. if n && has_on o q then emptied (seen_on o q) else seen_on o q) (sym (is refl))
one_shelf_emptied false n old new was q h is = refl

-- a shelf that shows nothing was added
pub nothing_added : (b : Bool) (new : Shelf) (was : Option Shelf) (q : RowName) → (b ≡ true → is_some was ≡ false) → seen_in new q ≡ full None
    → seen_on (if b then Some new else was) q ≡ seen_on was q
nothing_added true new None q off h = h
nothing_added true new (Some shelf) q off h = let clash : true ≡ false = off refl in absurd (cc)
nothing_added false new was q off h = refl

-- a shelf with one row was added
pub row_added : (b n : Bool) (row new was : PlaceOf) → new ≡ (if n then row else full None) → (b ≡ true → was ≡ full None)
    → (if b then new else was) ≡ (if b && n then row else was)
row_added true n row new was h none = h ∙ ap (λ p. if n then row else p) (sym (none refl))
row_added false n row new was h none = refl

-- a shelf was added that shows what another shows
pub alike_added : (b h : Bool) (new other was : PlaceOf) → (b ≡ true → h ≡ false) → (b ≡ true → new ≡ other)
    → (if b then new else was) ≡ (if b && not h then other else was)
alike_added true true new other was off same = let clash : true ≡ false = off refl in absurd (cc)
alike_added true false new other was off same = same refl
alike_added false h new other was off same = refl
