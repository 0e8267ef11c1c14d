-- Rows that are put once more on shelves.
use Rattle.std.proofs.Common.{◌≡◌, Bool, true, false, ◌||◌, ◌&&◌, cond, if◌then◌else◌, List, [], ◌∷◌, refl, sym, ap, ◌∙◌, Option, Some, None, is_some}
use Rattle.std.specs.BTreeMap.{IsEmpty, is_at, keys}
use Rattle.std.specs.BTreeMap as tree
use Rattle.std.specs.Map.{lookup}
use Rattle.std.specs.FinMap.{empty}
use Rattle.std.specs.declared.sync.Arc.{Arc}
use Rattle.std.specs.declared.alloc.Global.{Global}
use Rattle.values.specs.declared.name.RowName.{RowName}
use Rattle.catalogue.specs.Shapes.{TableShape}
use Rattle.values.specs.Database.{RowOf, name_cmp}
use Rattle.footprint.specs.declared.resource.Resource.{Resource}
use Rattle.footprint.specs.Tree.{resource_cmp}
use Rattle.shelves.specs.declared.shelf.Shelf.{Shelf}
use Rattle.shelves.specs.Places.{Shelves, PlaceOf, places_of, seen_on, seen_at, is_out_on, is_away, full, shared_row, is_same_name, is_same_shelf, is_named}
use Rattle.shelves.specs.Shelving.{shelf_of}
use Rattle.shelves.specs.Rebuilding.{put, names_on, AreBack}
use Rattle.shelves.specs.Rows.{found, rows_of}
use Rattle.shelves.proofs.Exact.{same_name, own_place}
use Rattle.shelves.proofs.Rows.{get-rows_of, same_database, named_append, named_place, stands_there, or_true}

-- a row stands at the name of a place
named_shelf : (s : Shelf) (q : RowName) (r : RowOf) → (seen_on (Some s) q).row ≡ Some r → is_named (keys (places_of s.contents)) q ≡ true
named_shelf s q r h = let x = stands_there (tree.get name_cmp (places_of s.contents) q) r h in named_place (places_of s.contents).entries q x.0 x.1

named_in : (es : List (Resource × Shelf)) (d : Resource) (q : RowName) (r : RowOf) → (seen_on (lookup (is_at (resource_cmp d)) es) q).row ≡ Some r → is_named (names_on es) q ≡ true
named_in [] d q r h = absurd (cc)
named_in (e ∷ es) d q r h =
    let here : List RowName = keys (places_of e.1.contents) in
    named_append here (names_on es) q ∙ elim (is_at (resource_cmp d) e.0) as (λ (b : Bool). (seen_on (cond b (Some e.1) (lookup (is_at (resource_cmp d)) es)) q).row ≡ Some r → (is_named here q || is_named (names_on es) q) ≡ true) [
      | true ↦ λ g. ap (λ b. b || is_named (names_on es) q) (named_shelf e.1 q r g)
      | false ↦ λ g. ap (λ b. is_named here q || b) (named_in es d q r g) ∙ or_true (is_named here q)
    ] h

unnamed : (shelves : Shelves) (d : Resource) (q : RowName) (o : Option RowOf) → (seen_at shelves d q).row ≡ o → is_named (names_on shelves.entries) q ≡ false → o ≡ None
unnamed shelves d q None h none = refl
unnamed shelves d q (Some r) h none = let clash : true ≡ false = sym (named_in shelves.entries d q r h) ∙ none in absurd (cc)

-- on new shelves no row is back, and all are left
pub none_back : (tables others : List TableShape) (shelves new : Shelves) → ((q : RowName) → found others new q ≡ full None)
    → AreBack (λ q. (found tables shelves q).row) (found others new) (names_on shelves.entries)
none_back tables others shelves new empty = record {
  done = λ q off. empty q ∙ ap full (sym (unnamed shelves (shelf_of tables q) q (found tables shelves q).row refl off));
  none = λ q h. empty q;
}

put_full : (b : Bool) (row : Option RowOf) (place : PlaceOf) → (row ≡ None → place ≡ full None) → (b ≡ false → place ≡ full row) → (if b then put row place else place) ≡ full row
put_full true None place none done = none refl
put_full true (Some r) place none done = refl
put_full false row place none done = done refl

put_none : (b : Bool) (row : Option RowOf) (place : PlaceOf) → (b ≡ true → row ≡ None) → place ≡ full None → (if b then put row place else place) ≡ full None
put_none true None place h is = is
put_none true (Some r) place h is = let clash = h refl in absurd (cc)
put_none false row place h is = is

put_same : (b : Bool) (row other : Option RowOf) (place : PlaceOf) → (b ≡ true → row ≡ other) → (if b then put row place else place) ≡ (if b then put other place else place)
put_same true row other place h = ap (λ o. put o place) (h refl)
put_same false row other place h = refl

or_false : (a b : Bool) → a ≡ false → b ≡ false → a || b ≡ false
or_false true b h g = absurd (cc)
or_false false b h g = g

-- one more row is back
pub one_back : (row : RowName → Option RowOf) (old new : RowName → PlaceOf) (n : RowName) (left : List RowName)
    → ((q : RowName) → new q ≡ (if is_same_name n q then put (row n) (old q) else old q)) → AreBack row old (n ∷ left) → AreBack row new left
one_back row old new n left is back =
    let at : (q : RowName) → new q ≡ (if is_same_name n q then put (row q) (old q) else old q) = λ q. is q ∙ put_same (is_same_name n q) (row n) (row q) (old q) (λ h. ap row (same_name n q h)) in
    record {
      done = λ q off. at q ∙ put_full (is_same_name n q) (row q) (old q) (back.none q) (λ other. back.done q (or_false (is_same_name n q) (is_named left q) other off));
      none = λ q h. at q ∙ put_none (is_same_name n q) (row q) (old q) (λ _. h) (back.none q h);
    }

-- a row that is put on the shelf of its name
pub row_put_back : (tables : List TableShape) (old new : Shelves) (n : RowName) (row : Option (Arc RowOf Global)) → is_some row ≡ true
    → ((d : Resource) (q : RowName) → seen_at new d q ≡ (if is_same_shelf (shelf_of tables n) d && is_same_name n q then full (shared_row row) else seen_at old d q))
    → (q : RowName) → found tables new q ≡ (if is_same_name n q then put (shared_row row) (found tables old q) else found tables old q)
row_put_back tables old new n None some h q = absurd (cc)
row_put_back tables old new n (Some row) some h q =
    h (shelf_of tables q) q ∙ ap (λ b. if b then full (shared_row (Some row)) else seen_at old (shelf_of tables q) q) (own_place tables n q)

-- shelves that are new
pub nothing_found : (shelves : Shelves) → IsEmpty shelves → (d : Resource) (q : RowName) → seen_at shelves d q ≡ full None
nothing_found shelves h d q = ap (λ (es : List (Resource × Shelf)). seen_on (lookup (is_at (resource_cmp d)) es) q) h

pub nothing_away : (shelves : Shelves) → IsEmpty shelves → (d : Resource) → is_away shelves d ≡ false
nothing_away shelves h d = ap (λ (es : List (Resource × Shelf)). is_out_on (lookup (is_at (resource_cmp d)) es)) h

pub rows_back : (tables others : List TableShape) (shelves new : Shelves) → ((q : RowName) → (found tables shelves q).row ≡ (found tables shelves q).counts_as)
    → ((q : RowName) → found others new q ≡ full (found tables shelves q).row) → rows_of others new ≡ rows_of tables shelves
rows_back tables others shelves new here back = same_database _ _ (λ q.
    get-rows_of others new q ∙ ap (λ p. p.counts_as) (back q) ∙ here q ∙ sym (get-rows_of tables shelves q))
