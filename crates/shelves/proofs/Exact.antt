-- Names that compare alike are one, and so are resources.
use Rattle.std.proofs.Common.{◌≡◌, ℕ, Bool, true, false, ◌&&◌, List, refl, sym, ap, ◌∙◌, Option, Some, None, is_some, Ordering, Less, Equal, Greater}
use Rattle.std.specs.Ordering.{is_eq, nat_cmp}
use Rattle.std.specs.Cmp.{IsTotalOrder}
use Rattle.std.specs.BTreeMap.{get}
use Rattle.std.proofs.lemmas.Cmp.{tied_itself}
use Rattle.std.proofs.lemmas.Map.Lookups.{CmpEqualImpliesEq, exact_pairs, exact_unsigned}
use Rattle.values.specs.declared.name.RowName.{RowName}
use Rattle.values.specs.contracts.name.RowNameOrd.TheImpl.Laws as name_laws
use Rattle.values.specs.Database.{name_cmp}
use Rattle.footprint.specs.declared.resource.Resource.{Resource}
use Rattle.footprint.specs.Tree.{resource_cmp}
use Rattle.footprint.proofs.Resources.{resources_total, exact_resources}
use Rattle.catalogue.specs.Shapes.{TableShape}
use Rattle.shelves.specs.Shelving.{shelf_of}
use Rattle.std.specs.declared.snapshot.Snapshot.{Snapshot}
use Rattle.shelves.specs.Places.{Places, Shelves, is_same_name, is_same_shelf, counted_away}

pub names_total : IsTotalOrder name_cmp
names_total = name_laws.lawful.total

pub exact_names : CmpEqualImpliesEq name_cmp
exact_names a b h = ap (λ (p : ℕ × ℕ). record { table = p.0; key = p.1 }) (exact_pairs nat_cmp nat_cmp exact_unsigned exact_unsigned (a.table, a.key) (b.table, b.key) h)

is_equal : (o : Ordering) → is_eq o ≡ true → o ≡ Equal
is_equal Less e = absurd (cc)
is_equal Equal e = refl
is_equal Greater e = absurd (cc)

pub same_name : (a b : RowName) → is_same_name a b ≡ true → a ≡ b
same_name a b h = exact_names a b (is_equal (name_cmp a b) h)

pub same_shelf : (a b : Resource) → is_same_shelf a b ≡ true → a ≡ b
same_shelf a b h = exact_resources a b (is_equal (resource_cmp a b) h)

pub is_name_itself : (a : RowName) → is_same_name a a ≡ true
is_name_itself a = ap is_eq (tied_itself names_total a)

pub is_shelf_itself : (a : Resource) → is_same_shelf a a ≡ true
is_shelf_itself a = ap is_eq (tied_itself resources_total a)

pub own_same : (m : Places) (a b : RowName) → is_same_name a b ≡ true → get name_cmp m a ≡ get name_cmp m b
own_same m a b h = ap (get name_cmp m) (same_name a b h)

-- nothing counts on a shelf that is here but what its places say
pub here_counts : (away : Option (Snapshot Places)) (q : RowName) → is_some away ≡ false → counted_away away q ≡ None
here_counts None q h = refl
here_counts (Some lent) q h = absurd (cc)

pub get_same : (s : Shelves) (a b : Resource) → is_same_shelf a b ≡ true → get resource_cmp s a ≡ get resource_cmp s b
get_same s a b h = ap (get resource_cmp s) (same_shelf a b h)

on_own : (a b : Bool) → (b ≡ true → a ≡ true) → a && b ≡ b
on_own true b h = refl
on_own false true h = h refl
on_own false false h = refl

-- the place of a name is on the name's shelf
pub own_place : (tables : List TableShape) (n q : RowName) → (is_same_shelf (shelf_of tables n) (shelf_of tables q) && is_same_name n q) ≡ is_same_name n q
own_place tables n q =
    on_own (is_same_shelf (shelf_of tables n) (shelf_of tables q)) (is_same_name n q)
    (λ h. ap (λ x. is_same_shelf (shelf_of tables n) (shelf_of tables x)) (sym (same_name n q h)) ∙ is_shelf_itself (shelf_of tables n))
