-- What is covered with Write is covered with Read.
use Rattle.std.proofs.Common.{◌≡◌, Bool, true, false, ◌||◌, ◌==◌, ℕ, List, [], ◌∷◌, refl, sym, ap, ◌∙◌, subst, arith, Option, Some, None}
use Rattle.std.specs.Prelude.{unwrap_or}
use Rattle.std.specs.List.{list_any}
use Rattle.std.proofs.lemmas.Bool.Decides.{nat_tests}
use Rattle.catalogue.specs.Places.{partition_of}
use Rattle.footprint.specs.declared.resource.Resource.TheVariants.{Table}
use Rattle.footprint.specs.declared.resource.InTable.TheVariants.{Part}
use Rattle.footprint.specs.declared.resource.InPart.TheVariants.{WholePart, Row}
use Rattle.meaning.specs.Partitions.{is_in_part}
use Rattle.std.specs.FinMap.{get}
use Rattle.values.specs.declared.name.RowName.{RowName}
use Rattle.catalogue.specs.Shapes.{TableShape}
use Rattle.proclang_types.specs.declared.right.Right.{Right}
use Rattle.proclang_types.specs.declared.right.Right.TheVariants.{Read}
use Rattle.footprint.specs.declared.resource.Resource.{Resource}
use Rattle.footprint.specs.Tree.{row_resource, ancestors_of}
use Rattle.footprint.specs.Rights.{FootprintOf, covers, covers_row, is_at_least}
use Rattle.workspace.specs.declared.permit.Passage.{Passage}
use Rattle.workspace.specs.declared.permit.Passage.TheVariants.{Covered, Recorded}
use Rattle.workspace.specs.declared.permit.Permit.{Permit}
use Rattle.workspace.specs.Coverage.{allows, permits}
use Rattle.workspace.proofs.Ahead.{both_true, table_of}

weaker : (right : Right) (o : Option Right) → is_at_least right o ≡ true → is_at_least Read o ≡ true
weaker right None e = absurd (cc)
weaker right (Some given) e = refl

or_more : (a b c d : Bool) → (a ≡ true → c ≡ true) → (b ≡ true → d ≡ true) → (a || b) ≡ true → (c || d) ≡ true
or_more true b c d f g e = ap (λ x. x || d) (f refl)
or_more false b true d f g e = refl
or_more false b false d f g e = g e

any_weaker : (right : Right) (fo : FootprintOf) (rs : List Resource) → list_any (λ r. is_at_least right (get fo r)) rs ≡ true → list_any (λ r. is_at_least Read (get fo r)) rs ≡ true
any_weaker right fo [] e = absurd (cc)
any_weaker right fo (r ∷ rs) e = or_more (is_at_least right (get fo r)) _ (is_at_least Read (get fo r)) _ (weaker right (get fo r)) (any_weaker right fo rs) e

-- a name that is covered with some right is covered with Read
pub covers_read : (tables : List TableShape) (fo : FootprintOf) (name : RowName) (right : Right) → covers_row tables fo name right ≡ true → covers_row tables fo name Read ≡ true
covers_read tables fo name right e = any_weaker right fo (row_resource tables name ∷ ancestors_of (row_resource tables name)) e

-- and a name that a permit covers with some right it covers with Read
allowed_read : (passage : Passage) (tables : List TableShape) (name : RowName) (right : Right) → allows passage (row_resource tables name) right ≡ true → allows passage (row_resource tables name) Read ≡ true
allowed_read (Covered footprint uncovered) tables name right e = covers_read tables footprint.now name right e
allowed_read Recorded tables name right e = refl

pub permits_read : (permit : Permit) (name : RowName) (right : Right) → permits permit name right ≡ true → permits permit name Read ≡ true
permits_read permit name right e = allowed_read permit.passage permit.catalogue.now name right e

-- ---- partitions

same_number : (a b : ℕ) → (a == b) ≡ true → a ≡ b
same_number a b e = grind (arith, nat_tests)

or_right : (a b : Bool) → b ≡ true → (a || b) ≡ true
or_right true b e = refl
or_right false b e = e

-- a right on a partition is one on each of its names
pub covers_in_part : (tables : List TableShape) (fo : FootprintOf) (table part : ℕ) (q : RowName) (right : Right) → is_in_part tables table part q ≡ true
    → covers fo (Table table (Part part WholePart)) right ≡ true → covers_row tables fo q right ≡ true
covers_in_part tables fo table part q right e c =
    let t : q.table ≡ table = table_of tables table part q e in
    let p : unwrap_or (partition_of tables table q.key) 0 ≡ part = same_number _ _ (both_true (q.table == table) (unwrap_or (partition_of tables table q.key) 0 == part) e).1 in
    let w : unwrap_or (partition_of tables q.table q.key) 0 ≡ part = ap (λ (n : ℕ). unwrap_or (partition_of tables n q.key) 0) t ∙ p in
    or_right (is_at_least right (get fo (Table q.table (Part (unwrap_or (partition_of tables q.table q.key) 0) (Row q.key))))) _
    (subst (λ (n : ℕ). covers fo (Table q.table (Part n WholePart)) right ≡ true) (sym w) (subst (λ (n : ℕ). covers fo (Table n (Part part WholePart)) right ≡ true) (sym t) c))

pub allowed_in_part : (passage : Passage) (tables : List TableShape) (table part : ℕ) (q : RowName) (right : Right) → is_in_part tables table part q ≡ true
    → allows passage (Table table (Part part WholePart)) right ≡ true → allows passage (row_resource tables q) right ≡ true
allowed_in_part (Covered footprint uncovered) tables table part q right e c = covers_in_part tables footprint.now table part q right e c
allowed_in_part Recorded tables table part q right e c = refl
