-- The rows of a partition, name by name.
use Rattle.std.proofs.Common.{◌≡◌, ℕ, Bool, true, false, cond, ◌&&◌, ◌||◌, ◌==◌, List, refl, sym, ap, ◌∙◌, subst, Option, None, arith}
use Rattle.std.specs.Prelude.{unwrap_or}
use Rattle.std.specs.FinMap.{get, get-retain_keys, same_map}
use Rattle.std.proofs.lemmas.Bool.Decides.{nat_tests}
use Rattle.values.specs.declared.name.RowName.{RowName}
use Rattle.catalogue.specs.Shapes.{TableShape}
use Rattle.catalogue.specs.Places.{partition_of}
use Rattle.values.specs.Database.{Database, RowOf}
use Rattle.proclang_types.specs.declared.right.Right.{Right}
use Rattle.proclang_types.specs.declared.right.Right.TheVariants.{Read}
use Rattle.footprint.specs.declared.resource.Resource.TheVariants.{Table}
use Rattle.footprint.specs.declared.resource.InTable.TheVariants.{Part}
use Rattle.footprint.specs.declared.resource.InPart.TheVariants.{WholePart, Row}
use Rattle.footprint.specs.Rights.{FootprintOf, covers, covers_row, is_at_least}
use Rattle.meaning.specs.Partitions.{is_in_part, part_rows}
use Rattle.meaning.proofs.Names.{names_total, exact_names}

pub both_true : (a b : Bool) → (a && b) ≡ true → (a ≡ true) × (b ≡ true)
both_true true b e = (refl, e)
both_true false b e = absurd (cc)

same_number : (a b : ℕ) → (a == b) ≡ true → a ≡ b
same_number a b e = grind (arith, nat_tests)

-- a name of a partition has its table
pub in_table : (tables : List TableShape) (table part : ℕ) (q : RowName) → is_in_part tables table part q ≡ true → q.table ≡ table
in_table tables table part q e = same_number q.table table (both_true (q.table == table) (unwrap_or (partition_of tables table q.key) 0 == part) e).0

or_right : (a b : Bool) → b ≡ true → (a || b) ≡ true
or_right true b e = refl
or_right false b e = e

-- a right on a partition is one on each of its names
pub covers_in_part : (tables : List TableShape) (fo : FootprintOf) (table part : ℕ) (q : RowName) (right : Right) → is_in_part tables table part q ≡ true
    → covers fo (Table table (Part part WholePart)) right ≡ true → covers_row tables fo q right ≡ true
covers_in_part tables fo table part q right e c =
    let t : q.table ≡ table = in_table tables table part q e in
    let p : unwrap_or (partition_of tables table q.key) 0 ≡ part = same_number _ _ (both_true (q.table == table) (unwrap_or (partition_of tables table q.key) 0 == part) e).1 in
    let w : unwrap_or (partition_of tables q.table q.key) 0 ≡ part = ap (λ (n : ℕ). unwrap_or (partition_of tables n q.key) 0) t ∙ p in
    or_right (is_at_least right (get fo (Table q.table (Part (unwrap_or (partition_of tables q.table q.key) 0) (Row q.key))))) _
    (subst (λ (n : ℕ). covers fo (Table q.table (Part n WholePart)) right ≡ true) (sym w) (subst (λ (n : ℕ). covers fo (Table n (Part part WholePart)) right ≡ true) (sym t) c))

-- at a name of the partition there is what was there, and else nothing
pub get_part : (tables : List TableShape) (table part : ℕ) (db : Database) (q : RowName) → get (part_rows tables table part db) q ≡ cond (is_in_part tables table part q) (get db q) None
get_part tables table part db q = get-retain_keys db (is_in_part tables table part) q (λ x e. ap (is_in_part tables table part) (sym (exact_names q x e)))

kept_alike : (b : Bool) (o now : Option RowOf) → (b ≡ true → now ≡ o) → cond b now None ≡ cond b o None
kept_alike true o now h = h refl
kept_alike false o now h = refl

-- a covered scan finds the same in databases that agree on what is covered
pub alike_in_part : (tables : List TableShape) (fo : FootprintOf) (table part : ℕ) (one two : Database)
    → ((q : RowName) → covers_row tables fo q Read ≡ true → get two q ≡ get one q) → covers fo (Table table (Part part WholePart)) Read ≡ true
    → part_rows tables table part two ≡ part_rows tables table part one
alike_in_part tables fo table part one two h c = same_map names_total exact_names _ _ (λ q.
    get_part tables table part two q
    ∙ kept_alike (is_in_part tables table part q) (get one q) (get two q) (λ e. h q (covers_in_part tables fo table part q Read e c))
    ∙ sym (get_part tables table part one q))
