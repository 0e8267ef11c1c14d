-- The shelves of tables.
use Rattle.std.proofs.Common.{◌≡◌, ◌<◌, ℕ, pos, Bool, true, false, ◌&&◌, ◌||◌, ◌==◌, if◌then◌else◌, List, [], ◌∷◌, ◌++◌, length, refl, sym, ap, ◌∙◌, Option, Some, None, unwrap_or, option_and_then, slice_get, arith, Ordering, Less, Equal, Greater}
use Rattle.std.specs.Prelude.{nat_lt}
use Rattle.std.proofs.lemmas.Bool.Decides.{nat_tests}
use Rattle.std.proofs.lemmas.Option.{slice_get_within}
use Rattle.std.specs.Ordering.{is_eq, nat_cmp, ordering_then}
use Rattle.values.specs.declared.name.RowName.{RowName}
use Rattle.catalogue.specs.Shapes.{TableShape, partitions}
use Rattle.catalogue.specs.Places.{partition_of, partition_numbered}
use Rattle.footprint.specs.declared.resource.Resource.{Resource}
use Rattle.footprint.specs.declared.resource.Resource.TheVariants.{Db, Table}
use Rattle.footprint.specs.declared.resource.InTable.TheVariants.{WholeTable, Part}
use Rattle.footprint.specs.declared.resource.InPart.TheVariants.{WholePart, Row}
use Rattle.coarsen.specs.Subtrees.{holds}
use Rattle.shelves.specs.Places.{is_same_shelf, among}
use Rattle.shelves.specs.Shelving.{shelf_of, shelf_at, shelf_in, shelf_numbered}
use Rattle.row_store.specs.Locked.{is_part_below, is_table_below}

-- a partition's number is the one that was asked for
number_in : (s : Option TableShape) (n p : ℕ) → option_and_then (λ (t : TableShape). if nat_lt n (partitions t.split) then Some n else None) s ≡ Some p → p ≡ n
number_in None n p e = absurd (cc)
number_in (Some s) n p e = elim (nat_lt n (partitions s.split)) as (λ (b : Bool). (if b then Some n else None) ≡ Some p → p ≡ n) [
  | true ↦ λ is. cc
  | false ↦ λ is. absurd (cc)
] e

pub number_is : (tables : List TableShape) (table n p : ℕ) → partition_numbered tables table (pos n) ≡ Some p → p ≡ n
number_is tables table n p e = number_in (slice_get tables table) n p e

pub same_number : (a b : ℕ) → (a == b) ≡ true → a ≡ b
same_number a b e = grind (arith, nat_tests)

pub eq_table : (a b : ℕ) → is_eq (nat_cmp a b) ≡ (a == b)
eq_table a b = grind (arith, nat_tests)

pub both_eq : (x y : Ordering) → is_eq (ordering_then x y) ≡ (is_eq x && is_eq y)
both_eq Less y = refl
both_eq Equal y = refl
both_eq Greater y = refl

pub and_false : (b : Bool) → b && false ≡ false
and_false true = refl
and_false false = refl

pub and_true : (b : Bool) → b && true ≡ b
and_true true = refl
and_true false = refl

pub or_false : (b : Bool) → b || false ≡ b
or_false true = refl
or_false false = refl

own_shelf : (a b : ℕ) → (is_same_shelf (Table a WholeTable) (Table b WholeTable) || false) ≡ (a == b)
own_shelf a b = or_false _ ∙ both_eq (nat_cmp a b) Equal ∙ and_true (is_eq (nat_cmp a b)) ∙ eq_table a b

not_own : (a b p : ℕ) → is_same_shelf (Table a WholeTable) (Table b (Part p WholePart)) ≡ false
not_own a b p = both_eq (nat_cmp a b) Less ∙ and_false (is_eq (nat_cmp a b))

or_assoc : (a b c : Bool) → a || (b || c) ≡ (a || b) || c
or_assoc true b c = refl
or_assoc false b c = refl

below : (n p count : ℕ) → (if nat_lt n count then Some n else None) ≡ None → nat_lt p count ≡ true → nat_lt p n ≡ true
below n p count none is = elim (nat_lt n count) as (λ (b : Bool). nat_lt n count ≡ b → (if b then Some n else None) ≡ None → nat_lt p n ≡ true) [
  | true ↦ λ on e. absurd (cc)
  | false ↦ λ on e. grind (arith, nat_tests)
] refl none

both_or : (b c : Bool) → (b ≡ true → c ≡ true) → (b && c) ≡ b
both_or true c h = h refl
both_or false c h = refl

-- where a table has no partition with a number, its shelves are its own and those of lesser partitions
table_part : (table n t p : ℕ) (s : Option TableShape) → (table ≡ t → option_and_then (λ (x : TableShape). if nat_lt n (partitions x.split) then Some n else None) s ≡ None)
    → (is_same_shelf (Table table WholeTable) (shelf_numbered t (option_and_then (λ (x : TableShape). if nat_lt p (partitions x.split) then Some p else None) s)) || is_part_below table n (shelf_numbered t (option_and_then (λ (x : TableShape). if nat_lt p (partitions x.split) then Some p else None) s)))
    ≡ (table == t)
table_part table n t p None none = own_shelf table t
table_part table n t p (Some s) none = elim (nat_lt p (partitions s.split)) as (λ (b : Bool). nat_lt p (partitions s.split) ≡ b → (is_same_shelf (Table table WholeTable) (shelf_numbered t (if b then Some p else None)) || is_part_below table n (shelf_numbered t (if b then Some p else None))) ≡ (table == t)) [
  | true ↦ λ is. ap (λ x. x || ((table == t) && nat_lt p n)) (not_own table t p) ∙ both_or (table == t) (nat_lt p n) (λ e. below n p (partitions s.split) (none (same_number table t e)) is)
  | false ↦ λ is. own_shelf table t
] refl

pub under_table : (table t : ℕ) (m : Option ℕ) → holds (Table table WholeTable) (shelf_numbered t m) ≡ (table == t)
under_table table t None = and_true (table == t)
under_table table t (Some p) = and_true (table == t)

pub all_parts : (tables : List TableShape) (table n : ℕ) → partition_numbered tables table (pos n) ≡ None → (q : RowName)
    → (is_same_shelf (Table table WholeTable) (shelf_of tables q) || is_part_below table n (shelf_of tables q)) ≡ holds (Table table WholeTable) (shelf_of tables q)
unfolding shelf_of shelf_at
all_parts tables table n none q =
    let part : ℕ = unwrap_or (partition_of tables q.table q.key) 0 in
    elim (slice_get tables q.table) as (λ (s : Option TableShape). (is_same_shelf (Table table WholeTable) (shelf_in tables q.table part s) || is_part_below table n (shelf_in tables q.table part s)) ≡ holds (Table table WholeTable) (shelf_in tables q.table part s)) [
      | None ↦ refl
      | Some s ↦
          table_part table n q.table part (slice_get tables q.table) (λ e. ap (λ t. partition_numbered tables t (pos n)) (sym e) ∙ none)
          ∙ sym (under_table table q.table (partition_numbered tables q.table (pos part)))
    ]

below_all : (count t : ℕ) (m : Option ℕ) → t < count → (is_same_shelf Db (shelf_numbered t m) || is_table_below count (shelf_numbered t m)) ≡ true
below_all count t None l = grind (arith, nat_tests)
below_all count t (Some p) l = grind (arith, nat_tests)

pub all_tables : (tables : List TableShape) (q : RowName) → (is_same_shelf Db (shelf_of tables q) || is_table_below (length tables) (shelf_of tables q)) ≡ true
unfolding shelf_of shelf_at
all_tables tables q =
    let part : ℕ = unwrap_or (partition_of tables q.table q.key) 0 in
    elim (slice_get tables q.table) as (λ (s : Option TableShape). slice_get tables q.table ≡ s → (is_same_shelf Db (shelf_in tables q.table part s) || is_table_below (length tables) (shelf_in tables q.table part s)) ≡ true) [
      | None ↦ λ is. refl
      | Some s ↦ λ is. below_all (length tables) q.table (partition_numbered tables q.table (pos part)) (slice_get_within tables q.table s is)
    ] refl

whole_part : (t p u : ℕ) (m : Option ℕ) → is_same_shelf (Table t (Part p WholePart)) (shelf_numbered u m) ≡ holds (Table t (Part p WholePart)) (shelf_numbered u m)
whole_part t p u None = both_eq (nat_cmp t u) Greater ∙ and_false (is_eq (nat_cmp t u)) ∙ sym (and_false (t == u))
whole_part t p u (Some r) =
    both_eq (nat_cmp t u) (ordering_then (nat_cmp p r) Equal) ∙ ap (λ b. is_eq (nat_cmp t u) && b) (both_eq (nat_cmp p r) Equal)
    ∙ ap (λ b. b && (is_eq (nat_cmp p r) && true)) (eq_table t u) ∙ ap (λ b. (t == u) && (b && true)) (eq_table p r)

one_part : (tables : List TableShape) (q : RowName) (t p : ℕ) → is_same_shelf (Table t (Part p WholePart)) (shelf_of tables q) ≡ holds (Table t (Part p WholePart)) (shelf_of tables q)
unfolding shelf_of shelf_at
one_part tables q t p =
    let part : ℕ = unwrap_or (partition_of tables q.table q.key) 0 in
    elim (slice_get tables q.table) as (λ (s : Option TableShape). is_same_shelf (Table t (Part p WholePart)) (shelf_in tables q.table part s) ≡ holds (Table t (Part p WholePart)) (shelf_in tables q.table part s)) [
      | None ↦ refl
      | Some s ↦ whole_part t p q.table (partition_numbered tables q.table (pos part))
    ]

row_of_part : (t p k u : ℕ) (m : Option ℕ) → holds (Table t (Part p (Row k))) (shelf_numbered u m) ≡ false
row_of_part t p k u None = and_false (t == u)
row_of_part t p k u (Some r) = ap (λ b. (t == u) && b) (and_false (p == r)) ∙ and_false (t == u)

pub no_row : (tables : List TableShape) (q : RowName) (t p k : ℕ) → holds (Table t (Part p (Row k))) (shelf_of tables q) ≡ false
unfolding shelf_of shelf_at
no_row tables q t p k = elim (slice_get tables q.table) as (λ (s : Option TableShape). holds (Table t (Part p (Row k))) (shelf_in tables q.table (unwrap_or (partition_of tables q.table q.key) 0) s) ≡ false) [
  | None ↦ refl
  | Some s ↦ row_of_part t p k q.table (partition_numbered tables q.table (pos (unwrap_or (partition_of tables q.table q.key) 0)))
]

among_more : (ds : List Resource) (r d : Resource) → among (ds ++ r ∷ []) d ≡ (among ds d || is_same_shelf r d)
among_more [] r d = or_false (is_same_shelf r d)
among_more (e ∷ ds) r d = ap (λ b. is_same_shelf e d || b) (among_more ds r d) ∙ or_assoc (is_same_shelf e d) (among ds d) (is_same_shelf r d)

-- the resource is a partition
abbrev pub is_partition : Resource → Bool
is_partition Db = false
is_partition (Table t WholeTable) = false
is_partition (Table t (Part p WholePart)) = true
is_partition (Table t (Part p (Row k))) = false

partition_shelf : (tables : List TableShape) (r : Resource) → is_partition r ≡ true → (q : RowName) → is_same_shelf r (shelf_of tables q) ≡ holds r (shelf_of tables q)
partition_shelf tables Db h q = absurd (cc)
partition_shelf tables (Table t WholeTable) h q = absurd (cc)
partition_shelf tables (Table t (Part p WholePart)) h q = one_part tables q t p
partition_shelf tables (Table t (Part p (Row k))) h q = absurd (cc)

pub part_added : (tables : List TableShape) (old new : List Resource) (r : Resource) → is_partition r ≡ true → new ≡ old ++ r ∷ []
    → (q : RowName) → among new (shelf_of tables q) ≡ (among old (shelf_of tables q) || holds r (shelf_of tables q))
part_added tables old new r is more q =
    ap (λ ds. among ds (shelf_of tables q)) more ∙ among_more old r (shelf_of tables q)
    ∙ ap (λ b. among old (shelf_of tables q) || b) (partition_shelf tables r is q)
