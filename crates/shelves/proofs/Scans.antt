-- A walk over the places of a shelf in order comes to the next row of a partition.
use Rattle.std.proofs.Common.{◌≡◌, ℕ, Bool, true, false, cond, if◌then◌else◌, ◌&&◌, ◌==◌, List, [], ◌∷◌, refl, sym, ap, subst, ◌∙◌, Option, Some, None, unwrap_or, Ordering, Less, Equal, Greater, arith, map}
use Rattle.std.specs.Prelude.{nat_lt}
use Rattle.std.specs.List.{AllByRecursion, filter}
use Rattle.std.specs.List.Sorted.{IsStrictlySortedBy}
use Rattle.std.specs.Ordering.{is_eq, is_lt}
use Rattle.std.specs.BTreeMap.{is_at}
use Rattle.std.specs.BTreeMap.Range.{range_contains, entries_between}
use Rattle.std.specs.declared.ops.Bound.TheVariants.{Unbounded}
use Rattle.std.specs.Map.{lookup}
use Rattle.std.specs.FinMap.{get}
use Rattle.std.proofs.lemmas.Bool.Decides.{nat_tests}
use Rattle.std.proofs.lemmas.Map.Entries.{lookup-filter-keys}
use Rattle.values.specs.declared.name.RowName.{RowName}
use Rattle.catalogue.specs.Shapes.{TableShape}
use Rattle.values.specs.Database.{Database, RowOf, name_cmp}
use Rattle.workspace.specs.Scan.{is_ahead, is_in_part, is_after, IsNext, IsNextRow}
use Rattle.shelves.specs.declared.place.Place.{Place}
use Rattle.std.specs.BTreeMap as tree
use Rattle.catalogue.specs.Places.{partition_of}
use Rattle.footprint.specs.Tree.{resource_cmp}
use Rattle.shelves.specs.declared.shelf.Shelf.{Shelf}
use Rattle.shelves.specs.Places.{Shelves, row_of, seen_in, seen_on, seen_at, standing}
use Rattle.shelves.specs.Shelving.{shelf_of, shelf_at}
use Rattle.shelves.specs.Rows.{found}
use Rattle.shelves.specs.Scans.{scan_start}
use Rattle.shelves.proofs.Exact.{names_total, exact_names}

abbrev at : RowName → List (RowName × Place) → Option Place
at q es = lookup (is_at (name_cmp q)) es

-- the row that stands there
abbrev pub stands : Option Place → Option RowOf
stands o = standing o

pub record IsLeft (tables : List TableShape) (table part : ℕ) (after : Option ℕ) (all rest : List (RowName × Place)) : Type 0 where
  pub left : (q : RowName) → is_ahead tables table part after q ≡ true → stands (lookup (is_at (name_cmp q)) all) ≡ stands (lookup (is_at (name_cmp q)) rest)
  pub sorted : IsStrictlySortedBy name_cmp (map (λ e. e.0) rest)

is_equal : (o : Ordering) → is_eq o ≡ true → o ≡ Equal
is_equal Less e = absurd (cc)
is_equal Equal e = refl
is_equal Greater e = absurd (cc)

tail_sorted : (e : RowName × Place) (rest : List (RowName × Place)) → IsStrictlySortedBy name_cmp (map (λ e. e.0) (e ∷ rest)) → IsStrictlySortedBy name_cmp (map (λ e. e.0) rest)
unfolding IsStrictlySortedBy
tail_sorted e rest s = s.1

head_sorted : (e : RowName × Place) (rest : List (RowName × Place)) → IsStrictlySortedBy name_cmp (map (λ e. e.0) (e ∷ rest)) → AllByRecursion (λ y. name_cmp e.0 y ≡ Less) (map (λ e. e.0) rest)
unfolding IsStrictlySortedBy
head_sorted e rest s = s.0

-- a name below all has no place among them
below_all : (q : RowName) (es : List (RowName × Place)) → AllByRecursion (λ y. name_cmp q y ≡ Less) (map (λ e. e.0) es) → at q es ≡ None
below_all q [] h = refl
below_all q (e ∷ es) h = ap (λ (o : Ordering). cond (is_eq o) (Some e.1) (at q es)) h.0 ∙ below_all q es h.1

both_true : (a b : Bool) → a && b ≡ true → (a ≡ true) × (b ≡ true)
both_true true b e = (refl, e)
both_true false b e = absurd (cc)

table_is : (n m : ℕ) → (n == m) ≡ true → n ≡ m
table_is n m e = grind (arith, nat_tests)

pub of_table : (tables : List TableShape) (table part : ℕ) (after : Option ℕ) (q : RowName) → is_ahead tables table part after q ≡ true → q.table ≡ table
of_table tables table part after q a = table_is q.table table (both_true (q.table == table) _ (both_true _ _ a).0).0

lesser : (q r : RowName) → q.table ≡ r.table → nat_lt q.key r.key ≡ true → name_cmp q r ≡ Less
lesser q r t l = grind (arith, nat_tests)

itself : (q : RowName) → is_at (name_cmp q) q ≡ true
itself q = grind (arith, nat_tests)

below_more : (q r : RowName) (es : List (RowName × Place)) → name_cmp q r ≡ Less → AllByRecursion (λ y. name_cmp r y ≡ Less) (map (λ e. e.0) es) → AllByRecursion (λ y. name_cmp q y ≡ Less) (map (λ e. e.0) es)
below_more q r [] l h = tt
below_more q r (e ∷ es) l h = (names_total.trans q r e.0 l h.0, below_more q r es l h.1)

if_true : (b : Bool) (x o : Option RowOf) → (if b then x else None) ≡ o → b ≡ true → x ≡ o
if_true true x o h e = h
if_true false x o h e = absurd (cc)

-- the place that is passed has no row, or is not ahead
pub left_on : (tables : List TableShape) (table part : ℕ) (after : Option ℕ) (all : List (RowName × Place)) (e : RowName × Place) (rest : List (RowName × Place))
    → IsLeft tables table part after all (e ∷ rest) → (if is_ahead tables table part after e.0 then row_of e.1 else None) ≡ None → IsLeft tables table part after all rest
left_on tables table part after all e rest l miss = record {
  left = λ q a. l.left q a ∙ elim (is_at (name_cmp q) e.0) as (λ (b : Bool). is_at (name_cmp q) e.0 ≡ b → stands (cond b (Some e.1) (at q rest)) ≡ stands (at q rest)) [
    | true ↦ λ is.
        let same : q ≡ e.0 = exact_names q e.0 (is_equal (name_cmp q e.0) is) in
        if_true (is_ahead tables table part after e.0) (row_of e.1) None miss (ap (is_ahead tables table part after) (sym same) ∙ a)
        ∙ ap stands (sym (ap (λ x. at x rest) same ∙ below_all e.0 rest (head_sorted e rest l.sorted)))
    | false ↦ λ is. refl
  ] refl;
  sorted = tail_sorted e rest l.sorted;
}

pub left_none : (tables : List TableShape) (table part : ℕ) (after : Option ℕ) (all : List (RowName × Place)) (db : Database)
    → ((q : RowName) → is_in_part tables table part q ≡ true → get db q ≡ stands (lookup (is_at (name_cmp q)) all))
    → IsLeft tables table part after all [] → IsNext tables db table part after None
left_none tables table part after all db shown l = λ q a. shown q (both_true (is_in_part tables table part q) (is_after after q.key) a).0 ∙ l.left q a

ahead_if : (b : Bool) (x : Option RowOf) (row : RowOf) → (if b then x else None) ≡ Some row → (b ≡ true) × (x ≡ Some row)
ahead_if true x row h = (refl, h)
ahead_if false x row h = absurd (cc)

pub left_found : (tables : List TableShape) (table part : ℕ) (after : Option ℕ) (all : List (RowName × Place)) (e : RowName × Place) (rest : List (RowName × Place)) (row : RowOf) (db : Database)
    → ((q : RowName) → is_in_part tables table part q ≡ true → get db q ≡ stands (lookup (is_at (name_cmp q)) all))
    → IsLeft tables table part after all (e ∷ rest) → (if is_ahead tables table part after e.0 then row_of e.1 else None) ≡ Some row
    → IsNextRow tables db table part after (e.0.key, row)
left_found tables table part after all e rest row db shown l hit =
    let is = ahead_if (is_ahead tables table part after e.0) (row_of e.1) row hit in
    let here : e.0.table ≡ table = of_table tables table part after e.0 is.0 in
    let name : ◌≡◌ {A = RowName} (record { table = table; key = e.0.key }) e.0 = λ i. record { table = sym here i; key = e.0.key } in
    record {
      ahead = ap (is_ahead tables table part after) name ∙ is.0;
      row =
          ap (get db) name ∙ shown e.0 (both_true (is_in_part tables table part e.0) (is_after after e.0.key) is.0).0 ∙ l.left e.0 is.0
          ∙ ap (λ b. stands (cond b (Some e.1) (at e.0 rest))) (itself e.0) ∙ is.1;
      least = λ q b less.
          let below : name_cmp q e.0 ≡ Less = lesser q e.0 (of_table tables table part after q b ∙ sym here) less in
          shown q (both_true (is_in_part tables table part q) (is_after after q.key) b).0 ∙ l.left q b
          ∙ ap stands (below_all q (e ∷ rest) (below, below_more q e.0 rest below (head_sorted e rest l.sorted)));
    }

-- ---- the start

all_kept : (P : RowName → Type 0) (keep : RowName × Place → Bool) (es : List (RowName × Place)) → AllByRecursion P (map (λ e. e.0) es) → AllByRecursion P (map (λ e. e.0) (filter keep es))
all_kept P keep [] h = tt
all_kept P keep (e ∷ es) h = elim (keep e) as (λ (b : Bool). AllByRecursion P (map (λ e. e.0) (cond b (e ∷ filter keep es) (filter keep es)))) [
  | true ↦ (h.0, all_kept P keep es h.1)
  | false ↦ all_kept P keep es h.1
]

kept_sorted : (keep : RowName × Place → Bool) (es : List (RowName × Place)) → IsStrictlySortedBy name_cmp (map (λ e. e.0) es) → IsStrictlySortedBy name_cmp (map (λ e. e.0) (filter keep es))
unfolding IsStrictlySortedBy
kept_sorted keep [] s = tt
kept_sorted keep (e ∷ es) s = elim (keep e) as (λ (b : Bool). IsStrictlySortedBy name_cmp (map (λ e. e.0) (cond b (e ∷ filter keep es) (filter keep es)))) [
  | true ↦ (all_kept (λ y. name_cmp e.0 y ≡ Less) keep es s.0, kept_sorted keep es s.1)
  | false ↦ kept_sorted keep es s.1
]

-- what is ahead is in the range
in_range : (tables : List TableShape) (table part : ℕ) (after : Option ℕ) (q : RowName) → is_ahead tables table part after q ≡ true
    → range_contains name_cmp (scan_start table after) Unbounded q ≡ true
in_range tables table part None q a = refl
in_range tables table part (Some key) q a =
    let less : name_cmp (record { table = table; key = key }) q ≡ Less =
    lesser (record { table = table; key = key }) q (sym (of_table tables table part (Some key) q a)) (both_true (is_in_part tables table part q) (nat_lt key q.key) a).1 in
    ap (λ (o : Ordering). is_lt o && true) less

pub left_start : (tables : List TableShape) (table part : ℕ) (after : Option ℕ) (all rest : List (RowName × Place)) → IsStrictlySortedBy name_cmp (map (λ e. e.0) all)
    → rest ≡ entries_between name_cmp (scan_start table after) Unbounded all → IsLeft tables table part after all rest
left_start tables table part after all rest s is = record {
  left = λ q a.
      ap stands (sym
      (ap (at q) is
      ∙ lookup-filter-keys (is_at (name_cmp q)) (range_contains name_cmp (scan_start table after) Unbounded) (range_contains name_cmp (scan_start table after) Unbounded q)
      (λ k h. ap (range_contains name_cmp (scan_start table after) Unbounded) (sym (exact_names q k (is_equal (name_cmp q k) h)))) all
      ∙ ap (λ b. cond b (at q all) None) (in_range tables table part after q a)));
  sorted = subst (λ es. IsStrictlySortedBy name_cmp (map (λ e. e.0) es)) (sym is) (kept_sorted (λ e. range_contains name_cmp (scan_start table after) Unbounded e.0) all s);
}

-- ---- the shelf of a partition

pub part_shelf : (tables : List TableShape) (table part : ℕ) (q : RowName) → is_in_part tables table part q ≡ true → shelf_of tables q ≡ shelf_at tables table part
unfolding shelf_of
part_shelf tables table part q h =
    let both = both_true (q.table == table) (unwrap_or (partition_of tables table q.key) 0 == part) h in
    ap (λ t. shelf_at tables t (unwrap_or (partition_of tables t q.key) 0)) (table_is q.table table both.0)
    ∙ ap (shelf_at tables table) (table_is (unwrap_or (partition_of tables table q.key) 0) part both.1)

on_shelf : (o : Option Shelf) (s : Shelf) (q : RowName) → o ≡ Some s → (seen_on o q).row ≡ (seen_in s q).row
on_shelf o s q is = ap (λ x. (seen_on x q).row) is

pub shelf_found : (tables : List TableShape) (shelves : Shelves) (shelf : Shelf) (table part : ℕ) (q : RowName) → is_in_part tables table part q ≡ true
    → tree.get resource_cmp shelves (shelf_at tables table part) ≡ Some shelf → (found tables shelves q).row ≡ (seen_in shelf q).row
shelf_found tables shelves shelf table part q h is =
    ap (λ d. (seen_at shelves d q).row) (part_shelf tables table part q h) ∙ on_shelf (tree.get resource_cmp shelves (shelf_at tables table part)) shelf q is

no_shelf : (o : Option Shelf) (q : RowName) → o ≡ None → (seen_on o q).row ≡ None
no_shelf o q is = ap (λ x. (seen_on x q).row) is

pub nothing_found : (tables : List TableShape) (shelves : Shelves) (table part : ℕ) (after : Option ℕ) (db : Database)
    → tree.get resource_cmp shelves (shelf_at tables table part) ≡ None
    → ((q : RowName) → is_in_part tables table part q ≡ true → get db q ≡ (found tables shelves q).row) → IsNext tables db table part after None
nothing_found tables shelves table part after db is shown = λ q a.
    let h = (both_true (is_in_part tables table part q) (is_after after q.key) a).0 in
    shown q h ∙ ap (λ d. (seen_at shelves d q).row) (part_shelf tables table part q h) ∙ no_shelf (tree.get resource_cmp shelves (shelf_at tables table part)) q is
