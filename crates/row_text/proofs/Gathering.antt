-- The rows of a table are those of its partitions.
use Rattle.std.proofs.Common.{◌≡◌, ℕ, ◌+◌, ◌<◌, ◌≤◌, ◌==◌, ◌&&◌, ◌||◌, Bool, true, false, cond, nat_lt, nat_le, unwrap_or, List, [], ◌∷◌, ◌++◌, drop, length, map, take, Option, Some, None, option_map, slice_get, refl, sym, ap, ◌∙◌, subst, arith, Less, IsPermutation}
use Rattle.std.specs.Borrow.{Bor}
use Rattle.std.specs.List.{AllByRecursion}
use Rattle.std.specs.List.Sorted.{IsNonDecreasingBy, IsStrictlySortedBy}
use Rattle.std.specs.Ordering.{nat_cmp}
use Rattle.std.specs.FinMap.{entries, entries_sorted, get-entries}
use Rattle.std.specs.FinMap.Entries.{find-where_key, is_sorted-where_key, same_entries}
use Rattle.std.proofs.lemmas.Bool.Decides.{nat_tests}
use Rattle.std.proofs.lemmas.List.{map-append, take_at}
use Rattle.std.proofs.lemmas.List.Elements.{filter_agree}
use Rattle.std.proofs.lemmas.List.Sums.{count_by-le-length}
use Rattle.std.proofs.lemmas.List.Sorted.{IsPermutation-append_left, IsPermutation-cons, IsPermutation-map, IsPermutation-middle, IsPermutation-refl, IsPermutation-sym, IsPermutation-trans}
use Rattle.values.specs.declared.name.RowName.{RowName}
use Rattle.catalogue.specs.Shapes.{SplitShape, by_remainder, at_bounds, partitions, part_with, TableShape}
use Rattle.catalogue.specs.Places.{partition_of}
use Rattle.values.specs.Database.{Database, RowOf, name_cmp}
use Rattle.meaning.proofs.Partitions.{get_part}
use Rattle.workspace.specs.Scan.{by_key, is_in_part, part_rows, referred, rows_in_part}
use Rattle.row_text.specs.Merge.{is_of_table, rows_of}
use Rattle.row_text.proofs.MergedRows.{Ascends, Below, Rows, ascends, exact_names, kept, names_total, none_of_none}
use Rattle.row_text.proofs.Sorting.{keys, non_falling_keys, sorted_is}

-- ---- a list in two parts

one_more : {X : Type 0} (b c : Bool) (e : X) (rs ps qs : List X) → (b && c) ≡ false → IsPermutation rs (ps ++ qs) → IsPermutation (cond (b || c) (e ∷ rs) rs) (cond b (e ∷ ps) ps ++ cond c (e ∷ qs) qs)
one_more true true e rs ps qs apart h = absurd cc
one_more true false e rs ps qs apart h = IsPermutation-cons e rs (ps ++ qs) h
one_more false true e rs ps qs apart h =
    IsPermutation-trans (e ∷ rs) (e ∷ (ps ++ qs)) (ps ++ e ∷ qs) (IsPermutation-cons e rs (ps ++ qs) h) (IsPermutation-sym (ps ++ e ∷ qs) (e ∷ (ps ++ qs)) (IsPermutation-middle ps e qs))
one_more false false e rs ps qs apart h = h

in_two : (P Q R : RowName → Bool) → ((q : RowName) → R q ≡ (P q || Q q)) → ((q : RowName) → (P q && Q q) ≡ false) → (es : Rows) → IsPermutation (kept R es) (kept P es ++ kept Q es)
in_two P Q R is apart [] = IsPermutation-refl []
in_two P Q R is apart (e ∷ es) =
    subst (λ b. IsPermutation (cond b (e ∷ kept R es) (kept R es)) (cond (P e.0) (e ∷ kept P es) (kept P es) ++ cond (Q e.0) (e ∷ kept Q es) (kept Q es)))
    (sym (is e.0)) (one_more (P e.0) (Q e.0) e (kept R es) (kept P es) (kept Q es) (apart e.0) (in_two P Q R is apart es))

-- ---- partition by partition

-- the name is of one of the first partitions of a table
abbrev pub is_before : List TableShape → ℕ → ℕ → RowName → Bool
is_before tables table count q = (q.table == table) && nat_lt (unwrap_or (partition_of tables table q.key) 0) count

no_less : (n : ℕ) → nat_lt n 0 ≡ false
no_less n = grind (arith, nat_tests)

and_false : (b : Bool) → (b && false) ≡ false
and_false true = refl
and_false false = refl

pub none_before : (tables : List TableShape) (table : ℕ) (db : Database) (gathered : List (ℕ × Bor RowOf)) → gathered ≡ [] → IsPermutation (by_key (kept (is_before tables table 0) (entries db))) (referred gathered)
none_before tables table db gathered none =
    subst (λ rows. IsPermutation (by_key rows) (referred gathered))
    (sym (none_of_none (is_before tables table 0) (entries db) (λ q. ap (λ b. (q.table == table) && b) (no_less (unwrap_or (partition_of tables table q.key) 0)) ∙ and_false (q.table == table))))
    (subst (λ xs. IsPermutation [] (referred xs)) (sym none) (IsPermutation-refl []))

more_is : (b : Bool) (n part : ℕ) → (b && nat_lt n (part + 1)) ≡ ((b && nat_lt n part) || (b && (n == part)))
more_is b n part = grind (arith, nat_tests)

more_apart : (b : Bool) (n part : ℕ) → ((b && nat_lt n part) && (b && (n == part))) ≡ false
more_apart b n part = grind (arith, nat_tests)

-- the rows of a partition in order
pub part_kept : (tables : List TableShape) (table part : ℕ) (db : Database) → entries (part_rows tables table part db) ≡ kept (is_in_part tables table part) (entries db)
part_kept tables table part db =
    let P : RowName → Bool = is_in_part tables table part in
    same_entries name_cmp names_total exact_names (entries (part_rows tables table part db)) (kept P (entries db))
    (entries_sorted (part_rows tables table part db)) (is_sorted-where_key name_cmp P (entries db) (entries_sorted db)) (λ q.
    sym (get-entries (part_rows tables table part db) q) ∙ get_part tables table part db q ∙ ap (λ o. cond (P q) o None) (get-entries db q)
    ∙ sym (find-where_key name_cmp P q (λ x e. ap P (sym (exact_names q x e))) (entries db)))

key_of : RowName × RowOf → ℕ × RowOf
key_of e = (e.0.key, e.1)

pub more_gathered : (tables : List TableShape) (table part : ℕ) (db : Database) (old new : List (ℕ × Bor RowOf)) → IsPermutation (by_key (kept (is_before tables table part) (entries db))) (referred old)
    → referred new ≡ referred old ++ rows_in_part tables table part db → IsPermutation (by_key (kept (is_before tables table (part + 1)) (entries db))) (referred new)
more_gathered tables table part db old new before is =
    let es : Rows = entries db in
    let front : Rows = kept (is_before tables table part) es in
    let back : Rows = kept (is_in_part tables table part) es in
    let both : IsPermutation (kept (is_before tables table (part + 1)) es) (front ++ back) =
    in_two (is_before tables table part) (is_in_part tables table part) (is_before tables table (part + 1))
    (λ q. more_is (q.table == table) (unwrap_or (partition_of tables table q.key) 0) part) (λ q. more_apart (q.table == table) (unwrap_or (partition_of tables table q.key) 0) part) es in
    let now : referred new ≡ referred old ++ by_key back = is ∙ ap (λ rows. referred old ++ by_key rows) (part_kept tables table part db) in
    subst (IsPermutation (by_key (kept (is_before tables table (part + 1)) es))) (sym now)
    (IsPermutation-trans _ (by_key front ++ by_key back) _
    (subst (IsPermutation (by_key (kept (is_before tables table (part + 1)) es))) (map-append _ front back) (IsPermutation-map _ _ (front ++ back) both))
    (IsPermutation-append_left (by_key back) (by_key front) (referred old) before))

-- ---- all partitions

within : (split : SplitShape) (key : ℕ) → 1 ≤ partitions split → part_with split key < partitions split
within (by_remainder count) key some = grind (arith, some)
within (at_bounds bounds) key some = let few = count_by-le-length (λ bound. nat_le bound key) bounds in omega (arith, few)

in_all : (key count : ℕ) (shape : Option TableShape) → Some count ≡ option_map (λ t. partitions t.split) shape → 1 ≤ count → nat_lt (unwrap_or (option_map (λ t. part_with t.split key) shape) 0) count ≡ true
in_all key count None is some = absurd cc
in_all key count (Some shape) is some =
    let same : count ≡ partitions shape.split = cc in
    let low : part_with shape.split key < count = subst (λ n. part_with shape.split key < n) (sym same) (within shape.split key (subst (λ n. 1 ≤ n) same some)) in
    grind (arith, nat_tests, low)

and_true : (b : Bool) → (b && true) ≡ b
and_true true = refl
and_true false = refl

pub all_gathered : (tables : List TableShape) (table count : ℕ) (db : Database) (gathered : List (ℕ × Bor RowOf)) → Some count ≡ option_map (λ t. partitions t.split) (slice_get tables table) → 1 ≤ count
    → IsPermutation (by_key (kept (is_before tables table count) (entries db))) (referred gathered) → IsPermutation (by_key (rows_of table db)) (referred gathered)
all_gathered tables table count db gathered is some h =
    subst (λ rows. IsPermutation (by_key rows) (referred gathered))
    (filter_agree (λ e. is_before tables table count e.0) (λ e. is_of_table table e.0)
    (λ e. ap (λ b. (e.0.table == table) && b) (in_all e.0.key count (slice_get tables table) is some) ∙ and_true (e.0.table == table)) (entries db)) h

-- ---- in order

less_key : (x y : RowName) (table : ℕ) → name_cmp x y ≡ Less → (x.table == table) ≡ true → (y.table == table) ≡ true → nat_cmp x.key y.key ≡ Less
less_key x y table l a b = grind (arith, nat_tests)

below_keys : (table : ℕ) (x : RowName) (es : Rows) → is_of_table table x ≡ true → Below x es → AllByRecursion (λ y. nat_cmp x.key y ≡ Less) (keys (by_key (kept (is_of_table table) es)))
below_keys table x [] of b = tt
below_keys table x (e ∷ es) of b = elim (is_of_table table e.0) as (λ (t : Bool). is_of_table table e.0 ≡ t → AllByRecursion (λ y. nat_cmp x.key y ≡ Less) (keys (by_key (cond t (e ∷ kept (is_of_table table) es) (kept (is_of_table table) es))))) [
  | true ↦ λ is. (less_key x e.0 table b.0 of is, below_keys table x es of b.1)
  | false ↦ λ is. below_keys table x es of b.1
] refl

rise : (table : ℕ) (es : Rows) → Ascends es → IsStrictlySortedBy nat_cmp (keys (by_key (kept (is_of_table table) es)))
unfolding IsStrictlySortedBy
rise table [] a = tt
rise table (e ∷ es) a = elim (is_of_table table e.0) as (λ (t : Bool). is_of_table table e.0 ≡ t → IsStrictlySortedBy nat_cmp (keys (by_key (cond t (e ∷ kept (is_of_table table) es) (kept (is_of_table table) es))))) [
  | true ↦ λ is. (below_keys table e.0 es is a.0, rise table es a.1)
  | false ↦ λ is. rise table es a.1
] refl

referred_keys : (rows : List (ℕ × Bor RowOf)) → map (λ e. e.0) rows ≡ keys (referred rows)
referred_keys [] = refl
referred_keys (row ∷ rows) = ap (λ ks. row.0 ∷ ks) (referred_keys rows)

-- elements that were moved within a slice of a Vec, and then sorted
pub moved_sorted : {X : Type 0} (items lent moved sorted : List X) (n : ℕ) → lent ≡ items → length moved ≡ n → IsPermutation lent moved →
    IsPermutation (take n (moved ++ drop (length moved) items)) sorted → IsPermutation items sorted
moved_sorted {X} items lent moved sorted n e l p q =
    IsPermutation-trans items moved sorted (subst (λ (xs : List X). IsPermutation xs moved) e p)
    (subst (λ (xs : List X). IsPermutation xs sorted) (take_at moved (drop (length moved) items) n l) q)

-- rows that were gathered, in the order of their keys
pub sorted_rows : (table : ℕ) (db : Database) (old new : List (ℕ × Bor RowOf)) → IsPermutation (by_key (rows_of table db)) (referred old) → IsPermutation old new → IsNonDecreasingBy (λ e. e.0) new
    → referred new ≡ by_key (rows_of table db)
sorted_rows table db old new gathered moved up =
    sorted_is (by_key (rows_of table db)) (referred new) (IsPermutation-trans _ (referred old) _ gathered (IsPermutation-map _ old new moved))
    (rise table (entries db) (ascends (entries db) (entries_sorted db))) (non_falling_keys (λ e. e.0) new (keys (referred new)) (referred_keys new) up)
