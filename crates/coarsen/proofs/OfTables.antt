-- Resources of a catalogue: what is over one is one, and some row name stands under each.
use Rattle.std.proofs.Common.{◌≡◌, ℕ, ◌<◌, ◌^◌, ◌==◌, ◌&&◌, nat_lt, nat_le, count_by, cond, suc, zero, ◌+◌, ◌≤◌, true, false, List, [], ◌∷◌, length, refl, sym, ap, ◌∙◌, subst, arith, Some, None, option_map, unwrap_or, slice_get}
use Rattle.std.specs.List.{AllByRecursion}
use Rattle.std.proofs.Math.Nat.{mod-eq_of_lt}
use Rattle.std.proofs.lemmas.Bool.Decides.{nat_tests}
use Rattle.std.proofs.lemmas.Option.{slice_get_within}
use Rattle.std.proofs.lemmas.List.Sums.{sum_by-cons, count_by-le-length}
use Rattle.values.specs.declared.name.RowName.{RowName}
use Rattle.catalogue.specs.Shapes.{SplitShape, by_remainder, at_bounds, partitions, part_with, TableShape}
use Rattle.catalogue.specs.Places.{partition_of}
use Rattle.catalogue.specs.Rules.{AreRising, IsSplit, IsCatalogue, IsTable}
use Rattle.footprint.specs.declared.resource.InPart.TheVariants.{WholePart, Row}
use Rattle.footprint.specs.declared.resource.InTable.TheVariants.{WholeTable, Part}
use Rattle.footprint.specs.declared.resource.Resource.{Resource}
use Rattle.footprint.specs.declared.resource.Resource.TheVariants.{Db, Table}
use Rattle.footprint.specs.Tree.{row_resource}
use Rattle.footprint.specs.OfCatalogue.{IsRowName, IsResourceOf}
use Rattle.coarsen.specs.Subtrees.{holds}
use Rattle.coarsen.proofs.Tree.{both, and}

table_at : (ts : List TableShape) (t : ℕ) (s : TableShape) → AllByRecursion IsTable ts → slice_get ts t ≡ Some s → IsTable s
table_at [] t s h e = absurd (cc)
table_at (x ∷ ts) zero s h e = let same : x ≡ s = cc in subst IsTable same h.0
table_at (x ∷ ts) (suc t) s h e = table_at ts t s h.1 e

-- what a test says of a table that may be there
there : {Y : Type 0} (g : TableShape → Y) (ts : List TableShape) (t : ℕ) (y : Y) → option_map g (slice_get ts t) ≡ Some y
    → (s : TableShape) × (slice_get ts t ≡ Some s) × (g s ≡ y)
there g ts t y h = elim (slice_get ts t) as (λ o. option_map g o ≡ Some y → (s : TableShape) × (o ≡ Some s) × (g s ≡ y)) [
  | None ↦ λ e. absurd (cc)
  | Some s ↦ λ e. (s, refl, cc)
] h

within : {Y : Type 0} (g : TableShape → Y) (ts : List TableShape) (t : ℕ) (y : Y) → option_map g (slice_get ts t) ≡ Some y → t < length ts
within g ts t y h = let s = there g ts t y h in slice_get_within ts t s.0 s.1

same : (n m : ℕ) → (n == m) ≡ true → n ≡ m
same n m h = grind (arith, nat_tests)

equal : (n m : ℕ) → n ≡ m → (n == m) ≡ true
equal n m e = grind (arith, nat_tests, e)

below_test : (n m : ℕ) → n < m → nat_lt n m ≡ true
below_test n m h = grind (arith, nat_tests, h)

below : (n m : ℕ) → nat_lt n m ≡ true → n < m
below n m h = grind (arith, nat_tests, h)

in_table : (tables : List TableShape) (u t : ℕ) → (t == u) ≡ true → u < length tables → t < length tables
in_table tables u t h k = let e = same t u h in omega (arith, e, k)

-- a key's partition is one of its table's
in_split : (split : SplitShape) (k : ℕ) → IsSplit split → part_with split k < partitions split
in_split (by_remainder n) k is = let some = is.0 in omega (arith, some)
in_split (at_bounds bounds) k is = let few = count_by-le-length (λ b. nat_le b k) bounds in omega (arith, few)

key_in_part : (tables : List TableShape) → IsCatalogue tables → (t p k : ℕ) → partition_of tables t k ≡ Some p → option_map (λ s. nat_lt p (partitions s.split)) (slice_get tables t) ≡ Some true
key_in_part tables is t p k h =
    let s = there (λ s. part_with s.split k) tables t p h in
    let e : part_with s.0.split k ≡ p = s.2 in
    let low : p < partitions s.0.split = subst (λ n. n < partitions s.0.split) e (in_split s.0.split k (table_at tables t s.0 is.tables s.1).split) in
    ap (option_map (λ s. nat_lt p (partitions s.split))) s.1 ∙ ap Some (below_test p (partitions s.0.split) low)

-- what is over a resource of the catalogue is one
pub of_over : (tables : List TableShape) → IsCatalogue tables → (a b : Resource) → holds a b ≡ true → IsResourceOf tables b → IsResourceOf tables a
of_over tables is Db b h k = tt
of_over tables is (Table t a) Db h k = absurd (cc)
of_over tables is (Table t WholeTable) (Table u WholeTable) h k = in_table tables u t (both (t == u) true h).0 k
of_over tables is (Table t WholeTable) (Table u (Part q WholePart)) h k = in_table tables u t (both (t == u) true h).0 (within (λ s. nat_lt q (partitions s.split)) tables u true k)
of_over tables is (Table t WholeTable) (Table u (Part q (Row l))) h k = in_table tables u t (both (t == u) true h).0 (within (λ s. part_with s.split l) tables u q k.1)
of_over tables is (Table t (Part p a)) (Table u WholeTable) h k = let x = both (t == u) false h in absurd (cc)
of_over tables is (Table t (Part p WholePart)) (Table u (Part q WholePart)) h k =
    let x = both (t == u) ((p == q) && true) h in
    let y = both (p == q) true x.1 in
    let e = same t u x.0 in
    let f = same p q y.0 in
    ap (λ n. option_map (λ s. nat_lt n (partitions s.split)) (slice_get tables t)) f ∙ ap (λ n. option_map (λ s. nat_lt q (partitions s.split)) (slice_get tables n)) e ∙ k
of_over tables is (Table t (Part p WholePart)) (Table u (Part q (Row l))) h k =
    let x = both (t == u) ((p == q) && true) h in
    let y = both (p == q) true x.1 in
    let e = same t u x.0 in
    let f = same p q y.0 in
    ap (λ n. option_map (λ s. nat_lt n (partitions s.split)) (slice_get tables t)) f ∙ ap (λ n. option_map (λ s. nat_lt q (partitions s.split)) (slice_get tables n)) e ∙ key_in_part tables is u q l k.1
of_over tables is (Table t (Part p (Row m))) (Table u (Part q WholePart)) h k =
    let x = both (t == u) ((p == q) && false) h in let y = both (p == q) false x.1 in absurd (cc)
of_over tables is (Table t (Part p (Row m))) (Table u (Part q (Row l))) h k =
    let x = both (t == u) ((p == q) && (m == l)) h in
    let y = both (p == q) (m == l) x.1 in
    let e = same t u x.0 in
    let f = same p q y.0 in
    let g = same m l y.1 in
    (let i = k.0 in omega (arith, i, g), ap (λ n. partition_of tables n m) e ∙ ap (λ n. partition_of tables u n) g ∙ k.1 ∙ ap Some (sym f))

some_table : (tables : List TableShape) → IsCatalogue tables → 0 < length tables
some_table tables is = let h = is.named.some in omega (arith, h)

-- no bound above a key is at most it
none_passed : (k : ℕ) (bounds : List ℕ) (least : ℕ) → AreRising least bounds → k ≤ least → count_by (λ b. nat_le b k) bounds ≡ 0
none_passed k [] least rising low = refl
none_passed k (b ∷ bs) least rising low =
    let first = rising.0 in
    let above : nat_le b k ≡ false = grind (arith, nat_tests, first, low) in
    sum_by-cons (λ b. cond (nat_le b k) 1 0) b bs ∙ ap (λ t. cond t 1 0 + count_by (λ b. nat_le b k) bs) above
    ∙ omega (arith, none_passed k bs b rising.1 (omega (arith, first, low)))

-- a key that has passed so many bounds
passing : (bounds : List ℕ) (least p : ℕ) → AreRising least bounds → least < 2 ^ 63 → AllByRecursion (λ b. b < 2 ^ 63) bounds → p < length bounds + 1
    → (k : ℕ) × (k < 2 ^ 63) × (least ≤ k) × (count_by (λ b. nat_le b k) bounds ≡ p)
passing bounds least zero rising low signed at = (least, low, omega arith, none_passed least bounds least rising (omega arith))
passing [] least (suc p) rising low signed at = absurd (omega (arith, at))
passing (b ∷ bs) least (suc p) rising low signed at =
    let more = passing bs b p rising.1 signed.0 signed.1 (omega (arith, at)) in
    let k : ℕ = more.0 in
    let from : b ≤ k = more.2 in
    let first = rising.0 in
    let passed : nat_le b k ≡ true = grind (arith, nat_tests, from) in
    (k, more.1, omega (arith, first, from), sum_by-cons (λ b. cond (nat_le b k) 1 0) b bs ∙ ap (λ t. cond t 1 0 + count_by (λ b. nat_le b k) bs) passed ∙ omega (arith, more.3))

-- each partition has a key
key_in : (split : SplitShape) (p : ℕ) → IsSplit split → p < partitions split → (k : ℕ) × (k < 2 ^ 63) × (part_with split k ≡ p)
key_in (by_remainder n) p is low = let few = is.1 in (p, omega (arith, low, few), mod-eq_of_lt low)
key_in (at_bounds bounds) p is low = let k = passing bounds 0 p is.rising (omega arith) is.signed low in (k.0, k.1, k.3)

own_key : (tables : List TableShape) → IsCatalogue tables → (t p : ℕ) → option_map (λ s. nat_lt p (partitions s.split)) (slice_get tables t) ≡ Some true
    → (k : ℕ) × (k < 2 ^ 63) × (partition_of tables t k ≡ Some p)
own_key tables is t p h =
    let s = there (λ s. nat_lt p (partitions s.split)) tables t true h in
    let k = key_in s.0.split p (table_at tables t s.0 is.tables s.1).split (below p (partitions s.0.split) s.2) in
    (k.0, k.1, ap (option_map (λ s. part_with s.split k.0)) s.1 ∙ ap Some k.2)

part_holds : (t p q k : ℕ) → p ≡ q → holds (Table t (Part p WholePart)) (Table t (Part q (Row k))) ≡ true
part_holds t p q k e = and (t == t) ((p == q) && true) (equal t t refl) (and (p == q) true (equal p q e) refl)

row_holds : (t p q k : ℕ) → p ≡ q → holds (Table t (Part p (Row k))) (Table t (Part q (Row k))) ≡ true
row_holds t p q k e = and (t == t) ((p == q) && (k == k)) (equal t t refl) (and (p == q) (k == k) (equal p q e) (equal k k refl))

-- some row name stands under each resource of the catalogue
pub has_name : (tables : List TableShape) → IsCatalogue tables → (r : Resource) → IsResourceOf tables r
    → (n : RowName) × IsRowName tables n × (holds r (row_resource tables n) ≡ true)
has_name tables is Db h = (record { table = 0; key = 0 }, (some_table tables is, omega arith), refl)
has_name tables is (Table t WholeTable) h = (record { table = t; key = 0 }, (h, omega arith), and (t == t) true (equal t t refl) refl)
has_name tables is (Table t (Part p WholePart)) h =
    let o = own_key tables is t p h in
    (record { table = t; key = o.0 }, (within (λ s. nat_lt p (partitions s.split)) tables t true h, o.1), part_holds t p _ o.0 (sym (ap (λ q. unwrap_or q 0) o.2)))
has_name tables is (Table t (Part p (Row k))) h =
    (record { table = t; key = k }, (within (λ s. part_with s.split k) tables t p h.1, h.0), row_holds t p _ k (sym (ap (λ q. unwrap_or q 0) h.1)))
