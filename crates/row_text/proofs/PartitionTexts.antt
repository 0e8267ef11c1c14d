-- A partition text tells the digest of each partition.
use Rattle.std.proofs.Common.{◌≡◌, ℕ, zero, suc, ◌+◌, ◌*◌, ◌<◌, ◌≤◌, ◌^◌, ◌⊎◌, inl, inr, Bool, true, false, nat_lt, List, [], ◌∷◌, ◌++◌, append_assoc, length, map, Option, Some, None, refl, sym, ap, ◌∙◌, subst, arith}
use Rattle.std.specs.Fmt.{decimal}
use Rattle.std.specs.FinMap.{entries}
use Rattle.std.specs.List.{concat, range_with_len, AllByRecursion, IsDistinct}
use Rattle.std.specs.Str.{bytes_eq}
use Rattle.std.proofs.lemmas.Bool.Decides.{nat_tests}
use Rattle.std.proofs.lemmas.Fmt.{decimal_injective}
use Rattle.std.proofs.lemmas.Slice.Eq.{bytes_eq-Decides}
use Rattle.values.specs.Names.{is_name}
use Rattle.values.specs.declared.name.RowName.{RowName}
use Rattle.values.specs.Database.{Database, RowOf}
use Rattle.catalogue.specs.Rules.{IsCatalogue, IsSplit, IsTable}
use Rattle.catalogue.specs.Shapes.{at_bounds, by_remainder, partitions, SplitShape, TableShape}
use Rattle.meaning.specs.Partitions.{part_rows}
use Rattle.row_text.specs.Partitions.{digest_of_row_lines, line_of_partition, partition_count, partition_digest, partition_line, partition_lines, partition_text}
use Rattle.row_text.specs.Texts.{table_name}
use Rattle.row_text.proofs.Breaks.{decimal_lacks, digest_lacks, name_lacks, same_front, Lacks}

-- ---- tables

abbrev Names : List TableShape → Type 0
Names tables = AllByRecursion (λ (t : TableShape). is_name t.name ≡ true) tables

name_at : (tables : List TableShape) (t : ℕ) → Names tables → t < length tables → is_name (table_name tables t) ≡ true
name_at [] t h l = absurd (omega arith)
name_at (x ∷ tables) zero h l = h.0
name_at (x ∷ tables) (suc t) h l = name_at tables t h.1 (omega arith)

other_name : (x : List ℕ) (tables : List TableShape) (t : ℕ) → AllByRecursion (λ y. bytes_eq x y ≡ false) (map (λ (t : TableShape). t.name) tables) → t < length tables → x ≡ table_name tables t → ⊥
other_name x [] t h l e = absurd (omega arith)
other_name x (y ∷ tables) zero h l e = let same = (bytes_eq-Decides x y.name).1 e in absurd (let g = sym same ∙ h.0 in cc)
other_name x (y ∷ tables) (suc t) h l e = other_name x tables t h.1 (omega arith) e

same_table : (tables : List TableShape) (t u : ℕ) → IsDistinct bytes_eq (map (λ (t : TableShape). t.name) tables) → t < length tables → u < length tables → table_name tables t ≡ table_name tables u → t ≡ u
unfolding IsDistinct
same_table [] t u d l m e = absurd (omega arith)
same_table (x ∷ tables) zero zero d l m e = refl
same_table (x ∷ tables) zero (suc u) d l m e = absurd (other_name x.name tables u d.0 (omega arith) e)
same_table (x ∷ tables) (suc t) zero d l m e = absurd (other_name x.name tables t d.0 (omega arith) (sym e))
same_table (x ∷ tables) (suc t) (suc u) d l m e = ap (λ (n : ℕ). suc n) (same_table tables t u d.1 (omega arith) (omega arith) e)

few_of : (split : SplitShape) → IsSplit split → partitions split ≤ 1024
few_of (by_remainder count) h = h.1
few_of (at_bounds bounds) h = let few = h.few in omega (arith, few)

few_at : (tables : List TableShape) (t : ℕ) → AllByRecursion IsTable tables → partition_count tables t ≤ 1024
few_at [] t h = omega arith
few_at (x ∷ tables) zero h = few_of x.split h.0.split
few_at (x ∷ tables) (suc t) h = few_at tables t h.1

-- ---- the lines of partitions, by their places

abbrev Place : Type 0
Place = ℕ × ℕ

abbrev Digests : Type 0
Digests = Place → Option (List ℕ)

abbrev lines : List TableShape → Digests → List Place → List ℕ
lines tables f [] = []
lines tables f (k ∷ ks) = partition_line tables k.0 k.1 (f k) ++ lines tables f ks

lines-append : (tables : List TableShape) (f : Digests) (ks js : List Place) → lines tables f (ks ++ js) ≡ lines tables f ks ++ lines tables f js
lines-append tables f [] js = refl
lines-append tables f (k ∷ ks) js =
    ap (λ rest. partition_line tables k.0 k.1 (f k) ++ rest) (lines-append tables f ks js)
    ∙ sym (append_assoc (partition_line tables k.0 k.1 (f k)) (lines tables f ks) (lines tables f js))

abbrev places_in : ℕ → ℕ → ℕ → List Place
places_in table first zero = []
places_in table first (suc n) = (table, first) ∷ places_in table (first + 1) n

abbrev places_from : List TableShape → ℕ → ℕ → List Place
places_from tables table zero = []
places_from tables table (suc n) = places_in table 0 (partition_count tables table) ++ places_from tables (table + 1) n

abbrev digests_of : List TableShape → Database → Digests
digests_of tables db k = partition_digest tables k.0 k.1 db

lines_of_table : (tables : List TableShape) (db : Database) (table first n : ℕ) → concat (map (line_of_partition tables table db) (range_with_len first n)) ≡ lines tables (digests_of tables db) (places_in table first n)
lines_of_table tables db table first zero = refl
lines_of_table tables db table first (suc n) = ap (λ rest. line_of_partition tables table db first ++ rest) (lines_of_table tables db table (first + 1) n)

lines_of_tables : (tables : List TableShape) (db : Database) (table n : ℕ) → concat (map (partition_lines tables db) (range_with_len table n)) ≡ lines tables (digests_of tables db) (places_from tables table n)
lines_of_tables tables db table zero = refl
lines_of_tables tables db table (suc n) =
    ap (λ rest. partition_lines tables db table ++ rest) (lines_of_tables tables db (table + 1) n)
    ∙ ap (λ front. front ++ lines tables (digests_of tables db) (places_from tables (table + 1) n)) (lines_of_table tables db table 0 (partition_count tables table))
    ∙ sym (lines-append tables (digests_of tables db) (places_in table 0 (partition_count tables table)) (places_from tables (table + 1) n))

-- ---- places one after another

abbrev weight : Place → ℕ
weight k = 1024 * k.0 + k.1

abbrev Rising : List TableShape → ℕ → List Place → Type 0
Rising tables low [] = Unit {0}
Rising tables low (k ∷ ks) = (low ≤ weight k) × (k.0 < length tables) × (k.1 < 1024) × Rising tables (weight k + 1) ks

rising_from : (tables : List TableShape) (low high : ℕ) (ks : List Place) → low ≤ high → Rising tables high ks → Rising tables low ks
rising_from tables low high [] le h = tt
rising_from tables low high (k ∷ ks) le h = (let above = h.0 in omega (arith, le, above), h.1, h.2, h.3)

rising_in : (tables : List TableShape) (low table first n : ℕ) (rest : List Place) → table < length tables → first + n ≤ 1024 → low ≤ 1024 * table + first → Rising tables (1024 * table + (first + n)) rest →
    Rising tables low (places_in table first n ++ rest)
rising_in tables low table first zero rest t few le h = rising_from tables low (1024 * table + (first + 0)) rest (omega arith) h
rising_in tables low table first (suc n) rest t few le h = (
  le,
  t,
  omega arith,
  rising_in tables (1024 * table + first + 1) table (first + 1) n rest t (omega arith) (omega arith)
      (rising_from tables _ _ rest (omega arith) h),
)

rising_all : (tables : List TableShape) (table n : ℕ) → AllByRecursion IsTable tables → table + n ≤ length tables → Rising tables (1024 * table) (places_from tables table n)
rising_all tables table zero are l = tt
rising_all tables table (suc n) are l =
    let few = few_at tables table are in
    rising_in tables (1024 * table) table 0 (partition_count tables table) (places_from tables (table + 1) n) (omega arith) (omega (arith, few)) (omega arith)
    (rising_from tables _ (1024 * (table + 1)) (places_from tables (table + 1) n) (omega (arith, few)) (rising_all tables (table + 1) n are (omega arith)))

-- ---- equal texts

spread : (tables : List TableShape) (k : Place) (d rest : List ℕ) → partition_line tables k.0 k.1 (Some d) ++ rest ≡ table_name tables k.0 ++ 32 ∷ (decimal k.1 ++ 32 ∷ (d ++ 10 ∷ rest))
spread tables k d rest = simp append_assoc

no_text : (xs ys : List ℕ) → xs ++ 32 ∷ ys ≡ [] → ⊥
no_text [] ys e = cc
no_text (x ∷ xs) ys e = cc

module _ (tables : List TableShape) (are : IsCatalogue tables) where
  lacks_at : (t : ℕ) → t < length tables → Lacks 32 (table_name tables t)
  lacks_at t l = name_lacks (table_name tables t) (name_at tables t are.named.names l)

  -- a line begins with its place
  same_place : (k j : Place) (x y : List ℕ) → k.0 < length tables → j.0 < length tables → k.1 < 1024 → j.1 < 1024 →
      table_name tables k.0 ++ 32 ∷ (decimal k.1 ++ 32 ∷ x) ≡ table_name tables j.0 ++ 32 ∷ (decimal j.1 ++ 32 ∷ y) → (k.0 ≡ j.0) × (k.1 ≡ j.1) × (x ≡ y)
  same_place k j x y kt jt kp jp e =
      let kf : k.1 < 2 ^ 64 = omega arith in
      let jf : j.1 < 2 ^ 64 = omega arith in
      let names = same_front 32 (table_name tables k.0) (table_name tables j.0) _ _ (lacks_at k.0 kt) (lacks_at j.0 jt) e in
      let parts = same_front 32 (decimal k.1) (decimal j.1) x y (decimal_lacks k.1 kf) (decimal_lacks j.1 jf) names.1 in
      (same_table tables k.0 j.0 are.named.distinct kt jt names.0, decimal_injective k.1 j.1 kf jf parts.0, parts.1)

  -- no line of later places begins with an earlier one
  not_later : (k : Place) (low : ℕ) (ks : List Place) (f : Digests) (x : List ℕ) → k.0 < length tables → k.1 < 1024 → weight k < low → Rising tables low ks →
      table_name tables k.0 ++ 32 ∷ (decimal k.1 ++ 32 ∷ x) ≡ lines tables f ks → ⊥
  not_later k low [] f x kt kp l up e = no_text (table_name tables k.0) _ e
  not_later k low (j ∷ ks) f x kt kp l up e = by (let above = up.0 in not_later k (weight j + 1) ks f x kt kp (omega (arith, l, above)) up.3) (f j) refl
    where
      by : (table_name tables k.0 ++ 32 ∷ (decimal k.1 ++ 32 ∷ x) ≡ lines tables f ks → ⊥) → (o : Option (List ℕ)) → f j ≡ o → ⊥
      by later None p = later (rw p at e)
      by later (Some d) p =
          let same = same_place k j x _ kt up.1 kp up.2 ((rw p at e) ∙ spread tables j d (lines tables f ks)) in
          let above = up.0 in let table = same.0 in let part = same.1 in omega (arith, l, above, table, part)

  same_digests : (low : ℕ) (ks : List Place) (f g : Digests) → Rising tables low ks → ((k : Place) (d : List ℕ) → f k ≡ Some d → Lacks 10 d) → ((k : Place) (d : List ℕ) → g k ≡ Some d → Lacks 10 d) →
      lines tables f ks ≡ lines tables g ks → AllByRecursion (λ k. f k ≡ g k) ks
  same_digests low [] f g up lf lg e = tt
  same_digests low (k ∷ ks) f g up lf lg e = by (same_digests (weight k + 1) ks f g up.3 lf lg) (f k) (g k) refl refl
    where
      by : (lines tables f ks ≡ lines tables g ks → AllByRecursion (λ k. f k ≡ g k) ks) → (o p : Option (List ℕ)) → f k ≡ o → g k ≡ p → (f k ≡ g k) × AllByRecursion (λ k. f k ≡ g k) ks
      by later None None a b = (a ∙ sym b, later (rw (a, b) at e))
      by later (Some d) None a b = absurd (not_later k (weight k + 1) ks g _ up.1 up.2 (omega arith) up.3 (sym (spread tables k d (lines tables f ks)) ∙ (rw (a, b) at e)))
      by later None (Some c) a b = absurd (not_later k (weight k + 1) ks f _ up.1 up.2 (omega arith) up.3 (sym (spread tables k c (lines tables g ks)) ∙ sym (rw (a, b) at e)))
      by later (Some d) (Some c) a b =
          let same = same_place k k _ _ up.1 up.1 up.2 up.2 (sym (spread tables k d (lines tables f ks)) ∙ (rw (a, b) at e) ∙ spread tables k c (lines tables g ks)) in
          let ends = same_front 10 d c _ _ (lf k d a) (lg k c b) same.2 in
          (a ∙ ap (λ (t : List ℕ). Some t) ends.0 ∙ sym b, later ends.1)

-- ---- each place

first_is : (a b : ℕ) → a ≤ b → nat_lt a b ≡ false → b ≡ a
first_is a b le h = grind (arith, nat_tests)

later_is : (a b : ℕ) → nat_lt a b ≡ true → a + 1 ≤ b
later_is a b h = grind (arith, nat_tests)

first_or_later : (a b : ℕ) → a ≤ b → (b ≡ a) ⊎ (a + 1 ≤ b)
first_or_later a b le = by (nat_lt a b) refl
  where
    by : (t : Bool) → nat_lt a b ≡ t → (b ≡ a) ⊎ (a + 1 ≤ b)
    by true p = inr (later_is a b p)
    by false p = inl (first_is a b le p)

all_in : (P : Place → Type 0) (table first n part : ℕ) (rest : List Place) → AllByRecursion P (places_in table first n ++ rest) → first ≤ part → part < first + n → P (table, part)
all_in P table first zero part rest h le l = absurd (omega arith)
all_in P table first (suc n) part rest h le l = by (λ m. all_in P table (first + 1) n part rest h.1 m (omega arith)) (first_or_later first part le)
  where
    by : (first + 1 ≤ part → P (table, part)) → (part ≡ first) ⊎ (first + 1 ≤ part) → P (table, part)
    by later (inl e) = subst (λ (p : ℕ). P (table, p)) (sym e) h.0
    by later (inr m) = later m

all_after : (P : Place → Type 0) (table first n : ℕ) (rest : List Place) → AllByRecursion P (places_in table first n ++ rest) → AllByRecursion P rest
all_after P table first zero rest h = h
all_after P table first (suc n) rest h = all_after P table (first + 1) n rest h.1

all_from : (tables : List TableShape) (P : Place → Type 0) (first n table part : ℕ) → AllByRecursion P (places_from tables first n) → first ≤ table → table < first + n → part < partition_count tables table → P (table, part)
all_from tables P first zero table part h le l few = absurd (omega arith)
all_from tables P first (suc n) table part h le l few =
    by (λ m. all_from tables P (first + 1) n table part (all_after P first 0 (partition_count tables first) (places_from tables (first + 1) n) h) m (omega arith) few) (first_or_later first table le)
  where
    by : (first + 1 ≤ table → P (table, part)) → (table ≡ first) ⊎ (first + 1 ≤ table) → P (table, part)
    by later (inl e) =
        let here : part < 0 + partition_count tables first = let same = ap (partition_count tables) e in omega (arith, same, few) in
        subst (λ (t : ℕ). P (t, part)) (sym e) (all_in P first 0 (partition_count tables first) part (places_from tables (first + 1) n) h (omega arith) here)
    by later (inr m) = later m

is_digest : (tables : List TableShape) (rows : List (RowName × RowOf)) (d : List ℕ) → digest_of_row_lines tables rows ≡ Some d → Lacks 10 d
is_digest tables [] d e = absurd cc
is_digest tables (row ∷ rows) d e = let same = some_is _ d e in subst (Lacks 10) same (digest_lacks _)
  where
    some_is : (x y : List ℕ) → Some x ≡ Some y → x ≡ y
    some_is x y e = cc

pub digests_told : (tables : List TableShape) (one two : Database) → IsCatalogue tables → partition_text tables one ≡ partition_text tables two → (table part : ℕ) → table < length tables → part < partition_count tables table →
    partition_digest tables table part one ≡ partition_digest tables table part two
digests_told tables one two are e table part l few =
    all_from tables (λ k. digests_of tables one k ≡ digests_of tables two k) 0 (length tables) table part
    (same_digests tables are 0 (places_from tables 0 (length tables)) (digests_of tables one) (digests_of tables two) (rising_all tables 0 (length tables) are.tables (omega arith))
    (λ k d. is_digest tables (entries (part_rows tables k.0 k.1 one)) d) (λ k d. is_digest tables (entries (part_rows tables k.0 k.1 two)) d)
    (sym (lines_of_tables tables one 0 (length tables)) ∙ e ∙ lines_of_tables tables two 0 (length tables)))
    (omega arith) (omega arith) few
