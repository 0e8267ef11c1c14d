-- The rows of a partition that stand on its shelf are those of the database.
use Rattle.std.proofs.Common.{◌≡◌, ℕ, Bool, true, false, cond, if◌then◌else◌, ◌&&◌, List, [], ◌∷◌, ◌++◌, append-nil, refl, sym, ap, subst, ◌∙◌, T, Option, Some, None, Ordering, Less, Equal, Greater, map}
use Rattle.std.specs.List.{AllByRecursion}
use Rattle.std.specs.List.Sorted.{IsStrictlySortedBy}
use Rattle.std.specs.Borrow.{Bor}
use Rattle.std.specs.Ordering.{is_eq, is_lt, eq_by_cmp}
use Rattle.std.specs.BTreeMap as tree
use Rattle.std.specs.BTreeMap.{is_at}
use Rattle.std.specs.Map.{lookup}
use Rattle.std.specs.FinMap.{entries, entries_sorted, find, get, get-entries, get-retain_keys, is_sorted}
use Rattle.std.specs.FinMap.Entries.{below_all, same_entries}
use Rattle.values.specs.declared.name.RowName.{RowName}
use Rattle.catalogue.specs.Shapes.{TableShape}
use Rattle.values.specs.Database.{Database, RowOf, name_cmp}
use Rattle.footprint.specs.Tree.{resource_cmp}
use Rattle.workspace.specs.Scan.{by_key, is_in_part, part_rows, referred, rows_in_part}
use Rattle.shelves.specs.declared.place.Place.{Place}
use Rattle.shelves.specs.Places.{Shelves, standing, seen_at, seen_on}
use Rattle.shelves.specs.Shelving.{shelf_at}
use Rattle.shelves.specs.Scans.{row_on, rows_on, with_row}
use Rattle.shelves.specs.Rows.{found}
use Rattle.shelves.proofs.Exact.{names_total, exact_names}
use Rattle.shelves.proofs.Scans.{part_shelf}

abbrev Entries : Type 0
Entries = List (RowName × Place)

abbrev Rows : Type 0
Rows = List (RowName × RowOf)

-- the same with their names
abbrev with_named : RowName → Option RowOf → Rows → Rows
with_named name None rows = rows
with_named name (Some row) rows = (name, row) ∷ rows

abbrev named_on : List TableShape → ℕ → ℕ → Entries → Rows
named_on tables table part [] = []
named_on tables table part (e ∷ es) = with_named e.0 (row_on tables table part e) (named_on tables table part es)

key_more : (name : RowName) (o : Option RowOf) (rows : Rows) → with_row name.key o (by_key rows) ≡ by_key (with_named name o rows)
key_more name None rows = refl
key_more name (Some row) rows = refl

by_names : (tables : List TableShape) (table part : ℕ) (es : Entries) → rows_on tables table part es ≡ by_key (named_on tables table part es)
by_names tables table part [] = refl
by_names tables table part (e ∷ es) =
    ap (with_row e.0.key (row_on tables table part e)) (by_names tables table part es) ∙ key_more e.0 (row_on tables table part e) (named_on tables table part es)

-- ---- in order

tail_sorted : (e : RowName × Place) (rest : Entries) → IsStrictlySortedBy name_cmp (map (λ e. e.0) (e ∷ rest)) → IsStrictlySortedBy name_cmp (map (λ e. e.0) rest)
unfolding IsStrictlySortedBy
tail_sorted e rest s = s.1

head_sorted : (e : RowName × Place) (rest : Entries) → IsStrictlySortedBy name_cmp (map (λ e. e.0) (e ∷ rest)) → AllByRecursion (λ y. name_cmp e.0 y ≡ Less) (map (λ e. e.0) rest)
unfolding IsStrictlySortedBy
head_sorted e rest s = s.0

both : (a b : Bool) → T a → T b → T (a && b)
both true b s t = t
both false b s t = absurd s

less : (o : Ordering) → o ≡ Less → T (is_lt o)
less o e = subst (λ o. T (is_lt o)) (sym e) tt

below_more : (x name : RowName) (o : Option RowOf) (rows : Rows) → name_cmp x name ≡ Less → T (below_all name_cmp x rows) → T (below_all name_cmp x (with_named name o rows))
below_more x name None rows l b = b
below_more x name (Some row) rows l b = both _ _ (less _ l) b

below : (tables : List TableShape) (table part : ℕ) (x : RowName) (es : Entries) → AllByRecursion (λ y. name_cmp x y ≡ Less) (map (λ e. e.0) es) → T (below_all name_cmp x (named_on tables table part es))
below tables table part x [] h = tt
below tables table part x (e ∷ es) h = below_more x e.0 (row_on tables table part e) (named_on tables table part es) h.0 (below tables table part x es h.1)

sorted_more : (name : RowName) (o : Option RowOf) (rows : Rows) → T (below_all name_cmp name rows) → T (is_sorted name_cmp rows) → T (is_sorted name_cmp (with_named name o rows))
sorted_more name None rows b s = s
sorted_more name (Some row) rows b s = both _ _ b s

sorted : (tables : List TableShape) (table part : ℕ) (es : Entries) → IsStrictlySortedBy name_cmp (map (λ e. e.0) es) → T (is_sorted name_cmp (named_on tables table part es))
sorted tables table part [] s = tt
sorted tables table part (e ∷ es) s =
    sorted_more e.0 (row_on tables table part e) (named_on tables table part es) (below tables table part e.0 es (head_sorted e es s)) (sorted tables table part es (tail_sorted e es s))

-- ---- name by name

equal : (o : Ordering) → is_eq o ≡ true → o ≡ Equal
equal Less e = absurd cc
equal Equal e = refl
equal Greater e = absurd cc

none_below : (tables : List TableShape) (table part : ℕ) (q : RowName) (es : Entries) → AllByRecursion (λ y. name_cmp q y ≡ Less) (map (λ e. e.0) es) → find name_cmp q (named_on tables table part es) ≡ None
none_below tables table part q [] h = refl
none_below tables table part q (e ∷ es) h =
    elim (row_on tables table part e) as (λ o. find name_cmp q (with_named e.0 o (named_on tables table part es)) ≡ None) [
      | None ↦ none_below tables table part q es h.1
      | Some row ↦ ap (λ (o : Ordering). cond (is_eq o) (Some row) (find name_cmp q (named_on tables table part es))) h.0 ∙ none_below tables table part q es h.1
    ]

and_true : (b : Bool) → (b && true) ≡ b
and_true true = refl
and_true false = refl

-- at the name of the first place
found_here : (q name : RowName) (o : Option RowOf) (rows : Rows) → eq_by_cmp name_cmp q name ≡ true → find name_cmp q rows ≡ None → find name_cmp q (with_named name o rows) ≡ o
found_here q name None rows is none = none
found_here q name (Some row) rows is none = ap (λ b. cond b (Some row) (find name_cmp q rows)) is

found_later : (q name : RowName) (o : Option RowOf) (rows : Rows) → eq_by_cmp name_cmp q name ≡ false → find name_cmp q (with_named name o rows) ≡ find name_cmp q rows
found_later q name None rows is = refl
found_later q name (Some row) rows is = ap (λ b. cond b (Some row) (find name_cmp q rows)) is

nothing : (b : Bool) → ◌≡◌ {A = Option RowOf} None (cond b None None)
nothing true = refl
nothing false = refl

found_on : (tables : List TableShape) (table part : ℕ) (q : RowName) (es : Entries) → IsStrictlySortedBy name_cmp (map (λ e. e.0) es)
    → find name_cmp q (named_on tables table part es) ≡ cond (is_in_part tables table part q) (standing (lookup (is_at (name_cmp q)) es)) None
found_on tables table part q [] s = nothing (is_in_part tables table part q)
found_on tables table part q (e ∷ es) s =
    let rest : Rows = named_on tables table part es in
    elim (eq_by_cmp name_cmp q e.0) as (λ (b : Bool). eq_by_cmp name_cmp q e.0 ≡ b
    → find name_cmp q (with_named e.0 (row_on tables table part e) rest) ≡ cond (is_in_part tables table part q) (standing (cond b (Some e.1) (lookup (is_at (name_cmp q)) es))) None) [
      | true ↦ λ is.
          let same : q ≡ e.0 = exact_names q e.0 (equal _ is) in
          let none : find name_cmp q rest ≡ None = ap (λ x. find name_cmp x rest) same ∙ none_below tables table part e.0 es (head_sorted e es s) in
          found_here q e.0 (row_on tables table part e) rest is none
          ∙ ap (λ b. if b then standing (Some e.1) else None) (and_true (is_in_part tables table part e.0) ∙ ap (is_in_part tables table part) (sym same))
      | false ↦ λ is. found_later q e.0 (row_on tables table part e) rest is ∙ found_on tables table part q es (tail_sorted e es s)
    ] refl

kept_alike : (b : Bool) (o now : Option RowOf) → (b ≡ true → now ≡ o) → cond b o None ≡ cond b now None
kept_alike true o now h = sym (h refl)
kept_alike false o now h = refl

get_part : (tables : List TableShape) (table part : ℕ) (db : Database) (q : RowName) → get (part_rows tables table part db) q ≡ cond (is_in_part tables table part q) (get db q) None
get_part tables table part db q = get-retain_keys db (is_in_part tables table part) q (λ x e. ap (is_in_part tables table part) (sym (exact_names q x e)))

-- the rows on a shelf are those of its partition
pub rows_are : (tables : List TableShape) (table part : ℕ) (es : Entries) (db : Database) → IsStrictlySortedBy name_cmp (map (λ e. e.0) es)
    → ((q : RowName) → is_in_part tables table part q ≡ true → get db q ≡ standing (lookup (is_at (name_cmp q)) es))
    → rows_on tables table part es ≡ rows_in_part tables table part db
rows_are tables table part es db s shown =
    let there : Database = part_rows tables table part db in
    by_names tables table part es
    ∙ ap by_key (same_entries name_cmp names_total exact_names (named_on tables table part es) (entries there) (sorted tables table part es s) (entries_sorted there) (λ q.
    found_on tables table part q es s
    ∙ kept_alike (is_in_part tables table part q) (standing (lookup (is_at (name_cmp q)) es)) (get db q) (shown q)
    ∙ sym (get_part tables table part db q) ∙ get-entries there q))

no_shelf : (q : RowName) (shelves : Shelves) (tables : List TableShape) (table part : ℕ) → tree.get resource_cmp shelves (shelf_at tables table part) ≡ None
    → is_in_part tables table part q ≡ true → (found tables shelves q).row ≡ None
no_shelf q shelves tables table part none h =
    ap (λ d. (seen_at shelves d q).row) (part_shelf tables table part q h) ∙ ap (λ o. (seen_on o q).row) none

-- where there is no shelf the partition has no row
pub none_are : (tables : List TableShape) (shelves : Shelves) (table part : ℕ) (db : Database) → tree.get resource_cmp shelves (shelf_at tables table part) ≡ None
    → ((q : RowName) → is_in_part tables table part q ≡ true → get db q ≡ (found tables shelves q).row) → [] ≡ rows_in_part tables table part db
none_are tables shelves table part db none shown =
    let there : Database = part_rows tables table part db in
    ap by_key (same_entries name_cmp names_total exact_names [] (entries there) tt (entries_sorted there) (λ q.
    nothing (is_in_part tables table part q)
    ∙ kept_alike (is_in_part tables table part q) None (get db q) (λ h. shown q h ∙ no_shelf q shelves tables table part none h)
    ∙ sym (get_part tables table part db q) ∙ get-entries there q))

-- where the partition has no name it has no row
pub no_rows : (tables : List TableShape) (table part : ℕ) (db : Database) → ((q : RowName) → is_in_part tables table part q ≡ true → ⊥) → [] ≡ rows_in_part tables table part db
no_rows tables table part db no_name =
    let there : Database = part_rows tables table part db in
    ap by_key (same_entries name_cmp names_total exact_names [] (entries there) tt (entries_sorted there) (λ q.
    nothing (is_in_part tables table part q)
    ∙ kept_alike (is_in_part tables table part q) None (get db q) (λ h. absurd (no_name q h))
    ∙ sym (get_part tables table part db q) ∙ get-entries there q))

-- at the end of a walk over the shelf
pub walked : (tables : List TableShape) (table part : ℕ) (es rest : Entries) (db : Database) (old new : List (ℕ × Bor RowOf)) → IsStrictlySortedBy name_cmp (map (λ e. e.0) es)
    → ((q : RowName) → is_in_part tables table part q ≡ true → get db q ≡ standing (lookup (is_at (name_cmp q)) es))
    → rest ≡ [] → referred new ++ rows_on tables table part rest ≡ referred old ++ rows_on tables table part es
    → referred new ≡ referred old ++ rows_in_part tables table part db
walked tables table part es rest db old new s shown none is =
    sym (append-nil (referred new)) ∙ ap (λ xs. referred new ++ rows_on tables table part xs) (sym none) ∙ is ∙ ap (λ rows. referred old ++ rows) (rows_are tables table part es db s shown)
