-- The rows that shelves stand for.
use Rattle.std.proofs.Common.{◌≡◌, Bool, true, false, ◌||◌, ◌&&◌, cond, if◌then◌else◌, List, [], ◌∷◌, ◌++◌, map, refl, sym, ap, ◌∙◌, Option, Some, None}
use Rattle.std.specs.Cmp.{eq_by_cmp_equiv}
use Rattle.std.specs.Ordering.{eq_by_cmp}
use Rattle.std.specs.BTreeMap.{BTreeMap, is_at, keys}
use Rattle.std.specs.BTreeMap as tree
use Rattle.std.specs.Map.{lookup}
use Rattle.std.specs.FinMap.{get, insert, get-empty, get-insert, get-remove, same_map}
use Rattle.values.specs.declared.name.RowName.{RowName}
use Rattle.catalogue.specs.Shapes.{TableShape}
use Rattle.values.specs.Database.{Database, RowOf, name_cmp}
use Rattle.footprint.specs.declared.resource.Resource.{Resource}
use Rattle.footprint.specs.Tree.{resource_cmp}
use Rattle.workspace.specs.Overlay.{applied, with_write}
use Rattle.std.specs.declared.snapshot.Snapshot.{Snapshot}
use Rattle.shelves.specs.declared.place.Place.{Place}
use Rattle.shelves.specs.declared.shelf.Shelf.{Shelf}
use Rattle.shelves.specs.Places.{Places, places_of, Shelves, PlaceOf, standing, counted_away, seen_over, seen_in, seen_on, full, seen_at, written, is_same_name, is_same_shelf, is_named}
use Rattle.shelves.specs.Shelving.{shelf_of}
use Rattle.shelves.specs.Rows.{found, names_away, names_of, rows_at, rows_of}
use Rattle.shelves.proofs.Exact.{names_total, exact_names, same_name, own_place}

turned : (n q : RowName) → eq_by_cmp name_cmp q n ≡ is_same_name n q
turned n q = (eq_by_cmp_equiv names_total).symm q n

get-with_write : (db : Database) (name : RowName) (row : Option RowOf) (q : RowName) → get (with_write db (name, row)) q ≡ (if is_same_name name q then row else get db q)
get-with_write db name None q = get-remove names_total db name q ∙ ap (λ b. cond b None (get db q)) (turned name q)
get-with_write db name (Some row) q = get-insert names_total db name row q ∙ ap (λ b. cond b (Some row) (get db q)) (turned name q)

one_more : (a b : Bool) (n m : Option RowOf) → (a ≡ true → n ≡ m) → (if a then n else (if b then m else None)) ≡ (if a || b then m else None)
one_more true b n m h = h refl
one_more false b n m h = refl

pub get-rows_at : (row : RowName → Option RowOf) (names : List RowName) (q : RowName) → get (rows_at row names) q ≡ (if is_named names q then row q else None)
get-rows_at row [] q = get-empty name_cmp q
get-rows_at row (n ∷ ns) q =
    get-with_write (rows_at row ns) n (row n) q
    ∙ ap (λ o. if is_same_name n q then row n else o) (get-rows_at row ns q)
    ∙ one_more (is_same_name n q) (is_named ns q) (row n) (row q) (λ h. ap row (same_name n q h))

or_assoc : (a b c : Bool) → a || (b || c) ≡ (a || b) || c
or_assoc true b c = refl
or_assoc false b c = refl

pub or_true : (b : Bool) → b || true ≡ true
or_true true = refl
or_true false = refl

-- a place has its name among the names
pub named_append : (ms ns : List RowName) (q : RowName) → is_named (ms ++ ns) q ≡ (is_named ms q || is_named ns q)
named_append [] ns q = refl
named_append (m ∷ ms) ns q = ap (λ b. is_same_name m q || b) (named_append ms ns q) ∙ or_assoc (is_same_name m q) (is_named ms q) (is_named ns q)

pub named_place : (es : List (RowName × Place)) (q : RowName) (p : Place) → lookup (is_at (name_cmp q)) es ≡ Some p → is_named (map (λ e. e.0) es) q ≡ true
named_place [] q p h = absurd (cc)
named_place (e ∷ es) q p h = elim (is_at (name_cmp q) e.0) as (λ (b : Bool). is_at (name_cmp q) e.0 ≡ b → cond b (Some e.1) (lookup (is_at (name_cmp q)) es) ≡ Some p → is_named (map (λ e. e.0) (e ∷ es)) q ≡ true) [
  | true ↦ λ is g. ap (λ b. b || is_named (map (λ e. e.0) es) q) (sym (turned e.0 q) ∙ is)
  | false ↦ λ is g. ap (λ b. is_same_name e.0 q || b) (named_place es q p g) ∙ or_true (is_same_name e.0 q)
] refl h

pub stands_there : (o : Option Place) (r : RowOf) → standing o ≡ Some r → (x : Place) × (o ≡ Some x)
stands_there None r h = absurd (cc)
stands_there (Some x) r h = (x, refl)

named_away : (away : Option (Snapshot Places)) (q : RowName) (r : RowOf) → counted_away away q ≡ Some r → is_named (names_away away) q ≡ true
named_away None q r h = absurd (cc)
named_away (Some lent) q r h = let x = stands_there (tree.get name_cmp lent.value q) r h in named_place lent.value.entries q x.0 x.1

named_shelf : (s : Shelf) (q : RowName) (r : RowOf) → (seen_in s q).counts_as ≡ Some r → is_named (keys (places_of s.contents) ++ names_away s.away) q ≡ true
named_shelf s q r h =
    named_append (keys (places_of s.contents)) (names_away s.away) q
    ∙ elim (tree.get name_cmp (places_of s.contents) q) as (λ (o : Option Place). tree.get name_cmp (places_of s.contents) q ≡ o → (seen_over o (counted_away s.away q)).counts_as ≡ Some r → (is_named (keys (places_of s.contents)) q || is_named (names_away s.away) q) ≡ true) [
      | None ↦ λ is g. ap (λ b. is_named (keys (places_of s.contents)) q || b) (named_away s.away q r g) ∙ or_true (is_named (keys (places_of s.contents)) q)
      | Some x ↦ λ is g. ap (λ b. b || is_named (names_away s.away) q) (named_place (places_of s.contents).entries q x is)
    ] refl h

named_in : (es : List (Resource × Shelf)) (d : Resource) (q : RowName) (r : RowOf) → (seen_on (lookup (is_at (resource_cmp d)) es) q).counts_as ≡ Some r → is_named (names_of es) q ≡ true
named_in [] d q r h = absurd (cc)
named_in (e ∷ es) d q r h =
    let here : List RowName = keys (places_of e.1.contents) ++ names_away e.1.away in
    named_append here (names_of es) q ∙ elim (is_at (resource_cmp d) e.0) as (λ (b : Bool). (seen_on (cond b (Some e.1) (lookup (is_at (resource_cmp d)) es)) q).counts_as ≡ Some r → (is_named here q || is_named (names_of es) q) ≡ true) [
      | true ↦ λ g. ap (λ b. b || is_named (names_of es) q) (named_shelf e.1 q r g)
      | false ↦ λ g. ap (λ b. is_named here q || b) (named_in es d q r g) ∙ or_true (is_named here q)
    ] h

unnamed : (shelves : Shelves) (d : Resource) (q : RowName) (o : Option RowOf) → (seen_at shelves d q).counts_as ≡ o → is_named (names_of shelves.entries) q ≡ false → o ≡ None
unnamed shelves d q None h none = refl
unnamed shelves d q (Some r) h none = let clash : true ≡ false = sym (named_in shelves.entries d q r h) ∙ none in absurd (cc)

pub get-rows_of : (tables : List TableShape) (shelves : Shelves) (q : RowName) → get (rows_of tables shelves) q ≡ (found tables shelves q).counts_as
get-rows_of tables shelves q =
    let row : RowName → Option RowOf = λ name. (found tables shelves name).counts_as in
    get-rows_at row (names_of shelves.entries) q
    ∙ elim (is_named (names_of shelves.entries) q) as (λ (b : Bool). is_named (names_of shelves.entries) q ≡ b → (if b then row q else None) ≡ row q) [
      | true ↦ λ is. refl
      | false ↦ λ is. sym (unnamed shelves (shelf_of tables q) q (row q) refl is)
    ] refl

pub same_database : (a b : Database) → ((q : RowName) → get a q ≡ get b q) → a ≡ b
same_database = same_map names_total exact_names

-- shelves where the same rows count stand for the same rows
pub same_rows : (tables : List TableShape) (old new : Shelves) → ((q : RowName) → (found tables new q).counts_as ≡ (found tables old q).counts_as) → rows_of tables new ≡ rows_of tables old
same_rows tables old new h = same_database _ _ (λ q. get-rows_of tables new q ∙ h q ∙ sym (get-rows_of tables old q))

-- a row that is put at a name
put_place : (b : Bool) (row : RowOf) (o : PlaceOf) → (if b then full (Some row) else o).counts_as ≡ (if b then Some row else o.counts_as)
put_place true row o = refl
put_place false row o = refl

pub row_put : (tables : List TableShape) (old new : Shelves) (name : RowName) (row : RowOf)
    → ((d : Resource) (q : RowName) → seen_at new d q ≡ (if is_same_shelf (shelf_of tables name) d && is_same_name name q then full (Some row) else seen_at old d q))
    → rows_of tables new ≡ insert (rows_of tables old) name row
row_put tables old new name row h = same_database _ _ (λ q.
    get-rows_of tables new q
    ∙ ap (λ p. p.counts_as) (h (shelf_of tables q) q ∙ ap (λ b. if b then full (Some row) else seen_at old (shelf_of tables q) q) (own_place tables name q))
    ∙ put_place (is_same_name name q) row (seen_at old (shelf_of tables q) q)
    ∙ ap (λ o. if is_same_name name q then Some row else o) (sym (get-rows_of tables old q))
    ∙ sym (get-with_write (rows_of tables old) name (Some row) q))

-- writes that are made
pub get-applied : (writes : List (RowName × Option RowOf)) (db : Database) (q : RowName) (p : PlaceOf) → get db q ≡ p.counts_as
    → get (applied writes db) q ≡ (written (lookup (is_at (name_cmp q)) writes) p).counts_as
get-applied [] db q p h = h
get-applied (w ∷ ws) db q p h =
    get-with_write (applied ws db) w.0 w.1 q
    ∙ ap (λ b. if b then w.1 else get (applied ws db) q) (sym (turned w.0 q))
    ∙ elim (is_at (name_cmp q) w.0) as (λ (b : Bool). (if b then w.1 else get (applied ws db) q) ≡ (written (cond b (Some w.1) (lookup (is_at (name_cmp q)) ws)) p).counts_as) [
      | true ↦ refl
      | false ↦ get-applied ws db q p h
    ]

pub rows_written : (tables : List TableShape) (old new : Shelves) (writes : BTreeMap RowName (Option RowOf))
    → ((q : RowName) → seen_at new (shelf_of tables q) q ≡ written (tree.get name_cmp writes q) (seen_at old (shelf_of tables q) q))
    → rows_of tables new ≡ applied writes.entries (rows_of tables old)
rows_written tables old new writes h = same_database _ _ (λ q.
    get-rows_of tables new q ∙ ap (λ p. p.counts_as) (h q)
    ∙ sym (get-applied writes.entries (rows_of tables old) q (found tables old q) (get-rows_of tables old q)))
