-- The rows of a database in order: each is in it, no two have one name, and put in one after the other they make it again.
use Rattle.std.proofs.Common.{◌≡◌, ℕ, ◌<◌, Bool, true, false, cond, eqb, ◌&&◌, List, [], ◌∷◌, length, filter, map, nat_lt, Option, Some, None, refl, sym, ap, ◌∙◌, subst, Ordering, Less, Equal, Greater}
use Rattle.std.specs.Cmp.{tied_itself}
use Rattle.std.specs.List.{AllByRecursion, IsDistinct}
use Rattle.std.specs.Option.{option_or}
use Rattle.std.specs.Ordering.{eq_by_cmp, is_eq}
use Rattle.std.specs.FinMap.{empty, entries, entries_sorted, find, get, get-empty, get-entries, get-insert, insert, same_map}
use Rattle.std.proofs.lemmas.Bool.{and_parts, eqb-true, lt-ltb}
use Rattle.values.specs.declared.name.RowName.{RowName}
use Rattle.values.specs.Database.{Database, RowOf, name_cmp}
use Rattle.catalogue.specs.Shapes.{TableShape}
use Rattle.row_text.specs.Texts.{rows_in_order}
use Rattle.row_text.proofs.MergedRows.{Ascends, Below, Rows, ascends, exact_names, names_total}
use Rattle.setup.specs.Rows.{RowAt}
use Rattle.setup.specs.Says.{same_name}
use Rattle.shelves.specs.Rows.{with_rows}

found_first : (e : RowName × RowOf) (es : Rows) → find name_cmp e.0 (e ∷ es) ≡ Some e.1
found_first e es = ap (λ o. cond (is_eq o) (Some e.1) (find name_cmp e.0 es)) (tied_itself names_total e.0)

none_below : (x : RowName) (es : Rows) → Below x es → find name_cmp x es ≡ None
none_below x [] b = refl
none_below x (e ∷ es) b = ap (λ o. cond (is_eq o) (Some e.1) (find name_cmp x es)) b.0 ∙ none_below x es b.1

pub equal : (o : Ordering) → is_eq o ≡ true → o ≡ Equal
equal Less e = absurd cc
equal Equal e = refl
equal Greater e = absurd cc

-- a name that ties with the first one isn't further on
tied_none : (q : RowName) (e : RowName × RowOf) (es : Rows) → Below e.0 es → eq_by_cmp name_cmp q e.0 ≡ true → find name_cmp q es ≡ None
tied_none q e es b t = subst (λ (x : RowName). find name_cmp x es ≡ None) (sym (exact_names q e.0 (equal _ t))) (none_below e.0 es b)

found_later : (q : RowName) (row : RowOf) (e : RowName × RowOf) (es : Rows) → Below e.0 es → find name_cmp q es ≡ Some row → find name_cmp q (e ∷ es) ≡ Some row
found_later q row e es b f = by (eq_by_cmp name_cmp q e.0) refl
  where
    by : (t : Bool) → eq_by_cmp name_cmp q e.0 ≡ t → find name_cmp q (e ∷ es) ≡ Some row
    by true t = absurd (let g = sym (tied_none q e es b t) ∙ f in cc)
    by false t = ap (λ c. cond c (Some e.1) (find name_cmp q es)) t ∙ f

-- what holds of each row that is found holds of each row
every : (P : RowName → RowOf → Type 0) (es : Rows) → Ascends es → ((q : RowName) (row : RowOf) → find name_cmp q es ≡ Some row → P q row) → AllByRecursion (λ e. P e.0 e.1) es
every P [] a h = tt
every P (e ∷ es) a h = (h e.0 e.1 (found_first e es), every P es a.1 (λ q row f. h q row (found_later q row e es a.0 f)))

pub every_row : (P : RowName → RowOf → Type 0) (db : Database) → ((q : RowName) (row : RowOf) → get db q ≡ Some row → P q row) → AllByRecursion (λ e. P e.0 e.1) (entries db)
every_row P db h = every P (entries db) (ascends (entries db) (entries_sorted db)) (λ q row f. h q row (get-entries db q ∙ f))

all_kept : (n : ℕ) (es : Rows) → AllByRecursion (λ (e : RowName × RowOf). e.0.table < n) es → filter (λ e. nat_lt e.0.table n) es ≡ es
all_kept n [] h = refl
all_kept n (e ∷ es) h =
    ap (λ b. cond b (e ∷ filter (λ e. nat_lt e.0.table n) es) (filter (λ e. nat_lt e.0.table n) es)) (lt-ltb e.0.table n h.0) ∙ ap (λ (rest : Rows). e ∷ rest) (all_kept n es h.1)

pub in_order : (tables : List TableShape) (db : Database) → ((q : RowName) (row : RowOf) → get db q ≡ Some row → q.table < length tables) → rows_in_order tables db ≡ entries db
in_order tables db h = all_kept (length tables) (entries db) (every_row (λ q row. q.table < length tables) db h)

-- ---- names

abbrev pub row_at : RowName × RowOf → RowAt
row_at e = (e.0.table, e.0.key, e.1)

unlike : (x y : RowName) → name_cmp x y ≡ Less → (eqb x.table y.table && eqb x.key y.key) ≡ false
unlike x y l = by (eqb x.table y.table && eqb x.key y.key) refl
  where
    by : (b : Bool) → (eqb x.table y.table && eqb x.key y.key) ≡ b → b ≡ false
    by false e = refl
    by true e =
        let both = and_parts _ _ e in
        let same : x ≡ y = λ i. record { table = eqb-true x.table y.table both.0 i; key = eqb-true x.key y.key both.1 i } in
        absurd (let g = sym (tied_itself names_total x) ∙ ap (name_cmp x) same ∙ l in cc)

unlike_all : (e : RowName × RowOf) (es : Rows) → Below e.0 es → AllByRecursion (λ y. same_name (row_at e) y ≡ false) (map row_at es)
unlike_all e [] b = tt
unlike_all e (f ∷ es) b = (unlike e.0 f.0 b.0, unlike_all e es b.1)

distinct : (es : Rows) → Ascends es → IsDistinct same_name (map row_at es)
unfolding IsDistinct
distinct [] a = tt
distinct (e ∷ es) a = (unlike_all e es a.0, distinct es a.1)

pub rows_distinct : (db : Database) → IsDistinct same_name (map row_at (entries db))
rows_distinct db = distinct (entries db) (ascends (entries db) (entries_sorted db))

-- ---- rows that are put in

put_in : (es : Rows) (db : Database) (q : RowName) → Ascends es → get (with_rows db (map row_at es)) q ≡ option_or (find name_cmp q es) (get db q)
put_in [] db q a = refl
put_in (e ∷ es) db q a =
    put_in es (insert db e.0 e.1) q a.1 ∙ ap (option_or (find name_cmp q es)) (get-insert names_total db e.0 e.1 q) ∙ by (eq_by_cmp name_cmp q e.0) refl
  where
    by : (t : Bool) → eq_by_cmp name_cmp q e.0 ≡ t
        → option_or (find name_cmp q es) (cond (eq_by_cmp name_cmp q e.0) (Some e.1) (get db q)) ≡ option_or (find name_cmp q (e ∷ es)) (get db q)
    by true t = ap (λ o. option_or o (cond (eq_by_cmp name_cmp q e.0) (Some e.1) (get db q))) (tied_none q e es a.0 t) ∙ rw t refl
    by false t = rw t refl

or_none : {A : Type 0} (o : Option A) → option_or o None ≡ o
or_none None = refl
or_none (Some x) = refl

pub rows_make_it : (db : Database) → with_rows empty (map row_at (entries db)) ≡ db
rows_make_it db =
    same_map names_total exact_names (with_rows empty (map row_at (entries db))) db (λ q.
    put_in (entries db) empty q (ascends (entries db) (entries_sorted db)) ∙ ap (option_or (find name_cmp q (entries db))) (get-empty name_cmp q) ∙ or_none (find name_cmp q (entries db)) ∙ sym (get-entries db q))
