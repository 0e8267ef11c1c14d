-- Rows that are listed one after the other.
use Rattle.std.proofs.Common.{◌≡◌, Result, Ok, Err, subst, ℕ, suc, ◌+◌, ◌<◌, ◌==◌, Bool, true, false, cond, List, [], ◌∷◌, ◌++◌, codes, get_or, length, map, nat_lt, take, refl, sym, ap, ◌∙◌, arith, Less, append_assoc, append-nil}
use Rattle.std.specs.Borrow.{Bor}
use Rattle.std.specs.FinMap.{entries, entries_sorted}
use Rattle.std.specs.List.{AllByRecursion, flat_map, join_by}
use Rattle.std.specs.Result.{OnOk}
use Rattle.std.proofs.lemmas.Bool.Decides.{nat_tests}
use Rattle.std.proofs.lemmas.List.{map-append}
use Rattle.values.specs.declared.name.RowName.{RowName}
use Rattle.values.specs.Database.{Database, RowOf, name_cmp}
use Rattle.catalogue.specs.Shapes.{TableShape}
use Rattle.workspace.specs.Scan.{by_key, referred}
use Rattle.row_text.specs.Merge.{is_of_table, rows_of}
use Rattle.row_text.specs.Texts.{line_end}
use Rattle.row_text.proofs.MergedRows.{Ascends, Below, Rows, ascends, before_table, first_tables, kept, none_of_none}
use Rattle.rows_document.specs.declared.listing.Listing.{Listing}
use Rattle.rows_document.specs.Listing.{Lists, are_any, headed_row, named, opening, table_head}
use Rattle.rows_document.specs.Said.{IsHeldRow}
use Rattle.rows_document.specs.Texts.{document_of, row_document, row_on_line, rows_document, table_document}

-- ---- one more

flat_map-push : {X : Type 0} (f : X → List ℕ) (xs : List X) (x : X) → flat_map f (xs ++ x ∷ []) ≡ flat_map f xs ++ f x
flat_map-push f [] x = append-nil (f x)
flat_map-push f (y ∷ ys) x = ap (λ t. f y ++ t) (flat_map-push f ys x) ∙ sym (append_assoc (f y) (flat_map f ys) (f x))

joined_more : (f : RowName × RowOf → List ℕ) (sep : List ℕ) (xs : Rows) (x : RowName × RowOf) → join_by f sep (xs ++ x ∷ []) ≡ (join_by f sep xs ++ cond (are_any xs) sep []) ++ f x
joined_more f sep [] x = append-nil (f x)
joined_more f sep (y ∷ ys) x =
    ap (λ t. f y ++ t) (flat_map-push (λ z. sep ++ f z) ys x)
    ∙ sym (append_assoc (f y) (flat_map (λ z. sep ++ f z) ys) (sep ++ f x))
    ∙ sym (append_assoc (f y ++ flat_map (λ z. sep ++ f z) ys) sep (f x))

headed : (tables : List TableShape) (table key : ℕ) (row : RowOf) → headed_row (table_head tables table) key row ≡ row_on_line tables (record { table = table; key = key }, row)
unfolding row_document
headed tables table key row = simp append_assoc

some_now : (xs : Rows) (x : RowName × RowOf) → true ≡ are_any (xs ++ x ∷ [])
some_now [] x = refl
some_now (y ∷ ys) x = refl

pub row_listed : (tables : List TableShape) (table key : ℕ) (row : RowOf) (rows : Rows) (old new : Listing) (head text : List ℕ) → head ≡ table_head tables table → Lists tables rows old
    → text ≡ old.text.items ++ cond old.any (codes ",") [] → new.text.items ≡ text ++ headed_row head key row → new.any ≡ true → Lists tables (rows ++ (record { table = table; key = key }, row) ∷ []) new
row_listed tables table key row rows old new head text called so_far comma more any =
    let e : RowName × RowOf = (record { table = table; key = key }, row) in
    let before = join_by (row_on_line tables) (codes ",") rows in
    let separator = cond (are_any rows) (codes ",") [] in
    record {
      text = more ∙ ap (λ h. text ++ headed_row h key row) called ∙ ap (λ t. text ++ t) (headed tables table key row)
          ∙ ap (λ t. t ++ row_on_line tables e) (comma ∙ (λ i. so_far.text i ++ cond (so_far.any i) (codes ",") []) ∙ append_assoc opening before separator)
          ∙ append_assoc opening (before ++ separator) (row_on_line tables e)
          ∙ ap (λ t. opening ++ t) (sym (joined_more (row_on_line tables) (codes ",") rows e));
      any = any ∙ some_now rows e;
    }

-- ---- rows of a table

take_more : {X : Type 0} (xs : List X) (n : ℕ) (x : X) → n < length xs → x ≡ get_or xs n x → take (n + 1) xs ≡ take n xs ++ x ∷ []
take_more [] n x h e = absurd (omega arith)
take_more (y ∷ ys) ℕ.zero x h e = ap (λ (z : _). z ∷ []) (sym e)
take_more (y ∷ ys) (suc n) x h e = let next : suc n + 1 ≡ suc (n + 1) = omega arith in ap (λ (m : ℕ). take m (y ∷ ys)) next ∙ ap (λ (zs : List _). y ∷ zs) (take_more ys n x (omega arith) e)

pub named_more : (table : ℕ) (rows : List (ℕ × Bor RowOf)) (at : ℕ) (row : ℕ × Bor RowOf) (before : Rows) → at < length rows → row ≡ get_or rows at row
    → (before ++ named table (take at rows)) ++ (record { table = table; key = row.0 }, row.1.now) ∷ [] ≡ before ++ named table (take (at + 1) rows)
named_more table rows at row before l here =
    append_assoc before (named table (take at rows)) ((record { table = table; key = row.0 }, row.1.now) ∷ [])
    ∙ ap (λ (es : Rows). before ++ es) (sym (map-append _ (take at rows) (row ∷ [])) ∙ ap (named table) (sym (take_more rows at row l here)))

abbrev keyed : ℕ → List (ℕ × RowOf) → Rows
keyed table rows = map (λ (row : ℕ × RowOf). (record { table = table; key = row.0 }, row.1)) rows

by_references : (table : ℕ) (rows : List (ℕ × Bor RowOf)) → named table rows ≡ keyed table (referred rows)
by_references table [] = refl
by_references table (row ∷ rows) = ap (λ (es : Rows). (record { table = table; key = row.0 }, row.1.now) ∷ es) (by_references table rows)

is_number : (n m : ℕ) → (n == m) ≡ true → n ≡ m
is_number n m e = grind (arith, nat_tests)

by_names : (table : ℕ) (es : Rows) → keyed table (by_key (kept (is_of_table table) es)) ≡ kept (is_of_table table) es
by_names table [] = refl
by_names table (e ∷ es) = elim (is_of_table table e.0) as (λ (b : Bool). is_of_table table e.0 ≡ b
    → keyed table (by_key (cond b (e ∷ kept (is_of_table table) es) (kept (is_of_table table) es))) ≡ cond b (e ∷ kept (is_of_table table) es) (kept (is_of_table table) es)) [
      | true ↦ λ is.
          ap (λ (t : ℕ). (record { table = t; key = e.0.key }, e.1) ∷ keyed table (by_key (kept (is_of_table table) es))) (sym (is_number e.0.table table is))
          ∙ ap (λ (rest : Rows). e ∷ rest) (by_names table es)
      | false ↦ λ is. by_names table es
    ] refl

pub named_are : (table : ℕ) (db : Database) (rows : List (ℕ × Bor RowOf)) → referred rows ≡ by_key (rows_of table db) → named table rows ≡ rows_of table db
named_are table db rows is = by_references table rows ∙ ap (keyed table) is ∙ by_names table (entries db)

-- ---- tables one after the other

at_least : (a b : RowName) (count : ℕ) → name_cmp a b ≡ Less → before_table count a ≡ false → before_table count b ≡ false
at_least a b count l h = grind (arith, nat_tests)

none_before : (x : RowName) (count : ℕ) (es : Rows) → Below x es → before_table count x ≡ false → kept (before_table count) es ≡ []
none_before x count [] b h = refl
none_before x count (e ∷ es) b h = ap (λ t. cond t (e ∷ kept (before_table count) es) (kept (before_table count) es)) (at_least x e.0 count b.0 h) ∙ none_before x count es b.1 h

of_one_table : (x : RowName) (count : ℕ) → before_table count x ≡ false → before_table (count + 1) x ≡ is_of_table count x
of_one_table x count h = grind (arith, nat_tests)

same_of_table : (x : RowName) (count : ℕ) (es : Rows) → Below x es → before_table count x ≡ false → kept (before_table (count + 1)) es ≡ kept (is_of_table count) es
same_of_table x count [] b h = refl
same_of_table x count (e ∷ es) b h =
    ap (λ t. cond t (e ∷ kept (before_table (count + 1)) es) (kept (before_table (count + 1)) es)) (of_one_table e.0 count (at_least x e.0 count b.0 h))
    ∙ ap (λ (rest : Rows). cond (is_of_table count e.0) (e ∷ rest) rest) (same_of_table x count es b.1 h)

still_before : (x : RowName) (count : ℕ) → before_table count x ≡ true → before_table (count + 1) x ≡ true
still_before x count h = grind (arith, nat_tests)

not_of_table : (x : RowName) (count : ℕ) → before_table count x ≡ true → is_of_table count x ≡ false
not_of_table x count h = grind (arith, nat_tests)

split : (count : ℕ) (es : Rows) → Ascends es → kept (before_table (count + 1)) es ≡ kept (before_table count) es ++ kept (is_of_table count) es
split count [] s = refl
split count (e ∷ es) s = elim (before_table count e.0) as (λ b. before_table count e.0 ≡ b →
    kept (before_table (count + 1)) (e ∷ es) ≡ cond b (e ∷ kept (before_table count) es) (kept (before_table count) es) ++ kept (is_of_table count) (e ∷ es)) [
      | true ↦ λ h.
          ap (λ t. cond t (e ∷ kept (before_table (count + 1)) es) (kept (before_table (count + 1)) es)) (still_before e.0 count h)
          ∙ ap (λ (rest : Rows). e ∷ rest) (split count es s.1)
          ∙ ap (λ t. (e ∷ kept (before_table count) es) ++ cond t (e ∷ kept (is_of_table count) es) (kept (is_of_table count) es)) (sym (not_of_table e.0 count h))
      | false ↦ λ h.
          ap (λ t. cond t (e ∷ kept (before_table (count + 1)) es) (kept (before_table (count + 1)) es)) (of_one_table e.0 count h)
          ∙ ap (λ (rest : Rows). cond (is_of_table count e.0) (e ∷ rest) rest) (same_of_table e.0 count es s.0 h)
          ∙ ap (λ (front : Rows). front ++ kept (is_of_table count) (e ∷ es)) (sym (none_before e.0 count es s.0 h))
    ] refl

pub table_more : (count : ℕ) (db : Database) → first_tables count db ++ rows_of count db ≡ first_tables (count + 1) db
table_more count db = sym (split count (entries db) (ascends (entries db) (entries_sorted db)))

no_less : (n : ℕ) → nat_lt n 0 ≡ false
no_less n = grind (arith, nat_tests)

pub no_tables : (db : Database) → [] ≡ first_tables 0 db
no_tables db = sym (none_of_none (before_table 0) (entries db) (λ q. no_less q.table))

-- the whole text
pub listed : (tables : List TableShape) (db : Database) (listing : Listing) (count : ℕ) → count ≡ length tables → Lists tables (first_tables count db) listing
    → listing.text.items ++ line_end ++ codes "]]" ++ line_end ≡ rows_document tables db
unfolding document_of
listed tables db listing count all lists =
    ap (λ t. t ++ line_end ++ codes "]]" ++ line_end) (lists.text ∙ ap (λ n. opening ++ join_by (row_on_line tables) (codes ",") (first_tables n db)) all)

-- ---- rows that are held

pub held_append : (es fs : Rows) → AllByRecursion IsHeldRow es → AllByRecursion IsHeldRow fs → AllByRecursion IsHeldRow (es ++ fs)
held_append [] fs h k = k
held_append (e ∷ es) fs h k = (h.0, held_append es fs h.1 k)

pub held_more : (table : ℕ) (rows : List (ℕ × Bor RowOf)) (at : ℕ) (row : ℕ × Bor RowOf) → at < length rows → row ≡ get_or rows at row
    → AllByRecursion IsHeldRow (named table (take at rows)) → IsHeldRow (record { table = table; key = row.0 }, row.1.now) → AllByRecursion IsHeldRow (named table (take (at + 1) rows))
held_more table rows at row l here h k =
    subst (AllByRecursion IsHeldRow) (named_more table rows at row [] l here)
    (held_append (named table (take at rows)) ((record { table = table; key = row.0 }, row.1.now) ∷ []) h (k, tt))

pub always : {A E P : Type 0} (r : Result A E) → P → OnOk r P
always (Ok x) p = p
always (Err e) p = tt

-- the rows of one table
pub table_listed : (tables : List TableShape) (table : ℕ) (db : Database) (listing : Listing) → Lists tables ([] ++ rows_of table db) listing
    → listing.text.items ++ line_end ++ codes "]]" ++ line_end ≡ table_document tables table db
unfolding document_of
table_listed tables table db listing h = ap (λ text. text ++ line_end ++ codes "]]" ++ line_end) h.text
