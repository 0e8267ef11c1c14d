-- The rows of a database in order.
use Rattle.std.proofs.Common.{subst, sym, None, Option, map, option_map, slice_get}
use Rattle.std.proofs.lemmas.Option.{slice_get_within}
use Rattle.values.specs.Rows.{type_of}
use Rattle.proclang_types.specs.Syntax.{ProcSyntax}
use Rattle.meaning.specs.Entries.{EntryShape, meaning}
use Rattle.meaning.specs.Fitting.{HasTypes, IsCallOf, StandInNeverShows}
use Rattle.meaning.specs.Serial.{serial_end}
use Rattle.row_text.specs.Calls.{AreCallsOver}
use Rattle.std.proofs.Common.{◌≡◌, ℕ, ◌<◌, Bool, true, false, cond, List, [], ◌∷◌, length, filter, nat_lt, Some, refl, ap, ◌∙◌, arith}
use Rattle.std.specs.Cmp.{IsTotalOrder, tied_itself}
use Rattle.std.specs.Ordering.{eq_by_cmp, is_eq}
use Rattle.std.specs.FinMap.{entries, get, get-entries, find}
use Rattle.std.proofs.lemmas.Bool.Decides.{nat_tests}
use Rattle.values.specs.declared.name.RowName.{RowName}
use Rattle.values.specs.contracts.name.RowNameOrd.TheImpl.Laws as laws
use Rattle.catalogue.specs.Shapes.{TableShape}
use Rattle.values.specs.Database.{Database, RowOf, name_cmp}
use Rattle.row_text.specs.Texts.{row_lines, row_text}

names_total : IsTotalOrder name_cmp
names_total = laws.lawful.total

abbrev Found : List (RowName × RowOf) → RowName → Type 0
Found es q = (row : RowOf) × (find name_cmp q es ≡ Some row)

found_first : (e : RowName × RowOf) (es : List (RowName × RowOf)) → Found (e ∷ es) e.0
found_first e es = (e.1, ap (λ o. cond (is_eq o) (Some e.1) (find name_cmp e.0 es)) (tied_itself names_total e.0))

found_more : (e : RowName × RowOf) (es : List (RowName × RowOf)) (q : RowName) → Found es q → Found (e ∷ es) q
found_more e es q f = elim (eq_by_cmp name_cmp q e.0) as (λ b. (row : RowOf) × (cond b (Some e.1) (find name_cmp q es) ≡ Some row)) [ true ↦ (e.1, refl) | false ↦ f ]

-- a test that each of the names passes
all_pass : (P : RowName → Bool) (es : List (RowName × RowOf)) → ((q : RowName) → Found es q → P q ≡ true) → filter (λ e. P e.0) es ≡ es
all_pass P [] h = refl
all_pass P (e ∷ es) h =
    ap (λ b. cond b (e ∷ filter (λ e. P e.0) es) (filter (λ e. P e.0) es)) (h e.0 (found_first e es))
    ∙ ap (λ rest. e ∷ rest) (all_pass P es (λ q f. h q (found_more e es q f)))

below : (n m : ℕ) → n < m → nat_lt n m ≡ true
below n m h = grind (arith, nat_tests)

pub all_rows : (tables : List TableShape) (db : Database) → ((name : RowName) (row : RowOf) → get db name ≡ Some row → name.table < length tables) → row_text tables db ≡ row_lines tables (entries db)
all_rows tables db h = ap (row_lines tables) (all_pass (λ q. nat_lt q.table (length tables)) (entries db) (λ q f. below _ _ (h q f.0 (get-entries db q ∙ f.1))))

-- ---- rows that calls leave

-- what stands for something missing never shows, and rows keep their types
abbrev Law : Type 0
Law = (proc : ProcSyntax) (entry : EntryShape) (db : Database) → IsCallOf proc entry → HasTypes entry.tables db → StandInNeverShows entry db

pub types_left : Law → (tables : List TableShape) (calls : List EntryShape) (db : Database) → AreCallsOver tables calls → HasTypes tables db → HasTypes tables (serial_end calls db)
types_left law tables [] db are h = h
types_left law tables (call ∷ calls) db are h =
    let over : call.tables ≡ tables = are.0.over in
    let next : HasTypes tables (meaning call db).1 = subst (λ ts. HasTypes ts (meaning call db).1) over (law are.0.proc call db are.0.call (subst (λ ts. HasTypes ts db) (sym over) h)).types in
    types_left law tables calls (meaning call db).1 are.1 next

is_there : (tables : List TableShape) (n : ℕ) (row : RowOf) (o : Option TableShape) → slice_get tables n ≡ o → option_map (λ t. map (λ c. c.kind) t.columns) o ≡ Some (map type_of row) → n < length tables
is_there tables n row None e h = absurd cc
is_there tables n row (Some t) e h = slice_get_within tables n t e

pub lines_left : Law → (tables : List TableShape) (calls : List EntryShape) (db : Database) → AreCallsOver tables calls → HasTypes tables db →
    row_text tables (serial_end calls db) ≡ row_lines tables (entries (serial_end calls db))
lines_left law tables calls db are h =
    let types = types_left law tables calls db are h in
    all_rows tables (serial_end calls db) (λ name row g. is_there tables name.table row (slice_get tables name.table) refl (types name row g))
