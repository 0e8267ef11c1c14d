-- Rows that a document says are of the tables, and so are the rows that calls leave.
use Rattle.std.proofs.Common.{◌≡◌, ◌<◌, ℕ, Bool, true, false, cond, List, [], ◌∷◌, length, map, Option, Some, None, option_map, option_and_then, slice_get, refl, sym, ap, ◌∙◌, subst}
use Rattle.std.specs.Prelude.{if◌then◌else◌}
use Rattle.std.specs.List.{AllByRecursion}
use Rattle.std.specs.Ordering.{eq_by_cmp}
use Rattle.std.specs.FinMap.{empty, get, get-empty, get-insert, insert}
use Rattle.std.proofs.lemmas.Bool.{and_parts}
use Rattle.std.proofs.lemmas.Option.{slice_get_within}
use Rattle.serde_json.specs.Data.{Data}
use Rattle.documents.proofs.Steps.{and_then_ok}
use Rattle.values.specs.declared.name.RowName.{RowName}
use Rattle.values.specs.declared.value.Value.{Value}
use Rattle.values.specs.declared.value.ColType.{ColType}
use Rattle.values.specs.declared.value.ColType.TheVariants as types
use Rattle.values.specs.Database.{Database, RowOf, name_cmp}
use Rattle.values.specs.Rows.{is_kind, kinds_match, type_of}
use Rattle.catalogue.specs.Rules.{Says}
use Rattle.catalogue.specs.Said.{values_said}
use Rattle.catalogue.specs.Shapes.{ColumnShape, TableShape}
use Rattle.meaning.specs.Entries.{EntryShape}
use Rattle.meaning.specs.Fitting.{HasTypes, IsRowOf}
use Rattle.meaning.specs.Serial.{serial_end}
use Rattle.row_text.proofs.MergedRows.{exact_names, names_total}
use Rattle.shelves.specs.Rows.{with_rows}
use Rattle.setup.specs.Rows.{RowAt, row_values, taken_by}
use Rattle.setup.specs.Says.{SaysRow, SaysRows}
use Rattle.rows_document.specs.Said.{AreRowsIn, IsRowIn, IsValue}
use Rattle.rows_document.proofs.Ordered.{equal}
use Rattle.moved_rows.specs.Stored.{IsValueCall}
use Rattle.moved_rows.proofs.Documents.{each_sound, key_in_range, said_values}
use Rattle.moved_rows.proofs.JsonData.{IsSound}
use Rattle.moved_rows.proofs.Values.{AreHeld, held_left}

-- a table that has a row is there
is_there : (tables : List TableShape) (n : ℕ) (row : RowOf) (o : Option TableShape) → slice_get tables n ≡ o → option_map (λ t. map (λ c. c.kind) t.columns) o ≡ Some (map type_of row) → n < length tables
is_there tables n row None e h = absurd cc
is_there tables n row (Some t) e h = slice_get_within tables n t e

table_there : (tables : List TableShape) (n : ℕ) (row : RowOf) → IsRowOf tables n row → n < length tables
table_there tables n row h = is_there tables n row (slice_get tables n) refl h

-- ---- rows that calls leave

held_of : (tables : List TableShape) (db : Database) → AreRowsIn tables db → AreHeld db
held_of tables db h name row e = let is = h name row e in (is.named.1, is.values)

pub rows_left : (tables : List TableShape) (calls : List EntryShape) (db : Database) → HasTypes tables (serial_end calls db) → AllByRecursion IsValueCall calls → AreRowsIn tables db → AreRowsIn tables (serial_end calls db)
rows_left tables calls db types are h name row e =
    let held = held_left calls db are (held_of tables db h) name row e in
    record { named = (table_there tables name.table row (types name row e), held.0); types = types name row e; values = held.1 }

pub types_of : (tables : List TableShape) (db : Database) → AreRowsIn tables db → HasTypes tables db
types_of tables db h name row e = (h name row e).types

-- ---- rows that a document says

one_kind : (k l : ColType) → is_kind k l ≡ true → k ≡ l
one_kind types.Int types.Int e = refl
one_kind types.Int types.Text e = absurd cc
one_kind types.Text types.Int e = absurd cc
one_kind types.Text types.Text e = refl

kinds_are : (ks : List ColType) (vs : List Value) → kinds_match ks vs ≡ true → ks ≡ map type_of vs
kinds_are [] [] e = refl
kinds_are [] (v ∷ vs) e = absurd cc
kinds_are (k ∷ ks) [] e = absurd cc
kinds_are (k ∷ ks) (v ∷ vs) e =
    let both = and_parts (is_kind k (type_of v)) (kinds_match ks vs) e in
    ap (λ (x : ColType). x ∷ ks) (one_kind k (type_of v) both.0) ∙ ap (λ (rest : List ColType). type_of v ∷ rest) (kinds_are ks vs both.1)

taken_is : (o : Option TableShape) (vs row : List Value) → option_and_then (λ t. if kinds_match (map (λ c. c.kind) t.columns) vs then Some vs else None) o ≡ Some row
    → (option_map (λ t. map (λ c. c.kind) t.columns) o ≡ Some (map type_of row)) × (vs ≡ row)
taken_is None vs row e = absurd cc
taken_is (Some t) vs row e = by (kinds_match (map (λ (c : ColumnShape). c.kind) t.columns) vs) refl
  where
    by : (b : Bool) → kinds_match (map (λ (c : ColumnShape). c.kind) t.columns) vs ≡ b → (option_map (λ t. map (λ c. c.kind) t.columns) (Some t) ≡ Some (map type_of row)) × (vs ≡ row)
    by true p =
        let same : vs ≡ row = let g = sym (ap (λ (b : Bool). if b then Some vs else None) p) ∙ e in cc in
        (ap (λ (ks : List ColType). Some ks) (kinds_are (map (λ (c : ColumnShape). c.kind) t.columns) vs p ∙ ap (map type_of) same), same)
    by false p = absurd (let g = sym (ap (λ (b : Bool). if b then Some vs else None) p) ∙ e in cc)

row_is : (tables : List TableShape) (table : ℕ) (ds : List Data) (row : RowOf) → AllByRecursion IsSound ds → row_values tables table ds ≡ Some row → IsRowOf tables table row × AllByRecursion IsValue row
row_is tables table ds row sound e =
    let vs = and_then_ok (taken_by tables table) (values_said ds) row e in
    let taken = taken_is (slice_get tables table) vs.0 row vs.2 in
    (taken.0, subst (AllByRecursion IsValue) taken.1 (said_values ds vs.0 sound vs.1))

one_in : (tables : List TableShape) (d : Data) (r : RowAt) → IsSound d → SaysRow tables d r → IsRowIn tables (record { table = r.0; key = r.1 }) r.2
one_in tables d r sound h =
    let parts = subst IsSound h.is_form sound in
    let row = row_is tables r.0 h.list r.2 (each_sound h.list parts.1.1.0) h.is_row in
    record { named = (table_there tables r.0 r.2 row.0, key_in_range h.key r.1 parts.1.0 h.is_key); types = row.0; values = row.1 }

insert_in : (tables : List TableShape) (db : Database) (name : RowName) (row : RowOf) → AreRowsIn tables db → IsRowIn tables name row → AreRowsIn tables (insert db name row)
insert_in tables db name row h k q found e = by (eq_by_cmp name_cmp q name) refl
  where
    by : (b : Bool) → eq_by_cmp name_cmp q name ≡ b → IsRowIn tables q found
    by true t =
        let same : row ≡ found = let g = sym (ap (λ (c : Bool). cond c (Some row) (get db q)) t) ∙ sym (get-insert names_total db name row q) ∙ e in cc in
        let is : name ≡ q = sym (exact_names q name (equal _ t)) in
        subst (λ (x : RowName). IsRowIn tables x found) is (subst (IsRowIn tables name) same k)
    by false t = h q found (sym (ap (λ (c : Bool). cond c (Some row) (get db q)) t) ∙ sym (get-insert names_total db name row q) ∙ e)

all_in : (tables : List TableShape) (db : Database) (ds : List Data) (rows : List RowAt) → AllByRecursion IsSound ds → AreRowsIn tables db → Says (SaysRow tables) ds rows → AreRowsIn tables (with_rows db rows)
all_in tables db [] [] sound h says = h
all_in tables db [] (r ∷ rs) sound h says = absurd says
all_in tables db (d ∷ ds) [] sound h says = absurd says
all_in tables db (d ∷ ds) (r ∷ rs) sound h says =
    all_in tables (insert db (record { table = r.0; key = r.1 }) r.2) ds rs sound.1
    (insert_in tables db (record { table = r.0; key = r.1 }) r.2 h (one_in tables d r sound.0 says.0)) says.1

none_in : (tables : List TableShape) → AreRowsIn tables empty
none_in tables q row e = absurd (let g = sym (get-empty name_cmp q) ∙ e in cc)

pub said_rows : (tables : List TableShape) (d : Data) (rows : List RowAt) → IsSound d → SaysRows tables d rows → AreRowsIn tables (with_rows empty rows)
said_rows tables d rows sound h =
    let parts = subst IsSound h.is_form sound in
    all_in tables empty h.list rows (each_sound h.list parts.1.1.0) (none_in tables) h.are
