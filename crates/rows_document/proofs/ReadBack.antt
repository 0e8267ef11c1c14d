-- What a rows document says: the rows of the database, in order.
use Rattle.std.proofs.Common.{◌≡◌, ℕ, zero, suc, pos, negsuc, ◌+◌, ◌^◌, ◌<◌, true, false, cond, not, List, [], ◌∷◌, ◌++◌, length, map, Option, Some, None, option_and_then, option_map, slice_get, unwrap_or, codes, refl, sym, ap, ◌∙◌, subst, arith, append_assoc, append-nil, lt-ltb, le-leb, ltb, inl, inr}
use Rattle.std.specs.List.{AllByRecursion, IsDistinct, prefix_len, join_by}
use Rattle.std.specs.FinMap.{empty, entries}
use Rattle.std.specs.Str.{IsUtf8, bytes_eq}
use Rattle.std.proofs.lemmas.Bool.{cases_Bool}
use Rattle.std.proofs.lemmas.Slice.Eq.{bytes_eq-Decides}
use Rattle.std.proofs.lemmas.Str.{IsUtf8-from_ascii, is_utf8-from_IsUtf8}
use Rattle.json.specs.Json as json
use Rattle.json.specs.Json.{if_last}
use Rattle.json.specs.Lex.{tokens}
use Rattle.json.specs.Tree.{json_tokens}
use Rattle.json.proofs.Printed.Trees.{value-json_tokens}
use Rattle.serde_json.specs.Data.{Data, unsigned, number}
use Rattle.serde_json.specs.Read.{of_json, read}
use Rattle.values.specs.declared.name.RowName.{RowName}
use Rattle.values.specs.declared.value.Value.{Value}
use Rattle.values.specs.declared.value.Value.TheVariants.{Int, Text}
use Rattle.values.specs.Database.{Database, RowOf}
use Rattle.values.specs.Names.{is_name}
use Rattle.values.specs.Rows.{is_kind, kinds_match, type_of}
use Rattle.catalogue.specs.Places.{table_named}
use Rattle.catalogue.specs.Rules.{IsCatalogue, Says}
use Rattle.catalogue.specs.Said.{value_said, values_after}
use Rattle.catalogue.specs.Shapes.{ColumnShape, TableShape}
use Rattle.row_text.specs.Texts.{rows_in_order, table_name}
use Rattle.shelves.specs.Rows.{with_rows}
use Rattle.setup.specs.Rows.{row_values, taken_by}
use Rattle.setup.specs.Says.{IsJson, SaysDocument, SaysRow, SaysSetup, same_name}
use Rattle.setup.specs.Setups.{SetupShape}
use Rattle.setup.specs.WithRows.{SaysSetupWithRows, with_rows_document}
use Rattle.setup.proofs.SaidWithRows.{rows_twice, says_with_rows}
use Rattle.rows_document.specs.Said.{AreRowsIn, IsReadBack, IsRowIn, IsValue, row_list, with_row_list}
use Rattle.rows_document.specs.Texts.{document_of, json_text, row_on_line, rows_document}
use Rattle.rows_document.proofs.Ascii.{document_ascii, name_ascii}
use Rattle.rows_document.proofs.Ordered.{every_row, in_order, row_at, rows_distinct, rows_make_it}
use Rattle.rows_document.proofs.Tokens.{IsNamed, document_tokens}
use Rattle.rows_document.proofs.Trees.{IsWritten, document_json, document_read, document_shallow, row_data, rows_data, value_data}

-- ---- the text

document_parts : (tables : List TableShape) (db : Database) → rows_document tables db
    ≡ 91 ∷ (json_text (codes "rows") ++ (44 ∷ 49 ∷ 44 ∷ 91 ∷ (join_by (row_on_line tables) (codes ",") (rows_in_order tables db) ++ (10 ∷ 93 ∷ 93 ∷ 10 ∷ []))))
unfolding document_of
document_parts tables db = simp append_assoc

word_utf8 : IsUtf8 (codes "rows")
word_utf8 = IsUtf8-from_ascii (codes "rows") (name_ascii (codes "rows") refl)

read_from : (text : List ℕ) (j : json.Json) (d : Data) → tokens text ≡ json_tokens j → json.value 127 (json_tokens j ++ []) ≡ Some (j, []) → of_json j ≡ Some d → read text ≡ Some d
read_from text j d t v e =
    ap (λ ts. option_and_then of_json (option_and_then (λ p. if_last p.0 p.1) (json.value 127 ts))) (t ∙ sym (append-nil (json_tokens j)))
    ∙ ap (λ o. option_and_then of_json (option_and_then (λ p. if_last p.0 p.1) o)) v ∙ e

is_json : (tables : List TableShape) (db : Database) → AllByRecursion (IsNamed tables) (rows_in_order tables db) → AllByRecursion IsWritten (rows_in_order tables db)
    → IsJson (rows_document tables db) (rows_data tables (rows_in_order tables db))
is_json tables db named written =
    let es = rows_in_order tables db in
    let j = document_json tables es in
    record {
      utf8 = is_utf8-from_IsUtf8 (rows_document tables db) (subst IsUtf8 (sym (document_parts tables db)) (IsUtf8-from_ascii _ (document_ascii tables es written)));
      json = read_from (rows_document tables db) j (rows_data tables es) (ap tokens (document_parts tables db) ∙ document_tokens tables es word_utf8 named)
          (value-json_tokens j 127 [] (document_shallow tables es)) (document_read tables es written);
    }

-- ---- values

value_again : (v : Value) → IsValue v → value_said (value_data v) ≡ Some v
value_again (Int (pos n)) h = rw h refl
value_again (Int (negsuc n)) h = refl
value_again (Text s) h = rw (le-leb (length s) 64 h.1) refl

values_again : (before vs : List Value) → AllByRecursion IsValue vs → values_after before (map value_data vs) ≡ Some (before ++ vs)
values_again before [] h = ap (λ (ws : List Value). Some ws) (sym (append-nil before))
values_again before (v ∷ vs) h =
    ap (option_and_then (λ w. values_after (before ++ w ∷ []) (map value_data vs))) (value_again v h.0)
    ∙ values_again (before ++ v ∷ []) vs h.1 ∙ ap (λ (ws : List Value). Some ws) (append_assoc before (v ∷ []) vs)

same_kind : (v : Value) → is_kind (type_of v) (type_of v) ≡ true
same_kind (Int n) = refl
same_kind (Text s) = refl

kinds_agree : (vs : List Value) → kinds_match (map type_of vs) vs ≡ true
kinds_agree [] = refl
kinds_agree (v ∷ vs) = rw (same_kind v) (kinds_agree vs)

taken : (o : Option TableShape) (row : RowOf) → option_map (λ t. map (λ c. c.kind) t.columns) o ≡ Some (map type_of row)
    → option_and_then (λ t. cond (kinds_match (map (λ c. c.kind) t.columns) row) (Some row) None) o ≡ Some row
taken None row e = absurd cc
taken (Some t) row e =
    let kinds : map (λ (c : ColumnShape). c.kind) t.columns ≡ map type_of row = cc in
    ap (λ ks. cond (kinds_match ks row) (Some row) None) kinds ∙ rw (kinds_agree row) refl

values_taken : (tables : List TableShape) (name : RowName) (row : RowOf) → IsRowIn tables name row → row_values tables name.table (map value_data row) ≡ Some row
values_taken tables name row h =
    ap (option_and_then (taken_by tables name.table)) (values_again [] row h.values) ∙ taken (slice_get tables name.table) row h.types

-- ---- names of tables

turned : (xs ys : List ℕ) → bytes_eq xs ys ≡ false → bytes_eq ys xs ≡ false
turned xs ys e = elim (cases_Bool (bytes_eq ys xs)) [
  | inl t ↦ absurd (let g = sym e ∙ (bytes_eq-Decides xs ys).1 (sym ((bytes_eq-Decides ys xs).0 t)) in cc)
  | inr f ↦ f
]

unlike_at : (name : List ℕ) (tables : List TableShape) (n : ℕ) (t : TableShape) → slice_get tables n ≡ Some t → AllByRecursion (λ y. bytes_eq name y ≡ false) (map (λ (u : TableShape). u.name) tables) → bytes_eq name t.name ≡ false
unlike_at name [] n t e h = absurd cc
unlike_at name (u ∷ us) zero t e h = let same : u ≡ t = cc in subst (λ (x : TableShape). bytes_eq name x.name ≡ false) same h.0
unlike_at name (u ∷ us) (suc n) t e h = unlike_at name us n t e h.1

one_more : (n : ℕ) → 1 + n ≡ suc n
one_more n = omega arith

place_of : (tables : List TableShape) (n : ℕ) (t : TableShape) → slice_get tables n ≡ Some t → IsDistinct bytes_eq (map (λ (u : TableShape). u.name) tables)
    → (prefix_len (λ (u : TableShape). not (bytes_eq t.name u.name)) tables ≡ n) × (n < length tables)
unfolding IsDistinct
place_of [] n t e d = absurd cc
place_of (u ∷ us) zero t e d =
    let same : t ≡ u = cc in
    (ap (λ b. cond (not b) (1 + prefix_len (λ (x : TableShape). not (bytes_eq t.name x.name)) us) 0) ((bytes_eq-Decides t.name u.name).1 (ap (λ (x : TableShape). x.name) same)), omega arith)
place_of (u ∷ us) (suc n) t e d =
    let rest = place_of us n t e d.1 in (
      ap (λ b. cond (not b) (1 + prefix_len (λ (x : TableShape). not (bytes_eq t.name x.name)) us) 0) (turned u.name t.name (unlike_at u.name us n t e d.0)) ∙ ap (λ (m : ℕ). 1 + m) rest.0 ∙ one_more n,
      omega (arith, rest.1),
    )

named_at : (n : ℕ) (count m : ℕ) → m ≡ n → n < count → cond (ltb m count) (Some m) None ≡ Some n
named_at n count m e h = rw e (rw (lt-ltb n count h) refl)

table_again : (tables : List TableShape) (n : ℕ) (o : Option TableShape) → slice_get tables n ≡ o → n < length tables → IsCatalogue tables
    → table_named tables (unwrap_or (option_map (λ (t : TableShape). t.name) o) []) ≡ Some n
table_again tables n None e h is = absurd (within tables n e h)
  where
    within : (ts : List TableShape) (m : ℕ) → slice_get ts m ≡ None → m < length ts → ⊥
    within [] m e h = omega arith
    within (t ∷ ts) zero e h = cc
    within (t ∷ ts) (suc m) e h = within ts m e (omega arith)
table_again tables n (Some t) e h is =
    let place = place_of tables n t e is.named.distinct in
    named_at n (length tables) _ place.0 place.1

-- ---- rows

row_says : (tables : List TableShape) (e : RowName × RowOf) → IsCatalogue tables → IsRowIn tables e.0 e.1 → SaysRow tables (row_data tables e) (row_at e)
row_says tables e is h = record {
  table = table_name tables e.0.table;
  key = number (unsigned e.0.key);
  list = map value_data e.1;
  is_form = refl;
  is_table = table_again tables e.0.table (slice_get tables e.0.table) refl h.named.0 is;
  is_key = rw (lt-ltb e.0.key (2 ^ 63) h.named.1) refl;
  is_row = values_taken tables e.0 e.1 h;
}

rows_say : (tables : List TableShape) (es : List (RowName × RowOf)) → IsCatalogue tables → AllByRecursion (λ (e : RowName × RowOf). IsRowIn tables e.0 e.1) es → Says (SaysRow tables) (map (row_data tables) es) (map row_at es)
rows_say tables [] is h = tt
rows_say tables (e ∷ es) is h = (row_says tables e is h.0, rows_say tables es is h.1)

name_at : (tables : List TableShape) (n : ℕ) → n < length tables → AllByRecursion (λ (t : TableShape). is_name t.name ≡ true) tables → is_name (table_name tables n) ≡ true
name_at [] n h names = absurd (omega arith)
name_at (t ∷ ts) zero h names = names.0
name_at (t ∷ ts) (suc n) h names = name_at ts n (omega arith) names.1

named_rows : (tables : List TableShape) (es : List (RowName × RowOf)) → IsCatalogue tables → AllByRecursion (λ (e : RowName × RowOf). IsRowIn tables e.0 e.1) es → AllByRecursion (IsNamed tables) es
named_rows tables [] is h = tt
named_rows tables (e ∷ es) is h =
    ((IsUtf8-from_ascii _ (name_ascii _ (name_at tables e.0.table h.0.named.0 is.named.names)), (h.0.named.1, h.0.values)), named_rows tables es is h.1)

written_rows : (tables : List TableShape) (es : List (RowName × RowOf)) → AllByRecursion (λ (e : RowName × RowOf). IsRowIn tables e.0 e.1) es → AllByRecursion IsWritten es
written_rows tables [] h = tt
written_rows tables (e ∷ es) h = ((h.0.named.1, h.0.values), written_rows tables es h.1)

-- ---- the laws

pub read_back : (tables : List TableShape) (db : Database) → IsCatalogue tables → AreRowsIn tables db → IsReadBack tables db
read_back tables db is are =
    let all : AllByRecursion (λ (e : RowName × RowOf). IsRowIn tables e.0 e.1) (entries db) = every_row (IsRowIn tables) db are in
    let order : rows_in_order tables db ≡ entries db = in_order tables db (λ q row g. (are q row g).named.0) in
    let here : AllByRecursion (λ (e : RowName × RowOf). IsRowIn tables e.0 e.1) (rows_in_order tables db) = subst (AllByRecursion (λ (e : RowName × RowOf). IsRowIn tables e.0 e.1)) (sym order) all in
    record {
      document = rows_data tables (rows_in_order tables db);
      is_json = is_json tables db (named_rows tables (rows_in_order tables db) is here) (written_rows tables (rows_in_order tables db) here);
      says = record {
        version = number (unsigned 1);
        list = map (row_data tables) (rows_in_order tables db);
        is_form = refl;
        is_version = refl;
        are = rows_say tables (rows_in_order tables db) is here;
        distinct = subst (λ es. IsDistinct same_name (map row_at es)) (sym order) (rows_distinct db);
      };
      same = ap (λ es. with_rows empty (map row_at es)) order ∙ rows_make_it db;
    }

pub starts_with_rows : (text : List ℕ) (s : SetupShape) (db : Database) → SaysSetup text s → AreRowsIn s.tables db → SaysSetupWithRows text (rows_document s.tables db) (with_row_list s (row_list s.tables db))
starts_with_rows text s db h are =
    let back = read_back s.tables db h.2.is_catalogue are in
    record { setup = h.0; is_setup = h.1; starting = back.document; is_rows = back.is_json; says = says_with_rows h.0 back.document s (row_list s.tables db) h.2 back.says }

pub goes_on_with_rows : (text first : List ℕ) (s : SetupShape) (db : Database) → SaysSetupWithRows text first s → AreRowsIn s.tables db → SaysSetupWithRows text (rows_document s.tables db) (with_row_list s (row_list s.tables db))
goes_on_with_rows text first s db h are =
    let back = read_back s.tables db h.says.is_catalogue are in
    let says = says_with_rows (with_rows_document h.setup h.starting) back.document s (row_list s.tables db) h.says back.says in
    record {
      setup = h.setup;
      is_setup = h.is_setup;
      starting = back.document;
      is_rows = back.is_json;
      says = subst (λ (d : Data). SaysDocument d (with_row_list s (row_list s.tables db))) (rows_twice h.setup h.starting back.document) says;
    }
