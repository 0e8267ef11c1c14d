-- Rows that are read from tokens.
use Rattle.std.proofs.Common.{◌≡◌, ◌<◌, length, ℕ, ℤ, pos, Bool, true, List, [], ◌∷◌, ◌++◌, map, Option, Some, None, option_map, option_and_then, false, not, Result, Ok, refl, sym, ap, ◌∙◌, subst}
use Rattle.std.specs.Prelude.{codes, slice_get}
use Rattle.json.specs.Token.{Token}
use Rattle.serde_json.specs.Data.{Data, array, number, string}
use Rattle.serde_json.specs.View.{items_of}
use Rattle.documents.specs.Json.{versioned_list}
use Rattle.documents.specs.Reading.{◌>>=◌, each_at}
use Rattle.documents.proofs.Said.{versioned_again}
use Rattle.documents.proofs.Steps.{bind_ok}
use Rattle.values.specs.declared.name.RowName.{RowName}
use Rattle.values.specs.declared.value.Value.{Value}
use Rattle.values.specs.Rows.{kinds_match}
use Rattle.catalogue.specs.Places.{table_named}
use Rattle.catalogue.specs.Shapes.{TableShape}
use Rattle.value_tokens.specs.Documents.{AreDocuments, IsDocument, IsValueArray, WritesInteger}
use Rattle.value_tokens.proofs.Documents.{array_is_document, document_shorter, integer_written, number_is_document, one_more_document, text_is_document}
use Rattle.setup.specs.declared.fault.SetupFault.{SetupFault}
use Rattle.setup.specs.declared.names.Names.{Names}
use Rattle.setup.specs.Names.{HoldsNames}
use Rattle.setup.specs.Tokens.{IsRowRead}
use Rattle.setup.specs.Rows.{RowAt, is_given, row_at, rows_at, taken_by}
use Rattle.setup.specs.Says.{SaysRow}
use Rattle.setup.proofs.SaidRows.{not_found, row_read}

pub values_taken : (tables : List TableShape) (table : ℕ) (vs xs : List Value) (takes : Bool) → takes ≡ true → xs ≡ vs → Some takes ≡ option_map (λ s. kinds_match (map (λ c. c.kind) s.columns) xs) (slice_get tables table) → taken_by tables table vs ≡ Some vs
values_taken tables table vs xs takes does same e = by (slice_get tables table) refl (rw (does, same) at e)
  where
    by : (found : Option TableShape) → slice_get tables table ≡ found → Some true ≡ option_map (λ s. kinds_match (map (λ c. c.kind) s.columns) vs) found → taken_by tables table vs ≡ Some vs
    by None p q = absurd cc
    by (Some s) p q = let same : kinds_match (map (λ c. c.kind) s.columns) vs ≡ true = cc in rw (p, same) refl

-- no row before has a name that is new
pub fresh_is : (name : RowName) (table key : ℕ) (before : List RowAt) (fresh : Bool) → name ≡ record { table = table; key = key } → fresh ≡ true → fresh ≡ not (is_given name.table name.key before) → is_given table key before ≡ false
fresh_is name table key before fresh is holds e = not_found (is_given table key before) (rw is at (sym e ∙ holds))

pub named_after : (name : RowName) (table key : ℕ) (values : List Value) (before : List RowAt) (names : Names) → name ≡ record { table = table; key = key }
    → HoldsNames names (before ++ (name.table, name.key, values) ∷ []) → HoldsNames names (before ++ (table, key, values) ∷ [])
named_after name table key values before names is h = rw is at h

-- tokens of a row `[TABLE, KEY, [VALUE ..]]`
pub row_is_read : (tables : List TableShape) (before : List RowAt) (name : List ℕ) (table key : ℕ) (vs : List Value) (ts inner after_name after_key after_values rest : List Token)
    → ts ≡ Token.begin_array ∷ inner → inner ≡ Token.string name ∷ after_name → WritesInteger after_name (pos key) after_key → IsValueArray after_key vs after_values → after_values ≡ Token.end_array ∷ rest
    → table_named tables name ≡ Some table → taken_by tables table vs ≡ Some vs → is_given table key before ≡ false → IsRowRead tables before ts (table, key, vs) rest
row_is_read tables before name table key vs ts inner after_name after_key after_values rest opened named integer values closed is_table takes fresh =
    let written = integer_written integer.0 (pos key) integer.2 in
    let parts : List Data = string name ∷ number written.num ∷ array (items_of values.documents) ∷ [] in
    let d : Data = array (items_of parts) in
    let are : AreDocuments 123 inner parts (Token.end_array ∷ rest) = (
      after_name,
      subst (λ us. IsDocument 123 us (string name) after_name) (sym named) (text_is_document 123 name after_name),
      (after_key, subst (λ us. IsDocument 123 us (number written.num) after_key) (sym integer.1) (number_is_document 123 integer.0 written.num after_key written.is_number), (after_values, values.read 122, closed)),
    ) in
    let says : SaysRow tables d (table, key, vs) = record {
      table = name;
      key = number written.num;
      list = values.documents;
      is_form = refl;
      is_table = is_table;
      is_key = written.is;
      is_row = ap (option_and_then (taken_by tables table)) values.say ∙ takes;
    } in
    (d, subst (λ us. IsDocument 124 us d rest) (sym opened) (array_is_document 123 inner parts rest are), row_read tables before d (table, key, vs) says fresh)

pub one_more_row : (one : List RowAt → Data → Result RowAt SetupFault) (before : List RowAt) (ds : List Data) (rows : List RowAt) (d : Data) (row : RowAt)
    → each_at one before ds ≡ Ok rows → one rows d ≡ Ok row → each_at one before (ds ++ d ∷ []) ≡ Ok (rows ++ row ∷ [])
one_more_row one before [] rows d row e f = let same : before ≡ rows = cc in rw (same, f) refl
one_more_row one before (x ∷ ds) rows d row e f =
    let first = bind_ok (one before x) _ rows e in
    ap (λ r. r >>= (λ y. each_at one (before ++ y ∷ []) (ds ++ d ∷ []))) first.1 ∙ one_more_row one (before ++ first.0 ∷ []) ds rows d row first.2 f

-- the tokens of `["rows", 1, [ROW ..]]`, by those of its rows
pub rows_are_read : (tables : List TableShape) (rows : List RowAt) (listed : List Data) (ts inner after_word after_version list after_list rest : List Token) (z : ℤ)
    → ts ≡ Token.begin_array ∷ inner → inner ≡ Token.string (codes "rows") ∷ after_word → WritesInteger after_word z after_version → z ≡ pos 1 → after_version ≡ Token.begin_array ∷ list
    → AreDocuments 124 list listed (Token.end_array ∷ after_list) → each_at (row_at tables) [] listed ≡ Ok rows → after_list ≡ Token.end_array ∷ rest
    → (d : Data) × IsDocument 126 ts d rest × (rows_at tables d ≡ Ok rows)
unfolding rows_at
rows_are_read tables rows listed ts inner after_word after_version list after_list rest z opened word version one list_opened are each closed =
    let written = integer_written version.0 z version.2 in
    let parts : List Data = string (codes "rows") ∷ number written.num ∷ array (items_of listed) ∷ [] in
    let d : Data = array (items_of parts) in
    let read : AreDocuments 125 inner parts (Token.end_array ∷ rest) = (
      after_word,
      subst (λ us. IsDocument 125 us (string (codes "rows")) after_word) (sym word) (text_is_document 125 (codes "rows") after_word),
      (
        after_version,
        subst (λ us. IsDocument 125 us (number written.num) after_version) (sym version.1) (number_is_document 125 version.0 written.num after_version written.is_number),
        (after_list, subst (λ us. IsDocument 125 us (array (items_of listed)) after_list) (sym list_opened) (array_is_document 124 list listed after_list are), closed),
      ),
    ) in
    let form : versioned_list (codes "rows") d ≡ Some listed = versioned_again (codes "rows") (number written.num) listed (written.is ∙ ap (λ (n : ℤ). Some n) one) in
    (d, subst (λ us. IsDocument 126 us d rest) (sym opened) (array_is_document 125 inner parts rest read), rw form each)

-- one more row of a list
pub row_is_listed : (tables : List TableShape) (rows : List RowAt) (row : RowAt) (first listed_to now after : List Token) (listed : List Data) → AreDocuments 124 first listed listed_to → now ≡ listed_to
    → each_at (row_at tables) [] listed ≡ Ok rows → IsRowRead tables rows now row after
    → (all : List Data) × AreDocuments 124 first all after × (each_at (row_at tables) [] all ≡ Ok (rows ++ row ∷ []))
row_is_listed tables rows row first listed_to now after listed are same each read = (
  listed ++ read.0 ∷ [],
  one_more_document 124 first listed listed_to read.0 after are (subst (λ ts. IsDocument 124 ts read.0 after) same read.1),
  one_more_row (row_at tables) [] listed rows read.0 row each read.2,
)

pub row_is_shorter : (tables : List TableShape) (rows : List RowAt) (row : RowAt) (now was after : List Token) → now ≡ was → IsRowRead tables rows now row after → length after < length was
row_is_shorter tables rows row now was after same read = subst (λ ts. length after < length ts) same (document_shorter 124 now read.0 after read.1)
