-- The JSON value of a rows document, and the data that it is.
use Rattle.std.proofs.Common.{◌≡◌, pos, negsuc, ◌^◌, ◌<◌, ◌≤◌, List, [], ◌∷◌, map, Some, option_map, codes, decimal, refl, sym, ap, ◌∙◌, arith, ltb-true}
use Rattle.std.proofs.lemmas.Fmt.{decimal_digit}
use Rattle.std.specs.Fmt.{signed_decimal}
use Rattle.std.specs.List.{AllByRecursion}
use Rattle.json.specs.Json as json
use Rattle.json.specs.Tree.{depth, items_depth}
use Rattle.serde_json.specs.Data.{Data, Num, unsigned, negative, Items}
use Rattle.serde_json.specs.Data as data_of
use Rattle.serde_json.specs.Read.{number_of, of_json, of_items}
use Rattle.serde_json.specs.View.{items_of}
use Rattle.serde_json.proofs.Numbers.{number_of-decimal, number_of-negative}
use Rattle.values.specs.declared.name.RowName.{RowName}
use Rattle.values.specs.declared.value.Value.{Value}
use Rattle.values.specs.declared.value.Value.TheVariants.{Int, Text}
use Rattle.values.specs.Database.{RowOf}
use Rattle.catalogue.specs.Shapes.{TableShape}
use Rattle.row_text.specs.Texts.{table_name}
use Rattle.rows_document.specs.Said.{IsValue}

-- ---- as JSON

abbrev pub value_json : Value → json.Json
value_json (Int z) = json.number (signed_decimal z)
value_json (Text s) = json.string s

abbrev pub values_json : List Value → json.Items
values_json [] = json.no_items
values_json (v ∷ vs) = json.item (value_json v) (values_json vs)

abbrev pub row_json : List TableShape → RowName × RowOf → json.Json
row_json tables e =
    json.array (json.item (json.string (table_name tables e.0.table)) (json.item (json.number (decimal e.0.key)) (json.item (json.array (values_json e.1)) json.no_items)))

abbrev pub rows_json : List TableShape → List (RowName × RowOf) → json.Items
rows_json tables [] = json.no_items
rows_json tables (e ∷ es) = json.item (row_json tables e) (rows_json tables es)

abbrev pub document_json : List TableShape → List (RowName × RowOf) → json.Json
document_json tables es =
    json.array (json.item (json.string (codes "rows")) (json.item (json.number (codes "1")) (json.item (json.array (rows_json tables es)) json.no_items)))

values_flat : (vs : List Value) → items_depth (values_json vs) ≤ 0
values_flat [] = omega arith
values_flat (Int z ∷ vs) = omega (arith, values_flat vs)
values_flat (Text s ∷ vs) = omega (arith, values_flat vs)

rows_shallow : (tables : List TableShape) (es : List (RowName × RowOf)) → items_depth (rows_json tables es) ≤ 2
rows_shallow tables [] = omega arith
rows_shallow tables (e ∷ es) = omega (arith, values_flat e.1, rows_shallow tables es)

pub document_shallow : (tables : List TableShape) (es : List (RowName × RowOf)) → depth (document_json tables es) ≤ 127
document_shallow tables es = omega (arith, rows_shallow tables es)

-- ---- as data

abbrev pub value_data : Value → Data
value_data (Int (pos n)) = data_of.number (unsigned n)
value_data (Int (negsuc n)) = data_of.number (negative (negsuc n))
value_data (Text s) = data_of.string s

abbrev pub row_data : List TableShape → RowName × RowOf → Data
row_data tables e =
    data_of.array (items_of (data_of.string (table_name tables e.0.table) ∷ data_of.number (unsigned e.0.key) ∷ data_of.array (items_of (map value_data e.1)) ∷ []))

abbrev pub rows_data : List TableShape → List (RowName × RowOf) → Data
rows_data tables es =
    data_of.array (items_of (data_of.string (codes "rows") ∷ data_of.number (unsigned 1) ∷ data_of.array (items_of (map (row_data tables) es)) ∷ []))

value_read : (v : Value) → IsValue v → of_json (value_json v) ≡ Some (value_data v)
value_read (Int (pos n)) h = ap (option_map data_of.number) (number_of-decimal n (omega (arith, ltb-true n (2 ^ 63) h)))
value_read (Int (negsuc n)) h = ap (option_map data_of.number) (number_of-negative n (ltb-true n (2 ^ 63) h))
value_read (Text s) h = refl

item_read : (j : json.Json) (js : json.Items) (d : Data) (ds : Items) → of_json j ≡ Some d → of_items js ≡ Some ds → of_items (json.item j js) ≡ Some (data_of.item d ds)
item_read j js d ds e f = rw (e, f) refl

values_read : (vs : List Value) → AllByRecursion IsValue vs → of_items (values_json vs) ≡ Some (items_of (map value_data vs))
values_read [] h = refl
values_read (v ∷ vs) h = item_read (value_json v) (values_json vs) (value_data v) (items_of (map value_data vs)) (value_read v h.0) (values_read vs h.1)

-- a key that fits, and values
abbrev pub IsWritten : RowName × RowOf → Type 0
IsWritten e = (e.0.key < 2 ^ 63) × AllByRecursion IsValue e.1

row_read : (tables : List TableShape) (e : RowName × RowOf) → IsWritten e → of_json (row_json tables e) ≡ Some (row_data tables e)
row_read tables e h =
    let key : number_of (decimal e.0.key) ≡ Some (unsigned e.0.key) = number_of-decimal e.0.key (omega (arith, h.0)) in
    rw (key, values_read e.1 h.1) refl

rows_read : (tables : List TableShape) (es : List (RowName × RowOf)) → AllByRecursion IsWritten es → of_items (rows_json tables es) ≡ Some (items_of (map (row_data tables) es))
rows_read tables [] h = refl
rows_read tables (e ∷ es) h = item_read (row_json tables e) (rows_json tables es) (row_data tables e) (items_of (map (row_data tables) es)) (row_read tables e h.0) (rows_read tables es h.1)

one_read : number_of (codes "1") ≡ Some (unsigned 1)
one_read = ap number_of (sym (decimal_digit 1 (omega arith))) ∙ number_of-decimal 1 (omega arith)

pub document_read : (tables : List TableShape) (es : List (RowName × RowOf)) → AllByRecursion IsWritten es → of_json (document_json tables es) ≡ Some (rows_data tables es)
document_read tables es h = rw (one_read, rows_read tables es h) refl
