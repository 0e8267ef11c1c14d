-- Which fault a document of rows has, by what is wrong with the first row that is not well formed.
use Rattle.std.proofs.Common.{◌≡◌, ℕ, ℤ, pos, negsuc, true, false, List, [], ◌∷◌, ◌++◌, map, Option, Some, None, Ok, refl, sym, ap, ◌∙◌, subst, append_assoc}
use Rattle.std.specs.Prelude.{codes}
use Rattle.std.specs.List.{IsDistinct}
use Rattle.std.specs.Option.{option_to_list}
use Rattle.std.proofs.lemmas.List.{map-append, append-nil}
use Rattle.serde_json.specs.Data.{Data}
use Rattle.documents.specs.FirstFault.{in_each, first}
use Rattle.documents.specs.Json.{text_number_list, versioned_list}
use Rattle.documents.proofs.Said.{text_number_list_again, versioned_again}
use Rattle.values.specs.declared.value.Value.{Value}
use Rattle.catalogue.specs.Places.{table_named}
use Rattle.catalogue.specs.Rules.{Says}
use Rattle.catalogue.specs.Shapes.{TableShape}
use Rattle.setup.specs.declared.fault.SetupFault.{SetupFault}
use Rattle.setup.specs.declared.fault.SetupFault.TheVariants.{Shape, RowTable, RowKey, RowValue, RowTwice}
use Rattle.setup.specs.FirstFault.{TableKey, RowForm, table_key_said, is_taken, in_row_form, in_row, in_rows_form, rows_faults}
use Rattle.setup.specs.Rows.{RowAt, row_values, is_given, row_at}
use Rattle.setup.specs.Says.{SaysRow, same_name}
use Rattle.setup.specs.RowFaults.{ComesAfter, SpellsRow, FaultIs, RowFaultsAreTold}
use Rattle.setup.proofs.SaidRows.{table_key_of, given_taken, unused, row_read, row_first, table_key_so, none_broken}

-- ---- rows that are well formed have no fault

abbrev faults_after : List TableShape → List RowAt → List Data → List SetupFault
faults_after tables front ds = in_each (table_key_said tables) (in_row tables) (map table_key_of front) ds

passed_over : (tables : List TableShape) (front : List RowAt) (d : Data) (row : RowAt) (ds : List Data) → SaysRow tables d row → is_given row.0 row.1 front ≡ false
    → faults_after tables front (d ∷ ds) ≡ faults_after tables (front ++ row ∷ []) ds
passed_over tables front d row ds says fresh =
    let read : row_at tables front d ≡ Ok row = row_read tables front d row says fresh in
    let none : in_row tables (map table_key_of front) d ≡ [] = none_broken row (row_at tables front d) (in_row tables (map table_key_of front) d) read (row_first tables front d) in
    let names : map table_key_of front ++ option_to_list (table_key_said tables d) ≡ map table_key_of (front ++ row ∷ []) =
    ap (λ (o : Option TableKey). map table_key_of front ++ option_to_list o) (table_key_so tables front d row read) ∙ sym (map-append table_key_of front (row ∷ [])) in
    ap (λ (fs : List SetupFault). fs ++ in_each (table_key_said tables) (in_row tables) (map table_key_of front ++ option_to_list (table_key_said tables d)) ds) none
    ∙ ap (λ (ns : List TableKey). in_each (table_key_said tables) (in_row tables) ns ds) names

all_passed_over : (tables : List TableShape) (front : List RowAt) (ahead : List Data) (rows : List RowAt) (ds : List Data) → Says (SaysRow tables) ahead rows → IsDistinct same_name (front ++ rows)
    → faults_after tables front (ahead ++ ds) ≡ faults_after tables (front ++ rows) ds
all_passed_over tables front [] [] ds says distinct = ap (λ (rs : List RowAt). faults_after tables rs ds) (sym (append-nil front))
all_passed_over tables front [] (row ∷ rows) ds says distinct = absurd says
all_passed_over tables front (d ∷ ahead) [] ds says distinct = absurd says
all_passed_over tables front (d ∷ ahead) (row ∷ rows) ds says distinct =
    let together : (front ++ row ∷ []) ++ rows ≡ front ++ row ∷ rows = append_assoc front (row ∷ []) rows in
    passed_over tables front d row (ahead ++ ds) says.0 (unused front row rows distinct)
    ∙ all_passed_over tables (front ++ row ∷ []) ahead rows ds says.1 (subst (IsDistinct same_name) (sym together) distinct)
    ∙ ap (λ (rs : List RowAt). faults_after tables rs ds) together

-- the faults begin with those of the document after them
first_of : (fs gs : List SetupFault) (fault : SetupFault) → first fs ≡ Some fault → first (fs ++ gs) ≡ Some fault
first_of [] gs fault e = absurd (cc)
first_of (f ∷ fs) gs fault e = e

begins : (tables : List TableShape) (rows : Data) (before : List RowAt) (d : Data) → ComesAfter tables rows before d → (fault : SetupFault)
    → first (in_row tables (map table_key_of before) d) ≡ Some fault → FaultIs tables rows fault
begins tables rows before d h fault e =
    let form : versioned_list (codes "rows") rows ≡ Some (h.ahead ++ d ∷ h.after) = ap (versioned_list (codes "rows")) h.is_form ∙ versioned_again (codes "rows") h.version (h.ahead ++ d ∷ h.after) h.is_version in
    let all : rows_faults tables rows ≡ faults_after tables before (d ∷ h.after) = ap (in_rows_form tables) form ∙ all_passed_over tables [] h.ahead before (d ∷ h.after) h.are h.distinct in
    ap first all ∙ first_of (in_row tables (map table_key_of before) d) _ fault e

-- ---- the faults of a row, by what is wrong with it

row_is : (tables : List TableShape) (before : List RowAt) (d : Data) (table : List ℕ) (key : ℤ) (list : List Data) → SpellsRow d table key list
    → in_row tables (map table_key_of before) d ≡ in_row_form tables (map table_key_of before) (Some (table, key, list))
row_is tables before d table key list h =
    ap (in_row_form tables (map table_key_of before)) (ap text_number_list h.is_form ∙ text_number_list_again table h.number key list h.is_key)

module _ (tables : List TableShape) (before : List RowAt) (d : Data) where
  abbrev FirstIs : SetupFault → Type 0
  FirstIs fault = first (in_row tables (map table_key_of before) d) ≡ Some fault

  no_row : text_number_list d ≡ None → FirstIs Shape
  no_row e = ap (λ (o : Option RowForm). first (in_row_form tables (map table_key_of before) o)) e

  unknown_table : (table : List ℕ) (key : ℤ) (list : List Data) → SpellsRow d table key list → table_named tables table ≡ None → FirstIs RowTable
  unknown_table table key list h t = ap first (row_is tables before d table key list h) ∙ rw t refl

  negative_key : (table : List ℕ) (n : ℕ) (list : List Data) (place : ℕ) → SpellsRow d table (negsuc n) list → table_named tables table ≡ Some place → FirstIs RowKey
  negative_key table n list place h t = ap first (row_is tables before d table (negsuc n) list h) ∙ rw t refl

  wrong_values : (table : List ℕ) (key : ℕ) (list : List Data) (place : ℕ) → SpellsRow d table (pos key) list → table_named tables table ≡ Some place → row_values tables place list ≡ None → FirstIs RowValue
  wrong_values table key list place h t v = ap first (row_is tables before d table (pos key) list h) ∙ rw (t, v) refl

  given_before : (table : List ℕ) (key : ℕ) (list : List Data) (place : ℕ) (vs : List Value) → SpellsRow d table (pos key) list → table_named tables table ≡ Some place
      → row_values tables place list ≡ Some vs → is_given place key before ≡ true → FirstIs RowTwice
  given_before table key list place vs h t v g =
      let taken : is_taken (map table_key_of before) (Some (place, key)) ≡ true = sym (given_taken place key before) ∙ g in
      ap first (row_is tables before d table (pos key) list h) ∙ rw (t, v, taken) refl

pub told : (tables : List TableShape) (rows : Data) (before : List RowAt) (d : Data) → ComesAfter tables rows before d → RowFaultsAreTold tables rows before d
told tables rows before d h = record {
  no_row = λ e. begins tables rows before d h Shape (no_row tables before d e);
  unknown_table = λ table key list s t. begins tables rows before d h RowTable (unknown_table tables before d table key list s t);
  negative_key = λ table n list place s t. begins tables rows before d h RowKey (negative_key tables before d table n list place s t);
  wrong_values = λ table key list place s t v. begins tables rows before d h RowValue (wrong_values tables before d table key list place s t v);
  given_before = λ table key list place vs s t v g. begins tables rows before d h RowTwice (given_before tables before d table key list place vs s t v g);
}
