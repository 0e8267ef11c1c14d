-- Claimed: what contracts promise to a reader rests on these words.
-- Where a setup breaks a rule first: all that comes before that place is well formed, and the fault is that of the
-- first rule that is broken there.
use Rattle.std.specs.Prelude.{◌≡◌, ◌⊎◌, ℕ, ℤ, ◌==◌, ◌&&◌, Bool, false, not, List, [], ◌∷◌, ◌++◌, Option, Some, None, is_some, option_and_then, option_map, codes}
use Rattle.std.specs.List.{list_any}
use Rattle.serde_json.specs.Data.{Data}
use Rattle.documents.specs.FirstFault.{broken, in_each, first}
use Rattle.documents.specs.Json.{text_number_list, versioned_list}
use Rattle.catalogue.specs.Broken as catalogues
use Rattle.catalogue.specs.declared.fault.CatalogueFault.{CatalogueFault}
use Rattle.values.specs.declared.value.Value.{Value}
use Rattle.values.specs.Keys.{key_of}
use Rattle.catalogue.specs.Places.{table_named}
use Rattle.catalogue.specs.Rules.{SaysCatalogue, IsCatalogue}
use Rattle.catalogue.specs.Shapes.{TableShape}
use Rattle.proclang_types.specs.Syntax.{ProcSyntax}
use Rattle.proclang.specs.BrokenProcs as procedures
use Rattle.proclang_expressions.specs.declared.fault.ProcFault.{ProcFault}
use Rattle.proclang.specs.Says.{SaysProcs}
use Rattle.setup.specs.declared.fault.SetupFault.{SetupFault}
use Rattle.setup.specs.declared.fault.SetupFault.TheVariants.{NotJson, Shape, RowTable, RowKey, RowValue, RowTwice, Catalogue, Procedure}
use Rattle.setup.specs.Rows.{row_values}
use Rattle.setup.specs.Says.{IsJson, IsNotJson}
use Rattle.setup.specs.Setups.{SetupParts, setup_form}

-- ---- rows: the faults of their document, in the order in which its rules are looked at. The first is the one that is
-- answered; a row whose table is unknown takes no values, so that its values are a fault after it

-- a table and a key
abbrev pub TableKey : Type 0
TableKey = ℕ × ℕ

abbrev pub RowForm : Type 0
RowForm = List ℕ × ℤ × List Data

abbrev pub table_key_of_form : List TableShape → RowForm → Option TableKey
table_key_of_form tables f =
    option_and_then (λ (table : ℕ). option_map (λ (key : ℕ). (table, key)) (key_of f.1)) (table_named tables f.0)

-- the table and the key that a row's document gives
abbrev pub table_key_said : List TableShape → Data → Option TableKey
table_key_said tables d = option_and_then (table_key_of_form tables) (text_number_list d)

-- the values of a row that the table of that name takes
abbrev pub values_for : List TableShape → RowForm → Option (List Value)
values_for tables f = option_and_then (λ (table : ℕ). row_values tables table f.2) (table_named tables f.0)

-- an earlier row has that name
abbrev pub is_taken : List TableKey → Option TableKey → Bool
is_taken given None = false
is_taken given (Some p) = list_any (λ (q : TableKey). (q.0 == p.0) && (q.1 == p.1)) given

-- after rows of these names
abbrev pub in_row_form : List TableShape → List TableKey → Option RowForm → List SetupFault
in_row_form tables given None = Shape ∷ []
in_row_form tables given (Some f) =
    broken (is_some (table_named tables f.0)) RowTable
    ++ (broken (is_some (key_of f.1)) RowKey
    ++ (broken (is_some (values_for tables f)) RowValue
    ++ broken (not (is_taken given (table_key_of_form tables f))) RowTwice))

-- the rules that a row breaks, after rows of these names
abbrev pub in_row : List TableShape → List TableKey → Data → List SetupFault
in_row tables given d = in_row_form tables given (text_number_list d)

abbrev pub in_rows_form : List TableShape → Option (List Data) → List SetupFault
in_rows_form tables None = Shape ∷ []
in_rows_form tables (Some ds) = in_each (table_key_said tables) (in_row tables) [] ds

-- the faults of a document of rows, in the order in which they are looked for
abbrev pub rows_faults : List TableShape → Data → List SetupFault
rows_faults tables d = in_rows_form tables (versioned_list (codes "rows") d)

-- ---- setups

-- the catalogue breaks a rule
pub record InCatalogue (form : SetupParts) (fault : SetupFault) : Type 0 where
  pub rule : CatalogueFault
  pub is : fault ≡ Catalogue rule
  pub is_first : first (catalogues.catalogue_faults form.catalogue) ≡ Some rule

-- the catalogue says tables, and the procedures break a rule over them
pub record InProcs (form : SetupParts) (fault : SetupFault) : Type 0 where
  pub tables : List TableShape
  pub catalogue : SaysCatalogue form.catalogue tables
  pub is_catalogue : IsCatalogue tables
  pub rule : ProcFault
  pub is : fault ≡ Procedure rule
  pub is_first : first (procedures.procedures_faults tables form.procs) ≡ Some rule

-- the catalogue says tables, there are procedures over them, and the rows break a rule
pub record InRows (form : SetupParts) (fault : SetupFault) : Type 0 where
  pub tables : List TableShape
  pub catalogue : SaysCatalogue form.catalogue tables
  pub is_catalogue : IsCatalogue tables
  pub procs : List ProcSyntax
  pub are_procs : SaysProcs tables form.procs procs
  pub is_first : first (rows_faults tables form.rows) ≡ Some fault

-- the fault of the catalogue, of the procedures or of the rows
abbrev pub InForm : SetupParts → SetupFault → Type 0
InForm form fault = InCatalogue form fault ⊎ (InProcs form fault ⊎ InRows form fault)

-- the outer form comes before the parts
abbrev pub InDocument : Data → SetupFault → Type 0
InDocument d fault = ((fault ≡ Shape) × (setup_form d ≡ None))
    ⊎ ((form : SetupParts) × (setup_form d ≡ Some form) × InForm form fault)

-- the first rule that a text breaks
abbrev pub BreaksFirst : List ℕ → SetupFault → Type 0
BreaksFirst text fault = ((fault ≡ NotJson) × IsNotJson text) ⊎ ((d : Data) × IsJson text d × InDocument d fault)
