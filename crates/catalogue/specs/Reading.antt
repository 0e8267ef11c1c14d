-- Claimed: what contracts promise to a reader rests on these words.
-- Reading a catalogue from left to right, with the first fault that is met.
use Rattle.std.specs.Prelude.{ℕ, ℤ, pos, negsuc, List, [], ◌∷◌, length, Option, Some, None, option_map, option_and_then, Result, Ok, Err, Bool, true, false, ◌&&◌, not, nat_lt, nat_le, ◌==◌, if◌then◌else◌, codes}
use Rattle.std.specs.Str.{bytes_eq}
use Rattle.std.specs.List.{list_any}
use Rattle.serde_json.specs.Data.{Data}
use Rattle.serde_json.specs.Find.{as_str}
use Rattle.documents.specs.Json.{elements, integer, two, three, text_number_list}
use Rattle.documents.specs.Reading.{◌>>=◌, formed, rule, each_at}
use Rattle.catalogue.specs.declared.fault.CatalogueFault.{CatalogueFault}
use Rattle.catalogue.specs.declared.fault.CatalogueFault.TheVariants.{Shape, DuplicateName, BadName, NoColumn, Limit, BadBounds, Memory}
use Rattle.values.specs.declared.value.ColType.{ColType}
use Rattle.values.specs.declared.value.ColType.TheVariants.{Int, Text}
use Rattle.catalogue.specs.declared.table.Table.{Table}
use Rattle.values.specs.Names.{is_name}
use Rattle.catalogue.specs.Shapes.{ColumnShape, SplitShape, by_remainder, at_bounds, TableShape, split_shape, columns_shape}

-- the fault is that allocation failed
abbrev pub is_memory : CatalogueFault → Bool
is_memory Memory = true
is_memory e = false

-- ---- forms

-- the type that a word means
abbrev pub type_of_word : List ℕ → Option ColType
type_of_word s =
    if bytes_eq s (codes "int") then Some Int else
    (if bytes_eq s (codes "text") then Some Text else None)

-- a name and a type, which is `int` or `text`
unfoldable pub column_form : Data → Option (List ℕ × ColType)
column_form d =
    option_and_then (λ (p : Data × Data).
    option_and_then (λ (name : List ℕ).
    option_map (λ (kind : ColType). (name, kind)) (option_and_then type_of_word (as_str p.1)))
    (as_str p.0))
    (option_and_then two (elements d))

-- how keys are split, whatever the numbers are
pub data SplitForm : Type 0 where
  counted : ℤ → SplitForm
  bounded : List ℤ → SplitForm

-- whole numbers, and nothing else
abbrev pub integers : List Data → Option (List ℤ)
integers [] = Some []
integers (d ∷ ds) = option_and_then (λ z. option_map (λ zs. z ∷ zs) (integers ds)) (integer d)

-- the numbers after the word
abbrev pub after_word : List Data → Option (List ℤ)
after_word [] = None
after_word (d ∷ ds) = option_and_then (λ word. if bytes_eq word (codes "bounds") then integers ds else None) (as_str d)

-- a number, or, in version 2, bounds
unfoldable pub split_form : Bool → Data → Option SplitForm
split_form has_bounds d = elim (integer d) [
  | Some z ↦ Some (counted z)
  | None ↦ if has_bounds then option_map bounded (option_and_then after_word (elements d)) else None
]

-- a name, a split, and columns
unfoldable pub table_form : Bool → Data → Option (List ℕ × SplitForm × List Data)
table_form has_bounds d =
    option_and_then (λ (p : Data × Data × Data).
    option_and_then (λ (name : List ℕ).
    option_and_then (λ (split : SplitForm).
    option_map (λ (columns : List Data). (name, split, columns)) (elements p.2))
    (split_form has_bounds p.1))
    (as_str p.0))
    (option_and_then three (elements d))

-- whether a version has bounds: version 1 has none, version 2 has, and there is no other
abbrev pub version_form : ℤ → Option Bool
version_form (pos n) = if n == 1 then Some false else (if n == 2 then Some true else None)
version_form (negsuc n) = None

-- whether a catalogue's version has bounds, and its tables
unfoldable pub catalogue_form : Data → Option (Bool × List Data)
catalogue_form d =
    option_and_then (λ (f : List ℕ × ℤ × List Data).
    if bytes_eq f.0 (codes "catalogue") then option_map (λ (has_bounds : Bool). (has_bounds, f.2)) (version_form f.1)
    else None)
    (text_number_list d)

-- ---- the first fault

-- whether one of them has that name
abbrev pub is_used : {X : Type 0} → (X → List ℕ) → List ℕ → List X → Bool
is_used name_of name xs = list_any (λ x. bytes_eq name (name_of x)) xs

-- one of the columns has that name
abbrev pub is_column : List ℕ → List ColumnShape → Bool
is_column = is_used (λ c. c.name)

-- one of the tables has that name
abbrev pub is_table : List ℕ → List TableShape → Bool
is_table = is_used (λ t. t.name)

-- a column, after those before it
unfoldable pub column_at : List ColumnShape → Data → Result ColumnShape CatalogueFault
column_at before d = do
  form ← formed Shape (column_form d)
  _ ← rule (is_name form.0) BadName
  _ ← rule (not (is_column form.0 before)) DuplicateName
  Ok (record { name = form.0; kind = form.1 })

-- columns, one after another
abbrev pub columns_at : List ColumnShape → List Data → Result (List ColumnShape) CatalogueFault
columns_at = each_at column_at

-- 1 to 1,024 partitions
abbrev pub partitions_at : ℤ → Result ℕ CatalogueFault
partitions_at (pos n) = if nat_le 1 n && nat_le n 1024 then Ok n else Err Limit
partitions_at (negsuc n) = Err Limit

-- bounds, the first above a least one and each above the one before it
abbrev pub bound_at : ℕ → ℤ → Result ℕ CatalogueFault
bound_at least (pos n) = if nat_lt least n then Ok n else Err BadBounds
bound_at least (negsuc n) = Err BadBounds

-- bounds, each above the one before it
abbrev pub bounds_at : ℕ → List ℤ → Result (List ℕ) CatalogueFault
bounds_at least [] = Ok []
bounds_at least (z ∷ zs) = do
  bound ← bound_at least z
  others ← bounds_at bound zs
  Ok (bound ∷ others)

-- how keys are split, or the first fault
unfoldable pub split_at : SplitForm → Result SplitShape CatalogueFault
split_at (counted z) = do
  count ← partitions_at z
  Ok (by_remainder count)
split_at (bounded zs) = do
  _ ← rule (nat_le (length zs) 1023) Limit
  bounds ← bounds_at 0 zs
  Ok (at_bounds bounds)

-- what follows a table's name
pub record Body : Type 0 where
  pub split : SplitShape
  pub columns : List ColumnShape

abbrev pub body_shape : Table → Body
body_shape t = record { split = split_shape t.split; columns = columns_shape t.columns.entries }

-- a split and 1 to 16 columns, or the first fault
unfoldable pub body_at : SplitForm → List Data → Result Body CatalogueFault
body_at form columns = do
  split ← split_at form
  _ ← rule (not (length columns == 0)) NoColumn
  _ ← rule (nat_le (length columns) 16) Limit
  columns ← columns_at [] columns
  Ok (record { split = split; columns = columns })

-- a table, after those before it
unfoldable pub table_at : Bool → List TableShape → Data → Result TableShape CatalogueFault
table_at has_bounds before d = do
  form ← formed Shape (table_form has_bounds d)
  _ ← rule (is_name form.0) BadName
  _ ← rule (not (is_table form.0 before)) DuplicateName
  body ← body_at form.1 form.2
  Ok (record { name = form.0; split = body.split; columns = body.columns })

-- tables, one after another
abbrev pub tables_at : Bool → List TableShape → List Data → Result (List TableShape) CatalogueFault
tables_at has_bounds = each_at (table_at has_bounds)

-- the catalogue that a document says, or its first fault
unfoldable pub catalogue_at : Data → Result (List TableShape) CatalogueFault
catalogue_at d = do
  form ← formed Shape (catalogue_form d)
  _ ← rule (nat_lt 0 (length form.1) && nat_le (length form.1) 64) Limit
  tables_at form.0 [] form.1
