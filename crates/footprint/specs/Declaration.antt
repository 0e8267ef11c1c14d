-- Claimed: what contracts promise to a reader rests on these words.
-- The footprint that a procedure declares for its arguments, or the abort of the first fault.
use Rattle.std.specs.Prelude.{ℕ, zero, suc, ℤ, pos, negsuc, ◌+◌, ◌-◌, nat_le, List, [], ◌∷◌, map, length, Option, Some, None, Result, Ok, slice_get}
use Rattle.std.specs.FinMap.{empty}
use Rattle.values.specs.declared.value.Value.{Value}
use Rattle.values.specs.declared.value.Value.TheVariants as values
use Rattle.catalogue.specs.Shapes.{TableShape}
use Rattle.values.specs.Keys.{key_of}
use Rattle.catalogue.specs.Places.{partition_numbered}
use Rattle.documents.specs.Reading.{◌>>=◌, rule, formed}
use Rattle.proclang_types.specs.declared.right.Right.{Right}
use Rattle.proclang_types.specs.Syntax.{IntSyntax, number, variable, binary, count_rows, sum_column, EntrySyntax, row_entry, rows_entry, part_entry, table_entry, db_entry}
use Rattle.footprint.specs.declared.abort_code.AbortCode.{AbortCode}
use Rattle.footprint.specs.declared.abort_code.AbortCode.TheVariants.{BadKey, BadPart, TooLong}
use Rattle.footprint.specs.declared.resource.Resource.{Resource}
use Rattle.footprint.specs.declared.resource.Resource.TheVariants.{Db, Table}
use Rattle.footprint.specs.declared.resource.InTable.TheVariants.{WholeTable, Part}
use Rattle.footprint.specs.declared.resource.InPart.TheVariants.{WholePart}
use Rattle.footprint.specs.Arithmetic.{result_of}
use Rattle.footprint.specs.Tree.{row_resource}
use Rattle.footprint.specs.Rights.{FootprintOf, with_rights}

-- the number of a variable, or another number in the place of one that is not there or is a text
abbrev pub number_or : ℤ → Option Value → ℤ
number_or other (Some (values.Int z)) = z
number_or other (Some (values.Text s)) = other
number_or other None = other

-- An expression over the parameters, from left to right. The other number is taken for a count or a sum too, of which
-- there is none in an entry that fits.
abbrev pub declared_number : ℤ → List Value → IntSyntax → Result ℤ AbortCode
declared_number other arguments (number z) = Ok z
declared_number other arguments (variable place) = Ok (number_or other (slice_get arguments place))
declared_number other arguments (binary op a b) = do
  x ← declared_number other arguments a
  y ← declared_number other arguments b
  result_of op x y
declared_number other arguments (count_rows table part) = Ok other
declared_number other arguments (sum_column table part column) = Ok other

-- n keys, each one more than the one before it, from one on
abbrev pub keys_from : ℕ → ℕ → List ℕ
keys_from zero first = []
keys_from (suc count) first = first ∷ keys_from count (suc first)

-- how many keys there are from one to a number, both included: none where the number is less
abbrev pub keys_up_to : ℕ → ℤ → ℕ
keys_up_to low (pos high) = suc high - low
keys_up_to low (negsuc high) = 0

-- rule: footprint.rows, footprint.high
-- the keys from one to a number, both included (KeysGoFromLowToHigh)
abbrev pub keys_between : ℕ → ℤ → List ℕ
keys_between low high = keys_from (keys_up_to low high) low

-- a right on the name of the row with each of the keys
abbrev pub on_rows : List TableShape → Right → ℕ → List ℕ → List (Resource × Right)
on_rows tables right table keys =
    map {B = Resource × Right} (λ key. (row_resource tables (record { table = table; key = key }), right)) keys

-- rule: footprint.row, footprint.part, footprint.table, footprint.db, footprint.numbers
-- What an entry adds: resources, and a right on each. All its expressions are evaluated before a key or a partition's
-- number is tested. A negative key, or least key, is a bad key, and a number that is no partition of the table a bad
-- partition.
abbrev pub grants_of : ℤ → List TableShape → List Value → EntrySyntax → Result (List (Resource × Right)) AbortCode
grants_of other tables arguments (row_entry right table key) = do
  z ← declared_number other arguments key
  k ← formed BadKey (key_of z)
  Ok (on_rows tables right table (k ∷ []))
grants_of other tables arguments (rows_entry right table low high) = do
  z ← declared_number other arguments low
  last ← declared_number other arguments high
  first ← formed BadKey (key_of z)
  Ok (on_rows tables right table (keys_between first last))
grants_of other tables arguments (part_entry right table part) = do
  z ← declared_number other arguments part
  p ← formed BadPart (partition_numbered tables table z)
  Ok ((Table table (Part p WholePart), right) ∷ [])
grants_of other tables arguments (table_entry right table) = Ok ((Table table WholeTable, right) ∷ [])
grants_of other tables arguments (db_entry right) = Ok ((Db, right) ∷ [])

-- entry by entry: repeats count, and at most 65,536 resources may be added. Of two rights on a resource the greater
-- counts
abbrev pub with_entries : ℤ → List TableShape → List Value → ℕ → FootprintOf → List EntrySyntax
    → Result FootprintOf AbortCode
with_entries other tables arguments count footprint [] = Ok footprint
with_entries other tables arguments count footprint (entry ∷ entries) = do
  grants ← grants_of other tables arguments entry
  _ ← rule (nat_le (count + length grants) 65536) TooLong
  with_entries other tables arguments (count + length grants) (with_rights footprint grants) entries

-- rule: footprint.order
-- the footprint that entries declare, where another number is taken for a parameter that is not there or is a text, for
-- a count and for a sum
abbrev pub declared_with : ℤ → List TableShape → List Value → List EntrySyntax → Result FootprintOf AbortCode
declared_with other tables arguments entries = with_entries other tables arguments 0 empty entries

-- the footprint that a procedure declares, entry by entry, or the abort of its first fault
abbrev pub declared_footprint : List TableShape → List Value → List EntrySyntax → Result FootprintOf AbortCode
declared_footprint = declared_with (pos 0)
