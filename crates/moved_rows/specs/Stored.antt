-- Claimed: what contracts promise to a reader rests on these words.
-- Calls that store no values but those that columns can hold.
use Rattle.std.specs.Prelude.{◌≡◌, true, ⊤}
use Rattle.std.specs.List.{AllByRecursion}
use Rattle.values.specs.declared.value.Value.TheVariants.{Text}
use Rattle.proclang_types.specs.Syntax.{IntSyntax, number, variable, binary, count_rows, sum_column, literal, text_variable, ValueSyntax, int_value, text_value, StmtSyntax, assign, get as get_syntax, put, insert_row, delete_row, choose, for_numbers, for_keys, abort, reply, BlockSyntax, no_statements, followed, block_of}
use Rattle.footprint.specs.Arithmetic.{is_int}
use Rattle.meaning.specs.Entries.{EntryShape}
use Rattle.rows_document.specs.Said.{IsValue}

-- each literal of a number expression, but for those that only tell which rows are counted or summed, is in the signed
-- 64-bit range
abbrev pub HasInts : IntSyntax → Type 0
HasInts (number z) = is_int z ≡ true
HasInts (variable place) = ⊤
HasInts (binary op a b) = HasInts a × HasInts b
HasInts (count_rows table part) = ⊤
HasInts (sum_column table part column) = ⊤

-- the literals of an expression are values that columns can hold
abbrev pub HasValues : ValueSyntax → Type 0
HasValues (int_value e) = HasInts e
HasValues (text_value (literal text)) = IsValue (Text text)
HasValues (text_value (text_variable place)) = ⊤

-- each literal from which a statement makes a variable, a column or the key of a new row is such a value
abbrev mutual
  pub StoresValues : StmtSyntax → Type 0
  StoresValues (assign place value) = HasValues value
  StoresValues (get_syntax place table key column) = ⊤
  StoresValues (put table key column value) = HasValues value
  StoresValues (insert_row table key values) = HasInts key × AllByRecursion HasValues values
  StoresValues (delete_row table key) = ⊤
  StoresValues (choose test first second) = AllStoreValues first × AllStoreValues second
  StoresValues (for_numbers low high body) = HasInts low × HasInts high × AllStoreValues body
  StoresValues (for_keys table part body) = AllStoreValues body
  StoresValues (abort code) = ⊤
  StoresValues (reply values) = ⊤

  pub AllStoreValues : BlockSyntax → Type 0
  AllStoreValues no_statements = ⊤
  AllStoreValues (followed statement rest) = StoresValues statement × AllStoreValues rest

-- a call whose arguments, and whose literals that are stored, are values that columns can hold
pub record IsValueCall (entry : EntryShape) : Type 0 where
  pub arguments : AllByRecursion IsValue entry.arguments
  pub body : AllStoreValues (block_of entry.body)
