-- Claimed: what contracts promise to a reader rests on these words.
-- Which documents say a statement and a block: a relation between documents and typed syntax, apart from paths, faults
-- and the order in which a document is read.
use Rattle.std.specs.Prelude.{◌≡◌, ◌≤◌, ℕ, zero, suc, pos, List, [], ◌∷◌, length, map, Some, ⊤}
use Rattle.serde_json.specs.Data.{Data}
use Rattle.values.specs.declared.value.ColType.{ColType}
use Rattle.catalogue.specs.Rules.{Says}
use Rattle.catalogue.specs.Shapes.{TableShape}
use Rattle.proclang_types.specs.Syntax.{IntSyntax, BoolSyntax, ValueSyntax, StmtSyntax, assign, get, put, insert_row, delete_row, choose, for_numbers, for_keys, abort, reply, block_of}
use Rattle.proclang_types.specs.Typing.{kind_of, column_kinds}
use Rattle.proclang_expressions.specs.Seen.{Seen, seen_in_loop}
use Rattle.proclang_forms.specs.Spells.{list, SpellsStatement}
use Rattle.proclang_forms.specs.StmtForms.{LetParts, GetParts, PutParts, InsertParts, DeleteParts, IfParts, ForParts, EachParts, StatementForm, let_parts, get_parts, put_parts, insert_parts, delete_parts, if_parts, for_parts, each_parts, abort_code, reply_values}
use Rattle.proclang_expressions.specs.SaysExpressions.{NamesTable, NamesColumn, SaysInt, SaysBool, SaysValue}
use Rattle.proclang_expressions.specs.SaysTargets.{Gets, IsNew}

-- ---- statements

-- ["let", x, E]
pub record SaysLet (tables : List TableShape) (scope : List Seen) (form : LetParts) (s : StmtSyntax)
    (after : List Seen) : Type 0 where
  pub place : ℕ
  pub value : ValueSyntax
  pub is_value : SaysValue tables scope form.value value
  pub gets : Gets scope form.variable (kind_of value) place after
  pub is : s ≡ assign place value

-- ["get", x, table, KEY, column]
pub record SaysGet (tables : List TableShape) (scope : List Seen) (form : GetParts) (s : StmtSyntax)
    (after : List Seen) : Type 0 where
  pub place : ℕ
  pub table : ℕ
  pub key : IntSyntax
  pub column : ℕ
  pub kind : ColType
  pub is_table : NamesTable tables form.table table
  pub is_key : SaysInt tables scope form.key key
  pub is_column : NamesColumn tables table form.column column kind
  pub gets : Gets scope form.variable kind place after
  pub is : s ≡ get place table key column

-- ["put", table, KEY, column, E]
pub record SaysPut (tables : List TableShape) (scope : List Seen) (form : PutParts) (s : StmtSyntax) : Type 0 where
  pub table : ℕ
  pub key : IntSyntax
  pub column : ℕ
  pub value : ValueSyntax
  pub is_table : NamesTable tables form.table table
  pub is_key : SaysInt tables scope form.key key
  pub is_column : NamesColumn tables table form.column column (kind_of value)
  pub is_value : SaysValue tables scope form.value value
  pub is : s ≡ put table key column value

-- one value for each column, of the column's type
pub record SaysInsert (tables : List TableShape) (scope : List Seen) (form : InsertParts)
    (s : StmtSyntax) : Type 0 where
  pub table : ℕ
  pub key : IntSyntax
  pub values : List ValueSyntax
  pub is_table : NamesTable tables form.table table
  pub is_key : SaysInt tables scope form.key key
  pub are_values : Says (SaysValue tables scope) form.values values
  pub kinds : column_kinds tables table ≡ Some (map kind_of values)
  pub is : s ≡ insert_row table key values

-- ["delete", table, KEY]
pub record SaysDelete (tables : List TableShape) (scope : List Seen) (form : DeleteParts)
    (s : StmtSyntax) : Type 0 where
  pub table : ℕ
  pub key : IntSyntax
  pub is_table : NamesTable tables form.table table
  pub is_key : SaysInt tables scope form.key key
  pub is : s ≡ delete_row table key

-- ---- statements with blocks

-- what is declared in a block is seen in that block alone
pub record SaysIf (tables : List TableShape) (block : List Seen → Data → List StmtSyntax → Type 0) (scope : List Seen)
    (form : IfParts) (s : StmtSyntax) : Type 0 where
  pub test : BoolSyntax
  pub first : List StmtSyntax
  pub second : List StmtSyntax
  pub is_test : SaysBool tables scope form.test test
  pub is_first : block scope form.first first
  pub is_second : block scope form.second second
  pub is : s ≡ choose test (block_of first) (block_of second)

-- the variable of a loop is seen in its block alone
pub record SaysFor (tables : List TableShape) (block : List Seen → Data → List StmtSyntax → Type 0) (scope : List Seen)
    (form : ForParts) (s : StmtSyntax) : Type 0 where
  pub low : IntSyntax
  pub high : IntSyntax
  pub body : List StmtSyntax
  pub name : IsNew scope form.variable
  pub is_low : SaysInt tables scope form.low low
  pub is_high : SaysInt tables scope form.high high
  pub is_body : block (seen_in_loop scope form.variable) form.body body
  pub is : s ≡ for_numbers low high (block_of body)

-- ["each", x, table, PART, BLOCK]
pub record SaysEach (tables : List TableShape) (block : List Seen → Data → List StmtSyntax → Type 0) (scope : List Seen)
    (form : EachParts) (s : StmtSyntax) : Type 0 where
  pub table : ℕ
  pub number : IntSyntax
  pub body : List StmtSyntax
  pub name : IsNew scope form.variable
  pub is_table : NamesTable tables form.table table
  pub is_number : SaysInt tables scope form.number number
  pub is_body : block (seen_in_loop scope form.variable) form.body body
  pub is : s ≡ for_keys table number (block_of body)

-- a statement turns the variables that are seen before it into those that are seen after it
abbrev pub SaysStatementForm : List TableShape → (List Seen → Data → List StmtSyntax → Type 0) → List Seen
    → StatementForm → StmtSyntax → List Seen → Type 0
SaysStatementForm tables block scope (let_parts form) s after = SaysLet tables scope form s after
SaysStatementForm tables block scope (get_parts form) s after = SaysGet tables scope form s after
SaysStatementForm tables block scope (put_parts form) s after = SaysPut tables scope form s × (after ≡ scope)
SaysStatementForm tables block scope (insert_parts form) s after = SaysInsert tables scope form s × (after ≡ scope)
SaysStatementForm tables block scope (delete_parts form) s after = SaysDelete tables scope form s × (after ≡ scope)
SaysStatementForm tables block scope (if_parts form) s after = SaysIf tables block scope form s × (after ≡ scope)
SaysStatementForm tables block scope (for_parts form) s after = SaysFor tables block scope form s × (after ≡ scope)
SaysStatementForm tables block scope (each_parts form) s after = SaysEach tables block scope form s × (after ≡ scope)
SaysStatementForm tables block scope (abort_code z) s after =
    (n : ℕ) × (z ≡ pos n) × (100 ≤ n) × (n ≤ 65535) × (s ≡ abort n) × (after ≡ scope)
SaysStatementForm tables block scope (reply_values ds) s after =
    (vs : List ValueSyntax) × (length ds ≤ 64) × Says (SaysValue tables scope) ds vs × (s ≡ reply vs) × (after ≡ scope)

-- a document says a statement, which is well typed in a scope and turns it into another
abbrev pub SaysStatement : List TableShape → (List Seen → Data → List StmtSyntax → Type 0) → List Seen → Data
    → StmtSyntax → List Seen → Type 0
SaysStatement tables block scope d s after =
    (form : StatementForm) × SpellsStatement d form × SaysStatementForm tables block scope form s after

-- each statement with the variables that are seen after the ones before it
abbrev pub SaysStatements : List TableShape → (List Seen → Data → List StmtSyntax → Type 0) → List Seen → List Data
    → List StmtSyntax → Type 0
SaysStatements tables block scope [] [] = ⊤
SaysStatements tables block scope (d ∷ ds) (s ∷ ss) =
    (after : List Seen) × SaysStatement tables block scope d s after × SaysStatements tables block after ds ss
SaysStatements tables block scope ds ss = ⊥

-- a block of at most that many levels
abbrev pub SaysBlock : List TableShape → ℕ → List Seen → Data → List StmtSyntax → Type 0
SaysBlock tables zero scope d ss = ⊥
SaysBlock tables (suc levels) scope d ss =
    (ds : List Data) × (d ≡ list ds) × (length ds ≤ 1024) × SaysStatements tables (SaysBlock tables levels) scope ds ss
