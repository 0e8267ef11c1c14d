-- Claimed: what contracts promise to a reader rests on these words.
-- The faults of a statement and of a block, each with its path, in the order in which rules are looked at; and the
-- variables that are seen after a statement. No rule here depends on what reading gives.
use Rattle.std.specs.Prelude.{ℕ, zero, suc, ℤ, pos, negsuc, ◌+◌, ◌==◌, Bool, false, ◌&&◌, nat_le, List, [], ◌∷◌, ◌++◌, length, Option, Some, None, option_and_then, unwrap_or}
use Rattle.std.specs.List.{zip}
use Rattle.serde_json.specs.Data.{Data}
use Rattle.documents.specs.FirstFault.{broken}
use Rattle.documents.specs.Json.{elements}
use Rattle.values.specs.declared.value.ColType.{ColType}
use Rattle.catalogue.specs.Places.{table_named}
use Rattle.catalogue.specs.Shapes.{TableShape}
use Rattle.proclang_types.specs.Typing.{column_kinds}
use Rattle.proclang_expressions.specs.declared.fault.FaultKind.TheVariants.{Shape, TypeMismatch, AbortCode, Limit}
use Rattle.proclang_expressions.specs.declared.fault.ProcFault.{ProcFault}
use Rattle.proclang_expressions.specs.declared.fault.ProcFault.TheVariants.{At}
use Rattle.proclang_expressions.specs.BrokenNames.{not_table, column_type_said, not_column}
use Rattle.proclang_expressions.specs.BrokenExpressions.{not_int, not_bool, not_value, in_statement_expr}
use Rattle.proclang_expressions.specs.ExprTypes.{kind_said}
use Rattle.proclang_expressions.specs.Seen.{Seen, found_in, seen_in_loop}
use Rattle.proclang_forms.specs.StmtForms.{LetParts, GetParts, PutParts, InsertParts, DeleteParts, IfParts, ForParts, EachParts, StatementForm, let_parts, get_parts, put_parts, insert_parts, delete_parts, if_parts, for_parts, each_parts, abort_code, reply_values, statement_form}
use Rattle.proclang_expressions.specs.BrokenTargets.{in_target, in_loop_name, type_found, agree, seen_with}
use Rattle.proclang_expressions.specs.BrokenParts.{in_parts, too_many}

-- ---- types

-- the types of the columns of the table with a name
abbrev pub kinds_said : List TableShape → List ℕ → List ColType
kinds_said tables table = unwrap_or (option_and_then (column_kinds tables) (table_named tables table)) []

-- ---- statements

-- the rules that a `let` breaks
abbrev pub in_let : List TableShape → List ℕ → List Seen → LetParts → List ProcFault
in_let tables path scope form =
    in_target (path ++ 1 ∷ []) form.variable (found_in form.variable scope)
    ++ (in_statement_expr tables (path ++ 2 ∷ []) scope form.value
    ++ (not_value (path ++ 2 ∷ []) scope form.value
    ++ broken (agree (type_found (found_in form.variable scope)) (kind_said scope form.value))
    (At TypeMismatch (path ++ 2 ∷ []))))

-- the rules that a `get` breaks
abbrev pub in_get : List TableShape → List ℕ → List Seen → GetParts → List ProcFault
in_get tables path scope form =
    in_target (path ++ 1 ∷ []) form.variable (found_in form.variable scope)
    ++ (not_table (path ++ 2 ∷ []) tables form.table
    ++ (in_statement_expr tables (path ++ 3 ∷ []) scope form.key
    ++ (not_column (path ++ 4 ∷ []) tables form.table form.column
    ++ (not_int (path ++ 3 ∷ []) scope form.key
    ++ broken (agree (type_found (found_in form.variable scope)) (column_type_said tables form.table form.column))
    (At TypeMismatch (path ++ 4 ∷ []))))))

-- the rules that a `put` breaks
abbrev pub in_put : List TableShape → List ℕ → List Seen → PutParts → List ProcFault
in_put tables path scope form =
    not_table (path ++ 1 ∷ []) tables form.table
    ++ (in_statement_expr tables (path ++ 2 ∷ []) scope form.key
    ++ (not_column (path ++ 3 ∷ []) tables form.table form.column
    ++ (in_statement_expr tables (path ++ 4 ∷ []) scope form.value
    ++ (not_int (path ++ 2 ∷ []) scope form.key
    ++ (not_value (path ++ 4 ∷ []) scope form.value
    ++ broken (agree (kind_said scope form.value) (column_type_said tables form.table form.column))
    (At TypeMismatch (path ++ 4 ∷ [])))))))

-- an expression is a value of a column's type
abbrev pub not_stored : List ℕ → List Seen → ColType → Data → List ProcFault
not_stored path scope kind d =
    not_value path scope d ++ broken (agree (kind_said scope d) (Some kind)) (At TypeMismatch path)

-- as many values as columns; all are well formed, and then each has its column's type
abbrev pub in_insert : List TableShape → List ℕ → List Seen → InsertParts → List ProcFault
in_insert tables path scope form =
    not_table (path ++ 1 ∷ []) tables form.table
    ++ (in_statement_expr tables (path ++ 2 ∷ []) scope form.key
    ++ (broken (length form.values == length (kinds_said tables form.table)) (At Shape (path ++ 3 ∷ []))
    ++ (in_parts (λ p d. in_statement_expr tables p scope d) (path ++ 3 ∷ []) 0 form.values
    ++ (not_int (path ++ 2 ∷ []) scope form.key
    ++ in_parts (λ p c. not_stored p scope c.0 c.1) (path ++ 3 ∷ []) 0
    (zip (kinds_said tables form.table) form.values)))))

-- the rules that a `delete` breaks
abbrev pub in_delete : List TableShape → List ℕ → List Seen → DeleteParts → List ProcFault
in_delete tables path scope form =
    not_table (path ++ 1 ∷ []) tables form.table
    ++ (in_statement_expr tables (path ++ 2 ∷ []) scope form.key
    ++ not_int (path ++ 2 ∷ []) scope form.key)

-- the code of an abort is 100 to 65535
abbrev pub is_abort_code : ℤ → Bool
is_abort_code (pos n) = nat_le 100 n && nat_le n 65535
is_abort_code (negsuc n) = false

abbrev pub in_abort : List ℕ → ℤ → List ProcFault
in_abort path code = broken (is_abort_code code) (At AbortCode (path ++ 1 ∷ []))

-- the rules that a `reply` breaks: at most 64 values, and those of each
abbrev pub in_reply : List TableShape → List ℕ → List Seen → List Data → List ProcFault
in_reply tables path scope ds =
    too_many path 64 ds
    ++ (in_parts (λ p d. in_statement_expr tables p scope d) path 1 ds
    ++ in_parts (λ p d. not_value p scope d) path 1 ds)

-- ---- statements with blocks

-- the rules that blocks break
abbrev pub BlockRules : Type 0
BlockRules = List ℕ → List Seen → Data → List ProcFault

-- the condition's type comes after both blocks
abbrev pub in_if : List TableShape → BlockRules → List ℕ → List Seen → IfParts → List ProcFault
in_if tables block path scope form =
    in_statement_expr tables (path ++ 1 ∷ []) scope form.test
    ++ (block (path ++ 2 ∷ []) scope form.first
    ++ (block (path ++ 3 ∷ []) scope form.second
    ++ not_bool (path ++ 1 ∷ []) scope form.test))

-- the bounds' types come after the block
abbrev pub in_for : List TableShape → BlockRules → List ℕ → List Seen → ForParts → List ProcFault
in_for tables block path scope form =
    in_loop_name (path ++ 1 ∷ []) form.variable (found_in form.variable scope)
    ++ (in_statement_expr tables (path ++ 2 ∷ []) scope form.low
    ++ (in_statement_expr tables (path ++ 3 ∷ []) scope form.high
    ++ (block (path ++ 4 ∷ []) (seen_in_loop scope form.variable) form.body
    ++ (not_int (path ++ 2 ∷ []) scope form.low
    ++ not_int (path ++ 3 ∷ []) scope form.high))))

-- the partition's type comes after the block
abbrev pub in_each_loop : List TableShape → BlockRules → List ℕ → List Seen → EachParts → List ProcFault
in_each_loop tables block path scope form =
    in_loop_name (path ++ 1 ∷ []) form.variable (found_in form.variable scope)
    ++ (not_table (path ++ 2 ∷ []) tables form.table
    ++ (in_statement_expr tables (path ++ 3 ∷ []) scope form.number
    ++ (block (path ++ 4 ∷ []) (seen_in_loop scope form.variable) form.body
    ++ not_int (path ++ 3 ∷ []) scope form.number)))

abbrev pub in_statement_form : List TableShape → BlockRules → List ℕ → List Seen → Option StatementForm → List ProcFault
in_statement_form tables block path scope None = At Shape path ∷ []
in_statement_form tables block path scope (Some (let_parts form)) = in_let tables path scope form
in_statement_form tables block path scope (Some (get_parts form)) = in_get tables path scope form
in_statement_form tables block path scope (Some (put_parts form)) = in_put tables path scope form
in_statement_form tables block path scope (Some (insert_parts form)) = in_insert tables path scope form
in_statement_form tables block path scope (Some (delete_parts form)) = in_delete tables path scope form
in_statement_form tables block path scope (Some (if_parts form)) = in_if tables block path scope form
in_statement_form tables block path scope (Some (for_parts form)) = in_for tables block path scope form
in_statement_form tables block path scope (Some (each_parts form)) = in_each_loop tables block path scope form
in_statement_form tables block path scope (Some (abort_code code)) = in_abort path code
in_statement_form tables block path scope (Some (reply_values ds)) = in_reply tables path scope ds

-- the faults of a statement, each with its path: its form, its limits, its parts from left to right, and then its types
abbrev pub in_statement : List TableShape → BlockRules → List ℕ → List Seen → Data → List ProcFault
in_statement tables block path scope d = in_statement_form tables block path scope (statement_form d)

-- ---- the variables that are seen after a statement

abbrev pub seen_after_form : List TableShape → List Seen → Option StatementForm → List Seen
seen_after_form tables scope (Some (let_parts form)) =
    seen_with scope form.variable (found_in form.variable scope) (kind_said scope form.value)
seen_after_form tables scope (Some (get_parts form)) =
    seen_with scope form.variable (found_in form.variable scope) (column_type_said tables form.table form.column)
seen_after_form tables scope form = scope

-- the variables that are seen after a statement
abbrev pub seen_after : List TableShape → List Seen → Data → List Seen
seen_after tables scope d = seen_after_form tables scope (statement_form d)

-- ---- blocks

-- those of each statement in turn, with the variables that are seen after the ones before it
abbrev pub in_statements : List TableShape → BlockRules → List ℕ → ℕ → List Seen → List Data → List ProcFault
in_statements tables block path place scope [] = []
in_statements tables block path place scope (d ∷ ds) =
    in_statement tables block (path ++ place ∷ []) scope d
    ++ in_statements tables block path (place + 1) (seen_after tables scope d) ds

-- rule: nesting.depth
abbrev pub in_deep_block : List ℕ → Option (List Data) → List ProcFault
in_deep_block path None = At Shape path ∷ []
in_deep_block path (Some ds) = At Limit path ∷ []

abbrev pub in_block_form : List TableShape → BlockRules → List ℕ → List Seen → Option (List Data) → List ProcFault
in_block_form tables block path scope None = At Shape path ∷ []
in_block_form tables block path scope (Some ds) = too_many path 1024 ds ++ in_statements tables block path 0 scope ds

-- the rules that a block breaks, where that many levels may still nest
unfoldable pub in_block : List TableShape → ℕ → List ℕ → List Seen → Data → List ProcFault
in_block tables zero path scope d = in_deep_block path (elements d)
in_block tables (suc room) path scope d = in_block_form tables (in_block tables room) path scope (elements d)
