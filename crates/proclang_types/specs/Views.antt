-- Claimed: what contracts promise to a reader rests on these words.
-- The syntax that a value of the code represents.
use Rattle.std.specs.Prelude.{List, map}
use Rattle.proclang_types.specs.declared.expression.IntExpr.{IntExpr}
use Rattle.proclang_types.specs.declared.expression.IntExpr.TheVariants.{Number, Variable, Binary', Count', Sum'}
use Rattle.proclang_types.specs.declared.expression.TextExpr.{TextExpr}
use Rattle.proclang_types.specs.declared.expression.TextExpr.TheVariants as texts
use Rattle.proclang_types.specs.declared.expression.BoolExpr.{BoolExpr}
use Rattle.proclang_types.specs.declared.expression.BoolExpr.TheVariants.{CompareInts, CompareTexts, And', Or', Not', Exists}
use Rattle.proclang_types.specs.declared.expression.Expr.{Expr}
use Rattle.proclang_types.specs.declared.expression.Expr.TheVariants as exprs
use Rattle.proclang_types.specs.declared.expression.ValueExpr.{ValueExpr}
use Rattle.proclang_types.specs.declared.expression.ValueExpr.TheVariants as values
use Rattle.proclang_types.specs.declared.statement.Stmt.{Stmt, fold-Stmt}
use Rattle.proclang_types.specs.declared.statement.Stmt.TheOpen.{Stmt-F}
use Rattle.proclang_types.specs.declared.statement.FootprintEntry.{FootprintEntry}
use Rattle.proclang_types.specs.declared.statement.FootprintEntry.TheVariants as entries
use Rattle.proclang_types.specs.declared.statement.ProcFootprint.{ProcFootprint}
use Rattle.proclang_types.specs.declared.statement.ProcFootprint.TheVariants as footprints
use Rattle.proclang_types.specs.Syntax.{IntSyntax, number, variable, binary, count_rows, sum_column, TextSyntax, literal, text_variable, BoolSyntax, compare_ints, compare_texts, both, either, negated, row_exists, ValueSyntax, int_value, text_value, ExprSyntax, int, text, bool, StmtSyntax, assign, get, put, insert_row, delete_row, choose, for_numbers, for_keys, abort, reply, block_of, EntrySyntax, row_entry, rows_entry, part_entry, table_entry, db_entry, FootprintSyntax, declared_by, found_by_recon}

-- the typed syntax of an expression of the code that gives a number
abbrev pub int_view : IntExpr → IntSyntax
int_view (Number z) = number z
int_view (Variable p) = variable p
int_view (Binary' op p a q b) = binary op (int_view a) (int_view b)
int_view (Count' table p part) = count_rows table (int_view part)
int_view (Sum' table p part column) = sum_column table (int_view part) column

-- the typed syntax of one that gives a text
abbrev pub text_view : TextExpr → TextSyntax
text_view (texts.Literal s) = literal s
text_view (texts.Variable p) = text_variable p

-- the typed syntax of one that gives true or false
abbrev pub bool_view : BoolExpr → BoolSyntax
bool_view (CompareInts test a b) = compare_ints test (int_view a) (int_view b)
bool_view (CompareTexts test a b) = compare_texts test (text_view a) (text_view b)
bool_view (And' p a q b) = both (bool_view a) (bool_view b)
bool_view (Or' p a q b) = either (bool_view a) (bool_view b)
bool_view (Not' p a) = negated (bool_view a)
bool_view (Exists table key) = row_exists table (int_view key)

-- the typed syntax of one that gives a number or a text
abbrev pub value_view : ValueExpr → ValueSyntax
value_view (values.Int e) = int_value (int_view e)
value_view (values.Text e) = text_value (text_view e)

-- the typed syntax of one of any type
abbrev pub expr_view : Expr → ExprSyntax
expr_view (exprs.Int e) = int (int_view e)
expr_view (exprs.Text e) = text (text_view e)
expr_view (exprs.Bool e) = bool (bool_view e)

-- one level, with each statement inside already seen as its syntax
abbrev pub stmt_step : Stmt-F StmtSyntax → StmtSyntax
stmt_step (Stmt-F.Let place value) = assign place (value_view value)
stmt_step (Stmt-F.Get place table key column) = get place table (int_view key) column
stmt_step (Stmt-F.Put table key column value) = put table (int_view key) column (value_view value)
stmt_step (Stmt-F.Insert table key es) = insert_row table (int_view key) (map value_view es.items)
stmt_step (Stmt-F.Delete table key) = delete_row table (int_view key)
stmt_step (Stmt-F.If test first second) = choose (bool_view test) (block_of first.items) (block_of second.items)
stmt_step (Stmt-F.For low high body) = for_numbers (int_view low) (int_view high) (block_of body.items)
stmt_step (Stmt-F.Each table part body) = for_keys table (int_view part) (block_of body.items)
stmt_step (Stmt-F.Abort code) = abort code
stmt_step (Stmt-F.Reply es) = reply (map value_view es.items)

-- the typed syntax of a statement of the code
abbrev pub stmt_view : Stmt → StmtSyntax
stmt_view = fold-Stmt StmtSyntax stmt_step

abbrev pub stmts_view : List Stmt → List StmtSyntax
stmts_view ss = map stmt_view ss

-- the typed syntax of an entry of a footprint
abbrev pub entry_view : FootprintEntry → EntrySyntax
entry_view (entries.Row right table key) = row_entry right table (int_view key)
entry_view (entries.Rows right table low high) = rows_entry right table (int_view low) (int_view high)
entry_view (entries.Part right table part) = part_entry right table (int_view part)
entry_view (entries.Table right table) = table_entry right table
entry_view (entries.Db right) = db_entry right

-- the typed syntax of how a footprint is known
abbrev pub footprint_view : ProcFootprint → FootprintSyntax
footprint_view (footprints.Declared entries) = declared_by (map entry_view entries.items)
footprint_view footprints.Recon = found_by_recon
