-- Claimed: what contracts promise to a reader rests on these words.
-- The documents of one level of an expression, a statement, an entry of a footprint and a procedure, as they are
-- written.
use Rattle.std.specs.Prelude.{◌≡◌, ℕ, List, [], ◌∷◌, Some, codes}
use Rattle.serde_json.specs.Data.{Data, string, array}
use Rattle.serde_json.specs.View.{items_of}
use Rattle.documents.specs.Json.{integer}
use Rattle.proclang_types.specs.declared.right.Right.{Right}
use Rattle.proclang_types.specs.declared.right.Right.TheVariants.{Read, Write}
use Rattle.proclang_forms.specs.Operators.{word_of}
use Rattle.proclang_forms.specs.ExprForms.{Form, number_form, literal_form, variable_form, not_form, binary_form, exists_form, count_form, sum_form}
use Rattle.proclang_forms.specs.ProcForms.{ProcDocument, FootprintDocument, declared_parts, recon_parts, EntryDocument, row_parts, rows_parts, part_parts, table_parts, db_parts}
use Rattle.proclang_forms.specs.StmtForms.{StatementForm, let_parts, get_parts, put_parts, insert_parts, delete_parts, if_parts, for_parts, each_parts, abort_code, reply_values}

-- [WORD, PART ..]
abbrev pub words : List ℕ → List Data → Data
words word parts = array (items_of (string word ∷ parts))

-- the array of these documents
abbrev pub list : List Data → Data
list parts = array (items_of parts)

-- 5, ["text", "hi"], "x", ["not", a], ["+", a, b], ["exists", table, KEY], ["count", table, PART], ["sum", table, PART,
-- column]
abbrev pub SpellsExpr : Data → Form → Type 0
SpellsExpr d (number_form z) = integer d ≡ Some z
SpellsExpr d (literal_form s) = d ≡ words (codes "text") (string s ∷ [])
SpellsExpr d (variable_form name) = d ≡ string name
SpellsExpr d (not_form a) = d ≡ words (codes "not") (a ∷ [])
SpellsExpr d (binary_form op a b) = d ≡ words (word_of op) (a ∷ b ∷ [])
SpellsExpr d (exists_form table key) = d ≡ words (codes "exists") (string table ∷ key ∷ [])
SpellsExpr d (count_form table part) = d ≡ words (codes "count") (string table ∷ part ∷ [])
SpellsExpr d (sum_form table part column) = d ≡ words (codes "sum") (string table ∷ part ∷ string column ∷ [])

-- ["let", x, E], ["get", x, table, KEY, column], ["put", table, KEY, column, E], ["insert", table, KEY, [E ..]],
-- ["delete", table, KEY], ["if", COND, BLOCK, BLOCK], ["for", x, LOW, HIGH, BLOCK], ["each", x, table, PART, BLOCK],
-- ["abort", CODE], ["reply", E ..]
abbrev pub SpellsStatement : Data → StatementForm → Type 0
SpellsStatement d (let_parts f) = d ≡ words (codes "let") (string f.variable ∷ f.value ∷ [])
SpellsStatement d (get_parts f) =
    d ≡ words (codes "get") (string f.variable ∷ string f.table ∷ f.key ∷ string f.column ∷ [])
SpellsStatement d (put_parts f) = d ≡ words (codes "put") (string f.table ∷ f.key ∷ string f.column ∷ f.value ∷ [])
SpellsStatement d (insert_parts f) = d ≡ words (codes "insert") (string f.table ∷ f.key ∷ list f.values ∷ [])
SpellsStatement d (delete_parts f) = d ≡ words (codes "delete") (string f.table ∷ f.key ∷ [])
SpellsStatement d (if_parts f) = d ≡ words (codes "if") (f.test ∷ f.first ∷ f.second ∷ [])
SpellsStatement d (for_parts f) = d ≡ words (codes "for") (string f.variable ∷ f.low ∷ f.high ∷ f.body ∷ [])
SpellsStatement d (each_parts f) =
    d ≡ words (codes "each") (string f.variable ∷ string f.table ∷ f.number ∷ f.body ∷ [])
SpellsStatement d (abort_code z) = (code : Data) × (d ≡ words (codes "abort") (code ∷ [])) × (integer code ≡ Some z)
SpellsStatement d (reply_values ds) = d ≡ words (codes "reply") ds

-- the word of a right
abbrev pub right_word : Right → List ℕ
right_word Read = codes "r"
right_word Write = codes "w"

-- ["row", right, table, KEY], ["rows", right, table, LOW, HIGH], ["part", right, table, PART], ["table", right, table],
-- ["db", right]
abbrev pub SpellsEntry : Data → EntryDocument → Type 0
SpellsEntry d (row_parts right table key) =
    d ≡ words (codes "row") (string (right_word right) ∷ string table ∷ key ∷ [])
SpellsEntry d (rows_parts right table low high) =
    d ≡ words (codes "rows") (string (right_word right) ∷ string table ∷ low ∷ high ∷ [])
SpellsEntry d (part_parts right table part) =
    d ≡ words (codes "part") (string (right_word right) ∷ string table ∷ part ∷ [])
SpellsEntry d (table_parts right table) = d ≡ words (codes "table") (string (right_word right) ∷ string table ∷ [])
SpellsEntry d (db_parts right) = d ≡ words (codes "db") (string (right_word right) ∷ [])

-- ["declared", ENTRY ..], ["recon"]
abbrev pub SpellsFootprint : Data → FootprintDocument → Type 0
SpellsFootprint d (declared_parts entries) = d ≡ words (codes "declared") entries
SpellsFootprint d recon_parts = d ≡ words (codes "recon") []

-- [name, [PARAM ..], FOOT, BLOCK]
abbrev pub SpellsProc : Data → ProcDocument → Type 0
SpellsProc d p = d ≡ array (items_of (string p.name ∷ array (items_of p.params) ∷ p.footprint ∷ p.body ∷ []))
