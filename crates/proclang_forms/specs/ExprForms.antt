-- Claimed: what contracts promise to a reader rests on these words.
-- One level of an expression, before its parts are read.
use Rattle.std.specs.Prelude.{ℕ, ℤ, Bool, true, false, List, [], ◌∷◌, Option, Some, None, option_map, option_and_then, if◌then◌else◌, codes}
use Rattle.std.specs.Str.{bytes_eq}
use Rattle.serde_json.specs.Data.{Data, number, string, array}
use Rattle.serde_json.specs.Find.{as_str, as_i64}
use Rattle.serde_json.specs.View.{view}
use Rattle.documents.specs.Json.{list_of}
use Rattle.proclang_forms.specs.declared.operator.Operator.{Operator}
use Rattle.proclang_forms.specs.declared.expr_forms.ExprForm.{ExprForm}
use Rattle.proclang_forms.specs.declared.expr_forms.ExprForm.TheVariants as forms
use Rattle.proclang_forms.specs.declared.expr_forms.Section.{Section}
use Rattle.proclang_forms.specs.declared.expr_forms.Section.TheVariants as sections
use Rattle.proclang_forms.specs.Operators.{operator_of}

-- what one level of an expression is, with its parts
pub data Form : Type 0 where
  number_form : ℤ → Form
  literal_form : List ℕ → Form
  variable_form : List ℕ → Form
  not_form : Data → Form
  binary_form : Operator → Data → Data → Form
  -- table, KEY
  exists_form : List ℕ → Data → Form
  -- table, PART
  count_form : List ℕ → Data → Form
  -- table, PART, column
  sum_form : List ℕ → Data → List ℕ → Form

abbrev pub form_view : ExprForm → Form
form_view (forms.Number z) = number_form z
form_view (forms.Literal s) = literal_form s.now
form_view (forms.Variable s) = variable_form s.now
form_view (forms.Not a) = not_form (view a.now)
form_view (forms.Binary b) = binary_form b.operator (view b.left.now) (view b.right.now)
form_view (forms.Exists e) = exists_form e.table.now (view e.key.now)
form_view (forms.Count c) = count_form c.table.now (view c.number.now)
form_view (forms.Sum s) = sum_form s.table.now (view s.number.now) s.column.now

-- ---- what comes after each head word

-- a text
unfoldable pub literal_form_of : List Data → Option Form
literal_form_of (text ∷ []) = option_map literal_form (as_str text)
literal_form_of parts = None

unfoldable pub not_form_of : List Data → Option Form
not_form_of (a ∷ []) = Some (not_form a)
not_form_of parts = None

-- table, KEY
unfoldable pub exists_form_of : List Data → Option Form
exists_form_of (table ∷ key ∷ []) = option_map (λ (t : List ℕ). exists_form t key) (as_str table)
exists_form_of parts = None

-- table, PART
unfoldable pub count_form_of : List Data → Option Form
count_form_of (table ∷ part ∷ []) = option_map (λ (t : List ℕ). count_form t part) (as_str table)
count_form_of parts = None

-- table, PART, column
unfoldable pub sum_form_of : List Data → Option Form
sum_form_of (table ∷ part ∷ column ∷ []) =
    option_and_then (λ (t : List ℕ).
    option_map (λ (c : List ℕ). sum_form t part c) (as_str column))
    (as_str table)
sum_form_of parts = None

-- the two operands of an operator
unfoldable pub operands_form : List ℕ → List Data → Option Form
operands_form word (a ∷ b ∷ []) = option_map (λ (op : Operator). binary_form op a b) (operator_of word)
operands_form word parts = None

-- what comes after a head word
unfoldable pub call_form : List ℕ → List Data → Option Form
call_form word parts =
    if bytes_eq word (codes "text") then literal_form_of parts else
    (if bytes_eq word (codes "not") then not_form_of parts else
    (if bytes_eq word (codes "exists") then exists_form_of parts else
    (if bytes_eq word (codes "count") then count_form_of parts else
    (if bytes_eq word (codes "sum") then sum_form_of parts else operands_form word parts))))

abbrev pub calls_form : List Data → Option Form
calls_form [] = None
calls_form (head ∷ parts) = option_and_then (λ word. call_form word parts) (as_str head)

-- a number, a variable's name, or a head word with its parts
abbrev pub expr_form : Data → Option Form
expr_form (number n) = option_map number_form (as_i64 n)
expr_form (string s) = Some (variable_form s)
expr_form (array ds) = calls_form (list_of ds)
expr_form d = None

-- ---- sections

-- the section is the body
abbrev pub is_body : Section → Bool
is_body sections.Footprint = false
is_body sections.Body = true

-- whether an expression of that form may be in a section: those of a footprint read no rows
abbrev pub is_allowed : Section → Form → Bool
is_allowed section (exists_form table key) = is_body section
is_allowed section (count_form table part) = is_body section
is_allowed section (sum_form table part column) = is_body section
is_allowed section form = true

-- the form of an expression in a section
unfoldable pub form_in : Section → Data → Option Form
form_in section d = option_and_then (λ (form : Form). if is_allowed section form then Some form else None) (expr_form d)
