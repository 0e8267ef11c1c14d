-- Procedures that a document says store values that columns can hold.
use Rattle.std.proofs.Common.{inl, inr, ℕ, zero, suc, List, [], ◌∷◌, sym, subst}
use Rattle.std.specs.Prelude.{⊤}
use Rattle.std.specs.List.{AllByRecursion}
use Rattle.serde_json.specs.Data.{Data}
use Rattle.values.specs.declared.value.ColType.{ColType}
use Rattle.values.specs.declared.value.ColType.TheVariants as types
use Rattle.values.specs.declared.value.Value.TheVariants.{Text}
use Rattle.catalogue.specs.Rules.{Says}
use Rattle.catalogue.specs.Shapes.{TableShape}
use Rattle.proclang_types.specs.Syntax.{IntSyntax, ExprSyntax, int, text, bool, literal, text_variable, ValueSyntax, int_value, text_value, StmtSyntax, ProcSyntax, block_of}
use Rattle.proclang_forms.specs.declared.operator.Operator.{Operator}
use Rattle.proclang_forms.specs.declared.operator.Operator.TheVariants.{Arithmetic, Less, AtMost, Same, And, Or}
use Rattle.proclang_forms.specs.declared.expr_forms.Section.{Section}
use Rattle.proclang_forms.specs.declared.expr_forms.Section.TheVariants as sections
use Rattle.proclang_forms.specs.ExprForms.{Form, number_form, literal_form, variable_form, not_form, binary_form, exists_form, count_form, sum_form}
use Rattle.proclang_forms.specs.Spells.{SpellsExpr, SpellsStatement}
use Rattle.proclang_forms.specs.StmtForms.{StatementForm, let_parts, get_parts, put_parts, insert_parts, delete_parts, if_parts, for_parts, each_parts, abort_code, reply_values}
use Rattle.proclang_expressions.specs.Expressions.{deepest, variable_syntax}
use Rattle.proclang_expressions.specs.SaysExpressions.{Applies, SaysExpr, SaysForm, SaysInt, SaysValue}
use Rattle.proclang_expressions.specs.Seen.{Seen}
use Rattle.proclang.specs.Says.{SaysProc, SaysProcs}
use Rattle.proclang.specs.SaysStatements.{SaysBlock, SaysStatementForm, SaysStatements}
use Rattle.rows_document.specs.Said.{IsValue}
use Rattle.moved_rows.specs.Stored.{AllStoreValues, HasInts, HasValues, StoresValues}
use Rattle.moved_rows.proofs.Documents.{each_sound, integer_in_range}
use Rattle.moved_rows.proofs.JsonData.{IsSound}

-- ---- expressions

abbrev HasExpr : ExprSyntax → Type 0
HasExpr (int e) = HasInts e
HasExpr (text (literal s)) = IsValue (Text s)
HasExpr (text (text_variable place)) = ⊤
HasExpr (bool e) = ⊤

variable_has : (kind : ColType) (place : ℕ) → HasExpr (variable_syntax kind place)
variable_has types.Int place = tt
variable_has types.Text place = tt

applied_has : (op : Operator) (x y e : ExprSyntax) → HasExpr x → HasExpr y → Applies op x y e → HasExpr e
applied_has (Arithmetic op) x y e a b h = subst HasExpr (sym h.4) (subst HasExpr h.2 a, subst HasExpr h.3 b)
applied_has Less x y e a b h = subst HasExpr (sym h.4) tt
applied_has AtMost x y e a b h = subst HasExpr (sym h.4) tt
applied_has (Same test) x y e a b (inl h) = subst HasExpr (sym h.4) tt
applied_has (Same test) x y e a b (inr h) = subst HasExpr (sym h.4) tt
applied_has And x y e a b h = subst HasExpr (sym h.4) tt
applied_has Or x y e a b h = subst HasExpr (sym h.4) tt

module _ (tables : List TableShape) (part : Data → ExprSyntax → Type 0) (has : (d : Data) (e : ExprSyntax) → IsSound d → part d e → HasExpr e) where
  form_has : (scope : List Seen) (form : Form) (d : Data) (e : ExprSyntax) → IsSound d → SpellsExpr d form → SaysForm tables part scope form e → HasExpr e
  form_has scope (number_form z) d e sound spells h = subst HasExpr (sym h) (integer_in_range d z sound spells)
  form_has scope (literal_form s) d e sound spells h = let parts = subst IsSound spells sound in subst HasExpr (sym h.1) (parts.1.0, h.0)
  form_has scope (variable_form name) d e sound spells h = subst HasExpr (sym h.2) (variable_has h.0.kind h.0.place)
  form_has scope (not_form a) d e sound spells h = subst HasExpr (sym h.2) tt
  form_has scope (binary_form op a b) d e sound spells h =
      let parts = subst IsSound spells sound in
      applied_has op h.0 h.1 e (has a h.0 parts.1.0 h.2) (has b h.1 parts.1.1.0 h.3) h.4
  form_has scope (exists_form table key) d e sound spells h = subst HasExpr (sym h.4) tt
  form_has scope (count_form table partition) d e sound spells h = subst HasExpr (sym h.4) tt
  form_has scope (sum_form table partition column) d e sound spells h = subst HasExpr (sym h.6) tt

expr_has : (section : Section) (tables : List TableShape) (levels : ℕ) (scope : List Seen) (d : Data) (e : ExprSyntax) → IsSound d → SaysExpr section tables levels scope d e → HasExpr e
expr_has section tables zero scope d e sound h = absurd h
expr_has section tables (suc levels) scope d e sound h = form_has tables (SaysExpr section tables levels scope) (expr_has section tables levels scope) scope h.0 d e sound h.1 h.3

int_has : (tables : List TableShape) (scope : List Seen) (d : Data) (e : IntSyntax) → IsSound d → SaysInt tables scope d e → HasInts e
int_has tables scope d e sound h = expr_has sections.Body tables deepest scope d (int e) sound h

value_has : (tables : List TableShape) (scope : List Seen) (d : Data) (v : ValueSyntax) → IsSound d → SaysValue tables scope d v → HasValues v
value_has tables scope d (int_value e) sound h = expr_has sections.Body tables deepest scope d (int e) sound h
value_has tables scope d (text_value (literal s)) sound h = expr_has sections.Body tables deepest scope d (text (literal s)) sound h
value_has tables scope d (text_value (text_variable place)) sound h = tt

values_have : (tables : List TableShape) (scope : List Seen) (ds : List Data) (vs : List ValueSyntax) → AllByRecursion IsSound ds → Says (SaysValue tables scope) ds vs → AllByRecursion HasValues vs
values_have tables scope [] [] sound h = tt
values_have tables scope [] (v ∷ vs) sound h = absurd h
values_have tables scope (d ∷ ds) [] sound h = absurd h
values_have tables scope (d ∷ ds) (v ∷ vs) sound h = (value_has tables scope d v sound.0 h.0, values_have tables scope ds vs sound.1 h.1)

-- ---- statements

module _ (tables : List TableShape) (block : List Seen → Data → List StmtSyntax → Type 0) (stores : (scope : List Seen) (d : Data) (ss : List StmtSyntax) → IsSound d → block scope d ss → AllStoreValues (block_of ss)) where
  form_stores : (scope after : List Seen) (form : StatementForm) (d : Data) (s : StmtSyntax) → IsSound d → SpellsStatement d form → SaysStatementForm tables block scope form s after → StoresValues s
  form_stores scope after (let_parts form) d s sound spells h =
      let parts = subst IsSound spells sound in subst StoresValues (sym h.is) (value_has tables scope form.value h.value parts.1.1.0 h.is_value)
  form_stores scope after (get_parts form) d s sound spells h = subst StoresValues (sym h.is) tt
  form_stores scope after (put_parts form) d s sound spells h =
      let parts = subst IsSound spells sound in subst StoresValues (sym h.0.is) (value_has tables scope form.value h.0.value parts.1.1.1.1.0 h.0.is_value)
  form_stores scope after (insert_parts form) d s sound spells h =
      let parts = subst IsSound spells sound in
      subst StoresValues (sym h.0.is) (int_has tables scope form.key h.0.key parts.1.1.0 h.0.is_key, values_have tables scope form.values h.0.values (each_sound form.values parts.1.1.1.0) h.0.are_values)
  form_stores scope after (delete_parts form) d s sound spells h = subst StoresValues (sym h.0.is) tt
  form_stores scope after (if_parts form) d s sound spells h =
      let parts = subst IsSound spells sound in
      subst StoresValues (sym h.0.is) (stores scope form.first h.0.first parts.1.1.0 h.0.is_first, stores scope form.second h.0.second parts.1.1.1.0 h.0.is_second)
  form_stores scope after (for_parts form) d s sound spells h =
      let parts = subst IsSound spells sound in
      subst StoresValues (sym h.0.is) (int_has tables scope form.low h.0.low parts.1.1.0 h.0.is_low, int_has tables scope form.high h.0.high parts.1.1.1.0 h.0.is_high, stores _ form.body h.0.body parts.1.1.1.1.0 h.0.is_body)
  form_stores scope after (each_parts form) d s sound spells h =
      let parts = subst IsSound spells sound in subst StoresValues (sym h.0.is) (stores _ form.body h.0.body parts.1.1.1.1.0 h.0.is_body)
  form_stores scope after (abort_code z) d s sound spells h = subst StoresValues (sym h.4) tt
  form_stores scope after (reply_values ds) d s sound spells h = subst StoresValues (sym h.3) tt

  statements_store : (scope : List Seen) (ds : List Data) (ss : List StmtSyntax) → AllByRecursion IsSound ds → SaysStatements tables block scope ds ss → AllStoreValues (block_of ss)
  statements_store scope [] [] sound h = tt
  statements_store scope [] (s ∷ ss) sound h = absurd h
  statements_store scope (d ∷ ds) [] sound h = absurd h
  statements_store scope (d ∷ ds) (s ∷ ss) sound h = (form_stores scope h.0 h.1.0 d s sound.0 h.1.1 h.1.2, statements_store h.0 ds ss sound.1 h.2)

block_stores : (tables : List TableShape) (levels : ℕ) (scope : List Seen) (d : Data) (ss : List StmtSyntax) → IsSound d → SaysBlock tables levels scope d ss → AllStoreValues (block_of ss)
block_stores tables zero scope d ss sound h = absurd h
block_stores tables (suc levels) scope d ss sound h =
    statements_store tables (SaysBlock tables levels) (block_stores tables levels) scope h.0 ss (each_sound h.0 (subst IsSound h.1 sound)) h.3

-- ---- procedures

abbrev Stores : ProcSyntax → Type 0
Stores p = AllStoreValues (block_of p.body)

proc_stores : (tables : List TableShape) (d : Data) (p : ProcSyntax) → IsSound d → SaysProc tables d p → Stores p
proc_stores tables d p sound h = let parts = subst IsSound h.is_form sound in block_stores tables deepest _ h.form.body p.body parts.1.1.1.0 h.body

all_store : (tables : List TableShape) (ds : List Data) (ps : List ProcSyntax) → AllByRecursion IsSound ds → Says (SaysProc tables) ds ps → AllByRecursion Stores ps
all_store tables [] [] sound h = tt
all_store tables [] (p ∷ ps) sound h = absurd h
all_store tables (d ∷ ds) [] sound h = absurd h
all_store tables (d ∷ ds) (p ∷ ps) sound h = (proc_stores tables d p sound.0 h.0, all_store tables ds ps sound.1 h.1)

pub procs_store : (tables : List TableShape) (d : Data) (ps : List ProcSyntax) → IsSound d → SaysProcs tables d ps → AllByRecursion (λ (p : ProcSyntax). AllStoreValues (block_of p.body)) ps
procs_store tables d ps sound h = let parts = subst IsSound h.is_form sound in all_store tables h.list ps (each_sound h.list parts.1.1.0) h.are
