-- What is read is a statement without blocks that the document says, and such a statement is read.
use Rattle.std.proofs.Common.{◌≡◌, ◌≤◌, ℕ, ℤ, pos, negsuc, ◌+◌, Bool, true, false, leb, List, [], ◌∷◌, ◌++◌, length, map, Some, Ok, refl, sym, ap, ◌∙◌, subst, append_assoc}
use Rattle.std.proofs.lemmas.Bool.{leb-true, le-leb}
use Rattle.std.proofs.lemmas.List.{append-nil}
use Rattle.serde_json.specs.Data.{Data}
use Rattle.documents.proofs.Steps.{bind_ok, formed_ok}
use Rattle.values.specs.declared.value.ColType.{ColType}
use Rattle.catalogue.specs.Places.{table_named}
use Rattle.catalogue.specs.Rules.{Says}
use Rattle.catalogue.specs.Shapes.{TableShape}
use Rattle.proclang_types.specs.Syntax.{ExprSyntax, ValueSyntax, StmtSyntax, assign, get, put, delete_row, abort, reply}
use Rattle.proclang_types.specs.Typing.{kind_of}
use Rattle.proclang_expressions.specs.declared.fault.FaultKind.TheVariants.{UnknownTable, UnknownColumn}
use Rattle.proclang_expressions.specs.declared.fault.ProcFault.TheVariants.{At}
use Rattle.proclang_forms.specs.declared.expr_forms.Section.TheVariants as sections
use Rattle.proclang_expressions.specs.Seen.{Seen, found_in}
use Rattle.proclang_expressions.specs.Walk.{each_from, appended, at_most}
use Rattle.proclang_expressions.specs.Lookups.{table_called, column_in, column_called}
use Rattle.proclang_expressions.specs.Targets.{target_at, bound}
use Rattle.proclang_expressions.specs.Expressions.{deepest, as_int, as_value, statement_expr}
use Rattle.proclang_forms.specs.StmtForms.{LetParts, GetParts, PutParts, DeleteParts}
use Rattle.proclang_expressions.specs.Values.{of_type, exprs_at, values_at}
use Rattle.proclang.specs.Statements.{let_at, get_at, put_at, delete_at, abort_at, reply_at}
use Rattle.proclang_expressions.specs.SaysExpressions.{SaysExpr, as_expr, SaysValue}
use Rattle.proclang_expressions.specs.SaysTargets.{Gets}
use Rattle.proclang.specs.SaysStatements.{SaysLet, SaysGet, SaysPut, SaysDelete}
use Rattle.proclang_expressions.proofs.SaidExpressions.{value_found, value_again}
use Rattle.proclang_expressions.proofs.TypedParts.{typed_is}
use Rattle.proclang_expressions.proofs.SaidParts.{ok_is, few_found, few_again, int_said, value_said, int_read, value_read, same_again, gets_found, gets_again, exprs_found, exprs_read, values_said, exprs_said}

-- ---- let

pub let_found : (tables : List TableShape) (path : List ℕ) (scope : List Seen) (form : LetParts) (r : StmtSyntax × List Seen) → let_at tables path scope form ≡ Ok r → SaysLet tables scope form r.0 r.1
unfolding let_at
let_found tables path scope form r e =
    let target = bind_ok (target_at (path ++ 1 ∷ []) scope form.variable) _ r e in
    let expr = bind_ok (statement_expr tables (path ++ 2 ∷ []) scope form.value) _ r target.2 in
    let value = bind_ok (as_value (path ++ 2 ∷ []) expr.0) _ r expr.2 in
    let variable = bind_ok (bound (path ++ 2 ∷ []) scope form.variable (kind_of value.0) target.0) _ r value.2 in
    let is : (assign variable.0.0 value.0, variable.0.1) ≡ r = (let h = variable.2 in cc) in
    let gets = gets_found (path ++ 1 ∷ []) (path ++ 2 ∷ []) scope form.variable (kind_of value.0) (found_in form.variable scope) target.0 variable.0 refl target.1 variable.1 in
    record {
      place = variable.0.0;
      value = value.0;
      is_value = value_said tables (path ++ 2 ∷ []) scope form.value expr.0 value.0 expr.1 value.1;
      gets = subst (Gets scope form.variable (kind_of value.0) variable.0.0) (ap (λ (p : StmtSyntax × List Seen). p.1) is) gets;
      is = sym (ap (λ (p : StmtSyntax × List Seen). p.0) is);
    }

pub let_again : (tables : List TableShape) (path : List ℕ) (scope : List Seen) (form : LetParts) (s : StmtSyntax) (after : List Seen) → SaysLet tables scope form s after → let_at tables path scope form ≡ Ok (s, after)
unfolding let_at
let_again tables path scope form s after h =
    let got = gets_again (path ++ 1 ∷ []) (path ++ 2 ∷ []) scope form.variable (kind_of h.value) h.place after h.gets in
    rw (got.1, value_read tables (path ++ 2 ∷ []) scope form.value h.value h.is_value, value_again (path ++ 2 ∷ []) h.value, got.2) (ap (λ (x : StmtSyntax). Ok (x, after)) (sym h.is))

-- ---- get and put

pub get_found : (tables : List TableShape) (path : List ℕ) (scope : List Seen) (form : GetParts) (r : StmtSyntax × List Seen) → get_at tables path scope form ≡ Ok r → SaysGet tables scope form r.0 r.1
unfolding get_at
get_found tables path scope form r e =
    let target = bind_ok (target_at (path ++ 1 ∷ []) scope form.variable) _ r e in
    let table = bind_ok (table_called (path ++ 2 ∷ []) tables form.table) _ r target.2 in
    let expr = bind_ok (statement_expr tables (path ++ 3 ∷ []) scope form.key) _ r table.2 in
    let column = bind_ok (column_called (path ++ 4 ∷ []) tables table.0 form.column) _ r expr.2 in
    let key = bind_ok (as_int (path ++ 3 ∷ []) expr.0) _ r column.2 in
    let variable = bind_ok (bound (path ++ 4 ∷ []) scope form.variable column.0.1 target.0) _ r key.2 in
    let is : (get variable.0.0 table.0 key.0 column.0.0, variable.0.1) ≡ r = (let h = variable.2 in cc) in
    let gets = gets_found (path ++ 1 ∷ []) (path ++ 4 ∷ []) scope form.variable column.0.1 (found_in form.variable scope) target.0 variable.0 refl target.1 variable.1 in
    record {
      place = variable.0.0;
      table = table.0;
      key = key.0;
      column = column.0.0;
      kind = column.0.1;
      is_table = formed_ok (At UnknownTable (path ++ 2 ∷ [])) (table_named tables form.table) table.0 table.1;
      is_key = int_said tables (path ++ 3 ∷ []) scope form.key expr.0 key.0 expr.1 key.1;
      is_column = formed_ok (At UnknownColumn (path ++ 4 ∷ [])) (column_in tables table.0 form.column) column.0 column.1;
      gets = subst (Gets scope form.variable column.0.1 variable.0.0) (ap (λ (p : StmtSyntax × List Seen). p.1) is) gets;
      is = sym (ap (λ (p : StmtSyntax × List Seen). p.0) is);
    }

pub get_again : (tables : List TableShape) (path : List ℕ) (scope : List Seen) (form : GetParts) (s : StmtSyntax) (after : List Seen) → SaysGet tables scope form s after → get_at tables path scope form ≡ Ok (s, after)
unfolding get_at
get_again tables path scope form s after h =
    let got = gets_again (path ++ 1 ∷ []) (path ++ 4 ∷ []) scope form.variable h.kind h.place after h.gets in
    rw (got.1, h.is_table, int_read tables (path ++ 3 ∷ []) scope form.key h.key h.is_key, h.is_column, got.2) (ap (λ (x : StmtSyntax). Ok (x, after)) (sym h.is))

pub put_found : (tables : List TableShape) (path : List ℕ) (scope : List Seen) (form : PutParts) (s : StmtSyntax) → put_at tables path scope form ≡ Ok s → SaysPut tables scope form s
unfolding put_at
put_found tables path scope form s e =
    let table = bind_ok (table_called (path ++ 1 ∷ []) tables form.table) _ s e in
    let k = bind_ok (statement_expr tables (path ++ 2 ∷ []) scope form.key) _ s table.2 in
    let column = bind_ok (column_called (path ++ 3 ∷ []) tables table.0 form.column) _ s k.2 in
    let x = bind_ok (statement_expr tables (path ++ 4 ∷ []) scope form.value) _ s column.2 in
    let key = bind_ok (as_int (path ++ 2 ∷ []) k.0) _ s x.2 in
    let v = bind_ok (as_value (path ++ 4 ∷ []) x.0) _ s key.2 in
    let value = bind_ok (of_type (path ++ 4 ∷ []) column.0.1 v.0) _ s v.2 in
    let typed = typed_is (path ++ 4 ∷ []) column.0.1 v.0 value.0 value.1 in
    let is : put table.0 key.0 column.0.0 value.0 ≡ s = ok_is (put table.0 key.0 column.0.0 value.0) s value.2 in
    let column_is : column_in tables table.0 form.column ≡ Some column.0 = formed_ok (At UnknownColumn (path ++ 3 ∷ [])) (column_in tables table.0 form.column) column.0 column.1 in
    record {
      table = table.0;
      key = key.0;
      column = column.0.0;
      value = value.0;
      is_table = formed_ok (At UnknownTable (path ++ 1 ∷ [])) (table_named tables form.table) table.0 table.1;
      is_key = int_said tables (path ++ 2 ∷ []) scope form.key k.0 key.0 k.1 key.1;
      is_column = column_is ∙ ap (λ (kind : ColType). Some (column.0.0, kind)) (sym typed.1);
      is_value = subst (SaysValue tables scope form.value) typed.0 (value_said tables (path ++ 4 ∷ []) scope form.value x.0 v.0 x.1 v.1);
      is = sym is;
    }

pub put_again : (tables : List TableShape) (path : List ℕ) (scope : List Seen) (form : PutParts) (s : StmtSyntax) → SaysPut tables scope form s → put_at tables path scope form ≡ Ok s
unfolding put_at
put_again tables path scope form s h =
    rw (h.is_table, int_read tables (path ++ 2 ∷ []) scope form.key h.key h.is_key, h.is_column, value_read tables (path ++ 4 ∷ []) scope form.value h.value h.is_value, value_again (path ++ 4 ∷ []) h.value, same_again (kind_of h.value))
    (ap (λ (x : StmtSyntax). Ok x) (sym h.is))

-- ---- delete

pub delete_found : (tables : List TableShape) (path : List ℕ) (scope : List Seen) (form : DeleteParts) (s : StmtSyntax) → delete_at tables path scope form ≡ Ok s → SaysDelete tables scope form s
unfolding delete_at
delete_found tables path scope form s e =
    let table = bind_ok (table_called (path ++ 1 ∷ []) tables form.table) _ s e in
    let k = bind_ok (statement_expr tables (path ++ 2 ∷ []) scope form.key) _ s table.2 in
    let key = bind_ok (as_int (path ++ 2 ∷ []) k.0) _ s k.2 in
    let is : delete_row table.0 key.0 ≡ s = ok_is (delete_row table.0 key.0) s key.2 in
    record {
      table = table.0;
      key = key.0;
      is_table = formed_ok (At UnknownTable (path ++ 1 ∷ [])) (table_named tables form.table) table.0 table.1;
      is_key = int_said tables (path ++ 2 ∷ []) scope form.key k.0 key.0 k.1 key.1;
      is = sym is;
    }

pub delete_again : (tables : List TableShape) (path : List ℕ) (scope : List Seen) (form : DeleteParts) (s : StmtSyntax) → SaysDelete tables scope form s → delete_at tables path scope form ≡ Ok s
unfolding delete_at
delete_again tables path scope form s h = rw (h.is_table, int_read tables (path ++ 2 ∷ []) scope form.key h.key h.is_key) (ap (λ (x : StmtSyntax). Ok x) (sym h.is))

-- ---- abort

pub abort_found : (path : List ℕ) (z : ℤ) (s : StmtSyntax) → abort_at path z ≡ Ok s → (n : ℕ) × (z ≡ pos n) × (100 ≤ n) × (n ≤ 65535) × (s ≡ abort n)
unfolding abort_at
abort_found path (negsuc n) s e = absurd cc
abort_found path (pos n) s e = by (leb 100 n) (leb n 65535) refl refl
  where
    by : (a b : Bool) → leb 100 n ≡ a → leb n 65535 ≡ b → (m : ℕ) × (pos n ≡ pos m) × (100 ≤ m) × (m ≤ 65535) × (s ≡ abort m)
    by true true p q = let h = rw (p, q) at e in let is : abort n ≡ s = cc in (n, refl, leb-true 100 n p, leb-true n 65535 q, sym is)
    by true false p q = absurd (let h = rw (p, q) at e in cc)
    by false b p q = absurd (let h = rw p at e in cc)

pub abort_again : (path : List ℕ) (z : ℤ) (s : StmtSyntax) → ((n : ℕ) × (z ≡ pos n) × (100 ≤ n) × (n ≤ 65535) × (s ≡ abort n)) → abort_at path z ≡ Ok s
unfolding abort_at
abort_again path z s h = rw (h.1, le-leb 100 h.0 h.2, le-leb h.0 65535 h.3) (ap (λ (x : StmtSyntax). Ok x) (sym h.4))

-- ---- reply

values_found : (path : List ℕ) (place : ℕ) (before : List ValueSyntax) (es : List ExprSyntax) (all : List ValueSyntax) → each_from (λ p b e. appended b (as_value p e)) path place before es ≡ Ok all → (new : List ValueSyntax) × (all ≡ before ++ new) × (es ≡ map as_expr new)
values_found path place before [] all e = let is : before ≡ all = cc in ([], sym is ∙ sym (append-nil before), refl)
values_found path place before (x ∷ es) all e =
    let p = path ++ place ∷ [] in
    let step = bind_ok (appended before (as_value p x)) _ all e in
    let v = bind_ok (as_value p x) _ step.0 step.1 in
    let is : before ++ v.0 ∷ [] ≡ step.0 = (let g = v.2 in cc) in
    let others = values_found path (place + 1) step.0 es all step.2 in
    (v.0 ∷ others.0, others.1 ∙ ap (λ (xs : List ValueSyntax). xs ++ others.0) (sym is) ∙ append_assoc before (v.0 ∷ []) others.0, both x v.0 es others.0 (value_found p x v.0 v.1) others.2)
  where
    both : (x : ExprSyntax) (v : ValueSyntax) (es : List ExprSyntax) (vs : List ValueSyntax) → x ≡ as_expr v → es ≡ map as_expr vs → x ∷ es ≡ as_expr v ∷ map as_expr vs
    both x v es vs p q = rw (p, q) refl

values_read : (path : List ℕ) (place : ℕ) (before vs : List ValueSyntax) → each_from (λ p b e. appended b (as_value p e)) path place before (map as_expr vs) ≡ Ok (before ++ vs)
values_read path place before [] = ap (λ (ys : List ValueSyntax). Ok ys) (sym (append-nil before))
values_read path place before (v ∷ vs) =
    rw (value_again (path ++ place ∷ []) v) (values_read path (place + 1) (before ++ v ∷ []) vs ∙ ap (λ (ys : List ValueSyntax). Ok ys) (append_assoc before (v ∷ []) vs))

abbrev pub IsReply : List TableShape → List Seen → List Data → StmtSyntax → Type 0
IsReply tables scope ds s = (vs : List ValueSyntax) × (length ds ≤ 64) × Says (SaysValue tables scope) ds vs × (s ≡ reply vs)

pub reply_found : (tables : List TableShape) (path : List ℕ) (scope : List Seen) (ds : List Data) (s : StmtSyntax) → reply_at tables path scope ds ≡ Ok s → IsReply tables scope ds s
unfolding reply_at
reply_found tables path scope ds s e =
    let few = bind_ok (at_most path 64 ds) _ s e in
    let es = bind_ok (exprs_at tables path 1 scope ds) _ s few.2 in
    let vs = bind_ok (values_at path es.0) _ s es.2 in
    let is : reply vs.0 ≡ s = (let h = vs.2 in cc) in
    let values = values_found path 1 [] es.0 vs.0 vs.1 in
    let same : es.0 ≡ map as_expr vs.0 = values.2 ∙ ap (map as_expr) (sym values.1) in
    (vs.0, few_found path 64 ds few.0 few.1, values_said tables scope ds vs.0 (subst (Says (SaysExpr sections.Body tables deepest scope) ds) same (exprs_found tables path 1 scope ds es.0 es.1)), sym is)

pub reply_again : (tables : List TableShape) (path : List ℕ) (scope : List Seen) (ds : List Data) (s : StmtSyntax) → IsReply tables scope ds s → reply_at tables path scope ds ≡ Ok s
unfolding reply_at
reply_again tables path scope ds s h =
    let exprs : exprs_at tables path 1 scope ds ≡ Ok (map as_expr h.0) = exprs_read tables path 1 scope ds (map as_expr h.0) (exprs_said tables scope ds h.0 h.2) in
    let values : values_at path (map as_expr h.0) ≡ Ok h.0 = values_read path 1 [] h.0 in
    rw (few_again path 64 ds h.1, exprs, values) (ap (λ (x : StmtSyntax). Ok x) (sym h.3))
