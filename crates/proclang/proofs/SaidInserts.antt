-- What is read is an insert that the document says, and such an insert is read.
use Rattle.std.proofs.Common.{◌≡◌, ℕ, ◌+◌, eqb, List, [], ◌∷◌, ◌++◌, length, map, Option, Some, unwrap_or, Ok, refl, sym, ap, ◌∙◌, subst, append_assoc, arith}
use Rattle.std.specs.List.{zip}
use Rattle.std.proofs.lemmas.Bool.{eq-eqb, eqb-true}
use Rattle.std.proofs.lemmas.List.{append-nil, length-map}
use Rattle.documents.proofs.Steps.{bind_ok, rule_ok, formed_ok}
use Rattle.values.specs.declared.value.ColType.{ColType}
use Rattle.catalogue.specs.Places.{table_named}
use Rattle.catalogue.specs.Rules.{Says}
use Rattle.catalogue.specs.Shapes.{TableShape}
use Rattle.proclang_types.specs.Syntax.{ExprSyntax, ValueSyntax, StmtSyntax, insert_row}
use Rattle.proclang_types.specs.Typing.{kind_of}
use Rattle.proclang_expressions.specs.declared.fault.FaultKind.TheVariants.{Shape, UnknownTable}
use Rattle.proclang_expressions.specs.declared.fault.ProcFault.TheVariants.{At}
use Rattle.proclang_forms.specs.declared.expr_forms.Section.TheVariants as sections
use Rattle.proclang_expressions.specs.Seen.{Seen}
use Rattle.proclang_expressions.specs.Walk.{each_from, appended}
use Rattle.proclang_expressions.specs.Lookups.{table_called}
use Rattle.proclang_expressions.specs.Expressions.{deepest, as_int, as_value, statement_expr}
use Rattle.proclang_forms.specs.StmtForms.{InsertParts}
use Rattle.proclang_expressions.specs.Values.{exprs_at, stored_at, row_values_at, kinds_in}
use Rattle.proclang.specs.Statements.{insert_at}
use Rattle.proclang_expressions.specs.SaysExpressions.{SaysExpr, as_expr, SaysValue}
use Rattle.proclang.specs.SaysStatements.{SaysInsert}
use Rattle.proclang_expressions.proofs.SaidExpressions.{value_found, value_again}
use Rattle.proclang_expressions.proofs.TypedExpressions.{table_there}
use Rattle.proclang_expressions.proofs.TypedParts.{typed_is}
use Rattle.proclang_expressions.proofs.SaidParts.{ok_is, int_said, int_read, same_again, exprs_found, exprs_read, values_said, exprs_said, said_many}
use Rattle.proclang.proofs.TypedStatements.{kinds_there, exprs_count}

-- the values that are read are the expressions, and have the columns' types
record RowFound (columns : List ColType) (es : List ExprSyntax) (all before : List ValueSyntax) : Type 0 where
  new : List ValueSyntax
  is : all ≡ before ++ new
  values : es ≡ map as_expr new
  typed : map kind_of new ≡ columns

row_found : (path : List ℕ) (place : ℕ) (before : List ValueSyntax) (columns : List ColType) (es : List ExprSyntax) (all : List ValueSyntax) → length es ≡ length columns
    → each_from (λ p b c. appended b (stored_at p c.0 c.1)) path place before (zip columns es) ≡ Ok all → RowFound columns es all before
row_found path place before [] [] all many e = let is : before ≡ all = cc in record { new = []; is = sym is ∙ sym (append-nil before); values = refl; typed = refl }
row_found path place before [] (x ∷ es) all many e = absurd (omega (arith, many))
row_found path place before (k ∷ columns) [] all many e = absurd (omega (arith, many))
row_found path place before (k ∷ columns) (x ∷ es) all many e =
    let p = path ++ place ∷ [] in
    let step = bind_ok (appended before (stored_at p k x)) _ all e in
    let v = bind_ok (stored_at p k x) _ step.0 step.1 in
    let is : before ++ v.0 ∷ [] ≡ step.0 = (let g = v.2 in cc) in
    let w = bind_ok (as_value p x) _ v.0 v.1 in
    let typed = typed_is p k w.0 v.0 w.2 in
    let value : x ≡ as_expr v.0 = value_found p x w.0 w.1 ∙ ap as_expr typed.0 in
    let others = row_found path (place + 1) step.0 columns es all (omega (arith, many)) step.2 in
    record {
      new = v.0 ∷ others.new;
      is = others.is ∙ ap (λ (vs : List ValueSyntax). vs ++ others.new) (sym is) ∙ append_assoc before (v.0 ∷ []) others.new;
      values = both_exprs x (as_expr v.0) es (map as_expr others.new) value others.values;
      typed = both_types (kind_of v.0) k (map kind_of others.new) columns typed.1 others.typed;
    }
  where
    both_exprs : (a b : ExprSyntax) (xs ys : List ExprSyntax) → a ≡ b → xs ≡ ys → a ∷ xs ≡ b ∷ ys
    both_exprs a b xs ys p q = rw (p, q) refl

    both_types : (a b : ColType) (xs ys : List ColType) → a ≡ b → xs ≡ ys → a ∷ xs ≡ b ∷ ys
    both_types a b xs ys p q = rw (p, q) refl

row_read : (path : List ℕ) (place : ℕ) (before vs : List ValueSyntax) → each_from (λ p b c. appended b (stored_at p c.0 c.1)) path place before (zip (map kind_of vs) (map as_expr vs)) ≡ Ok (before ++ vs)
row_read path place before [] = ap (λ (ys : List ValueSyntax). Ok ys) (sym (append-nil before))
row_read path place before (v ∷ vs) =
    rw (value_again (path ++ place ∷ []) v, same_again (kind_of v)) (row_read path (place + 1) (before ++ v ∷ []) vs ∙ ap (λ (ys : List ValueSyntax). Ok ys) (append_assoc before (v ∷ []) vs))

pub insert_found : (tables : List TableShape) (path : List ℕ) (scope : List Seen) (form : InsertParts) (s : StmtSyntax) → insert_at tables path scope form ≡ Ok s → SaysInsert tables scope form s
unfolding insert_at
insert_found tables path scope form s e =
    let q = path ++ 3 ∷ [] in
    let table = bind_ok (table_called (path ++ 1 ∷ []) tables form.table) _ s e in
    let k = bind_ok (statement_expr tables (path ++ 2 ∷ []) scope form.key) _ s table.2 in
    let many = rule_ok (eqb (length form.values) (length (kinds_in tables table.0))) (At Shape q) _ s k.2 in
    let es = bind_ok (exprs_at tables q 0 scope form.values) _ s many.1 in
    let key = bind_ok (as_int (path ++ 2 ∷ []) k.0) _ s es.2 in
    let vs = bind_ok (row_values_at q (kinds_in tables table.0) es.0) _ s key.2 in
    let is : insert_row table.0 key.0 vs.0 ≡ s = ok_is (insert_row table.0 key.0 vs.0) s vs.2 in
    let count : length form.values ≡ length (kinds_in tables table.0) = eqb-true (length form.values) (length (kinds_in tables table.0)) many.0 in
    let row = row_found q 0 [] (kinds_in tables table.0) es.0 vs.0 (exprs_count tables q 0 scope form.values es.0 es.1 ∙ count) vs.1 in
    let same : es.0 ≡ map as_expr vs.0 = row.values ∙ ap (map as_expr) (sym row.is) in
    record {
      table = table.0;
      key = key.0;
      values = vs.0;
      is_table = formed_ok (At UnknownTable (path ++ 1 ∷ [])) (table_named tables form.table) table.0 table.1;
      is_key = int_said tables (path ++ 2 ∷ []) scope form.key k.0 key.0 k.1 key.1;
      are_values = values_said tables scope form.values vs.0 (subst (Says (SaysExpr sections.Body tables deepest scope) form.values) same (exprs_found tables q 0 scope form.values es.0 es.1));
      kinds = kinds_there tables table.0 (table_there tables (path ++ 1 ∷ []) form.table table.0 table.1) ∙ ap (λ (ks : List ColType). Some ks) (sym row.typed ∙ ap (map kind_of) (sym row.is));
      is = sym is;
    }

pub insert_again : (tables : List TableShape) (path : List ℕ) (scope : List Seen) (form : InsertParts) (s : StmtSyntax) → SaysInsert tables scope form s → insert_at tables path scope form ≡ Ok s
unfolding insert_at
insert_again tables path scope form s h =
    let q = path ++ 3 ∷ [] in
    let kinds : kinds_in tables h.table ≡ map kind_of h.values = ap (λ (o : Option (List ColType)). unwrap_or o []) h.kinds in
    let count : length form.values ≡ length (map kind_of h.values) = said_many (SaysValue tables scope) form.values h.values h.are_values ∙ sym (length-map h.values kind_of) in
    let exprs : exprs_at tables q 0 scope form.values ≡ Ok (map as_expr h.values) = exprs_read tables q 0 scope form.values (map as_expr h.values) (exprs_said tables scope form.values h.values h.are_values) in
    let row : row_values_at q (map kind_of h.values) (map as_expr h.values) ≡ Ok h.values = row_read q 0 [] h.values in
    rw (h.is_table, int_read tables (path ++ 2 ∷ []) scope form.key h.key h.is_key, kinds, eq-eqb (length form.values) (length (map kind_of h.values)) count, exprs, row)
    (ap (λ (x : StmtSyntax). Ok x) (sym h.is))
