-- The fault that reading a statement or a block meets is the first rule that it breaks.
use Rattle.std.proofs.Common.{◌≡◌, ℕ, zero, suc, ◌+◌, leb, List, [], ◌∷◌, ◌++◌, length, Some, Result, Ok, refl, sym, ap, ◌∙◌, subst}
use Rattle.serde_json.specs.Data.{Data}
use Rattle.documents.specs.FirstFault.{IsFirst}
use Rattle.documents.specs.Json.{elements}
use Rattle.documents.specs.Reading.{formed}
use Rattle.documents.proofs.FirstFault.{bind_first, formed_first, ok_first, rule_first}
use Rattle.documents.proofs.Steps.{bind_ok, formed_ok}
use Rattle.catalogue.specs.Places.{table_named}
use Rattle.catalogue.specs.Shapes.{TableShape}
use Rattle.proclang_types.specs.Syntax.{StmtSyntax, choose, for_numbers, for_keys, block_of}
use Rattle.proclang_expressions.specs.declared.fault.FaultKind.TheVariants.{Shape, UnknownTable, Limit}
use Rattle.proclang_expressions.specs.declared.fault.ProcFault.{ProcFault}
use Rattle.proclang_expressions.specs.declared.fault.ProcFault.TheVariants.{At}
use Rattle.proclang_expressions.specs.Faults.{refuse}
use Rattle.proclang_expressions.specs.Seen.{Seen, found_in, seen_in_loop}
use Rattle.proclang_expressions.specs.Walk.{each_from}
use Rattle.proclang_expressions.specs.Lookups.{table_called}
use Rattle.proclang_expressions.specs.Targets.{loop_name_at}
use Rattle.proclang_expressions.specs.Expressions.{as_int, as_bool, statement_expr}
use Rattle.proclang_forms.specs.StmtForms.{IfParts, ForParts, EachParts, StatementForm, let_parts, get_parts, put_parts, insert_parts, delete_parts, if_parts, for_parts, each_parts, abort_code, reply_values, statement_form}
use Rattle.proclang.specs.Statements.{put_at, insert_at, delete_at, abort_at, reply_at, BlockReader, if_at, for_at, each_loop_at, in_scope, form_at, statement_at, next_statement, block_at}
use Rattle.proclang_expressions.specs.BrokenNames.{not_table}
use Rattle.proclang_expressions.specs.BrokenExpressions.{not_int, not_bool, in_statement_expr}
use Rattle.proclang_expressions.specs.BrokenTargets.{in_loop_name}
use Rattle.proclang.specs.BrokenStatements.{in_put, in_insert, in_delete, in_abort, in_reply, BlockRules, in_if, in_for, in_each_loop, in_statement_form, in_statement, seen_after_form, seen_after, in_statements, in_deep_block, in_block_form, in_block}
use Rattle.proclang_expressions.proofs.FirstNames.{found_first}
use Rattle.proclang_expressions.proofs.FirstTypes.{int_first, bool_first}
use Rattle.proclang_expressions.proofs.FirstParts.{statement_expr_first, statement_expr_so, loop_name_first}
use Rattle.proclang.proofs.FirstStatements.{let_first, let_so, get_first, get_so, put_first, insert_first, delete_first, abort_first, reply_first}

alone_first : (scope : List Seen) (r : Result StmtSyntax ProcFault) (fs : List ProcFault) → IsFirst r fs → IsFirst (in_scope scope r) fs
alone_first scope r fs h = ok_first r (λ s. (s, scope)) fs h

alone_so : (scope : List Seen) (read : Result StmtSyntax ProcFault) (r : StmtSyntax × List Seen) → in_scope scope read ≡ Ok r → scope ≡ r.1
alone_so scope read r e =
    let s = bind_ok read _ r e in
    let is : (s.0, scope) ≡ r = (let h = s.2 in cc) in
    ap (λ (p : StmtSyntax × List Seen). p.1) is

module _ (tables : List TableShape) (block : BlockReader) (faults : BlockRules)
    (law : (path : List ℕ) (scope : List Seen) (d : Data) → IsFirst (block path scope d) (faults path scope d)) where
  if_first_of : (path : List ℕ) (scope : List Seen) (form : IfParts) → IsFirst (if_at tables block path scope form) (in_if tables faults path scope form)
  unfolding if_at
  if_first_of path scope form =
      let p = path ++ 1 ∷ [] in
      let kind = not_bool p scope form.test in
      let first = faults (path ++ 2 ∷ []) scope form.first in
      let second = faults (path ++ 3 ∷ []) scope form.second in
      bind_first (statement_expr tables p scope form.test) _ (in_statement_expr tables p scope form.test) (first ++ (second ++ kind)) (statement_expr_first tables p scope form.test) (λ e e_is.
      bind_first (block (path ++ 2 ∷ []) scope form.first) _ first (second ++ kind) (law (path ++ 2 ∷ []) scope form.first) (λ x _.
      bind_first (block (path ++ 3 ∷ []) scope form.second) _ second kind (law (path ++ 3 ∷ []) scope form.second) (λ y _.
      ok_first (as_bool p e) (λ t. choose t (block_of x) (block_of y)) kind (bool_first p scope form.test e (statement_expr_so tables p scope form.test e e_is)))))

  for_first : (path : List ℕ) (scope : List Seen) (form : ForParts) → IsFirst (for_at tables block path scope form) (in_for tables faults path scope form)
  unfolding for_at
  for_first path scope form =
      let p = path ++ 2 ∷ [] in
      let q = path ++ 3 ∷ [] in
      let r = path ++ 4 ∷ [] in
      let inner = seen_in_loop scope form.variable in
      let low = in_statement_expr tables p scope form.low in
      let high = in_statement_expr tables q scope form.high in
      let body = faults r inner form.body in
      let low_kind = not_int p scope form.low in
      let high_kind = not_int q scope form.high in
      bind_first (loop_name_at (path ++ 1 ∷ []) scope form.variable) _ (in_loop_name (path ++ 1 ∷ []) form.variable (found_in form.variable scope)) (low ++ (high ++ (body ++ (low_kind ++ high_kind))))
      (loop_name_first (path ++ 1 ∷ []) form.variable (found_in form.variable scope)) (λ _ _.
      bind_first (statement_expr tables p scope form.low) _ low (high ++ (body ++ (low_kind ++ high_kind))) (statement_expr_first tables p scope form.low) (λ l l_is.
      bind_first (statement_expr tables q scope form.high) _ high (body ++ (low_kind ++ high_kind)) (statement_expr_first tables q scope form.high) (λ h h_is.
      bind_first (block r inner form.body) _ body (low_kind ++ high_kind) (law r inner form.body) (λ ss _.
      bind_first (as_int p l) _ low_kind high_kind (int_first p scope form.low l (statement_expr_so tables p scope form.low l l_is)) (λ i _.
      ok_first (as_int q h) (λ j. for_numbers i j (block_of ss)) high_kind (int_first q scope form.high h (statement_expr_so tables q scope form.high h h_is)))))))

  each_first_of : (path : List ℕ) (scope : List Seen) (form : EachParts) → IsFirst (each_loop_at tables block path scope form) (in_each_loop tables faults path scope form)
  unfolding each_loop_at
  each_first_of path scope form =
      let p = path ++ 2 ∷ [] in
      let q = path ++ 3 ∷ [] in
      let r = path ++ 4 ∷ [] in
      let inner = seen_in_loop scope form.variable in
      let table = not_table p tables form.table in
      let part = in_statement_expr tables q scope form.number in
      let body = faults r inner form.body in
      let kind = not_int q scope form.number in
      bind_first (loop_name_at (path ++ 1 ∷ []) scope form.variable) _ (in_loop_name (path ++ 1 ∷ []) form.variable (found_in form.variable scope)) (table ++ (part ++ (body ++ kind)))
      (loop_name_first (path ++ 1 ∷ []) form.variable (found_in form.variable scope)) (λ _ _.
      bind_first (table_called p tables form.table) _ table (part ++ (body ++ kind)) (found_first (At UnknownTable p) (table_named tables form.table)) (λ t _.
      bind_first (statement_expr tables q scope form.number) _ part (body ++ kind) (statement_expr_first tables q scope form.number) (λ e e_is.
      bind_first (block r inner form.body) _ body kind (law r inner form.body) (λ ss _.
      ok_first (as_int q e) (λ i. for_keys t i (block_of ss)) kind (int_first q scope form.number e (statement_expr_so tables q scope form.number e e_is))))))

  form_first : (path : List ℕ) (scope : List Seen) (f : StatementForm) → IsFirst (form_at tables block path scope f) (in_statement_form tables faults path scope (Some f))
  unfolding form_at
  form_first path scope (let_parts form) = let_first tables path scope form
  form_first path scope (get_parts form) = get_first tables path scope form
  form_first path scope (put_parts form) = alone_first scope (put_at tables path scope form) (in_put tables path scope form) (put_first tables path scope form)
  form_first path scope (insert_parts form) = alone_first scope (insert_at tables path scope form) (in_insert tables path scope form) (insert_first tables path scope form)
  form_first path scope (delete_parts form) = alone_first scope (delete_at tables path scope form) (in_delete tables path scope form) (delete_first tables path scope form)
  form_first path scope (if_parts form) = alone_first scope (if_at tables block path scope form) (in_if tables faults path scope form) (if_first_of path scope form)
  form_first path scope (for_parts form) = alone_first scope (for_at tables block path scope form) (in_for tables faults path scope form) (for_first path scope form)
  form_first path scope (each_parts form) = alone_first scope (each_loop_at tables block path scope form) (in_each_loop tables faults path scope form) (each_first_of path scope form)
  form_first path scope (abort_code z) = alone_first scope (abort_at path z) (in_abort path z) (abort_first path z)
  form_first path scope (reply_values ds) = alone_first scope (reply_at tables path scope ds) (in_reply tables path scope ds) (reply_first tables path scope ds)

  form_so : (path : List ℕ) (scope : List Seen) (f : StatementForm) (r : StmtSyntax × List Seen) → form_at tables block path scope f ≡ Ok r → seen_after_form tables scope (Some f) ≡ r.1
  unfolding form_at
  form_so path scope (let_parts form) r e = let_so tables path scope form r e
  form_so path scope (get_parts form) r e = get_so tables path scope form r e
  form_so path scope (put_parts form) r e = alone_so scope (put_at tables path scope form) r e
  form_so path scope (insert_parts form) r e = alone_so scope (insert_at tables path scope form) r e
  form_so path scope (delete_parts form) r e = alone_so scope (delete_at tables path scope form) r e
  form_so path scope (if_parts form) r e = alone_so scope (if_at tables block path scope form) r e
  form_so path scope (for_parts form) r e = alone_so scope (for_at tables block path scope form) r e
  form_so path scope (each_parts form) r e = alone_so scope (each_loop_at tables block path scope form) r e
  form_so path scope (abort_code z) r e = alone_so scope (abort_at path z) r e
  form_so path scope (reply_values ds) r e = alone_so scope (reply_at tables path scope ds) r e

  statement_first : (path : List ℕ) (scope : List Seen) (d : Data) → IsFirst (statement_at tables block path scope d) (in_statement tables faults path scope d)
  statement_first path scope d =
      formed_first (At Shape path) (statement_form d) (form_at tables block path scope) (in_statement_form tables faults path scope) refl (λ f. form_first path scope f)

  statement_so : (path : List ℕ) (scope : List Seen) (d : Data) (r : StmtSyntax × List Seen) → statement_at tables block path scope d ≡ Ok r → seen_after tables scope d ≡ r.1
  statement_so path scope d r e =
      let f = bind_ok (formed (At Shape path) (statement_form d)) _ r e in
      ap (seen_after_form tables scope) (formed_ok (At Shape path) (statement_form d) f.0 f.1) ∙ form_so path scope f.0 r f.2

  statements_first : (path : List ℕ) (place : ℕ) (before : List StmtSyntax × List Seen) (ds : List Data) → IsFirst (each_from (next_statement tables block) path place before ds) (in_statements tables faults path place before.1 ds)
  statements_first path place before [] = refl
  statements_first path place before (d ∷ ds) =
      let p = path ++ place ∷ [] in
      bind_first (next_statement tables block p before d) _ (in_statement tables faults p before.1 d) (in_statements tables faults path (place + 1) (seen_after tables before.1 d) ds)
      (ok_first (statement_at tables block p before.1 d) (λ s. (before.0 ++ s.0 ∷ [], s.1)) (in_statement tables faults p before.1 d) (statement_first p before.1 d)) (λ step step_is.
      let s = bind_ok (statement_at tables block p before.1 d) _ step step_is in
      let is : (before.0 ++ s.0.0 ∷ [], s.0.1) ≡ step = (let h = s.2 in cc) in
      let seen : step.1 ≡ seen_after tables before.1 d = ap (λ (q : List StmtSyntax × List Seen). q.1) (sym is) ∙ sym (statement_so p before.1 d s.0 s.1) in
      subst (λ (scope : List Seen). IsFirst (each_from (next_statement tables block) path (place + 1) step ds) (in_statements tables faults path (place + 1) scope ds)) seen (statements_first path (place + 1) step ds))

pub block_first : (tables : List TableShape) (room : ℕ) (path : List ℕ) (scope : List Seen) (d : Data) → IsFirst (block_at tables room path scope d) (in_block tables room path scope d)
unfolding block_at in_block
block_first tables zero path scope d = formed_first (At Shape path) (elements d) (λ ds. refuse Limit path) (in_deep_block path) refl (λ ds. refl)
block_first tables (suc room) path scope d =
    formed_first (At Shape path) (elements d) _ (in_block_form tables (in_block tables room) path scope) refl (λ ds.
    rule_first (leb (length ds) 1024) (At Limit path) _ (in_statements tables (in_block tables room) path 0 scope ds)
    (ok_first (each_from (next_statement tables (block_at tables room)) path 0 ([], scope) ds) (λ all. all.0) (in_statements tables (in_block tables room) path 0 scope ds)
    (statements_first tables (block_at tables room) (in_block tables room) (λ p s x. block_first tables room p s x) path 0 ([], scope) ds)))
