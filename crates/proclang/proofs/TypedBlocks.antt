-- A block that is read fits the catalogue and the variables that are seen.
use Rattle.std.proofs.Common.{◌≡◌, ℕ, zero, suc, ◌+◌, List, [], ◌∷◌, ◌++◌, Result, Ok, Err, refl, sym, ap, ◌∙◌, subst, append_assoc}
use Rattle.std.proofs.lemmas.List.{append-nil}
use Rattle.serde_json.specs.Data.{Data}
use Rattle.documents.specs.Json.{elements}
use Rattle.documents.specs.Reading.{formed}
use Rattle.documents.proofs.Steps.{bind_ok}
use Rattle.values.specs.declared.value.ColType.{ColType}
use Rattle.catalogue.specs.Shapes.{TableShape}
use Rattle.proclang_types.specs.Syntax.{StmtSyntax, choose, for_numbers, for_keys, block_of}
use Rattle.proclang_types.specs.Typing.{in_loop, BlockFits}
use Rattle.proclang_expressions.specs.declared.fault.FaultKind.TheVariants.{Shape}
use Rattle.proclang_expressions.specs.declared.fault.ProcFault.{ProcFault}
use Rattle.proclang_expressions.specs.declared.fault.ProcFault.TheVariants.{At}
use Rattle.proclang_expressions.specs.Seen.{Seen, seen_kinds, seen_in_loop}
use Rattle.proclang_expressions.specs.Walk.{each_from, at_most}
use Rattle.proclang_expressions.specs.Lookups.{table_called}
use Rattle.proclang_expressions.specs.Targets.{loop_name_at}
use Rattle.proclang_expressions.specs.Expressions.{as_int, as_bool, statement_expr}
use Rattle.proclang_forms.specs.StmtForms.{IfParts, ForParts, EachParts, StatementForm, let_parts, get_parts, put_parts, insert_parts, delete_parts, if_parts, for_parts, each_parts, abort_code, reply_values, statement_form}
use Rattle.proclang.specs.Statements.{put_at, insert_at, delete_at, abort_at, reply_at, BlockReader, if_at, for_at, each_loop_at, in_scope, form_at, statement_at, next_statement, block_at}
use Rattle.proclang_expressions.proofs.TypedExpressions.{table_there, bool_fits}
use Rattle.proclang_expressions.proofs.TypedParts.{statement_expr_fits, key_fits, loop_kinds}
use Rattle.proclang.proofs.TypedStatements.{Fit, FitAlone, let_fits, get_fits, put_fits, insert_fits, delete_fits, abort_fits, reply_fits}

scoped_fits : (tables : List TableShape) (scope : List Seen) (read : Result StmtSyntax ProcFault) (r : StmtSyntax × List Seen) → ((s : StmtSyntax) → read ≡ Ok s → FitAlone tables scope s) → in_scope scope read ≡ Ok r → Fit tables scope r
scoped_fits tables scope (Ok s) r law e = let is : (s, scope) ≡ r = cc in subst (Fit tables scope) is (law s refl)
scoped_fits tables scope (Err f) r law e = absurd cc

module _ (tables : List TableShape) (block : BlockReader) (law : (path : List ℕ) (scope : List Seen) (d : Data) (ss : List StmtSyntax) → block path scope d ≡ Ok ss → BlockFits tables (seen_kinds scope) (block_of ss)) where
  if_fits : (path : List ℕ) (scope : List Seen) (form : IfParts) (s : StmtSyntax) → if_at tables block path scope form ≡ Ok s → FitAlone tables scope s
  unfolding if_at
  if_fits path scope form s e =
      let t = bind_ok (statement_expr tables (path ++ 1 ∷ []) scope form.test) _ s e in
      let x = bind_ok (block (path ++ 2 ∷ []) scope form.first) _ s t.2 in
      let y = bind_ok (block (path ++ 3 ∷ []) scope form.second) _ s x.2 in
      let z = bind_ok (as_bool (path ++ 1 ∷ []) t.0) _ s y.2 in
      let is : choose z.0 (block_of x.0) (block_of y.0) ≡ s = (let h = z.2 in cc) in
      subst (FitAlone tables scope) is
      ((bool_fits tables (seen_kinds scope) (path ++ 1 ∷ []) t.0 z.0 (statement_expr_fits tables (path ++ 1 ∷ []) scope form.test t.0 t.1) z.1, law (path ++ 2 ∷ []) scope form.first x.0 x.1, law (path ++ 3 ∷ []) scope form.second y.0 y.1), refl)

  -- the block of a loop
  body_fits : (path : List ℕ) (scope : List Seen) (name : List ℕ) (d : Data) (ss : List StmtSyntax) → block path (seen_in_loop scope name) d ≡ Ok ss → BlockFits tables (in_loop (seen_kinds scope)) (block_of ss)
  body_fits path scope name d ss h = subst (λ (kinds : List ColType). BlockFits tables kinds (block_of ss)) (loop_kinds scope name) (law path (seen_in_loop scope name) d ss h)

  for_fits : (path : List ℕ) (scope : List Seen) (form : ForParts) (s : StmtSyntax) → for_at tables block path scope form ≡ Ok s → FitAlone tables scope s
  unfolding for_at
  for_fits path scope form s e =
      let name = bind_ok (loop_name_at (path ++ 1 ∷ []) scope form.variable) _ s e in
      let l = bind_ok (statement_expr tables (path ++ 2 ∷ []) scope form.low) _ s name.2 in
      let h = bind_ok (statement_expr tables (path ++ 3 ∷ []) scope form.high) _ s l.2 in
      let body = bind_ok (block (path ++ 4 ∷ []) (seen_in_loop scope form.variable) form.body) _ s h.2 in
      let low = bind_ok (as_int (path ++ 2 ∷ []) l.0) _ s body.2 in
      let high = bind_ok (as_int (path ++ 3 ∷ []) h.0) _ s low.2 in
      let is : for_numbers low.0 high.0 (block_of body.0) ≡ s = (let g = high.2 in cc) in
      subst (FitAlone tables scope) is
      ((key_fits tables (path ++ 2 ∷ []) scope form.low l.0 low.0 l.1 low.1, key_fits tables (path ++ 3 ∷ []) scope form.high h.0 high.0 h.1 high.1, body_fits (path ++ 4 ∷ []) scope form.variable form.body body.0 body.1), refl)

  each_fits : (path : List ℕ) (scope : List Seen) (form : EachParts) (s : StmtSyntax) → each_loop_at tables block path scope form ≡ Ok s → FitAlone tables scope s
  unfolding each_loop_at
  each_fits path scope form s e =
      let name = bind_ok (loop_name_at (path ++ 1 ∷ []) scope form.variable) _ s e in
      let table = bind_ok (table_called (path ++ 2 ∷ []) tables form.table) _ s name.2 in
      let x = bind_ok (statement_expr tables (path ++ 3 ∷ []) scope form.number) _ s table.2 in
      let body = bind_ok (block (path ++ 4 ∷ []) (seen_in_loop scope form.variable) form.body) _ s x.2 in
      let part = bind_ok (as_int (path ++ 3 ∷ []) x.0) _ s body.2 in
      let is : for_keys table.0 part.0 (block_of body.0) ≡ s = (let g = part.2 in cc) in
      subst (FitAlone tables scope) is
      ((table_there tables (path ++ 2 ∷ []) form.table table.0 table.1, key_fits tables (path ++ 3 ∷ []) scope form.number x.0 part.0 x.1 part.1, body_fits (path ++ 4 ∷ []) scope form.variable form.body body.0 body.1), refl)

  form_fits : (path : List ℕ) (scope : List Seen) (f : StatementForm) (r : StmtSyntax × List Seen) → form_at tables block path scope f ≡ Ok r → Fit tables scope r
  unfolding form_at
  form_fits path scope (let_parts form) r e = let_fits tables path scope form r e
  form_fits path scope (get_parts form) r e = get_fits tables path scope form r e
  form_fits path scope (put_parts form) r e = scoped_fits tables scope (put_at tables path scope form) r (λ s h. put_fits tables path scope form s h) e
  form_fits path scope (insert_parts form) r e = scoped_fits tables scope (insert_at tables path scope form) r (λ s h. insert_fits tables path scope form s h) e
  form_fits path scope (delete_parts form) r e = scoped_fits tables scope (delete_at tables path scope form) r (λ s h. delete_fits tables path scope form s h) e
  form_fits path scope (if_parts form) r e = scoped_fits tables scope (if_at tables block path scope form) r (λ s h. if_fits path scope form s h) e
  form_fits path scope (for_parts form) r e = scoped_fits tables scope (for_at tables block path scope form) r (λ s h. for_fits path scope form s h) e
  form_fits path scope (each_parts form) r e = scoped_fits tables scope (each_loop_at tables block path scope form) r (λ s h. each_fits path scope form s h) e
  form_fits path scope (abort_code z) r e = scoped_fits tables scope (abort_at path z) r (λ s h. abort_fits tables path scope z s h) e
  form_fits path scope (reply_values ds) r e = scoped_fits tables scope (reply_at tables path scope ds) r (λ s h. reply_fits tables path scope ds s h) e

  statements_fit : (path : List ℕ) (place : ℕ) (before : List StmtSyntax × List Seen) (ds : List Data) (all : List StmtSyntax × List Seen) → each_from (next_statement tables block) path place before ds ≡ Ok all
      → (rest : List StmtSyntax) × (all.0 ≡ before.0 ++ rest) × BlockFits tables (seen_kinds before.1) (block_of rest)
  statements_fit path place before [] all e = let is : before.0 ≡ all.0 = cc in ([], sym is ∙ sym (append-nil before.0), tt)
  statements_fit path place before (d ∷ ds) all e =
      let step = bind_ok (next_statement tables block (path ++ place ∷ []) before d) _ all e in
      let s = bind_ok (statement_at tables block (path ++ place ∷ []) before.1 d) _ step.0 step.1 in
      let f = bind_ok (formed (At Shape (path ++ place ∷ [])) (statement_form d)) _ s.0 s.1 in
      let one = form_fits (path ++ place ∷ []) before.1 f.0 s.0 f.2 in
      let is : (before.0 ++ s.0.0 ∷ [], s.0.1) ≡ step.0 = (let h = s.2 in cc) in
      let others = statements_fit path (place + 1) step.0 ds all step.2 in
      let done : before.0 ++ s.0.0 ∷ [] ≡ step.0.0 = ap (λ (p : List StmtSyntax × List Seen). p.0) is in
      let seen : s.0.1 ≡ step.0.1 = ap (λ (p : List StmtSyntax × List Seen). p.1) is in
      let rest_fits : BlockFits tables (seen_kinds s.0.1) (block_of others.0) = rw seen others.2 in
      (s.0.0 ∷ others.0, others.1 ∙ ap (λ (ss : List StmtSyntax). ss ++ others.0) (sym done) ∙ append_assoc before.0 (s.0.0 ∷ []) others.0, (one.0, rw one.1 rest_fits))

-- a block that is read fits the variables that are seen
pub block_fits : (tables : List TableShape) (room : ℕ) (path : List ℕ) (scope : List Seen) (d : Data) (ss : List StmtSyntax) → block_at tables room path scope d ≡ Ok ss → BlockFits tables (seen_kinds scope) (block_of ss)
unfolding block_at
block_fits tables zero path scope d ss e = let f = bind_ok (formed (At Shape path) (elements d)) _ ss e in absurd (let h = f.2 in cc)
block_fits tables (suc room) path scope d ss e =
    let f = bind_ok (formed (At Shape path) (elements d)) _ ss e in
    let g = bind_ok (at_most path 1024 f.0) _ ss f.2 in
    let all = bind_ok (each_from (next_statement tables (block_at tables room)) path 0 ([], scope) f.0) _ ss g.2 in
    let fit = statements_fit tables (block_at tables room) (λ p s x y h. block_fits tables room p s x y h) path 0 ([], scope) f.0 all.0 all.1 in
    let is : all.0.0 ≡ ss = (let h = all.2 in cc) in
    subst (λ (all : List StmtSyntax). BlockFits tables (seen_kinds scope) (block_of all)) is (rw fit.1 fit.2)
