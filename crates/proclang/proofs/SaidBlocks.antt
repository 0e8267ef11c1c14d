-- What is read is a block that the document says, and such a block is read.
use Rattle.std.proofs.Common.{◌≡◌, ℕ, zero, suc, ◌+◌, List, [], ◌∷◌, ◌++◌, Some, Result, Ok, refl, sym, ap, ◌∙◌, subst, append_assoc}
use Rattle.std.proofs.lemmas.List.{append-nil}
use Rattle.serde_json.specs.Data.{Data}
use Rattle.documents.specs.Json.{elements}
use Rattle.documents.specs.Reading.{formed}
use Rattle.documents.proofs.Said.{elements_said, elements_again}
use Rattle.documents.proofs.Steps.{bind_ok, formed_ok}
use Rattle.catalogue.specs.Places.{table_named}
use Rattle.catalogue.specs.Shapes.{TableShape}
use Rattle.proclang_types.specs.Syntax.{StmtSyntax, choose, for_numbers, for_keys, block_of}
use Rattle.proclang_expressions.specs.declared.fault.FaultKind.TheVariants.{Shape, UnknownTable}
use Rattle.proclang_expressions.specs.declared.fault.ProcFault.{ProcFault}
use Rattle.proclang_expressions.specs.declared.fault.ProcFault.TheVariants.{At}
use Rattle.proclang_expressions.specs.Seen.{Seen, seen_in_loop}
use Rattle.proclang_expressions.specs.Walk.{each_from, at_most}
use Rattle.proclang_expressions.specs.Lookups.{table_called}
use Rattle.proclang_expressions.specs.Targets.{loop_name_at}
use Rattle.proclang_expressions.specs.Expressions.{as_int, as_bool, statement_expr}
use Rattle.proclang_forms.specs.StmtForms.{IfParts, ForParts, EachParts, StatementForm, let_parts, get_parts, put_parts, insert_parts, delete_parts, if_parts, for_parts, each_parts, abort_code, reply_values, statement_form}
use Rattle.proclang.specs.Statements.{put_at, insert_at, delete_at, abort_at, reply_at, BlockReader, if_at, for_at, each_loop_at, in_scope, form_at, statement_at, next_statement, block_at}
use Rattle.proclang.specs.SaysStatements.{SaysIf, SaysFor, SaysEach, SaysStatementForm, SaysStatements, SaysBlock}
use Rattle.proclang_expressions.proofs.SaidParts.{few_found, few_again, int_said, bool_said, int_read, bool_read, new_found, new_again}
use Rattle.proclang.proofs.SaidStatements.{let_found, let_again, get_found, get_again, put_found, put_again, delete_found, delete_again, abort_found, abort_again, reply_found, reply_again}
use Rattle.proclang.proofs.SaidInserts.{insert_found, insert_again}
use Rattle.proclang_forms.proofs.SpelledStatements.{statement_said, statement_again}

alone_found : (scope : List Seen) (read : Result StmtSyntax ProcFault) (r : StmtSyntax × List Seen) → in_scope scope read ≡ Ok r → (read ≡ Ok r.0) × (r.1 ≡ scope)
alone_found scope read r e =
    let s = bind_ok read _ r e in
    let is : (s.0, scope) ≡ r = (let h = s.2 in cc) in
    (s.1 ∙ ap (λ (p : StmtSyntax × List Seen). Ok p.0) is, sym (ap (λ (p : StmtSyntax × List Seen). p.1) is))

alone_again : (scope : List Seen) (read : Result StmtSyntax ProcFault) (s : StmtSyntax) (after : List Seen) → read ≡ Ok s → after ≡ scope → in_scope scope read ≡ Ok (s, after)
alone_again scope read s after e same = rw (e, same) refl

module _ (tables : List TableShape) (block : BlockReader) (says : List Seen → Data → List StmtSyntax → Type 0)
    (found : (path : List ℕ) (scope : List Seen) (d : Data) (ss : List StmtSyntax) → block path scope d ≡ Ok ss → says scope d ss) where
  if_found : (path : List ℕ) (scope : List Seen) (form : IfParts) (s : StmtSyntax) → if_at tables block path scope form ≡ Ok s → SaysIf tables says scope form s
  unfolding if_at
  if_found path scope form s e =
      let t = bind_ok (statement_expr tables (path ++ 1 ∷ []) scope form.test) _ s e in
      let x = bind_ok (block (path ++ 2 ∷ []) scope form.first) _ s t.2 in
      let y = bind_ok (block (path ++ 3 ∷ []) scope form.second) _ s x.2 in
      let z = bind_ok (as_bool (path ++ 1 ∷ []) t.0) _ s y.2 in
      let is : choose z.0 (block_of x.0) (block_of y.0) ≡ s = (let h = z.2 in cc) in
      record {
        test = z.0;
        first = x.0;
        second = y.0;
        is_test = bool_said tables (path ++ 1 ∷ []) scope form.test t.0 z.0 t.1 z.1;
        is_first = found (path ++ 2 ∷ []) scope form.first x.0 x.1;
        is_second = found (path ++ 3 ∷ []) scope form.second y.0 y.1;
        is = sym is;
      }

  for_found : (path : List ℕ) (scope : List Seen) (form : ForParts) (s : StmtSyntax) → for_at tables block path scope form ≡ Ok s → SaysFor tables says scope form s
  unfolding for_at
  for_found path scope form s e =
      let name = bind_ok (loop_name_at (path ++ 1 ∷ []) scope form.variable) _ s e in
      let l = bind_ok (statement_expr tables (path ++ 2 ∷ []) scope form.low) _ s name.2 in
      let h = bind_ok (statement_expr tables (path ++ 3 ∷ []) scope form.high) _ s l.2 in
      let body = bind_ok (block (path ++ 4 ∷ []) (seen_in_loop scope form.variable) form.body) _ s h.2 in
      let low = bind_ok (as_int (path ++ 2 ∷ []) l.0) _ s body.2 in
      let high = bind_ok (as_int (path ++ 3 ∷ []) h.0) _ s low.2 in
      let is : for_numbers low.0 high.0 (block_of body.0) ≡ s = (let g = high.2 in cc) in
      record {
        low = low.0;
        high = high.0;
        body = body.0;
        name = new_found (path ++ 1 ∷ []) scope form.variable name.0 name.1;
        is_low = int_said tables (path ++ 2 ∷ []) scope form.low l.0 low.0 l.1 low.1;
        is_high = int_said tables (path ++ 3 ∷ []) scope form.high h.0 high.0 h.1 high.1;
        is_body = found (path ++ 4 ∷ []) (seen_in_loop scope form.variable) form.body body.0 body.1;
        is = sym is;
      }

  each_found : (path : List ℕ) (scope : List Seen) (form : EachParts) (s : StmtSyntax) → each_loop_at tables block path scope form ≡ Ok s → SaysEach tables says scope form s
  unfolding each_loop_at
  each_found path scope form s e =
      let name = bind_ok (loop_name_at (path ++ 1 ∷ []) scope form.variable) _ s e in
      let table = bind_ok (table_called (path ++ 2 ∷ []) tables form.table) _ s name.2 in
      let x = bind_ok (statement_expr tables (path ++ 3 ∷ []) scope form.number) _ s table.2 in
      let body = bind_ok (block (path ++ 4 ∷ []) (seen_in_loop scope form.variable) form.body) _ s x.2 in
      let part = bind_ok (as_int (path ++ 3 ∷ []) x.0) _ s body.2 in
      let is : for_keys table.0 part.0 (block_of body.0) ≡ s = (let g = part.2 in cc) in
      record {
        table = table.0;
        number = part.0;
        body = body.0;
        name = new_found (path ++ 1 ∷ []) scope form.variable name.0 name.1;
        is_table = formed_ok (At UnknownTable (path ++ 2 ∷ [])) (table_named tables form.table) table.0 table.1;
        is_number = int_said tables (path ++ 3 ∷ []) scope form.number x.0 part.0 x.1 part.1;
        is_body = found (path ++ 4 ∷ []) (seen_in_loop scope form.variable) form.body body.0 body.1;
        is = sym is;
      }

  form_found : (path : List ℕ) (scope : List Seen) (f : StatementForm) (r : StmtSyntax × List Seen) → form_at tables block path scope f ≡ Ok r → SaysStatementForm tables says scope f r.0 r.1
  unfolding form_at
  form_found path scope (let_parts form) r e = let_found tables path scope form r e
  form_found path scope (get_parts form) r e = get_found tables path scope form r e
  form_found path scope (put_parts form) r e = let a = alone_found scope (put_at tables path scope form) r e in (put_found tables path scope form r.0 a.0, a.1)
  form_found path scope (insert_parts form) r e = let a = alone_found scope (insert_at tables path scope form) r e in (insert_found tables path scope form r.0 a.0, a.1)
  form_found path scope (delete_parts form) r e = let a = alone_found scope (delete_at tables path scope form) r e in (delete_found tables path scope form r.0 a.0, a.1)
  form_found path scope (if_parts form) r e = let a = alone_found scope (if_at tables block path scope form) r e in (if_found path scope form r.0 a.0, a.1)
  form_found path scope (for_parts form) r e = let a = alone_found scope (for_at tables block path scope form) r e in (for_found path scope form r.0 a.0, a.1)
  form_found path scope (each_parts form) r e = let a = alone_found scope (each_loop_at tables block path scope form) r e in (each_found path scope form r.0 a.0, a.1)
  form_found path scope (abort_code z) r e =
      let a = alone_found scope (abort_at path z) r e in
      let n = abort_found path z r.0 a.0 in
      (n.0, n.1, n.2, n.3, n.4, a.1)
  form_found path scope (reply_values ds) r e =
      let a = alone_found scope (reply_at tables path scope ds) r e in
      let vs = reply_found tables path scope ds r.0 a.0 in
      (vs.0, vs.1, vs.2, vs.3, a.1)

  statements_found : (path : List ℕ) (place : ℕ) (before : List StmtSyntax × List Seen) (ds : List Data) (all : List StmtSyntax × List Seen) → each_from (next_statement tables block) path place before ds ≡ Ok all
      → (rest : List StmtSyntax) × (all.0 ≡ before.0 ++ rest) × SaysStatements tables says before.1 ds rest
  statements_found path place before [] all e = let is : before.0 ≡ all.0 = cc in ([], sym is ∙ sym (append-nil before.0), tt)
  statements_found path place before (d ∷ ds) all e =
      let p = path ++ place ∷ [] in
      let step = bind_ok (next_statement tables block p before d) _ all e in
      let s = bind_ok (statement_at tables block p before.1 d) _ step.0 step.1 in
      let f = bind_ok (formed (At Shape p) (statement_form d)) _ s.0 s.1 in
      let is : (before.0 ++ s.0.0 ∷ [], s.0.1) ≡ step.0 = (let h = s.2 in cc) in
      let others = statements_found path (place + 1) step.0 ds all step.2 in
      let done : before.0 ++ s.0.0 ∷ [] ≡ step.0.0 = ap (λ (p : List StmtSyntax × List Seen). p.0) is in
      let seen : s.0.1 ≡ step.0.1 = ap (λ (p : List StmtSyntax × List Seen). p.1) is in
      let rest : SaysStatements tables says s.0.1 ds others.0 = rw seen others.2 in (
        s.0.0 ∷ others.0,
        others.1 ∙ ap (λ (ss : List StmtSyntax). ss ++ others.0) (sym done) ∙ append_assoc before.0 (s.0.0 ∷ []) others.0,
        (s.0.1, (f.0, statement_said d f.0 (formed_ok (At Shape p) (statement_form d) f.0 f.1), form_found p before.1 f.0 s.0 f.2), rest),
      )

module _ (tables : List TableShape) (block : BlockReader) (says : List Seen → Data → List StmtSyntax → Type 0)
    (again : (path : List ℕ) (scope : List Seen) (d : Data) (ss : List StmtSyntax) → says scope d ss → block path scope d ≡ Ok ss) where
  if_again : (path : List ℕ) (scope : List Seen) (form : IfParts) (s : StmtSyntax) → SaysIf tables says scope form s → if_at tables block path scope form ≡ Ok s
  unfolding if_at
  if_again path scope form s h =
      rw (bool_read tables (path ++ 1 ∷ []) scope form.test h.test h.is_test, again (path ++ 2 ∷ []) scope form.first h.first h.is_first, again (path ++ 3 ∷ []) scope form.second h.second h.is_second)
      (ap (λ (x : StmtSyntax). Ok x) (sym h.is))

  for_again : (path : List ℕ) (scope : List Seen) (form : ForParts) (s : StmtSyntax) → SaysFor tables says scope form s → for_at tables block path scope form ≡ Ok s
  unfolding for_at
  for_again path scope form s h =
      rw (
        new_again (path ++ 1 ∷ []) scope form.variable h.name,
        int_read tables (path ++ 2 ∷ []) scope form.low h.low h.is_low,
        int_read tables (path ++ 3 ∷ []) scope form.high h.high h.is_high,
        again (path ++ 4 ∷ []) (seen_in_loop scope form.variable) form.body h.body h.is_body,
      ) (ap (λ (x : StmtSyntax). Ok x) (sym h.is))

  each_again : (path : List ℕ) (scope : List Seen) (form : EachParts) (s : StmtSyntax) → SaysEach tables says scope form s → each_loop_at tables block path scope form ≡ Ok s
  unfolding each_loop_at
  each_again path scope form s h =
      rw (
        new_again (path ++ 1 ∷ []) scope form.variable h.name,
        h.is_table,
        int_read tables (path ++ 3 ∷ []) scope form.number h.number h.is_number,
        again (path ++ 4 ∷ []) (seen_in_loop scope form.variable) form.body h.body h.is_body,
      ) (ap (λ (x : StmtSyntax). Ok x) (sym h.is))

  form_again : (path : List ℕ) (scope : List Seen) (f : StatementForm) (s : StmtSyntax) (after : List Seen) → SaysStatementForm tables says scope f s after → form_at tables block path scope f ≡ Ok (s, after)
  unfolding form_at
  form_again path scope (let_parts form) s after h = let_again tables path scope form s after h
  form_again path scope (get_parts form) s after h = get_again tables path scope form s after h
  form_again path scope (put_parts form) s after h = alone_again scope (put_at tables path scope form) s after (put_again tables path scope form s h.0) h.1
  form_again path scope (insert_parts form) s after h = alone_again scope (insert_at tables path scope form) s after (insert_again tables path scope form s h.0) h.1
  form_again path scope (delete_parts form) s after h = alone_again scope (delete_at tables path scope form) s after (delete_again tables path scope form s h.0) h.1
  form_again path scope (if_parts form) s after h = alone_again scope (if_at tables block path scope form) s after (if_again path scope form s h.0) h.1
  form_again path scope (for_parts form) s after h = alone_again scope (for_at tables block path scope form) s after (for_again path scope form s h.0) h.1
  form_again path scope (each_parts form) s after h = alone_again scope (each_loop_at tables block path scope form) s after (each_again path scope form s h.0) h.1
  form_again path scope (abort_code z) s after h = alone_again scope (abort_at path z) s after (abort_again path z s (h.0, h.1, h.2, h.3, h.4)) h.5
  form_again path scope (reply_values ds) s after h = alone_again scope (reply_at tables path scope ds) s after (reply_again tables path scope ds s (h.0, h.1, h.2, h.3)) h.4

  statements_again : (path : List ℕ) (place : ℕ) (done : List StmtSyntax) (scope : List Seen) (ds : List Data) (ss : List StmtSyntax) → SaysStatements tables says scope ds ss
      → (last : List Seen) × (each_from (next_statement tables block) path place (done, scope) ds ≡ Ok (done ++ ss, last))
  statements_again path place done scope [] [] h = (scope, ap (λ (ys : List StmtSyntax). Ok (ys, scope)) (sym (append-nil done)))
  statements_again path place done scope [] (s ∷ ss) h = absurd h
  statements_again path place done scope (d ∷ ds) [] h = absurd h
  statements_again path place done scope (d ∷ ds) (s ∷ ss) h =
      let p = path ++ place ∷ [] in
      let one : next_statement tables block p (done, scope) d ≡ Ok (done ++ s ∷ [], h.0) = rw (statement_again d h.1.0 h.1.1, form_again p scope h.1.0 s h.0 h.1.2) refl in
      let others = statements_again path (place + 1) (done ++ s ∷ []) h.0 ds ss h.2 in
      (others.0, rw one (others.1 ∙ ap (λ (ys : List StmtSyntax). Ok (ys, others.0)) (append_assoc done (s ∷ []) ss)))

-- what is read is a block that the document says
pub block_found : (tables : List TableShape) (room : ℕ) (path : List ℕ) (scope : List Seen) (d : Data) (ss : List StmtSyntax) → block_at tables room path scope d ≡ Ok ss → SaysBlock tables room scope d ss
unfolding block_at
block_found tables zero path scope d ss e = let f = bind_ok (formed (At Shape path) (elements d)) _ ss e in absurd (let h = f.2 in cc)
block_found tables (suc room) path scope d ss e =
    let f = bind_ok (formed (At Shape path) (elements d)) _ ss e in
    let g = bind_ok (at_most path 1024 f.0) _ ss f.2 in
    let all = bind_ok (each_from (next_statement tables (block_at tables room)) path 0 ([], scope) f.0) _ ss g.2 in
    let rest = statements_found tables (block_at tables room) (SaysBlock tables room) (λ p s x y h. block_found tables room p s x y h) path 0 ([], scope) f.0 all.0 all.1 in
    let is : all.0.0 ≡ ss = (let h = all.2 in cc) in
    (f.0, elements_said d f.0 (formed_ok (At Shape path) (elements d) f.0 f.1), few_found path 1024 f.0 g.0 g.1, subst (SaysStatements tables (SaysBlock tables room) scope f.0) (sym rest.1 ∙ is) rest.2)

-- a block that the document says is read
pub block_read : (tables : List TableShape) (room : ℕ) (path : List ℕ) (scope : List Seen) (d : Data) (ss : List StmtSyntax) → SaysBlock tables room scope d ss → block_at tables room path scope d ≡ Ok ss
unfolding block_at
block_read tables zero path scope d ss h = absurd h
block_read tables (suc room) path scope d ss h =
    let form : elements d ≡ Some h.0 = ap elements h.1 ∙ elements_again h.0 in
    let all = statements_again tables (block_at tables room) (SaysBlock tables room) (λ p s x y g. block_read tables room p s x y g) path 0 [] scope h.0 ss h.3 in
    rw (form, few_again path 1024 h.0 h.2, all.1) refl
