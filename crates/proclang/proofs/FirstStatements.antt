-- The fault that reading a statement without blocks meets is the first rule that it breaks, and what is seen after it.
use Rattle.std.proofs.Common.{◌≡◌, ℕ, ℤ, pos, negsuc, ◌+◌, eqb, leb, ◌&&◌, List, [], ◌∷◌, ◌++◌, length, Option, Some, option_and_then, unwrap_or, Ok, refl, ap, ◌∙◌}
use Rattle.std.specs.List.{zip}
use Rattle.serde_json.specs.Data.{Data}
use Rattle.documents.specs.FirstFault.{broken, IsFirst}
use Rattle.documents.specs.Reading.{◌>>=◌, rule}
use Rattle.documents.proofs.FirstFault.{bind_first, ok_first, rule_first, if_first}
use Rattle.documents.proofs.Steps.{bind_ok}
use Rattle.values.specs.declared.value.ColType.{ColType}
use Rattle.catalogue.specs.Places.{table_named}
use Rattle.catalogue.specs.Shapes.{TableShape}
use Rattle.proclang_types.specs.Syntax.{ExprSyntax, ValueSyntax, StmtSyntax, assign, get, put, insert_row, delete_row, abort, reply}
use Rattle.proclang_types.specs.Typing.{kind_of, column_kinds}
use Rattle.proclang_expressions.specs.declared.fault.FaultKind.TheVariants.{Shape, UnknownTable, TypeMismatch, AbortCode, Limit}
use Rattle.proclang_expressions.specs.declared.fault.ProcFault.TheVariants.{At}
use Rattle.proclang_expressions.specs.declared.scope.Found.{Found}
use Rattle.proclang_expressions.specs.Seen.{Seen, found_in}
use Rattle.proclang_expressions.specs.Walk.{each_from, appended}
use Rattle.proclang_expressions.specs.Lookups.{same_type, table_called, column_called}
use Rattle.proclang_expressions.specs.Targets.{target_at, bound}
use Rattle.proclang_expressions.specs.Expressions.{as_int, as_value, statement_expr}
use Rattle.proclang_forms.specs.StmtForms.{LetParts, GetParts, PutParts, InsertParts, DeleteParts}
use Rattle.proclang_expressions.specs.Values.{of_type, exprs_at, stored_at, row_values_at, kinds_in, values_at}
use Rattle.proclang.specs.Statements.{let_at, get_at, put_at, insert_at, delete_at, abort_at, reply_at}
use Rattle.proclang_expressions.specs.ExprTypes.{type_said, kind_said}
use Rattle.proclang_expressions.specs.BrokenNames.{not_table, column_type_said, not_column}
use Rattle.proclang_expressions.specs.BrokenExpressions.{not_int, not_value, in_statement_expr}
use Rattle.proclang_expressions.specs.BrokenTargets.{in_target, type_found, agree, seen_with}
use Rattle.proclang.specs.BrokenStatements.{kinds_said, in_let, in_get, in_put, not_stored, in_insert, in_delete, in_abort, in_reply}
use Rattle.proclang_expressions.specs.BrokenParts.{in_parts}
use Rattle.proclang_expressions.proofs.FirstNames.{found_first, table_so, column_first, column_type_so}
use Rattle.proclang_expressions.proofs.FirstTypes.{type_read, kind_so, int_first, value_first}
use Rattle.proclang_expressions.proofs.FirstParts.{statement_expr_first, statement_expr_so, seen_is, target_first, target_so, bound_first, bound_so, AreTyped, exprs_first, exprs_so}

-- ---- let

pub let_first : (tables : List TableShape) (path : List ℕ) (scope : List Seen) (form : LetParts) → IsFirst (let_at tables path scope form) (in_let tables path scope form)
unfolding let_at
let_first tables path scope form =
    let p = path ++ 2 ∷ [] in
    let last = broken (agree (type_found (found_in form.variable scope)) (kind_said scope form.value)) (At TypeMismatch p) in
    let value = not_value p scope form.value in
    let expr = in_statement_expr tables p scope form.value in
    bind_first (target_at (path ++ 1 ∷ []) scope form.variable) _ (in_target (path ++ 1 ∷ []) form.variable (found_in form.variable scope)) (expr ++ (value ++ last))
    (target_first (path ++ 1 ∷ []) form.variable (found_in form.variable scope)) (λ target target_is.
    bind_first (statement_expr tables p scope form.value) _ expr (value ++ last) (statement_expr_first tables p scope form.value) (λ e e_is.
    let typed = statement_expr_so tables p scope form.value e e_is in
    bind_first (as_value p e) _ value last (value_first p scope form.value e typed) (λ v v_is.
    ok_first (bound p scope form.variable (kind_of v) target) (λ b. (assign b.0 v, b.1)) last
    (known p target v (target_so (path ++ 1 ∷ []) form.variable (found_in form.variable scope) target target_is) (kind_so p scope form.value e v typed v_is)))))
  where
    known : (p : List ℕ) (target : Option Found) (v : ValueSyntax) → found_in form.variable scope ≡ target → kind_said scope form.value ≡ Some (kind_of v)
        → IsFirst (bound p scope form.variable (kind_of v) target) (broken (agree (type_found (found_in form.variable scope)) (kind_said scope form.value)) (At TypeMismatch p))
    known p target v t e = rw (t, e) (bound_first p scope form.variable (kind_of v) target)

pub let_so : (tables : List TableShape) (path : List ℕ) (scope : List Seen) (form : LetParts) (r : StmtSyntax × List Seen) → let_at tables path scope form ≡ Ok r
    → seen_with scope form.variable (found_in form.variable scope) (kind_said scope form.value) ≡ r.1
unfolding let_at
let_so tables path scope form r e =
    let target = bind_ok (target_at (path ++ 1 ∷ []) scope form.variable) _ r e in
    let expr = bind_ok (statement_expr tables (path ++ 2 ∷ []) scope form.value) _ r target.2 in
    let value = bind_ok (as_value (path ++ 2 ∷ []) expr.0) _ r expr.2 in
    let variable = bind_ok (bound (path ++ 2 ∷ []) scope form.variable (kind_of value.0) target.0) _ r value.2 in
    let found : found_in form.variable scope ≡ target.0 = target_so (path ++ 1 ∷ []) form.variable (found_in form.variable scope) target.0 target.1 in
    let said : kind_said scope form.value ≡ Some (kind_of value.0) = kind_so (path ++ 2 ∷ []) scope form.value expr.0 value.0 (statement_expr_so tables (path ++ 2 ∷ []) scope form.value expr.0 expr.1) value.1 in
    let is : variable.0.1 ≡ r.1 = seen_is (assign variable.0.0 value.0) variable.0.1 r variable.2 in
    rw (found, said) (bound_so (path ++ 2 ∷ []) scope form.variable (kind_of value.0) target.0 variable.0 variable.1 ∙ is)

-- ---- get

pub get_first : (tables : List TableShape) (path : List ℕ) (scope : List Seen) (form : GetParts) → IsFirst (get_at tables path scope form) (in_get tables path scope form)
unfolding get_at
get_first tables path scope form =
    let last = broken (agree (type_found (found_in form.variable scope)) (column_type_said tables form.table form.column)) (At TypeMismatch (path ++ 4 ∷ [])) in
    let key = not_int (path ++ 3 ∷ []) scope form.key in
    let column = not_column (path ++ 4 ∷ []) tables form.table form.column in
    let expr = in_statement_expr tables (path ++ 3 ∷ []) scope form.key in
    let table = not_table (path ++ 2 ∷ []) tables form.table in
    bind_first (target_at (path ++ 1 ∷ []) scope form.variable) _ (in_target (path ++ 1 ∷ []) form.variable (found_in form.variable scope)) (table ++ (expr ++ (column ++ (key ++ last))))
    (target_first (path ++ 1 ∷ []) form.variable (found_in form.variable scope)) (λ target target_is.
    bind_first (table_called (path ++ 2 ∷ []) tables form.table) _ table (expr ++ (column ++ (key ++ last)))
    (found_first (At UnknownTable (path ++ 2 ∷ [])) (table_named tables form.table)) (λ place place_is.
    bind_first (statement_expr tables (path ++ 3 ∷ []) scope form.key) _ expr (column ++ (key ++ last))
    (statement_expr_first tables (path ++ 3 ∷ []) scope form.key) (λ e e_is.
    bind_first (column_called (path ++ 4 ∷ []) tables place form.column) _ column (key ++ last)
    (column_first (path ++ 4 ∷ []) tables form.table form.column place (table_so (path ++ 2 ∷ []) tables form.table place place_is)) (λ c c_is.
    bind_first (as_int (path ++ 3 ∷ []) e) _ key last
    (int_first (path ++ 3 ∷ []) scope form.key e (statement_expr_so tables (path ++ 3 ∷ []) scope form.key e e_is)) (λ k _.
    ok_first (bound (path ++ 4 ∷ []) scope form.variable c.1 target) (λ v. (get v.0 place k c.0, v.1)) last
    (known target c
    (target_so (path ++ 1 ∷ []) form.variable (found_in form.variable scope) target target_is)
    (column_type_so (path ++ 4 ∷ []) tables form.table form.column place c (table_so (path ++ 2 ∷ []) tables form.table place place_is) c_is)))))))
  where
    known : (target : Option Found) (c : ℕ × ColType) → found_in form.variable scope ≡ target → column_type_said tables form.table form.column ≡ Some c.1
        → IsFirst (bound (path ++ 4 ∷ []) scope form.variable c.1 target) (broken (agree (type_found (found_in form.variable scope)) (column_type_said tables form.table form.column)) (At TypeMismatch (path ++ 4 ∷ [])))
    known target c t e = rw (t, e) (bound_first (path ++ 4 ∷ []) scope form.variable c.1 target)

pub get_so : (tables : List TableShape) (path : List ℕ) (scope : List Seen) (form : GetParts) (r : StmtSyntax × List Seen) → get_at tables path scope form ≡ Ok r
    → seen_with scope form.variable (found_in form.variable scope) (column_type_said tables form.table form.column) ≡ r.1
unfolding get_at
get_so tables path scope form r e =
    let target = bind_ok (target_at (path ++ 1 ∷ []) scope form.variable) _ r e in
    let table = bind_ok (table_called (path ++ 2 ∷ []) tables form.table) _ r target.2 in
    let expr = bind_ok (statement_expr tables (path ++ 3 ∷ []) scope form.key) _ r table.2 in
    let column = bind_ok (column_called (path ++ 4 ∷ []) tables table.0 form.column) _ r expr.2 in
    let key = bind_ok (as_int (path ++ 3 ∷ []) expr.0) _ r column.2 in
    let variable = bind_ok (bound (path ++ 4 ∷ []) scope form.variable column.0.1 target.0) _ r key.2 in
    let found : found_in form.variable scope ≡ target.0 = target_so (path ++ 1 ∷ []) form.variable (found_in form.variable scope) target.0 target.1 in
    let said : column_type_said tables form.table form.column ≡ Some column.0.1 = column_type_so (path ++ 4 ∷ []) tables form.table form.column table.0 column.0 (table_so (path ++ 2 ∷ []) tables form.table table.0 table.1) column.1 in
    let is : variable.0.1 ≡ r.1 = seen_is (get variable.0.0 table.0 key.0 column.0.0) variable.0.1 r variable.2 in
    rw (found, said) (bound_so (path ++ 4 ∷ []) scope form.variable column.0.1 target.0 variable.0 variable.1 ∙ is)

-- ---- put

-- a value, which is stored in a column of a type
of_first : (path : List ℕ) (kind : ColType) (v : ValueSyntax) → IsFirst (of_type path kind v) (broken (agree (Some (kind_of v)) (Some kind)) (At TypeMismatch path))
of_first path kind v = if_first (same_type (kind_of v) kind) (At TypeMismatch path) v

pub put_first : (tables : List TableShape) (path : List ℕ) (scope : List Seen) (form : PutParts) → IsFirst (put_at tables path scope form) (in_put tables path scope form)
unfolding put_at
put_first tables path scope form =
    let last = broken (agree (kind_said scope form.value) (column_type_said tables form.table form.column)) (At TypeMismatch (path ++ 4 ∷ [])) in
    let value = not_value (path ++ 4 ∷ []) scope form.value in
    let key = not_int (path ++ 2 ∷ []) scope form.key in
    let stored = in_statement_expr tables (path ++ 4 ∷ []) scope form.value in
    let column = not_column (path ++ 3 ∷ []) tables form.table form.column in
    let expr = in_statement_expr tables (path ++ 2 ∷ []) scope form.key in
    let table = not_table (path ++ 1 ∷ []) tables form.table in
    bind_first (table_called (path ++ 1 ∷ []) tables form.table) _ table (expr ++ (column ++ (stored ++ (key ++ (value ++ last)))))
    (found_first (At UnknownTable (path ++ 1 ∷ [])) (table_named tables form.table)) (λ place place_is.
    bind_first (statement_expr tables (path ++ 2 ∷ []) scope form.key) _ expr (column ++ (stored ++ (key ++ (value ++ last))))
    (statement_expr_first tables (path ++ 2 ∷ []) scope form.key) (λ k k_is.
    bind_first (column_called (path ++ 3 ∷ []) tables place form.column) _ column (stored ++ (key ++ (value ++ last)))
    (column_first (path ++ 3 ∷ []) tables form.table form.column place (table_so (path ++ 1 ∷ []) tables form.table place place_is)) (λ c c_is.
    bind_first (statement_expr tables (path ++ 4 ∷ []) scope form.value) _ stored (key ++ (value ++ last))
    (statement_expr_first tables (path ++ 4 ∷ []) scope form.value) (λ x x_is.
    bind_first (as_int (path ++ 2 ∷ []) k) _ key (value ++ last)
    (int_first (path ++ 2 ∷ []) scope form.key k (statement_expr_so tables (path ++ 2 ∷ []) scope form.key k k_is)) (λ i _.
    bind_first (as_value (path ++ 4 ∷ []) x) _ value last
    (value_first (path ++ 4 ∷ []) scope form.value x (statement_expr_so tables (path ++ 4 ∷ []) scope form.value x x_is)) (λ v v_is.
    ok_first (of_type (path ++ 4 ∷ []) c.1 v) (λ w. put place i c.0 w) last
    (known c x v
    (column_type_so (path ++ 3 ∷ []) tables form.table form.column place c (table_so (path ++ 1 ∷ []) tables form.table place place_is) c_is)
    (statement_expr_so tables (path ++ 4 ∷ []) scope form.value x x_is) v_is)))))))
  where
    known : (c : ℕ × ColType) (x : ExprSyntax) (v : ValueSyntax) → column_type_said tables form.table form.column ≡ Some c.1 → type_said scope form.value ≡ Some (type_read x) → as_value (path ++ 4 ∷ []) x ≡ Ok v
        → IsFirst (of_type (path ++ 4 ∷ []) c.1 v) (broken (agree (kind_said scope form.value) (column_type_said tables form.table form.column)) (At TypeMismatch (path ++ 4 ∷ [])))
    known c x v e t h = rw (e, kind_so (path ++ 4 ∷ []) scope form.value x v t h) (of_first (path ++ 4 ∷ []) c.1 v)

-- ---- insert

-- the types of the columns of the table that was read
kinds_so : (tables : List TableShape) (name : List ℕ) (place : ℕ) → table_named tables name ≡ Some place → kinds_said tables name ≡ kinds_in tables place
kinds_so tables name place e = ap (λ (o : Option ℕ). unwrap_or (option_and_then (column_kinds tables) o) []) e

stored_first : (path : List ℕ) (scope : List Seen) (kind : ColType) (d : Data) (e : ExprSyntax) → type_said scope d ≡ Some (type_read e) → IsFirst (stored_at path kind e) (not_stored path scope kind d)
stored_first path scope kind d e typed =
    bind_first (as_value path e) (of_type path kind) (not_value path scope d) (broken (agree (kind_said scope d) (Some kind)) (At TypeMismatch path)) (value_first path scope d e typed) (λ v v_is.
    known v (kind_so path scope d e v typed v_is))
  where
    known : (v : ValueSyntax) → kind_said scope d ≡ Some (kind_of v) → IsFirst (of_type path kind v) (broken (agree (kind_said scope d) (Some kind)) (At TypeMismatch path))
    known v is = rw is (of_first path kind v)

row_first : (path : List ℕ) (scope : List Seen) (place : ℕ) (before : List ValueSyntax) (kinds : List ColType) (ds : List Data) (es : List ExprSyntax) → AreTyped scope ds es
    → IsFirst (each_from (λ p b c. appended b (stored_at p c.0 c.1)) path place before (zip kinds es)) (in_parts (λ p c. not_stored p scope c.0 c.1) path place (zip kinds ds))
row_first path scope place before [] ds es h = refl
row_first path scope place before (k ∷ kinds) [] [] h = refl
row_first path scope place before (k ∷ kinds) [] (e ∷ es) h = absurd h
row_first path scope place before (k ∷ kinds) (d ∷ ds) [] h = absurd h
row_first path scope place before (k ∷ kinds) (d ∷ ds) (e ∷ es) h =
    let p = path ++ place ∷ [] in
    bind_first (appended before (stored_at p k e)) _ (not_stored p scope k d) (in_parts (λ q c. not_stored q scope c.0 c.1) path (place + 1) (zip kinds ds))
    (ok_first (stored_at p k e) (λ v. before ++ v ∷ []) (not_stored p scope k d) (stored_first p scope k d e h.0)) (λ so_far _.
    row_first path scope (place + 1) so_far kinds ds es h.1)

pub insert_first : (tables : List TableShape) (path : List ℕ) (scope : List Seen) (form : InsertParts) → IsFirst (insert_at tables path scope form) (in_insert tables path scope form)
unfolding insert_at
insert_first tables path scope form =
    let p = path ++ 2 ∷ [] in
    let q = path ++ 3 ∷ [] in
    let table = not_table (path ++ 1 ∷ []) tables form.table in
    let expr = in_statement_expr tables p scope form.key in
    let key = not_int p scope form.key in
    let parts = in_parts (λ r d. in_statement_expr tables r scope d) q 0 form.values in
    let many = broken (eqb (length form.values) (length (kinds_said tables form.table))) (At Shape q) in
    let kinds = in_parts (λ r c. not_stored r scope c.0 c.1) q 0 (zip (kinds_said tables form.table) form.values) in
    bind_first (table_called (path ++ 1 ∷ []) tables form.table) _ table (expr ++ (many ++ (parts ++ (key ++ kinds))))
    (found_first (At UnknownTable (path ++ 1 ∷ [])) (table_named tables form.table)) (λ place place_is.
    bind_first (statement_expr tables p scope form.key) _ expr (many ++ (parts ++ (key ++ kinds))) (statement_expr_first tables p scope form.key) (λ k k_is.
    rw (kinds_so tables form.table place (table_so (path ++ 1 ∷ []) tables form.table place place_is))
    (rest p q place k (statement_expr_so tables p scope form.key k k_is))))
  where
    rest : (p q : List ℕ) (place : ℕ) (k : ExprSyntax) → type_said scope form.key ≡ Some (type_read k) → IsFirst {A = StmtSyntax} (rule (eqb (length form.values) (length (kinds_in tables place))) (At Shape q) >>= λ _. exprs_at tables q 0 scope form.values >>= λ es. as_int p k >>= λ i. row_values_at q (kinds_in tables place) es >>= λ vs. Ok (insert_row place i vs))
        (broken (eqb (length form.values) (length (kinds_in tables place))) (At Shape q) ++ (in_parts (λ r d. in_statement_expr tables r scope d) q 0 form.values ++ (not_int p scope form.key ++ in_parts (λ r c. not_stored r scope c.0 c.1) q 0 (zip (kinds_in tables place) form.values))))
    rest p q place k typed =
        let key = not_int p scope form.key in
        let parts = in_parts (λ r d. in_statement_expr tables r scope d) q 0 form.values in
        let kinds = in_parts (λ r c. not_stored r scope c.0 c.1) q 0 (zip (kinds_in tables place) form.values) in
        rule_first (eqb (length form.values) (length (kinds_in tables place))) (At Shape q) _ (parts ++ (key ++ kinds))
        (bind_first (exprs_at tables q 0 scope form.values) _ parts (key ++ kinds) (exprs_first tables q 0 scope form.values) (λ es es_are.
        bind_first (as_int p k) _ key kinds (int_first p scope form.key k typed) (λ i _.
        ok_first (row_values_at q (kinds_in tables place) es) (λ vs. insert_row place i vs) kinds
        (row_first q scope 0 [] (kinds_in tables place) form.values es (exprs_so tables q 0 scope form.values es es_are)))))

-- ---- delete

pub delete_first : (tables : List TableShape) (path : List ℕ) (scope : List Seen) (form : DeleteParts) → IsFirst (delete_at tables path scope form) (in_delete tables path scope form)
unfolding delete_at
delete_first tables path scope form =
    let p = path ++ 2 ∷ [] in
    let table = not_table (path ++ 1 ∷ []) tables form.table in
    let expr = in_statement_expr tables p scope form.key in
    let key = not_int p scope form.key in
    bind_first (table_called (path ++ 1 ∷ []) tables form.table) _ table (expr ++ key) (found_first (At UnknownTable (path ++ 1 ∷ [])) (table_named tables form.table)) (λ place place_is.
    bind_first (statement_expr tables p scope form.key) _ expr key (statement_expr_first tables p scope form.key) (λ k k_is.
    ok_first (as_int p k) (λ i. delete_row place i) key (int_first p scope form.key k (statement_expr_so tables p scope form.key k k_is))))

-- ---- abort

pub abort_first : (path : List ℕ) (z : ℤ) → IsFirst (abort_at path z) (in_abort path z)
unfolding abort_at
abort_first path (pos n) = if_first (leb 100 n && leb n 65535) (At AbortCode (path ++ 1 ∷ [])) (abort n)
abort_first path (negsuc n) = refl

-- ---- reply

values_first : (path : List ℕ) (scope : List Seen) (place : ℕ) (before : List ValueSyntax) (ds : List Data) (es : List ExprSyntax) → AreTyped scope ds es
    → IsFirst (each_from (λ p b e. appended b (as_value p e)) path place before es) (in_parts (λ p d. not_value p scope d) path place ds)
values_first path scope place before [] [] h = refl
values_first path scope place before [] (e ∷ es) h = absurd h
values_first path scope place before (d ∷ ds) [] h = absurd h
values_first path scope place before (d ∷ ds) (e ∷ es) h =
    let p = path ++ place ∷ [] in
    bind_first (appended before (as_value p e)) _ (not_value p scope d) (in_parts (λ q x. not_value q scope x) path (place + 1) ds)
    (ok_first (as_value p e) (λ v. before ++ v ∷ []) (not_value p scope d) (value_first p scope d e h.0)) (λ so_far _.
    values_first path scope (place + 1) so_far ds es h.1)

pub reply_first : (tables : List TableShape) (path : List ℕ) (scope : List Seen) (ds : List Data) → IsFirst (reply_at tables path scope ds) (in_reply tables path scope ds)
unfolding reply_at
reply_first tables path scope ds =
    let kinds = in_parts (λ p d. not_value p scope d) path 1 ds in
    let parts = in_parts (λ p d. in_statement_expr tables p scope d) path 1 ds in
    rule_first (leb (length ds) 64) (At Limit path) _ (parts ++ kinds)
    (bind_first (exprs_at tables path 1 scope ds) _ parts kinds (exprs_first tables path 1 scope ds) (λ es es_are.
    ok_first (values_at path es) reply kinds (values_first path scope 1 [] ds es (exprs_so tables path 1 scope ds es es_are))))
