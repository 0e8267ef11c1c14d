-- A statement keeps the variables that are seen before it, each at its place.
use Rattle.std.proofs.Common.{◌≡◌, ℕ, ◌≤◌, Bool, true, false, List, [], ◌∷◌, ◌++◌, length, take, Option, Some, None, Result, Ok, Err, refl, sym, ap, ◌∙◌, subst, arith, length-take}
use Rattle.std.proofs.lemmas.List.{append-nil, take-append-le}
use Rattle.serde_json.specs.Data.{Data}
use Rattle.documents.specs.Reading.{formed}
use Rattle.documents.proofs.Steps.{bind_ok}
use Rattle.values.specs.declared.value.ColType.{ColType}
use Rattle.catalogue.specs.Shapes.{TableShape}
use Rattle.proclang_types.specs.Syntax.{StmtSyntax, assign, get}
use Rattle.proclang_types.specs.Typing.{kind_of}
use Rattle.proclang_expressions.specs.declared.fault.FaultKind.TheVariants.{Shape}
use Rattle.proclang_expressions.specs.declared.fault.ProcFault.{ProcFault}
use Rattle.proclang_expressions.specs.declared.fault.ProcFault.TheVariants.{At}
use Rattle.proclang_expressions.specs.declared.scope.Declaration.TheVariants.{Statement}
use Rattle.proclang_expressions.specs.declared.scope.Found.{Found}
use Rattle.proclang_expressions.specs.Seen.{Seen}
use Rattle.proclang_expressions.specs.Lookups.{same_type, table_called, column_called}
use Rattle.proclang_expressions.specs.Expressions.{as_int, as_value, statement_expr}
use Rattle.proclang_forms.specs.StmtForms.{LetParts, GetParts, StatementForm, let_parts, get_parts, put_parts, insert_parts, delete_parts, if_parts, for_parts, each_parts, abort_code, reply_values, statement_form}
use Rattle.proclang_expressions.specs.Targets.{target_at, bound}
use Rattle.proclang.specs.Statements.{let_at, get_at, put_at, insert_at, delete_at, BlockReader, if_at, for_at, each_loop_at, abort_at, reply_at, in_scope, form_at, statement_at}

after_is : {A B F : Type 0} (x : A) (y : B) (r : A × B) → ◌≡◌ {A = Result (A × B) F} (Ok (x, y)) (Ok r) → y ≡ r.1
after_is x y r e = cc

pub record Extends (old new : List Seen) : Type 0 where
  pub more : List Seen
  pub is : new ≡ old ++ more

same : (old new : List Seen) → old ≡ new → Extends old new
same old new e = record { more = []; is = sym e ∙ sym (append-nil old) }

bound_extends : (path : List ℕ) (scope : List Seen) (name : List ℕ) (kind : ColType) (target : Option Found) (r : ℕ × List Seen) → bound path scope name kind target ≡ Ok r → Extends scope r.1
bound_extends path scope name kind None r e = record { more = record { name = name; kind = kind; declaration = Statement } ∷ []; is = cc }
bound_extends path scope name kind (Some v) r e = by (same_type v.kind kind) refl
  where
    by : (b : Bool) → same_type v.kind kind ≡ b → Extends scope r.1
    by true p = same scope r.1 (let h = rw p at e in cc)
    by false p = absurd (let h = rw p at e in cc)

get_extends : (tables : List TableShape) (path : List ℕ) (scope : List Seen) (form : GetParts) (r : StmtSyntax × List Seen) → get_at tables path scope form ≡ Ok r → Extends scope r.1
unfolding get_at
get_extends tables path scope form r e =
    let target = bind_ok (target_at (path ++ 1 ∷ []) scope form.variable) _ r e in
    let table = bind_ok (table_called (path ++ 2 ∷ []) tables form.table) _ r target.2 in
    let expr = bind_ok (statement_expr tables (path ++ 3 ∷ []) scope form.key) _ r table.2 in
    let column = bind_ok (column_called (path ++ 4 ∷ []) tables table.0 form.column) _ r expr.2 in
    let key = bind_ok (as_int (path ++ 3 ∷ []) expr.0) _ r column.2 in
    let variable = bind_ok (bound (path ++ 4 ∷ []) scope form.variable column.0.1 target.0) _ r key.2 in
    let is : variable.0.1 ≡ r.1 = after_is (get variable.0.0 table.0 key.0 column.0.0) variable.0.1 r variable.2 in
    subst (λ (s : List Seen). Extends scope s) is (bound_extends (path ++ 4 ∷ []) scope form.variable column.0.1 target.0 variable.0 variable.1)

let_extends : (tables : List TableShape) (path : List ℕ) (scope : List Seen) (form : LetParts) (r : StmtSyntax × List Seen) → let_at tables path scope form ≡ Ok r → Extends scope r.1
unfolding let_at
let_extends tables path scope form r e =
    let target = bind_ok (target_at (path ++ 1 ∷ []) scope form.variable) _ r e in
    let expr = bind_ok (statement_expr tables (path ++ 2 ∷ []) scope form.value) _ r target.2 in
    let value = bind_ok (as_value (path ++ 2 ∷ []) expr.0) _ r expr.2 in
    let variable = bind_ok (bound (path ++ 2 ∷ []) scope form.variable (kind_of value.0) target.0) _ r value.2 in
    let is : variable.0.1 ≡ r.1 = after_is (assign variable.0.0 value.0) variable.0.1 r variable.2 in
    subst (λ (s : List Seen). Extends scope s) is (bound_extends (path ++ 2 ∷ []) scope form.variable (kind_of value.0) target.0 variable.0 variable.1)

scoped_extends : (scope : List Seen) (read : Result StmtSyntax ProcFault) (r : StmtSyntax × List Seen) → in_scope scope read ≡ Ok r → Extends scope r.1
scoped_extends scope (Ok s) r e = same scope r.1 cc
scoped_extends scope (Err f) r e = absurd cc

form_extends : (tables : List TableShape) (block : BlockReader) (path : List ℕ) (scope : List Seen) (f : StatementForm) (r : StmtSyntax × List Seen) → form_at tables block path scope f ≡ Ok r → Extends scope r.1
unfolding form_at
form_extends tables block path scope (let_parts form) r e = let_extends tables path scope form r e
form_extends tables block path scope (get_parts form) r e = get_extends tables path scope form r e
form_extends tables block path scope (put_parts form) r e = scoped_extends scope (put_at tables path scope form) r e
form_extends tables block path scope (insert_parts form) r e = scoped_extends scope (insert_at tables path scope form) r e
form_extends tables block path scope (delete_parts form) r e = scoped_extends scope (delete_at tables path scope form) r e
form_extends tables block path scope (if_parts form) r e = scoped_extends scope (if_at tables block path scope form) r e
form_extends tables block path scope (for_parts form) r e = scoped_extends scope (for_at tables block path scope form) r e
form_extends tables block path scope (each_parts form) r e = scoped_extends scope (each_loop_at tables block path scope form) r e
form_extends tables block path scope (abort_code z) r e = scoped_extends scope (abort_at path z) r e
form_extends tables block path scope (reply_values ds) r e = scoped_extends scope (reply_at tables path scope ds) r e

pub statement_extends : (tables : List TableShape) (block : BlockReader) (path : List ℕ) (scope : List Seen) (d : Data) (r : StmtSyntax × List Seen) → statement_at tables block path scope d ≡ Ok r → Extends scope r.1
statement_extends tables block path scope d r e =
    let f = bind_ok (formed (At Shape path) (statement_form d)) _ r e in
    form_extends tables block path scope f.0 r f.2

-- and so a scope of which the first variables are kept
pub keeps : (old scope new : List Seen) → take (length old) scope ≡ old → Extends scope new → take (length old) new ≡ old
keeps old scope new e x =
    let long : length old ≤ length scope = omega (arith, length-take (length old) scope, ap length e) in
    rw x.is (take-append-le (length old) scope x.more long ∙ e)
