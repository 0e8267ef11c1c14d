-- A statement without blocks that is read fits the catalogue and the variables that are seen.
use Rattle.std.proofs.Common.{◌≡◌, ℕ, zero, suc, ℤ, pos, negsuc, ◌+◌, ◌<◌, Bool, true, false, eqb, leb, List, [], ◌∷◌, ◌++◌, length, map, Some, unwrap_or, Result, Ok, refl, sym, ap, ◌∙◌, subst, append_assoc, arith}
use Rattle.std.specs.List.{AllByRecursion, zip}
use Rattle.std.proofs.lemmas.List.{append-nil, length-append}
use Rattle.std.proofs.lemmas.Bool.{leb-true, eqb-true}
use Rattle.serde_json.specs.Data.{Data}
use Rattle.documents.proofs.Steps.{bind_ok, rule_ok, formed_ok}
use Rattle.values.specs.declared.value.ColType.{ColType}
use Rattle.values.specs.declared.value.ColType.TheVariants as types
use Rattle.catalogue.specs.Shapes.{TableShape}
use Rattle.proclang_types.specs.Syntax.{IntSyntax, ExprSyntax, ValueSyntax, StmtSyntax, assign, get, put, insert_row, delete_row, abort, reply}
use Rattle.proclang_types.specs.Typing.{column_kind, column_kinds, IntFits, ExprFits, ValueFits, kind_of, declared, scope_after, StmtFits}
use Rattle.proclang_expressions.specs.declared.fault.FaultKind.TheVariants.{Shape, UnknownColumn}
use Rattle.proclang_expressions.specs.declared.fault.ProcFault.{ProcFault}
use Rattle.proclang_expressions.specs.declared.fault.ProcFault.TheVariants.{At}
use Rattle.proclang_expressions.specs.Seen.{Seen, seen_kinds, found_in}
use Rattle.proclang_expressions.specs.Walk.{each_from, appended, at_most}
use Rattle.proclang_expressions.specs.Lookups.{table_called, column_in, column_called}
use Rattle.proclang_expressions.specs.Targets.{target_at, bound}
use Rattle.proclang_expressions.specs.Expressions.{as_int, as_value, statement_expr}
use Rattle.proclang_forms.specs.StmtForms.{LetParts, GetParts, PutParts, InsertParts, DeleteParts}
use Rattle.proclang_expressions.specs.Values.{of_type, exprs_at, stored_at, row_values_at, kinds_in, values_at}
use Rattle.proclang.specs.Statements.{let_at, get_at, put_at, insert_at, delete_at, abort_at, reply_at}
use Rattle.proclang_expressions.proofs.TypedExpressions.{table_there, column_fits, value_fits}
use Rattle.proclang_expressions.proofs.TypedParts.{statement_expr_fits, key_fits, target_is, IsBound, bound_fits, all_push, exprs_fit, typed_is}

-- ---- statements

-- a statement fits, and leaves the variables that are seen after it
abbrev pub Fit : List TableShape → List Seen → StmtSyntax × List Seen → Type 0
Fit tables scope r = StmtFits tables (seen_kinds scope) r.0 × (scope_after tables (seen_kinds scope) r.0 ≡ seen_kinds r.1)

-- a statement fits, and declares nothing
abbrev pub FitAlone : List TableShape → List Seen → StmtSyntax → Type 0
FitAlone tables scope s = StmtFits tables (seen_kinds scope) s × (scope_after tables (seen_kinds scope) s ≡ seen_kinds scope)

pub let_fits : (tables : List TableShape) (path : List ℕ) (scope : List Seen) (form : LetParts) (r : StmtSyntax × List Seen) → let_at tables path scope form ≡ Ok r → Fit tables scope r
unfolding let_at
let_fits tables path scope form r e =
    let target = bind_ok (target_at (path ++ 1 ∷ []) scope form.variable) _ r e in
    let expr = bind_ok (statement_expr tables (path ++ 2 ∷ []) scope form.value) _ r target.2 in
    let value = bind_ok (as_value (path ++ 2 ∷ []) expr.0) _ r expr.2 in
    let variable = bind_ok (bound (path ++ 2 ∷ []) scope form.variable (kind_of value.0) target.0) _ r value.2 in
    let found : found_in form.variable scope ≡ target.0 = target_is (path ++ 1 ∷ []) form.variable (found_in form.variable scope) target.0 target.1 in
    let known = bound_fits (path ++ 2 ∷ []) scope form.variable (kind_of value.0) target.0 variable.0 found variable.1 in
    let fits : ValueFits tables (seen_kinds scope) value.0 = value_fits tables (seen_kinds scope) (path ++ 2 ∷ []) expr.0 value.0 (statement_expr_fits tables (path ++ 2 ∷ []) scope form.value expr.0 expr.1) value.1 in
    let is : (assign variable.0.0 value.0, variable.0.1) ≡ r = (let h = variable.2 in cc) in
    subst (Fit tables scope) is ((fits, known.takes), known.after)

pub get_fits : (tables : List TableShape) (path : List ℕ) (scope : List Seen) (form : GetParts) (r : StmtSyntax × List Seen) → get_at tables path scope form ≡ Ok r → Fit tables scope r
unfolding get_at
get_fits tables path scope form r e =
    let target = bind_ok (target_at (path ++ 1 ∷ []) scope form.variable) _ r e in
    let table = bind_ok (table_called (path ++ 2 ∷ []) tables form.table) _ r target.2 in
    let expr = bind_ok (statement_expr tables (path ++ 3 ∷ []) scope form.key) _ r table.2 in
    let column = bind_ok (column_called (path ++ 4 ∷ []) tables table.0 form.column) _ r expr.2 in
    let key = bind_ok (as_int (path ++ 3 ∷ []) expr.0) _ r column.2 in
    let variable = bind_ok (bound (path ++ 4 ∷ []) scope form.variable column.0.1 target.0) _ r key.2 in
    let found : found_in form.variable scope ≡ target.0 = target_is (path ++ 1 ∷ []) form.variable (found_in form.variable scope) target.0 target.1 in
    let known = bound_fits (path ++ 4 ∷ []) scope form.variable column.0.1 target.0 variable.0 found variable.1 in
    let kind : column_kind tables table.0 column.0.0 ≡ Some column.0.1 = column_fits tables table.0 form.column column.0 (formed_ok (At UnknownColumn (path ++ 4 ∷ [])) (column_in tables table.0 form.column) column.0 column.1) in
    let fits : IntFits tables (seen_kinds scope) key.0 = key_fits tables (path ++ 3 ∷ []) scope form.key expr.0 key.0 expr.1 key.1 in
    got tables scope table.0 key.0 column.0.0 column.0.1 variable.0 r kind fits known variable.2
  where
    got : (tables : List TableShape) (scope : List Seen) (table : ℕ) (key : IntSyntax) (column : ℕ) (kind : ColType) (v : ℕ × List Seen) (r : StmtSyntax × List Seen)
        → column_kind tables table column ≡ Some kind → IntFits tables (seen_kinds scope) key → IsBound scope kind v → ◌≡◌ {A = Result (StmtSyntax × List Seen) ProcFault} (Ok (get v.0 table key column, v.1)) (Ok r) → Fit tables scope r
    got tables scope table key column kind v r is_kind fits known e =
        let is : (get v.0 table key column, v.1) ≡ r = cc in
        let same : declared (seen_kinds scope) v.0 (unwrap_or (column_kind tables table column) types.Int) ≡ seen_kinds v.1 = rw is_kind known.after in
        subst (Fit tables scope) is ((fits, (kind, is_kind, known.takes)), same)

pub put_fits : (tables : List TableShape) (path : List ℕ) (scope : List Seen) (form : PutParts) (s : StmtSyntax) → put_at tables path scope form ≡ Ok s → FitAlone tables scope s
unfolding put_at
put_fits tables path scope form s e =
    let table = bind_ok (table_called (path ++ 1 ∷ []) tables form.table) _ s e in
    let k = bind_ok (statement_expr tables (path ++ 2 ∷ []) scope form.key) _ s table.2 in
    let column = bind_ok (column_called (path ++ 3 ∷ []) tables table.0 form.column) _ s k.2 in
    let x = bind_ok (statement_expr tables (path ++ 4 ∷ []) scope form.value) _ s column.2 in
    let key = bind_ok (as_int (path ++ 2 ∷ []) k.0) _ s x.2 in
    let v = bind_ok (as_value (path ++ 4 ∷ []) x.0) _ s key.2 in
    let value = bind_ok (of_type (path ++ 4 ∷ []) column.0.1 v.0) _ s v.2 in
    let typed = typed_is (path ++ 4 ∷ []) column.0.1 v.0 value.0 value.1 in
    let kind : column_kind tables table.0 column.0.0 ≡ Some column.0.1 = column_fits tables table.0 form.column column.0 (formed_ok (At UnknownColumn (path ++ 3 ∷ [])) (column_in tables table.0 form.column) column.0 column.1) in
    let is_key : IntFits tables (seen_kinds scope) key.0 = key_fits tables (path ++ 2 ∷ []) scope form.key k.0 key.0 k.1 key.1 in
    let v_fits : ValueFits tables (seen_kinds scope) v.0 = value_fits tables (seen_kinds scope) (path ++ 4 ∷ []) x.0 v.0 (statement_expr_fits tables (path ++ 4 ∷ []) scope form.value x.0 x.1) v.1 in
    stored tables scope table.0 key.0 column.0.0 column.0.1 value.0 s kind is_key (subst (ValueFits tables (seen_kinds scope)) typed.0 v_fits) typed.1 value.2
  where
    stored : (tables : List TableShape) (scope : List Seen) (table : ℕ) (key : IntSyntax) (column : ℕ) (kind : ColType) (value : ValueSyntax) (s : StmtSyntax)
        → column_kind tables table column ≡ Some kind → IntFits tables (seen_kinds scope) key → ValueFits tables (seen_kinds scope) value → kind_of value ≡ kind → ◌≡◌ {A = Result StmtSyntax ProcFault} (Ok (put table key column value)) (Ok s) → FitAlone tables scope s
    stored tables scope table key column kind value s is_kind fits value_fits same e =
        let is : put table key column value ≡ s = cc in
        subst (FitAlone tables scope) is ((fits, value_fits, is_kind ∙ ap (λ (x : ColType). Some x) (sym same)), refl)

-- ---- insert and delete

-- each value fits, and the values have the columns' types
pub record AreStored (tables : List TableShape) (kinds types : List ColType) (all : List ValueSyntax) (before : List ValueSyntax) : Type 0 where
  pub new : List ValueSyntax
  pub is : all ≡ before ++ new
  pub fit : AllByRecursion (ValueFits tables kinds) new
  pub typed : map kind_of new ≡ types

pub row_fits : (tables : List TableShape) (kinds : List ColType) (path : List ℕ) (place : ℕ) (before : List ValueSyntax) (columns : List ColType) (es : List ExprSyntax) (all : List ValueSyntax) → length es ≡ length columns → AllByRecursion (ExprFits tables kinds) es
    → each_from (λ p b c. appended b (stored_at p c.0 c.1)) path place before (zip columns es) ≡ Ok all → AreStored tables kinds columns all before
row_fits tables kinds path place before [] [] all many f e = let is : before ≡ all = cc in record { new = []; is = sym is ∙ sym (append-nil before); fit = tt; typed = refl }
row_fits tables kinds path place before [] (x ∷ es) all many f e = absurd (omega (arith, many))
row_fits tables kinds path place before (k ∷ columns) [] all many f e = absurd (omega (arith, many))
row_fits tables kinds path place before (k ∷ columns) (x ∷ es) all many f e =
    let p = path ++ place ∷ [] in
    let step = bind_ok (appended before (stored_at p k x)) _ all e in
    let v = bind_ok (stored_at p k x) _ step.0 step.1 in
    let is : before ++ v.0 ∷ [] ≡ step.0 = (let g = v.2 in cc) in
    let w = bind_ok (as_value p x) _ v.0 v.1 in
    let typed = typed_is p k w.0 v.0 w.2 in
    let fits : ValueFits tables kinds v.0 = subst (ValueFits tables kinds) typed.0 (value_fits tables kinds p x w.0 f.0 w.1) in
    let others = row_fits tables kinds path (place + 1) step.0 columns es all (omega (arith, many)) f.1 step.2 in
    record {
      new = v.0 ∷ others.new;
      is = others.is ∙ ap (λ (vs : List ValueSyntax). vs ++ others.new) (sym is) ∙ append_assoc before (v.0 ∷ []) others.new;
      fit = (fits, others.fit);
      typed = both (kind_of v.0) k (map kind_of others.new) columns typed.1 others.typed;
    }
  where
    both : (a b : ColType) (xs ys : List ColType) → a ≡ b → xs ≡ ys → a ∷ xs ≡ b ∷ ys
    both a b xs ys p q = rw (p, q) refl

-- as many expressions as documents
pub exprs_many : (tables : List TableShape) (path : List ℕ) (place : ℕ) (scope : List Seen) (before : List ExprSyntax) (ds : List Data) (all : List ExprSyntax)
    → each_from (λ p b d. appended b (statement_expr tables p scope d)) path place before ds ≡ Ok all → length all ≡ length before + length ds
exprs_many tables path place scope before [] all e = let is : before ≡ all = cc in omega (arith, ap length is)
exprs_many tables path place scope before (d ∷ ds) all e =
    let step = bind_ok (appended before (statement_expr tables (path ++ place ∷ []) scope d)) _ all e in
    let x = bind_ok (statement_expr tables (path ++ place ∷ []) scope d) _ step.0 step.1 in
    let is : before ++ x.0 ∷ [] ≡ step.0 = (let g = x.2 in cc) in
    let one : length step.0 ≡ length before + 1 = ap length (sym is) ∙ length-append before (x.0 ∷ []) in
    let others = exprs_many tables path (place + 1) scope step.0 ds all step.2 in
    omega (arith, one, others)

pub exprs_count : (tables : List TableShape) (path : List ℕ) (place : ℕ) (scope : List Seen) (ds : List Data) (es : List ExprSyntax) → exprs_at tables path place scope ds ≡ Ok es → length es ≡ length ds
exprs_count tables path place scope ds es e = let h = exprs_many tables path place scope [] ds es e in omega (arith, h)

-- the types of the columns of a table that is there
pub kinds_there : (tables : List TableShape) (table : ℕ) → table < length tables → column_kinds tables table ≡ Some (kinds_in tables table)
kinds_there [] table lt = absurd (omega (arith, lt))
kinds_there (t ∷ ts) zero lt = refl
kinds_there (t ∷ ts) (suc i) lt = kinds_there ts i (omega (arith, lt))

pub insert_fits : (tables : List TableShape) (path : List ℕ) (scope : List Seen) (form : InsertParts) (s : StmtSyntax) → insert_at tables path scope form ≡ Ok s → FitAlone tables scope s
unfolding insert_at
insert_fits tables path scope form s e =
    let q = path ++ 3 ∷ [] in
    let table = bind_ok (table_called (path ++ 1 ∷ []) tables form.table) _ s e in
    let k = bind_ok (statement_expr tables (path ++ 2 ∷ []) scope form.key) _ s table.2 in
    let many = rule_ok (eqb (length form.values) (length (kinds_in tables table.0))) (At Shape q) _ s k.2 in
    let es = bind_ok (exprs_at tables q 0 scope form.values) _ s many.1 in
    let key = bind_ok (as_int (path ++ 2 ∷ []) k.0) _ s es.2 in
    let vs = bind_ok (row_values_at q (kinds_in tables table.0) es.0) _ s key.2 in
    let is : insert_row table.0 key.0 vs.0 ≡ s = (let h = vs.2 in cc) in
    let count : length form.values ≡ length (kinds_in tables table.0) = eqb-true (length form.values) (length (kinds_in tables table.0)) many.0 in
    let row = row_fits tables (seen_kinds scope) q 0 [] (kinds_in tables table.0) es.0 vs.0 (exprs_count tables q 0 scope form.values es.0 es.1 ∙ count) (exprs_fit tables q 0 scope form.values es.0 es.1) vs.1 in
    let all : AllByRecursion (ValueFits tables (seen_kinds scope)) vs.0 = subst (AllByRecursion (ValueFits tables (seen_kinds scope))) (sym row.is) row.fit in
    let kinds : column_kinds tables table.0 ≡ Some (map kind_of vs.0) =
    kinds_there tables table.0 (table_there tables (path ++ 1 ∷ []) form.table table.0 table.1) ∙ ap (λ (ks : List ColType). Some ks) (sym row.typed ∙ ap (map kind_of) (sym row.is)) in
    subst (FitAlone tables scope) is ((key_fits tables (path ++ 2 ∷ []) scope form.key k.0 key.0 k.1 key.1, (all, kinds)), refl)

pub delete_fits : (tables : List TableShape) (path : List ℕ) (scope : List Seen) (form : DeleteParts) (s : StmtSyntax) → delete_at tables path scope form ≡ Ok s → FitAlone tables scope s
unfolding delete_at
delete_fits tables path scope form s e =
    let table = bind_ok (table_called (path ++ 1 ∷ []) tables form.table) _ s e in
    let k = bind_ok (statement_expr tables (path ++ 2 ∷ []) scope form.key) _ s table.2 in
    let key = bind_ok (as_int (path ++ 2 ∷ []) k.0) _ s k.2 in
    let is : delete_row table.0 key.0 ≡ s = (let h = key.2 in cc) in
    subst (FitAlone tables scope) is ((table_there tables (path ++ 1 ∷ []) form.table table.0 table.1, key_fits tables (path ++ 2 ∷ []) scope form.key k.0 key.0 k.1 key.1), refl)

-- ---- abort

pub abort_fits : (tables : List TableShape) (path : List ℕ) (scope : List Seen) (z : ℤ) (s : StmtSyntax) → abort_at path z ≡ Ok s → FitAlone tables scope s
unfolding abort_at
abort_fits tables path scope (negsuc n) s e = absurd cc
abort_fits tables path scope (pos n) s e = by (leb 100 n) (leb n 65535) refl refl
  where
    by : (a b : Bool) → leb 100 n ≡ a → leb n 65535 ≡ b → FitAlone tables scope s
    by true true p q = let h = rw (p, q) at e in let is : abort n ≡ s = cc in subst (FitAlone tables scope) is ((leb-true 100 n p, leb-true n 65535 q), refl)
    by true false p q = absurd (let h = rw (p, q) at e in cc)
    by false b p q = absurd (let h = rw p at e in cc)

-- ---- replies

values_fit : (tables : List TableShape) (kinds : List ColType) (path : List ℕ) (place : ℕ) (before : List ValueSyntax) (es : List ExprSyntax) (vs : List ValueSyntax) → AllByRecursion (ValueFits tables kinds) before → AllByRecursion (ExprFits tables kinds) es
    → each_from (λ p b x. appended b (as_value p x)) path place before es ≡ Ok vs → AllByRecursion (ValueFits tables kinds) vs
values_fit tables kinds path place before [] vs f g r = let is : before ≡ vs = cc in subst (AllByRecursion (ValueFits tables kinds)) is f
values_fit tables kinds path place before (e ∷ es) vs f g r =
    let step = bind_ok (appended before (as_value (path ++ place ∷ []) e)) _ vs r in
    let v = bind_ok (as_value (path ++ place ∷ []) e) _ step.0 step.1 in
    let is : before ++ v.0 ∷ [] ≡ step.0 = (let h = v.2 in cc) in
    values_fit tables kinds path (place + 1) step.0 es vs (subst (AllByRecursion (ValueFits tables kinds)) is (all_push (ValueFits tables kinds) before v.0 f (value_fits tables kinds (path ++ place ∷ []) e v.0 g.0 v.1))) g.1 step.2

pub reply_fits : (tables : List TableShape) (path : List ℕ) (scope : List Seen) (ds : List Data) (s : StmtSyntax) → reply_at tables path scope ds ≡ Ok s → FitAlone tables scope s
unfolding reply_at
reply_fits tables path scope ds s e =
    let few = bind_ok (at_most path 64 ds) _ s e in
    let es = bind_ok (exprs_at tables path 1 scope ds) _ s few.2 in
    let vs = bind_ok (values_at path es.0) _ s es.2 in
    let is : reply vs.0 ≡ s = (let h = vs.2 in cc) in
    subst (FitAlone tables scope) is (values_fit tables (seen_kinds scope) path 1 [] es.0 vs.0 tt (exprs_fit tables path 1 scope ds es.0 es.1) vs.1, refl)
