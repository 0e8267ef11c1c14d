-- The faults of variables that get a value, and of lists of expressions, are the first rules that are broken.
use Rattle.std.proofs.Common.{◌≡◌, ℕ, ◌+◌, Bool, true, false, not, List, [], ◌∷◌, ◌++◌, length, Option, Some, None, Result, Ok, refl, sym, ap, ◌∙◌, subst, append_assoc}
use Rattle.std.specs.Prelude.{⊤}
use Rattle.std.proofs.lemmas.List.{append-nil}
use Rattle.serde_json.specs.Data.{Data}
use Rattle.documents.specs.FirstFault.{broken, IsFirst}
use Rattle.documents.proofs.FirstFault.{bind_first, ok_first, rule_last, if_first}
use Rattle.documents.proofs.Steps.{bind_ok, rule_ok}
use Rattle.values.specs.declared.value.ColType.{ColType}
use Rattle.values.specs.Names.{is_name}
use Rattle.catalogue.specs.Shapes.{TableShape}
use Rattle.proclang_types.specs.Syntax.{ExprSyntax, StmtSyntax}
use Rattle.proclang_expressions.specs.declared.fault.FaultKind.TheVariants.{Shape, TypeMismatch, DuplicateName}
use Rattle.proclang_expressions.specs.declared.fault.ProcFault.{ProcFault}
use Rattle.proclang_expressions.specs.declared.fault.ProcFault.TheVariants.{At}
use Rattle.proclang_forms.specs.declared.expr_forms.Section.TheVariants as sections
use Rattle.proclang_expressions.specs.declared.scope.Declaration.TheVariants.{Statement}
use Rattle.proclang_expressions.specs.declared.scope.Found.{Found}
use Rattle.proclang_expressions.specs.Seen.{Seen}
use Rattle.proclang_expressions.specs.Walk.{each_from, appended}
use Rattle.proclang_expressions.specs.Lookups.{same_type, declared_at}
use Rattle.proclang_expressions.specs.Targets.{is_fixed, target_of, bound, loop_name_of}
use Rattle.proclang_expressions.specs.Expressions.{deepest, statement_expr}
use Rattle.proclang_expressions.specs.Values.{exprs_at}
use Rattle.proclang_expressions.specs.ExprTypes.{type_said}
use Rattle.proclang_expressions.specs.BrokenExpressions.{in_statement_expr}
use Rattle.proclang_expressions.specs.BrokenTargets.{in_target, in_loop_name, type_found, agree, seen_with}
use Rattle.proclang_expressions.specs.BrokenParts.{in_parts}
use Rattle.proclang_expressions.proofs.FirstNames.{only_rule_first}
use Rattle.proclang_expressions.proofs.FirstTypes.{type_read, type_so}
use Rattle.proclang_expressions.proofs.FirstExpressions.{expr_first}

-- ---- expressions

pub statement_expr_first : (tables : List TableShape) (path : List ℕ) (scope : List Seen) (d : Data) → IsFirst (statement_expr tables path scope d) (in_statement_expr tables path scope d)
statement_expr_first tables path scope d = expr_first sections.Body tables deepest path scope d

pub statement_expr_so : (tables : List TableShape) (path : List ℕ) (scope : List Seen) (d : Data) (e : ExprSyntax) → statement_expr tables path scope d ≡ Ok e → type_said scope d ≡ Some (type_read e)
statement_expr_so tables path scope d e h = type_so sections.Body tables deepest path scope d e h

-- ---- variables that get a value, and variables of loops

pub target_first : (path : List ℕ) (name : List ℕ) (o : Option Found) → IsFirst (target_of path name o) (in_target path name o)
target_first path name None = rule_last (is_name name) (At Shape path) None
target_first path name (Some v) = rule_last (not (is_fixed v.declaration)) (At DuplicateName path) (Some v)

-- the variable that gets a value is the one that its name finds
pub target_so : (path : List ℕ) (name : List ℕ) (o t : Option Found) → target_of path name o ≡ Ok t → o ≡ t
target_so path name None t e = let h = bind_ok (declared_at path name) (λ _. Ok None) t e in (let g = h.2 in cc)
target_so path name (Some v) t e = let h = rule_ok (not (is_fixed v.declaration)) (At DuplicateName path) (λ _. Ok (Some v)) t e in (let g = h.1 in cc)

pub loop_name_first : (path : List ℕ) (name : List ℕ) (o : Option Found) → IsFirst (loop_name_of path name o) (in_loop_name path name o)
loop_name_first path name None = only_rule_first (is_name name) (At Shape path)
loop_name_first path name (Some v) = refl

-- what is seen after a statement
pub seen_is : (s : StmtSyntax) (scope : List Seen) (r : StmtSyntax × List Seen) → ◌≡◌ {A = Result (StmtSyntax × List Seen) ProcFault} (Ok (s, scope)) (Ok r) → scope ≡ r.1
seen_is s scope r e = cc

pub bound_first : (path : List ℕ) (scope : List Seen) (name : List ℕ) (kind : ColType) (o : Option Found) → IsFirst (bound path scope name kind o) (broken (agree (type_found o) (Some kind)) (At TypeMismatch path))
bound_first path scope name kind None = refl
bound_first path scope name kind (Some v) = if_first (same_type v.kind kind) (At TypeMismatch path) (v.place, scope)

pub bound_so : (path : List ℕ) (scope : List Seen) (name : List ℕ) (kind : ColType) (o : Option Found) (r : ℕ × List Seen) → bound path scope name kind o ≡ Ok r → seen_with scope name o (Some kind) ≡ r.1
bound_so path scope name kind None r e =
    let made : Seen = record { name = name; kind = kind; declaration = Statement } in
    let is : (length scope, scope ++ made ∷ []) ≡ r = cc in
    ap (λ (p : ℕ × List Seen). p.1) is
bound_so path scope name kind (Some v) r e = by (same_type v.kind kind) refl
  where
    by : (b : Bool) → same_type v.kind kind ≡ b → scope ≡ r.1
    by true q =
        let g = rw q at e in
        let is : (v.place, scope) ≡ r = cc in
        ap (λ (p : ℕ × List Seen). p.1) is
    by false q = absurd (let g = rw q at e in cc)

-- ---- parts one after another

pub parts_first : {X D : Type 0} (one : List ℕ → List X → D → Result X ProcFault) (faults : List ℕ → D → List ProcFault) → ((path : List ℕ) (before : List X) (d : D) → IsFirst (one path before d) (faults path d))
    → (path : List ℕ) (place : ℕ) (before : List X) (ds : List D) → IsFirst (each_from (λ p b d. appended b (one p b d)) path place before ds) (in_parts faults path place ds)
parts_first one faults law path place before [] = refl
parts_first one faults law path place before (d ∷ ds) =
    let p = path ++ place ∷ [] in
    bind_first (appended before (one p before d)) _ (faults p d) (in_parts faults path (place + 1) ds)
    (ok_first (one p before d) (λ x. before ++ x ∷ []) (faults p d) (law p before d)) (λ so_far _.
    parts_first one faults law path (place + 1) so_far ds)

pub exprs_first : (tables : List TableShape) (path : List ℕ) (place : ℕ) (scope : List Seen) (ds : List Data) → IsFirst (exprs_at tables path place scope ds) (in_parts (λ p d. in_statement_expr tables p scope d) path place ds)
exprs_first tables path place scope ds = parts_first (λ p b d. statement_expr tables p scope d) (λ p d. in_statement_expr tables p scope d) (λ p b d. statement_expr_first tables p scope d) path place [] ds

-- each expression has the type that its document says
abbrev pub AreTyped : List Seen → List Data → List ExprSyntax → Type 0
AreTyped scope [] [] = ⊤
AreTyped scope (d ∷ ds) (e ∷ es) = (type_said scope d ≡ Some (type_read e)) × AreTyped scope ds es
AreTyped scope ds es = ⊥

exprs_after_so : (tables : List TableShape) (path : List ℕ) (scope : List Seen) (place : ℕ) (before : List ExprSyntax) (ds : List Data) (all : List ExprSyntax)
    → each_from (λ p b d. appended b (statement_expr tables p scope d)) path place before ds ≡ Ok all → (rest : List ExprSyntax) × (all ≡ before ++ rest) × AreTyped scope ds rest
exprs_after_so tables path scope place before [] all e = let is : before ≡ all = cc in ([], sym is ∙ sym (append-nil before), tt)
exprs_after_so tables path scope place before (d ∷ ds) all e =
    let p = path ++ place ∷ [] in
    let step = bind_ok (appended before (statement_expr tables p scope d)) _ all e in
    let x = bind_ok (statement_expr tables p scope d) _ step.0 step.1 in
    let is : before ++ x.0 ∷ [] ≡ step.0 = (let g = x.2 in cc) in
    let others = exprs_after_so tables path scope (place + 1) step.0 ds all step.2 in
    (x.0 ∷ others.0, others.1 ∙ ap (λ (es : List ExprSyntax). es ++ others.0) (sym is) ∙ append_assoc before (x.0 ∷ []) others.0, (statement_expr_so tables p scope d x.0 x.1, others.2))

pub exprs_so : (tables : List TableShape) (path : List ℕ) (place : ℕ) (scope : List Seen) (ds : List Data) (es : List ExprSyntax) → exprs_at tables path place scope ds ≡ Ok es → AreTyped scope ds es
exprs_so tables path place scope ds es e =
    let typed = exprs_after_so tables path scope place [] ds es e in
    subst (AreTyped scope ds) (sym typed.1) typed.2
