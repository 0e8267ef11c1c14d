-- Variables that get a value, and lists of expressions, fit the tables and the variables that are seen.
use Rattle.std.proofs.Common.{◌≡◌, ℕ, zero, suc, ◌+◌, ◌<◌, Bool, true, false, eqb, not, List, [], ◌∷◌, ◌++◌, length, slice_get, Option, Some, None, Result, Ok, refl, sym, ap, ◌∙◌, subst, arith, inl, inr}
use Rattle.std.specs.List.{AllByRecursion}
use Rattle.std.proofs.lemmas.List.{map-append, length-map}
use Rattle.std.proofs.lemmas.Bool.{eq-eqb, ne_eqb}
use Rattle.serde_json.specs.Data.{Data}
use Rattle.documents.proofs.Steps.{bind_ok, rule_ok}
use Rattle.values.specs.declared.value.ColType.{ColType}
use Rattle.values.specs.declared.value.ColType.TheVariants as types
use Rattle.catalogue.specs.Shapes.{TableShape}
use Rattle.proclang_types.specs.Syntax.{IntSyntax, ExprSyntax, ValueSyntax}
use Rattle.proclang_types.specs.Typing.{IntFits, ExprFits, kind_of, Takes, declared, in_loop}
use Rattle.proclang_expressions.specs.declared.fault.FaultKind.TheVariants.{DuplicateName}
use Rattle.proclang_expressions.specs.declared.fault.ProcFault.{ProcFault}
use Rattle.proclang_expressions.specs.declared.fault.ProcFault.TheVariants.{At}
use Rattle.proclang_forms.specs.declared.expr_forms.Section.TheVariants as sections
use Rattle.proclang_expressions.specs.declared.scope.Declaration.TheVariants.{Statement, Loop}
use Rattle.proclang_expressions.specs.declared.scope.Found.{Found}
use Rattle.proclang_expressions.specs.Seen.{Seen, seen_kinds, found_in, seen_in_loop}
use Rattle.proclang_expressions.specs.Walk.{each_from, appended}
use Rattle.proclang_expressions.specs.Lookups.{same_type, declared_at}
use Rattle.proclang_expressions.specs.Targets.{is_fixed, target_of, bound}
use Rattle.proclang_expressions.specs.Expressions.{deepest, as_int, statement_expr}
use Rattle.proclang_expressions.specs.Values.{of_type, exprs_at}
use Rattle.proclang_expressions.proofs.TypedExpressions.{found_fits, types_are, int_fits, expr_fits}

-- ---- expressions

pub statement_expr_fits : (tables : List TableShape) (path : List ℕ) (scope : List Seen) (d : Data) (e : ExprSyntax) → statement_expr tables path scope d ≡ Ok e → ExprFits tables (seen_kinds scope) e
statement_expr_fits tables path scope d e h = expr_fits sections.Body tables deepest path scope d e h

pub key_fits : (tables : List TableShape) (path : List ℕ) (scope : List Seen) (d : Data) (x : ExprSyntax) (k : IntSyntax) → statement_expr tables path scope d ≡ Ok x → as_int path x ≡ Ok k → IntFits tables (seen_kinds scope) k
key_fits tables path scope d x k a b = int_fits tables (seen_kinds scope) path x k (statement_expr_fits tables path scope d x a) b

-- ---- variables that get a value

-- what is found is what the name finds
pub target_is : (path : List ℕ) (name : List ℕ) (o t : Option Found) → target_of path name o ≡ Ok t → o ≡ t
target_is path name None t e = let h = bind_ok (declared_at path name) (λ _. Ok None) t e in (let g = h.2 in cc)
target_is path name (Some v) t e = let h = rule_ok (not (is_fixed v.declaration)) (At DuplicateName path) (λ _. Ok (Some v)) t e in (let g = h.1 in cc)

-- what is known of a variable that gets a value of that type
pub record IsBound (scope : List Seen) (kind : ColType) (r : ℕ × List Seen) : Type 0 where
  pub takes : Takes (seen_kinds scope) r.0 kind
  pub after : declared (seen_kinds scope) r.0 kind ≡ seen_kinds r.1

within : {X : Type 0} (xs : List X) (i : ℕ) (x : X) → slice_get xs i ≡ Some x → i < length xs
within [] i x e = absurd cc
within (y ∷ xs) zero x e = omega arith
within (y ∷ xs) (suc i) x e = let h = within xs i x e in omega (arith, h)

pub bound_fits : (path : List ℕ) (scope : List Seen) (name : List ℕ) (kind : ColType) (target : Option Found) (r : ℕ × List Seen) → found_in name scope ≡ target → bound path scope name kind target ≡ Ok r → IsBound scope kind r
bound_fits path scope name kind None r found e =
    let made : Seen = record { name = name; kind = kind; declaration = Statement } in
    let len : length scope ≡ length (seen_kinds scope) = sym (length-map scope (λ (v : Seen). v.kind)) in
    let at_end : eqb (length scope) (length (seen_kinds scope)) ≡ true = eq-eqb _ _ len in
    let is : (length scope, scope ++ made ∷ []) ≡ r = cc in
    subst (IsBound scope kind) is (record { takes = inl len; after = rw at_end (sym (map-append (λ (v : Seen). v.kind) scope (made ∷ []))) })
bound_fits path scope name kind (Some v) r found e = by (same_type v.kind kind) refl
  where
    by : (b : Bool) → same_type v.kind kind ≡ b → IsBound scope kind r
    by true q =
        let g = rw q at e in
        let is : (v.place, scope) ≡ r = cc in
        let there : slice_get (seen_kinds scope) v.place ≡ Some kind = found_fits name scope v found ∙ ap (λ (x : ColType). Some x) (types_are v.kind kind q) in
        let inside : eqb v.place (length (seen_kinds scope)) ≡ false = ne_eqb _ _ (λ z. let w = within (seen_kinds scope) v.place kind there in omega (arith, w, z)) in
        subst (IsBound scope kind) is (record { takes = inr there; after = rw inside refl })
    by false q = absurd (let g = rw q at e in cc)

-- the types of the variables that are seen in a loop
pub loop_kinds : (scope : List Seen) (name : List ℕ) → seen_kinds (seen_in_loop scope name) ≡ in_loop (seen_kinds scope)
loop_kinds scope name = map-append (λ (v : Seen). v.kind) scope (record { name = name; kind = types.Int; declaration = Loop } ∷ [])

-- ---- parts one after another

pub all_push : {X : Type 0} (P : X → Type 0) (xs : List X) (x : X) → AllByRecursion P xs → P x → AllByRecursion P (xs ++ x ∷ [])
all_push P [] x h p = (p, tt)
all_push P (y ∷ xs) x h p = (h.0, all_push P xs x h.1 p)

-- what is read one after another keeps what each that is read keeps
pub each_keeps : {X D : Type 0} (P : X → Type 0) (one : List ℕ → List X → D → Result X ProcFault) → ((path : List ℕ) (before : List X) (d : D) (x : X) → one path before d ≡ Ok x → P x)
    → (path : List ℕ) (place : ℕ) (before : List X) (ds : List D) (all : List X) → AllByRecursion P before → each_from (λ p b d. appended b (one p b d)) path place before ds ≡ Ok all → AllByRecursion P all
each_keeps P one law path place before [] all h e = let is : before ≡ all = cc in subst (AllByRecursion P) is h
each_keeps P one law path place before (d ∷ ds) all h e =
    let step = bind_ok (appended before (one (path ++ place ∷ []) before d)) _ all e in
    let x = bind_ok (one (path ++ place ∷ []) before d) _ step.0 step.1 in
    let is : before ++ x.0 ∷ [] ≡ step.0 = (let g = x.2 in cc) in
    each_keeps P one law path (place + 1) step.0 ds all (subst (AllByRecursion P) is (all_push P before x.0 h (law (path ++ place ∷ []) before d x.0 x.1))) step.2

pub exprs_fit : (tables : List TableShape) (path : List ℕ) (place : ℕ) (scope : List Seen) (ds : List Data) (es : List ExprSyntax) → exprs_at tables path place scope ds ≡ Ok es → AllByRecursion (ExprFits tables (seen_kinds scope)) es
exprs_fit tables path place scope ds es e = each_keeps (ExprFits tables (seen_kinds scope)) (λ p before d. statement_expr tables p scope d) (λ p before d x h. statement_expr_fits tables p scope d x h) path place [] ds es tt e

pub typed_is : (path : List ℕ) (kind : ColType) (v value : ValueSyntax) → of_type path kind v ≡ Ok value → (v ≡ value) × (kind_of value ≡ kind)
typed_is path kind v value e = by (same_type (kind_of v) kind) refl
  where
    by : (b : Bool) → same_type (kind_of v) kind ≡ b → (v ≡ value) × (kind_of value ≡ kind)
    by true q = let g = rw q at e in let is : v ≡ value = cc in (is, ap kind_of (sym is) ∙ types_are (kind_of v) kind q)
    by false q = absurd (let g = rw q at e in cc)
