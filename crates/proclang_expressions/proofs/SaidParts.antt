-- Variables that get a value, and lists of parts: what is read is what the document says, and what it says is read.
use Rattle.std.proofs.Common.{◌≡◌, ◌≤◌, ℕ, suc, ◌+◌, Bool, true, false, leb, not, List, [], ◌∷◌, ◌++◌, length, map, Option, Some, None, Result, Ok, refl, sym, ap, ◌∙◌, subst, append_assoc, inl, inr}
use Rattle.std.specs.Prelude.{⊤}
use Rattle.std.proofs.lemmas.Bool.{leb-true, le-leb}
use Rattle.std.proofs.lemmas.List.{append-nil}
use Rattle.serde_json.specs.Data.{Data}
use Rattle.documents.proofs.Steps.{bind_ok, rule_ok}
use Rattle.values.specs.declared.value.ColType.{ColType}
use Rattle.values.specs.declared.value.ColType.TheVariants as types
use Rattle.values.specs.Names.{is_name}
use Rattle.catalogue.specs.Rules.{Says}
use Rattle.catalogue.specs.Shapes.{TableShape}
use Rattle.proclang_types.specs.Syntax.{IntSyntax, BoolSyntax, ExprSyntax, int, bool, ValueSyntax}
use Rattle.proclang_expressions.specs.declared.fault.FaultKind.TheVariants.{DuplicateName}
use Rattle.proclang_expressions.specs.declared.fault.ProcFault.{ProcFault}
use Rattle.proclang_expressions.specs.declared.fault.ProcFault.TheVariants.{At}
use Rattle.proclang_forms.specs.declared.expr_forms.Section.TheVariants as sections
use Rattle.proclang_expressions.specs.declared.scope.Declaration.{Declaration}
use Rattle.proclang_expressions.specs.declared.scope.Declaration.TheVariants.{Parameter, Statement, Loop}
use Rattle.proclang_expressions.specs.declared.scope.Found.{Found}
use Rattle.proclang_expressions.specs.Seen.{Seen, found_in}
use Rattle.proclang_expressions.specs.Walk.{each_from, appended, at_most}
use Rattle.proclang_expressions.specs.Lookups.{same_type, declared_at}
use Rattle.proclang_expressions.specs.Targets.{is_fixed, target_of, target_at, bound, loop_name_at}
use Rattle.proclang_expressions.specs.Expressions.{deepest, as_int, as_bool, as_value, statement_expr}
use Rattle.proclang_expressions.specs.Values.{exprs_at}
use Rattle.proclang_expressions.specs.SaysExpressions.{SaysExpr, as_expr, SaysInt, SaysBool, SaysValue}
use Rattle.proclang_expressions.specs.SaysTargets.{Gets, IsNew}
use Rattle.proclang_expressions.proofs.SaidExpressions.{int_found, bool_found, value_found, expr_found, expr_read}
use Rattle.proclang_expressions.proofs.TypedExpressions.{types_are}
use Rattle.proclang_expressions.proofs.TypedParts.{target_is}

pub ok_is : {A : Type 0} (x y : A) → ◌≡◌ {A = Result A ProcFault} (Ok x) (Ok y) → x ≡ y
ok_is x y e = cc

pub few_found : {D : Type 0} (path : List ℕ) (most : ℕ) (ds : List D) (r : ⊤) → at_most path most ds ≡ Ok r → length ds ≤ most
few_found path most ds r h = by (leb (length ds) most) refl
  where
    by : (b : Bool) → leb (length ds) most ≡ b → length ds ≤ most
    by true q = leb-true (length ds) most q
    by false q = absurd (let g = rw q at h in cc)

pub few_again : {D : Type 0} (path : List ℕ) (most : ℕ) (ds : List D) → length ds ≤ most → at_most path most ds ≡ Ok tt
few_again path most ds h = rw (le-leb (length ds) most h) refl

-- ---- expressions

pub int_said : (tables : List TableShape) (path : List ℕ) (scope : List Seen) (d : Data) (x : ExprSyntax) (k : IntSyntax) → statement_expr tables path scope d ≡ Ok x → as_int path x ≡ Ok k → SaysInt tables scope d k
int_said tables path scope d x k a b = subst (SaysExpr sections.Body tables deepest scope d) (int_found path x k b) (expr_found sections.Body tables deepest path scope d x a)

pub bool_said : (tables : List TableShape) (path : List ℕ) (scope : List Seen) (d : Data) (x : ExprSyntax) (b : BoolSyntax) → statement_expr tables path scope d ≡ Ok x → as_bool path x ≡ Ok b → SaysBool tables scope d b
bool_said tables path scope d x b a h = subst (SaysExpr sections.Body tables deepest scope d) (bool_found path x b h) (expr_found sections.Body tables deepest path scope d x a)

pub value_said : (tables : List TableShape) (path : List ℕ) (scope : List Seen) (d : Data) (x : ExprSyntax) (v : ValueSyntax) → statement_expr tables path scope d ≡ Ok x → as_value path x ≡ Ok v → SaysValue tables scope d v
value_said tables path scope d x v a b = subst (SaysExpr sections.Body tables deepest scope d) (value_found path x v b) (expr_found sections.Body tables deepest path scope d x a)

pub int_read : (tables : List TableShape) (path : List ℕ) (scope : List Seen) (d : Data) (k : IntSyntax) → SaysInt tables scope d k → statement_expr tables path scope d ≡ Ok (int k)
int_read tables path scope d k h = expr_read sections.Body tables deepest path scope d (int k) h

pub bool_read : (tables : List TableShape) (path : List ℕ) (scope : List Seen) (d : Data) (b : BoolSyntax) → SaysBool tables scope d b → statement_expr tables path scope d ≡ Ok (bool b)
bool_read tables path scope d b h = expr_read sections.Body tables deepest path scope d (bool b) h

pub value_read : (tables : List TableShape) (path : List ℕ) (scope : List Seen) (d : Data) (v : ValueSyntax) → SaysValue tables scope d v → statement_expr tables path scope d ≡ Ok (as_expr v)
value_read tables path scope d v h = expr_read sections.Body tables deepest path scope d (as_expr v) h

-- ---- variables that get a value

abbrev pub gotten : ℕ → ColType → Found
gotten place kind = record { place = place; kind = kind; declaration = Statement }

pub same_again : (kind : ColType) → same_type kind kind ≡ true
same_again types.Int = refl
same_again types.Text = refl

may_change : (d : Declaration) → not (is_fixed d) ≡ true → d ≡ Statement
may_change Parameter h = absurd cc
may_change Loop h = absurd cc
may_change Statement h = refl

rule_true : (path name : List ℕ) (r : ⊤) → declared_at path name ≡ Ok r → is_name name ≡ true
rule_true path name r e = by (is_name name) refl
  where
    by : (b : Bool) → is_name name ≡ b → is_name name ≡ true
    by true q = q
    by false q = absurd (let g = rw q at e in cc)

name_found : (path name : List ℕ) (t : Option Found) → target_of path name None ≡ Ok t → is_name name ≡ true
name_found path name t h =
    let r = bind_ok (declared_at path name) (λ _. Ok None) t h in
    rule_true path name r.0 r.1

pub gets_found : (p q : List ℕ) (scope : List Seen) (name : List ℕ) (kind : ColType) (o t : Option Found) (r : ℕ × List Seen) → found_in name scope ≡ o → target_of p name o ≡ Ok t → bound q scope name kind t ≡ Ok r → Gets scope name kind r.0 r.1
gets_found p q scope name kind None t r found target e =
    let none : None ≡ t = target_is p name None t target in
    let is : (length scope, scope ++ record { name = name; kind = kind; declaration = Statement } ∷ []) ≡ r = (let g = rw (← none) at e in cc) in
    inl (record { new = found; named = name_found p name t target; next = sym (ap (λ (x : ℕ × List Seen). x.0) is); seen = sym (ap (λ (x : ℕ × List Seen). x.1) is) })
gets_found p q scope name kind (Some v) t r found target e =
    let some : Some v ≡ t = target_is p name (Some v) t target in
    let kept = rule_ok (not (is_fixed v.declaration)) (At DuplicateName p) (λ _. Ok (Some v)) t target in
    let declared : v.declaration ≡ Statement = may_change v.declaration kept.0 in
    by declared (rw (← some) at e) (same_type v.kind kind) refl
  where
    by : v.declaration ≡ Statement → bound q scope name kind (Some v) ≡ Ok r → (b : Bool) → same_type v.kind kind ≡ b → Gets scope name kind r.0 r.1
    by declared e true s =
        let g = rw s at e in
        let is : (v.place, scope) ≡ r = cc in
        let there : v ≡ gotten r.0 kind = made v.place v.kind v.declaration r.0 (ap (λ (x : ℕ × List Seen). x.0) is) (types_are v.kind kind s) declared in
        inr (record { found = found ∙ ap (λ (w : Found). Some w) there; same = sym (ap (λ (x : ℕ × List Seen). x.1) is) })
      where
        made : (place : ℕ) (k : ColType) (d : Declaration) (n : ℕ) → place ≡ n → k ≡ kind → d ≡ Statement → record { place = place; kind = k; declaration = d } ≡ gotten n kind
        made place k d n a b c = rw (a, b, c) refl
    by declared e false s = absurd (let g = rw s at e in cc)

-- what a variable that gets a value was, and what it is then
abbrev pub Got : List ℕ → List ℕ → List Seen → List ℕ → ColType → ℕ → List Seen → Type 0
Got p q scope name kind place after = (t : Option Found) × (target_at p scope name ≡ Ok t) × (bound q scope name kind t ≡ Ok (place, after))

pub gets_again : (p q : List ℕ) (scope : List Seen) (name : List ℕ) (kind : ColType) (place : ℕ) (after : List Seen) → Gets scope name kind place after → Got p q scope name kind place after
gets_again p q scope name kind place after (inl h) = (None, rw (h.new, h.named) refl, rw (h.next, h.seen) refl)
gets_again p q scope name kind place after (inr h) = (Some (gotten place kind), rw h.found refl, rw (same_again kind, h.same) refl)

-- ---- variables of loops

pub new_found : (path : List ℕ) (scope : List Seen) (name : List ℕ) (r : ⊤) → loop_name_at path scope name ≡ Ok r → IsNew scope name
new_found path scope name r e = by (found_in name scope) refl
  where
    by : (o : Option Found) → found_in name scope ≡ o → IsNew scope name
    by None found = let h = rw found at e in record { new = found; named = rule_true path name r h }
    by (Some v) found = absurd (let h = rw found at e in cc)

pub new_again : (path : List ℕ) (scope : List Seen) (name : List ℕ) → IsNew scope name → loop_name_at path scope name ≡ Ok tt
new_again path scope name h = rw (h.new, h.named) refl

-- ---- parts one after another

module _ {X : Type 0} (one : List ℕ → List X → Data → Result X ProcFault) (SaysOne : Data → X → Type 0) where
  -- what is read is what each part says
  pub parts_found : ((path : List ℕ) (before : List X) (d : Data) (x : X) → one path before d ≡ Ok x → SaysOne d x)
      → (path : List ℕ) (place : ℕ) (before : List X) (ds : List Data) (all : List X) → each_from (λ p b d. appended b (one p b d)) path place before ds ≡ Ok all → (new : List X) × (all ≡ before ++ new) × Says SaysOne ds new
  parts_found law path place before [] all e = let is : before ≡ all = cc in ([], sym is ∙ sym (append-nil before), tt)
  parts_found law path place before (d ∷ ds) all e =
      let p = path ++ place ∷ [] in
      let step = bind_ok (appended before (one p before d)) _ all e in
      let x = bind_ok (one p before d) _ step.0 step.1 in
      let is : before ++ x.0 ∷ [] ≡ step.0 = (let g = x.2 in cc) in
      let others = parts_found law path (place + 1) step.0 ds all step.2 in
      (x.0 ∷ others.0, others.1 ∙ ap (λ (xs : List X). xs ++ others.0) (sym is) ∙ append_assoc before (x.0 ∷ []) others.0, (law p before d x.0 x.1, others.2))

  -- what each part says is read
  pub parts_read : ((path : List ℕ) (before : List X) (d : Data) (x : X) → SaysOne d x → one path before d ≡ Ok x)
      → (path : List ℕ) (place : ℕ) (before : List X) (ds : List Data) (xs : List X) → Says SaysOne ds xs → each_from (λ p b d. appended b (one p b d)) path place before ds ≡ Ok (before ++ xs)
  parts_read law path place before [] [] h = ap (λ (ys : List X). Ok ys) (sym (append-nil before))
  parts_read law path place before [] (x ∷ xs) h = absurd h
  parts_read law path place before (d ∷ ds) [] h = absurd h
  parts_read law path place before (d ∷ ds) (x ∷ xs) h =
      rw (law (path ++ place ∷ []) before d x h.0) (parts_read law path (place + 1) (before ++ x ∷ []) ds xs h.1 ∙ ap (λ (ys : List X). Ok ys) (append_assoc before (x ∷ []) xs))

pub exprs_found : (tables : List TableShape) (path : List ℕ) (place : ℕ) (scope : List Seen) (ds : List Data) (es : List ExprSyntax) → exprs_at tables path place scope ds ≡ Ok es → Says (SaysExpr sections.Body tables deepest scope) ds es
exprs_found tables path place scope ds es e =
    let exprs = parts_found (λ p b d. statement_expr tables p scope d) (SaysExpr sections.Body tables deepest scope) (λ p b d x h. expr_found sections.Body tables deepest p scope d x h) path place [] ds es e in
    subst (Says (SaysExpr sections.Body tables deepest scope) ds) (sym exprs.1) exprs.2

pub exprs_read : (tables : List TableShape) (path : List ℕ) (place : ℕ) (scope : List Seen) (ds : List Data) (es : List ExprSyntax) → Says (SaysExpr sections.Body tables deepest scope) ds es → exprs_at tables path place scope ds ≡ Ok es
exprs_read tables path place scope ds es h = parts_read (λ p b d. statement_expr tables p scope d) (SaysExpr sections.Body tables deepest scope) (λ p b d x g. expr_read sections.Body tables deepest p scope d x g) path place [] ds es h

-- documents that say expressions, each of which is a value
pub values_said : (tables : List TableShape) (scope : List Seen) (ds : List Data) (vs : List ValueSyntax) → Says (SaysExpr sections.Body tables deepest scope) ds (map as_expr vs) → Says (SaysValue tables scope) ds vs
values_said tables scope [] [] h = tt
values_said tables scope [] (v ∷ vs) h = absurd h
values_said tables scope (d ∷ ds) [] h = absurd h
values_said tables scope (d ∷ ds) (v ∷ vs) h = (h.0, values_said tables scope ds vs h.1)

pub exprs_said : (tables : List TableShape) (scope : List Seen) (ds : List Data) (vs : List ValueSyntax) → Says (SaysValue tables scope) ds vs → Says (SaysExpr sections.Body tables deepest scope) ds (map as_expr vs)
exprs_said tables scope [] [] h = tt
exprs_said tables scope [] (v ∷ vs) h = absurd h
exprs_said tables scope (d ∷ ds) [] h = absurd h
exprs_said tables scope (d ∷ ds) (v ∷ vs) h = (h.0, exprs_said tables scope ds vs h.1)

-- as many documents as what they say
pub said_many : {X : Type 0} (one : Data → X → Type 0) (ds : List Data) (xs : List X) → Says one ds xs → length ds ≡ length xs
said_many one [] [] h = refl
said_many one [] (x ∷ xs) h = absurd h
said_many one (d ∷ ds) [] h = absurd h
said_many one (d ∷ ds) (x ∷ xs) h = ap suc (said_many one ds xs h.1)
