-- An expression that is read in a footprint asks for no rows.
use Rattle.std.proofs.Common.{◌≡◌, ℕ, zero, suc, Bool, true, false, if◌then◌else◌, List, [], ◌∷◌, ◌++◌, Option, Some, None, Ok, refl, sym, ap, ◌∙◌, subst}
use Rattle.std.specs.Prelude.{⊤}
use Rattle.serde_json.specs.Data.{Data}
use Rattle.documents.specs.Reading.{formed}
use Rattle.documents.proofs.Steps.{bind_ok, formed_ok, and_then_ok}
use Rattle.values.specs.declared.value.ColType.{ColType}
use Rattle.values.specs.declared.value.ColType.TheVariants as types
use Rattle.catalogue.specs.Shapes.{TableShape}
use Rattle.proclang_types.specs.declared.operator.Equality.{Equality}
use Rattle.proclang_types.specs.declared.operator.Comparison.TheVariants as comparisons
use Rattle.proclang_types.specs.Syntax.{IntSyntax, number, binary, literal, BoolSyntax, compare_ints, compare_texts, both, either, negated, ExprSyntax, int, text, bool}
use Rattle.proclang_types.specs.Typing.{AsksNoRows}
use Rattle.proclang_expressions.specs.declared.fault.FaultKind.TheVariants.{Shape}
use Rattle.proclang_expressions.specs.declared.fault.ProcFault.TheVariants.{At}
use Rattle.proclang_forms.specs.declared.operator.Operator.{Operator}
use Rattle.proclang_forms.specs.declared.operator.Operator.TheVariants.{Arithmetic, Less, AtMost, Same, And, Or}
use Rattle.proclang_forms.specs.declared.expr_forms.Section.{Section}
use Rattle.proclang_forms.specs.declared.expr_forms.Section.TheVariants as sections
use Rattle.proclang_expressions.specs.declared.scope.Found.{Found}
use Rattle.proclang_expressions.specs.Seen.{Seen, found_in}
use Rattle.proclang_forms.specs.ExprForms.{Form, number_form, literal_form, variable_form, not_form, binary_form, exists_form, count_form, sum_form, is_allowed, expr_form, form_in}
use Rattle.proclang_expressions.specs.Expressions.{variable_syntax, named, literal_at, as_int, as_text, as_bool, two_ints, two_bools, of_ints, two_alike, calculate, comparison_at, combine, PartReader, not_at, binary_at, node_at, expr_at}

-- the form of an expression in a section is a form, and may stand there
pub form_known : (section : Section) (d : Data) (f : Form) → form_in section d ≡ Some f → (expr_form d ≡ Some f) × (is_allowed section f ≡ true)
unfolding form_in
form_known section d f e =
    let g = and_then_ok (λ (form : Form). if is_allowed section form then Some form else None) (expr_form d) f e in
    by g.0 g.1 g.2 (is_allowed section g.0) refl
  where
    by : (g : Form) → expr_form d ≡ Some g → (if is_allowed section g then Some g else None) ≡ Some f → (b : Bool) → is_allowed section g ≡ b → (expr_form d ≡ Some f) × (is_allowed section f ≡ true)
    by g is h true q =
        let k = rw q at h in
        let same : g ≡ f = cc in
        (is ∙ ap (λ (x : Form). Some x) same, ap (is_allowed section) (sym same) ∙ q)
    by g is h false q = absurd (let k = rw q at h in cc)

pub form_again : (section : Section) (d : Data) (f : Form) → expr_form d ≡ Some f → is_allowed section f ≡ true → form_in section d ≡ Some f
unfolding form_in
form_again section d f e allowed = rw (e, allowed) refl

-- ---- expressions that ask for no rows

abbrev Plain : ExprSyntax → Type 0
Plain (int e) = AsksNoRows e
Plain (text e) = ⊤
Plain (bool e) = ⊤

pub int_plain : (path : List ℕ) (x : ExprSyntax) (e : IntSyntax) → Plain x → as_int path x ≡ Ok e → AsksNoRows e
int_plain path (int y) e f r = let is : y ≡ e = cc in subst AsksNoRows is f
int_plain path (text y) e f r = absurd cc
int_plain path (bool y) e f r = absurd cc

variable_plain : (kind : ColType) (place : ℕ) → Plain (variable_syntax kind place)
variable_plain types.Int place = tt
variable_plain types.Text place = tt

named_plain : (path : List ℕ) (o : Option Found) (e : ExprSyntax) → named path o ≡ Ok e → Plain e
named_plain path None e r = absurd cc
named_plain path (Some v) e r = let is : variable_syntax v.kind v.place ≡ e = cc in subst Plain is (variable_plain v.kind v.place)

two_ints_plain : (make : IntSyntax → IntSyntax → ExprSyntax) → ((a b : IntSyntax) → AsksNoRows a → AsksNoRows b → Plain (make a b)) → (p : List ℕ) (x : ExprSyntax) (q : List ℕ) (y e : ExprSyntax)
    → Plain x → Plain y → two_ints make p x q y ≡ Ok e → Plain e
unfolding two_ints
two_ints_plain make h p x q y e f g r =
    let a = bind_ok (as_int p x) _ e r in
    let b = bind_ok (as_int q y) _ e a.2 in
    let is : make a.0 b.0 ≡ e = (let k = b.2 in cc) in
    subst Plain is (h a.0 b.0 (int_plain p x a.0 f a.1) (int_plain q y b.0 g b.1))

two_bools_plain : (make : BoolSyntax → BoolSyntax → ExprSyntax) → ((a b : BoolSyntax) → Plain (make a b)) → (p : List ℕ) (x : ExprSyntax) (q : List ℕ) (y e : ExprSyntax) → two_bools make p x q y ≡ Ok e → Plain e
unfolding two_bools
two_bools_plain make h p x q y e r =
    let a = bind_ok (as_bool p x) _ e r in
    let b = bind_ok (as_bool q y) _ e a.2 in
    let is : make a.0 b.0 ≡ e = (let k = b.2 in cc) in
    subst Plain is (h a.0 b.0)

two_alike_plain : (test : Equality) (p : List ℕ) (x : ExprSyntax) (q : List ℕ) (y e : ExprSyntax) → two_alike test p x q y ≡ Ok e → Plain e
unfolding two_alike
two_alike_plain test p (int x) q y e r =
    let b = bind_ok (as_int q y) _ e r in
    let is : bool (compare_ints (of_ints test) x b.0) ≡ e = (let k = b.2 in cc) in
    subst Plain is tt
two_alike_plain test p (text x) q y e r =
    let b = bind_ok (as_text q y) _ e r in
    let is : bool (compare_texts test x b.0) ≡ e = (let k = b.2 in cc) in
    subst Plain is tt
two_alike_plain test p (bool x) q y e r = absurd cc

combine_plain : (op : Operator) (p : List ℕ) (x : ExprSyntax) (q : List ℕ) (y e : ExprSyntax) → Plain x → Plain y → combine op p x q y ≡ Ok e → Plain e
unfolding combine calculate comparison_at
combine_plain (Arithmetic op) p x q y e f g r = two_ints_plain (λ a b. int (binary op a b)) (λ a b s t. (s, t)) p x q y e f g r
combine_plain Less p x q y e f g r = two_ints_plain (λ a b. bool (compare_ints comparisons.Less a b)) (λ a b s t. tt) p x q y e f g r
combine_plain AtMost p x q y e f g r = two_ints_plain (λ a b. bool (compare_ints comparisons.AtMost a b)) (λ a b s t. tt) p x q y e f g r
combine_plain (Same test) p x q y e f g r = two_alike_plain test p x q y e r
combine_plain And p x q y e f g r = two_bools_plain (λ a b. bool (both a b)) (λ a b. tt) p x q y e r
combine_plain Or p x q y e f g r = two_bools_plain (λ a b. bool (either a b)) (λ a b. tt) p x q y e r

module _ (tables : List TableShape) (part : PartReader) (scope : List Seen) (law : (path : List ℕ) (d : Data) (e : ExprSyntax) → part path scope d ≡ Ok e → Plain e) where
  not_plain : (path : List ℕ) (d : Data) (e : ExprSyntax) → not_at part path scope d ≡ Ok e → Plain e
  unfolding not_at
  not_plain path d e r =
      let x = bind_ok (part (path ++ 1 ∷ []) scope d) _ e r in
      let b = bind_ok (as_bool (path ++ 1 ∷ []) x.0) _ e x.2 in
      let is : bool (negated b.0) ≡ e = (let k = b.2 in cc) in
      subst Plain is tt

  binary_plain : (path : List ℕ) (op : Operator) (a b : Data) (e : ExprSyntax) → binary_at part path scope op a b ≡ Ok e → Plain e
  unfolding binary_at
  binary_plain path op a b e r =
      let x = bind_ok (part (path ++ 1 ∷ []) scope a) _ e r in
      let y = bind_ok (part (path ++ 2 ∷ []) scope b) _ e x.2 in
      combine_plain op (path ++ 1 ∷ []) x.0 (path ++ 2 ∷ []) y.0 e (law (path ++ 1 ∷ []) a x.0 x.1) (law (path ++ 2 ∷ []) b y.0 y.1) y.2

  literal_plain : (path s : List ℕ) (e : ExprSyntax) → literal_at path s ≡ Ok e → Plain e
  literal_plain path s e r =
      let few = bind_ok _ (λ _. Ok (text (literal s))) e r in
      let is : text (literal s) ≡ e = (let g = few.2 in cc) in
      subst Plain is tt

  node_plain : (path : List ℕ) (f : Form) (e : ExprSyntax) → is_allowed sections.Footprint f ≡ true → node_at tables part path scope f ≡ Ok e → Plain e
  unfolding node_at
  node_plain path (number_form z) e a r = let is : int (number z) ≡ e = cc in subst Plain is tt
  node_plain path (literal_form s) e a r = literal_plain path s e r
  node_plain path (variable_form name) e a r = named_plain path (found_in name scope) e r
  node_plain path (not_form d) e a r = not_plain path d e r
  node_plain path (binary_form op x y) e a r = binary_plain path op x y e r
  node_plain path (exists_form table d) e a r = absurd cc
  node_plain path (count_form table d) e a r = absurd cc
  node_plain path (sum_form table d column) e a r = absurd cc

pub expr_plain : (tables : List TableShape) (room : ℕ) (path : List ℕ) (scope : List Seen) (d : Data) (e : ExprSyntax) → expr_at sections.Footprint tables room path scope d ≡ Ok e → Plain e
unfolding expr_at
expr_plain tables zero path scope d e r = let f = bind_ok (formed (At Shape path) (form_in sections.Footprint d)) _ e r in absurd (let h = f.2 in cc)
expr_plain tables (suc room) path scope d e r =
    let f = bind_ok (formed (At Shape path) (form_in sections.Footprint d)) _ e r in
    node_plain tables (expr_at sections.Footprint tables room) scope (λ p x y h. expr_plain tables room p scope x y h) path f.0 e (form_known sections.Footprint d f.0 (formed_ok (At Shape path) (form_in sections.Footprint d) f.0 f.1)).1 f.2
