-- Values and variables of the types that are asked for.
use Rattle.std.proofs.Common.{◌≡◌, ℕ, zero, suc, Bool, true, false, List, [], ◌∷◌, ◌++◌, map, refl, sym, ap, ◌∙◌, subst, Option, Some, None, option_map, option_and_then, unwrap_or, ℤ, inl, inr, append_assoc}
use Rattle.std.specs.Prelude.{◌⊎◌, length, take, slice_get, slice_set, if◌then◌else◌, ◌==◌}
use Rattle.std.proofs.lemmas.Option.{slice_get-map}
use Rattle.std.proofs.lemmas.List.{map-append, length-map, append-nil}
use Rattle.std.proofs.Math.Seq.{take-append_seam}
use Rattle.std.proofs.lemmas.Bool.{eqb-false}
use Rattle.values.specs.declared.value.ColType.{ColType}
use Rattle.values.specs.declared.value.ColType.TheVariants as types
use Rattle.values.specs.declared.value.Value.{Value}
use Rattle.values.specs.declared.value.Value.TheVariants as values
use Rattle.catalogue.specs.Shapes.{TableShape}
use Rattle.values.specs.Rows.{type_of}
use Rattle.values.specs.Database.{RowOf}
use Rattle.proclang_types.specs.Syntax.{StmtSyntax, assign, get as get_syntax, put, insert_row, delete_row, choose, for_numbers, for_keys, abort as abort_syntax, reply, BlockSyntax, no_statements, followed}
use Rattle.proclang_types.specs.Typing.{column_kind, kind_of, in_loop, Takes, declared, scope_after as kinds_after}
use Rattle.footprint.specs.Declaration.{number_or}
use Rattle.meaning.specs.Runs.{with_variable}
use Rattle.meaning.specs.Meaning.{text_or}
use Rattle.meaning.specs.Fitting.{IsRowOf}

-- ---- values in place

pub same_number : (o : Option Value) (x y : ℤ) → option_map type_of o ≡ Some types.Int → number_or y o ≡ number_or x o
same_number None x y e = absurd (cc)
same_number (Some (values.Int z)) x y e = refl
same_number (Some (values.Text s)) x y e = absurd (cc)

pub same_text : (o : Option Value) (x y : List ℕ) → option_map type_of o ≡ Some types.Text → text_or y o ≡ text_or x o
same_text None x y e = absurd (cc)
same_text (Some (values.Int z)) x y e = absurd (cc)
same_text (Some (values.Text s)) x y e = refl

pub same_value : (o : Option Value) (x y : Value) (kind : ColType) → option_map type_of o ≡ Some kind → (unwrap_or o y ≡ unwrap_or o x) × (type_of (unwrap_or o x) ≡ kind)
same_value None x y kind e = absurd (cc)
same_value (Some v) x y kind e = (refl, cc)

-- the variable at a place has the type that is seen there
pub in_place : (vs : List Value) (kinds : List ColType) (place : ℕ) (kind : ColType) → map type_of vs ≡ kinds → slice_get kinds place ≡ Some kind → option_map type_of (slice_get vs place) ≡ Some kind
in_place vs kinds place kind e h = sym (slice_get-map type_of vs place) ∙ ap (λ (ks : List ColType). slice_get ks place) e ∙ h

-- the value in a column of a row has the column's type
pub column_in_place : (tables : List TableShape) (table : ℕ) (row : RowOf) (column : ℕ) (kind : ColType) → IsRowOf tables table row → column_kind tables table column ≡ Some kind → option_map type_of (slice_get row column) ≡ Some kind
column_in_place tables table row column kind is there = by (slice_get tables table) is there
  where
    by : (o : Option TableShape) → option_map (λ t. map (λ c. c.kind) t.columns) o ≡ Some (map type_of row) → option_and_then (λ t. option_map (λ c. c.kind) (slice_get t.columns column)) o ≡ Some kind
        → option_map type_of (slice_get row column) ≡ Some kind
    by None e h = absurd (cc)
    by (Some t) e h =
        let same : map (λ c. c.kind) t.columns ≡ map type_of row = cc in
        in_place row (map (λ c. c.kind) t.columns) column kind (sym same) (slice_get-map (λ c. c.kind) t.columns column ∙ h)

-- another value of the same type leaves the types as they are
pub kept_types : (vs : List Value) (place : ℕ) (v : Value) → option_map type_of (slice_get vs place) ≡ Some (type_of v) → map type_of (slice_set vs place v) ≡ map type_of vs
kept_types [] place v e = absurd (cc)
kept_types (x ∷ xs) zero v e = (let same : type_of v ≡ type_of x = cc in ap (λ (k : ColType). k ∷ map type_of xs) same)
kept_types (x ∷ xs) (suc place) v e = ap (λ (ks : List ColType). type_of x ∷ ks) (kept_types xs place v e)

-- a variable that gets a value of a type that its place takes
pub set_types : (vs : List Value) (kinds : List ColType) (place : ℕ) (v : Value) (kind : ColType) → map type_of vs ≡ kinds → type_of v ≡ kind → Takes kinds place kind → map type_of (with_variable vs place v) ≡ declared kinds place kind
set_types vs kinds place v kind e k takes =
    subst (λ (n : ℕ). map type_of (with_variable vs place v) ≡ (if place == n then kinds ++ kind ∷ [] else kinds)) (sym (length-map vs type_of) ∙ ap length e) (by (place == length vs) refl)
  where
    at_end : (place n : ℕ) → place == n ≡ false → (place ≡ n) ⊎ (slice_get kinds place ≡ Some kind) → slice_get kinds place ≡ Some kind
    at_end place n f (inl is) = absurd (eqb-false place n f is)
    at_end place n f (inr there) = there

    by : (b : Bool) → place == length vs ≡ b → map type_of (if b then vs ++ v ∷ [] else slice_set vs place v) ≡ (if b then kinds ++ kind ∷ [] else kinds)
    by true is = map-append type_of vs (v ∷ []) ∙ ap (λ (ks : List ColType). ks ++ type_of v ∷ []) e ∙ ap (λ (q : ColType). kinds ++ q ∷ []) k
    by false is =
        let n : length kinds ≡ length vs = ap length (sym e) ∙ length-map vs type_of in
        let there = at_end place (length kinds) (ap (λ (m : ℕ). place == m) n ∙ is) takes in
        kept_types vs place v (in_place vs kinds place kind e there ∙ ap (λ (q : ColType). Some q) (sym k)) ∙ e

-- ---- the types of the variables that are seen

abbrev pub kinds_through : List TableShape → List ColType → BlockSyntax → List ColType
kinds_through tables kinds no_statements = kinds
kinds_through tables kinds (followed s rest) = kinds_through tables (kinds_after tables kinds s) rest

-- variables are declared after those that are seen
abbrev pub Extends : List ColType → List ColType → Type 0
Extends before later = (more : List ColType) × (later ≡ before ++ more)

pub extends_take : (before later : List ColType) → Extends before later → take (length before) later ≡ before
extends_take before later e = ap (λ (ks : List ColType). take (length before) ks) e.1 ∙ take-append_seam before e.0

pub declared_extends : (kinds : List ColType) (place : ℕ) (kind : ColType) → Extends kinds (declared kinds place kind)
declared_extends kinds place kind = by (place == length kinds)
  where
    by : (b : Bool) → Extends kinds (if b then kinds ++ kind ∷ [] else kinds)
    by true = (kind ∷ [], refl)
    by false = ([], sym (append-nil kinds))

pub after_extends : (tables : List TableShape) (kinds : List ColType) (s : StmtSyntax) → Extends kinds (kinds_after tables kinds s)
after_extends tables kinds (assign place value) = declared_extends kinds place (kind_of value)
after_extends tables kinds (get_syntax place table key column) = declared_extends kinds place (unwrap_or (column_kind tables table column) types.Int)
after_extends tables kinds (put table key column value) = ([], sym (append-nil kinds))
after_extends tables kinds (insert_row table key values) = ([], sym (append-nil kinds))
after_extends tables kinds (delete_row table key) = ([], sym (append-nil kinds))
after_extends tables kinds (for_numbers low high body) = ([], sym (append-nil kinds))
after_extends tables kinds (for_keys table part body) = ([], sym (append-nil kinds))
after_extends tables kinds (choose test first second) = ([], sym (append-nil kinds))
after_extends tables kinds (abort_syntax code) = ([], sym (append-nil kinds))
after_extends tables kinds (reply es) = ([], sym (append-nil kinds))

pub through_extends : (tables : List TableShape) (kinds : List ColType) (b : BlockSyntax) → Extends kinds (kinds_through tables kinds b)
through_extends tables kinds no_statements = ([], sym (append-nil kinds))
through_extends tables kinds (followed s rest) =
    let first = after_extends tables kinds s in
    let more = through_extends tables (kinds_after tables kinds s) rest in
    (first.0 ++ more.0, more.1 ∙ ap (λ (ks : List ColType). ks ++ more.0) first.1 ∙ append_assoc kinds first.0 more.0)

-- what a block declares, the variable of its loop first, comes after the others
pub loop_extends : (tables : List TableShape) (kinds : List ColType) (b : BlockSyntax) → Extends kinds (kinds_through tables (in_loop kinds) b)
loop_extends tables kinds b =
    let more = through_extends tables (in_loop kinds) b in
    (types.Int ∷ more.0, more.1 ∙ append_assoc kinds (types.Int ∷ []) more.0)
