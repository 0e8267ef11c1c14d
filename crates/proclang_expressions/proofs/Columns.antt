-- The columns of a table that is there.
use Rattle.std.proofs.Common.{◌≡◌, ℕ, zero, suc, ◌+◌, ◌<◌, List, [], ◌∷◌, ◌++◌, length, drop, slice_get, Option, Some, None, option_map, Ok, Err, Result, refl, sym, ap, ◌∙◌, arith, add-one}
use Rattle.std.specs.List.{zip}
use Rattle.std.proofs.lemmas.List.{length-map}
use Rattle.std.proofs.lemmas.Option.{slice_get-map}
use Rattle.values.specs.declared.value.ColType.{ColType}
use Rattle.catalogue.specs.Shapes.{TableShape, ColumnShape}
use Rattle.proclang_types.specs.Syntax.{ExprSyntax, ValueSyntax}
use Rattle.proclang_expressions.specs.declared.fault.ProcFault.{ProcFault}
use Rattle.proclang_expressions.specs.Walk.{each_from, appended}
use Rattle.proclang_expressions.specs.Values.{stored_at, kinds_in}

pub count_of_kinds : (tables : List TableShape) (table n : ℕ) → Some n ≡ option_map (λ t. length t.columns) (slice_get tables table) → n ≡ length (kinds_in tables table)
count_of_kinds [] table n e = absurd cc
count_of_kinds (t ∷ ts) zero n e = (let is : n ≡ length t.columns = cc in is ∙ sym (length-map t.columns (λ (c : ColumnShape). c.kind)))
count_of_kinds (t ∷ ts) (suc i) n e = count_of_kinds ts i n e

pub kind_in : (tables : List TableShape) (table column : ℕ) (kind : Option ColType) → Some kind ≡ option_map (λ t. option_map (λ c. c.kind) (slice_get t.columns column)) (slice_get tables table) → slice_get (kinds_in tables table) column ≡ kind
kind_in [] table column kind e = absurd cc
kind_in (t ∷ ts) zero column kind e =
    let is : kind ≡ option_map (λ c. c.kind) (slice_get t.columns column) = cc in
    slice_get-map (λ (c : ColumnShape). c.kind) t.columns column ∙ sym is
kind_in (t ∷ ts) (suc i) column kind e = kind_in ts i column kind e

pub kind_there : (kinds : List ColType) (column : ℕ) → column < length kinds → slice_get kinds column ≡ None → ⊥
kind_there [] column lt e = absurd (omega (arith, lt))
kind_there (k ∷ kinds) zero lt e = absurd cc
kind_there (k ∷ kinds) (suc i) lt e = kind_there kinds i (omega (arith, lt)) e

drop_is_next : (kinds : List ColType) (i : ℕ) (k : ColType) → slice_get kinds i ≡ Some k → drop i kinds ≡ k ∷ drop (suc i) kinds
drop_is_next [] i k e = absurd cc
drop_is_next (x ∷ kinds) zero k e = let is : x ≡ k = cc in ap (λ (y : ColType). y ∷ kinds) is
drop_is_next (x ∷ kinds) (suc i) k e = drop_is_next kinds i k e

next_column : (kinds : List ColType) (i : ℕ) (k : ColType) → slice_get kinds i ≡ Some k → drop i kinds ≡ k ∷ drop (i + 1) kinds
next_column kinds i k e = rw add-one (drop_is_next kinds i k e)

-- values of a row, each after those before it
abbrev pub row_from : List ℕ → ℕ → List ValueSyntax → List ColType → List ExprSyntax → Result (List ValueSyntax) ProcFault
row_from path place before kinds es = each_from (λ p b c. appended b (stored_at p c.0 c.1)) path place before (zip kinds es)

-- one value more
pub row_goes_on : (path : List ℕ) (i : ℕ) (before : List ValueSyntax) (kinds : List ColType) (k : ColType) (e : ExprSyntax) (es : List ExprSyntax) (v : ValueSyntax) (total : Result (List ValueSyntax) ProcFault)
    → slice_get kinds i ≡ Some k → stored_at (path ++ i ∷ []) k e ≡ Ok v → row_from path i before (drop i kinds) (e ∷ es) ≡ total → row_from path (i + 1) (before ++ v ∷ []) (drop (i + 1) kinds) es ≡ total
row_goes_on path i before kinds k e es v total at h known =
    let one_more : row_from path i before (drop i kinds) (e ∷ es) ≡ row_from path (i + 1) (before ++ v ∷ []) (drop (i + 1) kinds) es = rw (next_column kinds i k at, h) refl in
    sym one_more ∙ known

-- a value that fails
pub row_stops : (path : List ℕ) (i : ℕ) (before : List ValueSyntax) (kinds : List ColType) (k : ColType) (e : ExprSyntax) (es : List ExprSyntax) (f : ProcFault) (total : Result (List ValueSyntax) ProcFault)
    → slice_get kinds i ≡ Some k → stored_at (path ++ i ∷ []) k e ≡ Err f → row_from path i before (drop i kinds) (e ∷ es) ≡ total → total ≡ Err f
row_stops path i before kinds k e es f total at h known =
    let fails : row_from path i before (drop i kinds) (e ∷ es) ≡ Err f = rw (next_column kinds i k at, h) refl in
    sym known ∙ fails
