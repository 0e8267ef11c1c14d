-- Parts that are read one after another, as a loop does.
use Rattle.std.proofs.Common.{◌≡◌, ℕ, suc, ◌+◌, ◌<◌, List, [], ◌∷◌, ◌++◌, length, drop, map, get_or, Result, Ok, Err, refl, sym, ap, ◌∙◌, add-one, drop-cons}
use Rattle.serde_json.specs.Data.{Data}
use Rattle.serde_json.specs.View.{view}
use Rattle.serde_json.specs.declared.value.Value.{Value}
use Rattle.proclang_expressions.specs.Walk.{each_from}

-- one part more
pub goes_on : {S F : Type 0} (one : List ℕ → S → Data → Result S F) (path : List ℕ) (before so_far : S) (vs : List Value) (i : ℕ) (v : Value) (total : Result S F)
    → i < length vs → v ≡ get_or vs i v → one (path ++ i ∷ []) before (view v) ≡ Ok so_far
    → each_from one path i before (map view (drop i vs)) ≡ total → each_from one path (i + 1) so_far (map view (drop (i + 1) vs)) ≡ total
goes_on one path before so_far vs i v total lt at h known =
    let first : drop i vs ≡ v ∷ drop (i + 1) vs = rw (add-one, drop-cons vs i v lt) (ap (λ (w : Value). w ∷ drop (suc i) vs) (sym at)) in
    let one_more : each_from one path i before (map view (drop i vs)) ≡ each_from one path (i + 1) so_far (map view (drop (i + 1) vs)) = rw (first, h) refl in
    sym one_more ∙ known

-- a part that fails
pub stops : {S F : Type 0} (one : List ℕ → S → Data → Result S F) (path : List ℕ) (before : S) (vs : List Value) (i : ℕ) (v : Value) (e : F) (total : Result S F)
    → i < length vs → v ≡ get_or vs i v → one (path ++ i ∷ []) before (view v) ≡ Err e
    → each_from one path i before (map view (drop i vs)) ≡ total → total ≡ Err e
stops one path before vs i v e total lt at h known =
    let first : drop i vs ≡ v ∷ drop (i + 1) vs = rw (add-one, drop-cons vs i v lt) (ap (λ (w : Value). w ∷ drop (suc i) vs) (sym at)) in
    let fails : each_from one path i before (map view (drop i vs)) ≡ Err e = rw (first, h) refl in
    sym known ∙ fails
