-- Values, one a parameter.
use Rattle.std.proofs.Common.{◌≡◌, Bool, true, false, ◌&&◌, List, [], ◌∷◌, length, map, refl}
use Rattle.std.specs.List.{list_all, zip}
use Rattle.std.proofs.lemmas.Bool.{leb-true, le-leb}
use Rattle.values.specs.declared.value.ColType.{ColType}
use Rattle.values.specs.declared.value.ColType.TheVariants as types
use Rattle.values.specs.declared.value.Value.{Value}
use Rattle.values.specs.declared.value.Value.TheVariants as values
use Rattle.values.specs.Rows.{type_of}
use Rattle.proclang_types.specs.declared.procedure.Param.{Param}
use Rattle.proclang_types.specs.Procedures.{param_shape}
use Rattle.requests.specs.Requests.{fits, IsShort, AreArgs}

fits_is : (kind : ColType) (v : Value) → fits kind v ≡ true → (type_of v ≡ kind) × IsShort v
fits_is types.Int (values.Int z) e = (refl, tt)
fits_is types.Text (values.Text s) e = (refl, leb-true (length s) 64 e)
fits_is types.Int (values.Text s) e = absurd cc
fits_is types.Text (values.Int z) e = absurd cc

fits_so : (kind : ColType) (v : Value) → type_of v ≡ kind → IsShort v → fits kind v ≡ true
fits_so types.Int (values.Int z) e h = refl
fits_so types.Text (values.Text s) e h = le-leb (length s) 64 h
fits_so types.Int (values.Text s) e h = absurd cc
fits_so types.Text (values.Int z) e h = absurd cc

both : (a b : Bool) → (a && b) ≡ true → (a ≡ true) × (b ≡ true)
both true b e = (refl, e)
both false b e = absurd cc

abbrev all_fit : List Param → List Value → Bool
all_fit ps vs = list_all (λ p. fits p.0.kind p.1) (zip ps vs)

pub args_are : (ps : List Param) (vs : List Value) → length ps ≡ length vs → all_fit ps vs ≡ true → AreArgs (map param_shape ps) vs
args_are [] [] len e = record { kinds = refl; short = tt }
args_are [] (v ∷ vs) len e = absurd cc
args_are (p ∷ ps) [] len e = absurd cc
args_are (p ∷ ps) (v ∷ vs) len e =
    let now = both (fits p.kind v) (all_fit ps vs) e in
    let one = fits_is p.kind v now.0 in
    let rest = args_are ps vs (cc) now.1 in
    record { kinds = pairs (type_of v) p.kind (map type_of vs) (map (λ q. q.kind) (map param_shape ps)) one.0 rest.kinds; short = (one.1, rest.short) }
  where
    pairs : (a b : ColType) (xs ys : List ColType) → a ≡ b → xs ≡ ys → a ∷ xs ≡ b ∷ ys
    pairs a b xs ys e f = cc

pub args_so : (ps : List Param) (vs : List Value) → AreArgs (map param_shape ps) vs → all_fit ps vs ≡ true
args_so [] vs h = refl
args_so (p ∷ ps) [] h = refl
args_so (p ∷ ps) (v ∷ vs) h =
    let kinds : type_of v ∷ map type_of vs ≡ p.kind ∷ map (λ q. q.kind) (map param_shape ps) = h.kinds in
    let one : fits p.kind v ≡ true = fits_so p.kind v (cc) h.short.0 in
    rw one (args_so ps vs (record { kinds = cc; short = h.short.1 }))
