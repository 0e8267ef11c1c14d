-- What procedures make of a call.
use Rattle.std.proofs.Common.{◌≡◌, ◌↔◌, Bool, true, false, ◌&&◌, List, [], ◌∷◌, length, map, Option, Some, None, Result, Ok, Err, IfOk, IsSomeAnd, refl, sym, ◌∙◌}
use Rattle.std.proofs.lemmas.Bool.{leb-true, le-leb}
use Rattle.values.specs.declared.value.ColType.{ColType}
use Rattle.values.specs.declared.value.ColType.TheVariants as types
use Rattle.values.specs.declared.value.Value.{Value}
use Rattle.values.specs.declared.value.Value.TheVariants as values
use Rattle.values.specs.Rows.{type_of}
use Rattle.proclang_types.specs.Syntax.{ParamShape}
use Rattle.proclang_types.specs.Procedures.{ProcParts}
use Rattle.requests.specs.Requests.{Call, fits, IsShort, AreArgs}
use Rattle.requests.specs.declared.request.RequestFault.{RequestFault}
use Rattle.requests.specs.declared.request.RequestFault.TheVariants.{UnknownProc, Args, NoMemory}
use Rattle.example_serving.specs.Calls.{takes, request_with}

fits_is : (kind : ColType) (v : Value) → fits kind v ≡ true → (type_of v ≡ kind) × IsShort v
fits_is types.Int (values.Int z) e = (refl, tt)
fits_is types.Text (values.Text s) e = (refl, leb-true (length s) 64 e)
fits_is types.Int (values.Text s) e = absurd cc
fits_is types.Text (values.Int z) e = absurd cc

fits_so : (kind : ColType) (v : Value) → type_of v ≡ kind → IsShort v → fits kind v ≡ true
fits_so types.Int (values.Int z) e h = refl
fits_so types.Text (values.Text s) e h = le-leb (length s) 64 h
fits_so types.Int (values.Text s) e h = absurd cc
fits_so types.Text (values.Int z) e h = absurd cc

both : (a b : Bool) → (a && b) ≡ true → (a ≡ true) × (b ≡ true)
both true b e = (refl, e)
both false b e = absurd cc

takes_is : (ps : List ParamShape) (vs : List Value) → takes ps vs ≡ true → AreArgs ps vs
takes_is [] [] e = record { kinds = refl; short = tt }
takes_is [] (v ∷ vs) e = absurd cc
takes_is (p ∷ ps) [] e = absurd cc
takes_is (p ∷ ps) (v ∷ vs) e =
    let now = both (fits p.kind v) (takes ps vs) e in
    let one = fits_is p.kind v now.0 in
    let rest = takes_is ps vs now.1 in
    record { kinds = pairs (type_of v) p.kind (map type_of vs) (map (λ q. q.kind) ps) one.0 rest.kinds; short = (one.1, rest.short) }
  where
    pairs : (a b : ColType) (xs ys : List ColType) → a ≡ b → xs ≡ ys → a ∷ xs ≡ b ∷ ys
    pairs a b xs ys e f = cc

takes_so : (ps : List ParamShape) (vs : List Value) → AreArgs ps vs → takes ps vs ≡ true
takes_so [] [] h = refl
takes_so [] (v ∷ vs) h = let k : type_of v ∷ map type_of vs ≡ [] = h.kinds in absurd (cc)
takes_so (p ∷ ps) [] h = let k : [] ≡ p.kind ∷ map (λ q. q.kind) ps = h.kinds in absurd (cc)
takes_so (p ∷ ps) (v ∷ vs) h =
    let kinds : type_of v ∷ map type_of vs ≡ p.kind ∷ map (λ q. q.kind) ps = h.kinds in
    let one : fits p.kind v ≡ true = fits_so p.kind v (cc) h.short.0 in
    rw one (takes_so ps vs (record { kinds = cc; short = h.short.1 }))

taken_of : (p : ProcParts) (args : List Value) (result : Result Call RequestFault) → IfOk result (λ r. (Some p ≡ Some r.proc) × (r.args ≡ args))
    → ((result ≡ Err UnknownProc) ↔ (Some p ≡ None)) → ((result ≡ Err Args) ↔ IsSomeAnd (Some p) (λ q. ¬ AreArgs q.params args)) → ¬ (result ≡ Err NoMemory)
    → (takes p.params args ≡ true) → result ≡ Ok (record { proc = p; args = args })
taken_of p args (Ok r) ok unknown wrong memory e = let same : p ≡ r.proc = cc in λ i. Ok (record { proc = sym same i; args = ok.1 i })
taken_of p args (Err UnknownProc) ok unknown wrong memory e = let none : Some p ≡ None = unknown.0 refl in absurd (cc)
taken_of p args (Err Args) ok unknown wrong memory e = absurd (wrong.0 refl (takes_is p.params args e))
taken_of p args (Err NoMemory) ok unknown wrong memory e = absurd (memory refl)

made_with : (p : ProcParts) (args : List Value) (result : Result Call RequestFault) (b : Bool) → takes p.params args ≡ b → IfOk result (λ r. (Some p ≡ Some r.proc) × (r.args ≡ args))
    → ((result ≡ Err UnknownProc) ↔ (Some p ≡ None)) → ((result ≡ Err Args) ↔ IsSomeAnd (Some p) (λ q. ¬ AreArgs q.params args)) → ¬ (result ≡ Err NoMemory)
    → result ≡ request_with (Some p) args
made_with p args result true e ok unknown wrong memory = rw e (taken_of p args result ok unknown wrong memory e)
made_with p args result false e ok unknown wrong memory = rw e (wrong.1 (λ h. let t : true ≡ false = sym (takes_so p.params args h) ∙ e in absurd (cc)))

-- what `Request::new` answers
pub made_is : (found : Option ProcParts) (args : List Value) (result : Result Call RequestFault) → IfOk result (λ r. (found ≡ Some r.proc) × (r.args ≡ args))
    → ((result ≡ Err UnknownProc) ↔ (found ≡ None)) → ((result ≡ Err Args) ↔ IsSomeAnd found (λ q. ¬ AreArgs q.params args)) → ¬ (result ≡ Err NoMemory)
    → result ≡ request_with found args
made_is None args result ok unknown wrong memory = unknown.1 refl
made_is (Some p) args result ok unknown wrong memory = made_with p args result (takes p.params args) refl ok unknown wrong memory
