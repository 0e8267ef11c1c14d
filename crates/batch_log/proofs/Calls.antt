-- What a line says, in the steps of the code.
use Rattle.std.proofs.Common.{◌≡◌, ℕ, suc, List, [], ◌∷◌, ◌&&◌, length, map, eqb, Bool, true, false, None, Some, Ok, Err, Option, Result, is_some, refl, sym, ◌∙◌, ap, subst}
use Rattle.std.specs.Option.{IsSomeAnd}
use Rattle.std.specs.List.{list_all, zip}
use Rattle.std.specs.Str.{IsUtf8, is_utf8}
use Rattle.std.proofs.lemmas.Bool.{leb-true, le-leb, eqb-true, eq-eqb}
use Rattle.std.proofs.lemmas.Str.{IsUtf8-from_is_utf8, is_utf8-from_IsUtf8}
use Rattle.serde_json.specs.Data.{Data}
use Rattle.serde_json.specs.Read.{read}
use Rattle.values.specs.declared.value.ColType.{ColType}
use Rattle.values.specs.declared.value.ColType.TheVariants as types
use Rattle.values.specs.declared.value.Value.{Value}
use Rattle.values.specs.declared.value.Value.TheVariants as values
use Rattle.values.specs.Rows.{type_of}
use Rattle.catalogue.specs.Said.{values_said}
use Rattle.proclang_types.specs.Procedures.{ProcParts}
use Rattle.proclang_types.specs.Syntax.{ParamShape}
use Rattle.requests.specs.ProcLists.{proc_named}
use Rattle.requests.specs.Requests.{Call, fits, IsShort, AreArgs}
use Rattle.batch_log.specs.declared.fault.LogFaultKind.{LogFaultKind}
use Rattle.batch_log.specs.declared.fault.LogFaultKind.TheVariants.{NotJson, UnknownProc, Args, Memory}
use Rattle.batch_log.specs.Faults.{is_memory}
use Rattle.batch_log.specs.Lines.{all_fit, call_said, document_said, line_said}

-- ---- a line's bytes

pub said_of_text : (procs : List ProcParts) (line : List ℕ) → IsUtf8 line → line_said procs line ≡ document_said procs (read line)
unfolding line_said
said_of_text procs line h = rw (is_utf8-from_IsUtf8 line h) refl

said_cases : (procs : List ProcParts) (line : List ℕ) (b : Bool) → is_utf8 line ≡ b → (IsUtf8 line → ⊥) → line_said procs line ≡ Err NotJson
unfolding line_said
said_cases procs line true e h = absurd (h (IsUtf8-from_is_utf8 line e))
said_cases procs line false e h = rw e refl

pub said_of_bytes : (procs : List ProcParts) (line : List ℕ) → (IsUtf8 line → ⊥) → line_said procs line ≡ Err NotJson
said_of_bytes procs line h = said_cases procs line (is_utf8 line) refl h

-- ---- the values of a call

fits_is : (kind : ColType) (v : Value) → fits kind v ≡ true → (type_of v ≡ kind) × IsShort v
fits_is types.Int (values.Int z) e = (refl, tt)
fits_is types.Text (values.Text s) e = (refl, leb-true (length s) 64 e)
fits_is types.Int (values.Text s) e = absurd cc
fits_is types.Text (values.Int z) e = absurd cc

fits_so : (kind : ColType) (v : Value) → type_of v ≡ kind → IsShort v → fits kind v ≡ true
fits_so types.Int (values.Int z) e h = refl
fits_so types.Text (values.Text s) e h = le-leb (length s) 64 h
fits_so types.Int (values.Text s) e h = absurd cc
fits_so types.Text (values.Int z) e h = absurd cc

both : (a b : Bool) → (a && b) ≡ true → (a ≡ true) × (b ≡ true)
both true b e = (refl, e)
both false b e = absurd cc

abbrev each_fits : List ParamShape → List Value → Bool
each_fits ps vs = list_all (λ p. fits p.0.kind p.1) (zip ps vs)

args_are : (ps : List ParamShape) (vs : List Value) → length vs ≡ length ps → each_fits ps vs ≡ true → AreArgs ps vs
args_are [] [] len e = record { kinds = refl; short = tt }
args_are [] (v ∷ vs) len e = absurd cc
args_are (p ∷ ps) [] len e = absurd cc
args_are (p ∷ ps) (v ∷ vs) len e =
    let now = both (fits p.kind v) (each_fits ps vs) e in
    let one = fits_is p.kind v now.0 in
    let rest = args_are ps vs (cc) now.1 in
    record { kinds = pairs (type_of v) p.kind (map type_of vs) (map (λ q. q.kind) ps) one.0 rest.kinds; short = (one.1, rest.short) }
  where
    pairs : (a b : ColType) (xs ys : List ColType) → a ≡ b → xs ≡ ys → a ∷ xs ≡ b ∷ ys
    pairs a b xs ys e f = cc

all_fit-args : (ps : List ParamShape) (vs : List Value) → all_fit ps vs ≡ true → AreArgs ps vs
all_fit-args ps vs e =
    let parts = both (eqb (length vs) (length ps)) (each_fits ps vs) e in
    args_are ps vs (eqb-true (length vs) (length ps) parts.0) parts.1

args_each : (ps : List ParamShape) (vs : List Value) → AreArgs ps vs → each_fits ps vs ≡ true
args_each [] vs h = refl
args_each (p ∷ ps) [] h = refl
args_each (p ∷ ps) (v ∷ vs) h =
    let kinds : type_of v ∷ map type_of vs ≡ p.kind ∷ map (λ q. q.kind) ps = h.kinds in
    let one : fits p.kind v ≡ true = fits_so p.kind v (cc) h.short.0 in
    rw one (args_each ps vs (record { kinds = cc; short = h.short.1 }))

same_lengths : (ps : List ParamShape) (vs : List Value) → map type_of vs ≡ map (λ q. q.kind) ps → length vs ≡ length ps
same_lengths [] [] h = refl
same_lengths [] (v ∷ vs) h = absurd cc
same_lengths (p ∷ ps) [] h = absurd cc
same_lengths (p ∷ ps) (v ∷ vs) h = ap (λ n. suc n) (same_lengths ps vs (cc))

args-all_fit : (ps : List ParamShape) (vs : List Value) → AreArgs ps vs → all_fit ps vs ≡ true
args-all_fit ps vs h = rw (eq-eqb (length vs) (length ps) (same_lengths ps vs h.kinds), args_each ps vs h) refl

-- ---- a call

refused_at : (ps : List ParamShape) (vs : List Value) (b : Bool) → all_fit ps vs ≡ b → (AreArgs ps vs → ⊥) → all_fit ps vs ≡ false
refused_at ps vs true e h = absurd (h (all_fit-args ps vs e))
refused_at ps vs false e h = e

refused : (found : Option ProcParts) (args : List Value) → IsSomeAnd found (λ p. AreArgs p.params args → ⊥) → (proc : ProcParts) × (found ≡ Some proc) × (all_fit proc.params args ≡ false)
refused None args h = absurd h
refused (Some p) args h = (p, refl, refused_at p.params args (all_fit p.params args) refl h)

pub call_refused : (procs : List ProcParts) (name : List ℕ) (ds : List Data) (args : List Value) → values_said ds ≡ Some args →
    IsSomeAnd (proc_named procs name) (λ p. AreArgs p.params args → ⊥) → call_said procs name ds ≡ Err Args
unfolding call_said
call_refused procs name ds args said h =
    let r = refused (proc_named procs name) args h in
    rw (said, r.1, r.2) refl

pub call_unknown : (procs : List ProcParts) (name : List ℕ) (ds : List Data) → is_some (proc_named procs name) ≡ false → call_said procs name ds ≡ Err UnknownProc
unfolding call_said
call_unknown procs name ds h = rw (none_found (proc_named procs name) h) refl
  where
    none_found : (found : Option ProcParts) → is_some found ≡ false → found ≡ None
    none_found None e = refl
    none_found (Some p) e = absurd cc

some_found : (found : Option ProcParts) → is_some found ≡ true → (p : ProcParts) × (found ≡ Some p)
some_found None e = absurd cc
some_found (Some p) e = (p, refl)

pub call_unsaid : (procs : List ProcParts) (name : List ℕ) (ds : List Data) → is_some (proc_named procs name) ≡ true → values_said ds ≡ None → call_said procs name ds ≡ Err Args
unfolding call_said
call_unsaid procs name ds h said = rw (said, (some_found (proc_named procs name) h).1) refl

-- the fault of a call whose values are not had
fault_unsaid : (procs : List ProcParts) (name : List ℕ) (ds : List Data) (fault : LogFaultKind) (b : Bool) → is_some (proc_named procs name) ≡ b →
    (is_some (proc_named procs name) ≡ true → fault ≡ Args) → (is_some (proc_named procs name) ≡ false → fault ≡ UnknownProc) → values_said ds ≡ None → call_said procs name ds ≡ Err fault
fault_unsaid procs name ds fault true e known unknown said = call_unsaid procs name ds e said ∙ ap Err (sym (known e))
fault_unsaid procs name ds fault false e known unknown said = call_unknown procs name ds e ∙ ap Err (sym (unknown e))

pub call_faulted : (procs : List ProcParts) (name : List ℕ) (ds : List Data) (fault : LogFaultKind) →
    (is_some (proc_named procs name) ≡ true → fault ≡ Args) → (is_some (proc_named procs name) ≡ false → fault ≡ UnknownProc) → values_said ds ≡ None → call_said procs name ds ≡ Err fault
call_faulted procs name ds fault known unknown said = fault_unsaid procs name ds fault (is_some (proc_named procs name)) refl known unknown said

fault_unread : (procs : List ProcParts) (name : List ℕ) (ds : List Data) (fault : LogFaultKind) (b : Bool) → is_some (proc_named procs name) ≡ b →
    (is_some (proc_named procs name) ≡ true → fault ≡ Memory) → (is_some (proc_named procs name) ≡ false → fault ≡ UnknownProc) → is_memory fault ≡ false → call_said procs name ds ≡ Err fault
fault_unread procs name ds fault true e known unknown other = absurd (differ (sym (ap is_memory (known e)) ∙ other))
  where
    differ : true ≡ false → ⊥
    differ f = cc
fault_unread procs name ds fault false e known unknown other = call_unknown procs name ds e ∙ ap Err (sym (unknown e))

-- memory is not told of a call by an unknown name
pub call_unread : (procs : List ProcParts) (name : List ℕ) (ds : List Data) (fault : LogFaultKind) →
    (is_some (proc_named procs name) ≡ true → fault ≡ Memory) → (is_some (proc_named procs name) ≡ false → fault ≡ UnknownProc) → is_memory fault ≡ false → call_said procs name ds ≡ Err fault
call_unread procs name ds fault known unknown other = fault_unread procs name ds fault (is_some (proc_named procs name)) refl known unknown other

-- a call that isn't refused for its values has right ones
right : (ps : List ParamShape) (vs : List Value) (b : Bool) → all_fit ps vs ≡ b → ((AreArgs ps vs → ⊥) → ⊥) → all_fit ps vs ≡ true
right ps vs true e h = e
right ps vs false e h = absurd (h (λ are. absurd (differ (sym e ∙ args-all_fit ps vs are))))
  where
    differ : false ≡ true → ⊥
    differ f = cc

pub call_made : {F : Type 0} (procs : List ProcParts) (name : List ℕ) (ds : List Data) (args : List Value) (c : Call) (result : Result Call F) (fault : F) →
    values_said ds ≡ Some args → proc_named procs name ≡ Some c.proc → c.args ≡ args → result ≡ Ok c →
    (IsSomeAnd (proc_named procs name) (λ p. AreArgs p.params args → ⊥) → result ≡ Err fault) → call_said procs name ds ≡ Ok c
unfolding call_said
call_made {F} procs name ds args c result fault said found same is refused =
    let each : (AreArgs c.proc.params args → ⊥) → ⊥ = λ wrong. differ (sym is ∙ refused (let Q : Option ProcParts → Type 0 = λ o. IsSomeAnd o (λ p. AreArgs p.params args → ⊥) in subst Q (sym found) wrong)) in
    rw (said, found, right c.proc.params args (all_fit c.proc.params args) refl each) (ap (λ a. Ok (record { proc = c.proc; args = a })) (sym same))
  where
    differ : Ok c ≡ Err fault → ⊥
    differ e = cc
