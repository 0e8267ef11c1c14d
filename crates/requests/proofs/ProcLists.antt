-- Procedures in a map, each under its name.
use Rattle.std.proofs.Common.{◌≡◌, ℕ, Bool, true, false, cond, ◌||◌, List, [], ◌∷◌, ◌++◌, map, String, Global, string_bytes, Option, Some, None, is_some, option_copied, option_map, IfSome, Bor, Result, Ok, Err, OnOk, OnErr, refl, sym, ap, ◌∙◌}
use Rattle.std.specs.Bool.{⊤}
use Rattle.std.proofs.lemmas.List.{map-append}
use Rattle.std.specs.List.{AllByRecursion}
use Rattle.std.specs.Str.{bytes_eq}
use Rattle.std.specs.String.{string_eq}
use Rattle.std.specs.HashMap.{HashMap, get_by_text}
use Rattle.std.specs.Map.{lookup}
use Rattle.indexmap.specs.IndexMap.{insert_entry}
use Rattle.values.specs.Names.{is_name}
use Rattle.catalogue.specs.Reading.{is_used}
use Rattle.catalogue.proofs.Named.{distinct_push}
use Rattle.catalogue.specs.Shapes.{TableShape}
use Rattle.proclang_types.specs.Procedures.{ProcParts, proc_syntax}
use Rattle.requests.specs.ProcLists.{NamedProc, procs_of, AreKeyed, AreOver, AreProcs, IsProcMap, proc_named}

some_at : {V : Type 0} (b : Bool) (v : V) (o : Option V) (c : Bool) → is_some o ≡ c → is_some (cond b (Some v) o) ≡ (b || c)
some_at true v o c e = refl
some_at false v o c e = e

-- a name is used exactly where a procedure has it
pub named_used : (name : List ℕ) (ps : List ProcParts) → is_used (λ p. p.name) name (map proc_syntax ps) ≡ is_some (proc_named ps name)
named_used name [] = refl
named_used name (p ∷ ps) = sym (some_at (bytes_eq name p.name) p (proc_named ps name) (is_used (λ q. q.name) name (map proc_syntax ps)) (sym (named_used name ps)))

not_used : (name : List ℕ) (ps : List ProcParts) → proc_named ps name ≡ None → is_used (λ p. p.name) name (map proc_syntax ps) ≡ false
not_used name ps e = named_used name ps ∙ ap is_some e

found_entry : (name : List ℕ) (es : List NamedProc) → AreKeyed es → lookup (λ k. bytes_eq name (string_bytes k)) es ≡ proc_named (procs_of es) name
found_entry name [] h = refl
found_entry name (e ∷ es) h =
    ap (λ (o : Option ProcParts). cond (bytes_eq name (string_bytes e.0)) (Some e.1) o) (found_entry name es h.1)
    ∙ ap (λ (n : List ℕ). cond (bytes_eq name n) (Some e.1) (proc_named (procs_of es) name)) h.0

copied : {A : Type 0} (o : Option (Bor A)) → option_map (λ x. x.now) o ≡ option_copied o
copied None = refl
copied (Some x) = refl

pub proc_found : {S : Type 0} (m : HashMap (String Global) ProcParts S) (name : List ℕ) (o : Option (Bor ProcParts)) → AreKeyed m.entries → option_copied o ≡ get_by_text m name → option_map (λ p. p.now) o ≡ proc_named (procs_of m.entries) name
proc_found m name o h is = copied o ∙ is ∙ found_entry name m.entries h

neither : (a b : Bool) → (a || b) ≡ false → (a ≡ false) × (b ≡ false)
neither true b e = absurd cc
neither false b e = (refl, e)

-- a new name goes last
pub proc_new : (es : List NamedProc) (k : String Global) (v : ProcParts) → AreKeyed es → string_bytes k ≡ v.name → is_used (λ p. p.name) v.name (map proc_syntax (procs_of es)) ≡ false
    → insert_entry string_eq es k v ≡ es ++ (k, v) ∷ []
proc_new [] k v h is u = refl
proc_new (e ∷ es) k v h is u =
    let both = neither (bytes_eq v.name e.1.name) (is_used (λ p. p.name) v.name (map proc_syntax (procs_of es))) u in
    let other : bytes_eq (string_bytes k) (string_bytes e.0) ≡ false = rw (is, h.0) both.0 in
    rw other (ap (λ (rest : List NamedProc). e ∷ rest) (proc_new es k v h.1 is both.1))

pub keyed_push : (es : List NamedProc) (k : String Global) (v : ProcParts) → AreKeyed es → string_bytes k ≡ v.name → AreKeyed (es ++ (k, v) ∷ [])
keyed_push [] k v h is = (is, tt)
keyed_push (e ∷ es) k v h is = (h.0, keyed_push es k v h.1 is)

pub proc_pushed : (es new : List NamedProc) (k : String Global) (p : ProcParts) → AreKeyed es → string_bytes k ≡ p.name → proc_named (procs_of es) p.name ≡ None
    → new ≡ insert_entry string_eq es k p → (procs_of new ≡ procs_of es ++ p ∷ []) × AreKeyed new
proc_pushed es new k p h is u e =
    let fresh : is_used (λ q. q.name) p.name (map proc_syntax (procs_of es)) ≡ false = not_used p.name (procs_of es) u in
    let last : new ≡ es ++ (k, p) ∷ [] = e ∙ proc_new es k p h is fresh in
    (rw (last, map-append) refl, rw last (keyed_push es k p h is))

over_step : (tables : List TableShape) (p q : ProcParts) (b : Bool) (rest : Option ProcParts) → q.tables ≡ tables → (Some p ≡ rest → p.tables ≡ tables) → Some p ≡ cond b (Some q) rest → p.tables ≡ tables
over_step tables p q true rest h others e = cc
over_step tables p q false rest h others e = others e

-- what is found among procedures over tables is over them
over_named : (tables : List TableShape) (name : List ℕ) (p : ProcParts) (procs : List ProcParts) → AreOver tables procs → Some p ≡ proc_named procs name → p.tables ≡ tables
over_named tables name p [] h e = absurd cc
over_named tables name p (q ∷ qs) h e = over_step tables p q (bytes_eq name q.name) (proc_named qs name) h.0 (λ r. over_named tables name p qs h.1 r) e

pub found_over : (tables : List TableShape) (name : List ℕ) (procs : List ProcParts) (o : Option (Bor ProcParts)) → AreOver tables procs → option_map (λ p. p.now) o ≡ proc_named procs name → IfSome o (λ p. p.now.tables ≡ tables)
found_over tables name procs None h e = tt
found_over tables name procs (Some x) h e = over_named tables name x.now procs h e

-- procedures stay what they are with one more, over their tables and of a new name that obeys the rule
pub procs_pushed : (tables : List TableShape) (ps : List ProcParts) (p : ProcParts) → AreProcs tables ps → p.tables ≡ tables → is_name p.name ≡ true → proc_named ps p.name ≡ None → AreProcs tables (ps ++ p ∷ [])
procs_pushed tables ps p h over name fresh = record {
  over = all_push (λ q. q.tables ≡ tables) ps p h.over over;
  names = all_push (λ q. is_name q.name ≡ true) ps p h.names name;
  distinct = distinct_push (λ q. q.name) ps p h.distinct (same_used p.name ps ∙ not_used p.name ps fresh);
}
  where
    all_push : (P : ProcParts → Type 0) (xs : List ProcParts) (x : ProcParts) → AllByRecursion P xs → P x → AllByRecursion P (xs ++ x ∷ [])
    all_push P [] x h now = (now, tt)
    all_push P (y ∷ ys) x h now = (h.0, all_push P ys x h.1 now)

    same_used : (name : List ℕ) (xs : List ProcParts) → is_used (λ q. q.name) name xs ≡ is_used (λ q. q.name) name (map proc_syntax xs)
    same_used name [] = refl
    same_used name (x ∷ xs) = ap (λ (b : Bool). bytes_eq name x.name || b) (same_used name xs)

-- the map is as it was where a procedure could not be pushed, and else has one more
pub map_pushed : {E : Type 0} (tables : List TableShape) (old new : List NamedProc) (p : ProcParts) (r : Result ⊤ E) → IsProcMap tables old → p.tables ≡ tables → is_name p.name ≡ true → proc_named (procs_of old) p.name ≡ None
    → OnOk r (procs_of new ≡ procs_of old ++ p ∷ []) → OnOk r (AreKeyed new) → OnErr r (new ≡ old) → IsProcMap tables new
map_pushed tables old new p (Ok u) h over name fresh pushed keyed same = record { keyed = keyed; procs = rw pushed (procs_pushed tables (procs_of old) p h.procs over name fresh) }
map_pushed tables old new p (Err e) h over name fresh pushed keyed same = rw same h
