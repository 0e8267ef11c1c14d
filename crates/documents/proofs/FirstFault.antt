-- Readings compose with the lists of the rules that they test.
use Rattle.std.proofs.Common.{◌≡◌, Bool, true, false, cond, List, [], ◌∷◌, ◌++◌, map, Option, Some, None, Result, Ok, Err, refl, sym, ap, ◌∙◌, subst}
use Rattle.std.specs.Prelude.{⊤}
use Rattle.std.specs.Option.{option_to_list}
use Rattle.std.proofs.lemmas.List.{map-append}
use Rattle.serde_json.specs.Data.{Data}
use Rattle.documents.specs.Reading.{◌>>=◌, rule, formed, each_at}
use Rattle.documents.specs.FirstFault.{broken, in_each, IsFirst}

pub rule_first : {B F : Type 0} (b : Bool) (fault : F) (k : ⊤ → Result B F) (rest : List F) → IsFirst (k tt) rest → IsFirst (rule b fault >>= k) (broken b fault ++ rest)
rule_first true fault k rest h = h
rule_first false fault k rest h = refl

pub bind_first : {A B F : Type 0} (r : Result A F) (k : A → Result B F) (fs gs : List F) → IsFirst r fs → ((x : A) → r ≡ Ok x → IsFirst (k x) gs) → IsFirst (r >>= k) (fs ++ gs)
bind_first {F = F} (Ok x) k fs gs h later = subst (λ (es : List F). IsFirst (k x) (es ++ gs)) (sym h) (later x refl)
bind_first (Err e) k [] gs h later = absurd cc
bind_first (Err e) k (f ∷ fs) gs h later = h

pub formed_first : {A B F : Type 0} (fault : F) (o : Option A) (k : A → Result B F) (faults : Option A → List F) → faults None ≡ fault ∷ [] → ((x : A) → IsFirst (k x) (faults (Some x))) → IsFirst (formed fault o >>= k) (faults o)
formed_first fault None k faults e law = rw e refl
formed_first fault (Some x) k faults e law = law x

pub rule_last : {B F : Type 0} (b : Bool) (fault : F) (x : B) → IsFirst (rule b fault >>= λ _. Ok x) (broken b fault)
rule_last true fault x = refl
rule_last false fault x = refl

pub ok_first : {A B F : Type 0} (r : Result A F) (g : A → B) (fs : List F) → IsFirst r fs → IsFirst (r >>= λ x. Ok (g x)) fs
ok_first (Ok x) g fs h = h
ok_first (Err e) g fs h = h

pub if_first : {A F : Type 0} (b : Bool) (fault : F) (x : A) → IsFirst (cond b (Ok x) (Err fault)) (broken b fault)
if_first true fault x = refl
if_first false fault x = refl

module _ {X N F : Type 0} (name_of : X → N) (one : List X → Data → Result X F) (named : Data → Option N) (faults : List N → Data → List F) where
  pub each_first : ((before : List X) (d : Data) → IsFirst (one before d) (faults (map name_of before) d))
      → ((before : List X) (d : Data) (x : X) → one before d ≡ Ok x → named d ≡ Some (name_of x))
      → (before : List X) (ds : List Data) → IsFirst (each_at one before ds) (in_each named faults (map name_of before) ds)
  each_first law name_law before [] = refl
  each_first law name_law before (d ∷ ds) =
      bind_first (one before d) (λ x. each_at one (before ++ x ∷ []) ds) (faults (map name_of before) d) (in_each named faults (map name_of before ++ option_to_list (named d)) ds) (law before d)
      (λ x is.
      let names : map name_of (before ++ x ∷ []) ≡ map name_of before ++ option_to_list (named d) = map-append name_of before (x ∷ []) ∙ ap (λ (o : Option N). map name_of before ++ option_to_list o) (sym (name_law before d x is)) in
      subst (λ (ns : List N). IsFirst (each_at one (before ++ x ∷ []) ds) (in_each named faults ns ds)) names (each_first law name_law (before ++ x ∷ []) ds))
