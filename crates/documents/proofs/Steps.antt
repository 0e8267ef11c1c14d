-- The steps of a reading that did not fail.
use Rattle.std.proofs.Common.{◌≡◌, Bool, true, false, Option, Some, None, option_map, option_and_then, Result, Ok, Err, refl}
use Rattle.std.specs.Prelude.{⊤}
use Rattle.documents.specs.Reading.{◌>>=◌, rule, formed}

pub bind_ok : {A B F : Type 0} (r : Result A F) (f : A → Result B F) (y : B) → (r >>= f) ≡ Ok y → (x : A) × (r ≡ Ok x) × (f x ≡ Ok y)
bind_ok (Ok x) f y e = (x, refl, e)
bind_ok (Err d) f y e = absurd cc

pub rule_ok : {B F : Type 0} (b : Bool) (fault : F) (f : ⊤ → Result B F) (y : B) → (rule b fault >>= f) ≡ Ok y → (b ≡ true) × (f tt ≡ Ok y)
rule_ok true fault f y e = (refl, e)
rule_ok false fault f y e = absurd cc

pub formed_ok : {A F : Type 0} (fault : F) (o : Option A) (x : A) → formed fault o ≡ Ok x → o ≡ Some x
formed_ok fault (Some y) x e = cc
formed_ok fault None x e = absurd cc

pub and_then_ok : {A B : Type 0} (f : A → Option B) (o : Option A) (y : B) → option_and_then f o ≡ Some y → (x : A) × (o ≡ Some x) × (f x ≡ Some y)
and_then_ok f (Some x) y e = (x, refl, e)
and_then_ok f None y e = absurd cc

pub map_ok : {A B : Type 0} (f : A → B) (o : Option A) (y : B) → option_map f o ≡ Some y → (x : A) × (o ≡ Some x) × (f x ≡ y)
map_ok f (Some x) y e = (x, refl, cc)
map_ok f None y e = absurd cc
