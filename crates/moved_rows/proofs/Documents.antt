-- What documents say that were read of a text in UTF-8: numbers in range, and values that columns can hold.
use Rattle.std.proofs.Common.{◌≡◌, ◌<◌, ◌^◌, ℕ, ℤ, pos, Bool, true, false, List, [], ◌∷◌, ◌++◌, length, Option, Some, None, option_map, nat_le, refl, subst}
use Rattle.std.specs.Prelude.{if◌then◌else◌}
use Rattle.std.specs.List.{AllByRecursion}
use Rattle.std.proofs.lemmas.Bool.{leb-true, ltb-true}
use Rattle.serde_json.specs.Data.{Data, null, boolean, number, string, array, object}
use Rattle.serde_json.specs.Find.{as_i64}
use Rattle.serde_json.specs.View.{items_of}
use Rattle.documents.specs.Json.{integer}
use Rattle.documents.proofs.Steps.{and_then_ok}
use Rattle.values.specs.declared.value.Value.{Value}
use Rattle.values.specs.declared.value.Value.TheVariants.{Int, Text}
use Rattle.catalogue.specs.Said.{value_said, values_after, values_said}
use Rattle.footprint.specs.Arithmetic.{is_int}
use Rattle.rows_document.specs.Said.{IsValue}
use Rattle.moved_rows.proofs.JsonData.{IsSound, AreSound}

-- each document of an array
pub each_sound : (ds : List Data) → AreSound (items_of ds) → AllByRecursion IsSound ds
each_sound [] h = tt
each_sound (d ∷ ds) h = (h.0, each_sound ds h.1)

pub integer_in_range : (d : Data) (z : ℤ) → IsSound d → integer d ≡ Some z → is_int z ≡ true
integer_in_range (number n) z h e = h z e
integer_in_range null z h e = absurd cc
integer_in_range (boolean b) z h e = absurd cc
integer_in_range (string s) z h e = absurd cc
integer_in_range (array ds) z h e = absurd cc
integer_in_range (object ms) z h e = absurd cc

pub key_in_range : (d : Data) (key : ℕ) → IsSound d → integer d ≡ Some (pos key) → key < 2 ^ 63
key_in_range d key h e = ltb-true key (2 ^ 63) (integer_in_range d (pos key) h e)

-- ---- values

value_is : (d : Data) (v : Value) → IsSound d → value_said d ≡ Some v → IsValue v
value_is (number n) v h e = by (as_i64 n) refl e
  where
    by : (o : Option ℤ) → as_i64 n ≡ o → option_map Int o ≡ Some v → IsValue v
    by None is k = absurd cc
    by (Some z) is k = let same : Int z ≡ v = cc in subst IsValue same (h z is)
value_is (string t) v h e = by (nat_le (length t) 64) refl e
  where
    by : (b : Bool) → nat_le (length t) 64 ≡ b → (if b then Some (Text t) else None) ≡ Some v → IsValue v
    by true few k = let same : Text t ≡ v = cc in subst IsValue same (h, leb-true (length t) 64 few)
    by false few k = absurd cc
value_is null v h e = absurd cc
value_is (boolean b) v h e = absurd cc
value_is (array ds) v h e = absurd cc
value_is (object ms) v h e = absurd cc

push_value : (vs : List Value) (v : Value) → AllByRecursion IsValue vs → IsValue v → AllByRecursion IsValue (vs ++ v ∷ [])
push_value [] v h k = (k, tt)
push_value (w ∷ vs) v h k = (h.0, push_value vs v h.1 k)

values_are : (before : List Value) (ds : List Data) (vs : List Value) → AllByRecursion IsValue before → AllByRecursion IsSound ds → values_after before ds ≡ Some vs → AllByRecursion IsValue vs
values_are before [] vs h sound e = let same : before ≡ vs = cc in subst (AllByRecursion IsValue) same h
values_are before (d ∷ ds) vs h sound e =
    let v = and_then_ok (λ v. values_after (before ++ v ∷ []) ds) (value_said d) vs e in
    values_are (before ++ v.0 ∷ []) ds vs (push_value before v.0 h (value_is d v.0 sound.0 v.1)) sound.1 v.2

pub said_values : (ds : List Data) (vs : List Value) → AllByRecursion IsSound ds → values_said ds ≡ Some vs → AllByRecursion IsValue vs
said_values ds vs sound e = values_are [] ds vs tt sound e
