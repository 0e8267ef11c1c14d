-- What a document is, where its form has been read, and that such a document has the form.
use Rattle.std.proofs.Common.{◌≡◌, ℕ, ℤ, pos, negsuc, Bool, true, false, if◌then◌else◌, ◌&&◌, List, [], ◌∷◌, Option, Some, None, option_and_then, refl, sym, ap, ◌∙◌}
use Rattle.std.specs.Str.{bytes_eq}
use Rattle.std.proofs.lemmas.Bool.{eqb-true}
use Rattle.std.proofs.lemmas.Slice.Eq.{bytes_eq-Decides}
use Rattle.serde_json.specs.Data.{Data, null, boolean, number, string, array, object, Items}
use Rattle.serde_json.specs.Find.{as_str, as_array}
use Rattle.serde_json.specs.View.{items_of}
use Rattle.documents.specs.Json.{list_of, elements, integer, two, three, text_number_list, is_one, versioned_list}
use Rattle.documents.proofs.Json.{list_of-items_of, items_of-list_of}
use Rattle.documents.proofs.Steps.{and_then_ok, map_ok}

pub string_said : (d : Data) (s : List ℕ) → as_str d ≡ Some s → d ≡ string s
string_said (string t) s e = cc
string_said null s e = absurd cc
string_said (boolean b) s e = absurd cc
string_said (number n) s e = absurd cc
string_said (array ds) s e = absurd cc
string_said (object ms) s e = absurd cc

array_said : (d : Data) (is : Items) → as_array d ≡ Some is → d ≡ array is
array_said (array ds) is e = cc
array_said null is e = absurd cc
array_said (boolean b) is e = absurd cc
array_said (number n) is e = absurd cc
array_said (string t) is e = absurd cc
array_said (object ms) is e = absurd cc

pub elements_said : (d : Data) (ds : List Data) → elements d ≡ Some ds → d ≡ array (items_of ds)
elements_said d ds e =
    let m = map_ok list_of (as_array d) ds e in
    array_said d m.0 m.1 ∙ ap (λ (is : Items). array is) (sym (items_of-list_of m.0) ∙ ap items_of m.2)

pub elements_again : (ds : List Data) → elements (array (items_of ds)) ≡ Some ds
elements_again ds = ap (λ (es : List Data). Some es) (list_of-items_of ds)

pub two_said : (ds : List Data) (p : Data × Data) → two ds ≡ Some p → ds ≡ p.0 ∷ p.1 ∷ []
two_said (a ∷ b ∷ []) p e = cc
two_said [] p e = absurd cc
two_said (a ∷ []) p e = absurd cc
two_said (a ∷ b ∷ c ∷ ds) p e = absurd cc

pub three_said : (ds : List Data) (p : Data × Data × Data) → three ds ≡ Some p → ds ≡ p.0 ∷ p.1 ∷ p.2 ∷ []
three_said (a ∷ b ∷ c ∷ []) p e = cc
three_said [] p e = absurd cc
three_said (a ∷ []) p e = absurd cc
three_said (a ∷ b ∷ []) p e = absurd cc
three_said (a ∷ b ∷ c ∷ d ∷ ds) p e = absurd cc

-- ---- a text, a number and a list

pub text_number_list_said : (d : Data) (name : List ℕ) (n : ℤ) (columns : List Data) → text_number_list d ≡ Some (name, n, columns)
    → (m : Data) × (d ≡ array (items_of (string name ∷ m ∷ array (items_of columns) ∷ []))) × (integer m ≡ Some n)
unfolding text_number_list
text_number_list_said d name n columns e =
    let a = and_then_ok _ (option_and_then three (elements d)) (name, n, columns) e in
    let three_of = and_then_ok three (elements d) a.0 a.1 in
    let b = and_then_ok _ (as_str a.0.0) (name, n, columns) a.2 in
    let c = and_then_ok _ (integer a.0.1) (name, n, columns) b.2 in
    let f = map_ok _ (elements a.0.2) (name, n, columns) c.2 in
    let name-is : b.0 ≡ name = ap (λ (p : List ℕ × ℤ × List Data). p.0) f.2 in
    let n-is : c.0 ≡ n = ap (λ (p : List ℕ × ℤ × List Data). p.1) f.2 in
    let columns-is : f.0 ≡ columns = ap (λ (p : List ℕ × ℤ × List Data). p.2) f.2 in
    let first : a.0.0 ≡ string name = string_said a.0.0 b.0 b.1 ∙ ap (λ (s : List ℕ). string s) name-is in
    let third : a.0.2 ≡ array (items_of columns) = elements_said a.0.2 f.0 f.1 ∙ ap (λ (ds : List Data). array (items_of ds)) columns-is in
    let all : three_of.0 ≡ string name ∷ a.0.1 ∷ array (items_of columns) ∷ [] = rw (← first, ← third) (three_said three_of.0 a.0 three_of.2) in (
      a.0.1,
      elements_said d three_of.0 three_of.1 ∙ ap (λ (ds : List Data). array (items_of ds)) all,
      c.1 ∙ ap (λ (z : ℤ). Some z) n-is,
    )

pub text_number_list_again : (name : List ℕ) (m : Data) (n : ℤ) (columns : List Data) → integer m ≡ Some n → text_number_list (array (items_of (string name ∷ m ∷ array (items_of columns) ∷ []))) ≡ Some (name, n, columns)
unfolding text_number_list
text_number_list_again name m n columns e = rw (e, list_of-items_of) refl

bytes_eq-same : (s : List ℕ) → bytes_eq s s ≡ true
bytes_eq-same s = (bytes_eq-Decides s s).1 refl

one_is : (z : ℤ) → is_one z ≡ true → z ≡ pos 1
one_is (pos n) e = ap pos (eqb-true n 1 e)
one_is (negsuc n) e = absurd cc

one_said : (word : List ℕ) (z : ℤ) (head : List ℕ) (o : Option (List Data)) (ds : List Data) → (if bytes_eq head word && is_one z then o else None) ≡ Some ds
    → (head ≡ word) × (z ≡ pos 1) × (o ≡ Some ds)
one_said word z head o ds e = by (bytes_eq head word) (is_one z) refl refl
  where
    by : (a b : Bool) → bytes_eq head word ≡ a → is_one z ≡ b → (head ≡ word) × (z ≡ pos 1) × (o ≡ Some ds)
    by true true p q = ((bytes_eq-Decides head word).0 p, one_is z q, rw (p, q) at e)
    by true false p q = absurd (let h = rw (p, q) at e in cc)
    by false b p q = absurd (let h = rw p at e in cc)

some_is : {A : Type 0} (x y : A) → Some x ≡ Some y → x ≡ y
some_is x y e = cc

same_parts : (a b : List ℕ) (m n : ℤ) (x y : List Data) → a ≡ b → m ≡ n → x ≡ y → ◌≡◌ {A = Option (List ℕ × ℤ × List Data)} (Some (a, m, x)) (Some (b, n, y))
same_parts a b m n x y p q r = cc

pub versioned_said : (word : List ℕ) (d : Data) (list : List Data) → versioned_list word d ≡ Some list
    → (m : Data) × (d ≡ array (items_of (string word ∷ m ∷ array (items_of list) ∷ []))) × (integer m ≡ Some (pos 1))
unfolding versioned_list
versioned_said word d list e =
    let a = and_then_ok _ (text_number_list d) list e in
    let f = one_said word a.0.1 a.0.0 (Some a.0.2) list a.2 in
    let is : text_number_list d ≡ Some (word, pos 1, list) = a.1 ∙ same_parts a.0.0 word a.0.1 (pos 1) a.0.2 list f.0 f.1 (some_is a.0.2 list f.2) in
    text_number_list_said d word (pos 1) list is

pub versioned_again : (word : List ℕ) (m : Data) (list : List Data) → integer m ≡ Some (pos 1) → versioned_list word (array (items_of (string word ∷ m ∷ array (items_of list) ∷ []))) ≡ Some list
unfolding versioned_list
versioned_again word m list e = rw (text_number_list_again word m (pos 1) list e, bytes_eq-same word) refl
