-- What the forms of a catalogue's document say, both ways.
use Rattle.std.proofs.Common.{◌≡◌, ◌⊎◌, inl, inr, ℕ, ℤ, pos, negsuc, Bool, true, false, if◌then◌else◌, eqb, List, [], ◌∷◌, Option, Some, None, codes, option_map, option_and_then, refl, ap, ◌∙◌, subst}
use Rattle.std.specs.Str.{bytes_eq}
use Rattle.std.proofs.lemmas.Bool.{eqb-true}
use Rattle.std.proofs.lemmas.Slice.Eq.{bytes_eq-Decides}
use Rattle.serde_json.specs.Data.{Data, string, array}
use Rattle.serde_json.specs.Find.{as_str}
use Rattle.serde_json.specs.View.{items_of}
use Rattle.documents.specs.Json.{elements, integer, two, three, text_number_list}
use Rattle.documents.proofs.Json.{list_of-items_of}
use Rattle.documents.proofs.Steps.{and_then_ok, map_ok}
use Rattle.documents.proofs.Said.{string_said, elements_said, elements_again, two_said, three_said, text_number_list_said, text_number_list_again}
use Rattle.values.specs.declared.value.ColType.{ColType}
use Rattle.catalogue.specs.Reading.{type_of_word, column_form, SplitForm, counted, bounded, integers, after_word, split_form, table_form, version_form, catalogue_form}

some_is : {A : Type 0} (x y : A) → Some x ≡ Some y → x ≡ y
some_is x y e = cc

-- ---- columns

pub column_said : (d : Data) (name : List ℕ) (kind : ColType) → column_form d ≡ Some (name, kind)
    → (word : List ℕ) × (d ≡ array (items_of (string name ∷ string word ∷ []))) × (type_of_word word ≡ Some kind)
unfolding column_form
column_said d name kind e =
    let a = and_then_ok _ (option_and_then two (elements d)) (name, kind) e in
    let two_of = and_then_ok two (elements d) a.0 a.1 in
    let b = and_then_ok _ (as_str a.0.0) (name, kind) a.2 in
    let c = map_ok _ (option_and_then type_of_word (as_str a.0.1)) (name, kind) b.2 in
    let k = and_then_ok type_of_word (as_str a.0.1) c.0 c.1 in
    let n-is : b.0 ≡ name = ap (λ (p : List ℕ × ColType). p.0) c.2 in
    let k-is : c.0 ≡ kind = ap (λ (p : List ℕ × ColType). p.1) c.2 in
    let first : a.0.0 ≡ string name = string_said a.0.0 b.0 b.1 ∙ ap (λ (s : List ℕ). string s) n-is in
    let second : a.0.1 ≡ string k.0 = string_said a.0.1 k.0 k.1 in
    let all : two_of.0 ≡ string name ∷ string k.0 ∷ [] = rw (← first, ← second) (two_said two_of.0 a.0 two_of.2) in
    (k.0, elements_said d two_of.0 two_of.1 ∙ ap (λ (ds : List Data). array (items_of ds)) all, k.2 ∙ ap (λ (x : ColType). Some x) k-is)

pub column_again : (name word : List ℕ) (kind : ColType) → type_of_word word ≡ Some kind → column_form (array (items_of (string name ∷ string word ∷ []))) ≡ Some (name, kind)
unfolding column_form
column_again name word kind e = rw e refl

-- ---- splits

-- a number, or numbers after the word where there are bounds
abbrev pub SplitSaid : Bool → Data → SplitForm → Type 0
SplitSaid has_bounds d (counted z) = integer d ≡ Some z
SplitSaid has_bounds d (bounded zs) = (has_bounds ≡ true) × (numbers : List Data)
    × (d ≡ array (items_of (string (codes "bounds") ∷ numbers))) × (integers numbers ≡ Some zs)

word_said : (word : List ℕ) (o : Option (List ℤ)) (zs : List ℤ) → (if bytes_eq word (codes "bounds") then o else None) ≡ Some zs → (word ≡ codes "bounds") × (o ≡ Some zs)
word_said word o zs e = by (bytes_eq word (codes "bounds")) refl
  where
    by : (b : Bool) → bytes_eq word (codes "bounds") ≡ b → (word ≡ codes "bounds") × (o ≡ Some zs)
    by true p = ((bytes_eq-Decides word (codes "bounds")).0 p, rw p at e)
    by false p = absurd (let h = rw p at e in cc)

after_word_said : (ds : List Data) (zs : List ℤ) → after_word ds ≡ Some zs → (numbers : List Data) × (ds ≡ string (codes "bounds") ∷ numbers) × (integers numbers ≡ Some zs)
after_word_said [] zs e = absurd cc
after_word_said (d ∷ ds) zs e =
    let a = and_then_ok _ (as_str d) zs e in
    let b = word_said a.0 (integers ds) zs a.2 in
    (ds, ap (λ (first : Data). first ∷ ds) (string_said d a.0 a.1 ∙ ap (λ (s : List ℕ). string s) b.0), b.1)

bounds_said : (has_bounds : Bool) (d : Data) (form : SplitForm) → (if has_bounds then option_map bounded (option_and_then after_word (elements d)) else None) ≡ Some form → SplitSaid has_bounds d form
bounds_said false d form e = absurd cc
bounds_said true d form e =
    let a = map_ok bounded (option_and_then after_word (elements d)) form e in
    let b = and_then_ok after_word (elements d) a.0 a.1 in
    let c = after_word_said b.0 a.0 b.2 in
    subst (SplitSaid true d) a.2 (refl, c.0, elements_said d b.0 b.1 ∙ ap (λ (ds : List Data). array (items_of ds)) c.1, c.2)

pub split_said : (has_bounds : Bool) (d : Data) (form : SplitForm) → split_form has_bounds d ≡ Some form → SplitSaid has_bounds d form
unfolding split_form
split_said has_bounds d form e = by (integer d) refl
  where
    by : (o : Option ℤ) → integer d ≡ o → SplitSaid has_bounds d form
    by (Some z) p = subst (SplitSaid has_bounds d) (some_is (counted z) form (rw (p, split_form) at e)) p
    by None p = bounds_said has_bounds d form (rw (p, split_form) at e)

pub counted_again : (has_bounds : Bool) (d : Data) (z : ℤ) → integer d ≡ Some z → split_form has_bounds d ≡ Some (counted z)
unfolding split_form
counted_again has_bounds d z e = rw (e, split_form) refl

pub bounded_again : (numbers : List Data) (zs : List ℤ) → integers numbers ≡ Some zs → split_form true (array (items_of (string (codes "bounds") ∷ numbers))) ≡ Some (bounded zs)
unfolding split_form
bounded_again numbers zs e = ap (option_map bounded) (ap (option_and_then after_word) (elements_again (string (codes "bounds") ∷ numbers)) ∙ e)

-- ---- tables

abbrev pub TableSaid : Bool → Data → List ℕ × SplitForm × List Data → Type 0
TableSaid has_bounds d form = (split : Data) × (d ≡ array (items_of (string form.0 ∷ split ∷ array (items_of form.2) ∷ []))) × (split_form has_bounds split ≡ Some form.1)

pub table_said : (has_bounds : Bool) (d : Data) (form : List ℕ × SplitForm × List Data) → table_form has_bounds d ≡ Some form → TableSaid has_bounds d form
unfolding table_form
table_said has_bounds d form e =
    let a = and_then_ok _ (option_and_then three (elements d)) form e in
    let three_of = and_then_ok three (elements d) a.0 a.1 in
    let b = and_then_ok _ (as_str a.0.0) form a.2 in
    let c = and_then_ok _ (split_form has_bounds a.0.1) form b.2 in
    let f = map_ok _ (elements a.0.2) form c.2 in
    let first : a.0.0 ≡ string b.0 = string_said a.0.0 b.0 b.1 in
    let third : a.0.2 ≡ array (items_of f.0) = elements_said a.0.2 f.0 f.1 in
    let all : three_of.0 ≡ string b.0 ∷ a.0.1 ∷ array (items_of f.0) ∷ [] = rw (← first, ← third) (three_said three_of.0 a.0 three_of.2) in
    let is : d ≡ array (items_of (string b.0 ∷ a.0.1 ∷ array (items_of f.0) ∷ [])) = elements_said d three_of.0 three_of.1 ∙ ap (λ (ds : List Data). array (items_of ds)) all in
    subst (TableSaid has_bounds d) f.2 (a.0.1, is, c.1)

pub table_again : (has_bounds : Bool) (name : List ℕ) (split : Data) (form : SplitForm) (columns : List Data) → split_form has_bounds split ≡ Some form
    → table_form has_bounds (array (items_of (string name ∷ split ∷ array (items_of columns) ∷ []))) ≡ Some (name, form, columns)
unfolding table_form
table_again has_bounds name split form columns e = rw (e, list_of-items_of) refl

-- ---- the whole

-- a version's number, and whether it has bounds
abbrev pub VersionSaid : ℕ → Bool → Type 0
VersionSaid version has_bounds = ((version ≡ 1) × (has_bounds ≡ false)) ⊎ ((version ≡ 2) × (has_bounds ≡ true))

version_said : (z : ℤ) (has_bounds : Bool) → version_form z ≡ Some has_bounds → (version : ℕ) × (z ≡ pos version) × VersionSaid version has_bounds
version_said (negsuc n) has_bounds e = absurd cc
version_said (pos n) has_bounds e = (n, refl, by (eqb n 1) (eqb n 2) refl refl)
  where
    by : (a b : Bool) → eqb n 1 ≡ a → eqb n 2 ≡ b → VersionSaid n has_bounds
    by true b p q = inl (eqb-true n 1 p, let h = rw p at e in cc)
    by false true p q = inr (eqb-true n 2 q, let h = rw (p, q) at e in cc)
    by false false p q = absurd (let h = rw (p, q) at e in cc)

abbrev pub CatalogueSaid : Data → Bool × List Data → Type 0
CatalogueSaid d form = (number : Data) × (d ≡ array (items_of (string (codes "catalogue") ∷ number ∷ array (items_of form.1) ∷ [])))
    × (version : ℕ) × (integer number ≡ Some (pos version)) × VersionSaid version form.0

head_said : (head : List ℕ) (o : Option (Bool × List Data)) (form : Bool × List Data) → (if bytes_eq head (codes "catalogue") then o else None) ≡ Some form → (head ≡ codes "catalogue") × (o ≡ Some form)
head_said head o form e = by (bytes_eq head (codes "catalogue")) refl
  where
    by : (b : Bool) → bytes_eq head (codes "catalogue") ≡ b → (head ≡ codes "catalogue") × (o ≡ Some form)
    by true p = ((bytes_eq-Decides head (codes "catalogue")).0 p, rw p at e)
    by false p = absurd (let h = rw p at e in cc)

pub catalogue_said : (d : Data) (form : Bool × List Data) → catalogue_form d ≡ Some form → CatalogueSaid d form
unfolding catalogue_form
catalogue_said d form e =
    let a = and_then_ok _ (text_number_list d) form e in
    let b = head_said a.0.0 _ form a.2 in
    let c = map_ok _ (version_form a.0.1) form b.1 in
    let v = version_said a.0.1 c.0 c.1 in
    let said = text_number_list_said d a.0.0 a.0.1 a.0.2 a.1 in
    let is : d ≡ array (items_of (string (codes "catalogue") ∷ said.0 ∷ array (items_of a.0.2) ∷ [])) =
    said.1 ∙ ap (λ (s : List ℕ). array (items_of (string s ∷ said.0 ∷ array (items_of a.0.2) ∷ []))) b.0 in
    subst (CatalogueSaid d) c.2 (said.0, is, v.0, said.2 ∙ ap (λ (z : ℤ). Some z) v.1, v.2)

version_again : (version : ℕ) (has_bounds : Bool) → VersionSaid version has_bounds → version_form (pos version) ≡ Some has_bounds
version_again version has_bounds (inl e) = rw (e.0, e.1) refl
version_again version has_bounds (inr e) = rw (e.0, e.1) refl

pub catalogue_again : (first : Data) (version : ℕ) (has_bounds : Bool) (tables : List Data) → integer first ≡ Some (pos version) → VersionSaid version has_bounds
    → catalogue_form (array (items_of (string (codes "catalogue") ∷ first ∷ array (items_of tables) ∷ []))) ≡ Some (has_bounds, tables)
unfolding catalogue_form
catalogue_again first version has_bounds tables e said = rw (text_number_list_again (codes "catalogue") first (pos version) tables e, version_again version has_bounds said) refl
