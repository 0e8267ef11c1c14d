-- A word is one of those that are asked for in turn.
use Rattle.std.proofs.Common.{◌≡◌, ◌⊎◌, ℕ, Bool, true, false, if◌then◌else◌, List, Option, Some, None, refl, sym, ap, ◌∙◌, subst, inl, inr}
use Rattle.std.specs.Str.{bytes_eq}
use Rattle.std.proofs.lemmas.Slice.Eq.{bytes_eq-Decides}
use Rattle.proclang_forms.specs.declared.operator.Operator.{Operator}
use Rattle.proclang_forms.specs.Operators.{word_of}

pub word_or : {A : Type 0} (a b : List ℕ) (x y : Option A) (f : A) → (if bytes_eq a b then x else y) ≡ Some f → ((a ≡ b) × (x ≡ Some f)) ⊎ (y ≡ Some f)
word_or a b x y f e = by (bytes_eq a b) refl
  where
    by : (r : Bool) → bytes_eq a b ≡ r → ((a ≡ b) × (x ≡ Some f)) ⊎ (y ≡ Some f)
    by true q = inl ((bytes_eq-Decides a b).0 q, (rw q at e))
    by false q = inr (rw q at e)

pub none_is : {A : Type 0} {B : Type 0} (f : A) → ◌≡◌ {A = Option A} None (Some f) → B
none_is f e = absurd cc

-- what holds of the word that is asked for where that one's form is read holds of the word
pub spelled_or : {A : Type 0} (Spelled : List ℕ → Type 0) (a b : List ℕ) (x y : Option A) (f : A) → (if bytes_eq a b then x else y) ≡ Some f → (x ≡ Some f → Spelled b) → (y ≡ Some f → Spelled a) → Spelled a
spelled_or Spelled a b x y f e this others = elim (word_or a b x y f e) [ inl h ↦ subst Spelled (sym h.0) (this h.1) | inr h ↦ others h ]

-- the word is that of the operator
pub operator_or : (a b : List ℕ) (one : Operator) (y : Option Operator) (op : Operator) → b ≡ word_of one → (if bytes_eq a b then Some one else y) ≡ Some op → (y ≡ Some op → a ≡ word_of op) → a ≡ word_of op
operator_or a b one y op is e others = elim (word_or a b (Some one) y op e) [
  | inl h ↦ h.0 ∙ is ∙ (let same : one ≡ op = (let g = h.1 in cc) in ap word_of same)
  | inr h ↦ others h
]
