-- The first difference of two texts.
use Rattle.std.proofs.Common.{◌≡◌, ℕ, ◌+◌, ◌<◌, ◌≤◌, suc, List, ◌∷◌, [], ◌++◌, length, take, get_or, slice_get, Some, None, sym, ◌∙◌, ap, add-one}
use Rattle.std.proofs.Math.Seq.{take-suc}
use Rattle.std.proofs.lemmas.List.{take_all}
use Rattle.std.proofs.lemmas.Option.{slice_get-get_or, slice_get_past}

some_same : (a b : ℕ) → Some a ≡ Some b → a ≡ b
some_same a b e = cc

-- a place where both have the same byte
pub same_further : (text other : List ℕ) (n m : ℕ) → m ≡ n + 1 → take n text ≡ take n other → get_or text n 0 ≡ get_or other n 0 → n < length text → n < length other → take m text ≡ take m other
same_further text other n m k e byte h within =
    let grown : take (suc n) text ≡ take (suc n) other =
    take-suc text n 0 h ∙ ap (λ t. t ++ (get_or text n 0 ∷ [])) e ∙ ap (λ b. take n other ++ (b ∷ [])) byte ∙ sym (take-suc other n 0 within) in
    rw (k, add-one) grown

-- both have ended
pub same_to_end : (text other : List ℕ) (n : ℕ) → length text ≤ n → length other ≤ n → take n text ≡ take n other → text ≡ other
same_to_end text other n h k e = sym (take_all n text h) ∙ e ∙ take_all n other k

-- a place where both have another byte
pub differ_here : (text other : List ℕ) (n : ℕ) → n < length text → n < length other → (get_or text n 0 ≡ get_or other n 0 → ⊥) → slice_get text n ≡ slice_get other n → ⊥
differ_here text other n h k apart e = apart (some_same _ _ (sym (slice_get-get_or text n 0 h) ∙ e ∙ slice_get-get_or other n 0 k))

some_none : (a : ℕ) → Some a ≡ None → ⊥
some_none a e = cc

-- a place where one has ended and the other goes on
pub ends_here : (text other : List ℕ) (n : ℕ) → length text ≤ n → n < length other → slice_get text n ≡ slice_get other n → ⊥
ends_here text other n h k e = some_none _ (sym (slice_get-get_or other n 0 k) ∙ sym e ∙ slice_get_past text n h)

pub other_ends_here : (text other : List ℕ) (n : ℕ) → n < length text → length other ≤ n → slice_get text n ≡ slice_get other n → ⊥
other_ends_here text other n h k e = ends_here other text n k h (sym e)
