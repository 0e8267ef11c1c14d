-- Lists that grow at their end.
use Rattle.std.proofs.Common.{◌≡◌, ℕ, zero, suc, List, [], ◌∷◌, ◌++◌, length, refl, ap}
use Rattle.std.specs.Prelude.{Some, slice_get}
use Rattle.std.proofs.lemmas.Option.{none-some, same_Some}

module _ {X : Type 0} where
  pub at_longer : (xs ys : List X) (k : ℕ) (x : X) → slice_get xs k ≡ Some x → slice_get (xs ++ ys) k ≡ Some x
  at_longer [] ys k x e = absurd (none-some _ e)
  at_longer (y ∷ xs) ys zero x e = e
  at_longer (y ∷ xs) ys (suc k) x e = at_longer xs ys k x e

  pub at_end : (xs : List X) (x : X) → slice_get (xs ++ x ∷ []) (length xs) ≡ Some x
  at_end [] x = refl
  at_end (y ∷ xs) x = at_end xs x

  -- what is at a place of the longer list was there before, or is the one at the end
  pub at_either : (xs : List X) (x y : X) (k : ℕ) (P : Type 0) → slice_get (xs ++ x ∷ []) k ≡ Some y → (slice_get xs k ≡ Some y → P) → (k ≡ length xs → x ≡ y → P) → P
  at_either [] x y zero P e old new = new refl (same_Some _ _ e)
  at_either [] x y (suc k) P e old new = absurd (none-some _ e)
  at_either (z ∷ xs) x y zero P e old new = old e
  at_either (z ∷ xs) x y (suc k) P e old new = at_either xs x y k P e old (λ is. new (ap suc is))
