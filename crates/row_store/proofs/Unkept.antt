-- Partitions that keep no digest.
use Rattle.std.proofs.Common.{◌≡◌, ◌++◌, ◌∷◌, [], zero, suc, All, List, sym, subst, arith}
use Rattle.std.proofs.lemmas.List.Elements.{All-append}

single : {X : Type 0} (P : X → Type 0) (x : X) → P x → All P (x ∷ [])
single P x p zero d h = p
single P x p (suc k) d h = absurd (omega (arith, h))

-- what holds of each element and of one more
pub one_more : {X : Type 0} (P : X → Type 0) (xs ys : List X) (x : X) → ys ≡ xs ++ x ∷ [] → All P xs → P x → All P ys
one_more P xs ys x is all p = subst (All P) (sym is) (All-append P xs (x ∷ []) all (single P x p))
