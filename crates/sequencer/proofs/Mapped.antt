-- What a loop has made of the items that it passed.
use Rattle.std.proofs.Common.{◌≡◌, ℕ, ◌+◌, ◌<◌, ◌++◌, List, [], ◌∷◌, length, take, map, zero, suc, sym, ap, subst, ◌∙◌, arith}
use Rattle.std.specs.List.{AllByRecursion}
use Rattle.std.specs.Prelude.{get_or}
use Rattle.std.proofs.lemmas.List.{map-append, take_more}

-- one more
pub mapped_next : {A B C : Type 0} (f : A → C) (g : B → C) (xs : List A) (n : ℕ) (a : A) (bs new : List B) (b : B) → n < length xs → a ≡ get_or xs n a
    → new ≡ bs ++ b ∷ [] → map g bs ≡ map f (take n xs) → g b ≡ f a → map g new ≡ map f (take (n + 1) xs)
mapped_next f g xs n a bs new b less is pushed all one =
    ap (map g) pushed ∙ map-append g bs (b ∷ []) ∙ ap (λ cs. cs ++ g b ∷ []) all ∙ ap (λ c. map f (take n xs) ++ c ∷ []) one
    ∙ sym (map-append f (take n xs) (a ∷ [])) ∙ ap (λ x. map f (take n xs ++ x ∷ [])) is ∙ ap (map f) (sym (take_more xs n a less))

pub all_next : {A : Type 0} (holds : A → Type 0) (olds new : List A) (a : A) → new ≡ olds ++ a ∷ [] → AllByRecursion holds olds → holds a → AllByRecursion holds new
all_next {A} holds olds new a pushed all one = rw pushed (of olds all)
  where
    of : (bs : List A) → AllByRecursion holds bs → AllByRecursion holds (bs ++ a ∷ [])
    of [] h = (one, tt)
    of (b ∷ bs) h = (h.0, of bs h.1)

pub all_at : {A : Type 0} (holds : A → Type 0) (xs : List A) (n : ℕ) (a : A) → n < length xs → a ≡ get_or xs n a → AllByRecursion holds xs → holds a
all_at holds [] n a less is all = absurd (omega (arith, less))
all_at holds (x ∷ xs) zero a less is all = subst holds (sym is) all.0
all_at holds (x ∷ xs) (suc n) a less is all = all_at holds xs n a (omega (arith, less)) is all.1
