-- A list with one item changed, or written over.
use Rattle.std.proofs.Common.{◌≡◌, ◌≢◌, ℕ, zero, suc, ◌<◌, List, [], ◌∷◌, length, Option, Some, None, slice_get, slice_set, refl, sym, ◌∙◌, ap, arith}
use Rattle.request_arena.specs.Following.{changed}

pub none_some : {X : Type 0} (x : X) → None ≡ Some x → ⊥
none_some x e = cc

pub some_same : {X : Type 0} (x y : X) → Some x ≡ Some y → x ≡ y
some_same x y e = cc

module _ {X : Type 0} where
  -- what stands at a place of the list
  pub item_at : (xs : List X) (i : ℕ) → i < length xs → (x : X) × (slice_get xs i ≡ Some x)
  item_at [] i p = absurd (omega (arith, p))
  item_at (x ∷ xs) zero p = (x, refl)
  item_at (x ∷ xs) (suc i) p = item_at xs i (omega (arith, p))

  pub changed_length : (xs : List X) (i : ℕ) (f : X → X) → length (changed xs i f) ≡ length xs
  changed_length [] i f = refl
  changed_length (x ∷ xs) zero f = refl
  changed_length (x ∷ xs) (suc i) f = ap suc (changed_length xs i f)

  pub changed_here : (xs : List X) (i : ℕ) (f : X → X) (x : X) → slice_get xs i ≡ Some x → slice_get (changed xs i f) i ≡ Some (f x)
  changed_here [] i f x e = absurd (none_some x e)
  changed_here (y ∷ xs) zero f x e = ap (λ z. Some (f z)) (some_same y x e)
  changed_here (y ∷ xs) (suc i) f x e = changed_here xs i f x e

  pub changed_else : (xs : List X) (i a : ℕ) (f : X → X) → a ≢ i → slice_get (changed xs i f) a ≡ slice_get xs a
  changed_else [] i a f z = refl
  changed_else (x ∷ xs) zero zero f z = absurd (z refl)
  changed_else (x ∷ xs) zero (suc a) f z = refl
  changed_else (x ∷ xs) (suc i) zero f z = refl
  changed_else (x ∷ xs) (suc i) (suc a) f z = changed_else xs i a f (λ e. z (ap suc e))

  -- a change that g does not see
  pub changed_unseen : {Y : Type 0} (g : Option X → Y) (f : X → X) → ((x : X) → g (Some (f x)) ≡ g (Some x)) → (xs : List X) (i a : ℕ) → g (slice_get (changed xs i f) a) ≡ g (slice_get xs a)
  changed_unseen g f same [] i a = refl
  changed_unseen g f same (x ∷ xs) zero zero = same x
  changed_unseen g f same (x ∷ xs) zero (suc a) = refl
  changed_unseen g f same (x ∷ xs) (suc i) zero = refl
  changed_unseen g f same (x ∷ xs) (suc i) (suc a) = changed_unseen g f same xs i a

  -- an item that is written over by what f makes of it
  pub written : (xs : List X) (i : ℕ) (f : X → X) (x : X) → slice_get xs i ≡ Some x → slice_set xs i (f x) ≡ changed xs i f
  written [] i f x e = refl
  written (y ∷ xs) zero f x e = ap (λ z. f z ∷ xs) (sym (some_same y x e))
  written (y ∷ xs) (suc i) f x e = ap (λ l. y ∷ l) (written xs i f x e)

  pub written_over : (xs : List X) (i : ℕ) (x : X) → slice_set xs i x ≡ changed xs i (λ _. x)
  written_over [] i x = refl
  written_over (y ∷ xs) zero x = refl
  written_over (y ∷ xs) (suc i) x = ap (λ l. y ∷ l) (written_over xs i x)

  -- two changes of one item are one
  pub changed_twice : (xs : List X) (i : ℕ) (f g : X → X) → changed (changed xs i f) i g ≡ changed xs i (λ x. g (f x))
  changed_twice [] i f g = refl
  changed_twice (x ∷ xs) zero f g = refl
  changed_twice (x ∷ xs) (suc i) f g = ap (λ l. x ∷ l) (changed_twice xs i f g)

  -- changes that do not see one another, in either order
  pub changed_in_turn : (f g : X → X) → ((x : X) → g (f x) ≡ f (g x)) → (xs : List X) (i j : ℕ) → changed (changed xs i f) j g ≡ changed (changed xs j g) i f
  changed_in_turn f g same [] i j = refl
  changed_in_turn f g same (x ∷ xs) zero zero = ap (λ y. y ∷ xs) (same x)
  changed_in_turn f g same (x ∷ xs) zero (suc j) = refl
  changed_in_turn f g same (x ∷ xs) (suc i) zero = refl
  changed_in_turn f g same (x ∷ xs) (suc i) (suc j) = ap (λ l. x ∷ l) (changed_in_turn f g same xs i j)

  pub get_same : (xs : List X) (k : ℕ) (v : X) → k < length xs → slice_get (slice_set xs k v) k ≡ Some v
  get_same xs k v p = let it = item_at xs k p in ap (λ l. slice_get l k) (written_over xs k v) ∙ changed_here xs k (λ _. v) it.0 it.1

  pub get_other : (xs : List X) (k j : ℕ) (v : X) → j ≢ k → slice_get (slice_set xs k v) j ≡ slice_get xs j
  get_other xs k j v z = ap (λ l. slice_get l j) (written_over xs k v) ∙ changed_else xs k j (λ _. v) z

  pub length_set : (xs : List X) (k : ℕ) (v : X) → length (slice_set xs k v) ≡ length xs
  length_set xs k v = ap length (written_over xs k v) ∙ changed_length xs k (λ _. v)
