-- What a loop over a list has left.
use Rattle.std.proofs.Common.{◌≡◌, ℕ, ◌+◌, ◌<◌, zero, suc, List, [], ◌∷◌, ◌++◌, length, take, drop, slice_get, slice_index_or, add-one, drop-cons, Option, None, Some, option_map, refl, sym, ap, ◌∙◌, arith}
use Rattle.lock_tree.specs.Queues.{Queue}
use Rattle.modes.specs.declared.mode.Mode.{Mode}

pub drop_more : {X : Type 0} (xs : List X) (i : ℕ) (d : X) → i < length xs → drop i xs ≡ slice_index_or xs i d ∷ drop (i + 1) xs
drop_more xs i d l = drop-cons xs i d l ∙ ap (λ n. slice_index_or xs i d ∷ drop n xs) (sym (add-one i))

-- and what it has passed
pub take_more : {X : Type 0} (xs : List X) (i : ℕ) (d : X) → i < length xs → take (i + 1) xs ≡ take i xs ++ slice_index_or xs i d ∷ []
take_more [] i d l = absurd (omega (arith, l))
take_more (x ∷ xs) zero d l = refl
take_more (x ∷ xs) (suc i) d l = ap (λ n. take n (x ∷ xs)) (add-one (suc i)) ∙ ap (λ ys. x ∷ ys) (sym (ap (λ n. take n xs) (add-one i)) ∙ take_more xs i d (omega (arith, l)))

some_number : (o : Option (ℕ × Mode)) (n : ℕ) → Some n ≡ option_map (λ (x : ℕ × Mode). x.0) o → (mode : Mode) × (o ≡ Some (n, mode))
some_number None n h = absurd (cc)
some_number (Some x) n h = let e : n ≡ x.0 = cc in (x.1, ap (λ (k : ℕ). Some (k, x.1)) (sym e))

no_number : (o : Option (ℕ × Mode)) → None ≡ option_map (λ (x : ℕ × Mode). x.0) o → o ≡ None
no_number None h = refl
no_number (Some x) h = absurd (cc)

drop_from : (q : Queue) (i : ℕ) (x : ℕ × Mode) → slice_get q i ≡ Some x → (i < length q) × (drop i q ≡ x ∷ drop (i + 1) q)
drop_from [] i x h = absurd (cc)
drop_from (y ∷ q) zero x h = let e : y ≡ x = cc in (omega arith, ap (λ z. z ∷ q) e)
drop_from (y ∷ q) (suc i) x h =
    let r = drop_from q i x h in let l = r.0 in
    (omega (arith, l), r.1 ∙ ap (λ n. x ∷ drop n q) (add-one i) ∙ ap (λ n. x ∷ drop n (y ∷ q)) (sym (add-one (suc i))))

-- a request whose number is known
pub drop_known : (q : Queue) (i n : ℕ) → Some n ≡ option_map (λ (x : ℕ × Mode). x.0) (slice_get q i) → (mode : Mode) × (i < length q) × (drop i q ≡ (n, mode) ∷ drop (i + 1) q)
drop_known q i n h = let s = some_number (slice_get q i) n h in let r = drop_from q i (n, s.0) s.1 in (s.0, r.0, r.1)

drop_all : (q : Queue) (i : ℕ) → slice_get q i ≡ None → drop i q ≡ []
drop_all [] zero h = refl
drop_all [] (suc i) h = refl
drop_all (y ∷ q) zero h = absurd (cc)
drop_all (y ∷ q) (suc i) h = drop_all q i h

-- no request is left
pub drop_past : (q : Queue) (i : ℕ) → None ≡ option_map (λ (x : ℕ × Mode). x.0) (slice_get q i) → drop i q ≡ []
drop_past q i h = drop_all q i (no_number (slice_get q i) h)
