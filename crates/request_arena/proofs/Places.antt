-- What stands at the places of the block, and after one was written to.
use Rattle.std.proofs.Common.{◌≡◌, ◌≢◌, ℕ, zero, suc, ◌+◌, ◌*◌, ◌/◌, ◌<◌, ◌≤◌, map, List, [], ◌∷◌, ◌++◌, length, Some, slice_get, slice_set, slice_index_or, refl, ap, ◌∙◌, arith, get_or-set_same, get_or-set_other}
use Rattle.request_arena.specs.declared.node.Node.{Node}
use Rattle.request_arena.proofs.Changed.{none_some, some_same, written}
use Rattle.request_arena.specs.declared.packed.Packed.{Packed}
use Rattle.request_arena.specs.Following.{changed}
use Rattle.request_arena.specs.Packed.{unpacked}
use Rattle.request_arena.specs.Places.{index_of, fresh, at_place, tabulated, laid}

pub tabulated_length : (f : ℕ → Node) (h k : ℕ) → length (tabulated f h k) ≡ k
tabulated_length f h zero = refl
tabulated_length f h (suc k) = ap suc (tabulated_length f (suc h) k)

pub tabulated_get : (f : ℕ → Node) (h k i : ℕ) → i < k → slice_get (tabulated f h k) i ≡ Some (f (h + i))
tabulated_get f h zero i p = absurd (omega (arith, p))
tabulated_get f h (suc k) zero p = let e : h ≡ h + 0 = omega arith in ap (λ n. Some (f n)) e
tabulated_get f h (suc k) (suc i) p = let e : suc h + i ≡ h + suc i = omega arith in tabulated_get f (suc h) k i (omega (arith, p)) ∙ ap (λ n. Some (f n)) e

pub tabulated_same : (f g : ℕ → Node) → ((a : ℕ) → f a ≡ g a) → (h k : ℕ) → tabulated f h k ≡ tabulated g h k
tabulated_same f g same h zero = refl
tabulated_same f g same h (suc k) = let rest = tabulated_same f g same (suc h) k in (λ i. same h i ∷ rest i)

pub tabulated_set : (f g : ℕ → Node) (h k i : ℕ) (v : Node) → i < k → g (h + i) ≡ v → ((a : ℕ) → a ≢ h + i → g a ≡ f a) → tabulated g h k ≡ slice_set (tabulated f h k) i v
tabulated_set f g h zero i v p here there = absurd (omega (arith, p))
tabulated_set f g h (suc k) zero v p here there =
    let e : h ≡ h + 0 = omega arith in
    let first : g h ≡ v = ap g e ∙ here in
    let rest = tabulated_on f g (suc h) k (λ a q. there a (λ z. omega (arith, z, q))) in (λ j. first j ∷ rest j)
  where
    tabulated_on : (f g : ℕ → Node) (h k : ℕ) → ((a : ℕ) → h ≤ a → g a ≡ f a) → tabulated g h k ≡ tabulated f h k
    tabulated_on f g h zero same = refl
    tabulated_on f g h (suc k) same = let first = same h (omega arith) in let rest = tabulated_on f g (suc h) k (λ a q. same a (omega (arith, q))) in (λ j. first j ∷ rest j)
tabulated_set f g h (suc k) (suc i) v p here there =
    let e : suc h + i ≡ h + suc i = omega arith in
    let first = there h (λ z. omega (arith, z)) in
    let rest = tabulated_set f g (suc h) k i v (omega (arith, p)) (ap g e ∙ here) (λ a z. there a (λ w. z (omega (arith, w)))) in (λ j. first j ∷ rest j)

-- one more item, which is what is read past the end
pub pushed_default : (xs : List Node) (v d : Node) (i : ℕ) → (i ≡ length xs → v ≡ d) → slice_index_or (xs ++ v ∷ []) i d ≡ slice_index_or xs i d
pushed_default [] v d zero is = is refl
pushed_default [] v d (suc i) is = refl
pushed_default (x ∷ xs) v d zero is = refl
pushed_default (x ∷ xs) v d (suc i) is = pushed_default xs v d i (λ e. is (ap suc e))

-- no two places lie at one index
pub index_apart : (nodes p q : ℕ) → index_of nodes p ≡ index_of nodes q → p ≡ q
index_apart nodes p q e = grind (arith, e)

module _ (nodes queues : ℕ) (ws : List Packed) (place : ℕ) (low : place < length (laid nodes queues ws)) where
  pub place_low : place < nodes + queues
  place_low = omega (arith, low, tabulated_length (at_place nodes ws) 0 (nodes + queues))

  pub index_low : (capacity : ℕ) → (nodes / 64 + 1) * 128 ≤ capacity → (queues / 64 + 1) * 128 ≤ capacity → index_of nodes place < capacity
  index_low capacity n q = grind (arith, place_low, n, q)

  pub laid_get : slice_get (laid nodes queues ws) place ≡ Some (at_place nodes ws place)
  laid_get = tabulated_get (at_place nodes ws) 0 (nodes + queues) place place_low ∙ (let e : 0 + place ≡ place = omega arith in ap (λ p. Some (at_place nodes ws p)) e)

pub at_blank : (nodes place : ℕ) → at_place nodes [] place ≡ fresh nodes place
at_blank nodes place = refl

pub laid_blank : (nodes queues : ℕ) → laid nodes queues [] ≡ tabulated (fresh nodes) 0 (nodes + queues)
laid_blank nodes queues = tabulated_same (at_place nodes []) (fresh nodes) (at_blank nodes) 0 (nodes + queues)

-- lists of what lies there, unpacked
pub map_length : {X Y : Type 0} (f : X → Y) (xs : List X) → length (map f xs) ≡ length xs
map_length f [] = refl
map_length f (x ∷ xs) = ap suc (map_length f xs)

pub map_end : {X Y : Type 0} (f : X → Y) (xs : List X) (x : X) → map f (xs ++ x ∷ []) ≡ map f xs ++ f x ∷ []
map_end f [] x = refl
map_end f (y ∷ xs) x = ap (λ l. f y ∷ l) (map_end f xs x)

pub map_set : {X Y : Type 0} (f : X → Y) (xs : List X) (i : ℕ) (x : X) → map f (slice_set xs i x) ≡ slice_set (map f xs) i (f x)
map_set f [] i x = refl
map_set f (y ∷ xs) zero x = refl
map_set f (y ∷ xs) (suc i) x = ap (λ l. f y ∷ l) (map_set f xs i x)

pub map_get : {X Y : Type 0} (f : X → Y) (xs : List X) (i : ℕ) (x : X) → slice_get xs i ≡ Some x → slice_get (map f xs) i ≡ Some (f x)
map_get f [] i x e = absurd (none_some x e)
map_get f (y ∷ xs) zero x e = ap (λ v. Some (f v)) (some_same y x e)
map_get f (y ∷ xs) (suc i) x e = map_get f xs i x e

pub laid_set : (nodes queues : ℕ) (ws : List Packed) (place : ℕ) (v : Packed) → place < nodes + queues → index_of nodes place < length ws
    → laid nodes queues (slice_set ws (index_of nodes place) v) ≡ slice_set (laid nodes queues ws) place (unpacked v)
laid_set nodes queues ws place v low room =
    let i = index_of nodes place in let long = map_length unpacked ws in
    tabulated_set (at_place nodes ws) (at_place nodes (slice_set ws i v)) 0 (nodes + queues) place (unpacked v) low
    (let e : 0 + place ≡ place = omega arith in ap (at_place nodes (slice_set ws i v)) e ∙ ap (λ l. slice_index_or l i (fresh nodes place)) (map_set unpacked ws i v)
    ∙ get_or-set_same (map unpacked ws) i (unpacked v) (fresh nodes place) (omega (arith, room, long)))
    (λ a z. ap (λ l. slice_index_or l (index_of nodes a) (fresh nodes a)) (map_set unpacked ws i v)
    ∙ get_or-set_other (map unpacked ws) i (index_of nodes a) (unpacked v) (fresh nodes a) (λ e. z (let w = index_apart nodes a place e in omega (arith, w))))

-- what is read of a list is the item there, or else what is read past its end
pub read_item : (xs : List Node) (i : ℕ) (v d : Node) → slice_get xs i ≡ Some v → slice_index_or xs i d ≡ v
read_item [] i v d e = absurd (none_some v e)
read_item (x ∷ xs) zero v d e = some_same x v e
read_item (x ∷ xs) (suc i) v d e = read_item xs i v d e

pub read_past : (xs : List Node) (i : ℕ) (d : Node) → length xs ≤ i → slice_index_or xs i d ≡ d
read_past [] i d p = refl
read_past (x ∷ xs) zero d p = absurd (omega (arith, p))
read_past (x ∷ xs) (suc i) d p = read_past xs i d (omega (arith, p))

-- a node that lies there is changed in place
pub laid_changed : (nodes queues : ℕ) (ws : List Packed) (place : ℕ) (p v : Packed) (f : Node → Node) → place < nodes + queues → index_of nodes place < length ws
    → slice_get ws (index_of nodes place) ≡ Some p → unpacked v ≡ f (unpacked p)
    → laid nodes queues (slice_set ws (index_of nodes place) v) ≡ changed (laid nodes queues ws) place f
laid_changed nodes queues ws place p v f low room there as_f =
    let long = tabulated_length (at_place nodes ws) 0 (nodes + queues) in
    let here : at_place nodes ws place ≡ unpacked p = read_item (map unpacked ws) (index_of nodes place) (unpacked p) (fresh nodes place) (map_get unpacked ws (index_of nodes place) p there) in
    laid_set nodes queues ws place v low room ∙ ap (slice_set (laid nodes queues ws) place) as_f
    ∙ written (laid nodes queues ws) place f (unpacked p) (laid_get nodes queues ws place (omega (arith, low, long)) ∙ ap Some here)
