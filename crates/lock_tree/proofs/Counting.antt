-- How many queues have nodes, and how many nodes are free.
use Rattle.std.proofs.Common.{◌≡◌, ℕ, ◌+◌, ◌<◌, ◌≤◌, zero, suc, List, [], ◌∷◌, ◌++◌, length, get_or, Option, None, Some, refl, ◌∙◌, ap, arith}
use Rattle.std.specs.Prelude.{slice_get, slice_set}
use Rattle.request_arena.specs.declared.node.Held.{Held}
use Rattle.request_arena.specs.Following.{changed}
use Rattle.request_arena.specs.Chains.{linked, with_successor}
use Rattle.request_arena.specs.Lists.{free_nodes}
use Rattle.lock_tree.specs.Lines.{asked, request_at}
use Rattle.lock_tree.specs.Numbered.{some, none, occupied, total}
use Rattle.lock_tree.proofs.Positions.{some_is, none_is, get_set_other}

-- ---- queues

pub occupied_set : (qs : List (List ℕ)) (q : ℕ) (xs : List ℕ) → q < length qs → occupied (slice_set qs q xs) + some (get_or qs q []) ≡ occupied qs + some xs
occupied_set [] q xs near = absurd (omega arith)
occupied_set (ys ∷ qs) zero xs near = omega arith
occupied_set (ys ∷ qs) (suc q) xs near = let h = occupied_set qs q xs (omega arith) in omega (arith, h)

pub total_set : (qs : List (List ℕ)) (q : ℕ) (xs : List ℕ) → q < length qs → total (slice_set qs q xs) + length (get_or qs q []) ≡ total qs + length xs
total_set [] q xs near = absurd (omega arith)
total_set (ys ∷ qs) zero xs near = omega arith
total_set (ys ∷ qs) (suc q) xs near = let h = total_set qs q xs (omega arith) in omega (arith, h)

some_few : (xs : List ℕ) → some xs ≤ length xs
some_few [] = omega arith
some_few (x ∷ xs) = omega arith

pub occupied_few : (qs : List (List ℕ)) → occupied qs ≤ total qs
occupied_few [] = omega arith
occupied_few (xs ∷ qs) = let h = occupied_few qs in let s = some_few xs in omega (arith, h, s)

pub queue_few : (qs : List (List ℕ)) (q : ℕ) → length (get_or qs q []) ≤ total qs
queue_few [] q = omega arith
queue_few (xs ∷ qs) zero = omega arith
queue_few (xs ∷ qs) (suc q) = let h = queue_few qs q in omega (arith, h)

pub one_or_none : (xs : List ℕ) → some xs + none xs ≡ 1
one_or_none [] = refl
one_or_none (x ∷ xs) = refl

pub one_more : (xs : List ℕ) (x : ℕ) → (some (xs ++ x ∷ []) ≡ 1) × (length (xs ++ x ∷ []) ≡ length xs + 1)
one_more [] x = (refl, refl)
one_more (y ∷ xs) x = let h = (one_more xs x).1 in (refl, omega (arith, h))

pub more_than_none : (xs : List ℕ) (x : ℕ) → xs ++ x ∷ [] ≡ [] → ⊥
more_than_none [] x e = absurd (cc)
more_than_none (y ∷ xs) x e = absurd (cc)

pub some_there : (xs : List ℕ) (i a : ℕ) → slice_get xs i ≡ Some a → (some xs ≡ 1) × (xs ≡ [] → ⊥)
some_there [] i a h = absurd (none_is a h)
some_there (x ∷ xs) i a h = (refl, λ e. absurd (cc))

pub none_if_empty : (xs : List ℕ) → xs ≡ [] → none xs ≡ 1
none_if_empty xs e = ap none e

pub none_if_some : (xs : List ℕ) → (xs ≡ [] → ⊥) → none xs ≡ 0
none_if_some [] h = absurd (h refl)
none_if_some (x ∷ xs) h = refl

-- ---- nodes

abbrev Nodes : Type 0
Nodes = List (Option Held)

changed_length : (hs : Nodes) (t id : ℕ) → length (changed hs t (λ h. with_successor h id)) ≡ length hs
changed_length [] t id = refl
changed_length (h ∷ hs) zero id = refl
changed_length (h ∷ hs) (suc t) id = ap suc (changed_length hs t id)

changed_free : (hs : Nodes) (t id : ℕ) → free_nodes (changed hs t (λ h. with_successor h id)) ≡ free_nodes hs
changed_free [] t id = refl
changed_free (None ∷ hs) zero id = refl
changed_free (Some h ∷ hs) zero id = refl
changed_free (None ∷ hs) (suc t) id = ap suc (changed_free hs t id)
changed_free (Some h ∷ hs) (suc t) id = changed_free hs t id

changed_vacant : (hs : Nodes) (t id i : ℕ) → slice_get hs i ≡ Some None → slice_get (changed hs t (λ h. with_successor h id)) i ≡ Some None
changed_vacant [] t id i e = e
changed_vacant (h ∷ hs) zero id zero e = ap (λ x. Some (with_successor x id)) (some_is h None e)
changed_vacant (h ∷ hs) zero id (suc i) e = e
changed_vacant (h ∷ hs) (suc t) id zero e = e
changed_vacant (h ∷ hs) (suc t) id (suc i) e = changed_vacant hs t id i e

successor_asks : (h : Option Held) (id : ℕ) → asked (Some (with_successor h id)) ≡ asked (Some h)
successor_asks None id = refl
successor_asks (Some h) id = refl

changed_asks : (hs : Nodes) (t id i : ℕ) → request_at (changed hs t (λ h. with_successor h id)) i ≡ request_at hs i
changed_asks [] t id i = refl
changed_asks (h ∷ hs) zero id zero = successor_asks h id
changed_asks (h ∷ hs) zero id (suc i) = refl
changed_asks (h ∷ hs) (suc t) id zero = refl
changed_asks (h ∷ hs) (suc t) id (suc i) = changed_asks hs t id i

pub linked_length : (tail : Option ℕ) (id : ℕ) (hs : Nodes) → length (linked tail id hs) ≡ length hs
linked_length None id hs = refl
linked_length (Some t) id hs = changed_length hs t id

linked_free : (tail : Option ℕ) (id : ℕ) (hs : Nodes) → free_nodes (linked tail id hs) ≡ free_nodes hs
linked_free None id hs = refl
linked_free (Some t) id hs = changed_free hs t id

linked_vacant : (tail : Option ℕ) (id : ℕ) (hs : Nodes) (i : ℕ) → slice_get hs i ≡ Some None → slice_get (linked tail id hs) i ≡ Some None
linked_vacant None id hs i e = e
linked_vacant (Some t) id hs i e = changed_vacant hs t id i e

linked_asks : (tail : Option ℕ) (id : ℕ) (hs : Nodes) (i : ℕ) → request_at (linked tail id hs) i ≡ request_at hs i
linked_asks None id hs i = refl
linked_asks (Some t) id hs i = changed_asks hs t id i

taken_free : (hs : Nodes) (i : ℕ) (h : Held) → slice_get hs i ≡ Some None → free_nodes (slice_set hs i (Some h)) + 1 ≡ free_nodes hs
taken_free [] i h e = absurd (none_is None e)
taken_free (None ∷ hs) zero h e = omega arith
taken_free (Some x ∷ hs) zero h e = absurd (cc)
taken_free (None ∷ hs) (suc i) h e = let r = taken_free hs i h e in omega (arith, r)
taken_free (Some x ∷ hs) (suc i) h e = taken_free hs i h e

pub given_free : (hs : Nodes) (i : ℕ) (h : Held) → slice_get hs i ≡ Some (Some h) → free_nodes (slice_set hs i None) ≡ free_nodes hs + 1
given_free [] i h e = absurd (none_is (Some h) e)
given_free (None ∷ hs) zero h e = absurd (cc)
given_free (Some x ∷ hs) zero h e = omega arith
given_free (None ∷ hs) (suc i) h e = let r = given_free hs i h e in omega (arith, r)
given_free (Some x ∷ hs) (suc i) h e = given_free hs i h e

-- a node is taken for a request after the tail
pub pushed_free : (hs new : Nodes) (tail : Option ℕ) (id : ℕ) (h : Held) → slice_get hs id ≡ Some None → new ≡ slice_set (linked tail id hs) id (Some h) → free_nodes new + 1 ≡ free_nodes hs
pushed_free hs new tail id h e is = ap (λ (xs : Nodes). free_nodes xs + 1) is ∙ taken_free (linked tail id hs) id h (linked_vacant tail id hs id e) ∙ linked_free tail id hs

-- and the other nodes hold the requests that they held
pub pushed_asks : (hs new : Nodes) (tail : Option ℕ) (id : ℕ) (h : Held) → new ≡ slice_set (linked tail id hs) id (Some h) → (a : ℕ) → (a ≡ id → ⊥) → request_at new a ≡ request_at hs a
pushed_asks hs new tail id h is a other =
    ap (λ (xs : Nodes). request_at xs a) is ∙ ap asked (get_set_other (linked tail id hs) id a (Some h) other) ∙ linked_asks tail id hs a
