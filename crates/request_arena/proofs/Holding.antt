-- What each node holds, as a list.
use Rattle.std.proofs.Common.{◌≡◌, ◌≢◌, ℕ, zero, suc, ◌<◌, true, false, List, [], ◌∷◌, length, replicate, Option, Some, None, slice_get, refl, arith}
use Rattle.request_arena.specs.declared.node.Held.{Held}
use Rattle.request_arena.specs.Chains.{with_successor, link, step, held_at, chain}
use Rattle.request_arena.specs.Walks.{Walk}
use Rattle.request_arena.proofs.Changed.{changed_length, changed_here, changed_else}
use Rattle.request_arena.proofs.Walks.{followed_walk}

pub length_link : (hs : List (Option Held)) (t : ℕ) (id : ℕ) → length (link hs t id) ≡ length hs
length_link hs t id = changed_length hs t (λ h. with_successor h id)

pub link_other : (hs : List (Option Held)) (t a : ℕ) (id : ℕ) → a ≢ t → slice_get (link hs t id) a ≡ slice_get hs a
link_other hs t a id z = changed_else hs t a (λ h. with_successor h id) z

pub link_same : (hs : List (Option Held)) (t : ℕ) (id : ℕ) (h : Held) → slice_get hs t ≡ Some (Some h) → slice_get (link hs t id) t ≡ Some (Some (record h { successor = Some id }))
link_same hs t id h e = changed_here hs t (λ o. with_successor o id) (Some h) e

pub held_low : (hs : List (Option Held)) (a : ℕ) → held_at hs a ≡ true → a < length hs
held_low [] a e = cc
held_low (h ∷ hs) zero e = omega arith
held_low (h ∷ hs) (suc a) e = omega (arith, held_low hs a e)

pub past : (hs : List (Option Held)) → held_at hs (length hs) ≡ false
past [] = refl
past (h ∷ hs) = past hs

pub chain_is : (hs : List (Option Held)) (xs : List ℕ) (a t : ℕ) → Walk (step hs) (held_at hs) a xs t → chain hs a ≡ xs
chain_is hs xs a t w = followed_walk (step hs) (held_at hs) (length hs) (held_low hs) xs a t w

pub none_held : (n a : ℕ) → held_at (replicate n None) a ≡ false
none_held zero a = refl
none_held (suc n) zero = refl
none_held (suc n) (suc a) = none_held n a
