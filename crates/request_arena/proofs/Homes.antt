-- The queue that each node notes: what a write leaves of it, and lists of which one got longer or lost a node.
use Rattle.std.proofs.Common.{◌≡◌, ◌≢◌, ℕ, zero, suc, ◌⊎◌, inl, inr, true, false, eqb, List, [], ◌∷◌, ◌++◌, length, map, replicate, Option, Some, None, slice_get, slice_set, slice_index_or, refl, sym, ◌∙◌, ap, ◌<◌}
use Rattle.request_arena.specs.declared.node.Node.{Node}
use Rattle.request_arena.specs.declared.node.Held.{Held}
use Rattle.request_arena.specs.Following.{without}
use Rattle.request_arena.specs.Nodes.{home, home_of, with_next, with_prev, with_home, with_held, with_successor_at, with_tail}
use Rattle.request_arena.specs.Chains.{with_successor}
use Rattle.request_arena.specs.Linked.{spread, queue_of, AreHome}
use Rattle.request_arena.proofs.Changed.{none_some, some_same, item_at, changed_here, changed_else, changed_unseen}
use Rattle.request_arena.proofs.Walks.{left_out}

module _ (ns : List Node) (i : ℕ) where
  pub home_put : (v : ℕ) → i < length ns → home (with_home ns i v) i ≡ v
  home_put v p = let it = item_at ns i p in ap home_of (changed_here ns i (λ n. record n { home = v }) it.0 it.1)

  module _ (a : ℕ) where
    pub home_beside : (v : ℕ) → a ≢ i → home (with_home ns i v) a ≡ home ns a
    home_beside v z = ap home_of (changed_else ns i a (λ n. record n { home = v }) z)

    pub home_of_next : (v : ℕ) → home (with_next ns i v) a ≡ home ns a
    home_of_next v = changed_unseen home_of (λ n. record n { next = v }) (λ n. refl) ns i a

    pub home_of_prev : (v : ℕ) → home (with_prev ns i v) a ≡ home ns a
    home_of_prev v = changed_unseen home_of (λ n. record n { prev = v }) (λ n. refl) ns i a

    pub home_of_held : (v : Option Held) → home (with_held ns i v) a ≡ home ns a
    home_of_held v = changed_unseen home_of (λ n. record n { held = v }) (λ n. refl) ns i a

    home_of_successor : (id : ℕ) → home (with_successor_at ns i id) a ≡ home ns a
    home_of_successor id = changed_unseen home_of (λ n. record n { held = with_successor n.held id }) (λ n. refl) ns i a

pub home_of_tail : (ns : List Node) (tail : Option ℕ) (id a : ℕ) → home (with_tail ns tail id) a ≡ home ns a
home_of_tail ns None id a = refl
home_of_tail ns (Some t) id a = home_of_successor ns t a id

in_longer : (xs : List ℕ) (v j a : ℕ) → slice_get (xs ++ v ∷ []) j ≡ Some a → (a ≡ v) ⊎ (slice_get xs j ≡ Some a)
in_longer [] v zero a e = inl (sym (some_same v a e))
in_longer [] v (suc j) a e = absurd (none_some a e)
in_longer (x ∷ xs) v zero a e = inr e
in_longer (x ∷ xs) v (suc j) a e = in_longer xs v j a e

in_pushed : (qs : List (List ℕ)) (q v r j a : ℕ) → slice_get (slice_index_or (slice_set qs q (slice_index_or qs q [] ++ v ∷ [])) r []) j ≡ Some a
    → ((a ≡ v) × (r ≡ q)) ⊎ (slice_get (slice_index_or qs r []) j ≡ Some a)
in_pushed [] q v r j a e = inr e
in_pushed (xs ∷ qs) zero v zero j a e = elim (in_longer xs v j a e) [ inl s ↦ inl (s, refl) | inr s ↦ inr s ]
in_pushed (xs ∷ qs) zero v (suc r) j a e = inr e
in_pushed (xs ∷ qs) (suc q) v zero j a e = inr e
in_pushed (xs ∷ qs) (suc q) v (suc r) j a e = elim (in_pushed qs q v r j a e) [ inl s ↦ inl (s.0, ap suc s.1) | inr s ↦ inr s ]

in_without : (xs : List ℕ) (x j a : ℕ) → slice_get (without x xs) j ≡ Some a → (i : ℕ) × (slice_get xs i ≡ Some a)
in_without [] x j a e = absurd (none_some a e)
in_without (y ∷ ys) x zero a e = elim (eqb y x) as (λ b. slice_get (left_out x y ys b) 0 ≡ Some a → (i : ℕ) × (slice_get (y ∷ ys) i ≡ Some a)) [
  | true ↦ λ at. (let r = in_without ys x 0 a at in (suc r.0, r.1))
  | false ↦ λ at. (0, at)
] e
in_without (y ∷ ys) x (suc j) a e = elim (eqb y x) as (λ b. slice_get (left_out x y ys b) (suc j) ≡ Some a → (i : ℕ) × (slice_get (y ∷ ys) i ≡ Some a)) [
  | true ↦ λ at. (let r = in_without ys x (suc j) a at in (suc r.0, r.1))
  | false ↦ λ at. (let r = in_without ys x j a at in (suc r.0, r.1))
] e

in_one_without : (qs : List (List ℕ)) (x r j a : ℕ) → slice_get (slice_index_or (map (without x) qs) r []) j ≡ Some a → (i : ℕ) × (slice_get (slice_index_or qs r []) i ≡ Some a)
in_one_without [] x r j a e = absurd (none_some a e)
in_one_without (xs ∷ qs) x zero j a e = in_without xs x j a e
in_one_without (xs ∷ qs) x (suc r) j a e = in_one_without qs x r j a e

none_in : (k q i a : ℕ) → slice_get (slice_index_or (replicate k []) q []) i ≡ Some a → ⊥
none_in zero q i a e = none_some a e
none_in (suc k) zero i a e = none_some a e
none_in (suc k) (suc q) i a e = none_in k q i a e

module _ (ns ms : List Node) (c k : ℕ) (homes : AreHome ns c k) where
  pub homes_pushed : (q v : ℕ) → home ms v ≡ q → ((a : ℕ) → a ≢ v → home ms a ≡ home ns a)
      → ((r j a : ℕ) → slice_get (slice_index_or (spread (queue_of ns c) c k) r []) j ≡ Some a → a ≢ v)
      → spread (queue_of ms c) c k ≡ slice_set (spread (queue_of ns c) c k) q (slice_index_or (spread (queue_of ns c) c k) q [] ++ v ∷ []) → AreHome ms c k
  homes_pushed q v here there apart lists r j a at = elim (in_pushed (spread (queue_of ns c) c k) q v r j a (ap (λ l. slice_get (slice_index_or l r []) j) (sym lists) ∙ at)) [
    | inl new ↦ ap (home ms) new.0 ∙ here ∙ sym new.1
    | inr old ↦ there a (apart r j a old) ∙ homes r j a old
  ]

  pub homes_removed : (x : ℕ) → ((a : ℕ) → home ms a ≡ home ns a) → spread (queue_of ms c) c k ≡ map (without x) (spread (queue_of ns c) c k) → AreHome ms c k
  homes_removed x same lists r j a at =
      let old = in_one_without (spread (queue_of ns c) c k) x r j a (ap (λ l. slice_get (slice_index_or l r []) j) (sym lists) ∙ at) in same a ∙ homes r old.0 a old.1

pub homes_blank : (ns : List Node) (c k n : ℕ) → spread (queue_of ns c) c k ≡ replicate n [] → AreHome ns c k
homes_blank ns c k n lists q i a at = absurd (none_in n q i a (ap (λ l. slice_get (slice_index_or l q []) i) (sym lists) ∙ at))
