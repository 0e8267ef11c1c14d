-- What is read of the block after one write, and what its nodes hold then.
use Rattle.std.proofs.Common.{◌+◌, ◌≡◌, ◌≢◌, ℕ, zero, suc, ◌<◌, ◌≤◌, false, List, [], ◌∷◌, length, Option, Some, None, is_some, IsSome, slice_get, slice_set, refl, sym, ◌∙◌, ap, arith}
use Rattle.request_arena.specs.declared.node.Node.{Node}
use Rattle.request_arena.specs.declared.node.Held.{Held}
use Rattle.request_arena.specs.Chains.{with_successor, link}
use Rattle.request_arena.specs.Following.{changed}
use Rattle.request_arena.specs.Linked.{held_in}
use Rattle.request_arena.specs.Lists.{free_nodes, live_nodes}
use Rattle.request_arena.specs.Nodes.{next, prev, live, next_of, prev_of, is_live, with_next, with_prev, with_home, with_held, with_successor_at}
use Rattle.request_arena.proofs.Changed.{none_some, some_same, item_at, changed_length, changed_here, changed_else, changed_unseen, written_over}

successor_live : (o : Option Held) (id : ℕ) → is_some (with_successor o id) ≡ is_some o
successor_live None id = refl
successor_live (Some h) id = refl

-- a write to the i-th place, seen from the place a
module _ (ns : List Node) (i : ℕ) where
  pub long_next : (v : ℕ) → length (with_next ns i v) ≡ length ns
  long_next v = changed_length ns i (λ n. record n { next = v })

  pub long_prev : (v : ℕ) → length (with_prev ns i v) ≡ length ns
  long_prev v = changed_length ns i (λ n. record n { prev = v })

  pub long_held : (v : Option Held) → length (with_held ns i v) ≡ length ns
  long_held v = changed_length ns i (λ n. record n { held = v })

  pub long_successor : (id : ℕ) → length (with_successor_at ns i id) ≡ length ns
  long_successor id = changed_length ns i (λ n. record n { held = with_successor n.held id })

  pub next_put : (v : ℕ) → i < length ns → next (with_next ns i v) i ≡ v
  next_put v p = let it = item_at ns i p in ap next_of (changed_here ns i (λ n. record n { next = v }) it.0 it.1)

  pub prev_put : (v : ℕ) → i < length ns → prev (with_prev ns i v) i ≡ v
  prev_put v p = let it = item_at ns i p in ap prev_of (changed_here ns i (λ n. record n { prev = v }) it.0 it.1)

  pub live_put : (v : Option Held) → i < length ns → live (with_held ns i v) i ≡ is_some v
  live_put v p = let it = item_at ns i p in ap is_live (changed_here ns i (λ n. record n { held = v }) it.0 it.1)

  module _ (a : ℕ) where
    pub next_beside : (v : ℕ) → a ≢ i → next (with_next ns i v) a ≡ next ns a
    next_beside v z = ap next_of (changed_else ns i a (λ n. record n { next = v }) z)

    pub prev_beside : (v : ℕ) → a ≢ i → prev (with_prev ns i v) a ≡ prev ns a
    prev_beside v z = ap prev_of (changed_else ns i a (λ n. record n { prev = v }) z)

    pub live_beside : (v : Option Held) → a ≢ i → live (with_held ns i v) a ≡ live ns a
    live_beside v z = ap is_live (changed_else ns i a (λ n. record n { held = v }) z)

    pub prev_of_next : (v : ℕ) → prev (with_next ns i v) a ≡ prev ns a
    prev_of_next v = changed_unseen prev_of (λ n. record n { next = v }) (λ n. refl) ns i a

    pub live_of_next : (v : ℕ) → live (with_next ns i v) a ≡ live ns a
    live_of_next v = changed_unseen is_live (λ n. record n { next = v }) (λ n. refl) ns i a

    pub next_of_prev : (v : ℕ) → next (with_prev ns i v) a ≡ next ns a
    next_of_prev v = changed_unseen next_of (λ n. record n { prev = v }) (λ n. refl) ns i a

    pub live_of_prev : (v : ℕ) → live (with_prev ns i v) a ≡ live ns a
    live_of_prev v = changed_unseen is_live (λ n. record n { prev = v }) (λ n. refl) ns i a

    pub next_of_held : (v : Option Held) → next (with_held ns i v) a ≡ next ns a
    next_of_held v = changed_unseen next_of (λ n. record n { held = v }) (λ n. refl) ns i a

    pub prev_of_held : (v : Option Held) → prev (with_held ns i v) a ≡ prev ns a
    prev_of_held v = changed_unseen prev_of (λ n. record n { held = v }) (λ n. refl) ns i a

    pub next_of_successor : (id : ℕ) → next (with_successor_at ns i id) a ≡ next ns a
    next_of_successor id = changed_unseen next_of (λ n. record n { held = with_successor n.held id }) (λ n. refl) ns i a

    pub prev_of_successor : (id : ℕ) → prev (with_successor_at ns i id) a ≡ prev ns a
    prev_of_successor id = changed_unseen prev_of (λ n. record n { held = with_successor n.held id }) (λ n. refl) ns i a

    pub live_of_successor : (id : ℕ) → live (with_successor_at ns i id) a ≡ live ns a
    live_of_successor id = changed_unseen is_live (λ n. record n { held = with_successor n.held id }) (λ n. successor_live n.held id) ns i a

-- what the nodes hold is changed as the node is
held_changed : (f : Node → Node) (g : Option Held → Option Held) → ((n : Node) → (f n).held ≡ g n.held) → (c : ℕ) (ns : List Node) (i : ℕ) → held_in c (changed ns i f) ≡ changed (held_in c ns) i g
held_changed f g as_g zero ns i = refl
held_changed f g as_g (suc c) [] i = refl
held_changed f g as_g (suc c) (n ∷ ns) zero = ap (λ h. h ∷ held_in c ns) (as_g n)
held_changed f g as_g (suc c) (n ∷ ns) (suc i) = ap (λ l. n.held ∷ l) (held_changed f g as_g c ns i)

unchanged : {X : Type 0} (xs : List X) (i : ℕ) → changed xs i (λ x. x) ≡ xs
unchanged [] i = refl
unchanged (x ∷ xs) zero = refl
unchanged (x ∷ xs) (suc i) = ap (λ l. x ∷ l) (unchanged xs i)

module _ (c : ℕ) (ns : List Node) (i : ℕ) where
  pub held_of_next : (v : ℕ) → held_in c (with_next ns i v) ≡ held_in c ns
  held_of_next v = held_changed (λ n. record n { next = v }) (λ h. h) (λ n. refl) c ns i ∙ unchanged (held_in c ns) i

  pub held_of_prev : (v : ℕ) → held_in c (with_prev ns i v) ≡ held_in c ns
  held_of_prev v = held_changed (λ n. record n { prev = v }) (λ h. h) (λ n. refl) c ns i ∙ unchanged (held_in c ns) i

  pub held_of_home : (v : ℕ) → held_in c (with_home ns i v) ≡ held_in c ns
  held_of_home v = held_changed (λ n. record n { home = v }) (λ h. h) (λ n. refl) c ns i ∙ unchanged (held_in c ns) i

  pub held_set : (v : Option Held) → held_in c (with_held ns i v) ≡ slice_set (held_in c ns) i v
  held_set v = held_changed (λ n. record n { held = v }) (λ _. v) (λ n. refl) c ns i ∙ sym (written_over (held_in c ns) i v)

  pub held_of_successor : (id : ℕ) → held_in c (with_successor_at ns i id) ≡ link (held_in c ns) i id
  held_of_successor id = held_changed (λ n. record n { held = with_successor n.held id }) (λ h. with_successor h id) (λ n. refl) c ns i

pub node_there : (c : ℕ) (ns : List Node) (a : ℕ) (o : Option Held) → slice_get (held_in c ns) a ≡ Some o → (n : Node) × (slice_get ns a ≡ Some n) × (n.held ≡ o) × (a < c)
node_there zero ns a o e = absurd (none_some o e)
node_there (suc c) [] a o e = absurd (none_some o e)
node_there (suc c) (n ∷ ns) zero o e = (n, refl, some_same n.held o e, omega arith)
node_there (suc c) (n ∷ ns) (suc a) o e = let r = node_there c ns a o e in (r.0, r.1, r.2, omega (arith, r.3))

-- what a node that was read holds
pub held_read : (c : ℕ) (ns : List Node) (a : ℕ) (h : Held) (n : Node) → slice_get (held_in c ns) a ≡ Some (Some h) → slice_get ns a ≡ Some n → n.held ≡ Some h
held_read c ns a h n there read =
    let it = node_there c ns a (Some h) there in ap (λ (n : Node). n.held) (some_same n it.0 (sym read ∙ it.1)) ∙ it.2

pub some_is : (o : Option Held) (h : Held) → o ≡ Some h → IsSome o
some_is (Some g) h e = refl
some_is None h e = absurd (none_some h e)

holds_nothing : (o : Option Held) → is_some o ≡ false → o ≡ None
holds_nothing None e = refl
holds_nothing (Some h) e = cc

pub free_there : (c : ℕ) (ns : List Node) (a : ℕ) → a < c → a < length ns → live ns a ≡ false → slice_get (held_in c ns) a ≡ Some None
free_there zero ns a p q e = absurd (omega (arith, p))
free_there (suc c) [] a p q e = absurd (omega (arith, q))
free_there (suc c) (n ∷ ns) zero p q e = ap Some (holds_nothing n.held e)
free_there (suc c) (n ∷ ns) (suc a) p q e = free_there c ns a (omega (arith, p)) (omega (arith, q)) e

-- how many nodes are free after one is filled, freed or linked
pub one_less_free : (hs : List (Option Held)) (i : ℕ) (h : Held) → slice_get hs i ≡ Some None → free_nodes hs ≡ suc (free_nodes (slice_set hs i (Some h)))
one_less_free [] i h e = cc
one_less_free (None ∷ hs) zero h e = refl
one_less_free (Some g ∷ hs) zero h e = cc
one_less_free (None ∷ hs) (suc i) h e = ap suc (one_less_free hs i h e)
one_less_free (Some g ∷ hs) (suc i) h e = one_less_free hs i h e

pub one_more_free : (hs : List (Option Held)) (i : ℕ) (h : Held) → slice_get hs i ≡ Some (Some h) → free_nodes (slice_set hs i None) ≡ suc (free_nodes hs)
one_more_free [] i h e = cc
one_more_free (None ∷ hs) zero h e = cc
one_more_free (Some g ∷ hs) zero h e = refl
one_more_free (None ∷ hs) (suc i) h e = ap suc (one_more_free hs i h e)
one_more_free (Some g ∷ hs) (suc i) h e = one_more_free hs i h e

pub as_many_free : (hs : List (Option Held)) (t : ℕ) (id : ℕ) → free_nodes (link hs t id) ≡ free_nodes hs
as_many_free [] t id = refl
as_many_free (None ∷ hs) zero id = refl
as_many_free (Some h ∷ hs) zero id = refl
as_many_free (None ∷ hs) (suc t) id = ap suc (as_many_free hs t id)
as_many_free (Some h ∷ hs) (suc t) id = as_many_free hs t id

-- each node is free or live
pub all_nodes : (hs : List (Option Held)) → free_nodes hs + live_nodes hs ≡ length hs
all_nodes [] = refl
all_nodes (None ∷ hs) = omega (arith, all_nodes hs)
all_nodes (Some h ∷ hs) = omega (arith, all_nodes hs)

pub nodes_within : (c : ℕ) (ns : List Node) → length (held_in c ns) ≤ c
nodes_within zero ns = omega arith
nodes_within (suc c) [] = omega arith
nodes_within (suc c) (n ∷ ns) = omega (arith, nodes_within c ns)

pub few_free_nodes : (c : ℕ) (ns : List Node) → free_nodes (held_in c ns) ≤ c
few_free_nodes c ns = omega (arith, all_nodes (held_in c ns), nodes_within c ns)
