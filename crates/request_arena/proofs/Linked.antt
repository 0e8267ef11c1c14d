-- What follows from the nodes being linked, and that a link in a chain keeps them so.
use Rattle.std.proofs.Common.{◌≡◌, ◌≢◌, ℕ, zero, suc, ◌+◌, ◌-◌, ◌<◌, ◌≤◌, inl, inr, Bool, true, List, length, Option, Some, None, is_some, slice_get, refl, sym, ◌∙◌, ap, subst, arith}
use Rattle.request_arena.specs.declared.node.Node.{Node}
use Rattle.request_arena.specs.declared.node.Held.{Held}
use Rattle.request_arena.specs.Chains.{linked}
use Rattle.request_arena.specs.Following.{follow}
use Rattle.request_arena.specs.Linked.{spread, held_in, queue_of, IsLinked}
use Rattle.request_arena.specs.Lists.{free_nodes}
use Rattle.request_arena.specs.Nodes.{next, prev, live, next_of, prev_of, is_live, with_home, with_successor_at, with_tail}
use Rattle.request_arena.specs.Walks.{Walk, Used, IsRing}
use Rattle.request_arena.proofs.Walks.{followed_walk}
use Rattle.request_arena.proofs.Changed.{changed_length, changed_unseen}
use Rattle.request_arena.proofs.Nodes.{long_successor, next_of_successor, prev_of_successor, live_of_successor, held_of_successor, held_of_home, node_there, few_free_nodes, as_many_free}
use Rattle.request_arena.proofs.Spread.{spread_same}
use Rattle.request_arena.proofs.Stacks.{stack_same}

module _ (ns : List Node) (c k v free : ℕ) (was : IsLinked ns c k v free) where
  pub used_in : (a : ℕ) → Used c (c + k) (live ns) a → a < length ns
  used_in a (inl on) = omega (arith, was.ring.low a on, was.long)
  used_in a (inr far) = omega (arith, far.1, was.long)

  pub live_of : (a : ℕ) (h : Held) → slice_get (held_in c ns) a ≡ Some (Some h) → live ns a ≡ true
  live_of a h e = let it = node_there c ns a (Some h) e in ap is_live it.1 ∙ ap is_some it.2

  pub few_free : free ≤ c
  few_free = omega (arith, few_free_nodes c ns, was.count)

  -- the queue of a head is what one comes through on the way back to it
  pub queue_is : (h : ℕ) → c ≤ h → h < c + k → Walk (next ns) (live ns) (next ns h) (queue_of ns c h) h
  queue_is h low high =
      let w = was.ring.rings h low high in let same = followed_walk (next ns) (live ns) c was.ring.low w.0 (next ns h) h w.1 in
      subst (λ l. Walk (next ns) (live ns) (next ns h) l h) (sym same) w.1

  -- a link in a chain changes no queue
  module _ (t id : ℕ) where
    abbrev ms : List Node
    ms = with_successor_at ns t id

    nexts : next ms ≡ next ns
    nexts = λ i a. next_of_successor ns t a id i

    prevs : prev ms ≡ prev ns
    prevs = λ i a. prev_of_successor ns t a id i

    lives : live ms ≡ live ns
    lives = λ i a. live_of_successor ns t a id i

    linked_successor : IsLinked ms c k v free
    linked_successor = record {
      long = long_successor ns t id ∙ was.long;
      fits = was.fits;
      ring = subst (λ (g : ℕ → ℕ). IsRing c (c + k) g (prev ms) (live ms)) (sym nexts) (subst (λ (g : ℕ → ℕ). IsRing c (c + k) (next ns) g (live ms)) (sym prevs)
          (subst (λ (g : ℕ → Bool). IsRing c (c + k) (next ns) (prev ns) g) (sym lives) was.ring));
      stack = (was.stack.0, (stack_same ns ms c (λ a. next_of_successor ns t a id) (λ a. live_of_successor ns t a id) was.stack.0 v was.stack.1.0, was.stack.1.1));
      count = ap free_nodes (held_of_successor c ns t id) ∙ as_many_free (held_in c ns) t id ∙ was.count;
    }

    queues_successor : spread (queue_of ms c) c k ≡ spread (queue_of ns c) c k
    queues_successor = spread_same (queue_of ns c) (queue_of ms c) c k (λ j low high. (λ i. follow (nexts i) (lives i) c (nexts i j)))

  -- nor does the note of a queue
  module _ (t id : ℕ) where
    abbrev noted : List Node
    noted = with_home ns t id

    noted_nexts : next noted ≡ next ns
    noted_nexts = λ i a. changed_unseen next_of (λ n. record n { home = id }) (λ n. refl) ns t a i

    noted_prevs : prev noted ≡ prev ns
    noted_prevs = λ i a. changed_unseen prev_of (λ n. record n { home = id }) (λ n. refl) ns t a i

    noted_lives : live noted ≡ live ns
    noted_lives = λ i a. changed_unseen is_live (λ n. record n { home = id }) (λ n. refl) ns t a i

    pub linked_home : IsLinked noted c k v free
    linked_home = record {
      long = changed_length ns t (λ n. record n { home = id }) ∙ was.long;
      fits = was.fits;
      ring = subst (λ (g : ℕ → ℕ). IsRing c (c + k) g (prev noted) (live noted)) (sym noted_nexts) (subst (λ (g : ℕ → ℕ). IsRing c (c + k) (next ns) g (live noted)) (sym noted_prevs)
          (subst (λ (g : ℕ → Bool). IsRing c (c + k) (next ns) (prev ns) g) (sym noted_lives) was.ring));
      stack = (was.stack.0, (stack_same ns noted c (λ a i. noted_nexts i a) (λ a i. noted_lives i a) was.stack.0 v was.stack.1.0, was.stack.1.1));
      count = ap free_nodes (held_of_home c ns t id) ∙ was.count;
    }

    pub queues_home : spread (queue_of noted c) c k ≡ spread (queue_of ns c) c k
    queues_home = spread_same (queue_of ns c) (queue_of noted c) c k (λ j low high. (λ i. follow (noted_nexts i) (noted_lives i) c (noted_nexts i j)))

  pub linked_tail : (tail : Option ℕ) (id : ℕ) → IsLinked (with_tail ns tail id) c k v free
  linked_tail None id = was
  linked_tail (Some t) id = linked_successor t id

  pub queues_tail : (tail : Option ℕ) (id : ℕ) → spread (queue_of (with_tail ns tail id) c) c k ≡ spread (queue_of ns c) c k
  queues_tail None id = refl
  queues_tail (Some t) id = queues_successor t id

pub held_tail : (c : ℕ) (ns : List Node) (tail : Option ℕ) (id : ℕ) → held_in c (with_tail ns tail id) ≡ linked tail id (held_in c ns)
held_tail c ns None id = refl
held_tail c ns (Some t) id = held_of_successor c ns t id

pub one_off : (free : ℕ) → free ≢ 0 → free ≡ suc (free - 1)
one_off zero z = absurd (z refl)
one_off (suc m) z = omega arith
