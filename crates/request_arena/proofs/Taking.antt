-- A live node x is taken out of its queue, and is the first free one then: the block after the writes of `remove`.
use Rattle.std.proofs.Common.{◌≡◌, ◌≢◌, ℕ, suc, ◌+◌, ◌<◌, inl, inr, true, false, List, ◌∷◌, length, Some, None, slice_get, slice_set, map, refl, sym, ◌∙◌, ap, subst, arith}
use Rattle.request_arena.specs.declared.node.Node.{Node}
use Rattle.request_arena.specs.declared.node.Held.{Held}
use Rattle.request_arena.specs.Following.{without}
use Rattle.request_arena.specs.Linked.{spread, held_in, queue_of, Stack, IsLinked}
use Rattle.request_arena.specs.Lists.{free_nodes}
use Rattle.request_arena.specs.Nodes.{next, prev, home, live, next_of, prev_of, with_next, with_prev, with_held}
use Rattle.request_arena.specs.Walks.{IsRing}
use Rattle.request_arena.proofs.Walks.{true_false, followed_walk}
use Rattle.request_arena.proofs.Rings.{Leaves, no_self, ring_round, ring_removed}
use Rattle.request_arena.proofs.Nodes.{long_next, long_prev, long_held, next_put, next_beside, next_of_prev, next_of_held, prev_of_next, prev_put, prev_beside, prev_of_held, live_of_next, live_of_prev, live_put, live_beside, held_of_next, held_of_prev, held_set, few_free_nodes, one_more_free}
use Rattle.request_arena.proofs.Homes.{home_of_next, home_of_prev, home_of_held}
use Rattle.request_arena.proofs.Spread.{spread_map}
use Rattle.request_arena.proofs.Stacks.{stack_kept, live_is_none}
use Rattle.request_arena.proofs.Linked.{used_in, queue_is}

module _ (ns : List Node) (c k v free : ℕ) (was : IsLinked ns c k v free) (x : ℕ) (on : live ns x ≡ true) where
  -- the place before it, and the place after it
  abbrev b : ℕ
  b = prev ns x

  abbrev f : ℕ
  f = next ns x

  pub before_in : b < length ns
  before_in = used_in ns c k v free was b (was.ring.back x (inl on)).0

  pub after_in : f < length ns
  after_in = used_in ns c k v free was f (was.ring.onward x (inl on)).0

  pub here_in : x < length ns
  here_in = used_in ns c k v free was x (inl on)

  -- write by write
  abbrev bridged : List Node
  bridged = with_next ns b f

  abbrev bridged_back : List Node
  bridged_back = with_prev bridged f b

  abbrev emptied : List Node
  emptied = with_held bridged_back x None

  abbrev pub taken : List Node
  taken = with_next emptied x v

  long2 : length bridged_back ≡ length ns
  long2 = long_prev bridged f b ∙ long_next ns b f

  long3 : length emptied ≡ length ns
  long3 = long_held bridged_back x None ∙ long2

  nexts : (a : ℕ) → a ≢ x → next taken a ≡ next bridged a
  nexts a z = next_beside emptied x a v z ∙ next_of_held bridged_back x a None ∙ next_of_prev bridged f a b

  prevs : (a : ℕ) → prev taken a ≡ prev bridged_back a
  prevs a = prev_of_next emptied x a v ∙ prev_of_held bridged_back x a None

  leaves : Leaves (next ns) (prev ns) (live ns) x b f (next taken) (prev taken) (live taken)
  leaves = record {
    next_at = λ a e. nexts a (λ z. (no_self c (c + k) (next ns) (prev ns) (live ns) was.ring x on).1 (sym e ∙ z)) ∙ ap (next bridged) e ∙ next_put ns b f before_in;
    next_else = λ a z y. nexts a z ∙ next_beside ns b a f y;
    prev_at = λ a e. prevs a ∙ ap (prev bridged_back) e ∙ prev_put bridged f b (rw (long_next ns b f) after_in);
    prev_else = λ a z y. prevs a ∙ prev_beside bridged f a b y ∙ prev_of_next ns b a f;
    live_at = live_of_next emptied x x v ∙ live_put bridged_back x None (rw long2 here_in);
    live_else = λ a z. live_of_next emptied x a v ∙ live_beside bridged_back x a None z ∙ live_of_prev bridged f a b ∙ live_of_next ns b a f;
  }

  ring : IsRing c (c + k) (next taken) (prev taken) (live taken)
  ring = ring_removed c (c + k) (next ns) (prev ns) (live ns) was.ring x on (next taken) (prev taken) (live taken) leaves

  -- what the nodes hold, and the queues
  pub held_taken : held_in c taken ≡ slice_set (held_in c ns) x None
  held_taken = held_of_next c emptied x v ∙ held_set c bridged_back x None ∙ ap (λ l. slice_set l x None) (held_of_prev c bridged f b ∙ held_of_next c ns b f)

  pub queues_taken : spread (queue_of taken c) c k ≡ map (without x) (spread (queue_of ns c) c k)
  queues_taken = spread_map (queue_of ns c) (queue_of taken c) (without x) c k (λ j low high.
      followed_walk (next taken) (live taken) c ring.low (without x (queue_of ns c j)) (next taken j) j
      (ring_round c (c + k) (next ns) (prev ns) (live ns) was.ring x on (next taken) (prev taken) (live taken) leaves j low high (queue_of ns c j) (queue_is ns c k v free was j low high)))

  pub homes_taken : (a : ℕ) → home taken a ≡ home ns a
  homes_taken a = home_of_next emptied x a v ∙ home_of_held bridged_back x a None ∙ home_of_prev bridged f a b ∙ home_of_next ns b a f

  no_free : (a : ℕ) → a < c → live ns a ≡ false → a ≡ b → ⊥
  no_free a low off e = elim (was.ring.back x (inl on)).0 [
    | inl h ↦ true_false (live ns b) h (subst (λ n. live ns n ≡ false) e off)
    | inr h ↦ omega (arith, h.0, e, low)
  ]

  pub linked_taken : (h : Held) → slice_get (held_in c ns) x ≡ Some (Some h) → IsLinked taken c k x (suc free)
  linked_taken h is =
      let fs = was.stack.0 in let apart = live_is_none ns c x on fs v was.stack.1.0 in
      let rest : Stack taken c v fs = stack_kept ns taken c x (λ a low off z. (leaves.next_else a z (λ e. no_free a low off e), leaves.live_else a z ∙ off)) fs v apart was.stack.1.0 in
      let to : next taken x ≡ v = next_put emptied x v (rw long3 here_in) in
      record {
        long = long_next emptied x v ∙ long3 ∙ was.long;
        fits = was.fits;
        ring = ring;
        stack = (x ∷ fs, ((refl, was.ring.low x on, leaves.live_at, apart, subst (λ n. Stack taken c n fs) (sym to) rest), ap suc was.stack.1.1));
        count = ap free_nodes held_taken ∙ one_more_free (held_in c ns) x h is ∙ ap suc was.count;
      }

  -- not all nodes are free
  pub room_to_free : (h : Held) → slice_get (held_in c ns) x ≡ Some (Some h) → free < c
  room_to_free h is = omega (arith, few_free_nodes c taken, (linked_taken h is).count)

  -- the writes, where `remove` has read the links of the node
  pub taken_by : (n : Node) → slice_get ns x ≡ Some n → (b1 b2 b3 : List Node) → b1 ≡ with_next ns n.prev n.next → b2 ≡ with_prev b1 n.next n.prev
      → b3 ≡ with_next (with_held b2 x None) x v → b3 ≡ taken
  taken_by n is b1 b2 b3 e1 e2 e3 =
      let at_b : n.prev ≡ b = sym (ap prev_of is) in let at_f : n.next ≡ f = sym (ap next_of is) in
      let d1 : b1 ≡ bridged = e1 ∙ (λ i. with_next ns (at_b i) (at_f i)) in let d2 : b2 ≡ bridged_back = e2 ∙ (λ i. with_prev (d1 i) (at_f i) (at_b i)) in
      e3 ∙ ap (λ l. with_next (with_held l x None) x v) d2
