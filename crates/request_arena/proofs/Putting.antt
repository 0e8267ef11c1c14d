-- The first free node v is put at the back of a queue: the block after the writes of `push_back`.
use Rattle.std.proofs.Common.{◌≡◌, ◌≢◌, ℕ, zero, suc, ◌+◌, ◌<◌, ◌≤◌, inl, inr, false, List, [], ◌∷◌, ◌++◌, length, Some, None, slice_get, slice_set, slice_index_or, refl, sym, ◌∙◌, ap, subst, arith}
use Rattle.request_arena.specs.declared.node.Node.{Node}
use Rattle.request_arena.specs.declared.node.Held.{Held}
use Rattle.request_arena.specs.Linked.{spread, held_in, queue_of, IsLinked}
use Rattle.request_arena.specs.Lists.{free_nodes}
use Rattle.request_arena.specs.Nodes.{next, prev, home, live, with_next, with_prev, with_home, with_held}
use Rattle.request_arena.specs.Walks.{Used, IsRing}
use Rattle.request_arena.proofs.Changed.{changed_in_turn}
use Rattle.request_arena.proofs.Walks.{true_false, followed_walk}
use Rattle.request_arena.proofs.Rings.{Enters, ring_longer, ring_kept, ring_pushed}
use Rattle.request_arena.proofs.Nodes.{long_next, long_prev, long_held, next_put, next_beside, next_of_prev, next_of_held, prev_of_next, prev_put, prev_beside, prev_of_held, live_of_next, live_of_prev, live_put, live_beside, held_of_next, held_of_prev, held_set, free_there, one_less_free}
use Rattle.request_arena.proofs.Homes.{home_of_next, home_of_prev, home_of_held}
use Rattle.request_arena.proofs.Spread.{spread_set, spread_at}
use Rattle.request_arena.proofs.Stacks.{Top, top_of, stack_kept}
use Rattle.request_arena.proofs.Linked.{used_in, queue_is}

-- a node that is written whole is written field by field
whole : (ns : List Node) (v s l q : ℕ) (h : Held) → slice_set ns v (record { next = s; prev = l; home = q; held = Some h }) ≡ with_home (with_prev (with_next (with_held ns v (Some h)) v s) v l) v q
whole [] v s l q h = refl
whole (n ∷ ns) zero s l q h = refl
whole (n ∷ ns) (suc v) s l q h = ap (λ b. n ∷ b) (whole ns v s l q h)

-- the queue that it notes may be noted after its neighbours lead to it
noted_last : (ns : List Node) (v l s q : ℕ) → with_prev (with_next (with_home ns v q) l v) s v ≡ with_home (with_prev (with_next ns l v) s v) v q
noted_last ns v l s q =
    ap (λ b. with_prev b s v) (changed_in_turn (λ n. record n { home = q }) (λ n. record n { next = v }) (λ n. refl) ns v l)
    ∙ changed_in_turn (λ n. record n { home = q }) (λ n. record n { prev = v }) (λ n. refl) (with_next ns l v) v s

module _ (ns : List Node) (c k v m : ℕ) (was : IsLinked ns c k v (suc m)) (q : ℕ) (in_range : q < k) (h : Held) where
  -- the head of the queue, and the last place before it
  abbrev s : ℕ
  s = c + q

  abbrev l : ℕ
  l = prev ns s

  pub top : (rest : List ℕ) × Top ns c v m rest
  top = top_of ns c v m was.stack.0 was.stack.1.0 was.stack.1.1

  low : c ≤ s
  low = omega arith

  high : s < c + k
  high = omega (arith, in_range)

  last_used : Used c (c + k) (live ns) l
  last_used = (was.ring.back s (inr (low, high))).0

  pub new_in : v < length ns
  new_in = omega (arith, top.1.room, was.long)

  pub head_in : s < length ns
  head_in = omega (arith, high, was.long)

  pub last_in : l < length ns
  last_in = used_in ns c k v (suc m) was l last_used

  not_last : (a : ℕ) → a < c → live ns a ≡ false → a ≢ l
  not_last a less dead e = elim last_used [
    | inl g ↦ true_false (live ns l) g (subst (λ b. live ns b ≡ false) e dead)
    | inr g ↦ omega (arith, g.0, e, less)
  ]

  -- write by write
  abbrev filled : List Node
  filled = with_held ns v (Some h)

  abbrev onward : List Node
  onward = with_next filled v s

  abbrev both_ways : List Node
  both_ways = with_prev onward v l

  abbrev after_last : List Node
  after_last = with_next both_ways l v

  abbrev pub put : List Node
  put = with_prev after_last s v

  long1 : length filled ≡ length ns
  long1 = long_held ns v (Some h)

  long2 : length onward ≡ length ns
  long2 = long_next filled v s ∙ long1

  long3 : length both_ways ≡ length ns
  long3 = long_prev onward v l ∙ long2

  long4 : length after_last ≡ length ns
  long4 = long_next both_ways l v ∙ long3

  nexts : (a : ℕ) → a ≢ l → next put a ≡ next onward a
  nexts a z = next_of_prev after_last s a v ∙ next_beside both_ways l a v z ∙ next_of_prev onward v a l

  prevs : (a : ℕ) → a ≢ s → prev put a ≡ prev both_ways a
  prevs a z = prev_beside after_last s a v z ∙ prev_of_next both_ways l a v

  lives : (a : ℕ) → live put a ≡ live filled a
  lives a = live_of_prev after_last s a v ∙ live_of_next both_ways l a v ∙ live_of_prev onward v a l ∙ live_of_next filled v a s

  enters : Enters (next ns) (prev ns) (live ns) v l s (next put) (prev put) (live put)
  enters = record {
    next_at = λ a e. next_of_prev after_last s a v ∙ ap (next after_last) e ∙ next_put both_ways l v (rw long3 last_in);
    next_new = nexts v (not_last v top.1.room top.1.off) ∙ next_put filled v s (rw long1 new_in);
    next_else = λ a z y. nexts a y ∙ next_beside filled v a s z ∙ next_of_held ns v a (Some h);
    prev_at = λ a e. ap (prev put) e ∙ prev_put after_last s v (rw long4 head_in);
    prev_new = prevs v (λ e. omega (arith, e, top.1.room, low)) ∙ prev_put onward v l (rw long2 new_in);
    prev_else = λ a z y. prevs a y ∙ prev_beside onward v a l z ∙ prev_of_next filled v a s ∙ prev_of_held ns v a (Some h);
    live_at = lives v ∙ live_put ns v (Some h) new_in;
    live_else = λ a z. lives a ∙ live_beside ns v a (Some h) z;
  }

  ring : IsRing c (c + k) (next put) (prev put) (live put)
  ring = ring_pushed c (c + k) (next ns) (prev ns) (live ns) was.ring v s top.1.off top.1.room low high (next put) (prev put) (live put) enters

  pub held_put : held_in c put ≡ slice_set (held_in c ns) v (Some h)
  held_put = held_of_prev c after_last s v ∙ held_of_next c both_ways l v ∙ held_of_prev c onward v l ∙ held_of_next c filled v s ∙ held_set c ns v (Some h)

  pub was_free : slice_get (held_in c ns) v ≡ Some None
  was_free = free_there c ns v top.1.room new_in top.1.off

  pub linked_put : IsLinked put c k (next ns v) m
  linked_put = record {
    long = long_prev after_last s v ∙ long4 ∙ was.long;
    fits = was.fits;
    ring = ring;
    stack = (top.0, (stack_kept ns put c v (λ a less dead z. (enters.next_else a z (not_last a less dead), enters.live_else a z ∙ dead)) top.0 (next ns v) top.1.apart top.1.stack, top.1.many));
    count = let less = one_less_free (held_in c ns) v h was_free in let had = was.count in let now = ap free_nodes held_put in omega (arith, less, had, now);
  }

  pub queues_put : spread (queue_of put c) c k ≡ slice_set (spread (queue_of ns c) c k) q (slice_index_or (spread (queue_of ns c) c k) q [] ++ v ∷ [])
  queues_put =
      spread_set (queue_of ns c) (queue_of put c) c k q in_range (λ j less more z.
      followed_walk (next put) (live put) c ring.low (queue_of ns c j) (next put j) j
      (ring_kept c (c + k) (next ns) (prev ns) (live ns) was.ring v s top.1.off top.1.room low high (next put) (prev put) (live put) enters j less more z
      (queue_of ns c j) (queue_is ns c k v (suc m) was j less more)))
      ∙ ap (λ xs. slice_set (spread (queue_of ns c) c k) q xs)
      (followed_walk (next put) (live put) c ring.low (queue_of ns c s ++ v ∷ []) (next put s) s
      (ring_longer c (c + k) (next ns) (prev ns) (live ns) was.ring v s top.1.off top.1.room low high (next put) (prev put) (live put) enters
      (queue_of ns c s) (queue_is ns c k v (suc m) was s low high))
      ∙ ap (λ xs. xs ++ v ∷ []) (sym (spread_at (queue_of ns c) c k q in_range)))

  pub homes_put : (a : ℕ) → home put a ≡ home ns a
  homes_put a = home_of_prev after_last s a v ∙ home_of_next both_ways l a v ∙ home_of_prev onward v a l ∙ home_of_next filled v a s ∙ home_of_held ns v a (Some h)

  -- the writes, where `push_back` has read the last place
  pub put_by : (b1 b2 b3 : List Node) (a : ℕ) → a ≡ l → b1 ≡ slice_set ns v (record { next = s; prev = a; home = q; held = Some h }) → b2 ≡ with_next b1 a v → b3 ≡ with_prev b2 s v → b3 ≡ with_home put v q
  put_by b1 b2 b3 a at e1 e2 e3 =
      let d1 : b1 ≡ with_home both_ways v q = e1 ∙ ap (λ p. slice_set ns v (record { next = s; prev = p; home = q; held = Some h })) at ∙ whole ns v s l q h in
      e3 ∙ ap (λ b. with_prev b s v) (e2 ∙ (λ i. with_next (d1 i) (at i) v)) ∙ noted_last both_ways v l s q
