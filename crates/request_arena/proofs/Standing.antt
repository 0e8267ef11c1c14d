-- A node of a queue is live, and stands in no other queue and at no other place.
use Rattle.std.proofs.Common.{◌≡◌, ℕ, zero, suc, ◌+◌, ◌-◌, ◌<◌, ◌≤◌, ◌⊎◌, inl, inr, Bool, true, false, List, [], ◌∷◌, length, Option, Some, None, is_some, slice_get, slice_index_or, refl, sym, ◌∙◌, ap, subst, arith}
use Rattle.request_arena.specs.declared.node.Node.{Node}
use Rattle.request_arena.specs.declared.node.Held.{Held}
use Rattle.request_arena.specs.Walks.{Walk, Used, Undo}
use Rattle.request_arena.specs.Nodes.{next, prev, live}
use Rattle.request_arena.specs.Linked.{spread, held_in, queue_of, IsLinked}
use Rattle.request_arena.proofs.Walks.{one_walk, true_false}
use Rattle.request_arena.proofs.Changed.{none_some, some_same}
use Rattle.request_arena.proofs.Linked.{queue_is}
use Rattle.request_arena.proofs.Spread.{spread_at}

module _ (onward : ℕ → ℕ) (on : ℕ → Bool) where
  -- from a node of a walk on it is a walk to the same end
  rest_at : (xs : List ℕ) (b t i y : ℕ) → Walk onward on b xs t → slice_get xs i ≡ Some y
      → (zs : List ℕ) × (Walk onward on y zs t × (length zs + i ≡ length xs) × (on y ≡ true))
  rest_at [] b t i y w e = absurd (none_some y e)
  rest_at (x ∷ xs) b t zero y w e =
      let at : b ≡ y = w.0 ∙ some_same x y e in
      (x ∷ xs, (subst (λ n. Walk onward on n (x ∷ xs) t) at w, omega arith, subst (λ n. on n ≡ true) at w.1))
  rest_at (x ∷ xs) b t (suc i) y w e = let r = rest_at xs (onward b) t i y w.2 e in (r.0, (r.1.0, omega (arith, r.1.1), r.1.2))

  one_end : (zs : List ℕ) (b t u : ℕ) → Walk onward on b zs t → Walk onward on b zs u → t ≡ u
  one_end [] b t u w v = sym w.0 ∙ v.0
  one_end (z ∷ zs) b t u w v = one_end zs (onward b) t u w.2 v.2

-- a queue that has a node is one of those that are there
queue_there : (f : ℕ → List ℕ) (h k q i y : ℕ) → slice_get (slice_index_or (spread f h k) q []) i ≡ Some y → q < k
queue_there f h zero q i y e = absurd (none_some y e)
queue_there f h (suc k) zero i y e = omega arith
queue_there f h (suc k) (suc q) i y e = let r = queue_there f (suc h) k q i y e in omega (arith, r)

some_held : (o : Option Held) → is_some o ≡ true → (h : Held) × (Some o ≡ Some (Some h))
some_held None e = cc
some_held (Some h) e = (h, refl)

held_there : (c : ℕ) (ns : List Node) (a : ℕ) → a < c → live ns a ≡ true → (h : Held) × (slice_get (held_in c ns) a ≡ Some (Some h))
held_there zero ns a p e = absurd (omega (arith, p))
held_there (suc c) [] a p e = cc
held_there (suc c) (n ∷ ns) zero p e = some_held n.held e
held_there (suc c) (n ∷ ns) (suc a) p e = held_there c ns a (omega (arith, p)) e

module _ (ns : List Node) (c k v free : ℕ) (was : IsLinked ns c k v free) (q i a : ℕ) (at : slice_get (slice_index_or (spread (queue_of ns c) c k) q []) i ≡ Some a) where
  there : q < k
  there = queue_there (queue_of ns c) c k q i a at

  pub in_queue : slice_get (queue_of ns c (c + q)) i ≡ Some a
  in_queue = ap (λ (l : List ℕ). slice_get l i) (sym (spread_at (queue_of ns c) c k q there)) ∙ at

  pub onward_from : (zs : List ℕ) × (Walk (next ns) (live ns) a zs (c + q) × (length zs + i ≡ length (queue_of ns c (c + q))) × (live ns a ≡ true))
  onward_from = rest_at (next ns) (live ns) (queue_of ns c (c + q)) (next ns (c + q)) (c + q) i a (queue_is ns c k v free was (c + q) (omega arith) (omega (arith, there))) in_queue

  pub is_live : (h : Held) × (slice_get (held_in c ns) a ≡ Some (Some h))
  is_live = held_there c ns a (was.ring.low a onward_from.1.2) onward_from.1.2

pub stand_apart : (ns : List Node) (c k v free : ℕ) → IsLinked ns c k v free → (q r i j a : ℕ) → slice_get (slice_index_or (spread (queue_of ns c) c k) q []) i ≡ Some a
    → slice_get (slice_index_or (spread (queue_of ns c) c k) r []) j ≡ Some a → (q ≡ r) × (i ≡ j)
stand_apart ns c k v free was q r i j a here there =
    let f = onward_from ns c k v free was q i a here in let g = onward_from ns c k v free was r j a there in
    let same : f.0 ≡ g.0 = one_walk (next ns) (live ns) f.0 g.0 a (c + q) (c + r) f.1.0 g.1.0 in
    let end : c + q ≡ c + r = one_end (next ns) (live ns) g.0 a (c + q) (c + r) (subst (λ l. Walk (next ns) (live ns) a l (c + q)) same f.1.0) g.1.0 in
    let long : length f.0 ≡ length g.0 = ap length same in
    let lists : length (queue_of ns c (c + q)) ≡ length (queue_of ns c (c + r)) = ap (λ h. length (queue_of ns c h)) end in
    (omega (arith, end), omega (arith, f.1.1, g.1.1, long, lists))

-- a place that a linked one leads to is a live node, or a head
pub next_is_live : (ns : List Node) (c k v free : ℕ) → IsLinked ns c k v free → (x : ℕ) → Used c (c + k) (live ns) x → next ns x < c → (h : Held) × (slice_get (held_in c ns) (next ns x) ≡ Some (Some h))
next_is_live ns c k v free was x used low = elim (was.ring.onward x used).0 [
  | inl on ↦ held_there c ns (next ns x) low on
  | inr far ↦ absurd (omega (arith, far.0, low))
]

-- ---- a live node is in a queue

held_live : (c : ℕ) (ns : List Node) (a : ℕ) (h : Held) → slice_get (held_in c ns) a ≡ Some (Some h) → live ns a ≡ true
held_live zero ns a h e = absurd (none_some (Some h) e)
held_live (suc c) [] a h e = absurd (none_some (Some h) e)
held_live (suc c) (n ∷ ns) zero h e = ap is_some (some_same n.held (Some h) e)
held_live (suc c) (n ∷ ns) (suc a) h e = held_live c ns a h e

module _ (nodes all : ℕ) (onward back : ℕ → ℕ) (on : ℕ → Bool) (undo : Undo nodes all onward back on) where
  -- two linked places that lead to one are one
  one_before : (x p : ℕ) → Used nodes all on x → Used nodes all on p → onward p ≡ onward x → x ≡ p
  one_before x p here before e = sym (undo x here).1 ∙ ap back (sym e) ∙ (undo p before).1

  -- The place before one of a walk is in the walk, or before all of it
  before_at : (ys : List ℕ) (x p b t i z : ℕ) → Used nodes all on x → Used nodes all on p → onward p ≡ b → Walk onward on b ys t
      → slice_get ys i ≡ Some z → onward x ≡ z → (x ≡ p) ⊎ ((j : ℕ) × (slice_get ys j ≡ Some x))
  before_at [] x p b t i z here before e w g n = absurd (none_some z g)
  before_at (y ∷ ys) x p b t zero z here before e w g n = inl (one_before x p here before (e ∙ w.0 ∙ some_same y z g ∙ sym n))
  before_at (y ∷ ys) x p b t (suc i) z here before e w g n =
      elim (before_at ys x b (onward b) t i z here (inl w.1) refl w.2 g n) [
        | inl is ↦ inr (0, ap some_place (sym w.0 ∙ sym is))
        | inr later ↦ inr (suc later.0, later.1)
      ]
    where
      some_place : ℕ → Option ℕ
      some_place q = Some q

  -- the same of the end of a walk
  before_end : (ys : List ℕ) (x p b t : ℕ) → Used nodes all on x → Used nodes all on p → onward p ≡ b → Walk onward on b ys t
      → onward x ≡ t → (x ≡ p) ⊎ ((j : ℕ) × (slice_get ys j ≡ Some x))
  before_end [] x p b t here before e w n = inl (one_before x p here before (e ∙ w.0 ∙ sym n))
  before_end (y ∷ ys) x p b t here before e w n =
      elim (before_end ys x b (onward b) t here (inl w.1) refl w.2 n) [
        | inl is ↦ inr (0, ap some_place (sym w.0 ∙ sym is))
        | inr later ↦ inr (suc later.0, later.1)
      ]
    where
      some_place : ℕ → Option ℕ
      some_place q = Some q

  -- a live place from which one comes to a head is in the ring of the head
  in_ring : (xs ys : List ℕ) (x head : ℕ) → on head ≡ false → Used nodes all on head → Walk onward on (onward head) ys head
      → on x ≡ true → Walk onward on x xs head → (j : ℕ) × (slice_get ys j ≡ Some x)
  in_ring [] ys x head off used ring is w = absurd (true_false (on x) is w.1)
  in_ring (y ∷ []) ys x head off used ring is w = elim (before_end ys x head (onward head) head (inl is) used refl ring w.2.0) [
    | inl same ↦ absurd (true_false (on x) is (ap on same ∙ off))
    | inr found ↦ found
  ]
  in_ring (y ∷ z ∷ xs) ys x head off used ring is w =
      let next_in = in_ring (z ∷ xs) ys (onward x) head off used ring w.2.1 w.2 in
      elim (before_at ys x head (onward head) head next_in.0 (onward x) (inl is) used refl ring next_in.1 refl) [
        | inl same ↦ absurd (true_false (on x) is (ap on same ∙ off))
        | inr found ↦ found
      ]

-- a walk from a linked place ends at a linked one
walk_used : (nodes all : ℕ) (onward back : ℕ → ℕ) (on : ℕ → Bool) → Undo nodes all onward back on → (xs : List ℕ) (b t : ℕ) → Used nodes all on b → Walk onward on b xs t → Used nodes all on t
walk_used nodes all onward back on undo [] b t used w = subst (Used nodes all on) w.0 used
walk_used nodes all onward back on undo (x ∷ xs) b t used w = walk_used nodes all onward back on undo xs (onward b) t (undo b used).0 w.2

head_below : (nodes all t : ℕ) (on : ℕ → Bool) → on t ≡ false → Used nodes all on t → t < all
head_below nodes all t on off (inl is) = absurd (true_false (on t) is off)
head_below nodes all t on off (inr far) = far.1

walk_off : (onward : ℕ → ℕ) (on : ℕ → Bool) (xs : List ℕ) (b t : ℕ) → Walk onward on b xs t → on t ≡ false
walk_off onward on [] b t w = subst (λ a. on a ≡ false) w.0 w.1
walk_off onward on (x ∷ xs) b t w = walk_off onward on xs (onward b) t w.2

-- a live node is in a queue that there is
pub stands_somewhere : (ns : List Node) (c k v free : ℕ) → IsLinked ns c k v free → (a : ℕ) (h : Held) → slice_get (held_in c ns) a ≡ Some (Some h)
    → (q i : ℕ) × ((q < k) × (slice_get (slice_index_or (spread (queue_of ns c) c k) q []) i ≡ Some a))
stands_somewhere ns c k v free was a h e =
    let is = held_live c ns a h e in
    let end = was.ring.ends a is in
    let head = end.1.0 in
    let low = end.1.1.0 in
    let w = end.1.1.1 in
    let off : live ns head ≡ false = walk_off (next ns) (live ns) end.0 a head w in
    let bound : head < c + k = head_below c (c + k) head (live ns) off (walk_used c (c + k) (next ns) (prev ns) (live ns) was.ring.onward end.0 a head (inl is) w) in
    let there = in_ring c (c + k) (next ns) (prev ns) (live ns) was.ring.onward end.0 (queue_of ns c head) a head off (inr (low, bound)) (queue_is ns c k v free was head low bound) is w in
    let few : head - c < k = omega (arith, low, bound) in
    let back : c + (head - c) ≡ head = omega (arith, low) in
    (head - c, there.0, (few, ap (λ (l : List ℕ). slice_get l there.0) (spread_at (queue_of ns c) c k (head - c) few ∙ ap (queue_of ns c) back) ∙ there.1))
