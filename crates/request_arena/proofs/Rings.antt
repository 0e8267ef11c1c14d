-- A place leaves a ring, or enters one: what its neighbours' links are then, and that the rings stay rings.
use Rattle.std.proofs.Common.{◌≡◌, ◌≢◌, ℕ, ◌<◌, ◌≤◌, ◌⊎◌, inl, inr, Bool, true, false, List, [], ◌∷◌, ◌++◌, refl, sym, ◌∙◌, ap, subst, arith}
use Rattle.request_arena.specs.Following.{without}
use Rattle.request_arena.specs.Walks.{Walk, Used, Undo, IsRing}
use Rattle.request_arena.proofs.Walks.{cases, same_or_not, ends_there, true_false, no_loop, walk_round, walk_longer, walk_kept}

-- x leaves: b and f, which were before it and after it, lead to each other, and x is live no more
pub record Leaves (next prev : ℕ → ℕ) (live : ℕ → Bool) (x b f : ℕ) (next2 prev2 : ℕ → ℕ) (live2 : ℕ → Bool) : Type 0 where
  pub next_at : (a : ℕ) → a ≡ b → next2 a ≡ f
  pub next_else : (a : ℕ) → a ≢ x → a ≢ b → next2 a ≡ next a
  pub prev_at : (a : ℕ) → a ≡ f → prev2 a ≡ b
  pub prev_else : (a : ℕ) → a ≢ x → a ≢ f → prev2 a ≡ prev a
  pub live_at : live2 x ≡ false
  pub live_else : (a : ℕ) → a ≢ x → live2 a ≡ live a

-- n, which is live from then on, enters between l and s
pub record Enters (next prev : ℕ → ℕ) (live : ℕ → Bool) (n l s : ℕ) (next2 prev2 : ℕ → ℕ) (live2 : ℕ → Bool) : Type 0 where
  pub next_at : (a : ℕ) → a ≡ l → next2 a ≡ n
  pub next_new : next2 n ≡ s
  pub next_else : (a : ℕ) → a ≢ n → a ≢ l → next2 a ≡ next a
  pub prev_at : (a : ℕ) → a ≡ s → prev2 a ≡ n
  pub prev_new : prev2 n ≡ l
  pub prev_else : (a : ℕ) → a ≢ n → a ≢ s → prev2 a ≡ prev a
  pub live_at : live2 n ≡ true
  pub live_else : (a : ℕ) → a ≢ n → live2 a ≡ live a

-- ---- both ways alike: each of these is used for `next` and `prev`, and once more with the two exchanged

module _ (c e : ℕ) (there back : ℕ → ℕ) (live : ℕ → Bool) (undo : Undo c e there back live) where
  module _ (x b f : ℕ) (mine : Used c e live x) (is_f : f ≡ there x) (is_b : b ≡ back x) (far : f ≢ x) (there2 back2 : ℕ → ℕ) (live2 : ℕ → Bool)
      (step : Leaves there back live x b f there2 back2 live2) (other : (a : ℕ) → Used c e live2 a → a ≢ x) where
    stays : (a : ℕ) → a ≢ x → Used c e live a → Used c e live2 a
    stays a z (inl on) = inl (step.live_else a z ∙ on)
    stays a z (inr head) = inr head

    was_used : (a : ℕ) → Used c e live2 a → Used c e live a
    was_used a (inl on) = inl (sym (step.live_else a (other a (inl on))) ∙ on)
    was_used a (inr head) = inr head

    -- what leads to x is before it, and what leads to f is x
    leads_to_x : (a : ℕ) → Used c e live a → there a ≡ x → a ≡ b
    leads_to_x a used to = sym (undo a used).1 ∙ ap back to ∙ sym is_b

    leads_to_f : (a : ℕ) → Used c e live a → there a ≡ f → a ≡ x
    leads_to_f a used to = sym (undo a used).1 ∙ ap back (to ∙ is_f) ∙ (undo x mine).1

    pub undo_left : Undo c e there2 back2 live2
    undo_left a used = elim (same_or_not a b) [
      | inl is ↦ subst (λ n. Used c e live2 n × (back2 n ≡ a)) (sym (step.next_at a is)) (stays f far (subst (Used c e live) (sym is_f) (undo x mine).0), step.prev_at f refl ∙ sym is)
      | inr z ↦ let was = was_used a used in
          let not_x : there a ≢ x = λ to. z (leads_to_x a was to) in let not_f : there a ≢ f = λ to. other a used (leads_to_f a was to) in
          subst (λ n. Used c e live2 n × (back2 n ≡ a)) (sym (step.next_else a (other a used) z)) (stays (there a) not_x (undo a was).0, step.prev_else (there a) not_x not_f ∙ (undo a was).1)
    ]

  module _ (n l s : ℕ) (link : back s ≡ l) (end : Used c e live s) (new : (a : ℕ) → Used c e live a → a ≢ n) (there2 back2 : ℕ → ℕ) (live2 : ℕ → Bool)
      (step : Enters there back live n l s there2 back2 live2) where
    stays_in : (a : ℕ) → Used c e live a → Used c e live2 a
    stays_in a (inl on) = inl (step.live_else a (new a (inl on)) ∙ on)
    stays_in a (inr head) = inr head

    pub new_or_was : (a : ℕ) → Used c e live2 a → (a ≡ n) ⊎ Used c e live a
    new_or_was a (inr head) = inr (inr head)
    new_or_was a (inl on) = elim (same_or_not a n) [ inl is ↦ inl is | inr z ↦ inr (inl (sym (step.live_else a z) ∙ on)) ]

    -- only l leads to s
    pub leads_to_s : (a : ℕ) → Used c e live a → there a ≡ s → a ≡ l
    leads_to_s a used to = sym (undo a used).1 ∙ ap back to ∙ link

    pub undo_entered : Undo c e there2 back2 live2
    undo_entered a used = elim (new_or_was a used) [
      | inl is ↦ subst (λ m. Used c e live2 m × (back2 m ≡ a)) (sym (ap there2 is ∙ step.next_new)) (stays_in s end, step.prev_at s refl ∙ sym is)
      | inr was ↦ elim (same_or_not a l) [
        | inl is ↦ subst (λ m. Used c e live2 m × (back2 m ≡ a)) (sym (step.next_at a is)) (inl step.live_at, step.prev_new ∙ sym is)
        | inr z ↦ let on = undo a was in
            subst (λ m. Used c e live2 m × (back2 m ≡ a)) (sym (step.next_else a (new a was) z))
            (stays_in (there a) on.0, step.prev_else (there a) (new (there a) on.0) (λ to. z (leads_to_s a was to)) ∙ on.1)
      ]
    ]

module _ (next prev : ℕ → ℕ) (live : ℕ → Bool) (next2 prev2 : ℕ → ℕ) (live2 : ℕ → Bool) where
  leaves_back : (x b f : ℕ) → Leaves next prev live x b f next2 prev2 live2 → Leaves prev next live x f b prev2 next2 live2
  leaves_back x b f step = record {
    next_at = step.prev_at;
    next_else = step.prev_else;
    prev_at = step.next_at;
    prev_else = step.next_else;
    live_at = step.live_at;
    live_else = step.live_else;
  }

  enters_back : (n l s : ℕ) → Enters next prev live n l s next2 prev2 live2 → Enters prev next live n s l prev2 next2 live2
  enters_back n l s step = record {
    next_at = step.prev_at;
    next_new = step.prev_new;
    next_else = step.prev_else;
    prev_at = step.next_at;
    prev_new = step.next_new;
    prev_else = step.next_else;
    live_at = step.live_at;
    live_else = step.live_else;
  }

-- ---- rings

module _ (c e : ℕ) (next prev : ℕ → ℕ) (live : ℕ → Bool) (was : IsRing c e next prev live) where
  -- a head is not live
  head_dead : (h : ℕ) → c ≤ h → live h ≡ false
  head_dead h far = elim (cases (live h)) [ inr off ↦ off | inl on ↦ absurd (omega (arith, far, was.low h on)) ]

  -- no live place is its own neighbour
  pub no_self : (x : ℕ) → live x ≡ true → (next x ≢ x) × (prev x ≢ x)
  no_self x on =
      let w = was.ends x on in let apart = no_loop next live w.0 x w.1.0 on w.1.1.1 in (apart, λ z. apart (ap next (sym z) ∙ (was.back x (inl on)).1))

  module _ (x : ℕ) (on : live x ≡ true) (next2 prev2 : ℕ → ℕ) (live2 : ℕ → Bool) (step : Leaves next prev live x (prev x) (next x) next2 prev2 live2) where
    gone : (a : ℕ) → live2 a ≡ true → a ≢ x
    gone a h z = true_false (live2 a) h (ap live2 z ∙ step.live_at)

    not_gone : (a : ℕ) → Used c e live2 a → a ≢ x
    not_gone a (inl h) = gone a h
    not_gone a (inr head) = λ z. omega (arith, was.low x on, z, head.0)

    -- of the places that lead on, one that led to x leads to what was after it, and any other where it led
    hop : (a : ℕ) → Used c e live a → next a ≡ x → next2 a ≡ next x
    hop a used to = step.next_at a (sym (was.onward a used).1 ∙ ap prev to)

    same : (a : ℕ) → Used c e live a → a ≢ x → next a ≢ x → next2 a ≡ next a
    same a used z to = step.next_else a z (λ is. to (ap next is ∙ (was.back x (inl on)).1))

    round : (xs : List ℕ) (a t : ℕ) → Walk next live a xs t → (a ≢ x → Walk next2 live2 a (without x xs) t) × (a ≡ x → Walk next2 live2 (next x) (without x xs) t)
    round = walk_round next next2 live live2 x on (no_self x on).0 (λ a h z to. hop a (inl h) to) (λ a h z to. same a (inl h) z to) step.live_else

    -- each queue is as it was, without x
    pub ring_round : (h : ℕ) → c ≤ h → h < e → (xs : List ℕ) → Walk next live (next h) xs h → Walk next2 live2 (next2 h) (without x xs) h
    ring_round h low high xs w = elim (same_or_not (next h) x) [
      | inl to ↦ subst (λ n. Walk next2 live2 n (without x xs) h) (sym (hop h (inr (low, high)) to)) ((round xs (next h) h w).1 to)
      | inr z ↦ subst (λ n. Walk next2 live2 n (without x xs) h) (sym (same h (inr (low, high)) (not_gone h (inr (low, high))) z)) ((round xs (next h) h w).0 z)
    ]

    pub ring_removed : IsRing c e next2 prev2 live2
    ring_removed = record {
      low = λ a h. was.low a (sym (step.live_else a (gone a h)) ∙ h);
      onward = undo_left c e next prev live was.onward x (prev x) (next x) (inl on) refl refl (no_self x on).0 next2 prev2 live2 step not_gone;
      back = undo_left c e prev next live was.back x (next x) (prev x) (inl on) refl refl (no_self x on).1 prev2 next2 live2 (leaves_back next prev live next2 prev2 live2 x (prev x) (next x) step) not_gone;
      rings = λ h low high. let w = was.rings h low high in (without x w.0, ring_round h low high w.0 w.1);
      ends = λ a h. let z = gone a h in let w = was.ends a (sym (step.live_else a z) ∙ h) in (without x w.0, (w.1.0, (w.1.1.0, (round w.0 a w.1.0 w.1.1.1).0 z)));
    }

  module _ (n s : ℕ) (off : live n ≡ false) (room : n < c) (low : c ≤ s) (high : s < e) (next2 prev2 : ℕ → ℕ) (live2 : ℕ → Bool)
      (step : Enters next prev live n (prev s) s next2 prev2 live2) where
    head : Used c e live s
    head = inr (low, high)

    apart : s ≢ n
    apart z = omega (arith, z, low, room)

    new : (a : ℕ) → Used c e live a → a ≢ n
    new a (inl on) z = true_false (live a) on (ap live z ∙ off)
    new a (inr far) z = omega (arith, z, far.0, room)

    turns : (a : ℕ) → Used c e live a → next a ≡ s → next2 a ≡ n
    turns a used to = step.next_at a (sym (was.onward a used).1 ∙ ap prev to)

    goes_on : (a : ℕ) → Used c e live a → next a ≢ s → next2 a ≡ next a
    goes_on a used z = step.next_else a (new a used) (λ is. z (ap next is ∙ (was.back s head).1))

    longer : (xs : List ℕ) (a : ℕ) → Walk next live a xs s → (a ≢ s → Walk next2 live2 a (xs ++ n ∷ []) s) × (a ≡ s → Walk next2 live2 n (xs ++ n ∷ []) s)
    longer = walk_longer next next2 live live2 n s off (head_dead s low) apart step.live_at step.next_new (λ a on. turns a (inl on)) (λ a on. goes_on a (inl on)) step.live_else

    kept : (xs : List ℕ) (a t : ℕ) → t ≢ s → t ≢ n → Walk next live a xs t → Walk next2 live2 a xs t
    kept = walk_kept next next2 live live2 n s off (head_dead s low) apart step.live_at step.next_new (λ a on. turns a (inl on)) (λ a on. goes_on a (inl on)) step.live_else

    -- the queue of s has n at its end
    pub ring_longer : (xs : List ℕ) → Walk next live (next s) xs s → Walk next2 live2 (next2 s) (xs ++ n ∷ []) s
    ring_longer xs w = elim (same_or_not (next s) s) [
      | inr z ↦ subst (λ a. Walk next2 live2 a (xs ++ n ∷ []) s) (sym (goes_on s head z)) ((longer xs (next s) w).0 z)
      | inl to ↦ subst (λ a. Walk next2 live2 a (xs ++ n ∷ []) s) (sym (turns s head to)) ((longer xs (next s) w).1 to)
    ]

    -- each other queue is as it was
    pub ring_kept : (h : ℕ) → c ≤ h → h < e → h ≢ s → (xs : List ℕ) → Walk next live (next h) xs h → Walk next2 live2 (next2 h) xs h
    ring_kept h far near z xs w =
        let elsewhere : next h ≢ s = λ to. ends_there next next2 live live2 n s off (head_dead s low) apart step.live_at step.next_new (λ a on. turns a (inl on)) (λ a on. goes_on a (inl on)) step.live_else
        xs (next h) h w to z in
        subst (λ a. Walk next2 live2 a xs h) (sym (goes_on h (inr (far, near)) elsewhere)) (kept xs (next h) h z (new h (inr (far, near))) w)

    queue_ends : (h : ℕ) → c ≤ h → h < e → (xs : List ℕ) → Walk next live (next h) xs h → (ys : List ℕ) × Walk next2 live2 (next2 h) ys h
    queue_ends h far near xs w = elim (same_or_not h s) [
      | inr z ↦ (xs, ring_kept h far near z xs w)
      | inl is ↦ (xs ++ n ∷ [], subst (λ a. Walk next2 live2 (next2 a) (xs ++ n ∷ []) a) (sym is) (ring_longer xs (subst (λ a. Walk next live (next a) xs a) is w)))
    ]

    new_ends : Walk next2 live2 n (n ∷ []) s
    new_ends = (refl, step.live_at, (step.next_new, ap live2 step.next_new ∙ step.live_else s apart ∙ head_dead s low))

    live_ends : (a : ℕ) → live a ≡ true → (xs : List ℕ) × ((h : ℕ) × ((c ≤ h) × Walk next2 live2 a xs h))
    live_ends a on =
        let w = was.ends a on in elim (same_or_not w.1.0 s) [
          | inr z ↦ (w.0, (w.1.0, (w.1.1.0, kept w.0 a w.1.0 z (λ y. omega (arith, y, w.1.1.0, room)) w.1.1.1)))
          | inl is ↦ let not_s : a ≢ s = λ z. true_false (live a) on (ap live z ∙ head_dead s low) in
              (w.0 ++ n ∷ [], (s, (low, (longer w.0 a (subst (λ h. Walk next live a w.0 h) is w.1.1.1)).0 not_s)))
        ]

    pub ring_pushed : IsRing c e next2 prev2 live2
    ring_pushed = record {
      low = λ a on. elim (same_or_not a n) [ inl is ↦ subst (λ b. b < c) (sym is) room | inr z ↦ was.low a (sym (step.live_else a z) ∙ on) ];
      onward = undo_entered c e next prev live was.onward n (prev s) s refl head new next2 prev2 live2 step;
      back = undo_entered c e prev next live was.back n s (prev s) (was.back s head).1 (was.back s head).0 new prev2 next2 live2 (enters_back next prev live next2 prev2 live2 n (prev s) s step);
      rings = λ h far near. let w = was.rings h far near in queue_ends h far near w.0 w.1;
      ends = λ a on. elim (same_or_not a n) [
        | inl is ↦ (n ∷ [], (s, (low, subst (λ b. Walk next2 live2 b (n ∷ []) s) (sym is) new_ends)))
        | inr z ↦ live_ends a (sym (step.live_else a z) ∙ on)
      ];
    }
