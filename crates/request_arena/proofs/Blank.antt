-- The block as it is laid out: each node is free and leads to the next place, and each head leads to itself.
use Rattle.std.proofs.Common.{◌≡◌, ℕ, zero, suc, ◌+◌, ◌<◌, ◌≤◌, ◌^◌, inl, inr, Bool, false, cond, ◌||◌, eqb, List, [], ◌∷◌, length, replicate, Some, None, slice_get, refl, sym, ◌∙◌, ap, subst, arith}
use Rattle.std.specs.List.{list_any}
use Rattle.std.proofs.lemmas.Bool.Decides.{eqb_tells}
use Rattle.request_arena.specs.declared.node.Node.{Node}
use Rattle.request_arena.specs.Following.{follow}
use Rattle.request_arena.specs.Linked.{spread, held_in, queue_of, Stack, IsLinked}
use Rattle.request_arena.specs.Lists.{free_nodes}
use Rattle.request_arena.specs.Nodes.{next, prev, live, next_of, prev_of}
use Rattle.request_arena.specs.Places.{fresh, at_place, tabulated, laid}
use Rattle.request_arena.specs.Walks.{Used}
use Rattle.request_arena.proofs.Walks.{true_false}
use Rattle.request_arena.proofs.Places.{tabulated_length, at_blank, laid_blank, laid_get}

all_free : (c : ℕ) → free_nodes (replicate c None) ≡ c
all_free zero = refl
all_free (suc c) = ap suc (all_free c)

-- ---- the layout

abbrev count_up : ℕ → ℕ → List ℕ
count_up v zero = []
count_up v (suc k) = v ∷ count_up (suc v) k

counted : (v k : ℕ) → length (count_up v k) ≡ k
counted v zero = refl
counted v (suc k) = ap suc (counted (suc v) k)

less_is_none : (x v k : ℕ) → x < v → list_any (eqb x) (count_up v k) ≡ false
less_is_none x v zero less = refl
less_is_none x v (suc k) less = elim (eqb_tells x v) [
  | inr z ↦ ap (λ b. b || list_any (eqb x) (count_up (suc v) k)) z.0 ∙ less_is_none x (suc v) k (omega (arith, less))
  | inl is ↦ absurd (omega (arith, is.1, less))
]

nothing_followed : (onward : ℕ → ℕ) (on : ℕ → Bool) → ((a : ℕ) → on a ≡ false) → (most a : ℕ) → follow onward on most a ≡ []
nothing_followed onward on dead zero a = refl
nothing_followed onward on dead (suc most) a = ap (λ b. cond b (a ∷ follow onward on most (onward a)) []) (dead a)

module _ (ns : List Node) (dead : (a : ℕ) → live ns a ≡ false) where
  pub empty_queues : (c h k : ℕ) → spread (queue_of ns c) h k ≡ replicate k []
  empty_queues c h zero = refl
  empty_queues c h (suc k) = (λ i. nothing_followed (next ns) (live ns) dead c (next ns h) i ∷ empty_queues c (suc h) k i)

  module _ (c : ℕ) (low : (a : ℕ) → a < c → next ns a ≡ a + 1) where
    counted_up : (v k : ℕ) → v + k ≡ c → Stack ns c v (count_up v k)
    counted_up v zero sum = tt
    counted_up v (suc k) sum =
        let to : suc v ≡ next ns v = omega (arith, low v (omega (arith, sum))) in
        (refl, omega (arith, sum), dead v, less_is_none v (suc v) k (omega arith), subst (λ n. Stack ns c n (count_up (suc v) k)) to (counted_up (suc v) k (omega (arith, sum))))

    pub linked_first : (k : ℕ) → c + k < 2 ^ 30 → length ns ≡ c + k → ((a : ℕ) → c ≤ a → a < c + k → next ns a ≡ a) → ((a : ℕ) → a < c + k → prev ns a ≡ a)
        → held_in c ns ≡ replicate c None → IsLinked ns c k 0 c
    linked_first k fits long high back held = record {
      long = long;
      fits = fits;
      ring = record {
        low = λ x on. absurd (true_false (live ns x) on (dead x));
        onward = λ x used. elim used [
          | inr far ↦ let to = high x far.0 far.1 in (subst (λ b. Used c (c + k) (live ns) b) (sym to) (inr far), ap (prev ns) to ∙ back x far.1)
          | inl on ↦ absurd (true_false (live ns x) on (dead x))
        ];
        back = λ x used. elim used [
          | inr far ↦ let from = back x far.1 in (subst (λ b. Used c (c + k) (live ns) b) (sym from) (inr far), ap (next ns) from ∙ high x far.0 far.1)
          | inl on ↦ absurd (true_false (live ns x) on (dead x))
        ];
        rings = λ h far near. ([], (high h far near, dead (next ns h)));
        ends = λ x on. absurd (true_false (live ns x) on (dead x));
      };
      stack = (count_up 0 c, (counted_up 0 c (omega arith), counted 0 c));
      count = ap free_nodes held ∙ all_free c;
    }

-- ---- places that hold nothing

all_dead : (c h k a : ℕ) → live (tabulated (fresh c) h k) a ≡ false
all_dead c h zero a = refl
all_dead c h (suc k) zero = refl
all_dead c h (suc k) (suc a) = all_dead c (suc h) k a

held_none : (c h n k : ℕ) → n ≤ k → held_in n (tabulated (fresh c) h k) ≡ replicate n None
held_none c h zero k p = refl
held_none c h (suc n) zero p = absurd (omega (arith, p))
held_none c h (suc n) (suc k) p = ap (λ l. None ∷ l) (held_none c (suc h) n k (omega (arith, p)))

-- ---- the block to which nothing was written

module _ (c k : ℕ) where
  abbrev blank : List Node
  blank = laid c k []

  blank_long : length blank ≡ c + k
  blank_long = tabulated_length (at_place c []) 0 (c + k)

  blank_at : (a : ℕ) → a < c + k → slice_get blank a ≡ Some (fresh c a)
  blank_at a p = laid_get c k [] a (omega (arith, p, blank_long)) ∙ ap Some (at_blank c a)

  blank_low : (a : ℕ) → a < c → next blank a ≡ a + 1
  blank_low a p = ap next_of (blank_at a (omega (arith, p))) ∙ grind (arith, p)

  blank_high : (a : ℕ) → c ≤ a → a < c + k → next blank a ≡ a
  blank_high a q p = ap next_of (blank_at a p) ∙ grind (arith, q)

  blank_back : (a : ℕ) → a < c + k → prev blank a ≡ a
  blank_back a p = ap prev_of (blank_at a p)

  pub blank_dead : (a : ℕ) → live blank a ≡ false
  blank_dead a = ap (λ l. live l a) (laid_blank c k) ∙ all_dead c 0 (c + k) a

  pub blank_held : held_in c blank ≡ replicate c None
  blank_held = ap (held_in c) (laid_blank c k) ∙ held_none c 0 c (c + k) (omega arith)

  pub blank_linked : c + k < 2 ^ 30 → IsLinked blank c k 0 c
  blank_linked fits = linked_first blank blank_dead c blank_low k fits blank_long blank_high blank_back blank_held
