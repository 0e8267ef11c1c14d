-- The lists of queues, one a head.
use Rattle.std.proofs.Common.{◌≡◌, ◌≢◌, ℕ, zero, suc, ◌+◌, ◌<◌, ◌≤◌, List, [], ◌∷◌, length, slice_set, slice_index_or, map, refl, sym, ◌∙◌, ap, subst, arith}
use Rattle.request_arena.specs.declared.node.Node.{Node}
use Rattle.request_arena.specs.Linked.{spread, queue_of, lists_of}
use Rattle.request_arena.specs.Lists.{Lists}

module _ (f g : ℕ → List ℕ) where
  -- each list is changed in the same way
  pub spread_map : (u : List ℕ → List ℕ) (h k : ℕ) → ((j : ℕ) → h ≤ j → j < h + k → g j ≡ u (f j)) → spread g h k ≡ map u (spread f h k)
  spread_map u h zero each = refl
  spread_map u h (suc k) each =
      let here = each h (omega arith) (omega arith) in let more = spread_map u (suc h) k (λ j low high. each j (omega (arith, low)) (omega (arith, high))) in (λ i. here i ∷ more i)

  pub spread_same : (h k : ℕ) → ((j : ℕ) → h ≤ j → j < h + k → g j ≡ f j) → spread g h k ≡ spread f h k
  spread_same h zero each = refl
  spread_same h (suc k) each =
      let here = each h (omega arith) (omega arith) in let more = spread_same (suc h) k (λ j low high. each j (omega (arith, low)) (omega (arith, high))) in (λ i. here i ∷ more i)

  -- one list is another, and the rest are as they were
  pub spread_set : (h k q : ℕ) → q < k → ((j : ℕ) → h ≤ j → j < h + k → j ≢ h + q → g j ≡ f j) → spread g h k ≡ slice_set (spread f h k) q (g (h + q))
  spread_set h zero q less each = absurd (omega (arith, less))
  spread_set h (suc k) zero less each =
      let more = spread_same (suc h) k (λ j low high. each j (omega (arith, low)) (omega (arith, high)) (λ e. omega (arith, e, low))) in
      let at : h ≡ h + 0 = omega arith in (λ i. g (at i) ∷ more i)
  spread_set h (suc k) (suc q) less each =
      let here = each h (omega arith) (omega arith) (λ e. omega (arith, e)) in
      let more = spread_set (suc h) k q (omega (arith, less)) (λ j low high z. each j (omega (arith, low)) (omega (arith, high)) (λ e. z (omega (arith, e)))) in
      let at : suc h + q ≡ h + suc q = omega arith in (λ i. here i ∷ (more ∙ ap (λ j. slice_set (spread f (suc h) k) q (g j)) at) i)

pub spread_at : (f : ℕ → List ℕ) (h k q : ℕ) → q < k → slice_index_or (spread f h k) q [] ≡ f (h + q)
spread_at f h zero q less = absurd (omega (arith, less))
spread_at f h (suc k) zero less = let at : h ≡ h + 0 = omega arith in ap f at
spread_at f h (suc k) (suc q) less = let at : suc h + q ≡ h + suc q = omega arith in spread_at f (suc h) k q (omega (arith, less)) ∙ ap f at

pub spread_long : (f : ℕ → List ℕ) (h k : ℕ) → length (spread f h k) ≡ k
spread_long f h zero = refl
spread_long f h (suc k) = ap suc (spread_long f (suc h) k)

-- the numbers of queues are those below k
pub queue_in : (ns : List Node) (c k q : ℕ) (now : Lists) → lists_of ns c k ≡ now → q < length now.queues → q < k
queue_in ns c k q now e less = subst (λ n. q < n) (ap (λ (l : Lists). length l.queues) (sym e) ∙ spread_long (queue_of ns c) c k) less
