-- The free nodes, each of which leads to the next.
use Rattle.std.proofs.Common.{◌≡◌, ◌≢◌, ℕ, suc, ◌<◌, inl, inr, true, false, ◌||◌, eqb, List, [], ◌∷◌, length, refl, sym, ◌∙◌, ap, subst, arith}
use Rattle.std.specs.List.{list_any}
use Rattle.std.proofs.lemmas.Bool.Decides.{eqb_tells}
use Rattle.request_arena.specs.declared.node.Node.{Node}
use Rattle.request_arena.specs.Linked.{Stack}
use Rattle.request_arena.specs.Nodes.{next, live}
use Rattle.request_arena.proofs.Walks.{true_false}

-- they stay free ones where none of them was written to but n, which is none of them
pub stack_kept : (ns ms : List Node) (c n : ℕ) → ((a : ℕ) → a < c → live ns a ≡ false → a ≢ n → (next ms a ≡ next ns a) × (live ms a ≡ false))
    → (xs : List ℕ) (v : ℕ) → list_any (eqb n) xs ≡ false → Stack ns c v xs → Stack ms c v xs
stack_kept ns ms c n same [] v apart w = tt
stack_kept ns ms c n same (x ∷ xs) v apart w = elim (eqb_tells n x) [
  | inl is ↦ absurd (true_false (eqb n x || list_any (eqb n) xs) (ap (λ b. b || list_any (eqb n) xs) is.0) apart)
  | inr is ↦ let kept = same x w.1 w.2 (λ e. is.1 (sym e)) in let more : list_any (eqb n) xs ≡ false = sym (ap (λ b. b || list_any (eqb n) xs) is.0) ∙ apart in
      (w.0, w.1, kept.1, w.3, subst (λ b. Stack ms c b xs) (sym kept.0) (stack_kept ns ms c n same xs (next ns x) more w.4))
]

pub stack_same : (ns ms : List Node) (c : ℕ) → ((a : ℕ) → next ms a ≡ next ns a) → ((a : ℕ) → live ms a ≡ live ns a) → (xs : List ℕ) (v : ℕ) → Stack ns c v xs → Stack ms c v xs
stack_same ns ms c nexts lives [] v w = tt
stack_same ns ms c nexts lives (x ∷ xs) v w = (w.0, w.1, lives x ∙ w.2, w.3, subst (λ b. Stack ms c b xs) (sym (nexts x)) (stack_same ns ms c nexts lives xs (next ns x) w.4))

-- a live node is none of them
pub live_is_none : (ns : List Node) (c x : ℕ) → live ns x ≡ true → (xs : List ℕ) (v : ℕ) → Stack ns c v xs → list_any (eqb x) xs ≡ false
live_is_none ns c x on [] v w = refl
live_is_none ns c x on (y ∷ ys) v w = elim (eqb_tells x y) [
  | inl is ↦ absurd (true_false (live ns x) on (subst (λ b. live ns b ≡ false) (sym is.1) w.2))
  | inr is ↦ ap (λ b. b || list_any (eqb x) ys) is.0 ∙ live_is_none ns c x on ys (next ns y) w.4
]

-- the first of them, and the rest
pub record Top (ns : List Node) (c v m : ℕ) (rest : List ℕ) : Type 0 where
  pub room : v < c
  pub off : live ns v ≡ false
  pub apart : list_any (eqb v) rest ≡ false
  pub stack : Stack ns c (next ns v) rest
  pub many : length rest ≡ m

pub top_of : (ns : List Node) (c v m : ℕ) (fs : List ℕ) → Stack ns c v fs → length fs ≡ suc m → (rest : List ℕ) × Top ns c v m rest
top_of ns c v m [] w e = absurd (omega (arith, e))
top_of ns c v m (x ∷ xs) w e =
    let first : x ≡ v = sym w.0 in
    (xs, subst (λ b. Top ns c b m xs) first (record { room = w.1; off = w.2; apart = w.3; stack = w.4; many = omega (arith, e) }))
