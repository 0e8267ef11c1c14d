-- What the views of all passes have, before and after one of them changes.
use Rattle.std.proofs.Common.{◌≡◌, ◌≢◌, ℕ, zero, suc, ◌+◌, ◌≤◌, ◌<◌, true, cond, List, [], ◌∷◌, ◌++◌, set, refl, sym, ap, ◌∙◌, subst, ⊎_elim, arith}
use mathlib.Core.Option.{some, some-injective, some-ne-none}
use lib.ListN.{get_elem?}
use Rattle.crossbeam_queue.proofs.Lists.{at_set, at_snoc}
use Rattle.std.proofs.lemmas.Bool.{eq-eqb}
use Rattle.batch_items.specs.declared.item.Item.{Item}
use Rattle.intake.specs.declared.view.History.{History}
use Rattle.intake.specs.declared.view.View.{View}
use Rattle.intake.specs.Histories.{from_client, numbered, HasAll, first_of, rest_of}
use Rattle.intake.specs.Rule.{times, total, drawers, AreTrue}

none_two : (a b n : ℕ) → a ≡ 1 → b ≡ 1 → a + b ≤ n → n ≤ 1 → ⊥
none_two a b n x y h l = omega arith

none_some : (n : ℕ) → n ≡ 0 → 0 < n → ⊥
none_some n e h = omega arith

module _ {Q : Type 0} where
  abbrev pub AllAt : (View Q → Type 0) → List (View Q) → Type 0
  AllAt F views = (pass : ℕ) (v : View Q) → get_elem? views pass ≡ some v → F v

  pub total_set : (f : View Q → ℕ) (views : List (View Q)) (pass : ℕ) (v w : View Q) → get_elem? views pass ≡ some v → total f (set views pass w) + f v ≡ total f views + f w
  total_set f [] pass v w at = absurd (some-ne-none v (sym at))
  total_set f (x ∷ xs) zero v w at = let e : f x ≡ f v = ap f (some-injective x v at) in omega arith
  total_set f (x ∷ xs) (suc pass) v w at = let e = total_set f xs pass v w at in omega arith

  pub total_snoc : (f : View Q → ℕ) (views : List (View Q)) (w : View Q) → total f (views ++ w ∷ []) ≡ total f views + f w
  total_snoc f [] w = omega arith
  total_snoc f (x ∷ xs) w = let e = total_snoc f xs w in omega arith

  pub total_at : (f : View Q → ℕ) (views : List (View Q)) (pass : ℕ) (v : View Q) → get_elem? views pass ≡ some v → f v ≤ total f views
  total_at f [] pass v at = absurd (some-ne-none v (sym at))
  total_at f (x ∷ xs) zero v at = let e : f x ≡ f v = ap f (some-injective x v at) in omega arith
  total_at f (x ∷ xs) (suc pass) v at = let e = total_at f xs pass v at in omega arith

  pub total_two : (f : View Q → ℕ) (views : List (View Q)) (i j : ℕ) (v u : View Q) → get_elem? views i ≡ some v → get_elem? views j ≡ some u → (j ≡ i → ⊥) → f v + f u ≤ total f views
  total_two f [] i j v u at at' apart = absurd (some-ne-none v (sym at))
  total_two f (x ∷ xs) zero zero v u at at' apart = absurd (apart refl)
  total_two f (x ∷ xs) zero (suc j) v u at at' apart = let e : f x ≡ f v = ap f (some-injective x v at) in let m = total_at f xs j u at' in omega arith
  total_two f (x ∷ xs) (suc i) zero v u at at' apart = let e : f x ≡ f u = ap f (some-injective x u at') in let m = total_at f xs i v at in omega arith
  total_two f (x ∷ xs) (suc i) (suc j) v u at at' apart = let m = total_two f xs i j v u at at' (λ e. apart (ap suc e)) in omega arith

  pub all_set : (F : View Q → Type 0) (views : List (View Q)) (pass : ℕ) (w : View Q) → F w → ((j : ℕ) (u : View Q) → j ≢ pass → get_elem? views j ≡ some u → F u) → AllAt F (set views pass w)
  all_set F views pass w mine others j u at = ⊎_elim (λ (t : (j ≡ pass) × (w ≡ u)). subst F t.1 mine) (λ (t : (j ≢ pass) × (get_elem? views j ≡ some u)). others j u t.0 t.1) (at_set views pass j w u at)

  pub all_one : (F : View Q → Type 0) (v : View Q) → F v → AllAt F (v ∷ [])
  all_one F v h zero u at = subst F (some-injective v u at) h
  all_one F v h (suc j) u at = absurd (some-ne-none u (sym at))

  pub all_snoc : (F : View Q → Type 0) (views : List (View Q)) (w : View Q) → AllAt F views → F w → AllAt F (views ++ w ∷ [])
  all_snoc F views w old new j u at = ⊎_elim (λ (t : get_elem? views j ≡ some u). old j u t) (λ (t : w ≡ u). subst F t new) (at_snoc views w u j at)

  times-own : (p : ℕ) (x : History Q) (xs : List (History Q)) → x.client ≡ p → 0 < times p (x ∷ xs)
  times-own p x xs e = rw (eq-eqb x.client p e) (omega arith)

  times-rest : (p : ℕ) (x : History Q) (xs : List (History Q)) → times p (x ∷ xs) ≡ 0 → times p xs ≡ 0
  times-rest p x xs e = omega (arith, e)

  pub times-append : (p : ℕ) (xs ys : List (History Q)) → times p (xs ++ ys) ≡ times p xs + times p ys
  times-append p [] ys = omega arith
  times-append p (x ∷ xs) ys = omega (arith, times-append p xs ys)

  pub times-split : (p : ℕ) (hs : List (History Q)) → times p (rest_of hs) + times p (first_of hs) ≡ times p hs
  times-split p [] = refl
  times-split p (x ∷ xs) = omega arith

  -- a client whose history is the first of these, and among them once at most
  pub times-alone : (p : ℕ) (x : History Q) (xs : List (History Q)) (n : ℕ) → x.client ≡ p → times p (x ∷ xs) ≤ n → n ≤ 1 → times p xs ≡ 0
  times-alone p x xs n e = rw (eq-eqb x.client p e) (λ a b. omega arith)

  -- a client whose history is the first of these isn't among others, if it is among all once at most
  pub times-other : (p : ℕ) (x : History Q) (xs : List (History Q)) (m n : ℕ) → x.client ≡ p → times p (x ∷ xs) + m ≤ n → n ≤ 1 → m ≡ 0
  times-other p x xs m n e = rw (eq-eqb x.client p e) (λ a b. omega arith)

  pub drawers-one : (v : View Q) → v.draws ≡ true → drawers v ≡ 1
  drawers-one v e = ap (λ b. cond b 1 0) e

  pub two_drawers : (v u : View Q) (n : ℕ) → v.draws ≡ true → u.draws ≡ true → drawers v + drawers u ≤ n → n ≤ 1 → ⊥
  two_drawers v u n a b h l = none_two (drawers v) (drawers u) n (drawers-one v a) (drawers-one u b) h l

  pub true-first : (sent : ℕ → List Q) (hs : List (History Q)) → AreTrue sent hs → AreTrue sent (first_of hs)
  true-first sent [] h = tt
  true-first sent (x ∷ xs) h = (h.0, h.1, h.2, tt)

  pub true-rest : (sent : ℕ → List Q) (hs : List (History Q)) → AreTrue sent hs → AreTrue sent (rest_of hs)
  true-rest sent [] h = tt
  true-rest sent (x ∷ xs) h = h.3

  -- the histories stay true where another client's grows
  pub true-more : (sent more : ℕ → List Q) (p : ℕ) (hs : List (History Q)) → times p hs ≡ 0 → ((k : ℕ) → (k ≡ p → ⊥) → more k ≡ sent k) → AreTrue sent hs → AreTrue more hs
  true-more sent more p [] none same h = tt
  true-more sent more p (x ∷ xs) none same h =
      let apart : x.client ≡ p → ⊥ = λ e. none_some (times p (x ∷ xs)) none (times-own p x xs e) in
      (h.0, h.1, h.2 ∙ sym (same x.client apart), true-more sent more p xs (times-rest p x xs none) same h.3)

  pub true-append : (sent : ℕ → List Q) (hs ks : List (History Q)) → AreTrue sent hs → AreTrue sent ks → AreTrue sent (hs ++ ks)
  true-append sent [] ks a b = b
  true-append sent (x ∷ xs) ks a b = (a.0, a.1, a.2, true-append sent xs ks a.3 b)

  -- what is true of the log is what it has
  pub true_has : (sent : ℕ → List Q) (log : List (Item Q)) (hs : List (History Q)) → ((k : ℕ) → from_client k log ≡ numbered k 0 (sent k)) → AreTrue sent hs → HasAll log hs
  true_has sent log [] logged h = tt
  true_has sent log (x ∷ xs) logged h = (logged x.client ∙ ap (λ l. numbered x.client 0 l) (sym h.2), true_has sent log xs logged h.3)
