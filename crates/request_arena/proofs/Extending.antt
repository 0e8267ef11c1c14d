-- Walks along a chain that a node is put into or taken out of.
use Rattle.std.proofs.Common.{◌≡◌, ◌≢◌, ℕ, inl, inr, Bool, true, false, cond, ◌||◌, eqb, List, [], ◌∷◌, ◌++◌, refl, sym, ◌∙◌, ap, subst}
use Rattle.std.specs.List.{list_any}
use Rattle.std.proofs.lemmas.Bool.Decides.{eqb_tells}
use Rattle.request_arena.specs.Walks.{Walk}
use Rattle.request_arena.proofs.Walks.{true_false}

-- y right after t
abbrev pub extend : ℕ → ℕ → List ℕ → List ℕ
extend t y [] = []
extend t y (x ∷ xs) = cond (eqb x t) (x ∷ y ∷ xs) (x ∷ extend t y xs)

cond_cons : (b : Bool) (y : ℕ) (xs zs : List ℕ) → y ∷ cond b xs zs ≡ cond b (y ∷ xs) (y ∷ zs)
cond_cons true y xs zs = refl
cond_cons false y xs zs = refl

same_place : (t y : ℕ) → y ≡ t → eqb t y ≡ true
same_place t y e = elim (eqb_tells t y) [ inl k ↦ k.0 | inr k ↦ absurd (k.1 (sym e)) ]

other_place : (t y : ℕ) → y ≢ t → eqb t y ≡ false
other_place t y z = elim (eqb_tells t y) [ inl k ↦ absurd (z (sym k.1)) | inr k ↦ k.0 ]

module _ (next next2 : ℕ → ℕ) (live live2 : ℕ → Bool) (t n e : ℕ) (off : live n ≡ false) (end : live e ≡ false) (apart : e ≢ n) (last : next t ≡ e)
    (on : live2 n ≡ true) (to : next2 n ≡ e) (at : next2 t ≡ n)
    (same : (a : ℕ) → a ≢ n → a ≢ t → next2 a ≡ next a) (kept : (a : ℕ) → a ≢ n → live2 a ≡ live a) where
  not_n : (a : ℕ) → live a ≡ true → a ≢ n
  not_n a h z = true_false (live n) (subst (λ b. live b ≡ true) z h) off

  done : (xs : List ℕ) (a : ℕ) → Walk next live a xs e → a ≡ e → xs ≡ []
  done [] a w z = refl
  done (y ∷ ys) a w z = absurd (true_false (live e) (subst (λ b. live b ≡ true) z w.1) end)

  pub walk_extended : (xs : List ℕ) (a : ℕ) → Walk next live a xs e → Walk next2 live2 a (extend t n xs) e
  walk_extended [] a w = (w.0, kept a (λ z. apart (sym w.0 ∙ z)) ∙ w.1)
  walk_extended (y ∷ ys) a w = elim (eqb_tells y t) [
    | inl h ↦ let here : a ≡ t = w.0 ∙ h.1 in let none : ys ≡ [] = done ys (next a) w.2 (ap next here ∙ last) in
        let over : Walk next2 live2 n (n ∷ []) e = (refl, on, (to, subst (λ b. live2 b ≡ false) (sym to) (kept e apart ∙ end))) in
        let go : Walk next2 live2 (next2 a) (n ∷ ys) e = subst (λ b. Walk next2 live2 b (n ∷ ys) e) (sym (ap next2 here ∙ at)) (subst (λ zs. Walk next2 live2 n (n ∷ zs) e) (sym none) over) in
        subst (λ l. Walk next2 live2 a l e) (sym (ap (λ b. cond b (y ∷ n ∷ ys) (y ∷ extend t n ys)) h.0)) (w.0, kept a (not_n a w.1) ∙ w.1, go)
    | inr h ↦ let not_t : a ≢ t = λ z. h.1 (sym w.0 ∙ z) in
        let go = subst (λ b. Walk next2 live2 b (extend t n ys) e) (sym (same a (not_n a w.1) not_t)) (walk_extended ys (next a) w.2) in
        subst (λ l. Walk next2 live2 a l e) (sym (ap (λ b. cond b (y ∷ n ∷ ys) (y ∷ extend t n ys)) h.0)) (w.0, kept a (not_n a w.1) ∙ w.1, go)
  ]

  -- right after the last node of a chain is at its end
  pub extended_is : (xs : List ℕ) (a : ℕ) → Walk next live a xs e → extend t n xs ≡ cond (list_any (eqb t) xs) (xs ++ n ∷ []) xs
  extended_is [] a w = refl
  extended_is (y ∷ ys) a w = elim (eqb_tells y t) [
    | inl h ↦ let none : ys ≡ [] = done ys (next a) w.2 (ap next (w.0 ∙ h.1) ∙ last) in
        ap (λ b. cond b (y ∷ n ∷ ys) (y ∷ extend t n ys)) h.0 ∙ ap (λ (l : List ℕ). y ∷ n ∷ l) none ∙ sym (ap (λ (l : List ℕ). y ∷ (l ++ n ∷ [])) none)
        ∙ sym (ap (λ b. cond (b || list_any (eqb t) ys) (y ∷ (ys ++ n ∷ [])) (y ∷ ys)) (same_place t y h.1))
    | inr h ↦ ap (λ b. cond b (y ∷ n ∷ ys) (y ∷ extend t n ys)) h.0 ∙ ap (λ (l : List ℕ). y ∷ l) (extended_is ys (next a) w.2)
        ∙ cond_cons (list_any (eqb t) ys) y (ys ++ n ∷ []) ys ∙ sym (ap (λ b. cond (b || list_any (eqb t) ys) (y ∷ (ys ++ n ∷ [])) (y ∷ ys)) (other_place t y h.1))
  ]

module _ (next next2 : ℕ → ℕ) (live live2 : ℕ → Bool) (x e : ℕ) (on : live x ≡ true) (first : (a : ℕ) → live a ≡ true → next a ≢ x)
    (same : (a : ℕ) → a ≢ x → next2 a ≡ next a) (kept : (a : ℕ) → a ≢ x → live2 a ≡ live a) where
  -- a chain that does not begin at x does not meet it, if x is the first of its own
  pub walk_beside : (xs : List ℕ) (a : ℕ) → a ≢ x → Walk next live a xs e → Walk next2 live2 a xs e
  walk_beside [] a z w = (w.0, kept a z ∙ w.1)
  walk_beside (y ∷ ys) a z w = (w.0, kept a z ∙ w.1, subst (λ b. Walk next2 live2 b ys e) (sym (same a z)) (walk_beside ys (next a) (first a w.1) w.2))

module _ (next next2 : ℕ → ℕ) (live live2 : ℕ → Bool) (n e : ℕ) (off : live n ≡ false) (apart : e ≢ n)
    (same : (a : ℕ) → a ≢ n → next2 a ≡ next a) (kept : (a : ℕ) → a ≢ n → live2 a ≡ live a) where
  pub walk_fresh : (xs : List ℕ) (a : ℕ) → Walk next live a xs e → Walk next2 live2 a xs e
  walk_fresh [] a w = (w.0, kept a (λ z. apart (sym w.0 ∙ z)) ∙ w.1)
  walk_fresh (y ∷ ys) a w =
      let z : a ≢ n = λ v. true_false (live n) (subst (λ b. live b ≡ true) v w.1) off in
      (w.0, kept a z ∙ w.1, subst (λ b. Walk next2 live2 b ys e) (sym (same a z)) (walk_fresh ys (next a) w.2))
