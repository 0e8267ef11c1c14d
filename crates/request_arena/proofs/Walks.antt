-- Walks along links: each place leads to one other, so a walk is settled by where it begins, and comes to no place twice.
use Rattle.std.proofs.Common.{◌≡◌, ◌≢◌, ℕ, zero, suc, ◌<◌, ◌≤◌, ◌⊎◌, inl, inr, Bool, true, false, cond, ◌||◌, eqb, List, [], ◌∷◌, ◌++◌, length, refl, sym, ◌∙◌, ap, subst, arith}
use Rattle.std.specs.List.{list_any, IsDistinct, AllByRecursion}
use Rattle.std.proofs.lemmas.Bool.Decides.{eqb_tells}
use Rattle.std.proofs.lemmas.Map.Steps.{length-le_from_distinct_below}
use Rattle.request_arena.specs.Following.{without, follow}
use Rattle.request_arena.specs.Walks.{Walk}

pub true_false : (b : Bool) → b ≡ true → b ≡ false → ⊥
true_false b yes_ no_ = cc

pub cases : (b : Bool) → (b ≡ true) ⊎ (b ≡ false)
cases false = inr refl
cases true = inl refl

pub same_or_not : (a b : ℕ) → (a ≡ b) ⊎ (a ≢ b)
same_or_not a b = elim (eqb_tells a b) [ inr apart ↦ inr apart.1 | inl same ↦ inl same.1 ]

abbrev pub left_out : ℕ → ℕ → List ℕ → Bool → List ℕ
left_out x y ys b = cond b (without x ys) (y ∷ without x ys)

pub without_here : (x y : ℕ) (ys : List ℕ) → y ≡ x → without x (y ∷ ys) ≡ without x ys
without_here x y ys same = elim (eqb_tells y x) [ inr apart ↦ absurd (apart.1 same) | inl tested ↦ ap (left_out x y ys) tested.0 ]

pub without_there : (x y : ℕ) (ys : List ℕ) → y ≢ x → without x (y ∷ ys) ≡ y ∷ without x ys
without_there x y ys apart = elim (eqb_tells y x) [ inr tested ↦ ap (left_out x y ys) tested.0 | inl same ↦ absurd (apart same.1) ]

-- a place that is none of the first and is one of all is one of the rest
one_of_rest : (q x : ℕ) (xs : List ℕ) → eqb q x ≡ false → list_any (eqb q) (x ∷ xs) ≡ true → list_any (eqb q) xs ≡ true
one_of_rest q x xs tested there = sym (ap (λ b. b || list_any (eqb q) xs) tested) ∙ there

module _ (next : ℕ → ℕ) (live : ℕ → Bool) where
  pub one_walk : (xs ys : List ℕ) (a t u : ℕ) → Walk next live a xs t → Walk next live a ys u → xs ≡ ys
  one_walk [] [] a t u here there = refl
  one_walk [] (y ∷ ys) a t u here there = absurd (true_false (live a) there.1 here.1)
  one_walk (x ∷ xs) [] a t u here there = absurd (true_false (live a) here.1 there.1)
  one_walk (x ∷ xs) (y ∷ ys) a t u here there = (λ i. (sym here.0 ∙ there.0) i ∷ one_walk xs ys (next a) t u here.2 there.2 i)

  -- what is left of a walk from one of its places on
  pub record Rest (q t most : ℕ) (zs : List ℕ) : Type 0 where
    pub walk : Walk next live q zs t
    pub on : live q ≡ true
    pub short : length zs ≤ most

  pub rest_from : (xs : List ℕ) (a t q : ℕ) → Walk next live a xs t → list_any (eqb q) xs ≡ true → (zs : List ℕ) × Rest q t (length xs) zs
  rest_from [] a t q w there = cc
  rest_from (x ∷ xs) a t q w there = elim (eqb_tells q x) [
    | inr apart ↦ let more = rest_from xs (next a) t q w.2 (one_of_rest q x xs apart.0 there) in
        (more.0, record { walk = more.1.walk; on = more.1.on; short = omega (arith, more.1.short) })
    | inl same ↦ let at : a ≡ q = w.0 ∙ sym same.1 in
        (x ∷ xs, record { walk = subst (λ b. Walk next live b (x ∷ xs) t) at w; on = subst (λ b. live b ≡ true) at w.1; short = omega arith })
  ]

  -- a walk that came to its first place again would be as long as what is left of it
  no_return : (x : ℕ) (xs : List ℕ) (a t : ℕ) → Walk next live a (x ∷ xs) t → list_any (eqb x) xs ≡ true → ⊥
  no_return x xs a t w again =
      let left = rest_from xs (next a) t x w.2 again in
      let whole : left.0 ≡ x ∷ xs = one_walk left.0 (x ∷ xs) x t t left.1.walk (subst (λ b. Walk next live b (x ∷ xs) t) w.0 w) in
      omega (arith, left.1.short, ap length whole)

  differ_from : (q : ℕ) (xs : List ℕ) → list_any (eqb q) xs ≡ false → AllByRecursion (λ y. eqb q y ≡ false) xs
  differ_from q [] none = tt
  differ_from q (x ∷ xs) none = elim (cases (eqb q x)) [
    | inr off ↦ (off, differ_from q xs (sym (ap (λ b. b || list_any (eqb q) xs) off) ∙ none))
    | inl on ↦ absurd (true_false (list_any (eqb q) (x ∷ xs)) (ap (λ b. b || list_any (eqb q) xs) on) none)
  ]

  walk_distinct : (xs : List ℕ) (a t : ℕ) → Walk next live a xs t → IsDistinct eqb xs
  unfolding IsDistinct
  walk_distinct [] a t w = tt
  walk_distinct (x ∷ xs) a t w = elim (cases (list_any (eqb x) xs)) [
    | inr none ↦ (differ_from x xs none, walk_distinct xs (next a) t w.2)
    | inl again ↦ absurd (no_return x xs a t w again)
  ]

  follows : (xs : List ℕ) (most a t : ℕ) → length xs ≤ most → Walk next live a xs t → follow next live most a ≡ xs
  follows [] zero a t room w = refl
  follows [] (suc most) a t room w = ap (λ b. cond b (a ∷ follow next live most (next a)) []) w.1
  follows (x ∷ xs) zero a t room w = absurd (omega (arith, room))
  follows (x ∷ xs) (suc most) a t room w =
      ap (λ b. cond b (a ∷ follow next live most (next a)) []) w.1 ∙ (λ i. w.0 i ∷ follows xs most (next a) t (omega (arith, room)) w.2 i)

  -- where live places are those below c or some of them, going on at most c times gives the whole walk
  pub followed_walk : (c : ℕ) → ((x : ℕ) → live x ≡ true → x < c) → (xs : List ℕ) (a t : ℕ) → Walk next live a xs t → follow next live c a ≡ xs
  followed_walk c low xs a t w =
      let few = length-le_from_distinct_below xs c (walk_distinct xs a t w) (λ q there. low q (rest_from xs a t q w there).1.on) in follows xs c a t few w

  -- a live place from which an end is reached does not lead to itself
  pub no_loop : (xs : List ℕ) (x t : ℕ) → live x ≡ true → Walk next live x xs t → next x ≢ x
  no_loop [] x t on w loop = true_false (live x) on w.1
  no_loop (y ∷ ys) x t on w loop = no_loop ys x t on (subst (λ b. Walk next live b ys t) loop w.2) loop

-- a live place x is passed over
module _ (next next2 : ℕ → ℕ) (live live2 : ℕ → Bool) (x : ℕ) (on : live x ≡ true) (far : next x ≢ x)
    (hop : (a : ℕ) → live a ≡ true → a ≢ x → next a ≡ x → next2 a ≡ next x)
    (same : (a : ℕ) → live a ≡ true → a ≢ x → next a ≢ x → next2 a ≡ next a)
    (kept : (a : ℕ) → a ≢ x → live2 a ≡ live a) where
  -- from a place but x, and from x itself
  abbrev Round : List ℕ → ℕ → ℕ → Type 0
  Round xs a t = (a ≢ x → Walk next2 live2 a (without x xs) t) × (a ≡ x → Walk next2 live2 (next x) (without x xs) t)

  round_on : (ys : List ℕ) (a t : ℕ) → live a ≡ true → a ≢ x → Round ys (next a) t → Walk next2 live2 (next2 a) (without x ys) t
  round_on ys a t live_a apart more = elim (same_or_not (next a) x) [
    | inr z ↦ subst (λ b. Walk next2 live2 b (without x ys) t) (sym (same a live_a apart z)) (more.0 z)
    | inl e ↦ subst (λ b. Walk next2 live2 b (without x ys) t) (sym (hop a live_a apart e)) (more.1 e)
  ]

  pub walk_round : (xs : List ℕ) (a t : ℕ) → Walk next live a xs t → Round xs a t
  walk_round [] a t w = (λ apart. (w.0, kept a apart ∙ w.1), λ e. absurd (true_false (live x) on (ap live (sym e) ∙ w.1)))
  walk_round (y ∷ ys) a t w =
      let more = walk_round ys (next a) t w.2 in (
        λ apart. subst (λ l. Walk next2 live2 a l t) (sym (without_there x y ys (λ e. apart (w.0 ∙ e)))) (w.0, kept a apart ∙ w.1, round_on ys a t w.1 apart more),
        λ e. subst (λ l. Walk next2 live2 (next x) l t) (sym (without_here x y ys (sym w.0 ∙ e)))
            (subst (λ b. Walk next2 live2 b (without x ys) t) (ap next e) (more.0 (λ z. far (ap next (sym e) ∙ z)))),
      )

-- a place n is put in before the end s
module _ (next next2 : ℕ → ℕ) (live live2 : ℕ → Bool) (n s : ℕ) (off : live n ≡ false) (dead : live s ≡ false) (apart : s ≢ n)
    (on : live2 n ≡ true) (to : next2 n ≡ s)
    (hop : (a : ℕ) → live a ≡ true → next a ≡ s → next2 a ≡ n)
    (same : (a : ℕ) → live a ≡ true → next a ≢ s → next2 a ≡ next a)
    (kept : (a : ℕ) → a ≢ n → live2 a ≡ live a) where
  still_live : (a : ℕ) → live a ≡ true → live2 a ≡ true
  still_live a h = kept a (λ e. true_false (live n) (ap live (sym e) ∙ h) off) ∙ h

  -- from a place but s, and from s itself
  abbrev Longer : List ℕ → ℕ → Type 0
  Longer xs a = (a ≢ s → Walk next2 live2 a (xs ++ n ∷ []) s) × (a ≡ s → Walk next2 live2 n (xs ++ n ∷ []) s)

  longer_on : (ys : List ℕ) (a : ℕ) → live a ≡ true → Longer ys (next a) → Walk next2 live2 (next2 a) (ys ++ n ∷ []) s
  longer_on ys a live_a more = elim (same_or_not (next a) s) [
    | inr z ↦ subst (λ b. Walk next2 live2 b (ys ++ n ∷ []) s) (sym (same a live_a z)) (more.0 z)
    | inl e ↦ subst (λ b. Walk next2 live2 b (ys ++ n ∷ []) s) (sym (hop a live_a e)) (more.1 e)
  ]

  pub walk_longer : (xs : List ℕ) (a : ℕ) → Walk next live a xs s → Longer xs a
  walk_longer [] a w = (λ z. absurd (z w.0), λ e. (refl, on, (to, ap live2 to ∙ kept s apart ∙ dead)))
  walk_longer (y ∷ ys) a w = (λ z. (w.0, still_live a w.1, longer_on ys a w.1 (walk_longer ys (next a) w.2)), λ e. absurd (true_false (live s) (ap live (sym e) ∙ w.1) dead))

  -- a walk with another end does not come to s
  pub ends_there : (xs : List ℕ) (a t : ℕ) → Walk next live a xs t → a ≡ s → t ≢ s → ⊥
  ends_there [] a t w e z = z (sym w.0 ∙ e)
  ends_there (y ∷ ys) a t w e z = true_false (live s) (ap live (sym e) ∙ w.1) dead

  -- and stays as it was
  pub walk_kept : (xs : List ℕ) (a t : ℕ) → t ≢ s → t ≢ n → Walk next live a xs t → Walk next2 live2 a xs t
  walk_kept [] a t z y w = (w.0, kept a (λ e. y (sym w.0 ∙ e)) ∙ w.1)
  walk_kept (x ∷ xs) a t z y w =
      let passed : next a ≢ s = λ e. ends_there xs (next a) t w.2 e z in
      (w.0, still_live a w.1, subst (λ b. Walk next2 live2 b xs t) (sym (same a w.1 passed)) (walk_kept xs (next a) t z y w.2))
