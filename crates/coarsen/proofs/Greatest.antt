-- The greatest value at the resources that pass a test.
use Rattle.std.proofs.Common.{◌≡◌, T, ◌&&◌, ℕ, ◌<◌, ◌≤◌, suc, zero, Bool, true, false, cond, max, List, [], ◌∷◌, refl, sym, ap, ◌∙◌, arith, Option, Some, None, inl, inr, ◌⊎◌, nat_le, Ordering, Less, Equal, Greater, get_or, set}
use Rattle.std.proofs.Math.Nat.{le-max_left, le-max_right, max-le}
use Rattle.std.specs.List.{Contains, insert}
use Rattle.footprint.specs.declared.resource.Resource.{Resource}
use Rattle.std.proofs.lemmas.Bool.Decides.{nat_tests}
use Rattle.std.specs.Ordering.{is_eq, is_lt}
use Rattle.std.specs.FinMap.Entries.{find, put, is_sorted, below_all, by_order}
use Rattle.footprint.specs.Tree.{resource_cmp}
use Rattle.footprint.proofs.Resources.{exact_resources}
use Rattle.coarsen.proofs.Tree.{same_resource, is_same_itself, ties_same}
use Rattle.coarsen.specs.Subtrees.{greatest, is_same, Requests}
use Rattle.footprint.specs.InTreeOrder.{IsAt}
use Rattle.footprint.proofs.Placing.{at_tail}
use Rattle.modes.specs.declared.mode.Mode.{Mode}

-- the value of what may be there, 0 where it isn't
abbrev pub number_or_none : {X : Type 0} → (X → ℕ) → Option X → ℕ
number_or_none value None = 0
number_or_none value (Some x) = value x

cases : (b : Bool) → (b ≡ true) ⊎ (b ≡ false)
cases true = inl refl
cases false = inr refl

max_cases : (a b n : ℕ) → n ≤ max a b → (n ≤ a) ⊎ (n ≤ b)
max_cases a b n h = elim (cases (nat_le n a)) [ inl t ↦ inl (grind (arith, nat_tests)) | inr t ↦ inr (grind (arith, nat_tests)) ]

zero_or : (n : ℕ) → (n ≡ 0) ⊎ (0 < n)
zero_or zero = inl refl
zero_or (suc n) = inr (omega arith)

pub first_test : (a b : Bool) → T (a && b) → T a
first_test true b p = tt
first_test false b p = p

pub second_test : (a b : Bool) → T (a && b) → T b
second_test true b p = p
second_test false b p = absurd p

pub less : (o : Ordering) → T (is_lt o) → o ≡ Less
less Less p = refl
less Equal p = absurd p
less Greater p = absurd p

cond_some : (b : Bool) (v n : ℕ) → 0 < n → n ≤ cond b v 0 → (b ≡ true) × (n ≤ v)
cond_some true v n p h = (refl, h)
cond_some false v n p h = absurd (omega arith)

cond_most : (b : Bool) (v n : ℕ) → (b ≡ true → v ≤ n) → cond b v 0 ≤ n
cond_most true v n h = h refl
cond_most false v n h = omega arith

raised : (b : Bool) (v l w e g : ℕ) → v ≡ max l w → (b ≡ true → l ≤ g) → max (cond b v 0) (max e g) ≡ max (max e g) (cond b w 0)
raised true v l w e g h k = let i = k refl in omega (arith, h, i)
raised false v l w e g h k = omega arith

pub raise : (b : Bool) (v l w g : ℕ) → v ≡ max l w → max (cond b v 0) g ≡ max (max (cond b l 0) g) (cond b w 0)
raise true v l w g h = omega (arith, h)
raise false v l w g h = omega arith

le_rest : (a g l : ℕ) → l ≤ g → l ≤ max a g
le_rest a g l h = omega (arith, h)

pub max_on : (a b c : ℕ) → max a (max b c) ≡ max (max a b) c
max_on a b c = omega arith

pub first_or_later : {X : Type 0} (x : Resource × X) (es : List (Resource × X)) (e : Resource × X) → Contains (x ∷ es) e → (x ≡ e) ⊎ Contains es e
first_or_later x es e (zero, l, is) = inl is
first_or_later x es e (suc k, l, is) = inr (k, omega (arith, l), is)

pub later : {X : Type 0} (x : Resource × X) (es : List (Resource × X)) (e : Resource × X) → Contains es e → Contains (x ∷ es) e
later x es e (k, l, is) = (suc k, omega (arith, l), is)

module _ {X : Type 0} (f : X → ℕ) where
  pub has_greatest : (test : Resource → Bool) (es : List (Resource × X)) (e : Resource × X) → Contains es e → test e.0 ≡ true → f e.1 ≤ greatest f test es
  has_greatest test [] e h t = absurd (omega (arith, h.1))
  has_greatest test (x ∷ es) e (zero, l, is) t =
      let same : x ≡ e = is in
      let here : cond (test x.0) (f x.1) 0 ≡ f e.1 = ap (λ (y : Resource × X). cond (test y.0) (f y.1) 0) same ∙ ap (λ b. cond b (f e.1) 0) t in
      let m = le-max_left (cond (test x.0) (f x.1) 0) (greatest f test es) in
      omega (arith, here, m)
  has_greatest test (x ∷ es) e (suc k, l, is) t =
      let h = has_greatest test es e (k, omega (arith, l), is) t in
      let m = le-max_right (cond (test x.0) (f x.1) 0) (greatest f test es) in
      omega (arith, h, m)

  pub some_greatest : (test : Resource → Bool) (es : List (Resource × X)) (n : ℕ) → 0 < n → n ≤ greatest f test es → (e : Resource × X) × Contains es e × (test e.0 ≡ true) × (n ≤ f e.1)
  some_greatest test [] n p h = absurd (omega arith)
  some_greatest test (x ∷ es) n p h = elim (max_cases (cond (test x.0) (f x.1) 0) (greatest f test es) n h) [
    | inl i ↦ let c = cond_some (test x.0) (f x.1) n p i in (x, (0, omega arith, refl), c.0, c.1)
    | inr i ↦ let r = some_greatest test es n p i in (r.0, later x es r.0 r.1, r.2, r.3)
  ]

  pub greatest_least : (test : Resource → Bool) (es : List (Resource × X)) (n : ℕ) → ((e : Resource × X) → Contains es e → test e.0 ≡ true → f e.1 ≤ n) → greatest f test es ≤ n
  greatest_least test [] n h = omega arith
  greatest_least test (x ∷ es) n h =
      max-le (cond_most (test x.0) (f x.1) n (h x (0, omega arith, refl))) (greatest_least test es n (λ e k. h e (later x es e k)))

  pub greatest_mono : (test more : Resource → Bool) (es : List (Resource × X)) → ((r : Resource) → test r ≡ true → more r ≡ true) → greatest f test es ≤ greatest f more es
  greatest_mono test more es h = greatest_least test es _ (λ e k t. has_greatest more es e k (h e.0 t))

  -- what stands in order after a resource isn't it
  none_after : (r : Resource) (es : List (Resource × X)) → T (below_all resource_cmp r es) → greatest f (is_same r) es ≡ 0
  none_after r [] h = refl
  none_after r (e ∷ es) h =
      let other : is_same r e.0 ≡ false = sym (ties_same r e.0) ∙ ap is_eq (less (resource_cmp r e.0) (first_test (is_lt (resource_cmp r e.0)) (below_all resource_cmp r es) h)) in
      let here : cond (is_same r e.0) (f e.1) 0 ≡ 0 = ap (λ b. cond b (f e.1) 0) other in
      let rest = none_after r es (second_test (is_lt (resource_cmp r e.0)) (below_all resource_cmp r es) h) in
      omega (arith, here, rest)

  -- what is found at a resource, in a list in order
  pub found : (es : List (Resource × X)) → T (is_sorted resource_cmp es) → (r : Resource) → number_or_none f (find resource_cmp r es) ≡ greatest f (is_same r) es
  found [] s r = refl
  found (e ∷ es) s r =
      let below = first_test (below_all resource_cmp e.0 es) (is_sorted resource_cmp es) s in
      let rest = found es (second_test (below_all resource_cmp e.0 es) (is_sorted resource_cmp es) s) r in
      elim (is_eq (resource_cmp r e.0)) as (λ v. is_eq (resource_cmp r e.0) ≡ v → number_or_none f (cond v (Some e.1) (find resource_cmp r es)) ≡ greatest f (is_same r) (e ∷ es)) [
        | true ↦ λ is.
            let on : is_same r e.0 ≡ true = sym (ties_same r e.0) ∙ is in
            let none : greatest f (is_same r) es ≡ 0 = ap (λ q. greatest f (is_same q) es) (same_resource r e.0 on) ∙ none_after e.0 es below in
            let here : cond (is_same r e.0) (f e.1) 0 ≡ f e.1 = ap (λ b. cond b (f e.1) 0) on in
            omega (arith, none, here)
        | false ↦ λ is.
            let off : is_same r e.0 ≡ false = sym (ties_same r e.0) ∙ is in
            let here : cond (is_same r e.0) (f e.1) 0 ≡ 0 = ap (λ b. cond b (f e.1) 0) off in
            omega (arith, rest, here)
      ] refl

  found_under : (test : Resource → Bool) (es : List (Resource × X)) (p : Resource) → test p ≡ true → number_or_none f (find resource_cmp p es) ≤ greatest f test es
  found_under test [] p t = omega arith
  found_under test (e ∷ es) p t = elim (resource_cmp p e.0) as (λ o. resource_cmp p e.0 ≡ o → number_or_none f (cond (is_eq o) (Some e.1) (find resource_cmp p es)) ≤ greatest f test (e ∷ es)) [
    | Less ↦ λ is. le_rest (cond (test e.0) (f e.1) 0) _ _ (found_under test es p t)
    | Equal ↦ λ is. has_greatest test (e ∷ es) e (0, omega arith, refl) (ap test (sym (exact_resources p e.0 is)) ∙ t)
    | Greater ↦ λ is. le_rest (cond (test e.0) (f e.1) 0) _ _ (found_under test es p t)
  ] refl

  -- an entry is put at a resource, or raised there
  pub greatest-put : (test : Resource → Bool) (es : List (Resource × X)) (p : Resource) (v : X) (w : ℕ)
      → (f v ≡ max (number_or_none f (find resource_cmp p es)) w)
      → greatest f test (put resource_cmp p v es) ≡ max (greatest f test es) (cond (test p) w 0)
  greatest-put test [] p v w h = raised (test p) (f v) 0 w 0 0 h (λ _. omega arith) ∙ refl
  greatest-put test (e ∷ es) p v w h = elim (resource_cmp p e.0) as (λ o. resource_cmp p e.0 ≡ o → f v ≡ max (number_or_none f (cond (is_eq o) (Some e.1) (find resource_cmp p es))) w
      → greatest f test (by_order o ((p, v) ∷ e ∷ es) ((e.0, v) ∷ es) (e ∷ put resource_cmp p v es)) ≡ max (greatest f test (e ∷ es)) (cond (test p) w 0)) [
        | Less ↦ λ is k. raised (test p) (f v) _ w _ _ k (found_under test es p)
        | Equal ↦ λ is k. ap (λ b. max (cond b (f v) 0) (greatest f test es)) (ap test (sym (exact_resources p e.0 is)))
            ∙ raise (test p) (f v) (f e.1) w (greatest f test es) k
            ∙ ap (λ b. max (max (cond b (f e.1) 0) (greatest f test es)) (cond (test p) w 0)) (ap test (exact_resources p e.0 is))
        | Greater ↦ λ is k. let i = greatest-put test es p v w k in
            ap (λ n. max (cond (test e.0) (f e.1) 0) n) i ∙ max_on (cond (test e.0) (f e.1) 0) (greatest f test es) (cond (test p) w 0)
      ] refl h

-- what is known of each resource is known of each test
pub any_test : {X Y : Type 0} (f : X → ℕ) (g : Y → ℕ) (es : List (Resource × X)) (fs : List (Resource × Y))
    → ((r : Resource) → greatest f (is_same r) es ≤ greatest g (is_same r) fs)
    → (test : Resource → Bool) → greatest f test es ≤ greatest g test fs
any_test f g es fs h test = elim (zero_or (greatest f test es)) [
  | inl z ↦ omega (arith, z)
  | inr p ↦
      let e = some_greatest f test es _ p (omega arith) in
      let on = has_greatest f (is_same e.0.0) es e.0 e.1 (is_same_itself e.0.0) in
      let at = h e.0.0 in
      let d = some_greatest g (is_same e.0.0) fs (greatest f test es) p (omega (arith, on, at, e.3)) in
      let there = has_greatest g test fs d.0 d.1 (ap test (sym (same_resource e.0.0 d.0.0 d.2)) ∙ e.2) in
      omega (arith, there, d.3)
]

-- ---- a request in place of another, and one more

module _ (f : Mode → ℕ) (test : Resource → Bool) where
  -- a request takes another mode
  pub greatest-set : (es : Requests) (i : ℕ) (d : Resource × Mode) (r : Resource) (v : Mode) (w : ℕ)
      → IsAt es r i → f v ≡ max (f (get_or es i d).1) w
      → greatest f test (set es i (r, v)) ≡ max (greatest f test es) (cond (test r) w 0)
  greatest-set [] i d r v w at h = absurd (let l = at.in_range in omega (arith, l))
  greatest-set (e ∷ es) zero d r v w at h =
      raise (test r) (f v) (f e.1) w (greatest f test es) h
      ∙ ap (λ q. max (max (cond (test q) (f e.1) 0) (greatest f test es)) (cond (test r) w 0)) (sym (at.on e))
  greatest-set (e ∷ es) (suc i) d r v w at h =
      ap (λ n. max (cond (test e.0) (f e.1) 0) n) (greatest-set es i d r v w (at_tail e es r i at) h)
      ∙ max_on (cond (test e.0) (f e.1) 0) (greatest f test es) (cond (test r) w 0)

  turned : (a b : ℕ) → max a b ≡ max b a
  turned a b = omega arith

  -- a request is put into the list
  pub greatest-inserted : (es : Requests) (i : ℕ) (r : Resource) (v : Mode)
      → greatest f test (insert es i (r, v)) ≡ max (greatest f test es) (cond (test r) (f v) 0)
  greatest-inserted es zero r v = turned (cond (test r) (f v) 0) (greatest f test es)
  greatest-inserted [] (suc i) r v = turned (cond (test r) (f v) 0) 0
  greatest-inserted (e ∷ es) (suc i) r v =
      ap (λ n. max (cond (test e.0) (f e.1) 0) n) (greatest-inserted es i r v)
      ∙ max_on (cond (test e.0) (f e.1) 0) (greatest f test es) (cond (test r) (f v) 0)
