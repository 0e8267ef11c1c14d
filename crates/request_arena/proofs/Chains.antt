-- What a push and a removal do to chains.
use Rattle.std.proofs.Common.{◌≡◌, ◌≢◌, ℕ, ◌<◌, inl, inr, true, false, cond, eqb, List, [], ◌∷◌, ◌++◌, length, replicate, Option, Some, None, slice_get, slice_set, refl, sym, ◌∙◌, ap, subst, arith}
use Rattle.std.specs.List.{list_any}
use Rattle.request_arena.specs.declared.node.Held.{Held}
use Rattle.request_arena.specs.declared.node.Request.{Request}
use Rattle.request_arena.specs.Chains.{link, step, held_at, holds, successor_or, place_or, chain, chain_from}
use Rattle.request_arena.specs.Linked.{IsChained}
use Rattle.request_arena.specs.Walks.{Walk}
use Rattle.request_arena.proofs.Walks.{same_or_not, true_false}
use Rattle.request_arena.proofs.Extending.{extend, walk_extended, extended_is, walk_beside, walk_fresh}
use Rattle.request_arena.proofs.Changed.{get_same, get_other, length_set}
use Rattle.request_arena.proofs.Holding.{length_link, link_other, link_same, held_low, past, chain_is, none_held}

-- the chain from a on goes through these nodes
abbrev pub Goes : List (Option Held) → ℕ → List ℕ → Type 0
Goes hs a xs = Walk (step hs) (held_at hs) a xs (length hs)

-- where as many nodes are there, what stands at a place settles where its chain leads
same_step : (hs now : List (Option Held)) → length now ≡ length hs → (a : ℕ) → slice_get now a ≡ slice_get hs a → step now a ≡ step hs a
same_step hs now long a same = ap (λ n. successor_or n (slice_get now a)) long ∙ ap (successor_or (length hs)) same

as_long : (hs now : List (Option Held)) → length now ≡ length hs → (a : ℕ) (xs : List ℕ) → Walk (step now) (held_at now) a xs (length hs) → Goes now a xs
as_long hs now long a xs w = subst (λ n. Walk (step now) (held_at now) a xs n) (sym long) w

goes_is : (hs : List (Option Held)) (xs : List ℕ) (a : ℕ) → Goes hs a xs → chain hs a ≡ xs
goes_is hs xs a w = chain_is hs xs a (length hs) w

-- ---- the first node of a chain is removed

module _ (hs : List (Option Held)) (was : IsChained hs) (x : ℕ) (on : held_at hs x ≡ true) (first : (a : ℕ) → held_at hs a ≡ true → step hs a ≢ x) where
  abbrev left : List (Option Held)
  left = slice_set hs x None

  still : (a : ℕ) → a ≢ x → held_at left a ≡ held_at hs a
  still a z = ap holds (get_other hs x a None z)

  goes_beside : (a : ℕ) → a ≢ x → (xs : List ℕ) → Goes hs a xs → Goes left a xs
  goes_beside a z xs w = as_long hs left (length_set hs x None) a xs
      (walk_beside (step hs) (step left) (held_at hs) (held_at left) x (length hs) on first
      (λ b y. same_step hs left (length_set hs x None) b (get_other hs x b None y)) still xs a z w)

  pub chained_removed : IsChained left
  chained_removed a h =
      let z : a ≢ x = λ is. true_false (held_at left a) h (ap (held_at left) is ∙ ap holds (get_same hs x None (held_low hs x on))) in
      let w = was a (sym (still a z) ∙ h) in (w.0, goes_beside a z w.0 w.1)

  -- every other chain is as it was
  pub chain_beside : (a : ℕ) → a ≢ x → held_at hs a ≡ true → chain left a ≡ chain hs a
  chain_beside a z h = let w = was a h in goes_is left w.0 a (goes_beside a z w.0 w.1) ∙ sym (goes_is hs w.0 a w.1)

  rest_of : (ys : List ℕ) (b : Option ℕ) → step hs x ≡ place_or (length hs) b → Goes hs (step hs x) ys → chain_from left b ≡ ys
  rest_of [] None to w = refl
  rest_of (y ∷ ys) None to w = absurd (true_false (held_at hs (length hs)) (ap (held_at hs) (sym to) ∙ w.1) (past hs))
  rest_of ys (Some id) to w = goes_is left ys id (goes_beside id (λ is. first x on (to ∙ is)) ys (subst (λ b. Goes hs b ys) to w))

  begins_with : (xs : List ℕ) → Goes hs x xs → (b : Option ℕ) → step hs x ≡ place_or (length hs) b → xs ≡ x ∷ chain_from left b
  begins_with [] w b to = absurd (true_false (held_at hs x) on w.1)
  begins_with (y ∷ ys) w b to = (λ i. sym w.0 i ∷ sym (rest_of ys b to w.2) i)

  -- what is left of its chain begins with the node after it
  pub chain_rest : (b : Option ℕ) → step hs x ≡ place_or (length hs) b → chain hs x ≡ x ∷ chain_from left b
  chain_rest b to = let w = was x on in goes_is hs w.0 x w.1 ∙ begins_with w.0 w.1 b to

-- ---- what comes after the first node of a chain is the chain of the next one

module _ (hs : List (Option Held)) (was : IsChained hs) (x : ℕ) (on : held_at hs x ≡ true) where
  rest_goes : (ys : List ℕ) (b : Option ℕ) → step hs x ≡ place_or (length hs) b → Goes hs (step hs x) ys → chain_from hs b ≡ ys
  rest_goes [] None to w = refl
  rest_goes (y ∷ ys) None to w = absurd (true_false (held_at hs (length hs)) (ap (held_at hs) (sym to) ∙ w.1) (past hs))
  rest_goes ys (Some id) to w = goes_is hs ys id (subst (λ b. Goes hs b ys) to w)

  goes_with : (xs : List ℕ) → Goes hs x xs → (b : Option ℕ) → step hs x ≡ place_or (length hs) b → xs ≡ x ∷ chain_from hs b
  goes_with [] w b to = absurd (true_false (held_at hs x) on w.1)
  goes_with (y ∷ ys) w b to = (λ i. sym w.0 i ∷ sym (rest_goes ys b to w.2) i)

  pub chain_goes_on : (b : Option ℕ) → step hs x ≡ place_or (length hs) b → chain hs x ≡ x ∷ chain_from hs b
  chain_goes_on b to = let w = was x on in goes_is hs w.0 x w.1 ∙ goes_with w.0 w.1 b to

-- ---- a free node v is filled, and nothing comes after it

module _ (hs now : List (Option Held)) (was : IsChained hs) (v : ℕ) (r : Request) (long : length now ≡ length hs) (there : slice_get now v ≡ Some (Some (record { request = r; successor = None }))) where
  last : step now v ≡ length now
  last = ap (successor_or (length now)) there

  goes_alone : Goes now v (v ∷ [])
  goes_alone = (refl, ap holds there, (last, ap (held_at now) last ∙ past now))

  pub chain_alone : chain now v ≡ v ∷ []
  chain_alone = goes_is now (v ∷ []) v goes_alone

  module _ (kept : (a : ℕ) → a ≢ v → held_at now a ≡ held_at hs a) (grow : List ℕ → List ℕ) (goes : (xs : List ℕ) (a : ℕ) → Goes hs a xs → Goes now a (grow xs)) where
    pub chained_grown : IsChained now
    chained_grown a h = elim (same_or_not a v) [
      | inr z ↦ let w = was a (sym (kept a z) ∙ h) in (grow w.0, goes w.0 a w.1)
      | inl is ↦ (v ∷ [], subst (λ b. Goes now b (v ∷ [])) (sym is) goes_alone)
    ]

    pub chain_grown : (a : ℕ) → held_at hs a ≡ true → (xs : List ℕ) × Goes hs a xs × (chain hs a ≡ xs) × (chain now a ≡ grow xs)
    chain_grown a h = let w = was a h in (w.0, w.1, goes_is hs w.0 a w.1, goes_is now (grow w.0) a (goes w.0 a w.1))

-- after the tail t, which ends its chain
module _ (hs : List (Option Held)) (was : IsChained hs) (v : ℕ) (free : slice_get hs v ≡ Some None) (room : v < length hs) (r : Request)
    (t : ℕ) (old : Request) (ends : slice_get hs t ≡ Some (Some (record { request = old; successor = None }))) where
  abbrev pub ps : List (Option Held)
  ps = slice_set (link hs t v) v (Some (record { request = r; successor = None }))

  pub off : held_at hs v ≡ false
  off = ap holds free

  t_apart : t ≢ v
  t_apart is = true_false (held_at hs t) (ap holds ends) (ap (held_at hs) is ∙ off)

  end_apart : length hs ≢ v
  end_apart z = omega (arith, z, room)

  pub grown : length ps ≡ length hs
  grown = length_set (link hs t v) v _ ∙ length_link hs t v

  pub there : slice_get ps v ≡ Some (Some (record { request = r; successor = None }))
  there = get_same (link hs t v) v _ (rw (length_link hs t v) room)

  pub at_t : slice_get ps t ≡ Some (Some (record { request = old; successor = Some v }))
  at_t = get_other (link hs t v) v t _ t_apart ∙ link_same hs t v _ ends

  pub elsewhere : (a : ℕ) → a ≢ v → a ≢ t → slice_get ps a ≡ slice_get hs a
  elsewhere a z y = get_other (link hs t v) v a _ z ∙ link_other hs t a v y

  pub same_live : (a : ℕ) → a ≢ v → held_at ps a ≡ held_at hs a
  same_live a z = elim (same_or_not a t) [
    | inr y ↦ ap holds (elsewhere a z y)
    | inl is ↦ ap (held_at ps) is ∙ ap holds at_t ∙ sym (ap holds ends) ∙ ap (held_at hs) (sym is)
  ]

  t_last : step hs t ≡ length hs
  t_last = ap (successor_or (length hs)) ends

  v_last : step ps v ≡ length hs
  v_last = ap (successor_or (length ps)) there ∙ grown

  t_leads : step ps t ≡ v
  t_leads = ap (successor_or (length ps)) at_t

  others : (a : ℕ) → a ≢ v → a ≢ t → step ps a ≡ step hs a
  others a z y = same_step hs ps grown a (elsewhere a z y)

  goes_longer : (xs : List ℕ) (a : ℕ) → Goes hs a xs → Goes ps a (extend t v xs)
  goes_longer xs a w = as_long hs ps grown a (extend t v xs)
      (walk_extended (step hs) (step ps) (held_at hs) (held_at ps) t v (length hs) off (past hs) end_apart t_last (ap holds there) v_last t_leads others same_live xs a w)

  pub chained_pushed : IsChained ps
  chained_pushed = chained_grown hs ps was v r grown there same_live (extend t v) goes_longer

  -- the new node is at the end of each chain that the tail is in; every other chain is as it was
  pub chain_longer : (a : ℕ) → held_at hs a ≡ true → chain ps a ≡ cond (list_any (eqb t) (chain hs a)) (chain hs a ++ v ∷ []) (chain hs a)
  chain_longer a h =
      let g = chain_grown hs ps was v r grown there same_live (extend t v) goes_longer a h in
      g.3 ∙ extended_is (step hs) (step ps) (held_at hs) (held_at ps) t v (length hs) off (past hs) end_apart t_last (ap holds there) v_last t_leads others same_live g.0 a g.1
      ∙ ap (λ (l : List ℕ). cond (list_any (eqb t) l) (l ++ v ∷ []) l) (sym g.2)

-- with no tail
module _ (hs : List (Option Held)) (was : IsChained hs) (v : ℕ) (free : slice_get hs v ≡ Some None) (room : v < length hs) (r : Request) where
  abbrev pub fs : List (Option Held)
  fs = slice_set hs v (Some (record { request = r; successor = None }))

  pub fs_long : length fs ≡ length hs
  fs_long = length_set hs v _

  pub fs_there : slice_get fs v ≡ Some (Some (record { request = r; successor = None }))
  fs_there = get_same hs v _ room

  pub fs_off : held_at hs v ≡ false
  fs_off = ap holds free

  fs_live : (a : ℕ) → a ≢ v → held_at fs a ≡ held_at hs a
  fs_live a z = ap holds (get_other hs v a _ z)

  goes_as_before : (xs : List ℕ) (a : ℕ) → Goes hs a xs → Goes fs a xs
  goes_as_before xs a w = as_long hs fs fs_long a xs
      (walk_fresh (step hs) (step fs) (held_at hs) (held_at fs) v (length hs) fs_off (λ z. omega (arith, z, room)) (λ b z. same_step hs fs fs_long b (get_other hs v b _ z)) fs_live xs a w)

  pub chained_fresh : IsChained fs
  chained_fresh = chained_grown hs fs was v r fs_long fs_there fs_live (λ xs. xs) goes_as_before

  pub chain_kept : (a : ℕ) → held_at hs a ≡ true → chain fs a ≡ chain hs a
  chain_kept a h = let g = chain_grown hs fs was v r fs_long fs_there fs_live (λ xs. xs) goes_as_before a h in g.3 ∙ sym g.2

pub chained_blank : (n : ℕ) → IsChained (replicate n None)
chained_blank n a h = absurd (true_false (held_at (replicate n None) a) h (none_held n a))
