-- No two nodes have one node after them, what is after a node is live, and which nodes are the first of their chain.
use Rattle.std.proofs.Common.{◌≡◌, ◌≢◌, ℕ, ◌<◌, ◌⊎◌, inl, inr, true, false, List, length, replicate, IfSome, Option, Some, None, slice_get, slice_set, refl, sym, ◌∙◌, ap, subst, arith}
use Rattle.request_arena.specs.declared.node.Held.{Held}
use Rattle.request_arena.specs.Chains.{step, held_at, holds, successor_of, successor_or, place_or}
use Rattle.request_arena.specs.Linked.{IsApart, AreSuccessorsLive}
use Rattle.request_arena.proofs.Walks.{same_or_not, true_false}
use Rattle.request_arena.proofs.Changed.{get_same, get_other, length_set}
use Rattle.request_arena.proofs.Holding.{held_low, past, none_held}

-- no node comes before a in its chain
abbrev pub Begins : List (Option Held) → ℕ → Type 0
Begins hs a = (b : ℕ) → held_at hs b ≡ true → step hs b ≢ a

not_free : (hs : List (Option Held)) (o : Option ℕ) (v : ℕ) → held_at hs v ≡ false → v < length hs → IfSome o (λ b. held_at hs b ≡ true) → place_or (length hs) o ≢ v
not_free hs None v off room h e = omega (arith, e, room)
not_free hs (Some b) v off room h e = true_false (held_at hs v) (subst (λ n. held_at hs n ≡ true) e h) off

-- no free node is after another
pub successor_is_held : (hs : List (Option Held)) → AreSuccessorsLive hs → (a v : ℕ) → held_at hs v ≡ false → v < length hs → step hs a ≢ v
successor_is_held hs law a v off room = not_free hs (successor_of (slice_get hs a)) v off room (law a)

some_of : (P Q : ℕ → Type 0) → ((b : ℕ) → P b → Q b) → (o : Option ℕ) → IfSome o P → IfSome o Q
some_of P Q f None h = tt
some_of P Q f (Some b) h = f b h

successor_live : (o : Option (Option Held)) (b : ℕ) → successor_of o ≡ Some b → holds o ≡ true
successor_live None b e = cc
successor_live (Some None) b e = cc
successor_live (Some (Some h)) b e = refl

live_held : (o : Option (Option Held)) → holds o ≡ true → (h : Held) × (o ≡ Some (Some h))
live_held None e = cc
live_held (Some None) e = cc
live_held (Some (Some h)) e = (h, refl)

pub apart_blank : (n : ℕ) → IsApart (replicate n None)
apart_blank n a b h g e k = absurd (true_false (held_at (replicate n None) a) h (none_held n a))

no_successor : (o : Option (Option Held)) (P : ℕ → Type 0) → holds o ≡ false → IfSome (successor_of o) P
no_successor None P e = tt
no_successor (Some None) P e = tt
no_successor (Some (Some h)) P e = cc

pub successor_blank : (n : ℕ) → AreSuccessorsLive (replicate n None)
successor_blank n a = no_successor (slice_get (replicate n None) a) (λ b. held_at (replicate n None) b ≡ true) (none_held n a)

-- a push: the node id was free, has nothing after it, and comes after the node at t alone, if after any
module _ (hs ps : List (Option Held)) (successor : AreSuccessorsLive hs) (id : ℕ) (t : ℕ) (off : held_at hs id ≡ false) (room : id < length hs)
    (long : length ps ≡ length hs) (there : successor_of (slice_get ps id) ≡ None) (on : held_at ps id ≡ true)
    (kept : (a : ℕ) → a ≢ id → held_at ps a ≡ held_at hs a)
    (each : (a : ℕ) → a ≢ id → (slice_get ps a ≡ slice_get hs a) ⊎ ((a ≡ t) × (successor_of (slice_get ps a) ≡ Some id))) where
  abbrev LiveNow : ℕ → Type 0
  LiveNow b = held_at ps b ≡ true

  before : (a : ℕ) → step hs a ≢ id
  before a = successor_is_held hs successor a id off room

  end : step ps id ≡ length ps
  end = ap (place_or (length ps)) there

  steps : (a : ℕ) → a ≢ id → (step ps a ≡ step hs a) ⊎ ((a ≡ t) × (step ps a ≡ id))
  steps a z = elim (each a z) [
    | inl s ↦ inl (ap (λ n. successor_or n (slice_get ps a)) long ∙ ap (successor_or (length hs)) s)
    | inr s ↦ inr (s.0, ap (place_or (length ps)) s.1)
  ]

  grown : (a : ℕ) → held_at hs a ≡ true → held_at ps a ≡ true
  grown a h = kept a (λ z. true_false (held_at hs a) h (subst (λ n. held_at hs n ≡ false) (sym z) off)) ∙ h

  pub apart_pushed : IsApart hs → IsApart ps
  apart_pushed was a b h g e k = elim (same_or_not a id) [
    | inl z ↦ absurd (true_false (held_at ps (step ps a)) k (subst (λ n. held_at ps n ≡ false) (sym (ap (step ps) z ∙ end)) (past ps)))
    | inr z ↦ elim (same_or_not b id) [
      | inl y ↦ absurd (true_false (held_at ps (step ps a)) k (subst (λ n. held_at ps n ≡ false) (sym (e ∙ ap (step ps) y ∙ end)) (past ps)))
      | inr y ↦ elim (steps a z) [
        | inl s ↦ elim (steps b y) [
          | inl u ↦ was a b (sym (kept a z) ∙ h) (sym (kept b y) ∙ g) (sym s ∙ e ∙ u) (sym (kept (step hs a) (before a)) ∙ subst (λ n. held_at ps n ≡ true) s k)
          | inr u ↦ absurd (before a (sym s ∙ e ∙ u.1))
        ]
        | inr s ↦ elim (steps b y) [
          | inl u ↦ absurd (before b (sym u ∙ sym e ∙ s.1))
          | inr u ↦ s.0 ∙ sym u.0
        ]
      ]
    ]
  ]

  pub successor_pushed : AreSuccessorsLive ps
  successor_pushed a = elim (same_or_not a id) [
    | inl z ↦ subst (λ (o : Option ℕ). IfSome o LiveNow) (sym (ap (λ n. successor_of (slice_get ps n)) z ∙ there)) tt
    | inr z ↦ elim (each a z) [
      | inl s ↦ subst (λ (o : Option ℕ). IfSome o LiveNow) (sym (ap successor_of s)) (some_of (λ b. held_at hs b ≡ true) LiveNow (λ b. grown b) (successor_of (slice_get hs a)) (successor a))
      | inr s ↦ subst (λ (o : Option ℕ). IfSome o LiveNow) (sym s.1) on
    ]
  ]

  -- the first of a chain is still the first
  pub firsts_pushed : (a : ℕ) → held_at hs a ≡ true → Begins hs a → Begins ps a
  firsts_pushed a h begins b g e = elim (same_or_not b id) [
    | inl z ↦ let low = held_low hs a h in let at : length ps ≡ a = sym (ap (step ps) z ∙ end) ∙ e in absurd (omega (arith, low, long, at))
    | inr z ↦ elim (steps b z) [
      | inl s ↦ absurd (begins b (sym (kept b z) ∙ g) (sym s ∙ e))
      | inr s ↦ absurd (true_false (held_at hs id) (subst (λ n. held_at hs n ≡ true) (sym (sym s.1 ∙ e)) h) off)
    ]
  ]

  -- and the new node is the first of its chain, where it comes after none
  pub first_pushed : ((a : ℕ) → a ≢ id → slice_get ps a ≡ slice_get hs a) → Begins ps id
  first_pushed none b g e = elim (same_or_not b id) [
    | inl z ↦ let at : length ps ≡ id = sym (ap (step ps) z ∙ end) ∙ e in absurd (omega (arith, room, long, at))
    | inr z ↦ absurd (before b (sym (ap (λ n. successor_or n (slice_get ps b)) long ∙ ap (successor_or (length hs)) (none b z)) ∙ e))
  ]

-- a removal of the node at x
module _ (hs : List (Option Held)) (x : ℕ) (on : held_at hs x ≡ true) where
  abbrev os : List (Option Held)
  os = slice_set hs x None

  os_other : (a : ℕ) → held_at os a ≡ true → a ≢ x
  os_other a h z = true_false (held_at os a) h (subst (λ b. held_at os b ≡ false) (sym z) (ap holds (get_same hs x None (held_low hs x on))))

  os_held : (a : ℕ) → a ≢ x → held_at os a ≡ held_at hs a
  os_held a z = ap holds (get_other hs x a None z)

  os_step : (a : ℕ) → a ≢ x → step os a ≡ step hs a
  os_step a z = ap (λ n. successor_or n (slice_get os a)) (length_set hs x None) ∙ ap (successor_or (length hs)) (get_other hs x a None z)

  abbrev LiveStill : ℕ → Type 0
  LiveStill b = held_at os b ≡ true

  pub apart_removed : IsApart hs → IsApart os
  apart_removed was a b h g e k =
      let y = os_other a h in let z = os_other b g in let w = os_other (step os a) k in
      was a b (sym (os_held a y) ∙ h) (sym (os_held b z) ∙ g) (sym (os_step a y) ∙ e ∙ os_step b z)
      (subst (λ n. held_at hs n ≡ true) (os_step a y) (sym (os_held (step os a) w) ∙ k))

  pub firsts_removed : (a : ℕ) → Begins hs a → Begins os a
  firsts_removed a begins b h e = let z = os_other b h in begins b (sym (os_held b z) ∙ h) (sym (os_step b z) ∙ e)

  still_live : Begins hs x → (a : ℕ) (o : Option ℕ) → successor_of (slice_get hs a) ≡ o → IfSome o (λ b. held_at hs b ≡ true) → IfSome o LiveStill
  still_live first a None e h = tt
  still_live first a (Some b) e h = os_held b (λ z. first a (successor_live (slice_get hs a) b e) (ap (place_or (length hs)) e ∙ z)) ∙ h

  pub successor_removed : Begins hs x → AreSuccessorsLive hs → AreSuccessorsLive os
  successor_removed first was a = elim (same_or_not a x) [
    | inl z ↦ subst (λ (o : Option ℕ). IfSome o LiveStill) (sym (ap (λ n. successor_of (slice_get os n)) z ∙ ap successor_of (get_same hs x None (held_low hs x on)))) tt
    | inr z ↦ subst (λ (o : Option ℕ). IfSome o LiveStill) (sym (ap successor_of (get_other hs x a None z))) (still_live first a (successor_of (slice_get hs a)) refl (was a))
  ]

  next_begins : IsApart hs → held_at hs (step hs x) ≡ true → Begins os (step hs x)
  next_begins was k b h e =
      let z = os_other b h in
      z (was b x (sym (os_held b z) ∙ h) on (sym (os_step b z) ∙ e) (subst (λ n. held_at hs n ≡ true) (sym (sym (os_step b z) ∙ e)) k))

  -- the next of the chain is live, and its first then
  pub next_first : Begins hs x → IsApart hs → AreSuccessorsLive hs → (o : Option ℕ) → successor_of (slice_get hs x) ≡ o
      → IfSome o (λ b. ((h : Held) × (slice_get os b ≡ Some (Some h))) × Begins os b)
  next_first first apart was None e = tt
  next_first first apart was (Some b) e =
      let live : held_at hs b ≡ true = subst (λ (o : Option ℕ). IfSome o (λ b. held_at hs b ≡ true)) e (was x) in
      let to : step hs x ≡ b = ap (place_or (length hs)) e in
      let z : b ≢ x = λ y. first x on (to ∙ y) in
      (live_held (slice_get os b) (os_held b z ∙ live), subst (λ n. Begins os n) to (next_begins apart (subst (λ n. held_at hs n ≡ true) (sym to) live)))
