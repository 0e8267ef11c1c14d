-- Pushes without a tail, and removals, where each node is the first of its chain.
use Rattle.std.proofs.Common.{◌≡◌, ◌≢◌, ℕ, zero, suc, inl, inr, true, false, List, [], ◌∷◌, replicate, IfSome, Option, Some, None, slice_get, slice_set, refl, sym, ◌∙◌, ap, subst}
use Rattle.std.proofs.lemmas.Option.{slice_get_within}
use Rattle.request_arena.specs.declared.node.Held.{Held}
use Rattle.request_arena.specs.declared.node.Request.{Request}
use Rattle.request_arena.specs.Chains.{link, held_at, holds}
use Rattle.request_arena.specs.Lists.{Lists, IsLive, BeginsChain, EndsChain}
use Rattle.request_arena.specs.Pushes.{Pushed}
use Rattle.test_layers.specs.Firsts.{AllFirst}
use Rattle.request_arena.proofs.Walks.{same_or_not, true_false}
use Rattle.request_arena.proofs.Changed.{get_same, get_other}
use Rattle.request_arena.proofs.Holding.{link_same, none_held}

pub all_first_pushed : (was now : Lists) (queue : ℕ) (request : Request) (id : ℕ) → Pushed was queue None request id now → AllFirst was → AllFirst now
all_first_pushed was now queue request id p all a h = elim (same_or_not a id) [
  | inl z ↦ subst (λ n. BeginsChain now n) (sym z) (p.first refl)
  | inr z ↦ let g : held_at was.held a ≡ true = sym (ap holds (ap (λ l. slice_get l a) p.held ∙ get_other was.held id a _ z)) ∙ h in p.firsts a g (all a g)
]

held_or_free : (h : Held) → Some (Some h) ≡ Some None → ⊥
held_or_free h e = cc

set_none_off : (held : List (Option Held)) (x : ℕ) → held_at (slice_set held x None) x ≡ false
set_none_off [] x = refl
set_none_off (h ∷ held) zero = refl
set_none_off (h ∷ held) (suc x) = set_none_off held x

pub all_first_removed : (was now : Lists) (x : ℕ) → now.held ≡ slice_set was.held x None → ((a : ℕ) → BeginsChain was a → BeginsChain now a) → AllFirst was → AllFirst now
all_first_removed was now x gone firsts all a h = elim (same_or_not a x) [
  | inl z ↦ absurd (true_false (held_at now.held a) h (ap (λ l. held_at l a) gone ∙ ap (held_at (slice_set was.held x None)) z ∙ set_none_off was.held x))
  | inr z ↦ firsts a (all a (sym (ap (λ l. held_at l a) gone ∙ ap holds (get_other was.held x a None z)) ∙ h))
]

pub all_first_blank : {lists : Lists} (nodes queues : ℕ) → lists ≡ record { queues = replicate queues []; held = replicate nodes None } → AllFirst lists
all_first_blank {lists} nodes queues e a h = absurd (true_false (held_at lists.held a) h (ap (λ (l : Lists). held_at l.held a) e ∙ none_held nodes a))

pub live_some : (lists : Lists) (o : Option ℕ) (id : ℕ) → IfSome o (λ it. IsLive lists it) → o ≡ Some id → IsLive lists id
live_some lists o id live e = subst (λ (o : Option ℕ). IfSome o (λ it. IsLive lists it)) e live

-- two nodes of one transaction: the first is live, and the first of its chain
pub two_pushed : (was mid now : Lists) (p q : ℕ) (r s : Request) (a b : ℕ) → Pushed was p None r a mid → Pushed mid q (Some a) s b now → IsLive now a × BeginsChain now a
two_pushed was mid now p q r s a b one two =
    let at : slice_get mid.held a ≡ Some (Some (record { request = r; successor = None })) = ap (λ l. slice_get l a) one.held ∙ get_same was.held a _ (slice_get_within was.held a None one.fresh) in
    let apart : a ≢ b = λ e. absurd (held_or_free (record { request = r; successor = None }) (sym at ∙ ap (slice_get mid.held) e ∙ two.fresh)) in
    let live : slice_get now.held a ≡ Some (Some (record { request = r; successor = Some b })) =
    ap (λ l. slice_get l a) two.held ∙ get_other (link mid.held a b) b a _ apart ∙ link_same mid.held a b (record { request = r; successor = None }) at in
    ((record { request = r; successor = Some b }, live), two.firsts a (ap holds at) (one.first refl))

-- and the first may be the tail of the second
pub pushed_ends : (was mid : Lists) (p : ℕ) (r : Request) (a : ℕ) → Pushed was p None r a mid → EndsChain mid a
pushed_ends was mid p r a one = (r, ap (λ l. slice_get l a) one.held ∙ get_same was.held a _ (slice_get_within was.held a None one.fresh))
