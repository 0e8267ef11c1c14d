-- The laws of the rule.
use Rattle.std.proofs.Common.{◌≡◌, ℕ, zero, suc, ◌<◌, List, [], ◌∷◌, length, get_or, sym, ap, ◌∙◌, subst, arith}
use Rattle.std.proofs.lemmas.Option.{none-some}
use Rattle.std.specs.Prelude.{Option, Some, None, slice_get}
use Rattle.hand_off.specs.Rule.{known_of}
use Rattle.hand_off.specs.Laws.{ClaimedAtMostOnce, ClaimedAsPut, HeldAsPut}
use Rattle.hand_off.proofs.Phases.{seat_in, place_in}

-- where something is there is a place
has_place : {X : Type 0} (xs : List (Option X)) (i : ℕ) (x : X) → get_or xs i None ≡ Some x → i < length xs
has_place [] i x e = absurd (none-some x e)
has_place (y ∷ ys) zero x e = omega arith
has_place (y ∷ ys) (suc i) x e = let less : i < length ys = has_place ys i x e in omega arith

module _ {J D : Type 0} (comes_of : J → D → Type 0) where
  pub claimed_at_most_once : ClaimedAtMostOnce comes_of
  claimed_at_most_once s r a b k l c d x y same =
      let p = (r.each_seat a x.view x.seat).claims k c x.claim in let q = (r.each_seat b y.view y.seat).claims l d y.claim in
      let both = sym p.1 ∙ ap r.claimants same ∙ q.1 in (ap seat_in both, ap place_in both)

  pub claimed_as_put : ClaimedAsPut comes_of
  claimed_as_put s r a b k c v x at sch = ap (λ ps. slice_get ps c.put) ((r.each_seat b v at).schedules sch).all_puts ∙ ((r.each_seat a x.view x.seat).claims k c x.claim).0

  pub held_as_put : HeldAsPut comes_of
  held_as_put s r a b i job v w seat mine at sch = let k = r.each_seat a w seat in
      ((r.each_seat b v at).schedules sch).knows i (subst (λ (n : ℕ). i < n) k.wide (has_place w.claimed i job mine)) ∙ ap known_of (k.claimed i job mine)
