-- The lanes at the start keep their rule.
use Rattle.std.proofs.Common.{◌≡◌, ℕ, zero, suc, ◌<◌, List, [], ◌∷◌, map, length, get_or, replicate, sym, refl, ap, ◌∙◌, subst, arith}
use Rattle.std.proofs.lemmas.List.{get_or-replicate}
use Rattle.std.proofs.lemmas.Option.{none-some}
use mathlib.Core.Option.{none, some}
use mathlib.Core.Option as maybe
use lib.ListN.{get_elem?, length-map, length-replicate}
use Rattle.std.specs.Prelude.{Option, None}
use Rattle.atomic_table.specs.Table.{opening}
use Rattle.hand_off.specs.declared.view.Known.TheVariants as known
use Rattle.hand_off.specs.declared.view.Load.{Load}
use Rattle.hand_off.specs.declared.view.View.{View}
use Rattle.hand_off.specs.Views.{opened}
use Rattle.hand_off.specs.Rule.{idle, nobody, Seated, Laned}
use Rattle.hand_off.proofs.Phases.{awaited}
use Rattle.std.proofs.Common.{suc-ne-zero}

blank : {S : Type 0} (n i : ℕ) → i < n → get_elem? (map some (replicate {A = Option S} n None)) i ≡ some (some None)
blank zero i near = absurd (omega arith)
blank (suc n) zero near = refl
blank (suc n) (suc i) near = blank n i (omega arith)

nothing : {X : Type 0} (l m : ℕ) → get_or {A = Option X} (replicate m None) l None ≡ None
nothing l zero = refl
nothing zero (suc m) = refl
nothing (suc l) (suc m) = nothing l m

pub starts : {J D : Type 0} (comes_of : J → D → Type 0) (n : ℕ) (ws : List ℕ) → ws ≡ replicate n 0 → Laned comes_of (opening ws (replicate n None) (opened n))
starts {J} {D} comes_of n ws is = let xs : List (Option (Load J D)) = replicate n None in let wide : length (map some xs) ≡ n = length-map xs some ∙ length-replicate n None in record {
  phases = λ _. idle;
  puts = [];
  claimants = λ _. nobody;
  wide = ap length is ∙ length-replicate n 0 ∙ sym wide;
  each_lane = λ i near. let close : i < n = omega arith in record { shows = ap (λ (l : List ℕ). get_or l i 0) is ∙ get_or-replicate n i 0 0 close; lies = blank n i close };
  waits = λ i put job e. absurd (suc-ne-zero put (sym (ap awaited e)));
  fresh = λ put le. refl;
  each_seat = λ id v e. seat id v e;
}
  where
    count_of : ℕ
    count_of = length (map some (replicate {A = Option (Load J D)} n None))

    seat : (id : ℕ) (v : View J) → get_elem? (opened n ∷ []) id ≡ some v → Seated id (length (map some (replicate {A = Option (Load J D)} n None))) (λ _. idle) [] (λ _. nobody) v
    seat zero v e = let wide : length (map some (replicate {A = Option (Load J D)} n None)) ≡ n = length-map (replicate {A = Option (Load J D)} n None) some ∙ length-replicate n None in
        subst (Seated 0 (length (map some (replicate {A = Option (Load J D)} n None))) (λ _. idle) [] (λ _. nobody)) (maybe.some-injective (opened n) v e)
        (record {
          schedules = λ _. record { first = refl; wide = length-replicate n known.Idle ∙ sym wide; knows = λ i near. get_or-replicate n i known.Idle known.Idle (omega arith); all_puts = refl };
          wide = length-replicate n None ∙ sym wide;
          claimed = λ i job e. absurd (none-some job (sym (nothing i n) ∙ e));
          claims = λ k c e. absurd (none-some c e);
        })
    seat (suc id) v e = absurd (maybe.some-ne-none v (sym e))
