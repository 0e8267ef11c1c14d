-- The moments that a step tells of, from the states right before it and right after it; and what notes show, lane by lane.
use Rattle.std.proofs.Common.{◌≡◌, ℕ, zero, suc, ◌<◌, List, [], ◌∷◌, ◌++◌, length, get_or, set, take, sym, refl, ap, ◌∙◌, subst, arith, take_at}
use Rattle.std.proofs.lemmas.List.{take-append-le}
use Rattle.std.proofs.lemmas.Option.{slice_get_within}
use mathlib.Core.Option.{some, some-ne-none}
use mathlib.Core.Option as maybe
use lib.ListN.{get_elem?}
use Rattle.std.specs.Prelude.{Option, slice_get}
use Rattle.hand_off.specs.declared.state.LaneState.{LaneState}
use Rattle.hand_off.specs.declared.state.Note.{Note}
use Rattle.hand_off.specs.declared.view.Load.{Load}
use Rattle.hand_off.specs.declared.view.View.{View}
use Rattle.hand_off.specs.Words.{word_of}
use Rattle.hand_off.specs.Rule.{Laned}
use Rattle.hand_off.specs.Views.{looked}
use Rattle.hand_off.specs.Stands.{Moment, Stands, ShownAt, AllShown}
use Rattle.hand_off.proofs.Lists.{at_either}

-- a seat that is there has what it is set to
set_there : {V : Type 0} (vs : List V) (id : ℕ) (v w : V) → get_elem? vs id ≡ some v → get_elem? (set vs id w) id ≡ some w
set_there [] id v w e = absurd (some-ne-none v (sym e))
set_there (x ∷ xs) zero v w e = refl
set_there (x ∷ xs) (suc id) v w e = set_there xs id v w e

module _ {J D : Type 0} (comes_of : J → D → Type 0) where
  -- before a step, at a lane whose word says so
  pub shown_at : (s : Moment J D) (id i : ℕ) (v : View J) (x : LaneState) → Laned comes_of s → get_elem? s.views id ≡ some v → i < length s.homes → get_or s.words i 0 ≡ word_of x → ShownAt comes_of i x v
  shown_at s id i v x r at near shows = let wide : length s.words ≡ length s.homes = r.wide in
      record { stands = record { moment = s; number = id; at = record { rule = r; seat = at } }; near = omega arith; shows = shows }

  -- after a step of its own, from which on a seat has the view w
  pub stands_after : (s : Moment J D) (id : ℕ) (v w : View J) (words : List ℕ) (homes : List (maybe.Option (Option (Load J D)))) → get_elem? s.views id ≡ some v
      → Laned comes_of record { words = words; homes = homes; views = set s.views id w } → Stands comes_of w
  stands_after s id v w words homes at kept = record { moment = record { words = words; homes = homes; views = set s.views id w }; number = id; at = record { rule = kept; seat = set_there s.views id v w at } }

  pub none_shown : (first : View J) → AllShown comes_of first first.notes
  none_shown first = record { each = λ i note le e. let within = slice_get_within first.notes i note e in absurd (omega arith) }

  -- one more lane was looked at, and found so
  pub shown_more : (first now : View J) (after : List Note) (lane : ℕ) (found : LaneState) → now ≡ looked first now.notes → AllShown comes_of first now.notes → ShownAt comes_of lane found now
      → after ≡ now.notes ++ record { lane = lane; found = found } ∷ [] → AllShown comes_of first after
  shown_more first now after lane found same x last is = let look : Note = record { lane = lane; found = found } in record {
    each = λ i note le e. at_either now.notes look note i (ShownAt comes_of note.lane note.found (looked first (take i after))) (ap (λ (l : List Note). slice_get l i) (sym is) ∙ e)
        (λ before. let within = slice_get_within now.notes i note before in
        subst (λ (l : List Note). ShownAt comes_of note.lane note.found (looked first l)) (sym (ap (take i) is ∙ take-append-le i now.notes (look ∷ []) (omega arith))) (x.each i note le before))
        (λ place it_is. subst (λ (z : Note). ShownAt comes_of z.lane z.found (looked first (take i after))) it_is
        (subst (ShownAt comes_of lane found) (same ∙ ap (looked first) (sym (ap (take i) is ∙ take_at now.notes (look ∷ []) i (sym place)))) last));
  }
