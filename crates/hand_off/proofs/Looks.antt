-- Notes of lanes that were looked at.
use Rattle.std.proofs.Common.{◌≡◌, ◌≢◌, ℕ, suc, ◌+◌, List, [], ◌∷◌, ◌++◌, sym, refl, ap, ◌∙◌, subst, arith, length-append, append-nil, append_assoc}
use Rattle.std.proofs.lemmas.Option.{none-some}
use Rattle.hand_off.specs.declared.state.LaneState.{LaneState}
use Rattle.hand_off.specs.declared.state.Note.{Note}
use Rattle.hand_off.specs.Notes.{Misses}
use Rattle.hand_off.proofs.Lists.{at_either}

pub none_missed : (state : LaneState) (before : List Note) → Misses state 0 before before
none_missed state before = record { added = []; all = sym (append-nil before); each = refl; in_order = λ i note e. absurd (none-some note e); missed = λ i note e. absurd (none-some note e) }

-- one more lane is looked at
pub missed : (state found : LaneState) (n m : ℕ) (before after : List Note) → found ≢ state → m ≡ suc n → Misses state n before after → Misses state m before (after ++ record { lane = n; found = found } ∷ [])
missed state found n m before after other next x = let last : Note = record { lane = n; found = found } in record {
  added = x.added ++ last ∷ [];
  all = ap (λ (l : List Note). l ++ last ∷ []) x.all ∙ append_assoc before x.added (last ∷ []);
  each = length-append x.added (last ∷ []) ∙ ap (λ (k : ℕ). k + 1) x.each ∙ (omega (arith, next));
  in_order = λ i note e. at_either x.added last note i (note.lane ≡ i) e (x.in_order i note) (λ place is. ap (λ (z : Note). z.lane) (sym is) ∙ sym x.each ∙ sym place);
  missed = λ i note e. at_either x.added last note i (note.found ≢ state) e (x.missed i note) (λ place is. subst (λ (z : Note). z.found ≢ state) is other);
}
