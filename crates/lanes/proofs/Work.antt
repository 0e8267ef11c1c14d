-- What a worker's calls come to, as its seat is seen.
use Rattle.std.proofs.Common.{◌≡◌, ℕ, zero, suc, ◌+◌, ◌<◌, ◌≤◌, List, [], ◌∷◌, length, get_or, set, drop, sym, refl, ap, ◌∙◌, subst, arith, length-set, get_or-set_same, get_or-set_other}
use Rattle.std.specs.Prelude.{Option, Some, None, is_some, count_by, Contains, slice_get, MatchOption}
use Rattle.std.proofs.lemmas.Option.{none-some, slice_get-get_or}
use native.Mathlib.Decide.{ℕ_discrete}
use mathlib.Core.Logic.{dite}
use Rattle.atomic_table.specs.Seated.{TableId}
use Rattle.hand_off.specs.declared.state.LaneState.TheVariants.{Waiting}
use Rattle.hand_off.specs.declared.state.Note.{Note}
use Rattle.hand_off.specs.declared.view.View.{View}
use Rattle.hand_off.specs.Notes.{Misses}
use Rattle.hand_off.specs.Views.{looked, claiming}
use Rattle.hand_off.specs.Stands.{Stands, AllShown}
use Rattle.scheduler.specs.JobRuns.{JobOf, IsDoneOf}
use Rattle.lanes.specs.Calls.{Claims, ClaimsNothing}
use Rattle.lanes.specs.Kept.{seen_by_worker}
use Rattle.lanes.proofs.Counts.{with_room}
use Rattle.lanes.proofs.Places.{rest_holds}
use Rattle.lanes.proofs.Put.{Raw}
use Rattle.lanes.proofs.Stands.{worker_stands, shown_to_worker}

abbrev pub Lanes : Type 0
Lanes = List (Option JobOf)

-- it holds each lane whose job it has
abbrev pub HoldsAll : Lanes → List ℕ → Type 0
HoldsAll jobs held = (lane : ℕ) (job : JobOf) → get_or jobs lane None ≡ Some job → Contains held lane

pub one_more_held : (jobs : Lanes) (held : List ℕ) (lane : ℕ) (job : JobOf) → HoldsAll jobs held → HoldsAll (set jobs lane (Some job)) (lane ∷ held)
one_more_held jobs held lane job h k j e = dite (ℕ_discrete k lane)
    (λ is. (0, omega arith, sym is))
    (λ o. let there = h k j (sym (get_or-set_other jobs lane k (Some job) None o) ∙ e) in let near = there.1 in (suc there.0, omega arith, there.2))

pub one_less_held : (jobs : Lanes) (held : List ℕ) (lane : ℕ) → lane < length jobs → HoldsAll jobs held → held ≡ lane ∷ drop 1 held → HoldsAll (set jobs lane None) (drop 1 held)
one_less_held jobs held lane near h front k j e = dite (ℕ_discrete k lane)
    (λ is. absurd (none-some j (sym (get_or-set_same jobs lane None None near) ∙ subst (λ (m : ℕ). get_or (set jobs lane None) m None ≡ Some j) is e)))
    (λ o. rest_holds k lane (drop 1 held) (λ z. o (sym z)) (subst (λ (l : List ℕ). Contains l k) front (h k j (sym (get_or-set_other jobs lane k None None o) ∙ e))))

pub has_room : (jobs : Lanes) (n lane held room : ℕ) → length jobs ≡ n → lane < n → get_or jobs lane None ≡ None → held ≡ count_by is_some jobs → n ≤ room → held < room
has_room jobs n lane held room wide near free count le = let lt = with_room jobs lane (omega (arith, near, wide)) free in omega (arith, lt, wide, count, le)

-- what was found and claimed
pub claims : (t t' : TableId) (v : View JobOf) (me : Raw) (lane : ℕ) (job : JobOf) (more : List (ℕ × _)) → t' ≡ t → length v.claimed ≡ t.words → (lane < t.words) × (get_or v.claimed lane None ≡ None)
    → (notes : List Note) × (put : ℕ) × Misses Waiting lane v.notes notes × (me ≡ (claiming (looked v notes) lane put job, more)) → AllShown IsDoneOf v me.0.notes → Stands IsDoneOf me.0
    → Claims (seen_by_worker t v) lane job (seen_by_worker t' me.0)
claims t t' v me lane job more same wide some found shown stands = let is = found.3 in let near = some.0 in let within : lane < length v.claimed = omega arith in record {
  near = near;
  free = slice_get-get_or v.claimed lane None within ∙ ap (λ (x : Option JobOf). Some x) some.1;
  has = ap (λ m. slice_get m.0.claimed lane) is ∙ slice_get-get_or (set v.claimed lane (Some job)) lane None (omega (arith, within, length-set v.claimed lane (Some job))) ∙ ap (λ (x : Option JobOf). Some x) (get_or-set_same v.claimed lane (Some job) None within);
  put = found.1;
  notes = record { below = found.0; misses = found.2; found = ap (λ m. m.0.notes) is };
  new_is = λ i. record { lanes = record { table = same i; count = (same i).words }; jobs = (is i).0.claimed; claims = (is i).0.claims; notes = me.0.notes };
  shown = shown_to_worker t v me.0.notes shown;
  stands = worker_stands t' me.0 stands;
}

-- no lane was found with a job that waits
pub claims_nothing : (t t' : TableId) (v : View JobOf) (me : Raw) (count : ℕ) (more : List (ℕ × _)) → t' ≡ t → t.words ≡ count → Misses Waiting count v.notes me.0.notes × (me ≡ (looked v me.0.notes, more)) → AllShown IsDoneOf v me.0.notes
    → ClaimsNothing (seen_by_worker t v) (seen_by_worker t' me.0)
claims_nothing t t' v me count more same words found shown = let is = found.1 in record {
  notes = subst (λ (n : ℕ). Misses Waiting n v.notes me.0.notes) (sym words) found.0;
  new_is = λ i. record { lanes = record { table = same i; count = (same i).words }; jobs = (is i).0.claimed; claims = (is i).0.claims; notes = me.0.notes };
  shown = shown_to_worker t v me.0.notes shown;
}

-- one is taken out of a queue that isn't empty
pub popped : {X : Type 0} (o : Option X) (before after count : ℕ) → MatchOption o ((before ≡ 0) × (after ≡ 0)) (λ _. after + 1 ≡ before) → count + 1 ≡ before → after ≡ count
popped None before after count m e = let z = m.0 in absurd (omega arith)
popped (Some x) before after count m e = omega arith

-- what happens at one lane leaves what is at another
pub has_still : (jobs : Lanes) (i k : ℕ) (x y : Option JobOf) → (k ≡ i → ⊥) → slice_get jobs k ≡ Some y → slice_get (set jobs i x) k ≡ Some y
has_still [] i k x y apart e = e
has_still (z ∷ zs) zero zero x y apart e = absurd (apart refl)
has_still (z ∷ zs) zero (suc k) x y apart e = e
has_still (z ∷ zs) (suc i) zero x y apart e = e
has_still (z ∷ zs) (suc i) (suc k) x y apart e = has_still zs i k x y (λ same. apart (ap suc same)) e
