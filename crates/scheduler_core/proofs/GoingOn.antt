-- What each enabled event does to the state: it goes on, and what is settled stays settled.
use Rattle.std.proofs.Common.{◌≡◌, ℕ, zero, suc, ◌<◌, true, false, List, [], ◌∷◌, ◌++◌, length, Option, None, Some, refl, sym, ◌∙◌, ap, subst, arith, slice_get, slice_set}
use Rattle.scheduler_core.specs.declared.event.Event.{Event}
use Rattle.scheduler_core.specs.declared.event.Event.TheVariants.{Admit, Lend, Run, Settle}
use Rattle.scheduler_core.specs.declared.phase.Phase.{Phase}
use Rattle.scheduler_core.specs.declared.phase.Phase.TheVariants.{Idle, Out, Ran, Settled}
use Rattle.scheduler_core.specs.Transactions.{Transaction}
use Rattle.scheduler_core.specs.Phases.{is_settled, phase_of, with_number}
use Rattle.scheduler_core.specs.Events.{enabled, step, waiting, has_room}
use Rattle.scheduler_core.specs.Laws.{GoesOn, EachStepGoesOn}
use Rattle.scheduler_core.proofs.Lists.{true_false, none_some, get_within, length_push, length_set}
use Rattle.scheduler_core.proofs.Numbers.{placed, with_place}
use Rattle.scheduler_core.proofs.PhaseTests.{lent_is, ran_is}
use Rattle.scheduler_core.proofs.Readies.{lend_from}
use Rattle.scheduler_core.proofs.Progress.{one_further, progress_most}

kept_set : (phases : List Phase) (k place : ℕ) (p q : Phase) → slice_get phases k ≡ Some p → is_settled (Some p) ≡ false
    → is_settled (slice_get phases place) ≡ true → is_settled (slice_get (slice_set phases k q) place) ≡ true
kept_set [] k place p q is unsettled settled = absurd (none_some p is)
kept_set (r ∷ phases) zero zero p q is unsettled settled = absurd (true_false (is_settled (Some r)) settled (ap is_settled is ∙ unsettled))
kept_set (r ∷ phases) zero (suc place) p q is unsettled settled = settled
kept_set (r ∷ phases) (suc k) zero p q is unsettled settled = settled
kept_set (r ∷ phases) (suc k) (suc place) p q is unsettled settled = kept_set phases k place p q is unsettled settled

kept_push : (phases : List Phase) (place : ℕ) → is_settled (slice_get phases place) ≡ true → is_settled (slice_get (phases ++ Idle ∷ []) place) ≡ true
kept_push [] place settled = absurd (true_false false settled refl)
kept_push (r ∷ phases) zero settled = settled
kept_push (r ∷ phases) (suc place) settled = kept_push phases place settled

module _ (arena first : ℕ) (log : List Transaction) (phases : List Phase) where
  set_goes_on : (place : ℕ) (p q : Phase) → slice_get phases place ≡ Some p → is_settled (Some p) ≡ false
      → (length (slice_set phases place q) ≡ length phases) × ((i : ℕ) → is_settled (slice_get phases i) ≡ true → is_settled (slice_get (slice_set phases place q) i) ≡ true)
  set_goes_on place p q is unsettled = (length_set phases place q, λ i. kept_set phases place i p q is unsettled)

  changed : (place : ℕ) (p q : Phase) (event : Event) → enabled arena first log phases event ≡ true → step first phases event ≡ slice_set phases place q
      → slice_get phases place ≡ Some p → is_settled (Some p) ≡ false → GoesOn log phases (step first phases event)
  changed place p q event can changes is unsettled =
      let h = set_goes_on place p q is unsettled in
      record {
        further = one_further arena first log phases event can;
        within = λ less. (let e : length (step first phases event) ≡ length phases = ap length changes ∙ h.0 in omega (arith, e, less));
        settled_stays = λ i settled. subst (λ ps. is_settled (slice_get ps i) ≡ true) (sym changes) (h.1 i settled);
      }

  admitted_within : (o : Option Transaction) → slice_get log (length phases) ≡ o → has_room arena (waiting first log phases) o ≡ true → length phases < length log
  admitted_within None is room = absurd (true_false false room refl)
  admitted_within (Some t) is room = get_within log (length phases) t is

  goes_on : (event : Event) → enabled arena first log phases event ≡ true → GoesOn log phases (step first phases event)
  goes_on Admit can = record {
    further = one_further arena first log phases Admit can;
    within = λ less. (let more = admitted_within (slice_get log (length phases)) refl can in let e = length_push phases Idle in omega (arith, more, e));
    settled_stays = kept_push phases;
  }
  goes_on (Lend number) can =
      let (place, numbered, is, is_ready) = lend_from arena first log phases number can in
      changed place Idle Out (Lend number) can (ap (λ (n : ℕ). with_number first phases n Out) numbered ∙ with_place first phases place Out) is refl
  goes_on (Run number) can =
      let (place, numbered, is) = placed first phases number Out (lent_is (phase_of first phases number) can) in
      changed place Out Ran (Run number) can (ap (λ (n : ℕ). with_number first phases n Ran) numbered ∙ with_place first phases place Ran) is refl
  goes_on (Settle number) can =
      let (place, numbered, is) = placed first phases number Ran (ran_is (phase_of first phases number) can) in
      changed place Ran Settled (Settle number) can (ap (λ (n : ℕ). with_number first phases n Settled) numbered ∙ with_place first phases place Settled) is refl

pub each_goes_on : EachStepGoesOn
each_goes_on = record { goes_on = goes_on; most = progress_most }
