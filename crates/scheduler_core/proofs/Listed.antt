-- The list of the enabled events.
use Rattle.std.proofs.Common.{◌≡◌, ◌↔◌, ℕ, ◌≤◌, inl, inr, ◌==◌, Bool, true, false, cond, List, [], ◌∷◌, length, Option, None, Some, refl, sym, ap, subst, arith, slice_get}
use Rattle.std.specs.Prelude.{filter}
use Rattle.std.specs.List.{Contains, list_all}
use Rattle.std.proofs.lemmas.List.Kept.{AllPairs-filter}
use Rattle.std.proofs.Math.Nat.{zero-mod}
use Rattle.lock_tree.specs.Laws.{FirstReady}
use Rattle.scheduler_core.specs.declared.event.Event.{Event}
use Rattle.scheduler_core.specs.declared.event.Event.TheVariants.{Admit, Lend, Run, Settle}
use Rattle.scheduler_core.specs.declared.phase.Phase.{Phase}
use Rattle.scheduler_core.specs.declared.phase.Phase.TheVariants.{Idle, Out, Ran}
use Rattle.scheduler_core.specs.Transactions.{Transaction}
use Rattle.scheduler_core.specs.Phases.{is_settled, is_done, phase_of}
use Rattle.scheduler_core.specs.Events.{waiting, has_room, enabled}
use Rattle.scheduler_core.specs.Choices.{next_steps, first_step, next_event, enabled_events, chosen, number_of, IsBefore, ListsEnabled}
use Rattle.scheduler_core.specs.Laws.{FitIn, EnabledEventsAreListed, FirstChoice}
use Rattle.scheduler_core.proofs.Lists.{cases, both, true_false, none_some, get_past, contains_first, contains_later, not_in_nothing, each_passes}
use Rattle.scheduler_core.proofs.Numbers.{numbers_same, placed}
use Rattle.scheduler_core.proofs.PhaseTests.{lent_is, ran_is}
use Rattle.scheduler_core.proofs.Readies.{lend_from}
use Rattle.scheduler_core.proofs.EventLists.{filter_passes, filter_keeps, nothing_in, chosen_there, chosen_none, one_order, before_not_both}
use Rattle.scheduler_core.proofs.NextSteps.{step_there, admit_first, never_stuck, unfinished_next}

module _ (arena first : ℕ) (log : List Transaction) (phases : List Phase) where
  -- what is enabled is a next step
  listed : (event : Event) → enabled arena first log phases event ≡ true → Contains (Admit ∷ next_steps first phases) event
  listed Admit can = contains_first Admit (next_steps first phases)
  listed (Lend number) can =
      let (place, numbered, is, is_ready) = lend_from arena first log phases number can in
      contains_later Admit (next_steps first phases) (Lend number) (subst (λ (n : ℕ). Contains (next_steps first phases) (Lend n)) (sym numbered) (step_there first phases place Idle is refl))
  listed (Run number) can =
      let (place, numbered, is) = placed first phases number Out (lent_is (phase_of first phases number) can) in
      contains_later Admit (next_steps first phases) (Run number) (subst (λ (n : ℕ). Contains (next_steps first phases) (Run n)) (sym numbered) (step_there first phases place Out is refl))
  listed (Settle number) can =
      let (place, numbered, is) = placed first phases number Ran (ran_is (phase_of first phases number) can) in
      contains_later Admit (next_steps first phases) (Settle number) (subst (λ (n : ℕ). Contains (next_steps first phases) (Settle n)) (sym numbered) (step_there first phases place Ran is refl))

  pub lists_enabled : ListsEnabled arena first log phases (enabled_events arena first log phases)
  lists_enabled = record {
    exact = λ event. (
      filter_passes (enabled arena first log phases) (Admit ∷ next_steps first phases) event,
      λ can. filter_keeps (enabled arena first log phases) (Admit ∷ next_steps first phases) event (listed event can) can,
    );
    ordered = AllPairs-filter (λ a b. IsBefore (number_of a) (number_of b)) (enabled arena first log phases) (Admit ∷ next_steps first phases) (admit_first first phases);
  }

  pub one_list : (events : List Event) → ListsEnabled arena first log phases events → events ≡ enabled_events arena first log phases
  one_list events h =
      let own = lists_enabled in
      one_order (λ a b. IsBefore (number_of a) (number_of b)) (λ a b. before_not_both (number_of a) (number_of b)) events (enabled_events arena first log phases) h.ordered own.ordered
      (λ z there. (own.exact z).1 ((h.exact z).0 there))
      (λ z there. (h.exact z).1 ((own.exact z).0 there))

  no_room : (o : Option Transaction) → o ≡ None → has_room arena (waiting first log phases) o ≡ false
  no_room None is = refl
  no_room (Some t) is = absurd (none_some t (sym is))

  settled_at : is_done log phases ≡ true → (number : ℕ) (p : Phase) → phase_of first phases number ≡ Some p → is_settled (Some p) ≡ true
  settled_at done number p is =
      let (place, numbered, at) = placed first phases number p is in
      each_passes (λ q. is_settled (Some q)) phases place p (both (length phases == length log) (list_all (λ q. is_settled (Some q)) phases) done).1 at

  -- nothing is enabled once all is done
  done_none : is_done log phases ≡ true → (event : Event) → enabled arena first log phases event ≡ true → ⊥
  done_none done Admit can =
      let same : length phases ≡ length log = numbers_same (length phases) (length log) (both (length phases == length log) (list_all (λ q. is_settled (Some q)) phases) done).0 in
      true_false (has_room arena (waiting first log phases) (slice_get log (length phases))) can (no_room (slice_get log (length phases)) (get_past log (length phases) (omega (arith, same))))
  done_none done (Lend number) can =
      let (place, numbered, is, is_ready) = lend_from arena first log phases number can in
      true_false (is_settled (Some Idle)) (each_passes (λ q. is_settled (Some q)) phases place Idle (both (length phases == length log) (list_all (λ q. is_settled (Some q)) phases) done).1 is) refl
  done_none done (Run number) can = true_false (is_settled (Some Out)) (settled_at done number Out (lent_is (phase_of first phases number) can)) refl
  done_none done (Settle number) can = true_false (is_settled (Some Ran)) (settled_at done number Ran (ran_is (phase_of first phases number) can)) refl

  pub none_listed : FirstReady → length phases ≤ length log → FitIn arena log → (enabled_events arena first log phases ≡ []) ↔ (is_done log phases ≡ true)
  none_listed first_ready within fit = (
    λ none. elim (cases (is_done log phases)) [
      | inl done ↦ done
      | inr unfinished ↦ absurd (
          let h = never_stuck first_ready arena first log phases within fit unfinished in
          not_in_nothing h.0 (subst (λ es. Contains es h.0) none ((lists_enabled.exact h.0).1 h.1)))
    ],
    λ done. nothing_in (enabled_events arena first log phases) (λ event there. done_none done event ((lists_enabled.exact event).0 there)),
  )

  pub choice_enabled : (n : ℕ) (event : Event) → chosen n (enabled_events arena first log phases) ≡ Some event → enabled arena first log phases event ≡ true
  choice_enabled n event is = (lists_enabled.exact event).0 (chosen_there n (enabled_events arena first log phases) event is)

  pub none_chosen : FirstReady → (n : ℕ) → length phases ≤ length log → FitIn arena log → (chosen n (enabled_events arena first log phases) ≡ None) ↔ (is_done log phases ≡ true)
  none_chosen first_ready n within fit =
      let listed_none = none_listed first_ready within fit in (
        λ none. listed_none.0 (chosen_none n (enabled_events arena first log phases) none),
        λ done. ap (chosen n) (listed_none.1 done),
      )

  zeroth : (event : Event) (events : List Event) → chosen 0 (event ∷ events) ≡ Some event
  zeroth event events = ap (λ (n : ℕ). slice_get (event ∷ events) n) (zero-mod (length (event ∷ events)))

  admits_first : enabled arena first log phases Admit ≡ true → chosen 0 (enabled_events arena first log phases) ≡ Some Admit
  admits_first can = rw can (zeroth Admit (filter (enabled arena first log phases) (next_steps first phases)))

  -- where Admit is not enabled, the first of the next steps is
  steps_first : (events : List Event) → enabled arena first log phases Admit ≡ false → enabled arena first log phases (first_step events) ≡ true
      → chosen 0 (filter (enabled arena first log phases) events) ≡ Some (first_step events)
  steps_first [] cannot can = absurd (true_false (enabled arena first log phases Admit) can cannot)
  steps_first (event ∷ events) cannot can = rw can (zeroth event (filter (enabled arena first log phases) events))

  chosen_unadmitted : FirstReady → length phases ≤ length log → FitIn arena log → enabled arena first log phases Admit ≡ false
      → (b : Bool) → is_done log phases ≡ b → chosen 0 (enabled_events arena first log phases) ≡ cond b None (Some (first_step (next_steps first phases)))
  chosen_unadmitted first_ready within fit cannot true done = (none_chosen first_ready 0 within fit).1 done
  chosen_unadmitted first_ready within fit cannot false unfinished =
      rw cannot (steps_first (next_steps first phases) cannot (unfinished_next first_ready arena first log phases within fit unfinished).0)

  chosen_by : FirstReady → length phases ≤ length log → FitIn arena log → (b : Bool) → enabled arena first log phases Admit ≡ b
      → chosen 0 (enabled_events arena first log phases) ≡ cond b (Some Admit) (next_event first log phases)
  chosen_by first_ready within fit true can = admits_first can
  chosen_by first_ready within fit false cannot = chosen_unadmitted first_ready within fit cannot (is_done log phases) refl

pub first_chosen : FirstReady → FirstChoice
first_chosen first_ready arena first log phases within fit = chosen_by arena first log phases first_ready within fit (enabled arena first log phases Admit) refl

pub all_listed : FirstReady → EnabledEventsAreListed
all_listed first_ready = record {
  exact = lists_enabled;
  one = one_list;
  none = λ arena first log phases. none_listed arena first log phases first_ready;
  choice = choice_enabled;
  no_choice = λ arena first log phases. none_chosen arena first log phases first_ready;
}
