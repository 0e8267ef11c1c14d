-- A transaction whose job is given back can be lent its rows again.
use Rattle.std.proofs.Common.{◌≡◌, ℕ, ◌+◌, inl, inr, true, List, [], ◌∷◌, length, Some, refl, sym, ◌∙◌, ap, subst, slice_get, slice_set}
use Rattle.catalogue.specs.Shapes.{TableShape}
use Rattle.scheduler_core.specs.declared.event.Event.{Event}
use Rattle.scheduler_core.specs.declared.event.Event.TheVariants.{Admit, Lend, Run, Settle}
use Rattle.scheduler_core.specs.declared.phase.Phase.{Phase}
use Rattle.scheduler_core.specs.declared.phase.Phase.TheVariants as phase
use Rattle.scheduler_core.specs.Transactions.{Transaction}
use Rattle.scheduler_core.specs.Phases.{is_out, phase_of, with_number}
use Rattle.scheduler_core.specs.Events.{waiting, enabled, step, OutAreReady}
use Rattle.scheduler_core.specs.Machine.{idle, lent, Machine, phase_in, phases_of, at_start, TakesBack, Move, makes, takes_back, Moves, Runs}
use Rattle.scheduler_core.specs.Laws.{StaysReady, GivenBackCanBeLent}
use Rattle.scheduler_core.proofs.Lists.{get_set_same, map_set, get_mapped}
use Rattle.scheduler_core.proofs.Numbers.{with_place, placed}
use Rattle.scheduler_core.proofs.PhaseTests.{lent_is, ran_is}
use Rattle.scheduler_core.proofs.Readies.{lend_there, lend_from}
use Rattle.scheduler_core.proofs.MachineRuns.{room_for}
use Rattle.scheduler_core.proofs.MachineSteps.{follows_steps}

module _ (tables : List TableShape) (arena first : ℕ) (log : List Transaction) (stays : StaysReady first log) where
  abbrev Good : Machine → Type 0
  Good now = OutAreReady first log (phases_of now.stages)

  ready_after : (phases : List Phase) (event : Event) → OutAreReady first log phases → enabled arena first log phases event ≡ true → OutAreReady first log (step first phases event)
  ready_after phases Admit good can =
      let (t, is) = room_for arena (waiting first log phases) (slice_get log (length phases)) can in stays.admits phases t is good
  ready_after phases (Lend number) good can =
      let (place, numbered, is, can_now) = lend_from arena first log phases number can in
      subst (OutAreReady first log) (sym (ap (λ (n : ℕ). step first phases (Lend n)) numbered ∙ with_place first phases place phase.Out)) (stays.lends phases place is can_now good)
  ready_after phases (Run number) good can =
      let (place, numbered, is) = placed first phases number phase.Out (lent_is (phase_of first phases number) can) in
      subst (OutAreReady first log) (sym (ap (λ (n : ℕ). step first phases (Run n)) numbered ∙ with_place first phases place phase.Ran)) (stays.runs phases place is good)
  ready_after phases (Settle number) good can =
      let (place, numbered, is) = placed first phases number phase.Ran (ran_is (phase_of first phases number) can) in
      subst (OutAreReady first log) (sym (ap (λ (n : ℕ). step first phases (Settle n)) numbered ∙ with_place first phases place phase.Settled)) (stays.settles phases place (ap is_out is) good)

  -- a job that is given back: what the phases are then
  record IsBack (old new : Machine) (number : ℕ) : Type 0 where
    pub place : ℕ
    pub numbered : number ≡ first + place
    pub was : slice_get (phases_of old.stages) place ≡ Some phase.Out
    pub phases_are : phases_of new.stages ≡ slice_set (phases_of old.stages) place phase.Idle

  back : (old new : Machine) (number : ℕ) → TakesBack tables first log old number new → IsBack old new number
  back old new number h =
      let (place, numbered, is) = placed first old.stages number (lent h.shown) h.has in
      record {
        place = place;
        numbered = numbered;
        was = get_mapped phase_in old.stages place (lent h.shown) is;
        phases_are = ap (λ (m : Machine). phases_of m.stages) h.new_is
            ∙ ap phases_of (ap (λ (n : ℕ). with_number first old.stages n idle) numbered ∙ with_place first old.stages place idle)
            ∙ map_set phase_in old.stages place idle;
      }

  ready_move : (old : Machine) (move : Move) (new : Machine) → Good old → Moves tables arena first log old move new → Good new
  ready_move old (makes event) new good moves =
      subst (OutAreReady first log) (sym (follows_steps tables first log old new event moves.1)) (ready_after (phases_of old.stages) event good moves.0)
  ready_move old (takes_back number) new good moves =
      let b = back old new number moves in
      subst (OutAreReady first log) (sym b.phases_are) (stays.takes_back (phases_of old.stages) b.place (ap is_out b.was) good)

  ready_runs : (moves : List Move) (old new : Machine) → Good old → Runs tables arena first log old moves new → Good new
  ready_runs [] old new good runs = subst Good (sym runs) good
  ready_runs (move ∷ moves) old new good (mid, one, rest) = ready_runs moves mid new (elim one [
    | inl made ↦ ready_move old move mid good made
    | inr still ↦ subst Good (sym still) good
  ]) rest

  can_be_lent : (now new : Machine) (number : ℕ) → Good now → TakesBack tables first log now number new → enabled arena first log (phases_of new.stages) (Lend number) ≡ true
  can_be_lent now new number good h =
      let b = back now new number h in
      let phases = phases_of now.stages in
      let idle_there : slice_get (slice_set phases b.place phase.Idle) b.place ≡ Some phase.Idle = get_set_same phases b.place phase.Out phase.Idle b.was in
      ap (λ (ps : List Phase). enabled arena first log ps (Lend number)) b.phases_are
      ∙ ap (λ (n : ℕ). enabled arena first log (slice_set phases b.place phase.Idle) (Lend n)) b.numbered
      ∙ lend_there arena first log (slice_set phases b.place phase.Idle) b.place idle_there (stays.gives_back phases b.place (ap is_out b.was) good)

pub given_back_can_be_lent : ((first : ℕ) (log : List Transaction) → StaysReady first log) → GivenBackCanBeLent
given_back_can_be_lent stays = record {
  can_be = λ tables first log now number shown is.
      (record now { stages = with_number first now.stages number idle }, record { shown = shown; has = is; new_is = refl });
  lent_again = λ tables arena first log start moves now number new runs h.
      can_be_lent tables arena first log (stays first log) now new number (ready_runs tables arena first log (stays first log) moves (at_start start) now (stays first log).starts runs) h;
}
