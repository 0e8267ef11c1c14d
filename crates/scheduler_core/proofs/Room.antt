-- The room that the plans of those that wait take.
use Rattle.std.proofs.Common.{◌≡◌, ℕ, ◌+◌, ◌≤◌, inl, inr, ◌==◌, Bool, true, false, List, [], ◌∷◌, ◌++◌, length, Option, None, Some, refl, sym, ◌∙◌, ap, subst, arith, slice_get}
use Rattle.std.proofs.lemmas.Bool.Decides.{nat_tests}
use Rattle.lock_tree.specs.Locks.{Waiting, used, without, with_mark}
use Rattle.scheduler_core.specs.declared.event.Event.{Event}
use Rattle.scheduler_core.specs.declared.event.Event.TheVariants.{Admit, Lend, Run, Settle}
use Rattle.scheduler_core.specs.declared.event.StepAnswer.{StepAnswer}
use Rattle.scheduler_core.specs.declared.event.StepAnswer.TheVariants.{Made, Refused, NoMemory}
use Rattle.scheduler_core.specs.declared.phase.Phase.{Phase}
use Rattle.scheduler_core.specs.declared.phase.Phase.TheVariants.{Idle, Out, Ran, Settled}
use Rattle.scheduler_core.specs.Transactions.{Transaction}
use Rattle.scheduler_core.specs.Phases.{phase_of, with_number}
use Rattle.scheduler_core.specs.Events.{waiting, has_room, enabled, step, Answers}
use Rattle.scheduler_core.specs.Laws.{RoomIsKept}
use Rattle.scheduler_core.proofs.Lists.{cases}
use Rattle.scheduler_core.proofs.Numbers.{placed, with_place}
use Rattle.scheduler_core.proofs.PhaseTests.{lent_is, ran_is}
use Rattle.scheduler_core.proofs.WaitChanges.{wait, waits_pushed, waits_kept, waits_marked, waits_settled}
use Rattle.scheduler_core.proofs.Readies.{lend_from}

used_pushed : (ws : List Waiting) (w : Waiting) → used (ws ++ w ∷ []) ≡ used ws + length w.plan
used_pushed [] w = omega arith
used_pushed (v ∷ ws) w = let rest = used_pushed ws w in omega (arith, rest)

used_marked : (number : ℕ) (mark : Bool) (ws : List Waiting) → used (with_mark number mark ws) ≡ used ws
used_marked number mark [] = refl
used_marked number mark (w ∷ ws) = elim (cases (w.no == number)) [
  | inl same ↦ rw same (ap (λ (n : ℕ). length w.plan + n) (used_marked number mark ws))
  | inr other ↦ rw other (ap (λ (n : ℕ). length w.plan + n) (used_marked number mark ws))
]

used_without : (number : ℕ) (ws : List Waiting) → used (without number ws) ≤ used ws
used_without number [] = omega arith
used_without number (w ∷ ws) =
    let rest = used_without number ws in
    elim (cases (w.no == number)) [
      | inl same ↦ rw same (omega (arith, rest))
      | inr other ↦ rw other (omega (arith, rest))
    ]

record HasRoom (arena : ℕ) (waits : List Waiting) (o : Option Transaction) : Type 0 where
  pub transaction : Transaction
  pub is : o ≡ Some transaction
  pub fits : used waits + length transaction.plan ≤ arena

room_for : (arena : ℕ) (waits : List Waiting) (o : Option Transaction) → has_room arena waits o ≡ true → HasRoom arena waits o
room_for arena waits None can = absurd (cc)
room_for arena waits (Some t) can = record { transaction = t; is = refl; fits = grind (arith, nat_tests) }

module _ (arena first : ℕ) (log : List Transaction) where
  room_admit : (phases : List Phase) → enabled arena first log phases Admit ≡ true → used (waiting first log (phases ++ Idle ∷ [])) ≤ arena
  room_admit phases can =
      let h = room_for arena (waiting first log phases) (slice_get log (length phases)) can in
      let more = ap used (waits_pushed first log phases h.transaction h.is) ∙ used_pushed (waiting first log phases) (wait (first + length phases) h.transaction false) in
      let fits = h.fits in
      omega (arith, more, fits)

  room_lend : (phases : List Phase) (number : ℕ) → enabled arena first log phases (Lend number) ≡ true → used (waiting first log (with_number first phases number Out)) ≡ used (waiting first log phases)
  room_lend phases number can =
      let (place, numbered, is, is_ready) = lend_from arena first log phases number can in
      ap (λ ps. used (waiting first log ps)) (ap (λ (n : ℕ). with_number first phases n Out) numbered ∙ with_place first phases place Out)
      ∙ ap used (waits_marked first log phases place Idle Out is refl refl) ∙ used_marked (first + place) true (waiting first log phases)

  room_run : (phases : List Phase) (number : ℕ) → enabled arena first log phases (Run number) ≡ true → used (waiting first log (with_number first phases number Ran)) ≡ used (waiting first log phases)
  room_run phases number can =
      let (place, numbered, is) = placed first phases number Out (lent_is (phase_of first phases number) can) in
      ap (λ ps. used (waiting first log ps)) (ap (λ (n : ℕ). with_number first phases n Ran) numbered ∙ with_place first phases place Ran)
      ∙ ap used (waits_kept first log phases place Out Ran is refl refl)

  room_settle : (phases : List Phase) (number : ℕ) → enabled arena first log phases (Settle number) ≡ true → used (waiting first log (with_number first phases number Settled)) ≤ used (waiting first log phases)
  room_settle phases number can =
      let (place, numbered, is) = placed first phases number Ran (ran_is (phase_of first phases number) can) in
      let now = ap (λ ps. used (waiting first log ps)) (ap (λ (n : ℕ). with_number first phases n Settled) numbered ∙ with_place first phases place Settled)
      ∙ ap used (waits_settled first log phases place Ran is) in
      let less = used_without (first + place) (waiting first log phases) in
      omega (arith, now, less)

  room_step : (phases : List Phase) (event : Event) → used (waiting first log phases) ≤ arena → enabled arena first log phases event ≡ true → used (waiting first log (step first phases event)) ≤ arena
  room_step phases Admit fits can = room_admit phases can
  room_step phases (Lend number) fits can = let same = room_lend phases number can in omega (arith, same, fits)
  room_step phases (Run number) fits can = let same = room_run phases number can in omega (arith, same, fits)
  room_step phases (Settle number) fits can = let less = room_settle phases number can in omega (arith, less, fits)

  room_answer : (old new : List Phase) (event : Event) (answer : StepAnswer) → used (waiting first log old) ≤ arena → Answers arena first log old event answer new → used (waiting first log new) ≤ arena
  room_answer old new event Made fits a = subst (λ ps. used (waiting first log ps) ≤ arena) (sym a.1) (room_step old event fits a.0)
  room_answer old new event Refused fits a = subst (λ ps. used (waiting first log ps) ≤ arena) (sym a.1) fits
  room_answer old new event NoMemory fits a = subst (λ ps. used (waiting first log ps) ≤ arena) (sym a) fits

pub room_kept : RoomIsKept
room_kept arena first log old new [] [] fits played = subst (λ ps. used (waiting first log ps) ≤ arena) (sym played) fits
room_kept arena first log old new [] (a ∷ answers) fits played = absurd played
room_kept arena first log old new (e ∷ events) [] fits played = absurd played
room_kept arena first log old new (e ∷ events) (a ∷ answers) fits played =
    room_kept arena first log played.0 new events answers (room_answer arena first log old played.0 e a fits played.1) played.2
