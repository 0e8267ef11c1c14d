-- What is answered to events.
use Rattle.std.proofs.Common.{◌≡◌, ◌≢◌, ◌+◌, ◌++◌, ℕ, zero, suc, true, false, ◌&&◌, List, [], ◌∷◌, length, map, Option, Some, None, option_map, slice_get, slice_set, refl, sym, ap, ◌∙◌, subst, arith}
use Rattle.std.proofs.lemmas.Option.{slice_get-map}
use Rattle.lock_tree.specs.Locks.{Locks}
use Rattle.lock_tree.specs.Ready.{ready}
use Rattle.scheduler.specs.JobRuns.{JobOf}
use Rattle.meaning.specs.declared.outcome.Outcome.{Outcome}
use Rattle.scheduler_core.specs.declared.event.Event.{Event}
use Rattle.scheduler_core.specs.declared.event.Event.TheVariants.{Lend, Run, Settle}
use Rattle.scheduler_core.specs.declared.event.StepAnswer.{StepAnswer}
use Rattle.scheduler_core.specs.declared.event.StepAnswer.TheVariants.{Made, Refused, NoMemory}
use Rattle.scheduler_core.specs.declared.phase.Phase.{Phase}
use Rattle.scheduler_core.specs.declared.phase.Phase.TheVariants as phase
use Rattle.scheduler_core.specs.Transactions.{Transaction}
use Rattle.scheduler_core.specs.Phases.{is_idle, is_lent, was_run}
use Rattle.scheduler_core.specs.Events.{waiting, enabled, step, Answers, Played}
use Rattle.scheduler_core.specs.Laws.{AreByPlaces, EventsByPlaces}
use Rattle.scheduler.specs.declared.scheduler.Scheduler.TheInside.{Inside}
use Rattle.scheduler.specs.declared.slot.Slot.{Slot}
use Rattle.scheduler.specs.declared.slot.Slot.TheVariants as slot
use Rattle.scheduler.specs.Schedules.{Work, Schedule, log_of, phases_of, phase_in, KeepsItsJobs}
use Rattle.scheduler.specs.Moments.{SettlesTakeNoMemory}
use Rattle.scheduler.proofs.Places.{map_set, set_back}
use Rattle.scheduler.proofs.Slots.{phase_at}
use Rattle.scheduler.proofs.Known.{Known, work_in, schedule_in, number_at, keeps_jobs}

lent_only : (o : Option Slot) → (o ≡ Some slot.Lent → ⊥) → ((job : JobOf) → o ≡ Some (slot.Held job) → ⊥) → is_lent (option_map phase_in o) ≡ false
lent_only None a b = refl
lent_only (Some slot.Idle) a b = refl
lent_only (Some slot.Lent) a b = absurd (a refl)
lent_only (Some (slot.Held job)) a b = absurd (b job refl)
lent_only (Some (slot.Ran job outcome)) a b = refl
lent_only (Some (slot.Settled outcome)) a b = refl

module _ (w : Work) (slots : List Slot) (by_places : AreByPlaces w.arena w.first (log_of w) (map phase_in slots)) (number place : ℕ) (n : number ≡ w.first + place) where
  phases : List Phase
  phases = map phase_in slots

  pub lend_made : (tree : Locks) (new : List Slot) (s : Slot) → tree ≡ record { arena = w.arena; waiting = waiting w.first (log_of w) (map phase_in slots) }
      → slice_get slots place ≡ Some slot.Idle → ready tree.waiting number ≡ true → phase_in s ≡ phase.Out → new ≡ slice_set slots place s
      → Answers w.arena w.first (log_of w) (map phase_in slots) (Lend number) Made (map phase_in new)
  lend_made tree new s tree_is is r out e = (
    ap (λ k. enabled w.arena w.first (log_of w) (map phase_in slots) (Lend k)) n
        ∙ by_places.lend place
        ∙ ap (λ b. b && ready (waiting w.first (log_of w) (map phase_in slots)) (w.first + place)) (ap is_idle (phase_at slots place slot.Idle is))
        ∙ ap (ready (waiting w.first (log_of w) (map phase_in slots))) (sym n)
        ∙ sym (ap (λ (l : Locks). ready l.waiting number) tree_is)
        ∙ r,
    ap (map phase_in) e ∙ map_set phase_in slots place s ∙ ap (slice_set (map phase_in slots) place) out ∙ sym (by_places.after_lend place) ∙ ap (λ k. step w.first (map phase_in slots) (Lend k)) (sym n),
  )

  pub run_made : (new : List Slot) (job job2 : JobOf) (outcome : Outcome) → slice_get slots place ≡ Some (slot.Held job) → new ≡ slice_set slots place (slot.Ran job2 outcome)
      → Answers w.arena w.first (log_of w) (map phase_in slots) (Run number) Made (map phase_in new)
  run_made new job job2 outcome is e = (
    ap (λ k. enabled w.arena w.first (log_of w) (map phase_in slots) (Run k)) n ∙ by_places.run place ∙ ap is_lent (phase_at slots place (slot.Held job) is),
    ap (map phase_in) e ∙ map_set phase_in slots place (slot.Ran job2 outcome) ∙ sym (by_places.after_run place) ∙ ap (λ k. step w.first (map phase_in slots) (Run k)) (sym n),
  )

  pub run_refused : ((k : ℕ) → slice_get slots k ≡ Some slot.Lent → ⊥) → ((job : JobOf) → slice_get slots place ≡ Some (slot.Held job) → ⊥)
      → enabled w.arena w.first (log_of w) (map phase_in slots) (Run number) ≡ false
  run_refused keeps other =
      ap (λ k. enabled w.arena w.first (log_of w) (map phase_in slots) (Run k)) n ∙ by_places.run place
      ∙ ap is_lent (slice_get-map phase_in slots place) ∙ lent_only (slice_get slots place) (keeps place) other

  pub settle_made : (new : List Slot) (job : JobOf) (ran outcome : Outcome) → slice_get slots place ≡ Some (slot.Ran job ran) → new ≡ slice_set slots place (slot.Settled outcome)
      → Answers w.arena w.first (log_of w) (map phase_in slots) (Settle number) Made (map phase_in new)
  settle_made new job ran outcome is e = (
    ap (λ k. enabled w.arena w.first (log_of w) (map phase_in slots) (Settle k)) n ∙ by_places.settle place ∙ ap was_run (phase_at slots place (slot.Ran job ran) is),
    ap (map phase_in) e ∙ map_set phase_in slots place (slot.Settled outcome) ∙ sym (by_places.after_settle place) ∙ ap (λ k. step w.first (map phase_in slots) (Settle k)) (sym n),
  )

-- what is answered to an event of the transaction at a place of a scheduler
module _ (s : Inside) (k : Known s) (now : Schedule) (view : schedule_in s ≡ now) (by_places : EventsByPlaces) (number place : ℕ) (n : number ≡ now.work.first + place) (new : List Slot) where
  by_work : AreByPlaces s.arena s.first (log_of (work_in s)) (map phase_in s.slots.items)
  by_work = by_places s.arena s.first (log_of (work_in s)) (map phase_in s.slots.items)

  answers : (event : Event) (answer : StepAnswer) → Answers s.arena s.first (log_of (work_in s)) (map phase_in s.slots.items) event answer (map phase_in new)
      → Answers now.work.arena now.work.first (log_of now.work) (phases_of now) event answer (map phase_in new)
  answers event answer a = subst (λ (t : Schedule). Answers t.work.arena t.work.first (log_of t.work) (phases_of t) event answer (map phase_in new)) view a

  pub answers_lend : (x : Slot) → slice_get s.slots.items place ≡ Some slot.Idle → ready s.locks.waiting number ≡ true → phase_in x ≡ phase.Out → new ≡ slice_set s.slots.items place x
      → Answers now.work.arena now.work.first (log_of now.work) (phases_of now) (Lend number) Made (map phase_in new)
  answers_lend x is r out e = answers (Lend number) Made (lend_made (work_in s) s.slots.items by_work number place (number_at s now view number place n) s.locks new x k.scheduled.tree_is is r out e)

  pub answers_run : (job job2 : JobOf) (outcome : Outcome) → slice_get s.slots.items place ≡ Some (slot.Held job) → new ≡ slice_set s.slots.items place (slot.Ran job2 outcome)
      → Answers now.work.arena now.work.first (log_of now.work) (phases_of now) (Run number) Made (map phase_in new)
  answers_run job job2 outcome is e = answers (Run number) Made (run_made (work_in s) s.slots.items by_work number place (number_at s now view number place n) new job job2 outcome is e)

  pub refuses_run : KeepsItsJobs now → ((job : JobOf) → slice_get s.slots.items place ≡ Some (slot.Held job) → ⊥) → new ≡ s.slots.items
      → Answers now.work.arena now.work.first (log_of now.work) (phases_of now) (Run number) Refused (map phase_in new)
  refuses_run keeps other same =
      answers (Run number) Refused (run_refused (work_in s) s.slots.items by_work number place (number_at s now view number place n) (keeps_jobs s now view keeps) other, ap (map phase_in) same)

  pub answers_settle : (job : JobOf) (outcome : Outcome) → slice_get s.slots.items place ≡ Some (slot.Ran job outcome) → new ≡ slice_set s.slots.items place (slot.Settled outcome)
      → Answers now.work.arena now.work.first (log_of now.work) (phases_of now) (Settle number) Made (map phase_in new)
  answers_settle job outcome is e = answers (Settle number) Made (settle_made (work_in s) s.slots.items by_work number place (number_at s now view number place n) new job outcome outcome is e)

-- the phases are as they were
pub same_phases : (slots new : List Slot) (place : ℕ) (old s : Slot) → slice_get slots place ≡ Some old → phase_in s ≡ phase_in old → new ≡ slice_set slots place s → map phase_in new ≡ map phase_in slots
same_phases slots new place old s is e set =
    ap (map phase_in) set ∙ map_set phase_in slots place s ∙ ap (slice_set (map phase_in slots) place) e ∙ set_back (map phase_in slots) place (phase_in old) (phase_at slots place old is)

one_longer : (xs : List StepAnswer) (x : StepAnswer) → length (xs ++ x ∷ []) ≡ length xs + 1
one_longer [] x = refl
one_longer (y ∷ xs) x = let e = one_longer xs x in omega (arith, e)

-- one more event
pub played_more : (arena first : ℕ) (log : List Transaction) (old mid new : List Phase) (events : List Event) (answers : List StepAnswer) (event : Event) (answer : StepAnswer)
    → Played arena first log old events answers mid → Answers arena first log mid event answer new → Played arena first log old (events ++ event ∷ []) (answers ++ answer ∷ []) new
played_more arena first log old mid new [] [] event answer played one = (new, subst (λ ps. Answers arena first log ps event answer new) played one, refl)
played_more arena first log old mid new [] (a ∷ answers) event answer played one = absurd played
played_more arena first log old mid new (e ∷ events) [] event answer played one = absurd played
played_more arena first log old mid new (e ∷ events) (a ∷ answers) event answer played one = (played.0, played.1, played_more arena first log played.0 mid new events answers event answer played.2 one)

pub count_more : (xs new : List StepAnswer) (x : StepAnswer) (n : ℕ) → new ≡ xs ++ x ∷ [] → length xs ≡ n → length new ≡ n + 1
count_more xs new x n e c = ap length e ∙ one_longer xs x ∙ ap (λ k. k + 1) c

some_event : (x y : Event) → Some x ≡ Some y → x ≡ y
some_event x y e = cc

some_answer : (x y : StepAnswer) → Some x ≡ Some y → x ≡ y
some_answer x y e = cc

-- one more event, and no answer to a Settle is a want of memory
pub settles_more : (events : List Event) (answers : List StepAnswer) (event : Event) (answer : StepAnswer) → length events ≡ length answers → SettlesTakeNoMemory events answers
    → ((number : ℕ) → event ≡ Settle number → answer ≢ NoMemory) → SettlesTakeNoMemory (events ++ event ∷ []) (answers ++ answer ∷ [])
settles_more [] [] event answer l h one zero number is e = one number (some_event event (Settle number) is) (some_answer answer NoMemory e)
settles_more [] [] event answer l h one (suc place) number is e = absurd (cc)
settles_more [] (y ∷ answers) event answer l h one place number is e = absurd (omega (arith, l))
settles_more (x ∷ events) [] event answer l h one place number is e = absurd (omega (arith, l))
settles_more (x ∷ events) (y ∷ answers) event answer l h one zero number is e = h 0 number is e
settles_more (x ∷ events) (y ∷ answers) event answer l h one (suc place) number is e =
    settles_more events answers event answer (omega (arith, l)) (λ k n i. h (suc k) n i) one place number is e
