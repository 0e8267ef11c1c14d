-- How far all transactions are, and how many steps were made.
use Rattle.std.proofs.Common.{◌≡◌, ℕ, zero, suc, ◌+◌, ◌*◌, ◌≤◌, ◌==◌, true, cond, List, [], ◌∷◌, ◌++◌, length, Some, refl, ◌∙◌, ap, arith, slice_get, slice_set}
use Rattle.std.specs.Prelude.{count_by}
use Rattle.std.specs.List.{list_all}
use Rattle.std.proofs.lemmas.List.Sums.{sum_by-cons}
use Rattle.scheduler_core.specs.declared.event.Event.{Event}
use Rattle.scheduler_core.specs.declared.event.Event.TheVariants.{Admit, Lend, Run, Settle}
use Rattle.scheduler_core.specs.declared.event.StepAnswer.{StepAnswer}
use Rattle.scheduler_core.specs.declared.event.StepAnswer.TheVariants.{Made, Refused, NoMemory}
use Rattle.scheduler_core.specs.declared.phase.Phase.{Phase}
use Rattle.scheduler_core.specs.declared.phase.Phase.TheVariants.{Idle, Out, Ran, Settled}
use Rattle.scheduler_core.specs.Transactions.{Transaction}
use Rattle.scheduler_core.specs.Phases.{is_out, was_run, is_settled, is_done, phase_of, with_number, progress, is_made}
use Rattle.scheduler_core.specs.Events.{enabled, step, Answers, Played}
use Rattle.scheduler_core.specs.Laws.{FourStepsEach}
use Rattle.scheduler_core.proofs.Lists.{both, some_is, none_some}
use Rattle.scheduler_core.proofs.Numbers.{numbers_same, placed, with_place}
use Rattle.scheduler_core.proofs.PhaseTests.{lent_is, ran_is}
use Rattle.scheduler_core.proofs.Readies.{lend_from}

-- how far one is
far : Phase → ℕ
far Idle = 1
far Out = 2
far Ran = 3
far Settled = 4

counts : Phase → ℕ
counts p = 1 + cond (is_out (Some p)) 1 0 + cond (was_run (Some p)) 1 0 + 3 * cond (is_settled (Some p)) 1 0

one_counts : (p : Phase) → counts p ≡ far p
unfolding far counts
one_counts Idle = refl
one_counts Out = refl
one_counts Ran = refl
one_counts Settled = refl

progress_more : (p : Phase) (phases : List Phase) → progress (p ∷ phases) ≡ counts p + progress phases
unfolding counts
progress_more p phases = omega (
  arith,
  sum_by-cons (λ q. cond (is_out (Some q)) 1 0) p phases,
  sum_by-cons (λ q. cond (was_run (Some q)) 1 0) p phases,
  sum_by-cons (λ q. cond (is_settled (Some q)) 1 0) p phases,
)

progress_first : (p : Phase) (phases : List Phase) → progress (p ∷ phases) ≡ far p + progress phases
progress_first p phases = progress_more p phases ∙ ap (λ (n : ℕ). n + progress phases) (one_counts p)

raised : (phases : List Phase) (place : ℕ) (p q : Phase) → slice_get phases place ≡ Some p → far q ≡ far p + 1 → progress (slice_set phases place q) ≡ progress phases + 1
raised [] place p q is up = absurd (none_some p is)
raised (r ∷ phases) zero p q is up =
    let same : far r ≡ far p = ap far (some_is r p is) in
    let one = progress_first r phases in
    let two = progress_first q phases in
    omega (arith, same, one, two, up)
raised (r ∷ phases) (suc place) p q is up =
    let rest = raised phases place p q is up in
    let one = progress_first r phases in
    let two = progress_first r (slice_set phases place q) in
    omega (arith, rest, one, two)

pushed : (phases : List Phase) → progress (phases ++ Idle ∷ []) ≡ progress phases + 1
pushed [] = refl
pushed (p ∷ phases) =
    let rest = pushed phases in
    let one = progress_first p phases in
    let two = progress_first p (phases ++ Idle ∷ []) in
    omega (arith, rest, one, two)

raised_number : (first : ℕ) (phases : List Phase) (number : ℕ) (p q : Phase) → phase_of first phases number ≡ Some p → far q ≡ far p + 1
    → progress (with_number first phases number q) ≡ progress phases + 1
raised_number first phases number p q is up =
    let (place, numbered, at) = placed first phases number p is in
    ap progress (ap (λ (n : ℕ). with_number first phases n q) numbered ∙ with_place first phases place q) ∙ raised phases place p q at up

module _ (arena first : ℕ) (log : List Transaction) where
  lent_further : (phases : List Phase) (number : ℕ) → enabled arena first log phases (Lend number) ≡ true → progress (with_number first phases number Out) ≡ progress phases + 1
  unfolding far
  lent_further phases number can =
      let (place, numbered, is, is_ready) = lend_from arena first log phases number can in
      ap progress (ap (λ (n : ℕ). with_number first phases n Out) numbered ∙ with_place first phases place Out) ∙ raised phases place Idle Out is refl

  pub one_further : (phases : List Phase) (event : Event) → enabled arena first log phases event ≡ true → progress (step first phases event) ≡ progress phases + 1
  unfolding far
  one_further phases Admit can = pushed phases
  one_further phases (Lend number) can = lent_further phases number can
  one_further phases (Run number) can = raised_number first phases number Out Ran (lent_is (phase_of first phases number) can) refl
  one_further phases (Settle number) can = raised_number first phases number Ran Settled (ran_is (phase_of first phases number) can) refl

  made_is : (old new : List Phase) (event : Event) (answer : StepAnswer) → Answers arena first log old event answer new → progress new ≡ progress old + cond (is_made answer) 1 0
  made_is old new event Made a = ap progress a.1 ∙ one_further old event a.0
  made_is old new event Refused a = let e : progress new ≡ progress old = ap progress a.1 in omega (arith, e)
  made_is old new event NoMemory a = let e : progress new ≡ progress old = ap progress a in omega (arith, e)

  made_count : (old new : List Phase) (events : List Event) (answers : List StepAnswer) → Played arena first log old events answers new → progress new ≡ progress old + count_by is_made answers
  made_count old new [] [] played = let e : progress new ≡ progress old = ap progress played in omega (arith, e)
  made_count old new [] (a ∷ answers) played = absurd played
  made_count old new (e ∷ events) [] played = absurd played
  made_count old new (e ∷ events) (a ∷ answers) played =
      let one : progress played.0 ≡ progress old + cond (is_made a) 1 0 = made_is old played.0 e a played.1 in
      let rest : progress new ≡ progress played.0 + count_by is_made answers = made_count played.0 new events answers played.2 in
      let more = sum_by-cons (λ x. cond (is_made x) 1 0) a answers in
      omega (arith, one, rest, more)

four_each : (phases : List Phase) → list_all (λ p. is_settled (Some p)) phases ≡ true → progress phases ≡ 4 * length phases
unfolding far
four_each [] every = refl
four_each (Settled ∷ phases) every = let rest = four_each phases every in let one = progress_first Settled phases in omega (arith, rest, one)
four_each (Idle ∷ phases) every = absurd (cc)
four_each (Out ∷ phases) every = absurd (cc)
four_each (Ran ∷ phases) every = absurd (cc)

four_steps : (arena first : ℕ) (log : List Transaction) (new : List Phase) (events : List Event) (answers : List StepAnswer)
    → Played arena first log [] events answers new → is_done log new ≡ true → count_by is_made answers ≡ 4 * length log
four_steps arena first log new events answers played done =
    let parts = both (length new == length log) (list_all (λ p. is_settled (Some p)) new) done in
    let same : length new ≡ length log = numbers_same (length new) (length log) parts.0 in
    let all : progress new ≡ 4 * length new = four_each new parts.1 in
    let made : progress new ≡ 0 + count_by is_made answers = made_count arena first log [] new events answers played in
    omega (arith, same, all, made)

one_most : (p : Phase) → far p ≤ 4
unfolding far
one_most Idle = omega arith
one_most Out = omega arith
one_most Ran = omega arith
one_most Settled = omega arith

pub progress_most : (phases : List Phase) → progress phases ≤ 4 * length phases
progress_most [] = omega arith
progress_most (p ∷ phases) =
    let rest = progress_most phases in let one = progress_first p phases in let most = one_most p in omega (arith, rest, one, most)

pub four_steps_each : FourStepsEach
four_steps_each = record { counted = made_count; four = four_steps }
