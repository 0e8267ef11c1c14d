-- A list of events has one list of answers, but for want of memory.
use Rattle.std.proofs.Common.{◌≡◌, ℕ, List, [], ◌∷◌, refl, sym, ◌∙◌, ap, subst}
use Rattle.std.specs.List.{Contains}
use Rattle.scheduler_core.specs.declared.event.Event.{Event}
use Rattle.scheduler_core.specs.declared.event.StepAnswer.{StepAnswer}
use Rattle.scheduler_core.specs.declared.event.StepAnswer.TheVariants.{Made, Refused, NoMemory}
use Rattle.scheduler_core.specs.declared.phase.Phase.{Phase}
use Rattle.scheduler_core.specs.Transactions.{Transaction}
use Rattle.scheduler_core.specs.Events.{enabled, Answers, Played}
use Rattle.scheduler_core.specs.Laws.{OnePlay}
use Rattle.scheduler_core.proofs.Lists.{true_false, contains_first, contains_later}

module _ (arena first : ℕ) (log : List Transaction) where
  one_answer : (old new other : List Phase) (event : Event) (a b : StepAnswer) → (a ≡ NoMemory → ⊥) → (b ≡ NoMemory → ⊥)
      → Answers arena first log old event a new → Answers arena first log old event b other → (a ≡ b) × (new ≡ other)
  one_answer old new other event Made Made m n h k = (refl, h.1 ∙ sym k.1)
  one_answer old new other event Made Refused m n h k = absurd (true_false (enabled arena first log old event) h.0 k.0)
  one_answer old new other event Made NoMemory m n h k = absurd (n refl)
  one_answer old new other event Refused Made m n h k = absurd (true_false (enabled arena first log old event) k.0 h.0)
  one_answer old new other event Refused Refused m n h k = (refl, h.1 ∙ sym k.1)
  one_answer old new other event Refused NoMemory m n h k = absurd (n refl)
  one_answer old new other event NoMemory b m n h k = absurd (m refl)

  not_first : (a : StepAnswer) (answers : List StepAnswer) → (Contains (a ∷ answers) NoMemory → ⊥) → a ≡ NoMemory → ⊥
  not_first a answers none same = none (subst (λ (x : StepAnswer). Contains (a ∷ answers) x) same (contains_first a answers))

  pub one_play : (old new other : List Phase) (events : List Event) (answers others : List StepAnswer)
      → Played arena first log old events answers new → Played arena first log old events others other
      → (Contains answers NoMemory → ⊥) → (Contains others NoMemory → ⊥) → (answers ≡ others) × (new ≡ other)
  one_play old new other [] [] [] h k m n = (refl, h ∙ sym k)
  one_play old new other [] [] (b ∷ others) h k m n = absurd k
  one_play old new other [] (a ∷ answers) others h k m n = absurd h
  one_play old new other (e ∷ events) [] others h k m n = absurd h
  one_play old new other (e ∷ events) (a ∷ answers) [] h k m n = absurd k
  one_play old new other (e ∷ events) (a ∷ answers) (b ∷ others) h k m n =
      let one = one_answer old h.0 k.0 e a b (not_first a answers m) (not_first b others n) h.1 k.1 in
      let rest = one_play h.0 new other events answers others h.2 (subst (λ (ps : List Phase). Played arena first log ps events others other) (sym one.1) k.2)
      (λ has. m (contains_later a answers NoMemory has)) (λ has. n (contains_later b others NoMemory has)) in
      (ap (λ (x : StepAnswer). x ∷ answers) one.0 ∙ ap (λ xs. b ∷ xs) rest.0, rest.1)

pub plays_alike : OnePlay
plays_alike = one_play
