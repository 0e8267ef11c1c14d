-- Phases of lanes: what their words and their slots tell, and one lane's going on.
use Rattle.std.proofs.Common.{◌≡◌, ◌≢◌, ℕ, suc, List, sym, refl, ap, ◌∙◌, subst, arith, suc-ne-zero}
use mathlib.Core.Option.{some}
use mathlib.Core.Option as maybe
use native.Mathlib.Decide.{ℕ_discrete}
use lib.ListN.{get_elem?}
use Rattle.std.specs.Prelude.{Option, Some, None}
use Rattle.hand_off.specs.declared.state.LaneState.{LaneState}
use Rattle.hand_off.specs.declared.view.Known.{Known}
use Rattle.hand_off.specs.declared.view.Known.TheVariants as known
use Rattle.hand_off.specs.declared.view.Load.{Load}
use Rattle.hand_off.specs.declared.view.Load.TheVariants.{Job, Done}
use Rattle.hand_off.specs.Words.{word_of}
use Rattle.hand_off.specs.Rule.{Phase, idle, filling, waiting, taken, finished, draining, Claimant, nobody, by, state_of, known_of, Lies}

abbrev pub pick : {X P : Type 0} → Dec P → X → X → X
pick (yes _) a b = a
pick (no _) a b = b

-- a function that is changed at one place
pub put_at : {X : Type 0} → (ℕ → X) → ℕ → X → ℕ → X
put_at f i x j = pick (ℕ_discrete j i) x (f j)

-- what holds of the new value at i, and of each other place's, holds after
pub at_put : {X : Type 0} (f : ℕ → X) (i : ℕ) (x : X) (F : ℕ → X → Type 0) (j : ℕ) → (j ≡ i → F i x) → (j ≢ i → F j (f j)) → F j (put_at f i x j)
unfolding put_at
at_put f i x F j here other = go (ℕ_discrete j i)
  where
    go : (d : Dec (j ≡ i)) → F j (pick d x (f j))
    go (yes e) = subst (λ (k : ℕ). F k x) (sym e) (here e)
    go (no n) = other n

pub put_here : {X : Type 0} (f : ℕ → X) (i : ℕ) (x : X) → put_at f i x i ≡ x
put_here f i x = at_put f i x (λ k y. k ≡ i → y ≡ x) i (λ _ _. refl) (λ n. absurd (n refl)) refl

pub put_other : {X : Type 0} (f : ℕ → X) (i : ℕ) (x : X) (j : ℕ) → j ≢ i → put_at f i x j ≡ f j
put_other f i x j other = at_put f i x (λ k y. k ≡ j → y ≡ f j) j (λ e. absurd (other e)) (λ _ _. refl) refl

module _ {J : Type 0} where
  -- who has a lane: 0, or the seat's number and 1
  abbrev pub holder : Phase J → ℕ
  holder idle = 0
  holder filling = 0
  holder (waiting put job) = 0
  holder (taken id job) = suc id
  holder (finished job) = 0
  holder (draining job) = 0

  -- the put whose job waits: 0, or its number and 1
  abbrev pub awaited : Phase J → ℕ
  awaited idle = 0
  awaited filling = 0
  awaited (waiting put job) = suc put
  awaited (taken id job) = 0
  awaited (finished job) = 0
  awaited (draining job) = 0

  abbrev pub job_in : J → Phase J → J
  job_in x idle = x
  job_in x filling = x
  job_in x (waiting put job) = job
  job_in x (taken id job) = job
  job_in x (finished job) = job
  job_in x (draining job) = job

  pub not_idle : (p : Phase J) → word_of (state_of p) ≢ 0 → known_of p ≢ known.Idle
  not_idle p ne e = ne (clue (known_of p) p refl e)
    where
      mark : Known J → ℕ
      mark known.Idle = 0
      mark known.Filling = 1
      mark (known.Put j) = 2
      mark (known.Draining j) = 3

      clue : (x : Known J) (q : Phase J) → known_of q ≡ x → x ≡ known.Idle → word_of (state_of q) ≡ 0
      clue x idle a b = refl
      clue x filling a b = absurd (suc-ne-zero 0 (ap mark (a ∙ b)))
      clue x (waiting p j) a b = absurd (suc-ne-zero 1 (ap mark (a ∙ b)))
      clue x (taken id j) a b = absurd (suc-ne-zero 1 (ap mark (a ∙ b)))
      clue x (finished j) a b = absurd (suc-ne-zero 1 (ap mark (a ∙ b)))
      clue x (draining j) a b = absurd (suc-ne-zero 2 (ap mark (a ∙ b)))

  -- for a lane that is out with the scheduler, what it knows says which phase
  pub at_filling : (p : Phase J) → known_of p ≡ known.Filling → p ≡ filling
  at_filling p e = clue (known_of p) p refl e
    where
      mark : Known J → ℕ
      mark known.Idle = 1
      mark known.Filling = 0
      mark (known.Put j) = 2
      mark (known.Draining j) = 3

      clue : (x : Known J) (q : Phase J) → known_of q ≡ x → x ≡ known.Filling → q ≡ filling
      clue x idle a b = absurd (suc-ne-zero 0 (ap mark (a ∙ b)))
      clue x filling a b = refl
      clue x (waiting p j) a b = absurd (suc-ne-zero 1 (ap mark (a ∙ b)))
      clue x (taken id j) a b = absurd (suc-ne-zero 1 (ap mark (a ∙ b)))
      clue x (finished j) a b = absurd (suc-ne-zero 1 (ap mark (a ∙ b)))
      clue x (draining j) a b = absurd (suc-ne-zero 2 (ap mark (a ∙ b)))

  pub at_draining : (p : Phase J) (j : J) → known_of p ≡ known.Draining j → holder p ≡ 0
  at_draining p j e = clue p (ap mark e)
    where
      mark : Known J → ℕ
      mark known.Idle = 0
      mark known.Filling = 1
      mark (known.Put j) = 2
      mark (known.Draining j) = 3

      clue : (q : Phase J) → mark (known_of q) ≡ 3 → holder q ≡ 0
      clue idle m = refl
      clue filling m = refl
      clue (waiting p j) m = refl
      clue (taken id j) m = absurd (omega arith)
      clue (finished j) m = refl
      clue (draining j) m = refl

  -- a lane with another word than this state's is in another state
  pub other_state : (p : Phase J) (x : LaneState) → word_of (state_of p) ≢ word_of x → state_of p ≢ x
  other_state p x ne e = ne (ap word_of e)

module _ {J D : Type 0} (comes_of : J → D → Type 0) where
  abbrev pub Homes : Type 0
  Homes = List (maybe.Option (Option (Load J D)))

  pub at_idle : (homes : Homes) (i : ℕ) (p : Phase J) → word_of (state_of p) ≡ 0 → Lies comes_of homes i p → (p ≡ idle) × (get_elem? homes i ≡ some (some None))
  at_idle homes i idle e k = (refl, k)
  at_idle homes i filling e k = absurd (omega arith)
  at_idle homes i (waiting q j) e k = absurd (omega arith)
  at_idle homes i (taken id j) e k = absurd (omega arith)
  at_idle homes i (finished j) e k = absurd (omega arith)
  at_idle homes i (draining j) e k = absurd (omega arith)

  pub at_waiting : (homes : Homes) (i : ℕ) (p : Phase J) → word_of (state_of p) ≡ 2 → Lies comes_of homes i p → (put : ℕ) × (job : J) × (p ≡ waiting put job) × (get_elem? homes i ≡ some (some (Some (Job job))))
  at_waiting homes i idle e k = absurd (omega arith)
  at_waiting homes i filling e k = absurd (omega arith)
  at_waiting homes i (waiting q j) e k = (q, j, refl, k)
  at_waiting homes i (taken id j) e k = absurd (omega arith)
  at_waiting homes i (finished j) e k = absurd (omega arith)
  at_waiting homes i (draining j) e k = absurd (omega arith)

  pub at_finished : (homes : Homes) (i : ℕ) (p : Phase J) → word_of (state_of p) ≡ 4 → Lies comes_of homes i p → (job : J) × (p ≡ finished job) × ((done : D) × comes_of job done × (get_elem? homes i ≡ some (some (Some (Done done)))))
  at_finished homes i idle e k = absurd (omega arith)
  at_finished homes i filling e k = absurd (omega arith)
  at_finished homes i (waiting q j) e k = absurd (omega arith)
  at_finished homes i (taken id j) e k = absurd (omega arith)
  at_finished homes i (finished j) e k = (j, refl, k)
  at_finished homes i (draining j) e k = absurd (omega arith)

  -- a slot that stays lies as it lay
  pub lies_stay : (homes after : Homes) (j : ℕ) (p : Phase J) → get_elem? after j ≡ get_elem? homes j → Lies comes_of homes j p → Lies comes_of after j p
  lies_stay homes after j idle e k = e ∙ k
  lies_stay homes after j filling e k = tt
  lies_stay homes after j (waiting q x) e k = e ∙ k
  lies_stay homes after j (taken id x) e k = tt
  lies_stay homes after j (finished x) e k = (k.0, k.1, e ∙ k.2)
  lies_stay homes after j (draining x) e k = tt

-- whether a put is claimed
abbrev pub times_claimed : Claimant → ℕ
times_claimed nobody = 0
times_claimed (by id k) = 1

abbrev pub seat_in : Claimant → ℕ
seat_in nobody = 0
seat_in (by id k) = id

abbrev pub place_in : Claimant → ℕ
place_in nobody = 0
place_in (by id k) = k
