-- The transactions that wait.
use Rattle.std.proofs.Common.{◌≡◌, ℕ, zero, suc, ◌+◌, ◌<◌, ◌≤◌, inl, inr, ◌==◌, false, cond, List, [], ◌∷◌, length, Option, None, Some, refl, sym, ◌∙◌, subst, arith, slice_get}
use Rattle.coarsen.specs.Subtrees.{Requests}
use Rattle.lock_tree.specs.Locks.{plan_of, AreAbove, IsRising}
use Rattle.lock_tree.specs.Enqueues.{AreBelow}
use Rattle.scheduler_core.specs.declared.phase.Phase.{Phase}
use Rattle.scheduler_core.specs.Transactions.{Transaction}
use Rattle.scheduler_core.specs.Phases.{is_settled}
use Rattle.scheduler_core.specs.Events.{waiting}
use Rattle.scheduler_core.proofs.Lists.{cases, none_some, some_is}
use Rattle.scheduler_core.proofs.Numbers.{same_number, numbers_same, lesser_number, greater_number}

abbrev open_plan : Option Transaction → Option Phase → Option Requests
open_plan None p = None
open_plan (Some t) None = None
open_plan (Some t) (Some p) = cond (is_settled (Some p)) None (Some t.plan)

none_open : (o : Option Transaction) → open_plan o None ≡ None
none_open None = refl
none_open (Some t) = refl

-- whose number is below the first isn't there
plan_before : (first : ℕ) (log : List Transaction) (phases : List Phase) (number : ℕ) → number < first → plan_of (waiting first log phases) number ≡ None
plan_before first [] phases number less = refl
plan_before first (t ∷ log) [] number less = refl
plan_before first (t ∷ log) (p ∷ phases) number less = elim (cases (is_settled (Some p))) [
  | inl gone ↦ rw gone (plan_before (suc first) log phases number (omega arith))
  | inr here ↦ rw (here, greater_number first number less) (plan_before (suc first) log phases number (omega arith))
]

plan_at : (first : ℕ) (log : List Transaction) (phases : List Phase) (i : ℕ) → plan_of (waiting first log phases) (first + i) ≡ open_plan (slice_get log i) (slice_get phases i)
plan_at first [] phases i = refl
plan_at first (t ∷ log) [] i = sym (none_open (slice_get (t ∷ log) i))
plan_at first (t ∷ log) (p ∷ phases) zero =
    let e : first + 0 ≡ first = omega arith in
    elim (cases (is_settled (Some p))) [
      | inl gone ↦ rw (gone, e) (plan_before (suc first) log phases first (omega arith))
      | inr here ↦ rw (here, e, same_number first) refl
    ]
plan_at first (t ∷ log) (p ∷ phases) (suc i) =
    let e : suc first + i ≡ first + suc i = omega arith in
    let rest : plan_of (waiting (suc first) log phases) (first + suc i) ≡ open_plan (slice_get log i) (slice_get phases i) =
    subst (λ (w : ℕ). plan_of (waiting (suc first) log phases) w ≡ open_plan (slice_get log i) (slice_get phases i)) e (plan_at (suc first) log phases i) in
    elim (cases (is_settled (Some p))) [
      | inl gone ↦ rw gone rest
      | inr here ↦ rw (here, lesser_number first (first + suc i) (omega arith)) rest
    ]

-- each that is admitted and unsettled is there
pub plan_there : (first : ℕ) (log : List Transaction) (phases : List Phase) (place : ℕ) (t : Transaction) (p : Phase) → slice_get log place ≡ Some t → slice_get phases place ≡ Some p
    → is_settled (Some p) ≡ false → plan_of (waiting first log phases) (first + place) ≡ Some t.plan
plan_there first log phases place t p at phase unsettled = plan_at first log phases place ∙ rw (at, phase, unsettled) refl

pub record IsThere (first : ℕ) (log : List Transaction) (phases : List Phase) (number : ℕ) (plan : Requests) : Type 0 where
  pub place : ℕ
  pub numbered : number ≡ first + place
  pub transaction : Transaction
  pub phase : Phase
  pub at : slice_get log place ≡ Some transaction
  pub phase_at : slice_get phases place ≡ Some phase
  pub unsettled : is_settled (Some phase) ≡ false
  pub plan_is : plan ≡ transaction.plan

deeper : (first : ℕ) (t : Transaction) (log : List Transaction) (p : Phase) (phases : List Phase) (number : ℕ) (plan : Requests)
    → IsThere (suc first) log phases number plan → IsThere first (t ∷ log) (p ∷ phases) number plan
deeper first t log p phases number plan h = record {
  place = suc h.place;
  numbered = (let e = h.numbered in omega (arith, e));
  transaction = h.transaction;
  phase = h.phase;
  at = h.at;
  phase_at = h.phase_at;
  unsettled = h.unsettled;
  plan_is = h.plan_is;
}

pub plan_from : (first : ℕ) (log : List Transaction) (phases : List Phase) (number : ℕ) (plan : Requests) → plan_of (waiting first log phases) number ≡ Some plan
    → IsThere first log phases number plan
plan_from first [] phases number plan is = absurd (none_some plan is)
plan_from first (t ∷ log) [] number plan is = absurd (none_some plan is)
plan_from first (t ∷ log) (p ∷ phases) number plan is = elim (cases (is_settled (Some p))) [
  | inl gone ↦ deeper first t log p phases number plan (plan_from (suc first) log phases number plan (rw gone at is))
  | inr here ↦ elim (cases (first == number)) [
    | inl same ↦ record {
      place = 0;
      numbered = (let e = numbers_same first number same in omega (arith, e));
      transaction = t;
      phase = p;
      at = refl;
      phase_at = refl;
      unsettled = here;
      plan_is = sym (some_is t.plan plan (rw (here, same) at is));
    }
    | inr other ↦ deeper first t log p phases number plan (plan_from (suc first) log phases number plan (rw (here, other) at is))
  ]
]

pub nothing_waits : (first : ℕ) (log : List Transaction) → waiting first log [] ≡ []
nothing_waits first [] = refl
nothing_waits first (t ∷ log) = refl

-- ---- in order

pub waits_below : (first : ℕ) (log : List Transaction) (phases : List Phase) (n : ℕ) → first + length phases ≤ n → AreBelow n (waiting first log phases)
waits_below first [] phases n le = tt
waits_below first (t ∷ log) [] n le = tt
waits_below first (t ∷ log) (p ∷ phases) n le = elim (cases (is_settled (Some p))) [
  | inl gone ↦ rw gone (waits_below (suc first) log phases n (omega arith))
  | inr here ↦ rw here ((omega arith, waits_below (suc first) log phases n (omega arith)))
]

waits_above : (first : ℕ) (log : List Transaction) (phases : List Phase) (n : ℕ) → n < first → AreAbove n (waiting first log phases)
waits_above first [] phases n less = tt
waits_above first (t ∷ log) [] n less = tt
waits_above first (t ∷ log) (p ∷ phases) n less = elim (cases (is_settled (Some p))) [
  | inl gone ↦ rw gone (waits_above (suc first) log phases n (omega arith))
  | inr here ↦ rw here ((less, waits_above (suc first) log phases n (omega arith)))
]

pub waits_rising : (first : ℕ) (log : List Transaction) (phases : List Phase) → IsRising (waiting first log phases)
waits_rising first [] phases = tt
waits_rising first (t ∷ log) [] = tt
waits_rising first (t ∷ log) (p ∷ phases) = elim (cases (is_settled (Some p))) [
  | inl gone ↦ rw gone (waits_rising (suc first) log phases)
  | inr here ↦ rw here ((waits_above (suc first) log phases first (omega arith), waits_rising (suc first) log phases))
]
