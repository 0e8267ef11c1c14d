-- The next transaction where those that are admitted stand aside.
use Rattle.std.proofs.Common.{◌≡◌, ◌<◌, ◌≤◌, ◌+◌, ◌-◌, ◌++◌, ◌∷◌, [], ℕ, zero, suc, true, false, List, length, get_or, map, Some, None, slice_get, sym, ap, ◌∙◌, subst, arith, ◌⊎◌, inl, inr}
use Rattle.std.proofs.lemmas.Option.{slice_get_within, slice_get-get_or}
use Rattle.coarsen.specs.Subtrees.{Requests}
use Rattle.coarsen.specs.Plans.{IsWellFormed}
use Rattle.coarsen.specs.Clashes.{ModesClash}
use Rattle.lock_tree.specs.Locks.{Locks}
use Rattle.lock_tree.specs.Ready.{ready}
use Rattle.lock_tree.specs.Laws.{ReadyBeside}
use Rattle.interp.specs.Entries.{EntryParts, entry_shape}
use Rattle.row_store.specs.Stock.{Stock}
use Rattle.scheduler_core.specs.declared.phase.Phase.{Phase}
use Rattle.scheduler_core.specs.Transactions.{Transaction}
use Rattle.scheduler_core.specs.Phases.{is_out, is_settled}
use Rattle.scheduler_core.specs.Events.{waiting}
use Rattle.scheduler_core.specs.Laws.{FollowsPhases}
use Rattle.scheduler.specs.declared.slot.Slot.{Slot}
use Rattle.scheduler.specs.Logs.{transactions_of}
use Rattle.scheduler.specs.Schedules.{Work, log_of, phase_in}
use Rattle.scheduler.specs.Scheduled.{IsFitting, IsScheduled, AreSettledBefore, AreMade, StandsAside}
use Rattle.scheduler.proofs.Places.{length_map}

-- the plan of a transaction of the log
plan_at : (entries : List EntryParts) (plans : List Requests) (place : ℕ) (t : Transaction) → slice_get (transactions_of entries plans) place ≡ Some t → slice_get plans place ≡ Some t.plan
plan_at [] plans place t is = absurd (let g : None ≡ Some t = is in cc)
plan_at (e ∷ entries) [] place t is = absurd (let g : None ≡ Some t = is in cc)
plan_at (e ∷ entries) (p ∷ plans) zero t is = ap (λ (x : Transaction). Some x.plan) (let g : Some (record { entry = entry_shape e; plan = p }) ≡ Some t = is in let s : record { entry = entry_shape e; plan = p } ≡ t = cc in s)
plan_at (e ∷ entries) (p ∷ plans) (suc place) t is = plan_at entries plans place t is

before_or_not : (a b : ℕ) → (a < b) ⊎ (b ≤ a)
before_or_not a zero = inr (omega arith)
before_or_not zero (suc b) = inl (omega arith)
before_or_not (suc a) (suc b) = elim (before_or_not a b) [
  | inl l ↦ inl (omega (arith, l))
  | inr l ↦ inr (omega (arith, l))
]

module _ (w : Work) (follows : FollowsPhases w.first (log_of w)) (law : ReadyBeside) (fits : IsFitting w) (slots : List Slot) (stock : Stock) (tree : Locks) (s : IsScheduled w slots stock tree)
    (settled from : ℕ) (made : List Requests) (leading : AreSettledBefore slots settled) (are : AreMade w.plans settled (length slots) from made) (plan : Requests)
    (aside : (place : ℕ) → settled ≤ place → place < length slots → StandsAside (slice_get (map phase_in slots) place) (slice_get made (place - from)) plan) where
  abbrev ps : List Phase
  ps = map phase_in slots

  -- one that waits is out, and its plan is in no conflict with this one
  one : (place : ℕ) (t : Transaction) (p : Phase) → slice_get (log_of w) place ≡ Some t → slice_get ps place ≡ Some p → is_settled (Some p) ≡ false
      → (is_out (slice_get ps place) ≡ true) × (ModesClash t.plan plan → ⊥)
  one place t p at here open_yet = elim (before_or_not place settled) [
    | inl less ↦ absurd (let g : true ≡ false = sym (leading.before place less) ∙ ap is_settled here ∙ open_yet in cc)
    | inr enough ↦
        let count : length ps ≡ length slots = length_map phase_in slots in
        let within : place < length ps = slice_get_within ps place p here in
        let less : place < length slots = omega (arith, within, count) in
        let begun : from ≤ settled = are.begun in
        let many : length slots ≤ from + length made = are.admitted (omega (arith, enough, less)) in
        let own : slice_get made (place - from) ≡ Some (get_or made (place - from) plan) = slice_get-get_or made (place - from) plan (omega (arith, begun, many, enough, less)) in
        let its : slice_get w.plans place ≡ Some (get_or made (place - from) plan) = are.are_plans place (get_or made (place - from) plan) (omega (arith, begun, enough)) own in
        let a = aside place enough less (ap is_settled here ∙ open_yet) in
        (a.0, a.1 t.plan (own ∙ sym its ∙ plan_at w.entries w.plans place t at))
  ]

  -- so the next one with this plan is ready
  pub joins_aside : (t : Transaction) → slice_get (log_of w) (length slots) ≡ Some t → t.plan ≡ plan
      → ready (tree.waiting ++ record { no = w.first + length slots; plan = plan; marked = false } ∷ []) (w.first + length slots) ≡ true
  joins_aside t at its =
      let count : length ps ≡ length slots = length_map phase_in slots in
      let waits = waiting w.first (log_of w) ps in
      let sound = subst IsWellFormed its (fits.planned (length slots) t at).sound in
      ap (λ (l : Locks). ready (l.waiting ++ record { no = w.first + length slots; plan = plan; marked = false } ∷ []) (w.first + length slots)) s.tree_is
      ∙ ap (λ (n : ℕ). ready (waits ++ record { no = w.first + n; plan = plan; marked = false } ∷ []) (w.first + n)) (sym count)
      ∙ law waits (follows.rising ps) (w.first + length ps) (follows.below ps) plan sound
      (λ other p there.
      let u = follows.only ps other p there in
      let it = one u.0 u.1 u.2 u.4 u.5 u.6 in (
        ap (ready waits) u.3 ∙ s.ready u.0 it.0,
        λ conflict. it.1 (subst (λ (q : Requests). ModesClash q plan) u.7 conflict),
      ))
