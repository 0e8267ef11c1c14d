-- The transactions that are ready and not out, and those to which rows may be lent.
use Rattle.std.proofs.Common.{◌≡◌, ℕ, zero, suc, ◌+◌, ◌≤◌, inl, inr, true, false, ◌&&◌, List, [], ◌∷◌, length, Option, None, Some, refl, sym, ◌∙◌, ap, subst, arith, slice_get}
use Rattle.std.specs.List.{Contains}
use Rattle.lock_tree.specs.Locks.{Waiting}
use Rattle.lock_tree.specs.Ready.{ready, IsOpen, IsNextReady}
use Rattle.scheduler_core.specs.declared.event.Event.TheVariants.{Lend}
use Rattle.scheduler_core.specs.declared.phase.Phase.{Phase}
use Rattle.scheduler_core.specs.declared.phase.Phase.TheVariants.{Idle}
use Rattle.scheduler_core.specs.Transactions.{Transaction}
use Rattle.scheduler_core.specs.Phases.{is_idle, is_out, is_settled, phase_of}
use Rattle.scheduler_core.specs.Events.{waiting, enabled}
use Rattle.scheduler_core.specs.Choices.{IsLeastLend}
use Rattle.scheduler_core.proofs.Lists.{cases, both, some_is, none_some, get_at, get_within, contains_first, contains_later, first_or_later, not_in_nothing}
use Rattle.scheduler_core.proofs.Numbers.{at_place, placed}
use Rattle.scheduler_core.proofs.PhaseTests.{idle_is, unmarked_idle}
use Rattle.scheduler_core.proofs.WaitChanges.{wait}

record Waits (first : ℕ) (log : List Transaction) (phases : List Phase) (w : Waiting) : Type 0 where
  pub place : ℕ
  pub transaction : Transaction
  pub phase : Phase
  pub at : slice_get log place ≡ Some transaction
  pub phase_at : slice_get phases place ≡ Some phase
  pub unsettled : is_settled (Some phase) ≡ false
  pub is : w ≡ wait (first + place) transaction (is_out (Some phase))

deeper : (first : ℕ) (t : Transaction) (log : List Transaction) (p : Phase) (phases : List Phase) (w : Waiting)
    → Waits (suc first) log phases w → Waits first (t ∷ log) (p ∷ phases) w
deeper first t log p phases w h =
    let e : suc first + h.place ≡ first + suc h.place = omega arith in
    record {
      place = suc h.place;
      transaction = h.transaction;
      phase = h.phase;
      at = h.at;
      phase_at = h.phase_at;
      unsettled = h.unsettled;
      is = h.is ∙ ap (λ (n : ℕ). wait n h.transaction (is_out (Some h.phase))) e;
    }

waits_from : (first : ℕ) (log : List Transaction) (phases : List Phase) (w : Waiting) → Contains (waiting first log phases) w → Waits first log phases w
waits_from first [] phases w there = absurd (not_in_nothing w there)
waits_from first (t ∷ log) [] w there = absurd (not_in_nothing w there)
waits_from first (t ∷ log) (p ∷ phases) w there = elim (cases (is_settled (Some p))) [
  | inl gone ↦ deeper first t log p phases w (waits_from (suc first) log phases w (rw gone at there))
  | inr here ↦ elim (first_or_later (wait first t (is_out (Some p))) (waiting (suc first) log phases) w (rw here at there)) [
    | inl same ↦
        let e : first ≡ first + 0 = omega arith in
        record {
          place = 0;
          transaction = t;
          phase = p;
          at = refl;
          phase_at = refl;
          unsettled = here;
          is = sym same ∙ ap (λ (n : ℕ). wait n t (is_out (Some p))) e;
        }
    | inr later ↦ deeper first t log p phases w (waits_from (suc first) log phases w later)
  ]
]

waits_there : (first : ℕ) (log : List Transaction) (phases : List Phase) (place : ℕ) (t : Transaction) (p : Phase) → slice_get log place ≡ Some t → slice_get phases place ≡ Some p
    → is_settled (Some p) ≡ false → Contains (waiting first log phases) (wait (first + place) t (is_out (Some p)))
waits_there first [] phases place t p at phase_at unsettled = absurd (none_some t at)
waits_there first (u ∷ log) [] place t p at phase_at unsettled = absurd (none_some p phase_at)
waits_there first (u ∷ log) (q ∷ phases) zero t p at phase_at unsettled =
    let e : first ≡ first + 0 = omega arith in
    let here : is_settled (Some q) ≡ false = ap (λ (x : Phase). is_settled (Some x)) (some_is q p phase_at) ∙ unsettled in
    let same : wait first u (is_out (Some q)) ≡ wait (first + 0) t (is_out (Some p)) =
    ap (λ (x : Transaction). wait first x (is_out (Some q))) (some_is u t at)
    ∙ ap (λ (x : Phase). wait first t (is_out (Some x))) (some_is q p phase_at)
    ∙ ap (λ (n : ℕ). wait n t (is_out (Some p))) e in
    rw here (subst (λ (w : Waiting). Contains (wait first u (is_out (Some q)) ∷ waiting (suc first) log phases) w) same (contains_first (wait first u (is_out (Some q))) (waiting (suc first) log phases)))
waits_there first (u ∷ log) (q ∷ phases) (suc place) t p at phase_at unsettled =
    let e : suc first + place ≡ first + suc place = omega arith in
    let rest : Contains (waiting (suc first) log phases) (wait (first + suc place) t (is_out (Some p))) =
    subst (λ (n : ℕ). Contains (waiting (suc first) log phases) (wait n t (is_out (Some p)))) e (waits_there (suc first) log phases place t p at phase_at unsettled) in
    elim (cases (is_settled (Some q))) [
      | inl gone ↦ rw gone rest
      | inr here ↦ rw here (contains_later (wait first u (is_out (Some q))) (waiting (suc first) log phases) (wait (first + suc place) t (is_out (Some p))) rest)
    ]

module _ (arena first : ℕ) (log : List Transaction) (phases : List Phase) where
  pub lend_there : (place : ℕ) → slice_get phases place ≡ Some Idle → ready (waiting first log phases) (first + place) ≡ true
      → enabled arena first log phases (Lend (first + place)) ≡ true
  lend_there place idle is_ready =
      ap (λ (o : Option Phase). is_idle o && ready (waiting first log phases) (first + place)) (at_place first phases place ∙ idle) ∙ is_ready

  pub lend_from : (number : ℕ) → enabled arena first log phases (Lend number) ≡ true
      → (place : ℕ) × (number ≡ first + place) × (slice_get phases place ≡ Some Idle) × (ready (waiting first log phases) (first + place) ≡ true)
  lend_from number can =
      let parts = both (is_idle (phase_of first phases number)) (ready (waiting first log phases) number) can in
      let (place, numbered, idle) = placed first phases number Idle (idle_is (phase_of first phases number) parts.0) in
      (place, numbered, idle, ap (ready (waiting first log phases)) (sym numbered) ∙ parts.1)

  open_lends : (w : Waiting) → IsOpen (waiting first log phases) w → enabled arena first log phases (Lend w.no) ≡ true
  open_lends w is_open =
      let h : Waits first log phases w = waits_from first log phases w is_open.there in
      let idle : h.phase ≡ Idle = unmarked_idle h.phase h.unsettled (sym (ap (λ (x : Waiting). x.marked) h.is) ∙ is_open.unmarked) in
      let numbered : w.no ≡ first + h.place = ap (λ (x : Waiting). x.no) h.is in
      subst (λ (n : ℕ). enabled arena first log phases (Lend n) ≡ true) (sym numbered)
      (lend_there h.place (h.phase_at ∙ ap (λ (x : Phase). Some x) idle) (sym (ap (ready (waiting first log phases)) numbered) ∙ is_open.is_ready))

  lends_open : length phases ≤ length log → (number : ℕ) → enabled arena first log phases (Lend number) ≡ true
      → (w : Waiting) × IsOpen (waiting first log phases) w × (w.no ≡ number)
  lends_open within number can =
      let (place, numbered, idle, is_ready) = lend_from number can in
      let inside = get_within phases place Idle idle in
      let (t, at) = get_at log place (omega (arith, inside, within)) in
      (wait (first + place) t false, record { there = waits_there first log phases place t Idle at idle refl; unmarked = refl; is_ready = is_ready }, sym numbered)

  pub next_ready_lends : (found : Option ℕ) → length phases ≤ length log → IsNextReady (waiting first log phases) found → IsLeastLend arena first log phases found
  next_ready_lends None within none = λ number. elim (cases (enabled arena first log phases (Lend number))) [
    | inr not ↦ not
    | inl can ↦ absurd (let h = lends_open within number can in none h.0 h.1)
  ]
  next_ready_lends (Some least) within (has, smallest) = (
    subst (λ (n : ℕ). enabled arena first log phases (Lend n) ≡ true) has.2 (open_lends has.0 has.1),
    λ number can. let h = lends_open within number can in subst (λ (n : ℕ). least ≤ n) h.2 (smallest h.0 h.1),
  )
