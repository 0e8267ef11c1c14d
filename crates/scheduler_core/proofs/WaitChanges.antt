-- How the transactions that wait change with the phases.
use Rattle.std.proofs.Common.{◌≡◌, ℕ, zero, suc, ◌+◌, ◌<◌, inl, inr, ◌==◌, Bool, true, false, List, [], ◌∷◌, ◌++◌, length, Some, refl, sym, ◌∙◌, ap, arith, slice_get, slice_set}
use Rattle.lock_tree.specs.Locks.{Waiting, without, with_mark}
use Rattle.scheduler_core.specs.declared.phase.Phase.{Phase}
use Rattle.scheduler_core.specs.declared.phase.Phase.TheVariants.{Idle, Settled}
use Rattle.scheduler_core.specs.Transactions.{Transaction}
use Rattle.scheduler_core.specs.Phases.{is_out, is_settled}
use Rattle.scheduler_core.specs.Events.{waiting}
use Rattle.scheduler_core.proofs.Lists.{cases, none_some, some_is}
use Rattle.scheduler_core.proofs.Numbers.{first_place, lesser_number, greater_number}
use Rattle.scheduler_core.proofs.Waits.{nothing_waits}

abbrev pub wait : ℕ → Transaction → Bool → Waiting
wait number t mark = record { no = number; plan = t.plan; marked = mark }

-- admitting appends
pub waits_pushed : (first : ℕ) (log : List Transaction) (phases : List Phase) (t : Transaction) → slice_get log (length phases) ≡ Some t
    → waiting first log (phases ++ Idle ∷ []) ≡ waiting first log phases ++ wait (first + length phases) t false ∷ []
waits_pushed first [] phases t is = absurd (none_some t is)
waits_pushed first (u ∷ log) [] t is =
    let e : first ≡ first + 0 = omega arith in
    ap (λ ws. wait first u false ∷ ws) (nothing_waits (suc first) log)
    ∙ ap (λ (x : Transaction). wait first x false ∷ []) (some_is u t is)
    ∙ ap (λ (w : ℕ). wait w t false ∷ []) e
waits_pushed first (u ∷ log) (p ∷ phases) t is =
    let e : suc first + length phases ≡ first + suc (length phases) = omega arith in
    let moved : waiting (suc first) log (phases ++ Idle ∷ []) ≡ waiting (suc first) log phases ++ wait (first + suc (length phases)) t false ∷ [] =
    waits_pushed (suc first) log phases t is ∙ ap (λ (w : ℕ). waiting (suc first) log phases ++ wait w t false ∷ []) e in
    elim (cases (is_settled (Some p))) [ inl gone ↦ rw gone moved | inr here ↦ rw here (ap (λ ws. wait first u (is_out (Some p)) ∷ ws) moved) ]

-- a change of phase that neither settles nor marks leaves them
pub waits_kept : (first : ℕ) (log : List Transaction) (phases : List Phase) (i : ℕ) (p q : Phase) → slice_get phases i ≡ Some p
    → is_settled (Some q) ≡ is_settled (Some p) → is_out (Some q) ≡ is_out (Some p) → waiting first log (slice_set phases i q) ≡ waiting first log phases
waits_kept first [] phases i p q is settles marks = refl
waits_kept first (u ∷ log) [] i p q is settles marks = absurd (none_some p is)
waits_kept first (u ∷ log) (r ∷ phases) zero p q is settles marks =
    let e : r ≡ p = some_is r p is in
    let settles' : is_settled (Some q) ≡ is_settled (Some r) = settles ∙ ap (λ (x : Phase). is_settled (Some x)) (sym e) in
    let marks' : is_out (Some q) ≡ is_out (Some r) = marks ∙ ap (λ (x : Phase). is_out (Some x)) (sym e) in
    rw (settles', marks') refl
waits_kept first (u ∷ log) (r ∷ phases) (suc i) p q is settles marks = rw (waits_kept (suc first) log phases i p q is settles marks) refl

mark_before : (first : ℕ) (log : List Transaction) (phases : List Phase) (number : ℕ) (mark : Bool) → number < first
    → with_mark number mark (waiting first log phases) ≡ waiting first log phases
mark_before first [] phases number mark less = refl
mark_before first (u ∷ log) [] number mark less = refl
mark_before first (u ∷ log) (r ∷ phases) number mark less = elim (cases (is_settled (Some r))) [
  | inl gone ↦ rw gone (mark_before (suc first) log phases number mark (omega arith))
  | inr here ↦ rw (here, greater_number first number less) (ap (λ ws. wait first u (is_out (Some r)) ∷ ws) (mark_before (suc first) log phases number mark (omega arith)))
]

-- a change between not out and out changes the mark
pub waits_marked : (first : ℕ) (log : List Transaction) (phases : List Phase) (i : ℕ) (p q : Phase) → slice_get phases i ≡ Some p
    → is_settled (Some p) ≡ false → is_settled (Some q) ≡ false → waiting first log (slice_set phases i q) ≡ with_mark (first + i) (is_out (Some q)) (waiting first log phases)
waits_marked first [] phases i p q is open_p open_q = refl
waits_marked first (u ∷ log) [] i p q is open_p open_q = absurd (none_some p is)
waits_marked first (u ∷ log) (r ∷ phases) zero p q is open_p open_q =
    let same : (first == first + 0) ≡ true = first_place first in
    let open_r : is_settled (Some r) ≡ false = ap (λ (x : Phase). is_settled (Some x)) (some_is r p is) ∙ open_p in
    rw (open_r, open_q, same) (ap (λ ws. wait first u (is_out (Some q)) ∷ ws) (sym (mark_before (suc first) log phases (first + 0) (is_out (Some q)) (omega arith))))
waits_marked first (u ∷ log) (r ∷ phases) (suc i) p q is open_p open_q =
    let e : suc first + i ≡ first + suc i = omega arith in
    let rest : waiting (suc first) log (slice_set phases i q) ≡ with_mark (first + suc i) (is_out (Some q)) (waiting (suc first) log phases) =
    waits_marked (suc first) log phases i p q is open_p open_q ∙ ap (λ (w : ℕ). with_mark w (is_out (Some q)) (waiting (suc first) log phases)) e in
    elim (cases (is_settled (Some r))) [
      | inl gone ↦ rw gone rest
      | inr here ↦ rw (here, lesser_number first (first + suc i) (omega arith)) (ap (λ ws. wait first u (is_out (Some r)) ∷ ws) rest)
    ]

without_before : (first : ℕ) (log : List Transaction) (phases : List Phase) (number : ℕ) → number < first → without number (waiting first log phases) ≡ waiting first log phases
without_before first [] phases number less = refl
without_before first (u ∷ log) [] number less = refl
without_before first (u ∷ log) (r ∷ phases) number less = elim (cases (is_settled (Some r))) [
  | inl gone ↦ rw gone (without_before (suc first) log phases number (omega arith))
  | inr here ↦ rw (here, greater_number first number less) (ap (λ ws. wait first u (is_out (Some r)) ∷ ws) (without_before (suc first) log phases number (omega arith)))
]

-- settling takes that one out
pub waits_settled : (first : ℕ) (log : List Transaction) (phases : List Phase) (i : ℕ) (p : Phase) → slice_get phases i ≡ Some p
    → waiting first log (slice_set phases i Settled) ≡ without (first + i) (waiting first log phases)
waits_settled first [] phases i p is = refl
waits_settled first (u ∷ log) [] i p is = absurd (none_some p is)
waits_settled first (u ∷ log) (r ∷ phases) zero p is =
    let same : (first == first + 0) ≡ true = first_place first in
    let rest : waiting (suc first) log phases ≡ without (first + 0) (waiting (suc first) log phases) = sym (without_before (suc first) log phases (first + 0) (omega arith)) in
    elim (cases (is_settled (Some r))) [ inl gone ↦ rw gone rest | inr here ↦ rw (here, same) rest ]
waits_settled first (u ∷ log) (r ∷ phases) (suc i) p is =
    let e : suc first + i ≡ first + suc i = omega arith in
    let rest : waiting (suc first) log (slice_set phases i Settled) ≡ without (first + suc i) (waiting (suc first) log phases) =
    waits_settled (suc first) log phases i p is ∙ ap (λ (w : ℕ). without w (waiting (suc first) log phases)) e in
    elim (cases (is_settled (Some r))) [
      | inl gone ↦ rw gone rest
      | inr here ↦ rw (here, lesser_number first (first + suc i) (omega arith)) (ap (λ ws. wait first u (is_out (Some r)) ∷ ws) rest)
    ]
