-- What is out stays ready, event by event.
use Rattle.std.proofs.Common.{◌≡◌, ◌≢◌, ℕ, ◌+◌, ◌⊎◌, inl, inr, true, false, List, [], ◌∷◌, ◌++◌, length, Some, refl, sym, ◌∙◌, ap, arith, slice_get, slice_set}
use Rattle.lock_tree.specs.Locks.{Waiting, with_mark}
use Rattle.lock_tree.specs.Ready.{ready}
use Rattle.lock_tree.specs.Laws.{ReadyStays}
use Rattle.scheduler_core.specs.declared.phase.Phase.{Phase}
use Rattle.scheduler_core.specs.declared.phase.Phase.TheVariants.{Idle, Out, Ran, Settled}
use Rattle.scheduler_core.specs.Transactions.{Transaction}
use Rattle.scheduler_core.specs.Phases.{is_out}
use Rattle.scheduler_core.specs.Events.{waiting, OutAreReady}
use Rattle.scheduler_core.specs.Laws.{StaysReady}
use Rattle.scheduler_core.proofs.Lists.{split, true_false, get_set_same, get_set_other, push_test, set_test}
use Rattle.scheduler_core.proofs.PhaseTests.{out_is}
use Rattle.scheduler_core.proofs.WaitChanges.{waits_pushed, waits_kept, waits_marked, waits_settled}

same_or_other : (i k : ℕ) → (i ≡ k) ⊎ (i ≢ k)
same_or_other i k = elim (split i k) [
  | inl below ↦ inr (λ e. omega (arith, below, e))
  | inr rest ↦ elim rest [
    | inl same ↦ inl same
    | inr above ↦ inr (λ e. omega (arith, above, e))
  ]
]

-- what is out after a change at a place was out before it, or is the transaction there
out_before : (phases : List Phase) (place i : ℕ) (q : Phase) → i ≢ place → is_out (slice_get (slice_set phases place q) i) ≡ true → is_out (slice_get phases i) ≡ true
out_before phases place i q other out = sym (ap is_out (get_set_other phases place i q other)) ∙ out

not_out : (phases : List Phase) (place i : ℕ) (p q : Phase) → slice_get phases place ≡ Some p → i ≡ place → is_out (Some q) ≡ false → is_out (slice_get (slice_set phases place q) i) ≡ true → ⊥
not_out phases place i p q is here not out =
    true_false (is_out (slice_get (slice_set phases place q) i)) out (ap (λ (n : ℕ). is_out (slice_get (slice_set phases place q) n)) here ∙ ap is_out (get_set_same phases place p q is) ∙ not)

other_number : (first place i : ℕ) → i ≢ place → first + place ≢ first + i
other_number first place i other e = other (omega (arith, e))

module _ (law : ReadyStays) (first : ℕ) (log : List Transaction) where
  abbrev Good : List Phase → Type 0
  Good phases = OutAreReady first log phases

  -- marks make no difference
  ready_marked : (phases : List Phase) (place number : ℕ) (p q : Phase) → slice_get phases place ≡ Some p → waiting first log (slice_set phases place q) ≡ with_mark (first + place) (is_out (Some q)) (waiting first log phases)
      → ready (waiting first log phases) number ≡ true → ready (waiting first log (slice_set phases place q)) number ≡ true
  ready_marked phases place number p q is waits can =
      ap (λ (ws : List Waiting). ready ws number) waits ∙ law.marked (waiting first log phases) (first + place) (is_out (Some q)) number can

  after_admit : (phases : List Phase) (t : Transaction) → slice_get log (length phases) ≡ Some t → Good phases → Good (phases ++ Idle ∷ [])
  after_admit phases t is good i out =
      let was : is_out (slice_get phases i) ≡ true = sym (push_test is_out phases Idle refl i) ∙ out in
      ap (λ (ws : List Waiting). ready ws (first + i)) (waits_pushed first log phases t is) ∙ law.enqueued (waiting first log phases) _ (first + i) (good i was)

  after_lend : (phases : List Phase) (place : ℕ) → slice_get phases place ≡ Some Idle → ready (waiting first log phases) (first + place) ≡ true → Good phases → Good (slice_set phases place Out)
  after_lend phases place is can good i out =
      let waits = waits_marked first log phases place Idle Out is refl refl in
      elim (same_or_other i place) [
        | inl here ↦
            ap (λ (n : ℕ). ready (waiting first log (slice_set phases place Out)) (first + n)) here
            ∙ ready_marked phases place (first + place) Idle Out is waits can
        | inr other ↦ ready_marked phases place (first + i) Idle Out is waits (good i (out_before phases place i Out other out))
      ]

  after_run : (phases : List Phase) (place : ℕ) → slice_get phases place ≡ Some Out → Good phases → Good (slice_set phases place Ran)
  after_run phases place is good i out =
      ap (λ (ws : List Waiting). ready ws (first + i)) (waits_kept first log phases place Out Ran is refl refl)
      ∙ good i (sym (set_test is_out phases place Out Ran is refl i) ∙ out)

  after_taking_back : (phases : List Phase) (place : ℕ) → is_out (slice_get phases place) ≡ true → Good phases → Good (slice_set phases place Idle)
  after_taking_back phases place was good i out =
      let (p, is, unsettled, still) = out_is (slice_get phases place) was in
      elim (same_or_other i place) [
        | inl here ↦ absurd (not_out phases place i p Idle is here refl out)
        | inr other ↦ ready_marked phases place (first + i) p Idle is (waits_marked first log phases place p Idle is unsettled refl) (good i (out_before phases place i Idle other out))
      ]

  given_back : (phases : List Phase) (place : ℕ) → is_out (slice_get phases place) ≡ true → Good phases → ready (waiting first log (slice_set phases place Idle)) (first + place) ≡ true
  given_back phases place was good =
      let (p, is, unsettled, still) = out_is (slice_get phases place) was in
      ready_marked phases place (first + place) p Idle is (waits_marked first log phases place p Idle is unsettled refl) (good place was)

  after_settling : (phases : List Phase) (place : ℕ) → is_out (slice_get phases place) ≡ true → Good phases → Good (slice_set phases place Settled)
  after_settling phases place was good i out =
      let (p, is, unsettled, still) = out_is (slice_get phases place) was in
      elim (same_or_other i place) [
        | inl here ↦ absurd (not_out phases place i p Settled is here refl out)
        | inr other ↦
            ap (λ (ws : List Waiting). ready ws (first + i)) (waits_settled first log phases place p is)
            ∙ law.released (waiting first log phases) (first + place) (first + i) (other_number first place i other) (good i (out_before phases place i Settled other out))
      ]

  pub stays_ready : StaysReady first log
  stays_ready = record {
    starts = λ place out. absurd (cc);
    admits = after_admit;
    lends = after_lend;
    runs = after_run;
    takes_back = after_taking_back;
    gives_back = given_back;
    settles = after_settling;
  }
