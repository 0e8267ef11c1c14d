-- The end: all are settled.
use Rattle.std.proofs.Common.{◌≡◌, ◌≢◌, ◌<◌, ◌≤◌, ◌==◌, ◌&&◌, ℕ, zero, suc, nat_eq, nat_lt, Bool, true, false, List, [], ◌∷◌, length, map, Some, slice_get, refl, sym, ap, ◌∙◌, arith}
use Rattle.std.proofs.lemmas.Bool.Decides.{nat_tests}
use Rattle.std.specs.List.{list_all}
use Rattle.lock_tree.specs.Locks.{Locks}
use Rattle.row_store.specs.Stock.{Stock}
use Rattle.scheduler_core.specs.declared.phase.Phase.{Phase}
use Rattle.scheduler_core.specs.Phases.{is_done, is_settled}
use Rattle.scheduler.specs.declared.slot.Slot.{Slot}
use Rattle.scheduler.specs.Schedules.{Work, log_of, phase_in}
use Rattle.scheduler.specs.Scheduled.{IsFitting, IsScheduled, AreSettledBefore}
use Rattle.scheduler.proofs.Places.{length_map}
use Rattle.scheduler.proofs.Numbers.{log_length}

abbrev pub settled_one : Phase → Bool
settled_one p = is_settled (Some p)

pub all_where : (ps : List Phase) → ((i : ℕ) → i < length ps → is_settled (slice_get ps i) ≡ true) → list_all settled_one ps ≡ true
all_where [] h = refl
all_where (p ∷ ps) h = ap (λ b. b && list_all settled_one ps) (h 0 (omega arith)) ∙ all_where ps (λ i less. h (suc i) (omega (arith, less)))

pub both : (a b : Bool) → (a && b) ≡ true → (a ≡ true) × (b ≡ true)
both true true e = (refl, refl)
both true false e = absurd (cc)
both false b e = absurd (cc)

pub where_all : (ps : List Phase) → list_all settled_one ps ≡ true → (i : ℕ) → i < length ps → is_settled (slice_get ps i) ≡ true
where_all [] all i less = absurd (omega (arith, less))
where_all (p ∷ ps) all zero less = (both (settled_one p) (list_all settled_one ps) all).0
where_all (p ∷ ps) all (suc i) less = where_all ps (both (settled_one p) (list_all settled_one ps) all).1 i (omega (arith, less))

module _ (w : Work) (slots : List Slot) (stock : Stock) (tree : Locks) (fits : IsFitting w) (s : IsScheduled w slots stock tree) where
  counts : (length (map phase_in slots) ≡ length slots) × (length (log_of w) ≡ length w.entries) × (length (map phase_in slots) ≤ length (log_of w))
  counts = (length_map phase_in slots, log_length w.entries w.plans fits.plans, s.sound.within)

  pub done_where : (n : ℕ) → AreSettledBefore slots n → n ≡ length w.entries → is_done (log_of w) (map phase_in slots) ≡ true
  done_where n leading e =
      let c = counts in
      let l : n ≤ length slots = leading.within in
      let same : (length (map phase_in slots) == length (log_of w)) ≡ true = (let g : length (map phase_in slots) ≡ length (log_of w) = omega (arith, e, l, c.0, c.1, c.2) in grind (arith, nat_tests)) in
      ap (λ b. b && list_all settled_one (map phase_in slots)) same
      ∙ all_where (map phase_in slots) (λ i less. leading.before i (omega (arith, less, e, l, c.0, c.1, c.2)))

  pub all_done : (n : ℕ) → AreSettledBefore slots n → is_done (log_of w) (map phase_in slots) ≡ true → n ≡ length w.entries
  all_done n leading d =
      let c = counts in
      let b = both (length (map phase_in slots) == length (log_of w)) (list_all settled_one (map phase_in slots)) d in
      let same : length (map phase_in slots) ≡ length (log_of w) = (let t = b.0 in grind (arith, nat_tests)) in
      let l : n ≤ length slots = leading.within in
      elim (nat_lt n (length (map phase_in slots))) as (λ t. nat_lt n (length (map phase_in slots)) ≡ t → n ≡ length w.entries) [
        | true ↦ λ t. absurd (
            let less : n < length (map phase_in slots) = grind (arith, nat_tests) in
            let g : true ≡ false = sym (where_all (map phase_in slots) b.1 n less) ∙ leading.next in cc)
        | false ↦ λ t. let past : length (map phase_in slots) ≤ n = grind (arith, nat_tests) in omega (arith, past, same, l, c.0, c.1)
      ] refl

  pub done_test : (n : ℕ) → AreSettledBefore slots n → nat_eq n (length w.entries) ≡ is_done (log_of w) (map phase_in slots)
  done_test n leading = elim (is_done (log_of w) (map phase_in slots)) as (λ t. is_done (log_of w) (map phase_in slots) ≡ t → nat_eq n (length w.entries) ≡ t) [
    | true ↦ λ t. let e : n ≡ length w.entries = all_done n leading t in grind (arith, nat_tests)
    | false ↦ λ t. let d : n ≢ length w.entries = (λ e. let g : true ≡ false = sym (done_where n leading e) ∙ t in absurd (cc)) in grind (arith, nat_tests)
  ] refl

  -- no more are admitted than the log has
  pub admitted_within : length slots ≤ length w.entries
  admitted_within = let c = counts in omega (arith, c.0, c.1, c.2)
