-- What is true of the rows stays true, event by event.
use Rattle.std.proofs.Common.{◌≡◌, ◌≢◌, ℕ, ◌+◌, ◌<◌, ◌≤◌, inl, inr, ◌==◌, Bool, true, false, List, [], ◌∷◌, ◌++◌, length, Option, Some, refl, sym, ◌∙◌, ap, subst, arith, slice_get, slice_set}
use Rattle.std.specs.List.{list_all}
use Rattle.std.specs.FinMap.{get, same_map}
use Rattle.values.specs.declared.name.RowName.{RowName}
use Rattle.catalogue.specs.Shapes.{TableShape}
use Rattle.values.specs.Database.{Database}
use Rattle.proclang_types.specs.declared.right.Right.TheVariants.{Read, Write}
use Rattle.coarsen.specs.Clashes.{locks_row, ModesClash}
use Rattle.lock_tree.specs.Ready.{ready}
use Rattle.meaning.specs.Entries.{Reply}
use Rattle.meaning.specs.Serial.{serial_end}
use Rattle.scheduler_core.specs.declared.phase.Phase.{Phase}
use Rattle.scheduler_core.specs.declared.phase.Phase.TheVariants.{Idle, Out, Ran, Settled}
use Rattle.scheduler_core.specs.Transactions.{Transaction, entries_of, ArePlanned, AgreeOnLocked, locks_at, locks_of}
use Rattle.scheduler_core.specs.Serial.{serial_rows}
use Rattle.scheduler_core.specs.Phases.{is_out, is_settled, has_begun, is_done}
use Rattle.scheduler_core.specs.Events.{waiting}
use Rattle.scheduler_core.specs.Sound.{IsSound, IsLent, IsRun, IsRunOf}
use Rattle.scheduler_core.proofs.Lists.{cases, both, split, some_is, true_false, get_at, get_past, get_within, get_set_same, get_set_other, length_push, length_set, push_test, set_test, each_passes}
use Rattle.scheduler_core.proofs.Names.{names_total, exact_names}
use Rattle.scheduler_core.proofs.Numbers.{numbers_same}
use Rattle.scheduler_core.proofs.PhaseTests.{out_is, out_begun, settled_begun, out_unsettled}
use Rattle.scheduler_core.proofs.Waits.{plan_there, waits_rising}
use Rattle.scheduler_core.proofs.SerialRun.{next_rows, next_reply, last_rows}
use Rattle.scheduler_core.proofs.Orders.{IsLog, Closed, finds, current_more, current_first, current_last}
use Rattle.scheduler_core.proofs.LowerLaws.{LowerLaws, InConflict, reads, writes, is_log, locks_there, write_locks}

module _ (tables : List TableShape) (log : List Transaction) (start : Database) where
  abbrev pub Sound : List Phase → Database → Type 0
  Sound phases rows = IsSound tables log start phases rows

  -- all before a place that are in conflict with the transaction there have settled
  abbrev pub IsFree : List Phase → ℕ → Type 0
  IsFree phases place = (i : ℕ) (t u : Transaction) → i < place → slice_get log i ≡ Some t → slice_get log place ≡ Some u → ModesClash t.plan u.plan
      → is_settled (slice_get phases i) ≡ true

  abbrev pub settled_in : List Phase → ℕ → Bool
  settled_in phases i = is_settled (slice_get phases i)

  -- a change of phases that settles none, where what begins is free
  same_settled : (phases new : List Phase) (rows : Database) → length new ≤ length log → ((i : ℕ) → settled_in new i ≡ settled_in phases i)
      → ((k : ℕ) → has_begun (slice_get new k) ≡ true → IsFree phases k) → Sound phases rows → Sound new rows
  same_settled phases new rows within same begun s = record {
    within = within;
    conflicts_settled = λ i k t u less at_i at_k has conflicts. same i ∙ begun k has i t u less at_i at_k conflicts;
    current = λ name place below above. s.current name place (λ i less written. sym (same i) ∙ below i less written) (λ i more written. sym (same i) ∙ above i more written);
  }

  begun_free : (phases : List Phase) (rows : Database) (k : ℕ) → Sound phases rows → has_begun (slice_get phases k) ≡ true → IsFree phases k
  begun_free phases rows k s has i t u less at_i at_k conflicts = s.conflicts_settled i k t u less at_i at_k has conflicts

  pub sound_admit : (phases : List Phase) (rows : Database) → Sound phases rows → length phases < length log → Sound (phases ++ Idle ∷ []) rows
  sound_admit phases rows s room =
      same_settled phases (phases ++ Idle ∷ []) rows (let e = length_push phases Idle in omega (arith, e))
      (push_test is_settled phases Idle refl)
      (λ k has. begun_free phases rows k s (sym (push_test has_begun phases Idle refl k) ∙ has)) s

  -- a change of phase that does not settle
  pub sound_phase : (phases : List Phase) (rows : Database) (place : ℕ) (p q : Phase) → Sound phases rows → slice_get phases place ≡ Some p
      → is_settled (Some p) ≡ false → is_settled (Some q) ≡ false → (has_begun (Some q) ≡ true → IsFree phases place) → Sound (slice_set phases place q) rows
  sound_phase phases rows place p q s is open_p open_q free =
      same_settled phases (slice_set phases place q) rows (let e = length_set phases place q in let w = s.within in omega (arith, e, w))
      (set_test is_settled phases place p q is (open_q ∙ sym open_p))
      (λ k has. elim (split k place) [
        | inl below ↦ begun_free phases rows k s (sym (ap has_begun (get_set_other phases place k q (λ e. omega arith))) ∙ has)
        | inr rest ↦ elim rest [
          | inl same ↦ subst (λ (w : ℕ). IsFree phases w) (sym same) (free (sym (ap has_begun (ap (slice_get (slice_set phases place q)) same ∙ get_set_same phases place p q is)) ∙ has))
          | inr above ↦ begun_free phases rows k s (sym (ap has_begun (get_set_other phases place k q (λ e. omega arith))) ∙ has)
        ]
      ]) s

  pub sound_take_back : (phases : List Phase) (rows : Database) (place : ℕ) → Sound phases rows → is_out (slice_get phases place) ≡ true → Sound (slice_set phases place Idle) rows
  sound_take_back phases rows place s out =
      let (p, is, unsettled, still) = out_is (slice_get phases place) out in
      sound_phase phases rows place p Idle s is unsettled refl (λ h. absurd (cc))

  out_free : (phases : List Phase) (rows : Database) (place : ℕ) → Sound phases rows → is_out (slice_get phases place) ≡ true → IsFree phases place
  out_free phases rows place s out = begun_free phases rows place s (out_begun (slice_get phases place) out)

  pub sound_run : (phases : List Phase) (rows : Database) (place : ℕ) → Sound phases rows → slice_get phases place ≡ Some Out → Sound (slice_set phases place Ran) rows
  sound_run phases rows place s is = sound_phase phases rows place Out Ran s is refl refl (λ h. out_free phases rows place s (ap is_out is))

  pub same_rows : (phases : List Phase) (rows new : Database) → Sound phases rows → ((name : RowName) → get new name ≡ get rows name) → Sound phases new
  same_rows phases rows new s same = record { within = s.within; conflicts_settled = s.conflicts_settled; current = λ name place below above. same name ∙ s.current name place below above }

  module _ (laws : LowerLaws) (planned : ArePlanned tables log) where
    known : IsLog get (reads tables log) (writes tables log) (InConflict tables log) (serial_rows log start)
    known = is_log tables log laws start planned

    pub sound_start : Sound [] start
    sound_start = record {
      within = omega arith;
      conflicts_settled = λ i k t u less at_i at_k has conflicts. absurd (cc);
      current = current_first get (reads tables log) (writes tables log) (InConflict tables log) (serial_rows log start) known (settled_in []) (λ i. refl);
    }

    closed : (phases : List Phase) (rows : Database) → Sound phases rows
        → Closed get (reads tables log) (writes tables log) (InConflict tables log) (serial_rows log start) (settled_in phases)
    closed phases rows s i j less has (t, u, at_i, at_j, conflicts) = s.conflicts_settled i j t u less at_i at_j (settled_begun (slice_get phases j) has) conflicts

    -- what is ready is free
    pub ready_free : (first : ℕ) (phases : List Phase) (rows : Database) (place : ℕ) → Sound phases rows → slice_get phases place ≡ Some Idle
        → ready (waiting first log phases) (first + place) ≡ true → IsFree phases place
    ready_free first phases rows place s idle is_ready i t u less at_i at_place conflicts = elim (cases (is_settled (slice_get phases i))) [
      | inl has ↦ has
      | inr not ↦
          let inside = get_within phases place Idle idle in
          let (p, is) = get_at phases i (omega (arith, inside, less)) in
          let unsettled : is_settled (Some p) ≡ false = sym (ap is_settled is) ∙ not in
          absurd (laws.ready (waiting first log phases) (waits_rising first log phases) (first + i) (first + place) (omega (arith, less)) t.plan u.plan
          (plan_there first log phases i t p at_i is unsettled)
          (plan_there first log phases place u Idle at_place idle refl)
          (planned i t at_i).sound (planned place u at_place).sound is_ready conflicts)
    ]

    pub sound_lend : (first : ℕ) (phases : List Phase) (rows : Database) (place : ℕ) → Sound phases rows → slice_get phases place ≡ Some Idle
        → ready (waiting first log phases) (first + place) ≡ true → Sound (slice_set phases place Out) rows
    sound_lend first phases rows place s idle is_ready = sound_phase phases rows place Idle Out s idle refl refl (λ h. ready_free first phases rows place s idle is_ready)

    -- a free transaction finds the rows of the serial run
    pub finds_serial : (phases : List Phase) (rows : Database) (place : ℕ) → Sound phases rows → is_settled (slice_get phases place) ≡ false → IsFree phases place
        → (name : RowName) → locks_at tables log place name Read ≡ true → get rows name ≡ get (serial_rows log start place) name
    finds_serial phases rows place s unsettled free name locks =
        finds get (reads tables log) (writes tables log) (InConflict tables log) (serial_rows log start) known
        (settled_in phases) rows (closed phases rows s) s.current place unsettled
        (λ i less (t, u, at_i, at_place, conflicts). free i t u less at_i at_place conflicts) name locks

    pub lent_serial : (first : ℕ) (phases : List Phase) (rows : Database) (place : ℕ) (t : Transaction) (shown : Database) → Sound phases rows
        → slice_get phases place ≡ Some Idle → ready (waiting first log phases) (first + place) ≡ true → slice_get log place ≡ Some t
        → AgreeOnLocked tables t.plan shown rows → IsLent tables log start place shown
    lent_serial first phases rows place t shown s idle is_ready at shows u at_u name locks =
        let same : u ≡ t = some_is u t (sym at_u ∙ at) in
        shows name (sym (ap (λ (x : Transaction). locks_row tables x.plan name Read) same) ∙ locks)
        ∙ finds_serial phases rows place s (ap is_settled idle) (ready_free first phases rows place s idle is_ready) name (locks_there tables log place u name Read at_u ∙ locks)

    pub out_serial : (phases : List Phase) (rows : Database) (place : ℕ) (t : Transaction) → Sound phases rows → is_out (slice_get phases place) ≡ true
        → slice_get log place ≡ Some t → AgreeOnLocked tables t.plan rows (serial_rows log start place)
    out_serial phases rows place t s out at name locks =
        finds_serial phases rows place s (out_unsettled (slice_get phases place) out) (out_free phases rows place s out) name (locks_there tables log place t name Read at ∙ locks)

    pub run_serial : (place : ℕ) (t : Transaction) (shown : Database) (reply : Reply) (after : Database) → slice_get log place ≡ Some t
        → IsLent tables log start place shown → IsRunOf tables t shown reply after → IsRun tables log start place reply after
    run_serial place t shown reply after at is_lent is_run = record {
      replied = next_reply log start place t at ∙ ap (λ (r : Reply). Some r) (is_run.replies (serial_rows log start place) (is_lent t at));
      written = λ u at_u name locks.
          let same : u ≡ t = some_is u t (sym at_u ∙ at) in
          is_run.leaves (serial_rows log start place) (is_lent t at) name (write_locks tables log t.plan name (sym (ap (λ (x : Transaction). locks_row tables x.plan name Write) same) ∙ locks))
          ∙ sym (ap (λ (db : Database). get db name) (next_rows log start place t at));
    }

    pub sound_settle : (phases : List Phase) (rows new : Database) (place : ℕ) (t : Transaction) (reply : Reply) (after : Database) → Sound phases rows
        → is_out (slice_get phases place) ≡ true → slice_get log place ≡ Some t → IsRun tables log start place reply after
        → ((name : RowName) → locks_row tables t.plan name Write ≡ true → get new name ≡ get after name)
        → ((name : RowName) → locks_row tables t.plan name Write ≡ false → get new name ≡ get rows name)
        → Sound (slice_set phases place Settled) new
    sound_settle phases rows new place t reply after s out at run written kept =
        let (p, is, unsettled, still) = out_is (slice_get phases place) out in
        let now : settled_in (slice_set phases place Settled) place ≡ true = ap is_settled (get_set_same phases place p Settled is) in
        let others : (i : ℕ) → i ≢ place → settled_in (slice_set phases place Settled) i ≡ settled_in phases i = λ i apart. ap is_settled (get_set_other phases place i Settled apart) in
        let grows : (i : ℕ) → settled_in phases i ≡ true → settled_in (slice_set phases place Settled) i ≡ true = λ i has.
        others i (λ e. true_false (settled_in phases i) has (ap (settled_in phases) e ∙ out_unsettled (slice_get phases place) out)) ∙ has in
        let begun : (k : ℕ) → has_begun (slice_get (slice_set phases place Settled) k) ≡ has_begun (slice_get phases k) =
        set_test has_begun phases place p Settled is (sym (sym (ap has_begun is) ∙ out_begun (slice_get phases place) out)) in
        record {
          within = (let e = length_set phases place Settled in let w = s.within in omega (arith, e, w));
          conflicts_settled = λ i k a b less at_i at_k has conflicts. grows i (s.conflicts_settled i k a b less at_i at_k (sym (begun k) ∙ has) conflicts);
          current = current_more get (reads tables log) (writes tables log) (InConflict tables log) (serial_rows log start) known
              (settled_in phases) (settled_in (slice_set phases place Settled)) rows new place (closed phases rows s) s.current (out_unsettled (slice_get phases place) out)
              (λ name locks. written name (sym (locks_there tables log place t name Write at) ∙ locks) ∙ run.written t at name (sym (locks_there tables log place t name Write at) ∙ locks))
              (λ name free. kept name (sym (locks_there tables log place t name Write at) ∙ free))
              now others;
        }

    apart_in_order : (phases : List Phase) (rows : Database) (i k : ℕ) (t u : Transaction) → Sound phases rows → i < k → is_out (slice_get phases i) ≡ true
        → is_out (slice_get phases k) ≡ true → slice_get log i ≡ Some t → slice_get log k ≡ Some u → ModesClash t.plan u.plan → ⊥
    apart_in_order phases rows i k t u s less out_i out_k at_i at_k conflicts =
        true_false (settled_in phases i) (out_free phases rows k s out_k i t u less at_i at_k conflicts) (out_unsettled (slice_get phases i) out_i)

    pub outs_are_apart : (phases : List Phase) (rows : Database) (i k : ℕ) (t u : Transaction) → Sound phases rows → i ≢ k → is_out (slice_get phases i) ≡ true
        → is_out (slice_get phases k) ≡ true → slice_get log i ≡ Some t → slice_get log k ≡ Some u → ModesClash t.plan u.plan → ⊥
    outs_are_apart phases rows i k t u s differ out_i out_k at_i at_k conflicts = elim (split i k) [
      | inl less ↦ apart_in_order phases rows i k t u s less out_i out_k at_i at_k conflicts
      | inr rest ↦ elim rest [
        | inl same ↦ differ same
        | inr more ↦ apart_in_order phases rows k i u t s more out_k out_i at_k at_i (laws.turned.requests t.plan u.plan conflicts)
      ]
    ]

    pub lends_are_apart : (first : ℕ) (phases : List Phase) (rows : Database) (place other : ℕ) (t u : Transaction) → Sound phases rows
        → slice_get phases place ≡ Some Idle → ready (waiting first log phases) (first + place) ≡ true → is_out (slice_get phases other) ≡ true
        → slice_get log place ≡ Some t → slice_get log other ≡ Some u → ModesClash t.plan u.plan → ⊥
    lends_are_apart first phases rows place other t u s idle is_ready out at_t at_u conflicts = elim (split place other) [
      | inl less ↦ true_false (settled_in phases place) (out_free phases rows other s out place t u less at_t at_u conflicts) (ap is_settled idle)
      | inr rest ↦ elim rest [
        | inl same ↦ true_false (is_out (slice_get phases other)) out (ap (λ (w : ℕ). is_out (slice_get phases w)) (sym same) ∙ ap is_out idle)
        | inr more ↦ true_false (settled_in phases other)
            (ready_free first phases rows place s idle is_ready other u t more at_u at_t (laws.turned.requests t.plan u.plan conflicts))
            (out_unsettled (slice_get phases other) out)
      ]
    ]

    pub ends_serially : (phases : List Phase) (rows : Database) → Sound phases rows → is_done log phases ≡ true → rows ≡ serial_end (entries_of log) start
    ends_serially phases rows s done =
        let parts = both (length phases == length log) (list_all (λ p. is_settled (Some p)) phases) done in
        let same : length phases ≡ length log = numbers_same (length phases) (length log) parts.0 in
        let all : (i : ℕ) → i < length log → settled_in phases i ≡ true = λ i less.
        (let (p, is) = get_at phases i (omega (arith, same, less)) in ap is_settled is ∙ each_passes (λ q. is_settled (Some q)) phases i p parts.1 is) in
        let past : (i : ℕ) (name : RowName) → length log ≤ i → locks_at tables log i name Write ≡ false = λ i name more. ap (λ (o : Option Transaction). locks_of tables o name Write) (get_past log i more) in
        same_map names_total exact_names rows (serial_rows log start (length log))
        (current_last get (reads tables log) (writes tables log) (InConflict tables log) (serial_rows log start) known
        (settled_in phases) rows (length log) s.current all past)
        ∙ last_rows log start
