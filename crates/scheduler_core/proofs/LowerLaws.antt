-- What the core takes from the crates below it, and what it makes of a log.
use Rattle.std.proofs.Common.{◌≡◌, ℕ, suc, inl, inr, nat_le, Bool, true, false, List, length, Option, None, Some, refl, sym, ◌∙◌, ap, arith, slice_get}
use Rattle.std.specs.FinMap.{get}
use Rattle.std.proofs.lemmas.Bool.Decides.{nat_tests}
use Rattle.values.specs.declared.name.RowName.{RowName}
use Rattle.catalogue.specs.Shapes.{TableShape}
use Rattle.values.specs.Database.{Database}
use Rattle.proclang_types.specs.declared.right.Right.{Right}
use Rattle.proclang_types.specs.declared.right.Right.TheVariants.{Read, Write}
use Rattle.footprint.specs.Tree.{row_resource}
use Rattle.coarsen.specs.Subtrees.{Requests, own_over}
use Rattle.coarsen.specs.Clashes.{locks_row, ModesClash}
use Rattle.coarsen.specs.Laws.{LockedRowsConflict, ClashEitherWay}
use Rattle.meaning.specs.Entries.{EntryShape}
use Rattle.meaning.specs.Frame.{touches, Agree, StaysInFootprint}
use Rattle.lock_tree.specs.Laws.{ReadyApart}
use Rattle.scheduler_core.specs.Transactions.{Transaction, IsPlanned, ArePlanned, locks_of, locks_at}
use Rattle.scheduler_core.specs.Serial.{serial_rows}
use Rattle.scheduler_core.proofs.Lists.{cases, split, true_false, get_at}
use Rattle.scheduler_core.proofs.Orders.{IsLog}
use Rattle.scheduler_core.proofs.SerialRun.{next_rows, past_rows}

abbrev pub FrameLaw : Type 0
FrameLaw = (entry : EntryShape) (one two : Database) → Agree entry one two → StaysInFootprint entry one two

pub record LowerLaws : Type 0 where
  pub frame : FrameLaw
  pub locked : LockedRowsConflict
  pub turned : ClashEitherWay
  pub ready : ReadyApart

-- the names that the transaction at a place covers and writes, by its plan
abbrev pub reads : List TableShape → List Transaction → ℕ → RowName → Bool
reads tables log place name = locks_at tables log place name Read

abbrev pub writes : List TableShape → List Transaction → ℕ → RowName → Bool
writes tables log place name = locks_at tables log place name Write

module _ (tables : List TableShape) (log : List Transaction) where
  -- the transactions at two places are in conflict
  abbrev pub InConflict : ℕ → ℕ → Type 0
  InConflict i k = (t : Transaction) × (u : Transaction) × (slice_get log i ≡ Some t) × (slice_get log k ≡ Some u) × ModesClash t.plan u.plan

  at_least : (n : ℕ) → nat_le 2 n ≡ true → nat_le 1 n ≡ true
  at_least n h = grind (arith, nat_tests)

  -- who locks a name to write locks it to read
  pub write_locks : (plan : Requests) (name : RowName) → locks_row tables plan name Write ≡ true → locks_row tables plan name Read ≡ true
  write_locks plan name h = at_least (own_over plan (row_resource tables name)) h

  record Locks (o : Option Transaction) (name : RowName) (right : Right) : Type 0 where
    pub transaction : Transaction
    pub is : o ≡ Some transaction
    pub locks : locks_row tables transaction.plan name right ≡ true

  locked_by : (o : Option Transaction) (name : RowName) (right : Right) → locks_of tables o name right ≡ true → Locks o name right
  locked_by None name right h = absurd (cc)
  locked_by (Some t) name right h = record { transaction = t; is = refl; locks = h }

  pub locks_there : (place : ℕ) (t : Transaction) (name : RowName) (right : Right) → slice_get log place ≡ Some t
      → locks_at tables log place name right ≡ locks_row tables t.plan name right
  locks_there place t name right at = ap (λ (o : Option Transaction). locks_of tables o name right) at

  written_locked : (o : Option Transaction) (name : RowName) → locks_of tables o name Write ≡ true → locks_of tables o name Read ≡ true
  written_locked None name h = absurd (cc)
  written_locked (Some t) name h = write_locks t.plan name h

  module _ (laws : LowerLaws) (start : Database) (planned : ArePlanned tables log) where
    untouched : (t : Transaction) (name : RowName) → IsPlanned tables t → locks_row tables t.plan name Write ≡ false → touches t.entry name Write ≡ false
    untouched t name h none = elim (cases (touches t.entry name Write)) [
      | inr not ↦ not
      | inl touched ↦ absurd (true_false (locks_row tables t.plan name Write) (h.locks name Write touched) none)
    ]

    stays : (place : ℕ) (name : RowName) → locks_at tables log place name Write ≡ false
        → get (serial_rows log start (suc place)) name ≡ get (serial_rows log start place) name
    stays place name none = elim (split place (length log)) [
      | inl inside ↦
          let (t, at) = get_at log place inside in
          let rows = serial_rows log start place in
          let frame = laws.frame t.entry rows rows (λ q touched. refl) in
          ap (λ (db : Database). get db name) (next_rows log start place t at)
          ∙ frame.others name (untouched t name (planned place t at) (sym (locks_there place t name Write at) ∙ none))
      | inr rest ↦ ap (λ (db : Database). get db name) (past_rows log start place (elim rest [ inl e ↦ omega arith | inr more ↦ omega arith ]))
    ]

    first_writes : (i k : ℕ) (name : RowName) → locks_at tables log i name Write ≡ true → locks_at tables log k name Read ≡ true → InConflict i k
    first_writes i k name written covered =
        let a = locked_by (slice_get log i) name Write written in
        let b = locked_by (slice_get log k) name Read covered in
        let t = a.transaction in
        let u = b.transaction in
        (t, u, a.is, b.is, laws.locked tables t.plan u.plan (planned i t a.is).sound (planned k u b.is).sound name a.locks b.locks)

    second_writes : (i k : ℕ) (name : RowName) → locks_at tables log i name Read ≡ true → locks_at tables log k name Write ≡ true → InConflict i k
    second_writes i k name covered written =
        let (u, t, at_u, at_t, conflicts) = first_writes k i name written covered in
        (t, u, at_t, at_u, laws.turned.requests u.plan t.plan conflicts)

    pub is_log : IsLog get (reads tables log) (writes tables log) InConflict (serial_rows log start)
    is_log = record {
      covered = λ k name h. written_locked (slice_get log k) name h;
      others = stays;
      first_writes = first_writes;
      second_writes = second_writes;
    }
