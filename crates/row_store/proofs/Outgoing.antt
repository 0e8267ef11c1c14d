-- What lending keeps, whatever a loan holds.
use Rattle.std.proofs.Common.{◌≡◌, ℕ, true, false, cond, List, sym, ap, subst, ◌∙◌, Some, None, inl, inr}
use Rattle.std.specs.Ordering.{nat_cmp}
use Rattle.std.specs.BTreeMap.{BTreeMap, is_at}
use Rattle.std.specs.FinMap.{get}
use Rattle.std.specs.declared.snapshot.Snapshot.{Snapshot}
use Rattle.values.specs.declared.name.RowName.{RowName}
use Rattle.catalogue.specs.Shapes.{TableShape}
use Rattle.proclang_types.specs.declared.right.Right.TheVariants.{Read, Write}
use Rattle.footprint.specs.declared.resource.Resource.{Resource}
use Rattle.coarsen.specs.Subtrees.{Requests}
use Rattle.coarsen.specs.Plans.{IsWellFormed, IsPlanOver}
use Rattle.coarsen.specs.Clashes.{locks_row, ModesClash}
use Rattle.coarsen.specs.Laws.{LockedRowsConflict, ClashEitherWay}
use Rattle.row_store.specs.declared.held.HeldRows.{HeldRows}
use Rattle.row_store.specs.declared.held.HeldShelves.{HeldShelves}
use Rattle.row_store.specs.declared.held.Holdings.{Holdings}
use Rattle.row_store.specs.declared.held.Holdings.TheVariants.{Rows, Shelves}
use Rattle.shelves.specs.Places.{Shelves as AllShelves, has_shelf, is_away, has_place, seen_at}
use Rattle.shelves.specs.Shelving.{shelf_of}
use Rattle.row_store.specs.Locked.{locks_shelf, locks_itself}
use Rattle.row_store.specs.Held.{AreHere, rows_held, IsLoanOf, IsReady, AreRowsReady, AreShelvesReady, IsTaken, AreShelvesTaken}
use Rattle.shelves.specs.Rows.{found, rows_of}
use Rattle.row_store.specs.Views.{lent_at, IsRowStore, IsLoan}
use Rattle.row_store.proofs.ByName.{loan_ready, row_ready, locked_alone, get-rows_by_name}
use Rattle.row_store.proofs.Kept.{none_written}
use Rattle.row_store.proofs.Lent.{IsOut, is_lent_out, ready, lent_here, lent_whole, lent_there, apart_place, counts_after, loan_made, shown_lent, kept_lend}
use Rattle.row_store.proofs.Numbers.{lent_after, lent_still}
use Rattle.shelves.proofs.Rows.{get-rows_of}

-- a plan is to be lent, and all that it needs was made ready
pub record IsLending (tables : List TableShape) (old mid : AllShelves) (lent : BTreeMap ℕ (Snapshot Requests)) (plan : Requests) : Type 0 where
  pub seen : (d : Resource) (q : RowName) → seen_at mid d q ≡ seen_at old d q
  pub places : (q : RowName) → locks_shelf plan Read (shelf_of tables q) ≡ false → has_place old (shelf_of tables q) q ≡ true → has_place mid (shelf_of tables q) q ≡ true
  pub shelves : (d : Resource) → has_shelf old d ≡ true → has_shelf mid d ≡ true
  pub away : (d : Resource) → is_away mid d ≡ is_away old d
  pub law : LockedRowsConflict
  pub sound : IsWellFormed plan
  pub over : IsPlanOver tables plan
  pub free : (i : ℕ) (p : Requests) → lent_at lent i ≡ Some p → ModesClash p plan → ⊥
  pub kept : IsRowStore tables old lent

-- what a plan locks is here
pub all_here : (tables : List TableShape) (shelves : AllShelves) (lent : BTreeMap ℕ (Snapshot Requests)) (plan : Requests)
    → LockedRowsConflict → IsWellFormed plan → ((i : ℕ) (p : Requests) → lent_at lent i ≡ Some p → ModesClash p plan → ⊥) → IsRowStore tables shelves lent
    → AreHere tables plan shelves
all_here tables shelves lent plan law sound free kept q reads = (
  lent_here tables shelves lent plan law sound free kept q reads,
  lent_there tables shelves lent plan law sound free kept q reads,
)

-- what was made ready changes nothing for a store that then lends nothing more
pub kept_held : (tables : List TableShape) (old mid : AllShelves) (lent then_lent : BTreeMap ℕ (Snapshot Requests)) (plan : Requests)
    → IsLending tables old mid lent plan → ((i : ℕ) → lent_at then_lent i ≡ lent_at lent i) → IsRowStore tables mid then_lent
kept_held tables old mid lent then_lent plan x one = record {
  here = λ q h.
      ap (λ p. p.row) (x.seen (shelf_of tables q) q) ∙ x.kept.here q (λ i p e. h i p (one i ∙ e)) ∙ sym (ap (λ p. p.counts_as) (x.seen (shelf_of tables q) q));
  with_shelf = λ i p e q h. x.shelves (shelf_of tables q) (x.kept.with_shelf i p (sym (one i) ∙ e) q h);
  with_place = λ i p e q off h.
      let was = sym (one i) ∙ e in
      x.places q (apart_place tables old lent plan x.law x.sound x.over x.free x.kept i p was q h) (x.kept.with_place i p was q off h);
  away = λ q h. let by = x.kept.away q (sym (x.away (shelf_of tables q)) ∙ h) in (by.0, by.1, one by.0 ∙ by.2, by.3);
  sound = λ i p e. x.kept.sound i p (sym (one i) ∙ e);
  over = λ i p e. x.kept.over i p (sym (one i) ∙ e);
  apart = λ i j a b ea eb. x.kept.apart i j a b (sym (one i) ∙ ea) (sym (one j) ∙ eb);
}

shelves_out : (tables : List TableShape) (old mid new : AllShelves) (lent : BTreeMap ℕ (Snapshot Requests)) (plan : Requests) (b a : HeldShelves)
    → IsLending tables old mid lent plan → AreShelvesReady tables plan old mid b → AreShelvesTaken tables mid new b a
    → IsOut tables old mid new b.shelves a.shelves b.written_shelves.items b.written_names.items
shelves_out tables old mid new lent plan b a x made taken =
    is_lent_out tables old mid taken.moved new b.shelves a.shelves b.written_shelves.items b.written_names.items x.seen x.away
    (λ q h. ready mid b.shelves (shelf_of tables q) (made.with_shelf q h) (made.held_shelf (shelf_of tables q) h)
    (x.away (shelf_of tables q) ∙ lent_whole tables old lent plan x.law x.sound x.over x.free x.kept q (sym (made.written_shelves q) ∙ h)))
    taken.lent taken.seen taken.places taken.shelves taken.away taken.emptied taken.still_places taken.still_shelves taken.still_away made.with_place

-- ---- the loan

pub loan_out : (tables : List TableShape) (old mid new : AllShelves) (lent : BTreeMap ℕ (Snapshot Requests)) (plan : Requests) (before after : Holdings)
    → IsLending tables old mid lent plan → IsReady tables plan old mid before → IsTaken tables mid new before after → IsLoanOf tables plan after
loan_out tables old mid new lent plan (Rows b) (Rows a) x made taken = subst (λ h. IsLoanOf tables plan (Rows h)) (sym taken.0) (loan_ready tables plan old mid b x.over made)
loan_out tables old mid new lent plan (Rows b) (Shelves a) x made taken = absurd taken
loan_out tables old mid new lent plan (Shelves b) (Rows a) x made taken = absurd taken
loan_out tables old mid new lent plan (Shelves b) (Shelves a) x made taken =
    let loan : IsLoan tables plan a.shelves b.written_shelves.items b.written_names.items =
    loan_made tables old mid new b.shelves a.shelves lent plan b.written_shelves.items b.written_names.items x.law x.sound x.over x.free x.kept made.written_shelves made.written_names made.with_shelf made.held_place
    made.here made.whole x.away (shelves_out tables old mid new lent plan b a x made taken) in
    subst (λ ds. IsLoan tables plan a.shelves ds a.written_names.items) (sym taken.same_shelves)
    (subst (λ ns. IsLoan tables plan a.shelves b.written_shelves.items ns) (sym taken.same_names) loan)

pub shown_out : (tables : List TableShape) (old mid new : AllShelves) (lent : BTreeMap ℕ (Snapshot Requests)) (plan : Requests) (before after : Holdings)
    → IsLending tables old mid lent plan → IsReady tables plan old mid before → IsTaken tables mid new before after
    → (q : RowName) → locks_row tables plan q Read ≡ true → get (rows_held tables after) q ≡ get (rows_of tables old) q
shown_out tables old mid new lent plan (Rows b) (Rows a) x made taken q reads =
    ap (λ h. get (rows_held tables (Rows h)) q) taken.0 ∙ get-rows_by_name b q
    ∙ row_ready tables plan old mid b made q (sym (locked_alone tables plan x.over q (made.no_shelf q)) ∙ reads)
    ∙ lent_here tables old lent plan x.law x.sound x.free x.kept q reads
    ∙ sym (get-rows_of tables old q)
shown_out tables old mid new lent plan (Rows b) (Shelves a) x made taken q reads = absurd taken
shown_out tables old mid new lent plan (Shelves b) (Rows a) x made taken q reads = absurd taken
shown_out tables old mid new lent plan (Shelves b) (Shelves a) x made taken q reads =
    shown_lent tables old mid new b.shelves a.shelves lent plan b.written_shelves.items b.written_names.items x.law x.sound x.free x.kept made.rows (shelves_out tables old mid new lent plan b a x made taken) q reads

-- ---- the store

pub counts_out : (tables : List TableShape) (old mid new : AllShelves) (lent : BTreeMap ℕ (Snapshot Requests)) (plan : Requests) (before after : Holdings)
    → IsLending tables old mid lent plan → IsReady tables plan old mid before → IsTaken tables mid new before after
    → (q : RowName) → (found tables new q).counts_as ≡ (found tables old q).counts_as
counts_out tables old mid new lent plan (Rows b) (Rows a) x made taken q =
    ap (λ s. (found tables s q).counts_as) taken.1 ∙ ap (λ p. p.counts_as) (x.seen (shelf_of tables q) q)
counts_out tables old mid new lent plan (Rows b) (Shelves a) x made taken q = absurd taken
counts_out tables old mid new lent plan (Shelves b) (Rows a) x made taken q = absurd taken
counts_out tables old mid new lent plan (Shelves b) (Shelves a) x made taken q =
    counts_after tables old mid new b.shelves a.shelves lent plan b.written_shelves.items b.written_names.items x.law x.sound x.over x.free x.kept
    made.written_shelves (shelves_out tables old mid new lent plan b a x made taken) q

-- rows that are lent by their names stay in the store
store_in_place : (tables : List TableShape) (old mid : AllShelves) (lent then_lent : BTreeMap ℕ (Snapshot Requests)) (number : ℕ) (plan : Requests) (b : HeldRows)
    → IsLending tables old mid lent plan → AreRowsReady tables plan old mid b
    → ((i : ℕ) → lent_at then_lent i ≡ cond (is_at (nat_cmp number) i) (Some plan) (lent_at lent i)) → lent_at lent number ≡ None → ClashEitherWay
    → IsRowStore tables mid then_lent
store_in_place tables old mid lent then_lent number plan b x made put none turn = record {
  here = λ q h.
      ap (λ p. p.row) (x.seen (shelf_of tables q) q) ∙ x.kept.here q (λ i p e. h i p (lent_still lent then_lent number plan put none i p e))
      ∙ sym (ap (λ p. p.counts_as) (x.seen (shelf_of tables q) q));
  with_shelf = λ i p e q h. elim (lent_after lent then_lent number plan put i p e) [
    | inl y ↦
        let clash : true ≡ false = sym h ∙ ap (λ r. locks_shelf r Write (shelf_of tables q)) (sym y.1) ∙ none_written plan (shelf_of tables q) (made.no_shelf q) in
        absurd (cc)
    | inr y ↦ x.shelves (shelf_of tables q) (x.kept.with_shelf i p y q h)
  ];
  with_place = λ i p e q off h. elim (lent_after lent then_lent number plan put i p e) [
    | inl y ↦ made.with_place q (ap (λ r. locks_itself r Write q) y.1 ∙ h)
    | inr y ↦ x.places q (made.no_shelf q) (x.kept.with_place i p y q off h)
  ];
  away = λ q h. let by = x.kept.away q (sym (x.away (shelf_of tables q)) ∙ h) in (by.0, by.1, lent_still lent then_lent number plan put none by.0 by.1 by.2, by.3);
  sound = λ i p e. elim (lent_after lent then_lent number plan put i p e) [
    | inl y ↦ subst IsWellFormed y.1 x.sound
    | inr y ↦ x.kept.sound i p y
  ];
  over = λ i p e. elim (lent_after lent then_lent number plan put i p e) [
    | inl y ↦ subst (IsPlanOver tables) y.1 x.over
    | inr y ↦ x.kept.over i p y
  ];
  apart = λ i j a b ea eb ne c. elim (lent_after lent then_lent number plan put i a ea) [
    | inl y ↦ elim (lent_after lent then_lent number plan put j b eb) [
      | inl z ↦ ne (sym y.0 ∙ z.0)
      | inr z ↦ x.free j b z (turn.requests plan b (subst (λ r. ModesClash r b) (sym y.1) c))
    ]
    | inr y ↦ elim (lent_after lent then_lent number plan put j b eb) [
      | inl z ↦ x.free i a y (subst (λ r. ModesClash a r) (sym z.1) c)
      | inr z ↦ x.kept.apart i j a b y z ne c
    ]
  ];
}

pub store_out : (tables : List TableShape) (old mid new : AllShelves) (lent then_lent : BTreeMap ℕ (Snapshot Requests)) (number : ℕ) (plan : Requests) (before after : Holdings)
    → IsLending tables old mid lent plan → IsReady tables plan old mid before → IsTaken tables mid new before after
    → ((i : ℕ) → lent_at then_lent i ≡ cond (is_at (nat_cmp number) i) (Some plan) (lent_at lent i)) → lent_at lent number ≡ None → ClashEitherWay
    → IsRowStore tables new then_lent
store_out tables old mid new lent then_lent number plan (Rows b) (Rows a) x made taken put none turn =
    subst (λ s. IsRowStore tables s then_lent) (sym taken.1) (store_in_place tables old mid lent then_lent number plan b x made put none turn)
store_out tables old mid new lent then_lent number plan (Rows b) (Shelves a) x made taken put none turn = absurd taken
store_out tables old mid new lent then_lent number plan (Shelves b) (Rows a) x made taken put none turn = absurd taken
store_out tables old mid new lent then_lent number plan (Shelves b) (Shelves a) x made taken put none turn =
    kept_lend tables old mid new b.shelves a.shelves lent then_lent number plan b.written_shelves.items b.written_names.items x.places x.shelves
    made.with_shelf made.with_place made.written_shelves made.written_names
    (shelves_out tables old mid new lent plan b a x made taken) put none x.law x.sound x.over x.free turn x.kept
