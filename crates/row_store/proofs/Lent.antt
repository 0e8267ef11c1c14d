-- What lending keeps.
use Rattle.std.proofs.Common.{◌≡◌, inl, inr, ℕ, Bool, true, false, not, ◌||◌, ◌&&◌, cond, if◌then◌else◌, List, refl, sym, ap, subst, ◌∙◌, Some, None, is_some}
use Rattle.std.specs.Ordering.{nat_cmp}
use Rattle.std.specs.BTreeMap.{BTreeMap, is_at}
use Rattle.std.specs.FinMap.{get}
use Rattle.std.specs.declared.snapshot.Snapshot.{Snapshot}
use Rattle.values.specs.declared.name.RowName.{RowName}
use Rattle.catalogue.specs.Shapes.{TableShape}
use Rattle.proclang_types.specs.declared.right.Right.TheVariants.{Read, Write}
use Rattle.footprint.specs.declared.resource.Resource.{Resource}
use Rattle.coarsen.specs.Subtrees.{Requests}
use Rattle.coarsen.specs.Plans.{IsWellFormed, IsPlanOver}
use Rattle.coarsen.specs.Clashes.{locks_row, ModesClash}
use Rattle.coarsen.specs.Laws.{LockedRowsConflict, ClashEitherWay}
use Rattle.shelves.specs.Places.{Shelves, PlaceOf, shelf_on, has_shelf, is_away, has_place, seen_at, seen_on, has_on, is_out_on, as_it_stands, emptied, gone, among, is_named}
use Rattle.shelves.specs.Shelving.{shelf_of}
use Rattle.row_store.specs.Locked.{locks_shelf, locks_itself}
use Rattle.shelves.specs.Exchange.{is_ready, AreShelvesLent}
use Rattle.row_store.specs.Moving.{AreEmptied}
use Rattle.shelves.specs.Rows.{found, rows_of}
use Rattle.row_store.specs.Views.{lent_at, IsRowStore, IsLoan}
use Rattle.row_store.proofs.Locks.{locks_either}
use Rattle.shelves.proofs.Rows.{get-rows_of}
use Rattle.row_store.proofs.Numbers.{lent_after, lent_new, lent_still}
use Rattle.shelves.proofs.Booleans.{or_left, or_right, neither, cases}
use Rattle.row_store.proofs.Kept.{write_reads, name_reads, none_written}

-- what becomes of a store, and of what is held for a loan, when the shelves and the rows that are lent to be written go out
pub record IsOut (tables : List TableShape) (old mid new before held : Shelves) (at : List Resource) (ns : List RowName) : Type 0 where
  pub seen : (q : RowName) → found tables new q
      ≡ (if among at (shelf_of tables q) then gone (found tables old q) else (if is_named ns q then emptied (found tables old q) else found tables old q))
  pub places : (q : RowName) → among at (shelf_of tables q) ≡ false → has_place new (shelf_of tables q) q ≡ has_place mid (shelf_of tables q) q
  pub shelves : (d : Resource) → has_shelf new d ≡ has_shelf mid d
  pub away : (q : RowName) → is_away new (shelf_of tables q) ≡ (among at (shelf_of tables q) || is_away old (shelf_of tables q))
  pub moved : (q : RowName) → shelf_on held (shelf_of tables q) ≡ (if among at (shelf_of tables q) then shelf_on mid (shelf_of tables q) else shelf_on before (shelf_of tables q))
  pub same : (q : RowName) → found tables mid q ≡ found tables old q

ready_on : (a r : Bool) → (a ≡ true → r ≡ true) → (a && r) ≡ a
ready_on true r h = h refl
ready_on false r h = refl

out_place : (a n h : Bool) (p : PlaceOf) → (n ≡ true → h ≡ true)
    → (if n && (if a then false else h) then emptied (if a then gone p else p) else (if a then gone p else p)) ≡ (if a then gone p else (if n then emptied p else p))
out_place true true h p there = refl
out_place true false h p there = refl
out_place false true h p there = ap (λ b. if b then emptied p else p) (there refl)
out_place false false h p there = refl

all_three : (s h a : Bool) → s ≡ true → h ≡ true → a ≡ false → (s && (h && not a)) ≡ true
all_three true true false e f g = refl
all_three true true true e f g = absurd (cc)
all_three true false a e f g = absurd (cc)
all_three false h a e f g = absurd (cc)

pub ready : (mid before : Shelves) (d : Resource) → has_shelf mid d ≡ true → has_shelf before d ≡ true → is_away mid d ≡ false → is_ready mid before d ≡ true
ready mid before d s h a = all_three (has_shelf mid d) (has_shelf before d) (is_away mid d) s h a

pub is_lent_out : (tables : List TableShape) (old mid taken new before held : Shelves) (at : List Resource) (ns : List RowName)
    → ((d : Resource) (q : RowName) → seen_at mid d q ≡ seen_at old d q)
    → ((d : Resource) → is_away mid d ≡ is_away old d)
    → ((q : RowName) → among at (shelf_of tables q) ≡ true → is_ready mid before (shelf_of tables q) ≡ true)
    → AreShelvesLent at mid before held
    → ((d : Resource) (q : RowName) → seen_at taken d q ≡ (if among at d && is_ready mid before d then gone (seen_at mid d q) else seen_at mid d q))
    → ((d : Resource) (q : RowName) → has_place taken d q ≡ (if among at d && is_ready mid before d then false else has_place mid d q))
    → ((d : Resource) → has_shelf taken d ≡ has_shelf mid d)
    → ((d : Resource) → is_away taken d ≡ ((among at d && is_ready mid before d) || is_away mid d))
    → AreEmptied tables ns taken new
    → ((d : Resource) (q : RowName) → has_place new d q ≡ has_place taken d q)
    → ((d : Resource) → has_shelf new d ≡ has_shelf taken d)
    → ((d : Resource) → is_away new d ≡ is_away taken d)
    → ((q : RowName) → is_named ns q ≡ true → has_place mid (shelf_of tables q) q ≡ true)
    → IsOut tables old mid new before held at ns
is_lent_out tables old mid taken new before held at ns same away on lent seen1 places1 shelves1 away1 empties places2 shelves2 away2 there =
    let d : RowName → Resource = shelf_of tables in
    let goes : (q : RowName) → (among at (d q) && is_ready mid before (d q)) ≡ among at (d q) = λ q. ready_on (among at (d q)) (is_ready mid before (d q)) (on q) in
    record {
      seen = λ q.
          empties q
          ∙ ap (λ b. if is_named ns q && b then emptied (found tables taken q) else found tables taken q)
          (places1 (d q) q ∙ ap (λ b. if b then false else has_place mid (d q) q) (goes q))
          ∙ ap (λ (p : PlaceOf). if is_named ns q && (if among at (d q) then false else has_place mid (d q) q) then emptied p else p)
          (seen1 (d q) q ∙ ap (λ b. if b then gone (found tables mid q) else found tables mid q) (goes q) ∙ ap (λ (p : PlaceOf). if among at (d q) then gone p else p) (same (d q) q))
          ∙ out_place (among at (d q)) (is_named ns q) (has_place mid (d q) q) (found tables old q) (there q);
      places = λ q off. places2 (d q) q ∙ places1 (d q) q ∙ ap (λ b. if b then false else has_place mid (d q) q) (goes q ∙ off);
      shelves = λ e. shelves2 e ∙ shelves1 e;
      away = λ q. away2 (d q) ∙ away1 (d q) ∙ ap (λ b. b || is_away mid (d q)) (goes q) ∙ ap (λ b. among at (d q) || b) (away (d q));
      moved = λ q. lent (d q) ∙ ap (λ b. if b then shelf_on mid (d q) else shelf_on before (d q)) (goes q);
      same = λ q. same (d q) q;
    }

-- what the plan locks whole to write it locks to read
shelf_locked : (tables : List TableShape) (plan : Requests) → IsPlanOver tables plan → (q : RowName) → locks_shelf plan Write (shelf_of tables q) ≡ true → locks_row tables plan q Read ≡ true
shelf_locked tables plan over q h =
    write_reads tables plan q (locks_either tables plan over Write q ∙ or_right (locks_itself plan Write q) (locks_shelf plan Write (shelf_of tables q)) h)

-- a row that another plan could not write is here
pub lent_here : (tables : List TableShape) (shelves : Shelves) (lent : BTreeMap ℕ (Snapshot Requests)) (plan : Requests)
    → LockedRowsConflict → IsWellFormed plan → ((i : ℕ) (p : Requests) → lent_at lent i ≡ Some p → ModesClash p plan → ⊥) → IsRowStore tables shelves lent
    → (q : RowName) → locks_row tables plan q Read ≡ true → (found tables shelves q).row ≡ (found tables shelves q).counts_as
lent_here tables shelves lent plan law sound free kept q reads = kept.here q (λ i p e.
    elim (cases (locks_row tables p q Write)) [
      | inl w ↦ absurd (free i p e (law tables p plan (kept.sound i p e) sound q w reads))
      | inr none ↦ none
    ])

-- and so is its shelf
pub lent_there : (tables : List TableShape) (shelves : Shelves) (lent : BTreeMap ℕ (Snapshot Requests)) (plan : Requests)
    → LockedRowsConflict → IsWellFormed plan → ((i : ℕ) (p : Requests) → lent_at lent i ≡ Some p → ModesClash p plan → ⊥) → IsRowStore tables shelves lent
    → (q : RowName) → locks_row tables plan q Read ≡ true → is_away shelves (shelf_of tables q) ≡ false
lent_there tables shelves lent plan law sound free kept q reads = elim (cases (is_away shelves (shelf_of tables q))) [
  | inl out ↦
      let by = kept.away q out in
      let theirs : locks_row tables by.1 q Write ≡ true =
      locks_either tables by.1 (kept.over by.0 by.1 by.2) Write q ∙ or_right (locks_itself by.1 Write q) (locks_shelf by.1 Write (shelf_of tables q)) by.3 in
      absurd (free by.0 by.1 by.2 (law tables by.1 plan (kept.sound by.0 by.1 by.2) sound q theirs reads))
  | inr off ↦ off
]

pub lent_whole : (tables : List TableShape) (shelves : Shelves) (lent : BTreeMap ℕ (Snapshot Requests)) (plan : Requests)
    → LockedRowsConflict → IsWellFormed plan → IsPlanOver tables plan → ((i : ℕ) (p : Requests) → lent_at lent i ≡ Some p → ModesClash p plan → ⊥) → IsRowStore tables shelves lent
    → (q : RowName) → locks_shelf plan Write (shelf_of tables q) ≡ true → is_away shelves (shelf_of tables q) ≡ false
lent_whole tables shelves lent plan law sound over free kept q h = lent_there tables shelves lent plan law sound free kept q (shelf_locked tables plan over q h)

-- the place of a name that another plan writes is on no shelf that this one locks whole
pub apart_place : (tables : List TableShape) (shelves : Shelves) (lent : BTreeMap ℕ (Snapshot Requests)) (plan : Requests)
    → LockedRowsConflict → IsWellFormed plan → IsPlanOver tables plan → ((i : ℕ) (p : Requests) → lent_at lent i ≡ Some p → ModesClash p plan → ⊥) → IsRowStore tables shelves lent
    → (i : ℕ) (p : Requests) → lent_at lent i ≡ Some p → (q : RowName) → locks_itself p Write q ≡ true → locks_shelf plan Read (shelf_of tables q) ≡ false
apart_place tables shelves lent plan law sound over free kept i p e q h = elim (cases (locks_shelf plan Read (shelf_of tables q))) [
  | inl on ↦
      let theirs : locks_row tables p q Write ≡ true =
      locks_either tables p (kept.over i p e) Write q ∙ or_left (locks_itself p Write q) (locks_shelf p Write (shelf_of tables q)) h in
      let mine : locks_row tables plan q Read ≡ true =
      locks_either tables plan over Read q ∙ or_right (locks_itself plan Read q) (locks_shelf plan Read (shelf_of tables q)) on in
      absurd (free i p e (law tables p plan (kept.sound i p e) sound q theirs mine))
  | inr off ↦ off
]

-- where rows that go out were here, the same rows count
out_counts : (a n : Bool) (p : PlaceOf) → (a ≡ true → p.row ≡ p.counts_as) → (if a then gone p else (if n then emptied p else p)).counts_as ≡ p.counts_as
out_counts true n p h = h refl
out_counts false true p h = refl
out_counts false false p h = refl

pub counts_after : (tables : List TableShape) (old mid new before held : Shelves) (lent : BTreeMap ℕ (Snapshot Requests)) (plan : Requests) (at : List Resource) (ns : List RowName)
    → LockedRowsConflict → IsWellFormed plan → IsPlanOver tables plan → ((i : ℕ) (p : Requests) → lent_at lent i ≡ Some p → ModesClash p plan → ⊥) → IsRowStore tables old lent
    → ((q : RowName) → among at (shelf_of tables q) ≡ locks_shelf plan Write (shelf_of tables q))
    → IsOut tables old mid new before held at ns
    → (q : RowName) → (found tables new q).counts_as ≡ (found tables old q).counts_as
counts_after tables old mid new before held lent plan at ns law sound over free kept at_is out q =
    ap (λ p. p.counts_as) (out.seen q)
    ∙ out_counts (among at (shelf_of tables q)) (is_named ns q) (found tables old q)
    (λ h. lent_here tables old lent plan law sound free kept q (shelf_locked tables plan over q (sym (at_is q) ∙ h)))

-- ---- the loan

on_either : {A B : Type 0} (f : A → B) (b : Bool) (x y : A) → f (if b then x else y) ≡ (if b then f x else f y)
on_either f true x y = refl
on_either f false x y = refl

out_found : (tables : List TableShape) (old mid new before held : Shelves) (at : List Resource) (ns : List RowName) → IsOut tables old mid new before held at ns
    → (q : RowName) → found tables held q ≡ (if among at (shelf_of tables q) then found tables old q else found tables before q)
out_found tables old mid new before held at ns out q =
    let d : Resource = shelf_of tables q in
    ap (λ o. seen_on o q) (out.moved q)
    ∙ on_either (λ o. seen_on o q) (among at d) (shelf_on mid d) (shelf_on before d)
    ∙ ap (λ p. if among at d then p else found tables before q) (out.same q)

either_here : (a : Bool) (p o : PlaceOf) → (a ≡ true → p.row ≡ p.counts_as) → o.row ≡ o.counts_as → (if a then p else o).row ≡ (if a then p else o).counts_as
either_here true p o h g = h refl
either_here false p o h g = g

either_off : {A : Type 0} (f : A → Bool) (b : Bool) (x y : A) → (b ≡ true → f x ≡ false) → f y ≡ false → f (if b then x else y) ≡ false
either_off f true x y h g = h refl
either_off f false x y h g = g

pub loan_made : (tables : List TableShape) (old mid new before held : Shelves) (lent : BTreeMap ℕ (Snapshot Requests)) (plan : Requests) (at : List Resource) (ns : List RowName)
    → LockedRowsConflict → IsWellFormed plan → IsPlanOver tables plan → ((i : ℕ) (p : Requests) → lent_at lent i ≡ Some p → ModesClash p plan → ⊥) → IsRowStore tables old lent
    → ((q : RowName) → among at (shelf_of tables q) ≡ locks_shelf plan Write (shelf_of tables q))
    → ((q : RowName) → is_named ns q ≡ locks_itself plan Write q)
    → ((q : RowName) → among at (shelf_of tables q) ≡ true → has_shelf mid (shelf_of tables q) ≡ true)
    → ((q : RowName) → locks_itself plan Read q ≡ true → has_place before (shelf_of tables q) q ≡ true)
    → ((q : RowName) → (found tables before q).row ≡ (found tables before q).counts_as)
    → ((d : Resource) → is_away before d ≡ false)
    → ((d : Resource) → is_away mid d ≡ is_away old d)
    → IsOut tables old mid new before held at ns
    → IsLoan tables plan held at ns
loan_made tables old mid new before held lent plan at ns law sound over free kept at_is ns_is with_shelf with_place here whole away out = record {
  over = over;
  written_shelves = at_is;
  written_names = ns_is;
  with_shelf = λ q h.
      ap is_some (out.moved q) ∙ ap (λ b. is_some (if b then shelf_on mid (shelf_of tables q) else shelf_on before (shelf_of tables q))) h ∙ with_shelf q h;
  with_place = λ q off h.
      ap (λ o. has_on o q) (out.moved q) ∙ ap (λ b. has_on (if b then shelf_on mid (shelf_of tables q) else shelf_on before (shelf_of tables q)) q) off
      ∙ with_place q (name_reads plan q (sym (ns_is q) ∙ h));
  here = λ q.
      ap (λ p. p.row) (out_found tables old mid new before held at ns out q)
      ∙ either_here (among at (shelf_of tables q)) (found tables old q) (found tables before q)
      (λ h. lent_here tables old lent plan law sound free kept q (shelf_locked tables plan over q (sym (at_is q) ∙ h))) (here q)
      ∙ sym (ap (λ p. p.counts_as) (out_found tables old mid new before held at ns out q));
  whole = λ q.
      ap is_out_on (out.moved q)
      ∙ either_off is_out_on (among at (shelf_of tables q)) (shelf_on mid (shelf_of tables q)) (shelf_on before (shelf_of tables q))
      (λ h. away (shelf_of tables q) ∙ lent_whole tables old lent plan law sound over free kept q (sym (at_is q) ∙ h)) (whole (shelf_of tables q));
}

shown_either : (a : Bool) (p o : PlaceOf) → p.row ≡ p.counts_as → (a ≡ false → o ≡ as_it_stands p) → (if a then p else o).counts_as ≡ p.counts_as
shown_either true p o here h = refl
shown_either false p o here h = ap (λ x. x.counts_as) (h refl) ∙ here

pub shown_lent : (tables : List TableShape) (old mid new before held : Shelves) (lent : BTreeMap ℕ (Snapshot Requests)) (plan : Requests) (at : List Resource) (ns : List RowName)
    → LockedRowsConflict → IsWellFormed plan → ((i : ℕ) (p : Requests) → lent_at lent i ≡ Some p → ModesClash p plan → ⊥) → IsRowStore tables old lent
    → ((q : RowName) → locks_row tables plan q Read ≡ true → among at (shelf_of tables q) ≡ false → found tables before q ≡ as_it_stands (found tables old q))
    → IsOut tables old mid new before held at ns
    → (q : RowName) → locks_row tables plan q Read ≡ true → get (rows_of tables held) q ≡ get (rows_of tables old) q
shown_lent tables old mid new before held lent plan at ns law sound free kept rows out q reads =
    get-rows_of tables held q ∙ ap (λ p. p.counts_as) (out_found tables old mid new before held at ns out q)
    ∙ shown_either (among at (shelf_of tables q)) (found tables old q) (found tables before q) (lent_here tables old lent plan law sound free kept q reads) (rows q reads)
    ∙ sym (get-rows_of tables old q)

-- ---- the store

pub kept_lend : (tables : List TableShape) (old mid new before held : Shelves) (lent then_lent : BTreeMap ℕ (Snapshot Requests)) (number : ℕ) (plan : Requests) (at : List Resource) (ns : List RowName)
    → ((q : RowName) → locks_shelf plan Read (shelf_of tables q) ≡ false → has_place old (shelf_of tables q) q ≡ true → has_place mid (shelf_of tables q) q ≡ true)
    → ((d : Resource) → has_shelf old d ≡ true → has_shelf mid d ≡ true)
    → ((q : RowName) → among at (shelf_of tables q) ≡ true → has_shelf mid (shelf_of tables q) ≡ true)
    → ((q : RowName) → is_named ns q ≡ true → has_place mid (shelf_of tables q) q ≡ true)
    → ((q : RowName) → among at (shelf_of tables q) ≡ locks_shelf plan Write (shelf_of tables q))
    → ((q : RowName) → is_named ns q ≡ locks_itself plan Write q)
    → IsOut tables old mid new before held at ns
    → ((i : ℕ) → lent_at then_lent i ≡ cond (is_at (nat_cmp number) i) (Some plan) (lent_at lent i))
    → lent_at lent number ≡ None → LockedRowsConflict → IsWellFormed plan → IsPlanOver tables plan
    → ((i : ℕ) (p : Requests) → lent_at lent i ≡ Some p → ModesClash p plan → ⊥) → ClashEitherWay → IsRowStore tables old lent
    → IsRowStore tables new then_lent
kept_lend tables old mid new before held lent then_lent number plan at ns places shelves room_shelf room_place at_is ns_is out put none law sound over free turn kept = record {
  here = λ q h.
      let mine : locks_row tables plan q Write ≡ false = h number plan (lent_new lent then_lent number plan put) in
      let off = neither (locks_itself plan Write q) (locks_shelf plan Write (shelf_of tables q)) (sym (locks_either tables plan over Write q) ∙ mine) in
      let stays : found tables new q ≡ found tables old q =
      out.seen q
      ∙ ap (λ b. if b then gone (found tables old q) else (if is_named ns q then emptied (found tables old q) else found tables old q)) (at_is q ∙ off.1)
      ∙ ap (λ b. if b then emptied (found tables old q) else found tables old q) (ns_is q ∙ off.0) in
      ap (λ p. p.row) stays ∙ kept.here q (λ i p e. h i p (lent_still lent then_lent number plan put none i p e)) ∙ sym (ap (λ p. p.counts_as) stays);
  with_shelf = λ i p e q h. out.shelves (shelf_of tables q) ∙ elim (lent_after lent then_lent number plan put i p e) [
    | inl x ↦ room_shelf q (at_is q ∙ ap (λ r. locks_shelf r Write (shelf_of tables q)) x.1 ∙ h)
    | inr x ↦ shelves (shelf_of tables q) (kept.with_shelf i p x q h)
  ];
  with_place = λ i p e q off h. elim (lent_after lent then_lent number plan put i p e) [
    | inl x ↦
        out.places q (at_is q ∙ ap (λ r. locks_shelf r Write (shelf_of tables q)) x.1 ∙ off) ∙ room_place q (ns_is q ∙ ap (λ r. locks_itself r Write q) x.1 ∙ h)
    | inr x ↦
        let apart = apart_place tables old lent plan law sound over free kept i p x q h in
        let stays : among at (shelf_of tables q) ≡ false = at_is q ∙ none_written plan (shelf_of tables q) apart in
        out.places q stays ∙ places q apart (kept.with_place i p x q off h)
  ];
  away = λ q h. elim (cases (among at (shelf_of tables q))) [
    | inl on ↦ (number, plan, lent_new lent then_lent number plan put, sym (at_is q) ∙ on)
    | inr off ↦
        let was : is_away old (shelf_of tables q) ≡ true = sym (ap (λ b. b || is_away old (shelf_of tables q)) off) ∙ sym (out.away q) ∙ h in
        let by = kept.away q was in
        (by.0, by.1, lent_still lent then_lent number plan put none by.0 by.1 by.2, by.3)
  ];
  sound = λ i p e. elim (lent_after lent then_lent number plan put i p e) [
    | inl x ↦ subst IsWellFormed x.1 sound
    | inr x ↦ kept.sound i p x
  ];
  over = λ i p e. elim (lent_after lent then_lent number plan put i p e) [
    | inl x ↦ subst (IsPlanOver tables) x.1 over
    | inr x ↦ kept.over i p x
  ];
  apart = λ i j a b ea eb ne c. elim (lent_after lent then_lent number plan put i a ea) [
    | inl x ↦ elim (lent_after lent then_lent number plan put j b eb) [
      | inl y ↦ ne (sym x.0 ∙ y.0)
      | inr y ↦ free j b y (turn.requests plan b (subst (λ r. ModesClash r b) (sym x.1) c))
    ]
    | inr x ↦ elim (lent_after lent then_lent number plan put j b eb) [
      | inl y ↦ free i a x (subst (λ r. ModesClash a r) (sym y.1) c)
      | inr y ↦ kept.apart i j a b x y ne c
    ]
  ];
}
