-- What giving back keeps.
use Rattle.std.proofs.Common.{◌≡◌, inl, inr, ℕ, Bool, true, false, ◌||◌, cond, if◌then◌else◌, List, refl, sym, ap, ◌∙◌, Some, None}
use Rattle.std.specs.Ordering.{nat_cmp}
use Rattle.std.specs.BTreeMap.{BTreeMap, is_at}
use Rattle.std.specs.FinMap.{get}
use Rattle.std.specs.declared.snapshot.Snapshot.{Snapshot}
use Rattle.values.specs.declared.name.RowName.{RowName}
use Rattle.values.specs.Database.{Database}
use Rattle.catalogue.specs.Shapes.{TableShape}
use Rattle.proclang_types.specs.declared.right.Right.TheVariants.{Write}
use Rattle.footprint.specs.declared.resource.Resource.{Resource}
use Rattle.coarsen.specs.Subtrees.{Requests}
use Rattle.coarsen.specs.Plans.{IsPlanOver}
use Rattle.coarsen.specs.Clashes.{locks_row}
use Rattle.coarsen.specs.Laws.{LockedRowsConflict}
use Rattle.shelves.specs.Places.{Shelves, PlaceOf, has_shelf, is_away, has_place, as_it_stands, full, among, is_named}
use Rattle.shelves.specs.Shelving.{shelf_of}
use Rattle.row_store.specs.Locked.{locks_shelf, locks_itself}
use Rattle.shelves.specs.Rows.{found, rows_of}
use Rattle.row_store.specs.Views.{lent_at, IsRowStore, IsLoan}
use Rattle.row_store.proofs.Locks.{locks_either}
use Rattle.shelves.proofs.Rows.{get-rows_of}
use Rattle.row_store.proofs.Numbers.{lent_left, lent_before}
use Rattle.shelves.proofs.Booleans.{or_left, neither, cases}
use Rattle.row_store.proofs.Kept.{write_reads}

or_turn : (a b : Bool) → a || b ≡ b || a
or_turn true true = refl
or_turn true false = refl
or_turn false true = refl
or_turn false false = refl

settled_back : (p : PlaceOf) → p.row ≡ p.counts_as → p ≡ as_it_stands p
settled_back p h i = record { row = p.row; counts_as = sym h i }

back_place : (a n : Bool) (h s : PlaceOf) → h.row ≡ h.counts_as → a || n ≡ true → (if a then h else (if n then full h.row else s)) ≡ as_it_stands h
back_place true n h s here on = settled_back h here
back_place false true h s here on = refl
back_place false false h s here on = absurd (cc)

other_place : (a n : Bool) (h s : PlaceOf) → a || n ≡ false → (if a then h else (if n then full h.row else s)) ≡ s
other_place true n h s off = absurd (cc)
other_place false true h s off = absurd (cc)
other_place false false h s off = refl

-- what is given back at row names: all of it is here, and it is what the plan locks to write
pub record Gives (tables : List TableShape) (plan : Requests) (from : RowName → PlaceOf) (at : List Resource) (ns : List RowName) : Type 0 where
  pub over : IsPlanOver tables plan
  pub written_shelves : (name : RowName) → among at (shelf_of tables name) ≡ locks_shelf plan Write (shelf_of tables name)
  pub written_names : (name : RowName) → is_named ns name ≡ locks_itself plan Write name
  pub here : (name : RowName) → (from name).row ≡ (from name).counts_as

pub record IsBack (tables : List TableShape) (old new : Shelves) (from : RowName → PlaceOf) (at : List Resource) (ns : List RowName) : Type 0 where
  pub seen : (q : RowName) → found tables new q
      ≡ (if among at (shelf_of tables q) then from q else (if is_named ns q then full (from q).row else found tables old q))
  pub places : (q : RowName) → among at (shelf_of tables q) ≡ false → is_named ns q ≡ false → has_place new (shelf_of tables q) q ≡ has_place old (shelf_of tables q) q
  pub away : (q : RowName) → is_away new (shelf_of tables q) ≡ (if among at (shelf_of tables q) then false else is_away old (shelf_of tables q))

-- what the plan locks to write are its shelves and its names
pub loan_locks : (tables : List TableShape) (plan : Requests) (from : RowName → PlaceOf) (at : List Resource) (ns : List RowName) → Gives tables plan from at ns
    → (q : RowName) → locks_row tables plan q Write ≡ (among at (shelf_of tables q) || is_named ns q)
loan_locks tables plan from at ns loan q =
    locks_either tables plan loan.over Write q
    ∙ ap (λ b. b || locks_shelf plan Write (shelf_of tables q)) (sym (loan.written_names q)) ∙ ap (λ b. is_named ns q || b) (sym (loan.written_shelves q))
    ∙ or_turn (is_named ns q) (among at (shelf_of tables q))

pub found_back : (tables : List TableShape) (plan : Requests) (old new : Shelves) (from : RowName → PlaceOf) (at : List Resource) (ns : List RowName)
    → IsBack tables old new from at ns → Gives tables plan from at ns → (q : RowName)
    → found tables new q ≡ (if locks_row tables plan q Write then as_it_stands (from q) else found tables old q)
found_back tables plan old new from at ns back loan q =
    let a : Bool = among at (shelf_of tables q) in
    let n : Bool = is_named ns q in
    let h : PlaceOf = from q in
    let s : PlaceOf = found tables old q in
    back.seen q
    ∙ elim (cases (a || n)) [
      | inl on ↦ back_place a n h s (loan.here q) on ∙ ap (λ b. if b then as_it_stands h else s) (sym on)
      | inr off ↦ other_place a n h s off ∙ ap (λ b. if b then as_it_stands h else s) (sym off)
    ]
    ∙ ap (λ b. if b then as_it_stands h else s) (sym (loan_locks tables plan from at ns loan q))

pub out_and_back : (tables : List TableShape) (plan : Requests) (old new held : Shelves) (at : List Resource) (ns : List RowName) (lent : BTreeMap ℕ (Snapshot Requests)) (number : ℕ)
    → IsLoan tables plan held at ns → lent_at lent number ≡ Some plan → IsRowStore tables old lent
    → ((q : RowName) → (among at (shelf_of tables q) ≡ true → has_shelf old (shelf_of tables q) ≡ true) → (among at (shelf_of tables q) ≡ true → has_shelf held (shelf_of tables q) ≡ true)
    → (among at (shelf_of tables q) ≡ false → is_named ns q ≡ true → has_place old (shelf_of tables q) q ≡ true)
    → (among at (shelf_of tables q) ≡ false → is_named ns q ≡ true → has_place held (shelf_of tables q) q ≡ true)
    → found tables new q ≡ (if among at (shelf_of tables q) then found tables held q else (if is_named ns q then full (found tables held q).row else found tables old q)))
    → ((q : RowName) → among at (shelf_of tables q) ≡ false → is_named ns q ≡ false → has_place new (shelf_of tables q) q ≡ has_place old (shelf_of tables q) q)
    → ((d : Resource) → (among at d ≡ true → has_shelf old d ≡ true) → (among at d ≡ true → has_shelf held d ≡ true)
    → is_away new d ≡ (if among at d then is_away held d else is_away old d))
    → IsBack tables old new (found tables held) at ns
out_and_back tables plan old new held at ns lent number loan out kept seen places away = record {
  seen = λ q. seen q
      (λ h. kept.with_shelf number plan out q (sym (loan.written_shelves q) ∙ h)) (λ h. loan.with_shelf q h)
      (λ off h. kept.with_place number plan out q (sym (loan.written_shelves q) ∙ off) (sym (loan.written_names q) ∙ h)) (λ off h. loan.with_place q off h);
  places = places;
  away = λ q.
      away (shelf_of tables q) (λ h. kept.with_shelf number plan out q (sym (loan.written_shelves q) ∙ h)) (λ h. loan.with_shelf q h)
      ∙ ap (λ b. if among at (shelf_of tables q) then b else is_away old (shelf_of tables q)) (loan.whole q);
}

settled_counts : (b : Bool) (h s : PlaceOf) → h.row ≡ h.counts_as → (if b then as_it_stands h else s).counts_as ≡ (if b then h.counts_as else s.counts_as)
settled_counts true h s here = here
settled_counts false h s here = refl

pub shown_back : (tables : List TableShape) (plan : Requests) (old new : Shelves) (from : RowName → PlaceOf) (at : List Resource) (ns : List RowName)
    → IsBack tables old new from at ns → Gives tables plan from at ns → (rows : Database) (q : RowName) → get rows q ≡ (from q).counts_as
    → get (rows_of tables new) q ≡ (if locks_row tables plan q Write then get rows q else get (rows_of tables old) q)
shown_back tables plan old new from at ns back loan rows q shown =
    let w : Bool = locks_row tables plan q Write in
    get-rows_of tables new q ∙ ap (λ p. p.counts_as) (found_back tables plan old new from at ns back loan q)
    ∙ settled_counts w (from q) (found tables old q) (loan.here q)
    ∙ ap (λ o. if w then o else (found tables old q).counts_as) (sym shown)
    ∙ ap (λ o. if w then get rows q else o) (sym (get-rows_of tables old q))

settled_here : (b : Bool) (h s : PlaceOf) → (b ≡ false → s.row ≡ s.counts_as) → (if b then as_it_stands h else s).row ≡ (if b then as_it_stands h else s).counts_as
settled_here true h s here = refl
settled_here false h s here = here refl

-- what another plan that is lent locks to write is not given back
apart_from : (tables : List TableShape) (plan : Requests) (old : Shelves) (from : RowName → PlaceOf) (at : List Resource) (ns : List RowName) (lent : BTreeMap ℕ (Snapshot Requests)) (number : ℕ)
    → LockedRowsConflict → Gives tables plan from at ns → lent_at lent number ≡ Some plan → IsRowStore tables old lent
    → (i : ℕ) (p : Requests) → lent_at lent i ≡ Some p → (number ≡ i → ⊥) → (q : RowName) → locks_itself p Write q ≡ true
    → among at (shelf_of tables q) || is_named ns q ≡ false
apart_from tables plan old from at ns lent number law loan out kept i p e ne q locks = elim (cases (among at (shelf_of tables q) || is_named ns q)) [
  | inl on ↦
      let mine : locks_row tables plan q Write ≡ true = loan_locks tables plan from at ns loan q ∙ on in
      let theirs : locks_row tables p q Write ≡ true = locks_either tables p (kept.over i p e) Write q ∙ or_left (locks_itself p Write q) (locks_shelf p Write (shelf_of tables q)) locks in
      absurd (kept.apart number i plan p out e ne (law tables plan p (kept.sound number plan out) (kept.sound i p e) q mine (write_reads tables p q theirs)))
  | inr off ↦ off
]

some_same : (x y : Requests) → Some x ≡ Some y → x ≡ y
some_same x y h = cc

pub kept_back : (tables : List TableShape) (plan : Requests) (old new : Shelves) (from : RowName → PlaceOf) (at : List Resource) (ns : List RowName) (lent then_lent : BTreeMap ℕ (Snapshot Requests)) (number : ℕ)
    → IsBack tables old new from at ns → ((d : Resource) → has_shelf new d ≡ has_shelf old d) → Gives tables plan from at ns
    → lent_at lent number ≡ Some plan → ((i : ℕ) → lent_at then_lent i ≡ cond (is_at (nat_cmp number) i) None (lent_at lent i))
    → LockedRowsConflict → IsRowStore tables old lent → IsRowStore tables new then_lent
kept_back tables plan old new from at ns lent then_lent number back shelves loan out taken law kept = record {
  here = λ q h.
      let w : Bool = locks_row tables plan q Write in
      let is = found_back tables plan old new from at ns back loan q in
      ap (λ p. p.row) is
      ∙ settled_here w (from q) (found tables old q) (λ off. kept.here q (λ i p e. elim (lent_before lent then_lent number taken i p e) [
        | inl same ↦
            let one : plan ≡ p = some_same plan p (sym out ∙ ap (lent_at lent) same ∙ e) in
            ap (λ r. locks_row tables r q Write) (sym one) ∙ off
        | inr still ↦ h i p still
      ]))
      ∙ sym (ap (λ p. p.counts_as) is);
  with_shelf = λ i p e q h. shelves (shelf_of tables q) ∙ kept.with_shelf i p (lent_left lent then_lent number taken i p e).1 q h;
  with_place = λ i p e q off h.
      let was = lent_left lent then_lent number taken i p e in
      let others = neither (among at (shelf_of tables q)) (is_named ns q) (apart_from tables plan old from at ns lent number law loan out kept i p was.1 was.0 q h) in
      back.places q others.0 others.1 ∙ kept.with_place i p was.1 q off h;
  away = λ q h. elim (cases (among at (shelf_of tables q))) [
    | inl on ↦ let clash : true ≡ false = sym h ∙ back.away q ∙ ap (λ b. if b then false else is_away old (shelf_of tables q)) on in absurd (cc)
    | inr off ↦
        let was : is_away old (shelf_of tables q) ≡ true = sym (ap (λ b. if b then false else is_away old (shelf_of tables q)) off) ∙ sym (back.away q) ∙ h in
        let by = kept.away q was in
        elim (lent_before lent then_lent number taken by.0 by.1 by.2) [
          | inl same ↦
              let one : plan ≡ by.1 = some_same plan by.1 (sym out ∙ ap (lent_at lent) same ∙ by.2) in
              let clash : true ≡ false = sym by.3 ∙ ap (λ r. locks_shelf r Write (shelf_of tables q)) (sym one) ∙ sym (loan.written_shelves q) ∙ off in
              absurd (cc)
          | inr still ↦ (by.0, by.1, still, by.3)
        ]
  ];
  sound = λ i p e. kept.sound i p (lent_left lent then_lent number taken i p e).1;
  over = λ i p e. kept.over i p (lent_left lent then_lent number taken i p e).1;
  apart = λ i j a b ea eb. kept.apart i j a b (lent_left lent then_lent number taken i a ea).1 (lent_left lent then_lent number taken j b eb).1;
}
