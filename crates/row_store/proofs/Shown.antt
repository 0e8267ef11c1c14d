-- What is shown stands there.
use Rattle.std.proofs.Common.{◌≡◌, ℕ, Bool, true, false, not, ◌||◌, cond, List, [], ◌∷◌, refl, sym, ap, ◌∙◌, inl, inr, Some, None, length, arith}
use Rattle.std.specs.Ordering.{nat_cmp, eq_by_cmp}
use Rattle.std.specs.List.{list_any}
use Rattle.std.specs.BTreeMap.{BTreeMap}
use Rattle.std.specs.FinMap.{FinMap, empty, find, entries, get, get-entries, len-entries, len-empty, get-empty}
use Rattle.std.specs.declared.snapshot.Snapshot.{Snapshot}
use Rattle.values.specs.declared.name.RowName.{RowName}
use Rattle.catalogue.specs.Shapes.{TableShape}
use Rattle.proclang_types.specs.declared.right.Right.TheVariants.{Read, Write}
use Rattle.coarsen.specs.Subtrees.{Requests}
use Rattle.coarsen.specs.Clashes.{locks_row}
use Rattle.coarsen.specs.Laws.{LockedRowsConflict}
use Rattle.row_store.specs.Laws.{AreLentAlone}
use Rattle.shelves.specs.Places.{Shelves}
use Rattle.row_store.specs.Stock.{Stock, is_free}
use Rattle.shelves.specs.Rows.{found, rows_of}
use Rattle.row_store.specs.Views.{lent_of, lent_at, IsRowStore}
use Rattle.row_store.proofs.Numbers.{get-lent_of}
use Rattle.shelves.proofs.Booleans.{cases}

either_not : (a b : Bool) → a || b ≡ false → (a ≡ false) × (b ≡ false)
either_not true b h = absurd (cc)
either_not false b h = (refl, h)

one_free : (f : Requests → Bool) (es : List (ℕ × Requests)) (i : ℕ) (p : Requests) → list_any (λ e. f e.1) es ≡ false → find nat_cmp i es ≡ Some p → f p ≡ false
one_free f [] i p h e = absurd (cc)
one_free f (x ∷ es) i p h e =
    let both = either_not (f x.1) (list_any (λ e. f e.1) es) h in
    elim (eq_by_cmp nat_cmp i x.0) as (λ (b : Bool). cond b (Some x.1) (find nat_cmp i es) ≡ Some p → f p ≡ false) [
      | true ↦ λ g. let same : x.1 ≡ p = cc in ap f (sym same) ∙ both.0
      | false ↦ λ g. one_free f es i p both.1 g
    ] e

not_any : (b : Bool) → not b ≡ true → b ≡ false
not_any true h = absurd (cc)
not_any false h = refl

-- no plan that is lent locks a name that is free to write
pub free_plan : (tables : List TableShape) (lent : FinMap nat_cmp Requests) (name : RowName) → is_free tables lent name ≡ true
    → (i : ℕ) (p : Requests) → get lent i ≡ Some p → locks_row tables p name Write ≡ false
free_plan tables lent name free i p e =
    one_free (λ r. locks_row tables r name Write) (entries lent) i p (not_any (list_any (λ x. locks_row tables x.1 name Write) (entries lent)) free) (sym (get-entries lent i) ∙ e)

-- a row that a store shows is here
pub store_here : (tables : List TableShape) (shelves : Shelves) (lent : BTreeMap ℕ (Snapshot Requests)) (stock : Stock)
    → record { tables = tables; rows = rows_of tables shelves; lent = lent_of lent } ≡ stock → IsRowStore tables shelves lent
    → (name : RowName) → is_free stock.tables stock.lent name ≡ true → (found tables shelves name).row ≡ (found tables shelves name).counts_as
store_here tables shelves lent stock is kept name free = kept.here name (λ i p e.
    ap (λ (s : Stock). locks_row s.tables p name Write) is
    ∙ free_plan stock.tables stock.lent name free i p (ap (λ (s : Stock). get s.lent i) (sym is) ∙ get-lent_of lent i ∙ e))

not_free : (tables : List TableShape) (lent : FinMap nat_cmp Requests) (i : ℕ) (p : Requests) → get lent i ≡ Some p → (name : RowName) → locks_row tables p name Write ≡ true
    → is_free tables lent name ≡ false
not_free tables lent i p e name w = elim (cases (is_free tables lent name)) [
  | inl free ↦ let clash : true ≡ false = sym w ∙ free_plan tables lent name free i p e in absurd (cc)
  | inr off ↦ off
]

-- what one plan that is lent locks to write, no other locks
pub lent_alone : (tables : List TableShape) (shelves : Shelves) (lent : BTreeMap ℕ (Snapshot Requests)) → LockedRowsConflict → IsRowStore tables shelves lent
    → AreLentAlone tables (lent_of lent)
lent_alone tables shelves lent law kept = λ i p e name w.
    let mine : lent_at lent i ≡ Some p = sym (get-lent_of lent i) ∙ e in (
      not_free tables (lent_of lent) i p e name w,
      λ j o f ne.
          let theirs : lent_at lent j ≡ Some o = sym (get-lent_of lent j) ∙ f in
          elim (cases (locks_row tables o name Read)) [
            | inl reads ↦ absurd (kept.apart i j p o mine theirs ne (law tables p o (kept.sound i p mine) (kept.sound j o theirs) name w reads))
            | inr off ↦ off
          ],
    )

none_of_len : {A : Type 0} (xs : List A) → length xs ≡ 0 → xs ≡ []
none_of_len [] e = refl
none_of_len (x ∷ xs) e = absurd (omega arith)

nothing : FinMap nat_cmp Requests
nothing = empty

pub all_free : (tables : List TableShape) (name : RowName) → is_free tables empty name ≡ true
unfolding nothing
all_free tables name =
    ap (λ es. not (list_any (λ (e : ℕ × Requests). locks_row tables e.1 name Write) es))
    (none_of_len (entries nothing) (sym (len-entries nothing) ∙ len-empty nat_cmp Requests))

-- where nothing is lent, the rows that count stand
pub all_here : (tables : List TableShape) (shelves : Shelves) (lent : BTreeMap ℕ (Snapshot Requests)) → lent_of lent ≡ empty → IsRowStore tables shelves lent
    → (q : RowName) → (found tables shelves q).row ≡ (found tables shelves q).counts_as
all_here tables shelves lent none kept q = kept.here q (λ i plan h.
    let clash : None ≡ Some plan = sym (get-empty nat_cmp i) ∙ ap (λ (f : FinMap nat_cmp Requests). get f i) (sym none) ∙ get-lent_of lent i ∙ h in
    absurd (cc))
