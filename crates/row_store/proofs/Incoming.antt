-- What giving back keeps, whatever a loan holds.
use Rattle.std.proofs.Common.{◌≡◌, ℕ, cond, if◌then◌else◌, List, [], sym, ◌∙◌, Some, None}
use Rattle.std.specs.Ordering.{nat_cmp}
use Rattle.std.specs.BTreeMap.{BTreeMap, is_at}
use Rattle.std.specs.FinMap.{get}
use Rattle.std.specs.declared.snapshot.Snapshot.{Snapshot}
use Rattle.values.specs.declared.name.RowName.{RowName}
use Rattle.catalogue.specs.Shapes.{TableShape}
use Rattle.proclang_types.specs.declared.right.Right.TheVariants.{Write}
use Rattle.footprint.specs.declared.resource.Resource.{Resource}
use Rattle.coarsen.specs.Subtrees.{Requests}
use Rattle.coarsen.specs.Clashes.{locks_row}
use Rattle.coarsen.specs.Laws.{LockedRowsConflict}
use Rattle.row_store.specs.declared.held.HeldShelves.{HeldShelves}
use Rattle.row_store.specs.declared.held.Holdings.{Holdings}
use Rattle.row_store.specs.declared.held.Holdings.TheVariants.{Rows, Shelves}
use Rattle.shelves.specs.Places.{Shelves as AllShelves, has_shelf, full}
use Rattle.shelves.specs.Shelving.{shelf_of}
use Rattle.row_store.specs.Held.{row_by_name, rows_by_name, rows_held, IsLoanOf, CanGoBack, AreShelvesBack, IsBackFrom}
use Rattle.shelves.specs.Named.{names_listed}
use Rattle.shelves.specs.Rows.{found, rows_of}
use Rattle.row_store.specs.Views.{lent_at, IsRowStore}
use Rattle.row_store.proofs.Back.{IsBack, Gives, out_and_back, kept_back, shown_back}
use Rattle.row_store.proofs.ByName.{gives_rows, rows_back, get-rows_by_name}
use Rattle.row_store.proofs.Kept.{none_written}
use Rattle.shelves.proofs.Rows.{get-rows_of}

pub can_go_back : (tables : List TableShape) (plan : Requests) (shelves : AllShelves) (held : Holdings) (lent : BTreeMap ℕ (Snapshot Requests)) (number : ℕ)
    → IsLoanOf tables plan held → lent_at lent number ≡ Some plan → IsRowStore tables shelves lent → CanGoBack tables shelves held
can_go_back tables plan shelves (Rows held) lent number loan out kept = (
  λ q h. kept.with_place number plan out q (none_written plan (shelf_of tables q) (loan.no_shelf q)) (sym (loan.written q) ∙ h),
  loan.distinct,
)
can_go_back tables plan shelves (Shelves held) lent number loan out kept = tt

pub gives_shelves : (tables : List TableShape) (plan : Requests) (held : HeldShelves) → IsLoanOf tables plan (Shelves held)
    → Gives tables plan (found tables held.shelves) held.written_shelves.items held.written_names.items
gives_shelves tables plan held loan = record {
  over = loan.over;
  written_shelves = loan.written_shelves;
  written_names = loan.written_names;
  here = loan.here;
}

shelves_back : (tables : List TableShape) (plan : Requests) (old new : AllShelves) (held : HeldShelves) (lent : BTreeMap ℕ (Snapshot Requests)) (number : ℕ)
    → AreShelvesBack tables old new held → IsLoanOf tables plan (Shelves held) → lent_at lent number ≡ Some plan → IsRowStore tables old lent
    → IsBack tables old new (found tables held.shelves) held.written_shelves.items held.written_names.items
shelves_back tables plan old new held lent number back loan out kept =
    out_and_back tables plan old new held.shelves held.written_shelves.items held.written_names.items lent number loan out kept back.seen back.places back.away

pub store_back : (tables : List TableShape) (plan : Requests) (old new : AllShelves) (held : Holdings) (lent then_lent : BTreeMap ℕ (Snapshot Requests)) (number : ℕ)
    → IsBackFrom tables old new held → ((d : Resource) → has_shelf new d ≡ has_shelf old d) → IsLoanOf tables plan held
    → lent_at lent number ≡ Some plan → ((i : ℕ) → lent_at then_lent i ≡ cond (is_at (nat_cmp number) i) None (lent_at lent i))
    → LockedRowsConflict → IsRowStore tables old lent → IsRowStore tables new then_lent
store_back tables plan old new (Rows held) lent then_lent number back shelves loan out taken law kept =
    kept_back tables plan old new (λ q. full (row_by_name held q)) [] (names_listed held.written.items) lent then_lent number
    (rows_back tables old new held back) shelves (gives_rows tables plan held loan) out taken law kept
store_back tables plan old new (Shelves held) lent then_lent number back shelves loan out taken law kept =
    kept_back tables plan old new (found tables held.shelves) held.written_shelves.items held.written_names.items lent then_lent number
    (shelves_back tables plan old new held lent number back loan out kept) shelves (gives_shelves tables plan held loan) out taken law kept

pub rows_given : (tables : List TableShape) (plan : Requests) (old new : AllShelves) (held : Holdings) (lent : BTreeMap ℕ (Snapshot Requests)) (number : ℕ)
    → IsBackFrom tables old new held → IsLoanOf tables plan held → lent_at lent number ≡ Some plan → IsRowStore tables old lent → (q : RowName)
    → get (rows_of tables new) q ≡ (if locks_row tables plan q Write then get (rows_held tables held) q else get (rows_of tables old) q)
rows_given tables plan old new (Rows held) lent number back loan out kept q =
    shown_back tables plan old new (λ q. full (row_by_name held q)) [] (names_listed held.written.items)
    (rows_back tables old new held back) (gives_rows tables plan held loan) (rows_by_name held) q (get-rows_by_name held q)
rows_given tables plan old new (Shelves held) lent number back loan out kept q =
    shown_back tables plan old new (found tables held.shelves) held.written_shelves.items held.written_names.items
    (shelves_back tables plan old new held lent number back loan out kept) (gives_shelves tables plan held loan) (rows_of tables held.shelves) q (get-rows_of tables held.shelves q)
