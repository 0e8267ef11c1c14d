-- A log whose plans serve its entries.
use Rattle.std.proofs.Common.{◌≡◌, ◌≤◌, ◌+◌, ◌^◌, ℕ, zero, suc, true, List, [], ◌∷◌, length, Option, Some, None, slice_get, refl, sym, ap, ◌∙◌, subst}
use Rattle.catalogue.specs.Shapes.{TableShape}
use Rattle.catalogue.specs.Rules.{IsCatalogue}
use Rattle.values.specs.declared.name.RowName.{RowName}
use Rattle.proclang_types.specs.declared.right.Right.{Right}
use Rattle.footprint.specs.Tree.{row_resource}
use Rattle.footprint.specs.Rights.{FootprintOf}
use Rattle.coarsen.specs.Subtrees.{Requests}
use Rattle.coarsen.specs.Plans.{IsPlanOver}
use Rattle.coarsen.specs.Clashes.{locks_row}
use Rattle.meaning.specs.Entries.{footprint_of}
use Rattle.meaning.specs.Frame.{may_touch}
use Rattle.interp.specs.Entries.{EntryParts, entry_shape}
use Rattle.scheduler_core.specs.Transactions.{Transaction, IsPlanned}
use Rattle.scheduler.specs.Logs.{transactions_of, SufficesFor, IsPlannedFor, ArePlannedFor}
use Rattle.interp.specs.Over.{locked_for, IsEntryOver, AreEntriesOver}
use Rattle.scheduler.specs.Schedules.{Work}
use Rattle.scheduler.specs.Scheduled.{IsFitting}

covered : (tables : List TableShape) (arena : ℕ) (o : Option FootprintOf) (plan : Requests) → SufficesFor arena (locked_for o) plan
    → (name : RowName) (right : Right) → may_touch tables o name right ≡ true → locks_row tables plan name right ≡ true
covered tables arena None plan s name right e = absurd (cc)
covered tables arena (Some f) plan s name right e = s.covered (row_resource tables name) right e

planned_one : (tables : List TableShape) (arena : ℕ) (entry : EntryParts) (plan : Requests) → IsEntryOver tables entry → IsPlannedFor arena entry plan
    → IsPlanned tables (record { entry = entry_shape entry; plan = plan })
planned_one tables arena entry plan over s = record {
  sound = s.sound;
  locks = λ name right e.
      ap (λ ts. locks_row ts plan name right) (sym over.of_tables)
      ∙ covered entry.request.proc.tables arena (footprint_of (entry_shape entry).footing) plan s name right e;
}

record Facts (tables : List TableShape) (arena : ℕ) (t : Transaction) : Type 0 where
  of_tables : t.entry.tables ≡ tables
  plan_over : IsPlanOver tables t.plan
  planned : IsPlanned tables t
  size : length t.plan ≤ arena

facts : (tables : List TableShape) (arena : ℕ) → IsCatalogue tables → (entries : List EntryParts) (plans : List Requests) → AreEntriesOver tables entries → ArePlannedFor arena entries plans
    → (place : ℕ) (t : Transaction) → slice_get (transactions_of entries plans) place ≡ Some t → Facts tables arena t
facts tables arena cat [] plans over all place t is = absurd (let g : None ≡ Some t = is in cc)
facts tables arena cat (x ∷ entries) [] over all place t is = absurd all
facts tables arena cat (x ∷ entries) (p ∷ plans) over all zero t is =
    let e : record { entry = entry_shape x; plan = p } ≡ t = (let g : Some (record { entry = entry_shape x; plan = p }) ≡ Some t = is in cc) in
    subst (Facts tables arena) e (record {
      of_tables = over.0.of_tables;
      plan_over = all.0.over tables cat over.0.touches;
      planned = planned_one tables arena x p over.0 all.0;
      size = all.0.size;
    })
facts tables arena cat (x ∷ entries) (p ∷ plans) over all (suc place) t is = facts tables arena cat entries plans over.1 all.1 place t is

as_many : (arena : ℕ) (entries : List EntryParts) (plans : List Requests) → ArePlannedFor arena entries plans → length plans ≡ length entries
as_many arena [] [] all = refl
as_many arena [] (p ∷ plans) all = absurd all
as_many arena (x ∷ entries) [] all = absurd all
as_many arena (x ∷ entries) (p ∷ plans) all = ap suc (as_many arena entries plans all.1)

pub fitting : (w : Work) → IsCatalogue w.tables → AreEntriesOver w.tables w.entries → ArePlannedFor w.arena w.entries w.plans → w.first + length w.entries ≤ 2 ^ 48 → IsFitting w
fitting w cat over all few = record {
  over = λ place t is. let f = facts w.tables w.arena cat w.entries w.plans over all place t is in (f.of_tables, f.plan_over);
  planned = λ place t is. (facts w.tables w.arena cat w.entries w.plans over all place t is).planned;
  fit = λ place t is. (facts w.tables w.arena cat w.entries w.plans over all place t is).size;
  plans = as_many w.arena w.entries w.plans all;
  few = few;
}
