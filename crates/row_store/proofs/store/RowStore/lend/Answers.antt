use Rattle.std.proofs.Common.{◌≡◌, ℕ, List, Some, None, option_map, cond, map, refl, sym, ap, subst, ◌∙◌}
use Rattle.std.specs.Ordering.{nat_cmp}
use Rattle.std.specs.BTreeMap.{is_at}
use Rattle.std.specs.Map.{lookup}
use Rattle.std.specs.FinMap as finite
use Rattle.std.specs.declared.snapshot.Snapshot.{Snapshot}
use Rattle.catalogue.specs.Shapes.{TableShape}
use Rattle.values.specs.Database.{Database}
use Rattle.coarsen.specs.Subtrees.{Requests}
use Rattle.coarsen.specs.Plans.{IsPlanOver}
use Rattle.coarsen.specs.Clashes.{locks_row}
use Rattle.proclang_types.specs.declared.right.Right.TheVariants.{Read}
use Rattle.row_store.specs.Stock.{Stock}
use Rattle.shelves.specs.Shelving.{shelf_of}
use Rattle.row_store.specs.Held.{rows_held, IsLoanOf}
use Rattle.shelves.specs.Rows.{rows_of}
use Rattle.row_store.specs.Views.{lent_of, lent_at}
use Rattle.shelves.proofs.Rows.{same_rows}
use Rattle.row_store.proofs.Numbers.{get-lent_of, lent_put, lent_inserted}
use Rattle.row_store.proofs.Forgotten.{kept_here}
use Rattle.row_store.proofs.Kept.{on_err}
use Rattle.row_store.proofs.Outgoing.{IsLending, all_here, kept_held, loan_out, shown_out, counts_out, store_out}
use Rattle.row_store.proofs.store.RowStore.lend.Goals as goal

pub hold-requires-clause-over : goal.hold-requires-clause-over
hold-requires-clause-over c = subst (λ (t : List TableShape). IsPlanOver t c.args.plan.now) (sym (ap (λ (s : Stock). s.tables) c.self.view_is)) c.requires.over

pub hold-requires-clause-here : goal.hold-requires-clause-here
hold-requires-clause-here c =
    all_here c.self.inside.catalogue c.self.inside.shelves c.self.inside.lent c.args.plan.now c.locked_rows_conflict.ensures c.requests-requests.ensures.sound
    (λ i p e. c.requires.apart i p (sym (ap (λ (s : Stock). finite.get s.lent i) c.self.view_is) ∙ get-lent_of c.self.inside.lent i ∙ e))
    c.self.invariant.0

pub returns-in_err-ready-clause-rows : goal.returns-in_err-ready-clause-rows
returns-in_err-ready-clause-rows c =
    same_rows c.self.inside.catalogue c.self.inside.shelves c.hold.new.shelves (λ q. ap (λ p. p.counts_as) (c.hold.ensures.seen (shelf_of c.self.inside.catalogue q) q))
    ∙ ap (λ (s : Stock). s.rows) c.self.view_is

pub returns-in_err-ready-clause-err : goal.returns-in_err-ready-clause-err
returns-in_err-ready-clause-err c =
    let rows = same_rows c.self.inside.catalogue c.self.inside.shelves c.hold.new.shelves (λ q. ap (λ p. p.counts_as) (c.hold.ensures.seen (shelf_of c.self.inside.catalogue q) q)) in
    on_err c.from_residual.result _
    (ap (λ (r : Database). record { tables = c.self.inside.catalogue; rows = r; lent = lent_of c.self.inside.lent }) rows ∙ c.self.view_is)

pub returns-in_err-catalogue-clause-rows : goal.returns-in_err-catalogue-clause-rows
returns-in_err-catalogue-clause-rows c =
    same_rows c.self.inside.catalogue c.self.inside.shelves c.hold.new.shelves (λ q. ap (λ p. p.counts_as) (c.hold.ensures.seen (shelf_of c.self.inside.catalogue q) q))
    ∙ ap (λ (s : Stock). s.rows) c.self.view_is

pub returns-in_err-catalogue-clause-err : goal.returns-in_err-catalogue-clause-err
returns-in_err-catalogue-clause-err c =
    let rows = same_rows c.self.inside.catalogue c.self.inside.shelves c.hold.new.shelves (λ q. ap (λ p. p.counts_as) (c.hold.ensures.seen (shelf_of c.self.inside.catalogue q) q)) in
    on_err c.from_residual-in_err-catalogue.result _
    (ap (λ (r : Database). record { tables = c.self.inside.catalogue; rows = r; lent = lent_of c.self.inside.lent }) rows ∙ c.self.view_is)

pub invariant_of-self : goal.invariant_of-self
invariant_of-self c =
    let lending : IsLending c.self.inside.catalogue c.self.inside.shelves c.hold.new.shelves c.self.inside.lent c.args.plan.now = record {
      seen = c.hold.ensures.seen;
      places = c.hold.ensures.kept;
      shelves = c.hold.ensures.shelves;
      away = c.hold.ensures.away;
      law = c.locked_rows_conflict.ensures;
      sound = c.requests-requests.ensures.sound;
      over = subst (λ (t : List TableShape). IsPlanOver t c.args.plan.now) (sym (ap (λ (s : Stock). s.tables) c.self.view_is)) c.requires.over;
      free = λ i p e. c.requires.apart i p (sym (ap (λ (s : Stock). finite.get s.lent i) c.self.view_is) ∙ get-lent_of c.self.inside.lent i ∙ e);
      kept = c.self.invariant.0;
    } in (
      kept_held c.self.inside.catalogue c.self.inside.shelves c.hold.new.shelves c.self.inside.lent c.self.inside.lent c.args.plan.now lending (λ i. refl),
      kept_here c.self.inside.catalogue c.self.inside.shelves c.hold.new.shelves c.self.inside.kept (λ q. ap (λ p. p.counts_as) (c.hold.ensures.seen (shelf_of c.self.inside.catalogue q) q)) c.self.invariant.1,
      tt,
    )

pub invariant_of-self-in_err-catalogue : goal.invariant_of-self-in_err-catalogue
invariant_of-self-in_err-catalogue c =
    let lending : IsLending c.self.inside.catalogue c.self.inside.shelves c.hold.new.shelves c.self.inside.lent c.args.plan.now = record {
      seen = c.hold.ensures.seen;
      places = c.hold.ensures.kept;
      shelves = c.hold.ensures.shelves;
      away = c.hold.ensures.away;
      law = c.locked_rows_conflict.ensures;
      sound = c.requests-requests.ensures.sound;
      over = subst (λ (t : List TableShape). IsPlanOver t c.args.plan.now) (sym (ap (λ (s : Stock). s.tables) c.self.view_is)) c.requires.over;
      free = λ i p e. c.requires.apart i p (sym (ap (λ (s : Stock). finite.get s.lent i) c.self.view_is) ∙ get-lent_of c.self.inside.lent i ∙ e);
      kept = c.self.invariant.0;
    } in (
      kept_held c.self.inside.catalogue c.self.inside.shelves c.hold.new.shelves c.self.inside.lent c.self.inside.lent c.args.plan.now lending (λ i. refl),
      kept_here c.self.inside.catalogue c.self.inside.shelves c.hold.new.shelves c.self.inside.kept (λ q. ap (λ p. p.counts_as) (c.hold.ensures.seen (shelf_of c.self.inside.catalogue q) q)) c.self.invariant.1,
      tt,
    )

pub invariant_of-self-in_err-insert : goal.invariant_of-self-in_err-insert
invariant_of-self-in_err-insert c =
    let lending : IsLending c.self.inside.catalogue c.self.inside.shelves c.hold.new.shelves c.self.inside.lent c.args.plan.now = record {
      seen = c.hold.ensures.seen;
      places = c.hold.ensures.kept;
      shelves = c.hold.ensures.shelves;
      away = c.hold.ensures.away;
      law = c.locked_rows_conflict.ensures;
      sound = c.requests-requests.ensures.sound;
      over = subst (λ (t : List TableShape). IsPlanOver t c.args.plan.now) (sym (ap (λ (s : Stock). s.tables) c.self.view_is)) c.requires.over;
      free = λ i p e. c.requires.apart i p (sym (ap (λ (s : Stock). finite.get s.lent i) c.self.view_is) ∙ get-lent_of c.self.inside.lent i ∙ e);
      kept = c.self.invariant.0;
    } in (
      kept_held c.self.inside.catalogue c.self.inside.shelves c.hold.new.shelves c.self.inside.lent c.insert.new.self c.args.plan.now lending
          (λ i. ap (λ (es : List (ℕ × Snapshot Requests)). option_map (λ (p : Snapshot Requests). p.value) (lookup (is_at (nat_cmp i)) es)) c.in_err-insert.ensures.err),
      kept_here c.self.inside.catalogue c.self.inside.shelves c.hold.new.shelves c.self.inside.kept (λ q. ap (λ p. p.counts_as) (c.hold.ensures.seen (shelf_of c.self.inside.catalogue q) q)) c.self.invariant.1,
      tt,
    )

pub returns-in_err-insert-clause-rows : goal.returns-in_err-insert-clause-rows
returns-in_err-insert-clause-rows c =
    same_rows c.self.inside.catalogue c.self.inside.shelves c.hold.new.shelves (λ q. ap (λ p. p.counts_as) (c.hold.ensures.seen (shelf_of c.self.inside.catalogue q) q))
    ∙ ap (λ (s : Stock). s.rows) c.self.view_is

pub returns-in_err-insert-clause-err : goal.returns-in_err-insert-clause-err
returns-in_err-insert-clause-err c =
    let rows = same_rows c.self.inside.catalogue c.self.inside.shelves c.hold.new.shelves (λ q. ap (λ p. p.counts_as) (c.hold.ensures.seen (shelf_of c.self.inside.catalogue q) q)) in
    on_err c.from_residual-in_err-insert.result _
    (ap (λ (r : Database). record { tables = c.self.inside.catalogue; rows = r; lent = lent_of c.insert.new.self }) rows
    ∙ ap (λ (es : List (ℕ × Snapshot Requests)). record { tables = c.self.inside.catalogue; rows = rows_of c.self.inside.catalogue c.self.inside.shelves; lent = finite.from_entries (map {B = ℕ × Requests} (λ e. (e.0, e.1.value)) es) }) c.in_err-insert.ensures.err
    ∙ c.self.view_is)

pub invariant_of-result : goal.invariant_of-result
invariant_of-result c =
    let lending : IsLending c.self.inside.catalogue c.self.inside.shelves c.hold.new.shelves c.self.inside.lent c.args.plan.now = record {
      seen = c.hold.ensures.seen;
      places = c.hold.ensures.kept;
      shelves = c.hold.ensures.shelves;
      away = c.hold.ensures.away;
      law = c.locked_rows_conflict.ensures;
      sound = c.requests-requests.ensures.sound;
      over = subst (λ (t : List TableShape). IsPlanOver t c.args.plan.now) (sym (ap (λ (s : Stock). s.tables) c.self.view_is)) c.requires.over;
      free = λ i p e. c.requires.apart i p (sym (ap (λ (s : Stock). finite.get s.lent i) c.self.view_is) ∙ get-lent_of c.self.inside.lent i ∙ e);
      kept = c.self.invariant.0;
    } in
    subst (λ (t : List TableShape). IsLoanOf t c.of-2.result.value c.take_out-held.result) (sym c.in_ok-catalogue.ensures.cases)
    (subst (λ (p : Requests). IsLoanOf c.self.inside.catalogue p c.take_out-held.result) (sym c.of-2.ensures)
    (loan_out c.self.inside.catalogue c.self.inside.shelves c.hold.new.shelves c.take_out-held.new.shelves c.self.inside.lent c.args.plan.now c.in_ok-ready.ready c.take_out-held.result lending c.in_ok-ready.ensures.ready c.take_out-held.ensures))

pub invariant_of-self-2 : goal.invariant_of-self-2
invariant_of-self-2 c =
    let lending : IsLending c.self.inside.catalogue c.self.inside.shelves c.hold.new.shelves c.self.inside.lent c.args.plan.now = record {
      seen = c.hold.ensures.seen;
      places = c.hold.ensures.kept;
      shelves = c.hold.ensures.shelves;
      away = c.hold.ensures.away;
      law = c.locked_rows_conflict.ensures;
      sound = c.requests-requests.ensures.sound;
      over = subst (λ (t : List TableShape). IsPlanOver t c.args.plan.now) (sym (ap (λ (s : Stock). s.tables) c.self.view_is)) c.requires.over;
      free = λ i p e. c.requires.apart i p (sym (ap (λ (s : Stock). finite.get s.lent i) c.self.view_is) ∙ get-lent_of c.self.inside.lent i ∙ e);
      kept = c.self.invariant.0;
    } in
    let none : lent_at c.self.inside.lent c.args.no ≡ None =
    sym (get-lent_of c.self.inside.lent c.args.no) ∙ ap (λ (s : Stock). finite.get s.lent c.args.no) c.self.view_is ∙ c.requires.unlent in
    let put : (i : ℕ) → lent_at c.insert.new.self i ≡ cond (is_at (nat_cmp c.args.no) i) (Some c.args.plan.now) (lent_at c.self.inside.lent i) =
    λ i. lent_put c.self.inside.lent c.insert.new.self c.args.no (Some c.of.result) c.in_ok-insert.ensures.updates.0 i
    ∙ ap (λ (p : Requests). cond (is_at (nat_cmp c.args.no) i) (Some p) (lent_at c.self.inside.lent i)) c.of.ensures in (
      store_out c.self.inside.catalogue c.self.inside.shelves c.hold.new.shelves c.take_out-held.new.shelves c.self.inside.lent c.insert.new.self c.args.no c.args.plan.now c.in_ok-ready.ready c.take_out-held.result
          lending c.in_ok-ready.ensures.ready c.take_out-held.ensures put none c.clashes_are_either_way.ensures,
      kept_here c.self.inside.catalogue c.self.inside.shelves c.take_out-held.new.shelves c.self.inside.kept
          (counts_out c.self.inside.catalogue c.self.inside.shelves c.hold.new.shelves c.take_out-held.new.shelves c.self.inside.lent c.args.plan.now c.in_ok-ready.ready c.take_out-held.result lending c.in_ok-ready.ensures.ready c.take_out-held.ensures)
          c.self.invariant.1,
      tt,
    )

pub returns-clause-rows : goal.returns-clause-rows
returns-clause-rows c =
    let lending : IsLending c.self.inside.catalogue c.self.inside.shelves c.hold.new.shelves c.self.inside.lent c.args.plan.now = record {
      seen = c.hold.ensures.seen;
      places = c.hold.ensures.kept;
      shelves = c.hold.ensures.shelves;
      away = c.hold.ensures.away;
      law = c.locked_rows_conflict.ensures;
      sound = c.requests-requests.ensures.sound;
      over = subst (λ (t : List TableShape). IsPlanOver t c.args.plan.now) (sym (ap (λ (s : Stock). s.tables) c.self.view_is)) c.requires.over;
      free = λ i p e. c.requires.apart i p (sym (ap (λ (s : Stock). finite.get s.lent i) c.self.view_is) ∙ get-lent_of c.self.inside.lent i ∙ e);
      kept = c.self.invariant.0;
    } in
    same_rows c.self.inside.catalogue c.self.inside.shelves c.take_out-held.new.shelves
    (counts_out c.self.inside.catalogue c.self.inside.shelves c.hold.new.shelves c.take_out-held.new.shelves c.self.inside.lent c.args.plan.now c.in_ok-ready.ready c.take_out-held.result lending c.in_ok-ready.ensures.ready c.take_out-held.ensures)
    ∙ ap (λ (s : Stock). s.rows) c.self.view_is

pub returns-clause-lent : goal.returns-clause-lent
returns-clause-lent c =
    let put : (i : ℕ) → lent_at c.insert.new.self i ≡ cond (is_at (nat_cmp c.args.no) i) (Some c.args.plan.now) (lent_at c.self.inside.lent i) =
    λ i. lent_put c.self.inside.lent c.insert.new.self c.args.no (Some c.of.result) c.in_ok-insert.ensures.updates.0 i
    ∙ ap (λ (p : Requests). cond (is_at (nat_cmp c.args.no) i) (Some p) (lent_at c.self.inside.lent i)) c.of.ensures in
    lent_inserted c.self.inside.lent c.insert.new.self c.args.no c.args.plan.now put
    ∙ ap (λ (s : Stock). finite.insert s.lent c.args.no c.args.plan.now) c.self.view_is

pub returns-clause-loan : goal.returns-clause-loan
returns-clause-loan c =
    let lending : IsLending c.self.inside.catalogue c.self.inside.shelves c.hold.new.shelves c.self.inside.lent c.args.plan.now = record {
      seen = c.hold.ensures.seen;
      places = c.hold.ensures.kept;
      shelves = c.hold.ensures.shelves;
      away = c.hold.ensures.away;
      law = c.locked_rows_conflict.ensures;
      sound = c.requests-requests.ensures.sound;
      over = subst (λ (t : List TableShape). IsPlanOver t c.args.plan.now) (sym (ap (λ (s : Stock). s.tables) c.self.view_is)) c.requires.over;
      free = λ i p e. c.requires.apart i p (sym (ap (λ (s : Stock). finite.get s.lent i) c.self.view_is) ∙ get-lent_of c.self.inside.lent i ∙ e);
      kept = c.self.invariant.0;
    } in
    let tables : c.self.inside.catalogue ≡ c.args.self.now.tables = ap (λ (s : Stock). s.tables) c.self.view_is in
    record {
      tables = c.in_ok-catalogue.ensures.cases ∙ tables;
      of_plan = c.of-2.ensures;
      rows = λ q reads.
          ap (λ (t : List TableShape). finite.get (rows_held t c.take_out-held.result) q) c.in_ok-catalogue.ensures.cases
          ∙ shown_out c.self.inside.catalogue c.self.inside.shelves c.hold.new.shelves c.take_out-held.new.shelves c.self.inside.lent c.args.plan.now c.in_ok-ready.ready c.take_out-held.result lending c.in_ok-ready.ensures.ready c.take_out-held.ensures q
          (ap (λ (t : List TableShape). locks_row t c.args.plan.now q Read) tables ∙ reads)
          ∙ ap (λ (s : Stock). finite.get s.rows q) c.self.view_is;
    }
