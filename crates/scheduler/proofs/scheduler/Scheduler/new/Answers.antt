use Rattle.std.proofs.Common.{◌≡◌, ap, List, length, subst, sym, arith}
use Rattle.row_store.specs.Stock.{Stock}
use Rattle.scheduler.specs.declared.slot.Slot.{Slot}
use Rattle.coarsen.specs.Subtrees.{Requests}
use Rattle.scheduler.specs.Logs.{plans_for}
use Rattle.scheduler.specs.Schedules.{log_of, work_of}
use Rattle.scheduler.specs.Scheduled.{IsScheduled, AreSettledBefore, ArePlansFrom}
use Rattle.scheduler.proofs.Fitting.{fitting}
use Rattle.scheduler.proofs.Starts.{starts, none_settled}
use Rattle.scheduler.proofs.Making.{plans_are, they_serve, settled_all, none_made}
use Rattle.scheduler.proofs.scheduler.Scheduler.new.Goals as goal

pub invariant_of-result : goal.invariant_of-result
invariant_of-result c =
    let w = work_of c.args.catalogue c.args.arena c.args.first c.args.entries.items (plans_for c.args.threshold c.args.arena c.args.entries.items) c.of-start.result.value.rows in
    let fit = fitting w c.len-tables.ensures.sound c.requires.over (they_serve c.plan_is_one.ensures c.plans_serve.ensures c.args.threshold c.args.arena c.requires.room c.args.entries.items) c.requires.few in
    let sound = c.rows_are_serial.ensures w.tables w.first (log_of w) w.start fit.planned in
    let follows = c.admitted_and_unsettled_wait.ensures w.first (log_of w) in (
      fit,
      subst (λ (slots : List Slot). IsScheduled w slots c.args.store c.in-Ok.locks) (sym c.new-3.ensures.items)
          (starts w sound follows c.args.store c.in-Ok.locks c.requires.tables (ap (λ (s : Stock). s.rows) (sym c.of-start.ensures)) c.requires.unlent c.in-Ok.ensures),
      subst (λ (slots : List Slot). AreSettledBefore slots 0) (sym c.new-3.ensures.items) none_settled,
      record {
        some = c.requires.room;
        are_made = settled_all w.plans 0 (length c.new-3.result.items) c.new-2.result.from c.new-2.result.made.items
            (let e : length c.new-3.result.items ≡ 0 = ap length c.new-3.ensures.items in omega (arith, e)) (let e = c.new-2.ensures.from in omega (arith, e))
            (subst (λ (made : List Requests). ArePlansFrom w.plans c.new-2.result.from made) (sym c.new-2.ensures.none) (none_made w.plans c.new-2.result.from));
      },
    )

pub returns-clause-plans : goal.returns-clause-plans
returns-clause-plans c = plans_are c.plan_is_one.ensures c.args.threshold c.args.arena c.args.entries.items
