use Rattle.std.proofs.Common.{◌≡◌, ◌<◌, ◌+◌, ◌++◌, ◌∷◌, [], List, map, length, true, Some, slice_get, refl, sym, ap, ◌∙◌, subst, arith}
use Rattle.std.proofs.lemmas.Option.{slice_get_read}
use Rattle.coarsen.specs.Subtrees.{Requests}
use Rattle.lock_tree.specs.Ready.{ready}
use Rattle.interp.specs.Entries.{EntryParts, entry_shape}
use Rattle.scheduler.specs.Logs.{plans_for}
use Rattle.scheduler_core.specs.declared.phase.Phase.TheVariants as phase
use Rattle.scheduler_core.specs.Phases.{is_settled}
use Rattle.scheduler_core.specs.Events.{waiting}
use Rattle.scheduler.specs.declared.slot.Slot.{Slot}
use Rattle.scheduler.specs.declared.slot.Slot.TheVariants.{Settled}
use Rattle.scheduler.specs.Schedules.{log_of, phase_in}
use Rattle.scheduler.specs.Scheduled.{IsScheduled, AreSettledBefore, AreMade}
use Rattle.scheduler.specs.Moments.{is_between, is_next_ready}
use Rattle.scheduler.proofs.Places.{length_map}
use Rattle.scheduler.proofs.Making.{after_straight}
use Rattle.scheduler.proofs.Known.{plans_in, work_in, schedule_in, keeps_jobs}
use Rattle.scheduler.proofs.Between.{there_is, one_more, lend_is, between_is, all_free, still_lead, keeps_on, entry_there, goes_straight}
use Rattle.scheduler.proofs.scheduler.Scheduler.run_next.Goals.{After-index}
use Rattle.scheduler.proofs.scheduler.Scheduler.run_next.Goals as goal

pub returns-then-not-is_next_ready-clause-between : goal.returns-then-not-is_next_ready-clause-between
returns-then-not-is_next_ready-clause-between c = λ is.
    let w = work_in c.self.inside in
    let ready_then : is_next_ready c.args.self.now ≡ true =
    sym (ap is_next_ready c.self.view_is) ∙ between_is w (c.admitted_and_unsettled_wait.ensures w.first (log_of w)) c.first_ready.ensures c.self.invariant.0 c.self.inside.slots.items (ap is_between c.self.view_is ∙ is) in
    sym c.if-not-is_next_ready.true ∙ c.is_next_ready.ensures ∙ ready_then

-- the next one would be ready
is_ready : (c : After-index) → is_next_ready (schedule_in c.self.inside) ≡ true
is_ready c = ap is_next_ready c.self.view_is ∙ sym c.is_next_ready.ensures ∙ c.if-not-is_next_ready.false

joins : (c : After-index) → ready (waiting c.self.inside.first (log_of (work_in c.self.inside)) (map phase_in c.self.inside.slots.items ++ phase.Idle ∷ [])) (c.self.inside.first + length c.self.inside.slots.items) ≡ true
joins c =
    let s = schedule_in c.self.inside in
    sym (one_more s (there_is s (is_ready c)) ∙ lend_is (work_in c.self.inside) c.self.inside.slots.items) ∙ is_ready c

-- it, by its entry
next : (c : After-index) → (plan : Requests) × (slice_get (log_of (work_in c.self.inside)) (length c.self.inside.slots.items) ≡ Some (record { entry = entry_shape c.index.result.now; plan = plan }))
next c =
    let w = work_in c.self.inside in
    let less : length c.self.inside.slots.items < length c.self.inside.entries.items = there_is (schedule_in c.self.inside) (is_ready c) in
    let at : slice_get c.self.inside.entries.items c.len-place.result ≡ Some c.index.result.now =
    slice_get_read c.self.inside.entries.items (length c.self.inside.entries.items) c.len-place.result c.index.result.now refl (omega (arith, less, c.len-place.ensures)) c.index.ensures in
    let count : c.len-place.result ≡ length c.self.inside.slots.items = omega (arith, c.len-place.ensures) in
    let t = entry_there c.self.inside.entries.items (plans_in c.self.inside) c.len-place.result c.index.result.now c.self.invariant.0.plans at in
    (t.0, ap (slice_get (log_of w)) (sym count) ∙ t.1)

pub run_on_store-requires-clause-tables : goal.run_on_store-requires-clause-tables
run_on_store-requires-clause-tables c =
    let t = next (goal.at.run_on_store-requires-clause-tables c).After-index in
    (c.self.invariant.0.over (length c.self.inside.slots.items) (record { entry = entry_shape c.index.result.now; plan = t.0 }) t.1).0 ∙ sym c.self.invariant.1.tables

pub run_on_store-requires-clause-free : goal.run_on_store-requires-clause-free
run_on_store-requires-clause-free c =
    let a = (goal.at.run_on_store-requires-clause-free c).After-index in
    let w = work_in c.self.inside in let slots = c.self.inside.slots.items in
    let t = next a in
    let count : length (map phase_in slots) ≡ length slots = length_map phase_in slots in
    record {
      shown =
          all_free w (c.rows_are_serial.ensures w.tables w.first (log_of w) w.start c.self.invariant.0.planned) (c.admitted_and_unsettled_wait.ensures w.first (log_of w)) c.run_on_shown_rows_is_run.ensures c.stays_in_footprint.ensures
          c.clashes_are_either_way.ensures c.locked_names_are_free_where_plans_are_apart.ensures c.self.invariant.0 slots c.self.inside.store c.self.inside.locks c.self.invariant.1 (joins a)
          (record { entry = entry_shape c.index.result.now; plan = t.0 }) (ap (slice_get (log_of w)) count ∙ t.1);
    }

pub returns-clause-keeps : goal.returns-clause-keeps
returns-clause-keeps c = λ keeps place lent.
    let items : c.push_reserved.new.self.items ≡ c.self.inside.slots.items ++ Settled c.in_ok-outcome.outcome ∷ [] = c.push_reserved.ensures.items ∙ ap (λ (xs : List Slot). xs ++ Settled c.in_ok-outcome.outcome ∷ []) c.reserve.ensures.items in
    keeps_on c.self.inside.slots.items c.in_ok-outcome.outcome (keeps_jobs c.self.inside c.args.self.now c.self.view_is keeps) place (ap (λ (xs : List Slot). slice_get xs place) (sym items) ∙ lent)

pub count_settled-self-inside-requires-clause-before : goal.count_settled-self-inside-requires-clause-before
count_settled-self-inside-requires-clause-before c = λ place less.
    ap (λ (xs : List Slot). is_settled (slice_get (map phase_in xs) place))
    (c.deref-2.ensures.value ∙ c.push_reserved.ensures.items ∙ ap (λ (xs : List Slot). xs ++ Settled c.in_ok-outcome.outcome ∷ []) c.reserve.ensures.items)
    ∙ still_lead c.self.inside.slots.items c.in_ok-outcome.outcome c.self.inside.settled c.self.invariant.2 place less

pub invariant_of-self-2 : goal.invariant_of-self-2
invariant_of-self-2 c =
    let w = work_in c.self.inside in
    let a = (goal.at.invariant_of-self-2 c).After-index in
    let t = next a in
    let items : c.push_reserved.new.self.items ≡ c.self.inside.slots.items ++ Settled c.in_ok-outcome.outcome ∷ [] = c.push_reserved.ensures.items ∙ ap (λ (xs : List Slot). xs ++ Settled c.in_ok-outcome.outcome ∷ []) c.reserve.ensures.items in (
      c.self.invariant.0,
      subst (λ (slots : List Slot). IsScheduled w slots c.run_on_store.new.store c.self.inside.locks) (sym items)
          (goes_straight w (c.rows_are_serial.ensures w.tables w.first (log_of w) w.start c.self.invariant.0.planned) (c.admitted_and_unsettled_wait.ensures w.first (log_of w)) c.run_on_shown_rows_is_run.ensures c.stays_in_footprint.ensures
          c.clashes_are_either_way.ensures c.locked_names_are_free_where_plans_are_apart.ensures c.self.invariant.0 c.self.inside.slots.items c.self.inside.store c.self.inside.locks c.self.invariant.1 (joins a)
          (record { entry = entry_shape c.index.result.now; plan = t.0 }) c.run_on_store.new.store c.in_ok-outcome.outcome t.1 c.in_ok-outcome.ensures.run c.run_on_store.ensures.tables c.run_on_store.ensures.lent),
      subst (λ (slots : List Slot). AreSettledBefore slots c.count_settled-self-inside.result) c.deref-2.ensures.value
          (record { before = c.count_settled-self-inside.ensures.before; next = c.count_settled-self-inside.ensures.next; within = c.count_settled-self-inside.ensures.within }),
      record {
        some = c.self.invariant.3.some;
        are_made = subst (λ (xs : List Slot). AreMade (plans_in c.self.inside) c.count_settled-self-inside.result (length xs) c.make_beside.new.self.from c.make_beside.new.self.made.items) (sym items)
            (after_straight (plans_in c.self.inside) c.self.inside.slots.items c.in_ok-outcome.outcome c.self.inside.settled c.count_settled-self-inside.result c.len-place.result c.make_beside.new.self.from c.make_beside.new.self.made.items
            (omega (arith, c.len-place.ensures)) c.count_settled-self-inside.ensures.known
            (ap (λ (xs : List Slot). is_settled (slice_get (map phase_in xs) c.count_settled-self-inside.result)) (sym (c.deref-2.ensures.value ∙ items)) ∙ c.count_settled-self-inside.ensures.next)
            (subst (λ (es : List EntryParts). AreMade (plans_for c.self.inside.threshold c.self.inside.arena es) c.self.inside.settled c.len-place.result c.make_beside.new.self.from c.make_beside.new.self.made.items) c.deref.ensures.value c.make_beside.ensures.made)
            (λ less. subst (λ (es : List EntryParts). AreMade (plans_for c.self.inside.threshold c.self.inside.arena es) c.self.inside.settled (c.len-place.result + 1) c.make_beside.new.self.from c.make_beside.new.self.made.items) c.deref.ensures.value (c.in_ok-make_beside.ensures.next less)));
      },
    )
