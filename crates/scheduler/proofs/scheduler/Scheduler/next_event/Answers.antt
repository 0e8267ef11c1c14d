use Rattle.std.proofs.Common.{◌≡◌, ◌≢◌, ◌<◌, ◌≤◌, length, map, Some, None, slice_get, refl, sym, subst, arith}
use Rattle.std.proofs.lemmas.Option.{slice_get_read}
use Rattle.scheduler_core.specs.declared.event.Event.TheVariants.{Admit}
use Rattle.scheduler_core.specs.Choices.{next_event, IsNextEvent}
use Rattle.scheduler.specs.Schedules.{Schedule, log_of, phases_of, phase_in, work_of}
use Rattle.scheduler.proofs.Next.{open_next, done_next, admit_next}
use Rattle.scheduler.proofs.Known.{plans_in}
use Rattle.scheduler.proofs.scheduler.Scheduler.next_event.Goals as goal

pub returns-then-self-admitted-clause-event : goal.returns-then-self-admitted-clause-event
returns-then-self-admitted-clause-event c =
    let w = work_of c.self.inside.catalogue c.self.inside.arena c.self.inside.first c.self.inside.entries.items (plans_in c.self.inside) c.self.inside.start.value.rows in
    let slots = c.self.inside.slots.items in
    let view : ◌≡◌ {A = Schedule} (record { work = w; slots = slots }) c.args.self.now = c.self.view_is in
    let places = c.events_by_places.ensures w.arena w.first (log_of w) (map phase_in slots) in
    let count : c.len-admitted.result ≡ length slots = omega (arith, c.len-admitted.ensures) in
    let less : c.self.inside.settled < length slots = omega (arith, c.if-self-admitted.true, count) in
    let at : slice_get slots c.self.inside.settled ≡ Some c.index.result.now = slice_get_read slots (length slots) c.self.inside.settled c.index.result.now refl less c.index.ensures in
    let e = open_next w slots c.self.inside.store c.self.inside.locks c.self.invariant.0 c.self.invariant.1 c.self.inside.settled c.self.invariant.2 places c.index.result.now c.next_step.result at c.next_step.ensures in
    subst (λ (s : Schedule). c.next_step.result ≡ next_event s.work.first (log_of s.work) (phases_of s)) view e

pub returns-then-self-admitted-clause-enabled : goal.returns-then-self-admitted-clause-enabled
returns-then-self-admitted-clause-enabled c =
    let w = work_of c.self.inside.catalogue c.self.inside.arena c.self.inside.first c.self.inside.entries.items (plans_in c.self.inside) c.self.inside.start.value.rows in
    let slots = c.self.inside.slots.items in
    let view : ◌≡◌ {A = Schedule} (record { work = w; slots = slots }) c.args.self.now = c.self.view_is in
    let places = c.events_by_places.ensures w.arena w.first (log_of w) (map phase_in slots) in
    let count : c.len-admitted.result ≡ length slots = omega (arith, c.len-admitted.ensures) in
    let less : c.self.inside.settled < length slots = omega (arith, c.if-self-admitted.true, count) in
    let at : slice_get slots c.self.inside.settled ≡ Some c.index.result.now = slice_get_read slots (length slots) c.self.inside.settled c.index.result.now refl less c.index.ensures in
    let e = open_next w slots c.self.inside.store c.self.inside.locks c.self.invariant.0 c.self.invariant.1 c.self.inside.settled c.self.invariant.2 places c.index.result.now c.next_step.result at c.next_step.ensures in
    subst (λ (s : Schedule). IsNextEvent s.work.arena s.work.first (log_of s.work) (phases_of s) c.next_step.result) view
    (subst (IsNextEvent w.arena w.first (log_of w) (map phase_in slots)) (sym e) (c.next_event_is_enabled.ensures w.arena w.first (log_of w) (map phase_in slots) c.self.invariant.1.sound.within c.self.invariant.0.fit))

pub returns-then-admitted-len-clause-event : goal.returns-then-admitted-len-clause-event
returns-then-admitted-len-clause-event c =
    let w = work_of c.self.inside.catalogue c.self.inside.arena c.self.inside.first c.self.inside.entries.items (plans_in c.self.inside) c.self.inside.start.value.rows in
    let slots = c.self.inside.slots.items in
    let view : ◌≡◌ {A = Schedule} (record { work = w; slots = slots }) c.args.self.now = c.self.view_is in
    let places = c.events_by_places.ensures w.arena w.first (log_of w) (map phase_in slots) in
    let count : c.len-admitted.result ≡ length slots = omega (arith, c.len-admitted.ensures) in
    let past : length slots ≤ c.self.inside.settled = omega (arith, c.if-self-admitted.false, count) in
    let all : length slots ≡ length c.self.inside.entries.items = omega (arith, c.if-admitted-len.true, c.len.ensures, count) in
    let e = done_next w slots c.self.inside.store c.self.inside.locks c.self.invariant.0 c.self.invariant.1 c.self.inside.settled c.self.invariant.2 places past all in
    subst (λ (s : Schedule). None ≡ next_event s.work.first (log_of s.work) (phases_of s)) view e

pub returns-then-admitted-len-clause-enabled : goal.returns-then-admitted-len-clause-enabled
returns-then-admitted-len-clause-enabled c =
    let w = work_of c.self.inside.catalogue c.self.inside.arena c.self.inside.first c.self.inside.entries.items (plans_in c.self.inside) c.self.inside.start.value.rows in
    let slots = c.self.inside.slots.items in
    let view : ◌≡◌ {A = Schedule} (record { work = w; slots = slots }) c.args.self.now = c.self.view_is in
    let places = c.events_by_places.ensures w.arena w.first (log_of w) (map phase_in slots) in
    let count : c.len-admitted.result ≡ length slots = omega (arith, c.len-admitted.ensures) in
    let past : length slots ≤ c.self.inside.settled = omega (arith, c.if-self-admitted.false, count) in
    let all : length slots ≡ length c.self.inside.entries.items = omega (arith, c.if-admitted-len.true, c.len.ensures, count) in
    let e = done_next w slots c.self.inside.store c.self.inside.locks c.self.invariant.0 c.self.invariant.1 c.self.inside.settled c.self.invariant.2 places past all in
    subst (λ (s : Schedule). IsNextEvent s.work.arena s.work.first (log_of s.work) (phases_of s) None) view
    (subst (IsNextEvent w.arena w.first (log_of w) (map phase_in slots)) (sym e) (c.next_event_is_enabled.ensures w.arena w.first (log_of w) (map phase_in slots) c.self.invariant.1.sound.within c.self.invariant.0.fit))

pub returns-clause-event : goal.returns-clause-event
returns-clause-event c =
    let w = work_of c.self.inside.catalogue c.self.inside.arena c.self.inside.first c.self.inside.entries.items (plans_in c.self.inside) c.self.inside.start.value.rows in
    let slots = c.self.inside.slots.items in
    let view : ◌≡◌ {A = Schedule} (record { work = w; slots = slots }) c.args.self.now = c.self.view_is in
    let places = c.events_by_places.ensures w.arena w.first (log_of w) (map phase_in slots) in
    let count : c.len-admitted.result ≡ length slots = omega (arith, c.len-admitted.ensures) in
    let past : length slots ≤ c.self.inside.settled = omega (arith, c.if-self-admitted.false, count) in
    let more : length slots ≢ length c.self.inside.entries.items = λ x. c.if-admitted-len.false (omega (arith, x, c.len.ensures, count)) in
    let e = admit_next w slots c.self.inside.store c.self.inside.locks c.self.invariant.0 c.self.invariant.1 c.self.inside.settled c.self.invariant.2 places past more in
    subst (λ (s : Schedule). (Some Admit) ≡ next_event s.work.first (log_of s.work) (phases_of s)) view e

pub returns-clause-enabled : goal.returns-clause-enabled
returns-clause-enabled c =
    let w = work_of c.self.inside.catalogue c.self.inside.arena c.self.inside.first c.self.inside.entries.items (plans_in c.self.inside) c.self.inside.start.value.rows in
    let slots = c.self.inside.slots.items in
    let view : ◌≡◌ {A = Schedule} (record { work = w; slots = slots }) c.args.self.now = c.self.view_is in
    let places = c.events_by_places.ensures w.arena w.first (log_of w) (map phase_in slots) in
    let count : c.len-admitted.result ≡ length slots = omega (arith, c.len-admitted.ensures) in
    let past : length slots ≤ c.self.inside.settled = omega (arith, c.if-self-admitted.false, count) in
    let more : length slots ≢ length c.self.inside.entries.items = λ x. c.if-admitted-len.false (omega (arith, x, c.len.ensures, count)) in
    let e = admit_next w slots c.self.inside.store c.self.inside.locks c.self.invariant.0 c.self.invariant.1 c.self.inside.settled c.self.invariant.2 places past more in
    subst (λ (s : Schedule). IsNextEvent s.work.arena s.work.first (log_of s.work) (phases_of s) (Some Admit)) view
    (subst (IsNextEvent w.arena w.first (log_of w) (map phase_in slots)) (sym e) (c.next_event_is_enabled.ensures w.arena w.first (log_of w) (map phase_in slots) c.self.invariant.1.sound.within c.self.invariant.0.fit))
