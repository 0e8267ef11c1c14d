-- Lending its rows to a ready transaction.
use Rattle.std.proofs.Common.{◌≡◌, ◌<◌, ◌≤◌, ◌+◌, ◌-◌, ℕ, Bool, true, false, ◌&&◌, List, length, get_or, map, Option, Some, None, option_map, IsSome, slice_get, slice_set, refl, sym, ap, ◌∙◌, subst, arith}
use Rattle.std.proofs.lemmas.Option.{slice_get-map, slice_get_within, slice_get_read}
use Rattle.std.specs.FinMap.{get, insert}
use Rattle.values.specs.declared.name.RowName.{RowName}
use Rattle.proclang_types.specs.declared.right.Right.{Right}
use Rattle.proclang_types.specs.declared.right.Right.TheVariants.{Read}
use Rattle.coarsen.specs.Subtrees.{Requests}
use Rattle.coarsen.specs.Plans.{IsPlanOver}
use Rattle.coarsen.specs.Clashes.{locks_row, ModesClash}
use Rattle.coarsen.specs.Laws.{ClashEitherWay}
use Rattle.lock_tree.specs.Locks.{Locks, plan_of, with_mark}
use Rattle.lock_tree.specs.Ready.{ready, IsNextReady}
use Rattle.meaning.specs.Frame.{touches}
use Rattle.interp.specs.Entries.{EntryParts, entry_shape}
use Rattle.row_store.specs.Stock.{Stock}
use Rattle.scheduler.specs.JobRuns.{JobOf, transaction_of}
use Rattle.scheduler_core.specs.declared.phase.Phase.{Phase}
use Rattle.scheduler_core.specs.declared.phase.Phase.TheVariants as phase
use Rattle.scheduler_core.specs.Transactions.{Transaction}
use Rattle.scheduler_core.specs.Phases.{is_idle, is_settled, phase_of}
use Rattle.scheduler_core.specs.Events.{waiting}
use Rattle.scheduler_core.specs.Choices.{IsLeastLend}
use Rattle.scheduler.specs.declared.scheduler.Scheduler.TheInside.{Inside}
use Rattle.scheduler.specs.declared.slot.Slot.{Slot}
use Rattle.scheduler.specs.declared.slot.Slot.TheVariants.{Idle, Lent, Held, Ran, Settled}
use Rattle.scheduler.specs.Schedules.{Schedule, log_of, phase_in}
use Rattle.scheduler.specs.Jobs.{IsLentAt, IsApart, LendsJob}
use Rattle.scheduler.specs.Scheduled.{Fits, IsScheduled, AreSettledBefore}
use Rattle.scheduler.proofs.Places.{length_map, set_here}
use Rattle.scheduler.proofs.Slots.{phase_at}
use Rattle.scheduler.proofs.Numbers.{numbered, log_at, log_length, who, unlent_here}
use Rattle.scheduler.proofs.Steps.{lent}
use Rattle.scheduler.proofs.Leading.{settled_set}
use Rattle.scheduler.proofs.Known.{plans_in, Known, Keeps, work_in, schedule_in, number_at}

both : (a b : Bool) → (a && b) ≡ true → (a ≡ true) × (b ≡ true)
both true true e = (refl, refl)
both true false e = absurd (cc)
both false b e = absurd (cc)

idle_only : (o : Option Slot) → is_idle (option_map phase_in o) ≡ true → o ≡ Some Idle
idle_only None e = absurd (cc)
idle_only (Some Idle) e = refl
idle_only (Some Lent) e = absurd (cc)
idle_only (Some (Held job)) e = absurd (cc)
idle_only (Some (Ran job outcome)) e = absurd (cc)
idle_only (Some (Settled outcome)) e = absurd (cc)

pub idle_slot : (slots : List Slot) (place : ℕ) → is_idle (slice_get (map phase_in slots) place) ≡ true → slice_get slots place ≡ Some Idle
idle_slot slots place e = idle_only (slice_get slots place) (sym (ap is_idle (slice_get-map phase_in slots place)) ∙ e)

idle_some : (o : Option Phase) → is_idle o ≡ true → o ≡ Some phase.Idle
idle_some None e = absurd (cc)
idle_some (Some phase.Idle) e = refl
idle_some (Some phase.Out) e = absurd (cc)
idle_some (Some phase.Ran) e = absurd (cc)
idle_some (Some phase.Settled) e = absurd (cc)

-- a transaction that may be lent its rows
pub record Lendable (s : Inside) (number place : ℕ) : Type 0 where
  pub number_is : number ≡ s.first + place
  pub slot : slice_get s.slots.items place ≡ Some Idle
  pub is_ready : ready s.locks.waiting (s.first + place) ≡ true
  pub in_slots : place < length s.slots.items
  pub in_entries : place < length s.entries.items
  pub in_plans : place < length (plans_in s)

-- its entry and its plan: what lending asks of them, and what holds of the job that is lent and of the scheduler with it
pub record Offer (s : Inside) (number place : ℕ) (e : EntryParts) (p : Requests) : Type 0 where
  pub lendable : Lendable s number place
  pub tables : e.request.proc.tables ≡ s.store.tables
  pub over : IsPlanOver s.store.tables p
  pub locks : (name : RowName) (right : Right) → touches (entry_shape e) name right ≡ true → locks_row s.store.tables p name right ≡ true
  pub there : IsSome (plan_of s.locks.waiting number)
  pub unlent : get s.store.lent number ≡ None
  pub apart : (other : ℕ) (requests : Requests) → get s.store.lent other ≡ Some requests → ModesClash requests p → ⊥
  pub lends : (job : JobOf) → job.no ≡ number → job.entry ≡ e → job.loan.plan ≡ p → job.loan.tables ≡ s.store.tables
      → ((name : RowName) → locks_row s.store.tables p name Read ≡ true → get job.loan.rows name ≡ get s.store.rows name) → IsLentAt (work_in s) place job
  pub lends_apart : (job : JobOf) → job.loan.plan ≡ p → IsApart (schedule_in s) job
  pub leaves : (new : List Slot) (stock : Stock) (tree : Locks) (slot : Slot) → new ≡ slice_set s.slots.items place slot
      → stock.tables ≡ s.store.tables → stock.rows ≡ s.store.rows → stock.lent ≡ insert s.store.lent number p → tree ≡ record (s.locks) { waiting = with_mark number true s.locks.waiting }
      → phase_in slot ≡ phase.Out → Fits (work_in s) place slot → Keeps (work_in s) new s.settled stock tree

module _ (s : Inside) (k : Known s) where
  -- the least ready number without a mark is the least to which rows may be lent
  pub least : (found : Option ℕ) → IsNextReady s.locks.waiting found → IsLeastLend s.arena s.first (log_of (work_in s)) (map phase_in s.slots.items) found
  least found next = k.follows.next_ready s.arena (map phase_in s.slots.items) found k.scheduled.sound.within (subst (λ (l : Locks). IsNextReady l.waiting found) k.scheduled.tree_is next)

  pub lendable_at : (number place : ℕ) → number ≡ s.first + place → slice_get s.slots.items place ≡ Some Idle → ready s.locks.waiting number ≡ true → Lendable s number place
  lendable_at number place e is r =
      let in_slots : place < length s.slots.items = slice_get_within s.slots.items place Idle is in
      let a : length (map phase_in s.slots.items) ≡ length s.slots.items = length_map phase_in s.slots.items in
      let b : length (map phase_in s.slots.items) ≤ length (log_of (work_in s)) = k.scheduled.sound.within in
      let c : length (log_of (work_in s)) ≡ length s.entries.items = log_length s.entries.items (plans_in s) k.fits.plans in
      let d : length (plans_in s) ≡ length s.entries.items = k.fits.plans in
      record {
        number_is = e;
        slot = is;
        is_ready = ap (ready s.locks.waiting) (sym e) ∙ r;
        in_slots = in_slots;
        in_entries = omega (arith, in_slots, a, b, c);
        in_plans = omega (arith, in_slots, a, b, c, d);
      }

  -- the same, as an event of its number finds it
  pub lendable_seen : (now : Schedule) → schedule_in s ≡ now → (number place : ℕ) → number ≡ now.work.first + place → (seen : List Slot) → seen ≡ s.slots.items → slice_get seen place ≡ Some Idle
      → ready s.locks.waiting number ≡ true → Lendable s number place
  lendable_seen now view number place n seen same idle r =
      lendable_at number place (number_at s now view number place n) (subst (λ (xs : List Slot). slice_get xs place ≡ Some Idle) same idle) r

  pub next_lendable : (number : ℕ) → IsNextReady s.locks.waiting (Some number) → Lendable s number (number - s.first)
  next_lendable number next =
      let waits = waiting s.first (log_of (work_in s)) (map phase_in s.slots.items) in
      let b = both (is_idle (phase_of s.first (map phase_in s.slots.items) number)) (ready waits number) (least (Some number) next).0 in
      let n = numbered s.first (map phase_in s.slots.items) number phase.Idle (idle_some (phase_of s.first (map phase_in s.slots.items) number) b.0) in
      lendable_at number (number - s.first) n.0 (idle_slot s.slots.items (number - s.first) (ap is_idle n.1)) (ap (λ (l : Locks). ready l.waiting number) k.scheduled.tree_is ∙ b.1)

  module _ (number place : ℕ) (o : Lendable s number place) where
    idle_phase : slice_get (map phase_in s.slots.items) place ≡ Some phase.Idle
    idle_phase = phase_at s.slots.items place Idle o.slot

    ready_there : ready (waiting s.first (log_of (work_in s)) (map phase_in s.slots.items)) (s.first + place) ≡ true
    ready_there = sym (ap (λ (l : Locks). ready l.waiting (s.first + place)) k.scheduled.tree_is) ∙ o.is_ready

    pub offer : ClashEitherWay → (e : EntryParts) (p : Requests) → e ≡ get_or s.entries.items place e → slice_get (plans_in s) place ≡ Some p → Offer s number place e p
    offer turn e p at_entry at_plan =
        let ps = map phase_in s.slots.items in
        let waits = waiting s.first (log_of (work_in s)) ps in
        let t : Transaction = record { entry = entry_shape e; plan = p } in
        let at : slice_get (log_of (work_in s)) place ≡ Some t =
        log_at s.entries.items (plans_in s) place e p (slice_get_read s.entries.items (length s.entries.items) place e refl o.in_entries at_entry)
        at_plan in
        let found : plan_of s.locks.waiting number ≡ Some p =
        ap (plan_of s.locks.waiting) o.number_is ∙ ap (λ (l : Locks). plan_of l.waiting (s.first + place)) k.scheduled.tree_is ∙ k.follows.there ps place t phase.Idle at idle_phase refl in
        record {
          lendable = o;
          tables = (k.fits.over place t at).0 ∙ sym k.scheduled.tables;
          over = subst (λ ts. IsPlanOver ts p) (sym k.scheduled.tables) (k.fits.over place t at).1;
          locks = λ name right h. ap (λ ts. locks_row ts p name right) k.scheduled.tables ∙ (k.fits.planned place t at).locks name right h;
          there = subst (λ q. IsSome q) (sym found) refl;
          unlent = ap (get s.store.lent) o.number_is ∙ k.scheduled.lent_is (s.first + place) ∙ unlent_here (work_in s) ps place idle_phase;
          apart = λ other requests is conflict.
              let u = who (work_in s) ps other requests (sym (k.scheduled.lent_is other) ∙ is) in
              k.sound.lends_apart ps s.store.rows place u.0 t u.1 k.scheduled.sound idle_phase ready_there u.3 at u.2
              (turn.requests u.1.plan p (subst (λ q. ModesClash q p) u.4 conflict));
          lends = λ job n je jp jt shows.
              let of_job : ◌≡◌ {A = Transaction} t (transaction_of job) =
              sym (ap (λ (x : EntryParts). record { entry = entry_shape x; plan = job.loan.plan }) je ∙ ap (λ (q : Requests). record { entry = entry_shape e; plan = q }) jp) in
              record {
                job_at = record { no = n ∙ o.number_is; tables = jt ∙ k.scheduled.tables; transaction = at ∙ ap (λ (x : Transaction). Some x) of_job };
                shows = k.sound.lent_rows ps s.store.rows place t job.loan.rows k.scheduled.sound idle_phase ready_there at
                    (λ name locked. shows name (ap (λ ts. locks_row ts p name Read) k.scheduled.tables ∙ locked));
              };
          lends_apart = λ job jp other u is out conflict.
              k.sound.lends_apart ps s.store.rows place other t u k.scheduled.sound idle_phase ready_there out at is (subst (λ q. ModesClash q u.plan) jp conflict);
          leaves = λ new stock tree slot set tables rows is marked out fits. (
            k.fits,
            subst (λ (xs : List Slot). IsScheduled (work_in s) xs stock tree) (sym set)
                (lent (work_in s) k.sound k.follows s.slots.items s.store stock s.locks tree place t slot k.scheduled o.slot o.is_ready at tables rows
                (is ∙ ap (λ n. insert s.store.lent n p) o.number_is)
                (marked ∙ ap (λ n. record (s.locks) { waiting = with_mark n true s.locks.waiting }) o.number_is)
                out fits),
            subst (λ (xs : List Slot). AreSettledBefore xs s.settled) (sym set)
                (settled_set s.slots.items s.settled place Idle slot k.settled o.slot refl (ap (λ (q : Phase). is_settled (Some q)) out)),
          );
        }

-- the job that is lent at a place that its number gives
pub lends_job : (s : Inside) (number : ℕ) (e : EntryParts) (p : Requests) → Offer s number (number - s.first) e p → (job : JobOf) (new : List Slot)
    → job.no ≡ number → IsLentAt (work_in s) (number - s.first) job → job.loan.plan ≡ p → new ≡ slice_set s.slots.items (number - s.first) Lent
    → LendsJob (schedule_in s) job (record { work = work_in s; slots = new })
lends_job s number e p f job new n is_lent jp set =
    let there : new ≡ slice_set s.slots.items (job.no - s.first) Lent = set ∙ ap (λ m. slice_set s.slots.items (m - s.first) Lent) (sym n) in
    let slot : slice_get s.slots.items (job.no - s.first) ≡ Some Idle = subst (λ m. slice_get s.slots.items (m - s.first) ≡ Some Idle) (sym n) f.lendable.slot in
    record {
      lent = subst (λ m. IsLentAt (work_in s) (m - s.first) job) (sym n) is_lent;
      apart = f.lends_apart job jp;
      new_is = ap (λ (xs : List Slot). record { work = work_in s; slots = xs }) there;
      out = ap (λ (xs : List Slot). slice_get xs (job.no - s.first)) there ∙ set_here s.slots.items (job.no - s.first) Idle Lent slot;
    }
