-- What is out is in the lanes: admitting, lending and settling keep it.
use Rattle.std.proofs.Common.{◌≡◌, ◌≢◌, ℕ, zero, suc, ◌+◌, ◌-◌, ◌≤◌, true, false, nat_lt, List, [], ◌∷◌, ◌++◌, map, Option, None, Some, refl, sym, ap, ◌∙◌, subst, arith, inl, inr, ◌⊎◌, slice_get, slice_set}
use Rattle.std.specs.Prelude.{IfSome}
use Rattle.std.proofs.lemmas.Bool.Decides.{nat_tests}
use Rattle.meaning.specs.declared.outcome.Outcome.{Outcome}
use Rattle.scheduler.specs.JobRuns.{JobOf, DoneOf, IsDoneOf, ComesOf}
use Rattle.scheduler_core.specs.declared.event.Event.TheVariants as events
use Rattle.scheduler_core.specs.declared.phase.Phase.{Phase}
use Rattle.scheduler_core.specs.declared.phase.Phase.TheVariants as phase
use Rattle.scheduler_core.specs.Phases.{is_idle, is_out, is_settled, phase_of}
use Rattle.scheduler_core.specs.Events.{enabled}
use Rattle.scheduler.specs.declared.slot.Slot.{Slot}
use Rattle.scheduler.specs.declared.slot.Slot.TheVariants.{Idle, Lent, Held, Ran, Settled}
use Rattle.scheduler.specs.Schedules.{Schedule, log_of, phase_in, phases_of}
use Rattle.scheduler.specs.Jobs.{IsLentAt, LendsJob, ComesBack}
use Rattle.lanes.specs.Seats.{SchedulerSeatOf, puts_in}
use Rattle.lanes.specs.Calls.{IsLowestFree, Collects, CollectsNothing}
use Rattle.dispatcher.specs.Runs.{StaysSettled}
use Rattle.dispatcher.specs.Dispatched.{IsOut, HasJob, AreInLanes}
use Rattle.progress.specs.Accounts.{Account}
use Rattle.dispatcher.specs.Tallies.{settled_among}
use Rattle.dispatcher.specs.Listeners.{AreCounted, AreOthersCounted, replies_in, settled_in}
use Rattle.dispatcher.proofs.Facts.{none_some, some_is, and_left}
use Rattle.dispatcher.proofs.Counting.{pushed_same}
use Rattle.dispatcher.proofs.Told.{set_phase, open_counted, others_counted}

-- what is known of a schedule after a job was settled or taken back
pub record StaysInLanes (s new : Schedule) (seat : SchedulerSeatOf) (number : ℕ) : Type 0 where
  pub lanes : AreInLanes new seat
  pub settled : StaysSettled (phases_of s) (phases_of new)
  pub work : new.work ≡ s.work
  pub above : new.work.first ≤ number
  pub told : (a : Option Account) → AreCounted s a → AreOthersCounted new number a

-- ---- places of lists

pushed_at : {X : Type 0} (xs : List X) (y x : X) (k : ℕ) → slice_get xs k ≡ Some x → slice_get (xs ++ y ∷ []) k ≡ Some x
pushed_at [] y x k is = absurd (none_some x is)
pushed_at (z ∷ xs) y x zero is = is
pushed_at (z ∷ xs) y x (suc k) is = pushed_at xs y x k is

set_at : {X : Type 0} (xs : List X) (k : ℕ) (y v : X) → slice_get xs k ≡ Some y → slice_get (slice_set xs k v) k ≡ Some v
set_at [] k y v is = absurd (none_some y is)
set_at (x ∷ xs) zero y v is = refl
set_at (x ∷ xs) (suc k) y v is = set_at xs k y v is

pub set_past : {X : Type 0} (xs : List X) (k j : ℕ) (v : X) → j ≢ k → slice_get (slice_set xs k v) j ≡ slice_get xs j
set_past [] k j v apart = refl
set_past (x ∷ xs) zero zero v apart = absurd (apart refl)
set_past (x ∷ xs) zero (suc j) v apart = refl
set_past (x ∷ xs) (suc k) zero v apart = refl
set_past (x ∷ xs) (suc k) (suc j) v apart = set_past xs k j v (λ e. apart (ap suc e))

same_or_other : (j k : ℕ) → (j ≡ k) ⊎ (j ≢ k)
same_or_other zero zero = inl refl
same_or_other zero (suc k) = inr (λ e. absurd (omega (arith, e)))
same_or_other (suc j) zero = inr (λ e. absurd (omega (arith, e)))
same_or_other (suc j) (suc k) = elim (same_or_other j k) [ inl e ↦ inl (ap suc e) | inr d ↦ inr (λ e. d (omega (arith, e))) ]

-- ---- slots

pub out_at : (slots : List Slot) (place : ℕ) (slot : Slot) → slice_get slots place ≡ Some slot → slice_get (map phase_in slots) place ≡ Some (phase_in slot)
out_at [] place slot is = absurd (none_some slot is)
out_at (x ∷ slots) zero slot is = ap (λ s. Some (phase_in s)) (some_is x slot is)
out_at (x ∷ slots) (suc place) slot is = out_at slots place slot is

-- what is out with one more slot that isn't out, was out before
pushed_out : (slots : List Slot) (x : Slot) → is_out (Some (phase_in x)) ≡ false → (place : ℕ) → is_out (slice_get (map phase_in (slots ++ x ∷ [])) place) ≡ true
    → is_out (slice_get (map phase_in slots) place) ≡ true
pushed_out [] x home zero out = absurd (let e : true ≡ false = sym out ∙ home in cc)
pushed_out [] x home (suc place) out = absurd (let e : false ≡ true = out in cc)
pushed_out (s ∷ slots) x home zero out = out
pushed_out (s ∷ slots) x home (suc place) out = pushed_out slots x home place out

pushed_settled : (slots : List Slot) → StaysSettled (map phase_in slots) (map phase_in (slots ++ Idle ∷ []))
pushed_settled [] place settled = absurd (let e : false ≡ true = settled in cc)
pushed_settled (s ∷ slots) zero settled = settled
pushed_settled (s ∷ slots) (suc place) settled = pushed_settled slots place settled

-- another slot at a place that is not settled
pub set_settled : (slots : List Slot) (k : ℕ) (old new : Slot) → slice_get slots k ≡ Some old → is_settled (Some (phase_in old)) ≡ false
    → StaysSettled (map phase_in slots) (map phase_in (slice_set slots k new))
set_settled [] k old new is open_yet place settled = settled
set_settled (s ∷ slots) zero old new is open_yet zero settled =
    absurd (let e : s ≡ old = some_is s old is in let f : is_settled (Some (phase_in s)) ≡ false = ap (λ x. is_settled (Some (phase_in x))) e ∙ open_yet in let g : true ≡ false = sym settled ∙ f in cc)
set_settled (s ∷ slots) zero old new is open_yet (suc place) settled = settled
set_settled (s ∷ slots) (suc k) old new is open_yet zero settled = settled
set_settled (s ∷ slots) (suc k) old new is open_yet (suc place) settled = set_settled slots k old new is open_yet place settled

-- what is out with another slot at a place that is not out then, was out before, and is elsewhere
pub set_out : (slots : List Slot) (k : ℕ) (old new : Slot) → slice_get slots k ≡ Some old → is_out (Some (phase_in new)) ≡ false
    → (place : ℕ) → is_out (slice_get (map phase_in (slice_set slots k new)) place) ≡ true → (place ≢ k) × (is_out (slice_get (map phase_in slots) place) ≡ true)
set_out [] k old new is home place out = absurd (none_some old is)
set_out (s ∷ slots) zero old new is home zero out = absurd (let e : true ≡ false = sym out ∙ home in cc)
set_out (s ∷ slots) zero old new is home (suc place) out = ((λ e. absurd (omega (arith, e))), out)
set_out (s ∷ slots) (suc k) old new is home zero out = ((λ e. absurd (omega (arith, e))), out)
set_out (s ∷ slots) (suc k) old new is home (suc place) out =
    let rest = set_out slots k old new is home place out in ((λ e. rest.0 (omega (arith, e))), rest.1)

kept_phase : (slots : List Slot) (k : ℕ) (new : Slot) (place : ℕ) → place ≢ k → slice_get (map phase_in (slice_set slots k new)) place ≡ slice_get (map phase_in slots) place
kept_phase [] k new place d = refl
kept_phase (s ∷ slots) zero new zero d = absurd (d refl)
kept_phase (s ∷ slots) zero new (suc place) d = refl
kept_phase (s ∷ slots) (suc k) new zero d = refl
kept_phase (s ∷ slots) (suc k) new (suc place) d = kept_phase slots k new place (λ e. d (ap suc e))

-- what is out with another slot at a place is that place, or was out before
lent_out : (slots : List Slot) (k : ℕ) (new : Slot) (place : ℕ) → is_out (slice_get (map phase_in (slice_set slots k new)) place) ≡ true
    → (place ≡ k) ⊎ (is_out (slice_get (map phase_in slots) place) ≡ true)
lent_out slots k new place out = elim (same_or_other place k) [
  | inl e ↦ inl e
  | inr d ↦ inr (subst (λ o. is_out o ≡ true) (kept_phase slots k new place d) out)
]

-- ---- admitting

-- one more slot that isn't out
pub pushed_lanes : (s : Schedule) (x : Slot) → is_out (Some (phase_in x)) ≡ false → (seat : SchedulerSeatOf) → AreInLanes s seat → AreInLanes (record s { slots = s.slots ++ x ∷ [] }) seat
pushed_lanes s x home seat h = record {
  each = λ lane job there. let o = h.each lane job there in record {
    out = pushed_at s.slots x Lent (job.no - s.work.first) o.out;
    lent = o.lent;
  };
  apart = h.apart;
  all = λ place out. h.all place (pushed_out s.slots x home place out);
}

pub admitted_lanes : (s : Schedule) (seat : SchedulerSeatOf) → AreInLanes s seat → AreInLanes (record s { slots = s.slots ++ Idle ∷ [] }) seat
admitted_lanes s seat h = pushed_lanes s Idle refl seat h

pub admitted_settled : (s : Schedule) → StaysSettled (phases_of s) (phases_of (record s { slots = s.slots ++ Idle ∷ [] }))
admitted_settled s = pushed_settled s.slots

pub pushed_phase : (slots : List Slot) → map phase_in (slots ++ Idle ∷ []) ≡ map phase_in slots ++ phase.Idle ∷ []
pushed_phase [] = refl
pushed_phase (s ∷ slots) = ap (λ (ps : List Phase). phase_in s ∷ ps) (pushed_phase slots)

-- no more is settled
pub admitted_counts : (s : Schedule) → settled_in (record s { slots = s.slots ++ Idle ∷ [] }) ≡ settled_in s
admitted_counts s = ap (λ (ps : List Phase). settled_among ps (replies_in s.work)) (pushed_phase s.slots) ∙ pushed_same (phases_of s) (replies_in s.work)

-- ---- lending

-- the slot of a transaction to which rows may be lent
pub idle_slot : (slots : List Slot) (place : ℕ) → is_idle (slice_get (map phase_in slots) place) ≡ true → slice_get slots place ≡ Some Idle
idle_slot [] place idle = absurd (let e : false ≡ true = idle in cc)
idle_slot (Idle ∷ slots) zero idle = refl
idle_slot (Lent ∷ slots) zero idle = absurd (let e : false ≡ true = idle in cc)
idle_slot (Held job ∷ slots) zero idle = absurd (let e : false ≡ true = idle in cc)
idle_slot (Ran job outcome ∷ slots) zero idle = absurd (let e : false ≡ true = idle in cc)
idle_slot (Settled outcome ∷ slots) zero idle = absurd (let e : false ≡ true = idle in cc)
idle_slot (s ∷ slots) (suc place) idle = idle_slot slots place idle

pub at_place : (first place : ℕ) (phases : List Phase) → phase_of first phases (first + place) ≡ slice_get phases place
at_place first place phases =
    let below : nat_lt (first + place) first ≡ false = grind (arith, nat_tests) in
    let e : (first + place) - first ≡ place = omega arith in
    rw below (ap (slice_get phases) e)

-- two different slots are not at one place
pub apart_places : (slots : List Slot) (i k : ℕ) (a b : Slot) → slice_get slots i ≡ Some a → slice_get slots k ≡ Some b → a ≢ b → i ≢ k
apart_places slots i k a b at_i at_k d e = d (some_is a b (sym at_i ∙ ap (slice_get slots) e ∙ at_k))

-- a transaction that is lent its rows was not out
pub was_idle_at : (s new : Schedule) (job : JobOf) → LendsJob s job new → enabled s.work.arena s.work.first (log_of s.work) (phases_of s) (events.Lend job.no) ≡ true
    → slice_get s.slots (job.no - s.work.first) ≡ Some Idle
was_idle_at s new job lends can =
    let numbered : job.no ≡ s.work.first + (job.no - s.work.first) = lends.lent.job_at.no in
    idle_slot s.slots (job.no - s.work.first) (
    ap is_idle (sym (at_place s.work.first (job.no - s.work.first) (phases_of s)))
    ∙ ap (λ (n : ℕ). is_idle (phase_of s.work.first (phases_of s) n)) (sym numbered)
    ∙ and_left (is_idle (phase_of s.work.first (phases_of s) job.no)) _ can)

module _ (s : Schedule) (seat : SchedulerSeatOf) (h : AreInLanes s seat) (job : JobOf) (new : Schedule) (lends : LendsJob s job new)
    (can : enabled s.work.arena s.work.first (log_of s.work) (phases_of s) (events.Lend job.no) ≡ true) (lane : ℕ) (lowest : IsLowestFree seat.jobs lane) where
  abbrev place : ℕ
  place = job.no - s.work.first

  numbered : job.no ≡ s.work.first + place
  numbered = lends.lent.job_at.no

  was_idle : slice_get s.slots place ≡ Some Idle
  was_idle = was_idle_at s new job lends can

  pub lent_settled : StaysSettled (phases_of s) (phases_of new)
  lent_settled = subst (λ (t : Schedule). StaysSettled (phases_of s) (phases_of t)) (sym lends.new_is) (set_settled s.slots place Idle Lent was_idle refl)

  pub lent_counts : settled_in new ≡ settled_in s
  lent_counts = open_counted s new place phase.Out
      (ap (λ (t : Schedule). t.work) lends.new_is)
      (ap phases_of lends.new_is ∙ set_phase s.slots place Lent)
      (ap is_settled (out_at s.slots place Idle was_idle))
      refl

  other_slot : (other : JobOf) → IsOut s other → other.no - s.work.first ≢ place
  other_slot other o = apart_places s.slots (other.no - s.work.first) place Lent Idle o.out was_idle (λ e. let x : Lent ≡ Idle = e in cc)

  still_out : (other : JobOf) → IsOut s other → IsOut new other
  still_out other o = subst (λ (t : Schedule). IsOut t other) (sym lends.new_is) (record {
    out = set_past s.slots place (other.no - s.work.first) Lent (other_slot other o) ∙ o.out;
    lent = o.lent;
  })

  now_out : IsOut new job
  now_out = subst (λ (t : Schedule). IsOut t job) (sym lends.new_is) (record {
    out = set_at s.slots place Idle Lent was_idle;
    lent = lends.lent;
  })

  abbrev jobs_now : List (Option JobOf)
  jobs_now = slice_set seat.jobs lane (Some job)

  here : slice_get jobs_now lane ≡ Some (Some job)
  here = set_at seat.jobs lane None (Some job) lowest.free

  elsewhere : (k : ℕ) → k ≢ lane → slice_get jobs_now k ≡ slice_get seat.jobs k
  elsewhere k d = set_past seat.jobs lane k (Some job) d

  each_out : (k : ℕ) (other : JobOf) → slice_get jobs_now k ≡ Some (Some other) → (k ≡ lane) ⊎ (k ≢ lane) → IsOut new other
  each_out k other there (inl e) =
      let same : job ≡ other = (let x : Some (Some job) ≡ Some (Some other) = sym here ∙ ap (slice_get jobs_now) (sym e) ∙ there in cc) in
      subst (IsOut new) same now_out
  each_out k other there (inr d) = still_out other (h.each k other (sym (elsewhere k d) ∙ there))

  -- a job that was in a lane before has another number
  other_number : (k : ℕ) (other : JobOf) → slice_get seat.jobs k ≡ Some (Some other) → other.no ≢ job.no
  other_number k other there e = other_slot other (h.each k other there) (ap (λ (n : ℕ). n - s.work.first) e)

  each_apart : (i k : ℕ) (a b : JobOf) → i ≢ k → slice_get jobs_now i ≡ Some (Some a) → slice_get jobs_now k ≡ Some (Some b)
      → (i ≡ lane) ⊎ (i ≢ lane) → (k ≡ lane) ⊎ (k ≢ lane) → a.no ≢ b.no
  each_apart i k a b d at_i at_k (inl e) (inl f) = absurd (d (e ∙ sym f))
  each_apart i k a b d at_i at_k (inl e) (inr f) =
      let same : job ≡ a = (let x : Some (Some job) ≡ Some (Some a) = sym here ∙ ap (slice_get jobs_now) (sym e) ∙ at_i in cc) in
      λ equal. other_number k b (sym (elsewhere k f) ∙ at_k) (sym equal ∙ sym (ap (λ (j : JobOf). j.no) same))
  each_apart i k a b d at_i at_k (inr e) (inl f) =
      let same : job ≡ b = (let x : Some (Some job) ≡ Some (Some b) = sym here ∙ ap (slice_get jobs_now) (sym f) ∙ at_k in cc) in
      λ equal. other_number i a (sym (elsewhere i e) ∙ at_i) (equal ∙ sym (ap (λ (j : JobOf). j.no) same))
  each_apart i k a b d at_i at_k (inr e) (inr f) = h.apart i k a b d (sym (elsewhere i e) ∙ at_i) (sym (elsewhere k f) ∙ at_k)

  kept_job : (n : ℕ) → HasJob seat n → HasJob (puts_in seat lane job) n
  kept_job n has =
      let d : has.lane ≢ lane = (λ e. let x : None ≡ Some has.job = some_is None (Some has.job) (sym lowest.free ∙ ap (slice_get seat.jobs) (sym e) ∙ has.there) in cc) in
      record { lane = has.lane; job = has.job; there = elsewhere has.lane d ∙ has.there; numbered = has.numbered }

  all_now : (p : ℕ) → (p ≡ place) ⊎ (is_out (slice_get (phases_of s) p) ≡ true) → HasJob (puts_in seat lane job) (s.work.first + p)
  all_now p (inl e) = record { lane = lane; job = job; there = here; numbered = numbered ∙ ap (λ (n : ℕ). s.work.first + n) (sym e) }
  all_now p (inr out) = kept_job (s.work.first + p) (h.all p out)

  pub lent_lanes : AreInLanes new (puts_in seat lane job)
  lent_lanes = record {
    each = λ k other there. each_out k other there (same_or_other k lane);
    apart = λ i k a b d at_i at_k. each_apart i k a b d at_i at_k (same_or_other i lane) (same_or_other k lane);
    all = λ p out. subst (λ (t : Schedule). HasJob (puts_in seat lane job) (t.work.first + p)) (sym lends.new_is)
        (all_now p (lent_out s.slots place Lent p (subst (λ (t : Schedule). is_out (slice_get (phases_of t) p) ≡ true) lends.new_is out)));
  }

-- ---- settling

number_by : (job : JobOf) (outcome : Option Outcome) (back : JobOf) → ComesOf job outcome back → back.no ≡ job.no
number_by job None back comes = ap (λ (j : JobOf). j.no) comes
number_by job (Some outcome) back comes = ap (λ (j : JobOf). j.no) comes.0

-- what comes of a job has its number
pub done_number : (job : JobOf) (done : DoneOf) → IsDoneOf job done → done.job.no ≡ job.no
done_number job done comes = number_by job done.outcome done.job comes

module _ (s : Schedule) (seat new_seat : SchedulerSeatOf) (h : AreInLanes s seat) (lane : ℕ) (done : DoneOf) (c : Collects seat lane done new_seat) where
  out : IsOut s c.job
  out = h.each lane c.job c.there

  number : done.job.no ≡ c.job.no
  number = done_number c.job done c.comes

  pub comes_back : ComesBack s done
  comes_back = record {
    out = ap (λ (n : ℕ). slice_get s.slots (n - s.work.first)) number ∙ out.out;
    lent = c.job;
    was_lent = subst (λ (n : ℕ). IsLentAt s.work (n - s.work.first) c.job) (sym number) out.lent;
    comes = c.comes;
  }

  abbrev spot : ℕ
  spot = done.job.no - s.work.first

  was_lent : slice_get s.slots spot ≡ Some Lent
  was_lent = comes_back.out

  abbrev with_slot : Slot → Schedule
  with_slot slot = record s { slots = slice_set s.slots spot slot }

  settled_stays : (slot : Slot) → StaysSettled (phases_of s) (phases_of (with_slot slot))
  settled_stays slot = set_settled s.slots spot Lent slot was_lent refl

  -- whatever was settled there, the others are counted
  others_told : (slot : Slot) (a : Option Account) → AreCounted s a → AreOthersCounted (with_slot slot) done.job.no a
  others_told slot a h = others_counted s (with_slot slot) done.job.no (phase_in slot) a refl (set_phase s.slots spot slot) (ap is_settled (out_at s.slots spot Lent was_lent)) h

  above : s.work.first ≤ done.job.no
  above = let at : c.job.no ≡ s.work.first + (c.job.no - s.work.first) = out.lent.job_at.no in omega (arith, at, number)

  gone : slice_get new_seat.jobs lane ≡ Some None
  gone = subst (λ (t : SchedulerSeatOf). slice_get t.jobs lane ≡ Some None) (sym c.new_is) (set_at seat.jobs lane (Some c.job) None c.there)

  other_lane : (k : ℕ) → k ≢ lane → slice_get new_seat.jobs k ≡ slice_get seat.jobs k
  other_lane k d = subst (λ (t : SchedulerSeatOf). slice_get t.jobs k ≡ slice_get seat.jobs k) (sym c.new_is) (set_past seat.jobs lane k None d)

  apart_lane : (k : ℕ) (job : JobOf) → slice_get new_seat.jobs k ≡ Some (Some job) → k ≢ lane
  apart_lane k job there e = let x : Some None ≡ Some (Some job) = sym gone ∙ ap (slice_get new_seat.jobs) (sym e) ∙ there in cc

  before : (k : ℕ) (job : JobOf) → slice_get new_seat.jobs k ≡ Some (Some job) → slice_get seat.jobs k ≡ Some (Some job)
  before k job there = sym (other_lane k (apart_lane k job there)) ∙ there

  other_spot : (k : ℕ) (job : JobOf) → slice_get new_seat.jobs k ≡ Some (Some job) → job.no - s.work.first ≢ spot
  other_spot k job there e =
      let o = h.each k job (before k job there) in
      let one : job.no ≡ s.work.first + (job.no - s.work.first) = o.lent.job_at.no in
      let two : c.job.no ≡ s.work.first + (c.job.no - s.work.first) = out.lent.job_at.no in
      h.apart k lane job c.job (apart_lane k job there) (before k job there) c.there (omega (arith, one, two, e, number))

  has_still : (slot : Slot) → is_out (Some (phase_in slot)) ≡ false → (place : ℕ) → is_out (slice_get (phases_of (with_slot slot)) place) ≡ true → HasJob new_seat (s.work.first + place)
  has_still slot home place is =
      let was = set_out s.slots spot Lent slot was_lent home place is in
      let has = h.all place was.1 in
      let d : has.lane ≢ lane = (λ e.
      let same : c.job ≡ has.job = (let x : Some (Some c.job) ≡ Some (Some has.job) = sym c.there ∙ ap (slice_get seat.jobs) (sym e) ∙ has.there in cc) in
      let n : c.job.no ≡ s.work.first + place = ap (λ (j : JobOf). j.no) same ∙ has.numbered in
      was.0 (omega (arith, n, number))) in
      record { lane = has.lane; job = has.job; there = other_lane has.lane d ∙ has.there; numbered = has.numbered }

  settled_lanes : (slot : Slot) → is_out (Some (phase_in slot)) ≡ false → AreInLanes (with_slot slot) new_seat
  settled_lanes slot home = record {
    each = λ k job there. let o = h.each k job (before k job there) in record {
      out = set_past s.slots spot (job.no - s.work.first) slot (other_spot k job there) ∙ o.out;
      lent = o.lent;
    };
    apart = λ i k a b d at_i at_k. h.apart i k a b d (before i a at_i) (before k b at_k);
    all = has_still slot home;
  }

  pub settles : (slot : Slot) → is_out (Some (phase_in slot)) ≡ false → StaysInLanes s (with_slot slot) new_seat done.job.no
  settles slot home = record {
    lanes = settled_lanes slot home;
    settled = settled_stays slot;
    work = refl;
    above = above;
    told = others_told slot;
  }

-- settling what was collected
pub settled_by : (s new : Schedule) (seat new_seat : SchedulerSeatOf) → AreInLanes s seat → (lane : ℕ) (done : DoneOf) → Collects seat lane done new_seat → (o : Option Outcome)
    → IfSome o (λ outcome. new ≡ record s { slots = slice_set s.slots (done.job.no - s.work.first) (Settled outcome) })
    → (o ≡ None → new ≡ record s { slots = slice_set s.slots (done.job.no - s.work.first) Idle })
    → StaysInLanes s new new_seat done.job.no
settled_by s new seat new_seat h lane done c None settled back =
    subst (λ (t : Schedule). StaysInLanes s t new_seat done.job.no) (sym (back refl)) (settles s seat new_seat h lane done c Idle refl)
settled_by s new seat new_seat h lane done c (Some outcome) settled back =
    subst (λ (t : Schedule). StaysInLanes s t new_seat done.job.no) (sym settled) (settles s seat new_seat h lane done c (Settled outcome) refl)

-- where nothing was collected
pub same_jobs : (s : Schedule) (seat new_seat : SchedulerSeatOf) → AreInLanes s seat → CollectsNothing seat new_seat → AreInLanes s new_seat
same_jobs s seat new_seat h c = subst (AreInLanes s) (sym c.new_is) (record {
  each = h.each;
  apart = h.apart;
  all = λ place out. let has = h.all place out in record { lane = has.lane; job = has.job; there = has.there; numbered = has.numbered };
})
