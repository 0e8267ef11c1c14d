-- Plans that are made as they are needed.
use Rattle.std.proofs.Common.{◌≡◌, ◌≤◌, ◌<◌, ◌+◌, ◌-◌, ◌++◌, ℕ, zero, suc, true, false, nat_le, List, [], ◌∷◌, length, length-set, map, Option, None, Some, option_map, slice_get, slice_set, refl, sym, ap, ◌∙◌, subst, arith, inl, inr, ◌⊎◌}
use Rattle.std.proofs.lemmas.Option.{slice_get-map, slice_get_within}
use Rattle.std.proofs.lemmas.Bool.Decides.{nat_tests}
use Rattle.coarsen.specs.Subtrees.{Requests}
use Rattle.coarsen.specs.ThePlan.{plan_for}
use Rattle.coarsen.specs.Laws.{PlanIsOne, PlansServe}
use Rattle.lock_tree.specs.Locks.{Locks, used}
use Rattle.meaning.specs.Entries.{footprint_of}
use Rattle.interp.specs.Entries.{EntryParts, entry_shape}
use Rattle.interp.specs.Over.{locked_for}
use Rattle.row_store.specs.Stock.{Stock}
use Rattle.scheduler_core.specs.declared.event.Event.TheVariants.{Admit}
use Rattle.scheduler_core.specs.Events.{enabled}
use Rattle.scheduler_core.specs.Phases.{is_settled}
use Rattle.meaning.specs.declared.outcome.Outcome.{Outcome}
use Rattle.scheduler.specs.declared.slot.Slot.{Slot}
use Rattle.scheduler.specs.declared.slot.Slot.TheVariants.{Settled}
use Rattle.scheduler.specs.Logs.{IsPlanOfEntry, ArePlansOf, ArePlannedFor, plans_for}
use Rattle.scheduler.specs.Schedules.{Work, log_of, phase_in}
use Rattle.scheduler.specs.Scheduled.{IsFitting, IsScheduled, AreSettledBefore, ArePlansFrom, AreMade, HasPlans}
use Rattle.scheduler.proofs.Admitting.{transaction_there, room}
use Rattle.scheduler.proofs.Places.{push_before, push_end}
use Rattle.scheduler.proofs.Slots.{phase_at}
use Rattle.scheduler.proofs.Leading.{length_pushed}
use Rattle.scheduler.proofs.Numbers.{same_number}
use Rattle.scheduler.proofs.Known.{Keeps}

-- ---- which plans they are

pub plans_are : PlanIsOne → (k c : ℕ) (entries : List EntryParts) → ArePlansOf k c (map entry_shape entries) (plans_for k c entries)
plans_are one k c [] = tt
plans_are one k c (e ∷ es) = let f = locked_for (footprint_of (entry_shape e).footing) in ((one k c f (plan_for k c f)).1 refl, plans_are one k c es)

pub they_serve : PlanIsOne → PlansServe → (k c : ℕ) → 0 < c → (entries : List EntryParts) → ArePlannedFor c entries (plans_for k c entries)
they_serve one serve k c some [] = tt
they_serve one serve k c some (e ∷ es) =
    let f = locked_for (footprint_of (entry_shape e).footing) in
    let p = plan_for k c f in
    let is = (one k c f p).1 refl in (
      record {
        sound = serve.sound k c f p is;
        covered = serve.covered k c f p is;
        over = λ tables cat of. serve.over k c f p is tables cat of;
        size = serve.size k c f p some is;
      },
      they_serve one serve k c some es,
    )

-- ---- where they are made

none_at : (k : ℕ) → ◌≡◌ {A = Option Requests} (slice_get [] k) None
none_at zero = refl
none_at (suc k) = refl

pub none_made : (plans : List Requests) (from : ℕ) → ArePlansFrom plans from []
none_made plans from place plan begun at = absurd (let e : None ≡ Some plan = sym (none_at (place - from)) ∙ at in cc)

pub length_more : (made : List Requests) (plan : Requests) → length (made ++ plan ∷ []) ≡ length made + 1
length_more [] plan = refl
length_more (x ∷ made) plan = let e = length_more made plan in omega (arith, e)

-- one more plan, of the place after the last
pub more_made : (plans : List Requests) (from : ℕ) (made : List Requests) (plan : Requests) → ArePlansFrom plans from made → slice_get plans (from + length made) ≡ Some plan
    → ArePlansFrom plans from (made ++ plan ∷ [])
more_made plans from made plan are is place other begun at = elim (same_number (place - from) (length made)) [
  | inl e ↦
      let there : slice_get (made ++ plan ∷ []) (place - from) ≡ Some plan = ap (slice_get (made ++ plan ∷ [])) e ∙ push_end made plan in
      let same : plan ≡ other = let g : Some plan ≡ Some other = sym there ∙ at in cc in
      let here : place ≡ from + length made = omega (arith, e, begun) in
      ap (slice_get plans) here ∙ is ∙ ap (λ (p : Requests). Some p) same
  | inr n ↦ are place other begun (sym (push_before made plan (place - from) n) ∙ at)
]

-- the first plan is dropped, of one that is settled
pub first_dropped : (plans : List Requests) (settled count from : ℕ) (made rest : List Requests) (plan : Requests) → from < settled → made ≡ plan ∷ rest
    → AreMade plans settled count from made → AreMade plans settled count (from + 1) rest
first_dropped plans settled count from made rest plan less is h =
    let long : length made ≡ suc (length rest) = ap length is in
    record {
      are_plans = λ place other begun at.
          let later : place - from ≡ suc (place - (from + 1)) = omega (arith, begun) in
          h.are_plans place other (omega (arith, begun)) (ap (λ (xs : List Requests). slice_get xs (place - from)) is ∙ ap (slice_get (plan ∷ rest)) later ∙ at);
      begun = omega (arith, less);
      admitted = λ open_one. let reach = h.admitted open_one in omega (arith, reach, long);
      next = λ open_one more. let reach = h.next open_one more in omega (arith, reach, long);
    }

-- the plan at a place is that of its entry
pub planned_at : PlanIsOne → (k c : ℕ) (entries : List EntryParts) (place : ℕ) (entry : EntryParts) (plan : Requests) → slice_get entries place ≡ Some entry → IsPlanOfEntry k c (entry_shape entry) plan
    → slice_get (plans_for k c entries) place ≡ Some plan
planned_at one k c entries place entry plan at is =
    let f = locked_for (footprint_of (entry_shape entry).footing) in
    slice_get-map (λ (e : EntryParts). plan_for k c (locked_for (footprint_of (entry_shape e).footing))) entries place
    ∙ ap (option_map (λ (e : EntryParts). plan_for k c (locked_for (footprint_of (entry_shape e).footing)))) at
    ∙ ap (λ (p : Requests). Some p) (sym ((one k c f plan).0 is))

-- more of the leading ones are settled
pub settled_more : (plans : List Requests) (settled later count from : ℕ) (made : List Requests) → settled ≤ later → AreMade plans settled count from made → AreMade plans later count from made
settled_more plans settled later count from made l h = record {
  are_plans = h.are_plans;
  begun = let b = h.begun in omega (arith, b, l);
  admitted = λ less. h.admitted (omega (arith, less, l));
  next = λ less more. h.next (omega (arith, less, l)) more;
}

-- all that are admitted are settled
pub settled_all : (plans : List Requests) (settled count from : ℕ) (made : List Requests) → count ≤ settled → from ≤ settled → ArePlansFrom plans from made → AreMade plans settled count from made
settled_all plans settled count from made all begun are = record {
  are_plans = are;
  begun = begun;
  admitted = λ less. absurd (omega (arith, less, all));
  next = λ less more. absurd (omega (arith, less, all));
}

-- another slot at a place, and as many settled or more
pub after_put : (w : Work) (slots new : List Slot) (place : ℕ) (slot : Slot) (settled later from : ℕ) (made : List Requests) → new ≡ slice_set slots place slot → settled ≤ later
    → HasPlans w slots settled from made → HasPlans w new later from made
after_put w slots new place slot settled later from made is l h =
    let count : length slots ≡ length new = sym (ap length is ∙ length-set slots place slot) in
    record { some = h.some; are_made = subst (λ (n : ℕ). AreMade w.plans later n from made) count (settled_more w.plans settled later (length slots) from made l h.are_made) }

before_or_not : (a b : ℕ) → (a < b) ⊎ (b ≤ a)
before_or_not zero zero = inr (omega arith)
before_or_not zero (suc b) = inl (omega arith)
before_or_not (suc a) zero = inr (omega arith)
before_or_not (suc a) (suc b) = elim (before_or_not a b) [
  | inl l ↦ inl (omega (arith, l))
  | inr l ↦ inr (omega (arith, l))
]

-- the plan of a transaction that isn't settled is made
pub made_where_open : (w : Work) (slots : List Slot) (settled from : ℕ) (made : List Requests) → AreSettledBefore slots settled → HasPlans w slots settled from made → (place : ℕ) (slot : Slot)
    → slice_get slots place ≡ Some slot → is_settled (Some (phase_in slot)) ≡ false → (from ≤ place) × (place < from + length made)
made_where_open w slots settled from made leading h place slot at open_yet =
    let within : place < length slots = slice_get_within slots place slot at in
    let after : settled ≤ place = elim (before_or_not place settled) [
      | inl l ↦ absurd (let g : true ≡ false = sym (leading.before place l) ∙ ap is_settled (phase_at slots place slot at) ∙ open_yet in cc)
      | inr l ↦ l
    ] in
    let begun = h.are_made.begun in
    let reach = h.are_made.admitted (omega (arith, after, within)) in
    (omega (arith, after, begun), omega (arith, within, reach))

-- one more that is settled at once
pub after_straight : (plans : List Requests) (slots : List Slot) (outcome : Outcome) (settled later place from : ℕ) (made : List Requests) → place ≡ length slots → settled ≤ later
    → is_settled (slice_get (map phase_in (slots ++ Settled outcome ∷ [])) later) ≡ false → AreMade plans settled place from made → (settled < place → AreMade plans settled (place + 1) from made)
    → AreMade plans later (length (slots ++ Settled outcome ∷ [])) from made
after_straight plans slots outcome settled later place from made count l open_yet was next =
    let all_slots = slots ++ Settled outcome ∷ [] in
    let long : length (slots ++ Settled outcome ∷ []) ≡ length slots + 1 = length_pushed slots (Settled outcome) in
    elim (before_or_not settled place) [
      | inl less ↦
          let same : place + 1 ≡ length (slots ++ Settled outcome ∷ []) = omega (arith, long, count) in
          subst (λ (n : ℕ). AreMade plans later n from made) same (settled_more plans settled later (place + 1) from made l (next less))
      | inr all ↦
          let past : length slots < later = elim (before_or_not (length slots) later) [
            | inl m ↦ m
            | inr m ↦
                let same : later ≡ length slots = omega (arith, m, all, l, count) in
                absurd (let g : true ≡ false = sym (ap is_settled (ap (slice_get (map phase_in all_slots)) same ∙ phase_at all_slots (length slots) (Settled outcome) (push_end slots (Settled outcome)))) ∙ open_yet in cc)
          ] in
          let begun : from ≤ later = (let b = was.begun in omega (arith, b, l)) in
          settled_all plans later (length (slots ++ Settled outcome ∷ [])) from made (omega (arith, long, past)) begun was.are_plans
    ]

pub with_plans : (w : Work) (slots : List Slot) (settled from : ℕ) (made : List Requests) (stock : Stock) (tree : Locks) → Keeps w slots settled stock tree → HasPlans w slots settled from made
    → IsFitting w × IsScheduled w slots stock tree × AreSettledBefore slots settled × HasPlans w slots settled from made
with_plans w slots settled from made stock tree k h = (k.0, k.1, k.2, h)

-- ---- room

there : {X : Type 0} (xs : List X) (n : ℕ) → n < length xs → (x : X) × (slice_get xs n ≡ Some x)
there [] n l = absurd (omega (arith, l))
there (x ∷ xs) zero l = (x, refl)
there (x ∷ xs) (suc n) l = there xs n (omega (arith, l))

-- where nothing was asked for there is room for each plan
pub room_at_first : (w : Work) (slots : List Slot) (stock : Stock) (tree : Locks) → IsFitting w → IsScheduled w slots stock tree → tree.waiting ≡ [] → length slots < length w.entries
    → enabled w.arena w.first (log_of w) (map phase_in slots) Admit ≡ true
room_at_first w slots stock tree fits s none more =
    let p = there w.plans (length slots) (let same = fits.plans in omega (arith, more, same)) in
    let t = transaction_there w.entries w.plans (length slots) p.0 fits.plans p.1 in
    let small : length t.0.plan ≤ w.arena = fits.fit (length slots) t.0 t.1 in
    let nothing : used tree.waiting ≡ 0 = ap used none in
    let fit : nat_le (used tree.waiting + length t.0.plan) w.arena ≡ true = grind (arith, nat_tests, small, nothing) in
    room w slots stock tree s t.0 t.1 ∙ fit
