-- How far a run is after each step of the scheduler's thread.
use Rattle.std.proofs.Common.{◌≡◌, ℕ, zero, suc, ◌+◌, ◌<◌, Bool, true, false, List, [], ◌∷◌, ◌++◌, Option, None, Some, sym, ap, ◌∙◌, subst, arith, cond, slice_get, slice_set}
use Rattle.std.specs.Prelude.{IfSome, is_some, count_by}
use Rattle.std.proofs.lemmas.List.{length-append}
use Rattle.std.proofs.lemmas.List.Sums.{sum_by-cons, sum_by_push}
use Rattle.meaning.specs.declared.outcome.Outcome.{Outcome}
use Rattle.scheduler_core.proofs.Lists.{length_set}
use Rattle.scheduler_core.specs.declared.phase.Phase.{Phase}
use Rattle.scheduler_core.specs.declared.phase.Phase.TheVariants.{Idle, Out, Settled}
use Rattle.scheduler_core.specs.Phases.{is_out, is_settled, progress, was_run}
use Rattle.scheduler.specs.declared.slot.Slot.TheVariants as slot
use Rattle.scheduler.specs.Schedules.{Schedule, phases_of}
use Rattle.dispatcher.specs.Dispatched.{GetsFurther}
use Rattle.dispatcher.proofs.Facts.{none_some, some_is}
use Rattle.dispatcher.proofs.Told.{set_phase}
use Rattle.dispatcher.proofs.InLanes.{out_at, pushed_phase}

-- ---- phases

-- one more and one less, with another phase at a place
count_set : (test : Phase → Bool) (ps : List Phase) (k : ℕ) (old new : Phase) → slice_get ps k ≡ Some old
    → count_by test (slice_set ps k new) + cond (test old) 1 0 ≡ count_by test ps + cond (test new) 1 0
count_set test [] k old new is = absurd (none_some old is)
count_set test (p ∷ ps) zero old new is =
    let e : ◌≡◌ {A = ℕ} (cond (test p) 1 0) (cond (test old) 1 0) = ap (λ (q : Phase). cond (test q) 1 0) (some_is p old is) in
    let one = sum_by-cons (λ q. cond (test q) 1 0) p ps in
    let two = sum_by-cons (λ q. cond (test q) 1 0) new ps in
    omega (arith, e, one, two)
count_set test (p ∷ ps) (suc k) old new is =
    let rest = count_set test ps k old new is in
    let one = sum_by-cons (λ q. cond (test q) 1 0) p ps in
    let two = sum_by-cons (λ q. cond (test q) 1 0) p (slice_set ps k new) in
    omega (arith, rest, one, two)

idle_out : (ps : List Phase) (k : ℕ) → slice_get ps k ≡ Some Idle → progress ps < progress (slice_set ps k Out)
idle_out ps k is =
    let long = length_set ps k Out in
    let out = count_set (λ p. is_out (Some p)) ps k Idle Out is in
    let run = count_set (λ p. was_run (Some p)) ps k Idle Out is in
    let done = count_set (λ p. is_settled (Some p)) ps k Idle Out is in
    omega (arith, long, out, run, done)

idle_settled : (ps : List Phase) (k : ℕ) → slice_get ps k ≡ Some Idle → progress ps < progress (slice_set ps k Settled)
idle_settled ps k is =
    let long = length_set ps k Settled in
    let out = count_set (λ p. is_out (Some p)) ps k Idle Settled is in
    let run = count_set (λ p. was_run (Some p)) ps k Idle Settled is in
    let done = count_set (λ p. is_settled (Some p)) ps k Idle Settled is in
    omega (arith, long, out, run, done)

out_settled : (ps : List Phase) (k : ℕ) → slice_get ps k ≡ Some Out → progress ps < progress (slice_set ps k Settled)
out_settled ps k is =
    let long = length_set ps k Settled in
    let out = count_set (λ p. is_out (Some p)) ps k Out Settled is in
    let run = count_set (λ p. was_run (Some p)) ps k Out Settled is in
    let done = count_set (λ p. is_settled (Some p)) ps k Out Settled is in
    omega (arith, long, out, run, done)

one_more : (ps : List Phase) → progress ps < progress (ps ++ Idle ∷ [])
one_more ps =
    let long = length-append ps (Idle ∷ []) in
    let out = sum_by_push (λ p. cond (is_out (Some p)) 1 0) ps Idle in
    let run = sum_by_push (λ p. cond (was_run (Some p)) 1 0) ps Idle in
    let done = sum_by_push (λ p. cond (is_settled (Some p)) 1 0) ps Idle in
    omega (arith, long, out, run, done)

-- ---- slots

further_by : (s new : Schedule) (ps : List Phase) → progress (phases_of s) < progress ps → phases_of new ≡ ps → GetsFurther s new
further_by s new ps less is = subst (λ (qs : List Phase). progress (phases_of s) < progress qs) (sym is) less

-- one more transaction is admitted
pub admitted_further : (s new : Schedule) → new ≡ record s { slots = s.slots ++ slot.Idle ∷ [] } → GetsFurther s new
admitted_further s new is = further_by s new (phases_of s ++ Idle ∷ []) (one_more (phases_of s)) (ap phases_of is ∙ pushed_phase s.slots)

-- a transaction that was ready is out
pub lent_further : (s new : Schedule) (k : ℕ) → slice_get s.slots k ≡ Some slot.Idle → new ≡ record s { slots = slice_set s.slots k slot.Lent } → GetsFurther s new
lent_further s new k was is =
    further_by s new (slice_set (phases_of s) k Out) (idle_out (phases_of s) k (out_at s.slots k slot.Idle was)) (ap phases_of is ∙ set_phase s.slots k slot.Lent)

-- a transaction that was out is settled
pub settled_further : (s new : Schedule) (k : ℕ) (o : Option Outcome) → slice_get s.slots k ≡ Some slot.Lent → is_some o ≡ true
    → IfSome o (λ outcome. new ≡ record s { slots = slice_set s.slots k (slot.Settled outcome) }) → GetsFurther s new
settled_further s new k None was some is = absurd (let e : false ≡ true = some in cc)
settled_further s new k (Some outcome) was some is =
    further_by s new (slice_set (phases_of s) k Settled) (out_settled (phases_of s) k (out_at s.slots k slot.Lent was)) (ap phases_of is ∙ set_phase s.slots k (slot.Settled outcome))

-- a transaction that was ready is settled
pub run_further : (s new : Schedule) (k : ℕ) (outcome : Outcome) → slice_get s.slots k ≡ Some slot.Idle
    → new ≡ record s { slots = slice_set s.slots k (slot.Settled outcome) } → GetsFurther s new
run_further s new k outcome was is =
    further_by s new (slice_set (phases_of s) k Settled) (idle_settled (phases_of s) k (out_at s.slots k slot.Idle was)) (ap phases_of is ∙ set_phase s.slots k (slot.Settled outcome))
