-- What the scheduler's calls come to, as its seat is seen.
use Rattle.std.proofs.Common.{◌≡◌, ℕ, zero, suc, ◌+◌, ◌<◌, ◌↔◌, Bool, List, [], ◌∷◌, ◌++◌, length, map, get_or, set, replicate, sym, refl, ap, ◌∙◌, subst, arith, true, false}
use Rattle.std.specs.Prelude.{Option, Some, None, Result, Ok, Err, IfOk, IfErr, IfSome, IfNone, IsErr}
use Rattle.std.proofs.lemmas.List.{map-set}
use lib.ListN.{length-map}
use Rattle.atomic_table.specs.Seated.{TableId}
use Rattle.atomic_table.specs.Table.{Me}
use Rattle.hand_off.specs.declared.state.LaneState.TheVariants.{Finished}
use Rattle.hand_off.specs.declared.state.Note.{Note}
use Rattle.hand_off.specs.declared.view.Known.TheVariants.{Idle, Put}
use Rattle.hand_off.specs.declared.view.Load.{Load}
use Rattle.hand_off.specs.declared.view.View.{View}
use Rattle.hand_off.specs.Notes.{Misses}
use Rattle.hand_off.specs.Views.{looked, putting, collecting, opened as at_first}
use Rattle.hand_off.specs.Stands.{Stands, AllShown}
use Rattle.hand_off.specs.Seats.{IsPut}
use Rattle.scheduler.specs.JobRuns.{JobOf, DoneOf, IsDoneOf}
use Rattle.lanes.specs.Seats.{LanesOf, SchedulerSeatOf, jobs_in, opened, puts_in}
use Rattle.lanes.specs.Calls.{IsLowestFree, Collects, CollectsNothing}
use Rattle.lanes.specs.Kept.{job_of, seen_by_scheduler}
use Rattle.lanes.proofs.Counts.{one_more, one_less, with_room, all_full, at_map, or_map, put_there}
use Rattle.lanes.proofs.Stands.{scheduler_stands, shown_to_scheduler}

abbrev pub Raw : Type 0
Raw = Me (Option (Load JobOf DoneOf)) (View JobOf)

seen_with : TableId → View JobOf → List (Option JobOf) → SchedulerSeatOf
seen_with t v jobs = record { lanes = record { table = t; count = t.words }; jobs = jobs; puts = v.puts; notes = v.notes }

pub none_there : (n : ℕ) → map job_of (replicate n Idle) ≡ replicate n None
none_there zero = refl
none_there (suc n) = λ i. None ∷ none_there n i

pub opened_is : (t : TableId) (lanes : LanesOf) (n : ℕ) (me : Raw) → me.0 ≡ at_first n → record { table = t; count = t.words } ≡ lanes → t.words ≡ n → seen_by_scheduler t me.0 ≡ opened lanes
opened_is t lanes n me at same words = λ i. record {
  lanes = same i;
  jobs = (ap (λ v. map job_of v.known) at ∙ none_there n ∙ ap (λ m. replicate m None) (sym words ∙ ap (λ l. l.count) same)) i;
  puts = (at i).puts;
  notes = (at i).notes;
}

-- one job was put
pub put_seen : (t t' : TableId) (v : View JobOf) (me : Raw) (lane : ℕ) (job : JobOf) → t' ≡ t → me ≡ (putting v lane job, []) → seen_by_scheduler t' me.0 ≡ puts_in (seen_by_scheduler t v) lane job
put_seen t t' v me lane job same is = (λ i. seen_by_scheduler (same i) (is i).0) ∙ (λ i. record { lanes = record { table = t; count = t.words }; jobs = map-set job_of v.known lane (Put job) i; puts = v.puts ++ (lane, job) ∷ []; notes = v.notes })

pub lowest_free : (v : View JobOf) (n lane : ℕ) → length v.known ≡ n → lane < n → get_or v.known lane Idle ≡ Idle → ((k : ℕ) → k < lane → IsPut (get_or v.known k Idle)) → IsLowestFree (map job_of v.known) lane
lowest_free v n lane wide near idle below = record {
  free = at_map v.known lane (omega arith) ∙ ap (λ x. Some (job_of x)) idle;
  lowest = λ k lt. let there = put_there (get_or v.known k Idle) (below k lt) in (there.0, at_map v.known k (omega arith) ∙ ap (λ (x : Option JobOf). Some x) there.1);
}

pub put_more : (v : View JobOf) (n lane : ℕ) (job : JobOf) → length v.known ≡ n → lane < n → get_or v.known lane Idle ≡ Idle → jobs_in (map job_of (set v.known lane (Put job))) ≡ jobs_in (map job_of v.known) + 1
put_more v n lane job wide near idle = let long : length (map job_of v.known) ≡ length v.known = length-map v.known job_of in
    ap jobs_in (map-set job_of v.known lane (Put job)) ∙ one_more (map job_of v.known) lane job (omega arith) (or_map v.known lane ∙ ap job_of idle)

pub put_full : (v : View JobOf) (n : ℕ) (r : Result ℕ JobOf) → length v.known ≡ n → IfOk r (λ lane. (lane < n) × (get_or v.known lane Idle ≡ Idle))
    → IfErr r (λ back. (k : ℕ) → k < n → IsPut (get_or v.known k Idle)) → IsErr r ↔ (jobs_in (map job_of v.known) ≡ n)
put_full v n (Ok lane) wide some all = (
  (λ e. absurd (wrong e)),
  (λ same. let long : length (map job_of v.known) ≡ length v.known = length-map v.known job_of in let near = some.0 in
      let fewer = with_room (map job_of v.known) lane (omega (arith, near, wide, long)) (or_map v.known lane ∙ ap job_of some.1) in absurd (omega (arith, fewer, same, long, wide))),
)
  where
    mark : Bool → ℕ
    mark true = 1
    mark false = 0

    wrong : false ≡ true → ⊥
    wrong e = let z : 0 ≡ 1 = ap mark e in omega (arith, z)
put_full v n (Err back) wide some all = ((λ _. all_full v.known (λ k near. all k (omega (arith, near, wide))) ∙ wide), (λ _. refl))

-- what was found and collected
pub collects : (t t' : TableId) (v : View JobOf) (n : ℕ) (me : Raw) (lane : ℕ) (done : DoneOf) → t' ≡ t → length v.known ≡ n → t.words ≡ n
    → (lane < n) × ((job : JobOf) × (get_or v.known lane Idle ≡ Put job) × IsDoneOf job done) → (notes : List Note) × Misses Finished lane v.notes notes × (me ≡ (collecting (looked v notes) lane, []))
    → v.schedules ≡ true → AllShown IsDoneOf v me.0.notes → Stands IsDoneOf me.0 → Collects (seen_by_scheduler t v) lane done (seen_by_scheduler t' me.0)
collects t t' v n me lane done same wide words some found sch shown stands = let job = some.1.0 in let there = some.1.1 in let near = some.0 in let is = found.2 in let long : length (map job_of v.known) ≡ length v.known = length-map v.known job_of in
    let jobs_is = ap (λ m. map job_of m.0.known) is ∙ map-set job_of v.known lane Idle in record {
      near = omega arith;
      job = job;
      there = at_map v.known lane (omega arith) ∙ ap (λ x. Some (job_of x)) there;
      comes = some.1.2;
      notes = record { below = found.0; misses = found.1; found = ap (λ m. m.0.notes) is };
      new_is = λ i. record { lanes = record { table = same i; count = (same i).words }; jobs = jobs_is i; puts = (is i).0.puts; notes = me.0.notes };
      fewer = ap (λ js. jobs_in js + 1) jobs_is ∙ one_less (map job_of v.known) lane job (omega arith) (or_map v.known lane ∙ ap job_of there);
      shown = shown_to_scheduler t v me.0.notes sch shown;
      stands = scheduler_stands t' me.0 (ap (λ m. m.0.schedules) is ∙ sch) stands;
    }

-- no lane was found with a result
pub collects_nothing : (t t' : TableId) (v : View JobOf) (me : Raw) (count : ℕ) → t' ≡ t → t.words ≡ count → Misses Finished count v.notes me.0.notes × (me ≡ (looked v me.0.notes, [])) → v.schedules ≡ true
    → AllShown IsDoneOf v me.0.notes → CollectsNothing (seen_by_scheduler t v) (seen_by_scheduler t' me.0)
collects_nothing t t' v me count same words found sch shown = let is = found.1 in record {
  notes = subst (λ (n : ℕ). Misses Finished n v.notes me.0.notes) (sym words) found.0;
  new_is = λ i. record { lanes = record { table = same i; count = (same i).words }; jobs = map job_of (is i).0.known; puts = (is i).0.puts; notes = me.0.notes };
  shown = shown_to_scheduler t v me.0.notes sch shown;
}

-- of what a call may give, several facts are one
pub all_some : {A : Type 0} {P Q R T : A → Type 0} (o : Option A) → ((x : A) → P x → Q x → R x → T x) → IfSome o P → IfSome o Q → IfSome o R → IfSome o T
all_some (Some x) f p q r = f x p q r
all_some None f p q r = tt

pub at_none : {A P : Type 0} (o : Option A) → P → IfNone o P
at_none (Some x) p = tt
at_none None p = p

pub of_none : {A P Q : Type 0} (o : Option A) → (P → Q) → IfNone o P → IfNone o Q
of_none (Some x) f p = tt
of_none None f p = f p

pub both_ok : {A B : Type 0} {P Q R : A → Type 0} (r : Result A B) → ((x : A) → P x → Q x → R x) → IfOk r P → IfOk r Q → IfOk r R
both_ok (Ok x) f p q = f x p q
both_ok (Err e) f p q = tt

pub of_ok : {A B : Type 0} {P Q : A → Type 0} (r : Result A B) → ((x : A) → P x → Q x) → IfOk r P → IfOk r Q
of_ok (Ok x) f p = f x p
of_ok (Err e) f p = tt

pub of_err : {A B : Type 0} {P Q : B → Type 0} (r : Result A B) → ((x : B) → P x → Q x) → IfErr r P → IfErr r Q
of_err (Ok x) f p = tt
of_err (Err e) f p = f e p
