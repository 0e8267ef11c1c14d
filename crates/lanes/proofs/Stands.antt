-- The moments that calls tell of, as seats are seen; and the laws at these moments.
use Rattle.std.proofs.Common.{◌≡◌, ℕ, true, List, length, take, refl, sym, ap, ◌∙◌}
use Rattle.std.specs.Prelude.{Some, None, slice_get}
use Rattle.std.proofs.lemmas.Option.{get_or_from_slice_get}
use Rattle.atomic_table.specs.Seated.{TableId}
use Rattle.hand_off.specs.declared.state.Note.{Note}
use Rattle.hand_off.specs.declared.view.View.{View}
use Rattle.hand_off.specs.Views.{looked}
use Rattle.hand_off.specs.Stands.{Stands, AllShown}
use Rattle.hand_off.specs.Laws.{ClaimedAtMostOnce as OnceInTables, ClaimedAsPut as AsPutInTables, HeldAsPut as HeldInTables}
use Rattle.hand_off.proofs.Lists.{at_end}
use Rattle.scheduler.specs.JobRuns.{JobOf, IsDoneOf}
use Rattle.lanes.specs.Kept.{seen_by_worker, seen_by_scheduler}
use Rattle.lanes.specs.Seats.{WorkerSeatOf}
use Rattle.lanes.specs.Stands.{WorkerStands, SchedulerStands, AllShownToWorker, AllShownToScheduler}
use Rattle.lanes.specs.Calls.{Claims}
use Rattle.lanes.specs.Laws.{ClaimedAtMostOnce, ClaimedAsPut, HeldAsPut, ClaimIsTheOnlyOne, ClaimIsAsPut}
use Rattle.lanes.proofs.Counts.{put_within}

abbrev pub worker_stands : (t : TableId) (v : View JobOf) → Stands IsDoneOf v → WorkerStands (seen_by_worker t v)
worker_stands t v x = record { moment = x.moment; rule = x.at.rule; number = x.number; has = record { view = v; there = x.at.seat; jobs = refl; claims = refl }; notes = refl }

abbrev pub scheduler_stands : (t : TableId) (v : View JobOf) → v.schedules ≡ true → Stands IsDoneOf v → SchedulerStands (seen_by_scheduler t v)
scheduler_stands t v sch x = record { moment = x.moment; rule = x.at.rule; number = x.number; has = record { view = v; there = x.at.seat; schedules = sch; jobs = refl; puts = refl }; notes = refl }

pub shown_to_worker : (t : TableId) (v : View JobOf) (notes : List Note) → AllShown IsDoneOf v notes → AllShownToWorker (seen_by_worker t v) notes
shown_to_worker t v notes x = record {
  each = λ i note le e. let y = x.each i note le e in record { stands = worker_stands t (looked v (take i notes)) y.stands; shows = record { near = y.near; word = y.shows } };
}

pub shown_to_scheduler : (t : TableId) (v : View JobOf) (notes : List Note) → v.schedules ≡ true → AllShown IsDoneOf v notes → AllShownToScheduler (seen_by_scheduler t v) notes
shown_to_scheduler t v notes sch x = record {
  each = λ i note le e. let y = x.each i note le e in record { stands = scheduler_stands t (looked v (take i notes)) sch y.stands; shows = record { near = y.near; word = y.shows } };
}

-- the laws of tables, of seats as they are seen
pub once : OnceInTables IsDoneOf → ClaimedAtMostOnce
once law moment r a b k l one other d e x y is_d is_e = law moment r a b k l d e
    record { view = x.view; seat = x.there; claim = ap (λ cs. slice_get cs k) (sym x.claims) ∙ is_d }
    record { view = y.view; seat = y.there; claim = ap (λ cs. slice_get cs l) (sym y.claims) ∙ is_e }

pub as_put : AsPutInTables IsDoneOf → ClaimedAsPut
as_put law moment r a b k worker scheduler d x y is_d = ap (λ ps. slice_get ps d.put) y.puts
    ∙ law moment r a b k d y.view record { view = x.view; seat = x.there; claim = ap (λ cs. slice_get cs k) (sym x.claims) ∙ is_d } y.there y.schedules

pub held : HeldInTables IsDoneOf → HeldAsPut
held law moment r a b lane worker scheduler job x y is = ap (λ js. slice_get js lane) y.jobs
    ∙ put_within y.view.known lane job (law moment r a b lane job y.view x.view x.there (get_or_from_slice_get x.view.claimed lane (Some job) None (ap (λ js. slice_get js lane) (sym x.jobs) ∙ is)) y.there y.schedules)

-- what was claimed stands last among the claims
last_claim : (old new : WorkerSeatOf) (lane : ℕ) (job : JobOf) (claimed : Claims old lane job new) → slice_get new.claims (length old.claims) ≡ Some record { put = claimed.put; lane = lane; job = job }
last_claim old new lane job claimed = ap (λ (s : WorkerSeatOf). slice_get s.claims (length old.claims)) claimed.new_is ∙ at_end old.claims record { put = claimed.put; lane = lane; job = job }

pub claim_is_the_only_one : ClaimedAtMostOnce → ClaimIsTheOnlyOne
claim_is_the_only_one law old new lane job claimed b l other d x is_d same = let s = claimed.stands in
    law s.moment s.rule s.number b (length old.claims) l new other record { put = claimed.put; lane = lane; job = job } d s.has x (last_claim old new lane job claimed) is_d same

pub claim_is_as_put : ClaimedAsPut → HeldAsPut → ClaimIsAsPut
claim_is_as_put law stays old new lane job claimed b scheduler x = let s = claimed.stands in (
  law s.moment s.rule s.number b (length old.claims) new scheduler record { put = claimed.put; lane = lane; job = job } s.has x (last_claim old new lane job claimed),
  stays s.moment s.rule s.number b lane new scheduler job s.has x claimed.has,
)
