-- A log has room for its next batch, whatever is carried to it.
use Rattle.std.proofs.Common.{◌≡◌, ℕ, ◌+◌, ◌≤◌, List, [], ◌∷◌, ◌++◌, length, Option, None, is_some, refl, Result, Ok, Err, OnOk, subst, sym, ◌∙◌, ap, arith, ◌^◌}
use Rattle.std.proofs.Math.Bridge.{le_prop}
use Rattle.std.proofs.Math.Logic.{∥∥₁_elim, ∥∥₁_map}
use Rattle.std.specs.List.{AllByRecursion}
use Rattle.requests.specs.Requests.{Call}
use Rattle.batch_log.specs.Log.{most_calls}
use Rattle.retries.specs.Standings.{attempts_at, after_batch, call_count, after_batches, start_of, Standing}
use Rattle.engine.specs.Engines.{tables_of, EngineParts, Unfinished}
use Rattle.engine.specs.Executions.{KeepsSetting}
use Rattle.batch_log.specs.declared.feed.LogFeed.{LogFeed}
use Rattle.batch_log.specs.Feeds.{place_of}
use Rattle.batch_log.specs.Places.{Place}
use Rattle.running.specs.Batches.{IsDue, IsReported}
use Rattle.running.specs.Reported.{IsBetweenBatches}
use Rattle.running.specs.Hashers.{rows_digest_of}
use Rattle.running.specs.Standings.{standing_of}
use Rattle.running.proofs.Reported.{calls_grown, room_at, standing_next}
use Rattle.session.specs.declared.work.Work.{Work}
use Rattle.session.specs.Works.{IsAfterCalls, IsReady}

-- ---- the next batch

-- the calls of a batch, beside all that were read, are no more than a log may have
within : (ran waiting total batch most : ℕ) → ran + waiting ≡ total → batch + total ≤ most + waiting → ran + batch ≤ most
within ran waiting total batch most e h = omega (arith, e, h)

-- a batch that the log has room for, beside the calls that wait
abbrev HasRoomFor : Work → List Call → Type 0
HasRoomFor work batch = length batch + (place_of work.feed).total ≤ most_calls (place_of work.feed).retries + length (place_of work.feed).calls

few_calls : (work : Work) (batch : List Call) → IsReady work → HasRoomFor work batch → (log : IsAfterCalls work.engine.retries (standing_of work.engine) (place_of work.feed)) →
    call_count log.ran + length batch ≤ most_calls work.engine.retries
few_calls work batch h few log = within _ _ _ (length batch) (most_calls work.engine.retries) log.counted (rw h.limit at few)

pub room_after : (work : Work) (batch : List Call) → IsReady work → HasRoomFor work batch → IsAfterCalls work.engine.retries (standing_of work.engine) (place_of work.feed) →
    work.engine.next + length (attempts_at (standing_of work.engine) batch) ≤ 2 ^ 48
room_after work batch h few log = room_at work.engine.retries (standing_of work.engine) log.db log.ran batch log.standing_is h.few (few_calls work batch h few log)

pub due_at : (work : Work) (batch : List Call) → IsReady work → AllByRecursion (λ (c : Call). c.proc.tables ≡ tables_of work.engine) batch → length batch ≤ 4096 →
    HasRoomFor work batch → IsDue work.engine work.transcript batch
due_at work batch h over short few = record {
  over = over;
  few = short;
  idle = h.idle;
  room = ∥∥₁_elim h.log le_prop (room_after work batch h few);
  digest_kept = h.digest_kept;
}

-- the calls that wait
pub waiting_few : (work : Work) (batch : List Call) → batch ≡ (place_of work.feed).calls → HasRoomFor work batch
waiting_few work batch e = let few = work.feed.room in omega (arith, few, ap (λ (calls : List Call). length calls) e)

-- ---- after it

-- what a batch of these calls left
stands_after : (old new : EngineParts) (batch : List Call) (place : Place) (h : IsAfterCalls old.retries (standing_of old) place) → new.retries ≡ old.retries →
    standing_of new ≡ after_batch old.retries (standing_of old) batch → standing_of new ≡ after_batches new.retries (start_of h.db) (h.ran ++ batch ∷ [])
stands_after old new batch place h e s =
    s ∙ ap (λ (t : Standing). after_batch old.retries t batch) h.standing_is ∙ sym (standing_next old.retries h.db h.ran batch)
    ∙ ap (λ k. after_batches k (start_of h.db) (h.ran ++ batch ∷ [])) (sym e)

waited_none : (ran waiting total batch calls now more : ℕ) → ran + waiting ≡ total → batch ≡ waiting → calls ≡ ran + batch → now ≡ 0 → more ≡ total → calls + now ≡ more
waited_none ran waiting total batch calls now more counted waited grown none same = omega (arith, counted, waited, grown, none, same)

-- the calls that waited were executed, and none waits
pub ready_after : {T E : Type 0} (answer : Result T E) (old new : Work) (feed : LogFeed) (batch : List Call) → IsReady old → new.feed ≡ feed →
    (batch ≡ (place_of old.feed).calls) × ((place_of feed).calls ≡ []) × ((place_of feed).total ≡ (place_of old.feed).total) → (place_of feed).retries ≡ (place_of old.feed).retries → KeepsSetting old.engine new.engine →
    (sink filled : Option (List ℕ)) → OnOk answer (IsReported old.engine new.engine old.transcript new.transcript sink filled batch) → OnOk answer (IsReady new)
ready_after (Ok x) old new feed batch h f b r same sink filled reported =
    let none : (place_of new.feed).calls ≡ [] = ap (λ (l : LogFeed). (place_of l).calls) f ∙ b.1 in
    let total : (place_of new.feed).total ≡ (place_of old.feed).total = ap (λ (l : LogFeed). (place_of l).total) f ∙ b.2 in
    record {
      over = rw none tt;
      limit = ap (λ (l : LogFeed). (place_of l).retries) f ∙ r ∙ h.limit ∙ sym same.retries;
      few = rw same.retries h.few;
      idle = reported.idle;
      digest_kept = reported.digest_kept;
      log = ∥∥₁_map h.log (λ log. record {
        db = log.db;
        ran = log.ran ++ batch ∷ [];
        standing_is = stands_after old.engine new.engine batch (place_of old.feed) log same.retries reported.standing;
        counted = waited_none _ _ _ _ _ _ _ log.counted (ap (λ (calls : List Call). length calls) b.0) (calls_grown log.ran batch) (ap (λ (calls : List Call). length calls) none) total;
      });
    }
ready_after (Err x) old new feed batch h f b r same sink filled reported = tt

-- the last batch was executed
pub between_after : {T E : Type 0} (answer : Result T E) (old new : Work) (batch : List Call) → IsReady old → HasRoomFor old batch → KeepsSetting old.engine new.engine →
    (sink filled : Option (List ℕ)) → OnOk answer (IsReported old.engine new.engine old.transcript new.transcript sink filled batch) → OnOk answer (IsBetweenBatches new.engine new.transcript)
between_after (Ok x) old new batch h few same sink filled reported = record {
  idle = reported.idle;
  digest_kept = reported.digest_kept;
  log = ∥∥₁_map h.log (λ log. record {
    db = log.db;
    ran = log.ran ++ batch ∷ [];
    standing_is = stands_after old.engine new.engine batch (place_of old.feed) log same.retries reported.standing;
    few = grown_few _ _ _ _ _ (calls_grown log.ran batch) (few_calls old batch h few log) (ap most_calls same.retries);
  });
}
  where
    grown_few : (calls ran batch most other : ℕ) → calls ≡ ran + batch → ran + batch ≤ most → other ≡ most → calls ≤ other
    grown_few calls ran batch most other e few f = omega (arith, e, few, f)
between_after (Err x) old new batch h few same sink filled reported = tt

-- or there is none
pub between_now : (work : Work) → IsReady work → IsBetweenBatches work.engine work.transcript
between_now work h = record {
  idle = h.idle;
  digest_kept = h.digest_kept;
  log = ∥∥₁_map h.log (λ log. record { db = log.db; ran = log.ran; standing_is = log.standing_is; few = fewer _ _ _ _ _ log.counted work.feed.room (ap most_calls h.limit) });
}
  where
    fewer : (ran waiting total most other : ℕ) → ran + waiting ≡ total → total ≤ most → most ≡ other → ran ≤ other
    fewer ran waiting total most other e few f = omega (arith, e, few, f)

-- nothing was read
pub ready_at_start : (work : Work) → work.engine.next ≡ 0 → work.engine.carried ≡ [] → work.engine.unfinished ≡ None → work.engine.retries ≤ 2 →
    place_of work.feed ≡ record { retries = work.engine.retries; calls = []; total = 0; lines = 0; line = [] } → rows_digest_of work.transcript ≡ None → IsReady work
ready_at_start work n c u few place none = record {
  over = subst (AllByRecursion (λ (c : Call). c.proc.tables ≡ tables_of work.engine)) (sym (ap (λ (p : Place). p.calls) place)) tt;
  limit = ap (λ (p : Place). p.retries) place;
  few = few;
  idle = ap (λ (o : Option Unfinished). is_some o) u;
  digest_kept = rw none tt;
  log = ∣ record {
    db = work.engine.rows;
    ran = [];
    standing_is = rw (n, c) refl;
    counted = none_counted _ _ (ap (λ (p : Place). length p.calls) place) (ap (λ (p : Place). p.total) place);
  } ∣₁;
}
  where
    none_counted : (waiting total : ℕ) → waiting ≡ 0 → total ≡ 0 → 0 + waiting ≡ total
    none_counted waiting total e f = omega (arith, e, f)
