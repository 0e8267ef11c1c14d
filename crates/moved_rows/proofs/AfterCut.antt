-- The rest of a log, after a cut, from the rows that the beginning left.
use Rattle.std.proofs.Common.{◌≡◌, ℕ, zero, suc, false, List, [], ◌∷◌, ◌++◌, map, Option, None, refl, sym, ap, ap₂, ◌∙◌, append_assoc, append-nil}
use Rattle.std.specs.Prelude.{is_some}
use Rattle.values.specs.Database.{Database}
use Rattle.requests.specs.Requests.{Call}
use Rattle.meaning.specs.Entries.{Reply}
use Rattle.batch_log.specs.declared.fault.LogFault.{LogFault}
use Rattle.batch_log.specs.Places.{batches_said}
use Rattle.sequencer.specs.declared.attempts.Carried.{Carried}
use Rattle.retries.specs.Moved.{raised, raised_request}
use Rattle.retries.specs.Standings.{Standing, after_batch, after_batches, closed, closing_within, replies_at, start_of, while_carried}
use Rattle.retries.proofs.Followed.{after_batches-append, closed-append}
use Rattle.retries.proofs.Ended.{none_closing}
use Rattle.retries.proofs.Moved.{goes_on_from_rows, replies_from_rows}
use Rattle.running.specs.Reports.{calls_in_turn, log_fault, rows_after}
use Rattle.running.specs.Standings.{standing_after}
use Rattle.running.specs.Starts.{Start}
use Rattle.moved_rows.specs.CutLogs.{EndsWithCut}
use Rattle.moved_rows.specs.GoingOn.{on_rows, outcomes_from, outcomes_of}
use Rattle.moved_rows.specs.Starts.{rows_left}
use Rattle.moved_rows.proofs.CutLogs.{in_two}

abbrev Batches : Type 0
Batches = List (List Call)

-- ---- the batches that close a log

while_map : (n : ℕ) (carried : List Carried) (rest : Batches) → while_carried (map (raised_request n) carried) rest ≡ while_carried carried rest
while_map n [] rest = refl
while_map n (c ∷ cs) rest = refl

-- ---- outcomes of batches and of more batches

abbrev Outcome : Type 0
Outcome = List Reply × Database

outcomes_append : (retries : ℕ) (s : Standing) (bs cs : Batches) → outcomes_from retries s (bs ++ cs) ≡ outcomes_from retries s bs ++ outcomes_from retries (after_batches retries s bs) cs
outcomes_append retries s [] cs = refl
outcomes_append retries s (calls ∷ bs) cs =
    ap (λ (later : List Outcome). (replies_at s calls, (after_batch retries s calls).rows) ∷ later) (outcomes_append retries (after_batch retries s calls) bs cs)

module _ (retries : ℕ) (db : Database) (front : Batches) (none : (after_batches retries (start_of db) front).carried ≡ []) where
  -- the rows after these batches, and how the log and the rest of it stand after more
  abbrev left : Database
  left = (after_batches retries (start_of db) front).rows

  abbrev on : Batches → Standing
  on done = after_batches retries (start_of db) (front ++ done)

  abbrev anew : Batches → Standing
  anew done = after_batches retries (start_of left) done

  raised_on : (done : Batches) → on done ≡ raised (after_batches retries (start_of db) front).next (anew done)
  raised_on done = goes_on_from_rows retries db front done none

  on_more : (done : Batches) (calls : List Call) → after_batch retries (on done) calls ≡ on (done ++ calls ∷ [])
  on_more done calls =
      sym (after_batches-append retries (start_of db) (front ++ done) (calls ∷ [])) ∙ ap (after_batches retries (start_of db)) (append_assoc front done (calls ∷ []))

  anew_more : (done : Batches) (calls : List Call) → after_batch retries (anew done) calls ≡ anew (done ++ calls ∷ [])
  anew_more done calls = sym (after_batches-append retries (start_of left) done (calls ∷ []))

  same_closing : (most : ℕ) (done : Batches) → closing_within retries most (on done) ≡ closing_within retries most (anew done)
  same_closing zero done = refl
  same_closing (suc most) done =
      ap (λ (carried : List Carried). while_carried carried (closing_within retries most (after_batch retries (on done) []))) (ap (λ (s : Standing). s.carried) (raised_on done))
      ∙ while_map (after_batches retries (start_of db) front).next (anew done).carried (closing_within retries most (after_batch retries (on done) []))
      ∙ ap (while_carried (anew done).carried)
      (ap (closing_within retries most) (on_more done []) ∙ same_closing most (done ++ [] ∷ []) ∙ ap (closing_within retries most) (sym (anew_more done [])))

  same_closed : (done rest : Batches) → closed retries false (on done) rest ≡ closed retries false (anew done) rest
  same_closed done [] = same_closing retries done
  same_closed done (calls ∷ rest) =
      ap (λ (later : Batches). calls ∷ later)
      (ap (λ (s : Standing). closed retries false s rest) (on_more done calls) ∙ same_closed (done ++ calls ∷ []) rest ∙ ap (λ (s : Standing). closed retries false s rest) (sym (anew_more done calls)))

  closed_rest : (rest : Batches) → closed retries false (start_of db) (front ++ rest) ≡ front ++ closed retries false (start_of left) rest
  closed_rest rest =
      closed-append retries false (start_of db) front rest
      ∙ ap (λ (later : Batches). front ++ later)
      (ap (λ (all : Batches). closed retries false (after_batches retries (start_of db) all) rest) (sym (append-nil front)) ∙ same_closed [] rest)

  closed_front : closed retries false (start_of db) front ≡ front
  closed_front =
      ap (closed retries false (start_of db)) (sym (append-nil front)) ∙ closed-append retries false (start_of db) front []
      ∙ ap (λ (later : Batches). front ++ later) (none_closing retries retries (after_batches retries (start_of db) front) none) ∙ append-nil front

  -- ---- outcomes

  same_outcomes : (done rest : Batches) → outcomes_from retries (on done) rest ≡ outcomes_from retries (anew done) rest
  same_outcomes done [] = refl
  same_outcomes done (calls ∷ rest) =
      let rows_are : (after_batch retries (on done) calls).rows ≡ (after_batch retries (anew done) calls).rows =
      ap (λ (s : Standing). s.rows) (on_more done calls ∙ raised_on (done ++ calls ∷ [])) ∙ ap (λ (s : Standing). s.rows) (sym (anew_more done calls)) in
      let one : ◌≡◌ {A = Outcome} (replies_at (on done) calls, (after_batch retries (on done) calls).rows) (replies_at (anew done) calls, (after_batch retries (anew done) calls).rows) =
      ap₂ (λ (rs : List Reply) (rows : Database). (rs, rows)) (replies_from_rows retries db front done calls none) rows_are in
      ap₂ (λ (x : Outcome) (later : List Outcome). x ∷ later) one
      (ap (λ (s : Standing). outcomes_from retries s rest) (on_more done calls) ∙ same_outcomes (done ++ calls ∷ []) rest ∙ ap (λ (s : Standing). outcomes_from retries s rest) (sym (anew_more done calls)))

  outcomes_rest : (rest : Batches) → outcomes_from retries (start_of db) (front ++ rest) ≡ outcomes_from retries (start_of db) front ++ outcomes_from retries (start_of left) rest
  outcomes_rest rest =
      outcomes_append retries (start_of db) front rest
      ∙ ap (λ (later : List Outcome). outcomes_from retries (start_of db) front ++ later)
      (ap (λ (all : Batches). outcomes_from retries (after_batches retries (start_of db) all) rest) (sym (append-nil front)) ∙ same_outcomes [] rest)

-- ---- a log in two

-- the batches of a run of a log without a fault
run_of : (start : Start) (log : List ℕ) → log_fault start log ≡ None → calls_in_turn start log ≡ closed start.retries false (start_of start.rows) (batches_said start.procs start.retries log)
run_of start log none = ap (λ (fault : Option LogFault). closed start.retries (is_some fault) (start_of start.rows) (batches_said start.procs start.retries log)) none

-- what becomes of a log that is cut in two
pub record IsRunInTwo (start : Start) (first rest : List ℕ) : Type 0 where
  pub batches : calls_in_turn start (first ++ rest) ≡ calls_in_turn start first ++ calls_in_turn (on_rows start (rows_after start first)) rest
  pub outcomes : outcomes_of start (first ++ rest) ≡ outcomes_of start first ++ outcomes_of (on_rows start (rows_after start first)) rest
  pub rows : rows_after start (first ++ rest) ≡ rows_after (on_rows start (rows_after start first)) rest

pub run_in_two : (start : Start) (first rest : List ℕ) → EndsWithCut start.procs.procs first → log_fault start (first ++ rest) ≡ None
    → (standing_after start (batches_said start.procs start.retries first)).carried ≡ [] → IsRunInTwo start first rest
run_in_two start first rest ends fine none =
    let retries = start.retries in
    let two = in_two start.procs.procs retries first rest ends fine in
    let front : Batches = batches_said start.procs retries first in
    let later : Batches = batches_said start.procs retries rest in
    let db = (after_batches retries (start_of start.rows) front).rows in
    let first_run : calls_in_turn start first ≡ front = run_of start first two.first_fine ∙ closed_front retries start.rows front none in
    let rows_are : rows_after start first ≡ db = ap (rows_left start) first_run in
    let rest_run : calls_in_turn (on_rows start db) rest ≡ closed retries false (start_of db) later = run_of (on_rows start db) rest two.rest_fine in
    let whole_run : calls_in_turn start (first ++ rest) ≡ front ++ calls_in_turn (on_rows start db) rest =
    run_of start (first ++ rest) fine ∙ ap (closed retries false (start_of start.rows)) two.batches ∙ closed_rest retries start.rows front none later ∙ ap (λ (x : Batches). front ++ x) (sym rest_run) in
    record {
      batches =
          whole_run ∙ ap (λ (x : Batches). x ++ calls_in_turn (on_rows start db) rest) (sym first_run)
          ∙ ap (λ (x : Database). calls_in_turn start first ++ calls_in_turn (on_rows start x) rest) (sym rows_are);
      outcomes =
          ap (outcomes_from retries (start_of start.rows)) whole_run ∙ outcomes_rest retries start.rows front none (calls_in_turn (on_rows start db) rest)
          ∙ ap (λ (x : Batches). outcomes_from retries (start_of start.rows) x ++ outcomes_of (on_rows start db) rest) (sym first_run)
          ∙ ap (λ (x : Database). outcomes_of start first ++ outcomes_of (on_rows start x) rest) (sym rows_are);
      rows =
          ap (rows_left start) whole_run ∙ ap (λ (s : Standing). s.rows) (goes_on_from_rows retries start.rows front (calls_in_turn (on_rows start db) rest) none)
          ∙ ap (λ (x : Database). rows_after (on_rows start x) rest) (sym rows_are);
    }
