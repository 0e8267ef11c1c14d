-- Claimed: what contracts promise to a reader rests on these words.
-- Lanes, and what their seats know.
use Rattle.std.specs.Prelude.{ℕ, List, [], ◌∷◌, ◌++◌, Option, None, Some, is_some, count_by, replicate, slice_set, refl}
use Rattle.std.specs.Coded.{Coded, code_by, coded×, coded_ℕ, coded_list, coded_option}
use Rattle.atomic_table.specs.Seated.{TableId, table_id_coded}
use Rattle.hand_off.specs.declared.state.Note.{Note}
use Rattle.hand_off.specs.declared.view.Claim.{Claim}
use Rattle.hand_off.specs.contracts.state.Note as notes
use Rattle.scheduler.specs.JobRuns.{JobOf, job_code}

-- lanes: which they are, and how many
pub record LanesOf : Type 0 where
  pub table : TableId
  pub count : ℕ

-- the scheduler's seat: the lanes that it is of; at each lane the job that was put there and isn't collected; all that
-- was put, in order; and what it found at each lane that it tried, in order
pub record SchedulerSeatOf : Type 0 where
  pub lanes : LanesOf
  pub jobs : List (Option JobOf)
  pub puts : List (ℕ × JobOf)
  pub notes : List Note

-- a worker's seat: the lanes that it is of; at each lane the job that it claimed there and hasn't delivered; all that
-- it claimed, in order; and what it found at each lane that it tried, in order
pub record WorkerSeatOf : Type 0 where
  pub lanes : LanesOf
  pub jobs : List (Option JobOf)
  pub claims : List (Claim JobOf)
  pub notes : List Note

-- how many lanes have a job
abbrev pub jobs_in : List (Option JobOf) → ℕ
jobs_in = count_by is_some

-- the scheduler's seat at the start
abbrev pub opened : LanesOf → SchedulerSeatOf
opened lanes = record { lanes = lanes; jobs = replicate lanes.count None; puts = []; notes = [] }

-- a worker's seat at the start
abbrev pub newcomer : LanesOf → WorkerSeatOf
newcomer lanes = record { lanes = lanes; jobs = replicate lanes.count None; claims = []; notes = [] }

-- the scheduler has put a job into a lane
abbrev pub puts_in : SchedulerSeatOf → ℕ → JobOf → SchedulerSeatOf
puts_in seat lane job = record seat { jobs = slice_set seat.jobs lane (Some job); puts = seat.puts ++ (lane, job) ∷ [] }

-- a worker has delivered what came of a lane's job
abbrev pub delivers_from : WorkerSeatOf → ℕ → WorkerSeatOf
delivers_from seat lane = record seat { jobs = slice_set seat.jobs lane None }

abbrev pub lanes_code : Coded LanesOf
lanes_code = code_by (TableId × ℕ) (coded× table_id_coded coded_ℕ) (λ l. (l.table, l.count))
    (λ p. record { table = p.0; count = p.1 }) (λ _. refl)

abbrev pub claim_code : Coded (Claim JobOf)
claim_code = code_by (ℕ × (ℕ × JobOf)) (coded× coded_ℕ (coded× coded_ℕ job_code)) (λ c. (c.put, (c.lane, c.job)))
    (λ p. record { put = p.0; lane = p.1.0; job = p.1.1 }) (λ _. refl)

abbrev pub scheduler_seat_code : Coded SchedulerSeatOf
scheduler_seat_code = code_by (LanesOf × (List (Option JobOf) × (List (ℕ × JobOf) × List Note)))
    (coded× lanes_code (coded× (coded_list (coded_option job_code))
    (coded× (coded_list (coded× coded_ℕ job_code)) (coded_list notes.the_row.coded))))
    (λ s. (s.lanes, (s.jobs, (s.puts, s.notes))))
    (λ p. record { lanes = p.0; jobs = p.1.0; puts = p.1.1.0; notes = p.1.1.1 }) (λ _. refl)

abbrev pub worker_seat_code : Coded WorkerSeatOf
worker_seat_code = code_by (LanesOf × (List (Option JobOf) × (List (Claim JobOf) × List Note)))
    (coded× lanes_code (coded× (coded_list (coded_option job_code))
    (coded× (coded_list claim_code) (coded_list notes.the_row.coded))))
    (λ s. (s.lanes, (s.jobs, (s.claims, s.notes))))
    (λ p. record { lanes = p.0; jobs = p.1.0; claims = p.1.1.0; notes = p.1.1.1 }) (λ _. refl)
