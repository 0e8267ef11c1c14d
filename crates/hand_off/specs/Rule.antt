-- Claimed: what contracts promise to a reader rests on these words.
-- The rule of the lanes: what holds of the words, the slots and all seats' views between any two steps. Lane i has the
-- word i and the slot i. The phase of a lane says what its word is, where its slot is and what lies there.
use Rattle.std.specs.Prelude.{◌≡◌, ◌<◌, ◌≤◌, ℕ, true, ⊤, List, length, Option, Some, None, slice_get, slice_index_or}
use mathlib.Core.Option.{some}
use mathlib.Core.Option as maybe
use lib.ListN.{get_elem?}
use Rattle.atomic_table.specs.Table.{State}
use Rattle.hand_off.specs.declared.state.LaneState.{LaneState}
use Rattle.hand_off.specs.declared.state.LaneState.TheVariants as state
use Rattle.hand_off.specs.declared.view.Claim.{Claim}
use Rattle.hand_off.specs.declared.view.Known.{Known}
use Rattle.hand_off.specs.declared.view.Known.TheVariants as known
use Rattle.hand_off.specs.declared.view.Load.{Load}
use Rattle.hand_off.specs.declared.view.Load.TheVariants.{Job, Done}
use Rattle.hand_off.specs.declared.view.View.{View}
use Rattle.hand_off.specs.Words.{word_of}

-- A lane whose job waits names the put; one whose job is taken, the seat that has it
pub data Phase (J : Type 0) : Type 0 where
  idle : Phase J
  filling : Phase J
  waiting : ℕ → J → Phase J
  taken : ℕ → J → Phase J
  finished : J → Phase J
  draining : J → Phase J

-- Who claimed the job of a put: nobody yet, or a seat, by its claim of this number
pub data Claimant : Type 0 where
  nobody : Claimant
  by : ℕ → ℕ → Claimant

module _ {J : Type 0} where
  abbrev pub state_of : Phase J → LaneState
  state_of idle = state.Idle
  state_of filling = state.Filling
  state_of (waiting put job) = state.Waiting
  state_of (taken id job) = state.Taken
  state_of (finished job) = state.Finished
  state_of (draining job) = state.Draining

  -- what the scheduler knows of a lane in this phase
  abbrev pub known_of : Phase J → Known J
  known_of idle = known.Idle
  known_of filling = known.Filling
  known_of (waiting put job) = known.Put job
  known_of (taken id job) = known.Put job
  known_of (finished job) = known.Put job
  known_of (draining job) = known.Draining job

  -- the scheduler is seat 0, and knows each lane and all puts
  pub record Scheduled (id n : ℕ) (phases : ℕ → Phase J) (puts : List (ℕ × J)) (v : View J) : Type 0 where
    pub first : id ≡ 0
    pub wide : length v.known ≡ n
    pub knows : (i : ℕ) → i < n → slice_index_or v.known i known.Idle ≡ known_of (phases i)
    pub all_puts : v.puts ≡ puts

  -- a lane that a seat has is taken by it; and each claim that it ever made is of a put, and it is that put's claimant
  pub record Seated (id n : ℕ) (phases : ℕ → Phase J) (puts : List (ℕ × J)) (claimants : ℕ → Claimant)
      (v : View J) : Type 0 where
    pub schedules : v.schedules ≡ true → Scheduled id n phases puts v
    pub wide : length v.claimed ≡ n
    pub claimed : (i : ℕ) (job : J) → slice_index_or v.claimed i None ≡ Some job → phases i ≡ taken id job
    pub claims : (k : ℕ) (c : Claim J) → slice_get v.claims k ≡ Some c → (slice_get puts c.put ≡ Some (c.lane, c.job))
        × (claimants c.put ≡ by id k)

module _ {J D : Type 0} (comes_of : J → D → Type 0) where
  -- what the slot of a lane has, where no seat has it
  abbrev pub Lies : List (maybe.Option (Option (Load J D))) → ℕ → Phase J → Type 0
  Lies homes i idle = get_elem? homes i ≡ some (some None)
  Lies homes i filling = ⊤
  Lies homes i (waiting put job) = get_elem? homes i ≡ some (some (Some (Job job)))
  Lies homes i (taken id job) = ⊤
  Lies homes i (finished job) = (done : D) × comes_of job done × (get_elem? homes i ≡ some (some (Some (Done done))))
  Lies homes i (draining job) = ⊤

  pub record LaneOk (words : List ℕ) (homes : List (maybe.Option (Option (Load J D)))) (i : ℕ) (p : Phase J)
      : Type 0 where
    pub shows : slice_index_or words i 0 ≡ word_of (state_of p)
    pub lies : Lies homes i p

  -- what holds of the lanes between two steps: each lane's word, what is in its slot, and what the seats know of it
  pub record Laned (s : State (Option (Load J D)) (View J)) : Type 0 where
    pub phases : ℕ → Phase J
    pub puts : List (ℕ × J)
    pub claimants : ℕ → Claimant
    pub wide : length s.words ≡ length s.homes
    pub each_lane : (i : ℕ) → i < length s.homes → LaneOk s.words s.homes i (phases i)
    pub waits : (i put : ℕ) (job : J) → phases i ≡ waiting put job → (slice_get puts put ≡ Some (i, job))
        × (claimants put ≡ nobody)
    pub fresh : (put : ℕ) → length puts ≤ put → claimants put ≡ nobody
    pub each_seat : (id : ℕ) (v : View J) → get_elem? s.views id ≡ some v
        → Seated id (length s.homes) phases puts claimants v
