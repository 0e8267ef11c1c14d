-- Of the code: invariants and steps; no promise rests on these words.
-- What each of the six kinds of step tells the seat that makes it: of the word found, of the seat before and after, and
-- of the moments at which it was made.
use Rattle.std.specs.Prelude.{◌≡◌, ◌≢◌, ℕ, List, ◌∷◌, Option, Some, None, slice_index_or}
use Rattle.atomic_table.specs.Table.{Me, Step, rest}
use Rattle.hand_off.specs.declared.state.TheConstants.{IDLE, WAITING, FINISHED}
use Rattle.hand_off.specs.declared.state.LaneState.{LaneState}
use Rattle.hand_off.specs.declared.state.LaneState.TheVariants as state
use Rattle.hand_off.specs.declared.view.Known.TheVariants as known
use Rattle.hand_off.specs.declared.view.Load.{Load}
use Rattle.hand_off.specs.declared.view.Load.TheVariants.{Job, Done}
use Rattle.hand_off.specs.declared.view.View.{View}
use Rattle.hand_off.specs.Views.{knowing, with_note, putting, claiming, delivering}
use Rattle.hand_off.specs.Stands.{Stands, ShownAt}

-- a seat's view, and the slots that it has
abbrev pub Seat : Type 0 → Type 0 → Type 0
Seat J D = Me (Option (Load J D)) (View J)

module _ {J D : Type 0} where
  -- The scheduler tries a lane. It has it exactly where it knew it to be idle
  abbrev pub fills : Step (Option (Load J D)) → Seat J D → ℕ → Seat J D → Type 0
  fills st m r m' =
      (r ≡ IDLE → (slice_index_or m.0.known st.word known.Idle ≡ known.Idle)
      × (m' ≡ (knowing m.0 st.word known.Filling, (st.word, None) ∷ m.1)))
      × (r ≢ IDLE → (slice_index_or m.0.known st.word known.Idle ≢ known.Idle) × (m' ≡ m))

module _ {J D : Type 0} (comes_of : J → D → Type 0) where
  -- it gives the lane home with the job that lies in the slot
  abbrev pub posts : Step (Option (Load J D)) → Seat J D → Seat J D → Type 0
  posts st m m' = ((job : J) (more : List (ℕ × Option (Load J D))) → m.1 ≡ (st.word, Some (Job job)) ∷ more
      → m' ≡ (putting m.0 st.word job, more)) × Stands comes_of m'.0

  -- it tries a lane for what a worker delivered there, which came of the job that was put there
  abbrev pub drains : Step (Option (Load J D)) → Seat J D → ℕ → Seat J D → Type 0
  drains st m r m' =
      (r ≡ FINISHED → (job : J) × (done : D) × (slice_index_or m.0.known st.word known.Idle ≡ known.Put job)
      × comes_of job done
      × (m' ≡ (
        knowing (with_note m.0 st.word state.Finished) st.word (known.Draining job),
        (st.word, Some (Done done)) ∷ m.1,
      )) × ShownAt comes_of st.word state.Finished m.0)
      × (r ≢ FINISHED → (found : LaneState) × (found ≢ state.Finished) × (m' ≡ (with_note m.0 st.word found, m.1))
      × ShownAt comes_of st.word found m.0)

  -- it gives the lane home with nothing
  abbrev pub clears : Step (Option (Load J D)) → Seat J D → Seat J D → Type 0
  clears st m m' = (m' ≡ (knowing m.0 st.word known.Idle, rest m.1)) × Stands comes_of m'.0

  -- a worker tries a lane for a job, which it hadn't claimed
  abbrev pub claims : Step (Option (Load J D)) → Seat J D → ℕ → Seat J D → Type 0
  claims st m r m' =
      (r ≡ WAITING → (put : ℕ) × (job : J) × (slice_index_or m.0.claimed st.word None ≡ None)
      × (m' ≡ (claiming m.0 st.word put job, (st.word, Some (Job job)) ∷ m.1))
      × ShownAt comes_of st.word state.Waiting m.0 × Stands comes_of m'.0)
      × (r ≢ WAITING → (found : LaneState) × (found ≢ state.Waiting) × (m' ≡ (with_note m.0 st.word found, m.1))
      × ShownAt comes_of st.word found m.0)

  -- it gives the lane home with what came of its job
  abbrev pub delivers : Step (Option (Load J D)) → Seat J D → Seat J D → Type 0
  delivers st m m' = (m' ≡ (delivering m.0 st.word, rest m.1)) × Stands comes_of m'.0
