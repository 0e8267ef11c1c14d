-- Claimed: what contracts promise to a reader rests on these words.
-- Moments that calls tell of. A moment is the lanes between two steps: their words, their slots and the views of all
-- seats. The laws speak of moments.
use Rattle.std.specs.Prelude.{◌≡◌, ◌<◌, ◌≤◌, ℕ, List, length, take, Option, Some, slice_get, slice_index_or}
use mathlib.Core.Option.{some}
use lib.ListN.{get_elem?}
use Rattle.atomic_table.specs.Table.{State}
use Rattle.hand_off.specs.declared.state.LaneState.{LaneState}
use Rattle.hand_off.specs.declared.state.Note.{Note}
use Rattle.hand_off.specs.declared.view.Load.{Load}
use Rattle.hand_off.specs.declared.view.View.{View}
use Rattle.hand_off.specs.Words.{word_of}
use Rattle.hand_off.specs.Rule.{Laned}
use Rattle.hand_off.specs.Views.{looked}

-- the lanes between two steps: their words, their slots and all views
abbrev pub Moment : Type 0 → Type 0 → Type 0
Moment J D = State (Option (Load J D)) (View J)

module _ {J D : Type 0} (comes_of : J → D → Type 0) where
  -- at this moment the rule holds, and the seat of this number has this view
  pub record StandsAt (moment : Moment J D) (number : ℕ) (view : View J) : Type 0 where
    pub rule : Laned comes_of moment
    pub seat : get_elem? moment.views number ≡ some view

  -- there was such a moment, whatever the number of the seat: a step doesn't tell it
  pub record Stands (view : View J) : Type 0 where
    pub moment : Moment J D
    pub number : ℕ
    pub at : StandsAt moment number view

  -- at a moment at which a seat had this view, the lane's word said that it was doing this
  pub record ShownAt (lane : ℕ) (found : LaneState) (view : View J) : Type 0 where
    pub stands : Stands view
    pub near : lane < length stands.moment.words
    pub shows : slice_index_or stands.moment.words lane 0 ≡ word_of found

  -- of all notes, each that was added since a seat had this view says what the lane was doing at a moment of its look:
  -- at which the seat had the same view with the notes before that one
  pub record AllShown (first : View J) (notes : List Note) : Type 0 where
    pub each : (i : ℕ) (note : Note) → length first.notes ≤ i → slice_get notes i ≡ Some note
        → ShownAt note.lane note.found (looked first (take i notes))
