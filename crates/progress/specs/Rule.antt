-- Claimed: what contracts promise to a reader rests on these words.
-- The rule of the published list: what holds of the cell's tally and of all passes' views between any two steps; and
-- what the two kinds of step tell, a swap by the writer's pass and a load by a watch pass.
use Rattle.std.specs.Prelude.{◌≡◌, ℕ, List, [], ◌∷◌, ◌++◌, Bool, true, false, All}
use mathlib.Core.Option.{some}
use lib.ListN.{get_elem?}
use Rattle.progress.specs.declared.tally.Tally.{Tally}
use Rattle.progress.specs.declared.view.View.{View}
use Rattle.progress.specs.Tallies.{zero_tally, AddsUp, NoneBelow, latest, StartsWith}

-- ---- views

abbrev pub view : Bool → List Tally → List Tally → View
view writes seen also = record { writes = writes; seen = seen; also = also }

-- the one view that there is at first
abbrev pub first_view : View
first_view = view true (zero_tally ∷ []) []

-- a watcher's
abbrev pub watching : List Tally → View
watching seen = view false seen []

-- the half of a view that gets the right to write
abbrev pub handed : View → View
handed v = view v.writes v.seen []

-- the second's list and right to write, beside what the first has seen
abbrev pub taken : View → View → View
taken v w = view w.writes w.seen v.seen

-- what the rule says of the pass of a number: the list begins with what it knows, and the one writer knows it whole
pub record FitsList (writer : ℕ) (list : List Tally) (by : ℕ) (v : View) : Type 0 where
  pub alone : v.writes ≡ true → by ≡ writer
  pub whole : v.writes ≡ true → v.seen ≡ list
  pub seen : StartsWith list v.seen
  pub also : StartsWith list v.also

-- one list was published. The cell has its last tally, each adds up, and none is above the last in any part
pub record Kept (tally : Tally) (views : List View) : Type 0 where
  pub writer : ℕ
  pub list : List Tally
  pub last : latest list ≡ tally
  pub add_up : All AddsUp list
  pub rise : All (λ t. NoneBelow t tally) list
  pub each : (by : ℕ) (v : View) → get_elem? views by ≡ some v → FitsList writer list by v

-- the list has one more tally
abbrev pub Gained : View → Tally → Tally → View → Type 0
Gained v before after w = w ≡ view v.writes (v.seen ++ after ∷ []) v.also

-- what is read is the last tally of a list that begins with all that was known. To the writer the list is its own
pub record Read (v : View) (before after : Tally) (w : View) : Type 0 where
  pub writes : w.writes ≡ v.writes
  pub onward : StartsWith w.seen v.seen
  pub also : StartsWith w.seen v.also
  pub whole : v.writes ≡ true → w.seen ≡ v.seen
  pub last : latest w.seen ≡ after
  pub adds_up : AddsUp after
  pub rises : NoneBelow (latest v.seen) after
