-- Claimed: what contracts promise to a reader rests on these words.
-- The lines that say how far a run is.
use Rattle.std.specs.Prelude.{ℕ, List, [], ◌++◌, Bool, true, false, codes}
use Rattle.std.specs.Fmt.{decimal}
use Rattle.progress.specs.declared.tally.Tally.{Tally}
use Rattle.running.specs.declared.telling.Lines.{Lines}
use Rattle.running.specs.declared.telling.Lines.TheVariants.{Below, Over}

-- how many are settled, and how they ended
abbrev pub tally_text : Tally → List ℕ
tally_text tally =
    decimal tally.settled ++ codes " settled, " ++ decimal tally.committed ++ codes " committed, "
    ++ decimal tally.aborted ++ codes " aborted, " ++ decimal tally.stale ++ codes " stale"

-- A line that goes over the one before begins with a carriage return.
abbrev pub before : Lines → List ℕ
before Below = []
before Over = codes "\r"

-- Of the lines that go over each other, the last one alone ends with a newline. Others each end with one.
abbrev pub line_ending : Lines → Bool → List ℕ
line_ending Over false = []
line_ending Over true = codes "\n"
line_ending Below is_last = codes "\n"

-- rule: command.progress
-- the line that says how many calls are settled and how they ended, over the last line or below it
abbrev pub line_text : Lines → Bool → Tally → List ℕ
line_text lines is_last tally = before lines ++ tally_text tally ++ line_ending lines is_last
