-- Claimed: what contracts promise to a reader rests on these words.
-- Where a log and an engine are between two batches, in the words of the serial run of batches.
use Rattle.std.specs.Prelude.{List}
use Rattle.requests.specs.Requests.{Call}
use Rattle.engine.specs.Engines.{EngineParts}
use Rattle.retries.specs.Standings.{after_batches, start_of, Standing}
use Rattle.running.specs.Starts.{Start}

-- what batches leave, one after another, from a start
abbrev pub standing_after : Start → List (List Call) → Standing
standing_after start batches = after_batches start.retries (start_of start.rows) batches

-- the number of its next transaction, its rows, and the requests that it carries
abbrev pub standing_of : EngineParts → Standing
standing_of engine = record { next = engine.next; rows = engine.rows; carried = engine.carried }
