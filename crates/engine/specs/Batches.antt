-- Claimed: what contracts promise to a reader rests on these words.
-- The attempts of a batch, and their entries.
use Rattle.std.specs.Prelude.{List, map}
use Rattle.catalogue.specs.Shapes.{TableShape}
use Rattle.requests.specs.ProcLists.{procs_over}
use Rattle.meaning.specs.Entries.{EntryShape}
use Rattle.sequencer.specs.Attempts.{Attempt, attempts_of}
use Rattle.sequencer.specs.Batches.{items_of}
use Rattle.sequencer.specs.Entries.{prepared}
use Rattle.sequencer.specs.declared.attempts.Carried.{Carried}
use Rattle.sequencer.specs.declared.batch.Batch.{Batch}
use Rattle.values.specs.Database.{Database}
use Rattle.engine.specs.Engines.{EngineParts}

-- the entries of attempts, on the database at the start of their batch
abbrev pub entries_of : Database → List Attempt → List EntryShape
entries_of db attempts = map (prepared db) (map (λ attempt. attempt.request) attempts)

-- the attempts of a batch that an engine takes: what is carried comes first
abbrev pub next_attempts : EngineParts → Batch → List Attempt
next_attempts engine batch = attempts_of engine.carried (items_of batch)

-- a carried request over other tables
abbrev pub over_tables : List TableShape → Carried → Carried
over_tables tables one =
    record one { request = record one.request { proc = record one.request.proc { tables = tables } } }

-- an engine whose tables, those of its procedures and of the requests that are carried, are others with the same schema
abbrev pub moved_over : List TableShape → EngineParts → EngineParts
moved_over tables engine = record engine {
  procs = procs_over tables engine.procs;
  carried = map (over_tables tables) engine.carried;
}
