-- Claimed: what contracts promise to a reader rests on these words.
-- The serial run: entries one after another on one database. (Calvin, 2012: the outcome is a function of the log and
-- the start.)
use Rattle.std.specs.Prelude.{List, [], ◌∷◌}
use Rattle.values.specs.Database.{Database}
use Rattle.meaning.specs.Entries.{EntryShape, Reply, meaning}

-- the database after all of them, run one by one
abbrev pub serial_end : List EntryShape → Database → Database
serial_end [] db = db
serial_end (entry ∷ entries) db = serial_end entries (meaning entry db).1

-- rule: call.serial
-- the reply of each, on the database that the ones before it left
abbrev pub serial_replies : List EntryShape → Database → List Reply
serial_replies [] db = []
serial_replies (entry ∷ entries) db = (meaning entry db).0 ∷ serial_replies entries (meaning entry db).1
