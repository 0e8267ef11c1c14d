-- Claimed: what contracts promise to a reader rests on these words.
-- A log that goes on from the rows that a beginning of it left: numbers begin at 0 again.
use Rattle.std.specs.Prelude.{ℕ, ◌+◌, List, map}
use Rattle.sequencer.specs.declared.attempts.Carried.{Carried}
use Rattle.retries.specs.Standings.{Standing}

-- a carried request whose first attempt has a number that is higher by n
abbrev pub raised_request : ℕ → Carried → Carried
raised_request n one = record one { first = n + one.first }

-- a standing after n more transactions, which left the same rows
abbrev pub raised : ℕ → Standing → Standing
raised n s = record { next = n + s.next; rows = s.rows; carried = map (raised_request n) s.carried }
