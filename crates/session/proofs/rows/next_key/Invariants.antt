use Rattle.session.specs.Scanning.{before_part, IsNextKeyAmong}
use Rattle.session.proofs.rows.next_key.Given as goal

-- the key that comes next in the partitions before this one
abbrev pub invariant-loop-part : goal.invariant-loop-part
invariant-loop-part l = IsNextKeyAmong (before_part l.rows.tables l.table l.part) l.rows.rows l.table l.after l.least
