use Rattle.std.proofs.Common.{◌≡◌, ◌++◌, ◌+◌, map, drop}
use Rattle.meaning.specs.Outcomes.{as_reply}
use Rattle.meaning.specs.Serial.{serial_end, serial_replies}
use Rattle.interp.specs.Entries.{entry_shape}
use Rattle.test_execution.proofs.plain.run_serially.Given as goal

-- from the rows so far the entries that are left lead where all of them lead, and give the rest of the replies
abbrev pub invariant-loop-entry : goal.invariant-loop-entry
invariant-loop-entry l =
    (l.store.tables ≡ l.fn.store.tables)
    × (l.store.lent ≡ l.fn.store.lent)
    × (serial_end (map entry_shape (drop l.entry-index l.entries)) l.store.rows ≡ serial_end (map entry_shape l.entries) l.fn.store.rows)
    × (map as_reply l.outcomes.items ++ serial_replies (map entry_shape (drop l.entry-index l.entries)) l.store.rows ≡ serial_replies (map entry_shape l.entries) l.fn.store.rows)
