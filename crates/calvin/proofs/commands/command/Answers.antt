use Rattle.std.proofs.Common.{refl}
use Rattle.calvin.proofs.commands.command.Goals as goal

pub returns-in-Check : goal.returns-in-Check
returns-in-Check g c = record {
  run = rw c.in-Check.is tt;
  rows = rw c.in-Check.is tt;
  filter = rw c.in-Check.is tt;
  locks = rw c.in-Check.is tt;
  replicas = rw c.in-Check.is tt;
  check = rw c.in-Check.is c.check.ensures;
  unread = rw c.in-Check.is refl;
}

pub returns-in-Locks : goal.returns-in-Locks
returns-in-Locks g c = record {
  run = rw c.in-Locks.is tt;
  rows = rw c.in-Locks.is tt;
  filter = rw c.in-Locks.is tt;
  locks = rw c.in-Locks.is c.locks.ensures;
  replicas = rw c.in-Locks.is tt;
  check = rw c.in-Locks.is tt;
  unread = rw c.in-Locks.is tt;
}

pub returns-in-Filter : goal.returns-in-Filter
returns-in-Filter g c = record {
  run = rw c.in-Filter.is tt;
  rows = rw c.in-Filter.is tt;
  filter = rw (c.in-Filter.is, ← c.deref.ensures) c.filter.ensures;
  locks = rw c.in-Filter.is tt;
  replicas = rw c.in-Filter.is tt;
  check = rw c.in-Filter.is tt;
  unread = rw c.in-Filter.is tt;
}

pub returns-in-Rows : goal.returns-in-Rows
returns-in-Rows g c = record {
  run = rw c.in-Rows.is tt;
  rows = rw (c.in-Rows.is, ← c.options_of-options-in-Rows.ensures.mode.0, ← c.options_of-options-in-Rows.ensures.mode.1) c.rows.ensures;
  filter = rw c.in-Rows.is tt;
  locks = rw c.in-Rows.is tt;
  replicas = rw c.in-Rows.is tt;
  check = rw c.in-Rows.is tt;
  unread = rw c.in-Rows.is tt;
}
