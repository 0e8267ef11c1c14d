use Rattle.std.proofs.Common.{map, refl}
use Rattle.meaning.specs.Serial.{serial_end}
use Rattle.sequencer.specs.Entries.{prepared}
use Rattle.sequencer.proofs.Found.{ends_as_found, is_not_stale}
use Rattle.sequencer.proofs.laws.found_request_holds_in_its_batch.Goals as goal

pub returns-clause-outcome : goal.returns-clause-outcome
returns-clause-outcome c = λ before call db found agrees. ends_as_found db call found c.found_entry_is_not_stale.ensures (serial_end (map (prepared db) before) db) agrees

pub returns-clause-not_stale : goal.returns-clause-not_stale
returns-clause-not_stale c = λ before call db found agrees. is_not_stale db call found c.found_entry_is_not_stale.ensures (serial_end (map (prepared db) before) db) agrees

pub returns-clause-first : goal.returns-clause-first
returns-clause-first c = λ call db found. is_not_stale db call found c.found_entry_is_not_stale.ensures db (λ name t. refl)
