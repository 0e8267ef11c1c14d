use Rattle.std.proofs.Common.{take}
use Rattle.row_store.specs.Named.{reads_itself, AreListed}
use Rattle.row_store.proofs.by_name.read_rows.Given as goal

abbrev pub invariant-loop-resource : goal.invariant-loop-resource
invariant-loop-resource l = AreListed l.catalogue l.rows.items (reads_itself (take l.resource-index l.requests)) l.shelves
