use Rattle.std.proofs.Common.{◌≡◌}
use Rattle.std.specs.Option.{option_or}
use Rattle.std.specs.BTreeMap.{btree_map_len, get}
use Rattle.values.specs.declared.name.RowName.{RowName}
use Rattle.values.specs.Database.{name_cmp}
use Rattle.shelves.specs.Named.{listed}
use Rattle.shelves.proofs.named.listed_writes.Given as goal

abbrev pub invariant-loop-name : goal.invariant-loop-name
invariant-loop-name l = (q : RowName) → option_or (listed l.made.items q) (get name_cmp l.left q) ≡ get name_cmp l.fn.writes q

abbrev pub decreases-loop-name : goal.decreases-loop-name
decreases-loop-name l = btree_map_len l.left
