use Rattle.std.proofs.Common.{◌≡◌, ◌||◌, drop}
use Rattle.std.specs.BTreeSet.{contains}
use Rattle.values.specs.declared.name.RowName.{RowName}
use Rattle.values.specs.Database.{name_cmp}
use Rattle.setup.specs.Rows.{is_given}
use Rattle.setup.proofs.names.names_of.Given as goal

-- the set has the names of the rows so far
abbrev pub invariant-loop-row : goal.invariant-loop-row
invariant-loop-row l = (q : RowName) →
    (contains name_cmp l.names q || is_given q.table q.key (drop l.row-index l.rows)) ≡ is_given q.table q.key l.rows
