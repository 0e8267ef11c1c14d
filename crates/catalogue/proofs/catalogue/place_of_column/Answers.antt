use Rattle.std.proofs.Common.{◌∙◌}
use Rattle.catalogue.proofs.Tables.{place_of_column}
use Rattle.catalogue.proofs.catalogue.place_of_column.Goals as goal

pub returns : goal.returns
returns c = c.get_index_of.ensures.index ∙ place_of_column c.args.name.now c.args.table.now.columns.entries
