use Rattle.catalogue.specs.Shapes.{tables_shape, split_shape}
use Rattle.catalogue.proofs.Tables.{split_fits}
use Rattle.catalogue.proofs.catalogue.split_at.Goals as goal

pub returns-clause-sound : goal.returns-clause-sound
returns-clause-sound c = split_fits (tables_shape c.args.tables.now.entries) c.args.table (split_shape c.table_at.result.now.split) c.requires.sound.tables c.table_at.ensures.split
