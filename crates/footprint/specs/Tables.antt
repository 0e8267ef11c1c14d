-- Of the code: invariants and steps; no promise rests on these words.
-- Entries of declared footprints whose tables are a catalogue's.
use Rattle.std.specs.Prelude.{◌<◌, List, length, ⊤}
use Rattle.catalogue.specs.Shapes.{TableShape}
use Rattle.proclang_types.specs.Syntax.{EntrySyntax, row_entry, rows_entry, part_entry, table_entry, db_entry}

abbrev pub HasTable : List TableShape → EntrySyntax → Type 0
HasTable tables (row_entry right table key) = table < length tables
HasTable tables (rows_entry right table low high) = table < length tables
HasTable tables (part_entry right table part) = table < length tables
HasTable tables (table_entry right table) = table < length tables
HasTable tables (db_entry right) = ⊤
