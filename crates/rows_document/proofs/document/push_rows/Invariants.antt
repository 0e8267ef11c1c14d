use Rattle.std.proofs.Common.{List, ◌++◌, take}
use Rattle.std.specs.List.{AllByRecursion}
use Rattle.values.specs.declared.name.RowName.{RowName}
use Rattle.values.specs.Database.{RowOf}
use Rattle.rows_document.specs.Listing.{Lists, named}
use Rattle.rows_document.specs.Said.{IsHeldRow}
use Rattle.rows_document.proofs.document.push_rows.Given as goal

-- the rows so far were appended, and are held
abbrev pub invariant-loop-row : goal.invariant-loop-row
invariant-loop-row l = record {
  listed : (before : List (RowName × RowOf)) → Lists l.catalogue before l.fn.listing → Lists l.catalogue (before ++ named l.fn.table (take l.row-index l.rows)) l.listing;
  held : AllByRecursion IsHeldRow (named l.fn.table (take l.row-index l.rows));
}
