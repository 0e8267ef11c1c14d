use Rattle.std.specs.List.{AllByRecursion}
use Rattle.row_text.proofs.MergedRows.{first_tables}
use Rattle.rows_document.specs.Listing.{Lists}
use Rattle.rows_document.specs.Said.{IsHeldRow}
use Rattle.rows_document.proofs.document.document_text.Given as goal

-- the rows of the tables before this one were appended, and are held
abbrev pub invariant-loop-place : goal.invariant-loop-place
invariant-loop-place g l = record {
  listed : Lists l.catalogue (first_tables l.place (g.V.RowView.rows l.view)) l.listing;
  held : AllByRecursion IsHeldRow (first_tables l.place (g.V.RowView.rows l.view));
}
