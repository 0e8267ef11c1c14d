-- Claimed: what contracts promise to a reader rests on these words.
-- Entries that are calls of procedures over the tables of one catalogue.
use Rattle.std.specs.Prelude.{◌≡◌, List}
use Rattle.std.specs.List.{AllByRecursion}
use Rattle.catalogue.specs.Shapes.{TableShape}
use Rattle.proclang_types.specs.Syntax.{ProcSyntax}
use Rattle.meaning.specs.Entries.{EntryShape}
use Rattle.meaning.specs.Fitting.{IsCallOf}

-- a call of a procedure that fits these tables
pub record IsCallOver (tables : List TableShape) (entry : EntryShape) : Type 0 where
  pub over : entry.tables ≡ tables
  pub proc : ProcSyntax
  pub call : IsCallOf proc entry

-- the entries are calls of procedures that fit the tables
abbrev pub AreCallsOver : List TableShape → List EntryShape → Type 0
AreCallsOver tables entries = AllByRecursion (IsCallOver tables) entries
