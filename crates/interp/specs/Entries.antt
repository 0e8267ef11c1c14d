-- Claimed: what contracts promise to a reader rests on these words.
-- Entries as contracts see them, and the shapes whose meaning is defined.
use Rattle.requests.specs.Requests.{Call}
use Rattle.proclang_types.specs.Views.{stmts_view}
use Rattle.meaning.specs.Entries.{EntryShape, declares, faults, finds}
use Rattle.meaning.specs.Entries as meant
use Rattle.interp.specs.declared.entry.Footing.{Footing}
use Rattle.interp.specs.declared.entry.Footing.TheVariants.{Declared, Faulting, Found}

-- a request with its footing
pub record EntryParts : Type 0 where
  pub request : Call
  pub footing : Footing

-- what an entry of the code may touch
abbrev pub footing_shape : Footing → meant.Footing
footing_shape (Declared footprint) = declares footprint
footing_shape (Faulting code) = faults code
footing_shape (Found footprint) = finds footprint

-- the entry that a request and its footing are
abbrev pub entry_shape : EntryParts → EntryShape
entry_shape e = record {
  tables = e.request.proc.tables;
  body = stmts_view e.request.proc.body;
  arguments = e.request.args;
  footing = footing_shape e.footing;
}
