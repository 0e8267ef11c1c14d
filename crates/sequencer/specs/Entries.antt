-- Claimed: what contracts promise to a reader rests on these words.
-- The entries of requests.
use Rattle.std.specs.Prelude.{Result, Ok, Err}
use Rattle.proclang_types.specs.Procedures.{proc_syntax}
use Rattle.footprint.specs.declared.abort_code.AbortCode.{AbortCode}
use Rattle.footprint.specs.Rights.{FootprintOf}
use Rattle.footprint.specs.Declaration.{declared_footprint}
use Rattle.requests.specs.Requests.{Call}
use Rattle.values.specs.Database.{Database}
use Rattle.proclang_types.specs.Syntax.{FootprintSyntax, declared_by, found_by_recon}
use Rattle.meaning.specs.Reconnaissance.{found_footprint}
use Rattle.meaning.specs.Entries.{EntryShape, Footing, declares, faults, finds}

-- a declared footprint, or the abort of its first fault
abbrev pub footing_of : Result FootprintOf AbortCode → Footing
footing_of (Ok footprint) = declares footprint
footing_of (Err code) = faults code

-- what a call may touch: the footprint that its procedure declares for its values, or the one that reconnaissance finds
-- on a database
abbrev pub footing_on : Database → Call → FootprintSyntax → Footing
footing_on db call (declared_by entries) = footing_of (declared_footprint call.proc.tables call.args entries)
footing_on db call found_by_recon = finds (found_footprint call.proc.tables (proc_syntax call.proc).body call.args db)

-- the entry of a request, on the database at the start of its batch (Calvin, 2012: reconnaissance of dependent
-- transactions)
abbrev pub prepared : Database → Call → EntryShape
prepared db call = record {
  tables = call.proc.tables;
  body = (proc_syntax call.proc).body;
  arguments = call.args;
  footing = footing_on db call (proc_syntax call.proc).footprint;
}
