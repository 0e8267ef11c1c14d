-- Claimed: what contracts promise to a reader rests on these words.
-- The meaning of an entry: its outcome on a database, and the database that it leaves.
use Rattle.std.specs.Prelude.{pos, List, [], Option, Some, None, Result, Ok, Err}
use Rattle.values.specs.declared.value.Value.{Value}
use Rattle.catalogue.specs.Shapes.{TableShape}
use Rattle.values.specs.Database.{Database}
use Rattle.proclang_types.specs.Syntax.{StmtSyntax, block_of}
use Rattle.footprint.specs.declared.abort_code.AbortCode.{AbortCode}
use Rattle.footprint.specs.declared.abort_code.AbortCode.TheVariants.{Uncovered}
use Rattle.footprint.specs.Rights.{FootprintOf}
use Rattle.meaning.specs.declared.outcome.Ending.{Ending}
use Rattle.meaning.specs.declared.outcome.Ending.TheVariants as endings
use Rattle.meaning.specs.Runs.{State, AccessRule, covered}
use Rattle.meaning.specs.Meaning.{StandIn, in_order}

-- what an entry may touch: a declared footprint, the abort of one whose expression faults, or a footprint that
-- reconnaissance found
pub data Footing : Type 0 where
  declares : FootprintOf → Footing
  faults : AbortCode → Footing
  finds : FootprintOf → Footing

-- a call that is ready to run: a body over the tables of a catalogue, its arguments, and what it may touch
pub record EntryShape : Type 0 where
  pub tables : List TableShape
  pub body : List StmtSyntax
  pub arguments : List Value
  pub footing : Footing

-- what a transaction answers: values, the code of an abort, or that it is stale
pub data Reply : Type 0 where
  commit : List Value → Reply
  aborted : AbortCode → Reply
  stale : Reply

-- the footprint of what an entry may touch; none where its declaration faults
abbrev pub footprint_of : Footing → Option FootprintOf
footprint_of (declares footprint) = Some footprint
footprint_of (faults code) = None
footprint_of (finds footprint) = Some footprint

-- where a run begins: the arguments are variables, no step is taken and nothing is replied
abbrev pub start : List Value → Database → State
start arguments db = record { rows = db; variables = arguments; steps = 0; reply = []; accesses = [] }

-- the reply of a run that ended before its body did
abbrev pub reply_of : Ending → Reply
reply_of (endings.Abort code) = aborted code
reply_of endings.Stale = stale

-- rule: call.end
-- every outcome but commit gives the database back
abbrev pub finished : Database → Result (Unit {0}) Ending × State → Reply × Database
finished db (Ok u, st) = (commit st.reply, st.rows)
finished db (Err e, st) = (reply_of e, db)

-- how the run of a body ends, and the state that is left
abbrev pub end_of : StandIn → AccessRule → List StmtSyntax → List Value → Database → Result (Unit {0}) Ending × State
end_of d rule body arguments db = in_order d rule (block_of body) (start arguments db)

-- the reply of the run of a body, and the database that it leaves
abbrev pub run_of : StandIn → AccessRule → List StmtSyntax → List Value → Database → Reply × Database
run_of d rule body arguments db = finished db (end_of d rule body arguments db)

-- rule: footprint.first
-- an uncovered access aborts a declared entry, and makes a found one stale
abbrev pub meaning_by : StandIn → List TableShape → List StmtSyntax → List Value → Footing → Database → Reply × Database
meaning_by d tables body arguments (declares footprint) db =
    run_of d (covered tables footprint (endings.Abort Uncovered)) body arguments db
meaning_by d tables body arguments (faults code) db = (aborted code, db)
meaning_by d tables body arguments (finds footprint) db =
    run_of d (covered tables footprint endings.Stale) body arguments db

-- the number 0 and the empty text, for a variable or a column that is not there or has the other type
abbrev pub nothing : StandIn
nothing = record { number = pos 0; text = [] }

-- the meaning of an entry on a database
abbrev pub meaning : EntryShape → Database → Reply × Database
meaning entry db = meaning_by nothing entry.tables entry.body entry.arguments entry.footing db
