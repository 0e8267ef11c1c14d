-- Claimed: what contracts promise to a reader rests on these words.
-- What the lines of a log say.
use Rattle.std.specs.Prelude.{◌≡◌, ℕ, ◌&&◌, nat_eq, length, Bool, List, Option, Some, None, Result, Ok, Err, if◌then◌else◌, map, ⊤}
use Rattle.std.specs.List.{list_all, zip}
use Rattle.std.specs.Str.{is_utf8}
use Rattle.serde_json.specs.Data.{Data}
use Rattle.serde_json.specs.Read.{read}
use Rattle.documents.specs.Reading.{◌>>=◌, formed, rule}
use Rattle.devices.specs.Lines.{numbered_lines}
use Rattle.values.specs.declared.value.Value.{Value}
use Rattle.catalogue.specs.Said.{values_said}
use Rattle.catalogue.specs.Shapes.{TableShape}
use Rattle.proclang_types.specs.Syntax.{ParamShape}
use Rattle.proclang_types.specs.Procedures.{ProcParts}
use Rattle.requests.specs.ProcLists.{proc_named}
use Rattle.requests.specs.Requests.{fits}
use Rattle.requests.specs.Requests as requests
use Rattle.batch_log.specs.Forms.{Form, call_form, cut_form, line_form}
use Rattle.batch_log.specs.declared.fault.LogFaultKind.{LogFaultKind}
use Rattle.batch_log.specs.declared.fault.LogFaultKind.TheVariants.{NotJson, Shape, UnknownProc, Args}
use Rattle.batch_log.specs.declared.line.LogLine.{LogLine}
use Rattle.batch_log.specs.declared.line.LogLine.TheVariants.{Call, Cut}

-- one value a parameter, each of which its parameter takes
abbrev pub all_fit : List ParamShape → List Value → Bool
all_fit params args = nat_eq (length args) (length params) && list_all (λ p. fits p.0.kind p.1) (zip params args)

-- the call of a procedure by its name with the values that documents say
unfoldable pub call_said : List ProcParts → List ℕ → List Data → Result requests.Call LogFaultKind
call_said procs name ds = do
  proc ← formed UnknownProc (proc_named procs name)
  args ← formed Args (values_said ds)
  _ ← rule (all_fit proc.params args) Args
  Ok (record { proc = proc; args = args })

-- what a line of that form says, or its fault
abbrev pub form_said : List ProcParts → Form → Result LogLine LogFaultKind
form_said procs (call_form name ds) = call_said procs name ds >>= (λ call. Ok (Call call))
form_said procs cut_form = Ok Cut

-- what a document says, or its fault
abbrev pub document_said : List ProcParts → Option Data → Result LogLine LogFaultKind
document_said procs None = Err NotJson
document_said procs (Some d) = formed Shape (line_form d) >>= form_said procs

-- what a line says, or the first rule that it breaks
unfoldable pub line_said : List ProcParts → List ℕ → Result LogLine LogFaultKind
line_said procs line = if is_utf8 line then document_said procs (read line) else Err NotJson

-- what lines say, each with its number
abbrev pub Lines : Type 0
Lines = List (ℕ × Result LogLine LogFaultKind)

-- what the lines of a text say, where n newlines come before the text
abbrev pub lines_said : List ProcParts → ℕ → List ℕ → Lines
lines_said procs newlines text = map (λ line. (line.0, line_said procs line.1)) (numbered_lines newlines text)

-- a call is of a procedure over those tables
abbrev pub IsOver : List TableShape → LogLine → Type 0
IsOver tables (Call call) = call.proc.tables ≡ tables
IsOver tables Cut = ⊤
