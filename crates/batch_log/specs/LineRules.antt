-- Claimed: what contracts promise to a reader rests on these words.
-- Which lines of a log say a call or a cut, and the faults of a line. No rule here depends on what reading gives.
use Rattle.std.specs.Prelude.{◌≡◌, ℕ, Bool, true, false, List, [], ◌∷◌, ◌++◌, Option, Some, None, is_some, Ok, if◌then◌else◌, codes}
use Rattle.std.specs.Str.{is_utf8}
use Rattle.serde_json.specs.Data.{Data, string, array}
use Rattle.serde_json.specs.Read.{read}
use Rattle.serde_json.specs.View.{items_of}
use Rattle.documents.specs.FirstFault.{broken, IsFirst}
use Rattle.values.specs.declared.value.Value.{Value}
use Rattle.catalogue.specs.Said.{values_said}
use Rattle.proclang_types.specs.Procedures.{ProcParts}
use Rattle.requests.specs.ProcLists.{proc_named}
use Rattle.requests.specs.Requests as requests
use Rattle.batch_log.specs.declared.fault.LogFaultKind.{LogFaultKind}
use Rattle.batch_log.specs.declared.fault.LogFaultKind.TheVariants.{NotJson, Shape, UnknownProc, Args}
use Rattle.batch_log.specs.declared.line.LogLine.{LogLine}
use Rattle.batch_log.specs.declared.line.LogLine.TheVariants.{Call, Cut}
use Rattle.batch_log.specs.Forms.{Form, call_form, cut_form, line_form}
use Rattle.batch_log.specs.Lines.{all_fit, line_said}

-- ---- what a line says

-- ["call", PROC, [VALUE ..]] and ["cut"]
abbrev pub SpellsLine : Data → Form → Type 0
SpellsLine d (call_form name ds) = d ≡ array (items_of (string (codes "call") ∷ string name ∷ array (items_of ds) ∷ []))
SpellsLine d cut_form = d ≡ array (items_of (string (codes "cut") ∷ []))

-- a procedure by its name, and values that its parameters take
pub record SaysCall (procs : List ProcParts) (name : List ℕ) (ds : List Data) (call : requests.Call) : Type 0 where
  pub is_proc : proc_named procs name ≡ Some call.proc
  pub are_values : values_said ds ≡ Some call.args
  pub fit : all_fit call.proc.params call.args ≡ true

-- what a line of that form says
abbrev pub SaysForm : List ProcParts → Form → LogLine → Type 0
SaysForm procs (call_form name ds) said = (call : requests.Call) × SaysCall procs name ds call × (said ≡ Call call)
SaysForm procs cut_form said = said ≡ Cut

-- rule: log.form
-- a line is UTF-8 and JSON, and its document says a call or a cut
pub record SaysLine (procs : List ProcParts) (line : List ℕ) (said : LogLine) : Type 0 where
  pub document : Data
  pub utf8 : is_utf8 line ≡ true
  pub json : read line ≡ Some document
  pub form : Form
  pub is_form : SpellsLine document form
  pub says : SaysForm procs form said

-- ---- the faults of a line, in the order in which its rules are looked at

-- the parameters of a procedure take the values
abbrev pub takes : ProcParts → Option (List Value) → Bool
takes proc None = false
takes proc (Some args) = all_fit proc.params args

-- values that the parameters of the procedure take
abbrev pub are_taken : Option ProcParts → Option (List Value) → Bool
are_taken None args = true
are_taken (Some proc) args = takes proc args

-- the procedure is unknown, or does not take the values
abbrev pub in_call : List ProcParts → List ℕ → List Data → List LogFaultKind
in_call procs name ds = broken (is_some (proc_named procs name)) UnknownProc
    ++ broken (are_taken (proc_named procs name) (values_said ds)) Args

-- the rules that a line of that form breaks
abbrev pub in_form : List ProcParts → Option Form → List LogFaultKind
in_form procs None = Shape ∷ []
in_form procs (Some (call_form name ds)) = in_call procs name ds
in_form procs (Some cut_form) = []

-- the rules that a document breaks
abbrev pub in_document : List ProcParts → Option Data → List LogFaultKind
in_document procs None = NotJson ∷ []
in_document procs (Some d) = in_form procs (line_form d)

-- the first of them is answered, and there is none where no rule is broken
abbrev pub line_faults : List ProcParts → List ℕ → List LogFaultKind
line_faults procs line = if is_utf8 line then in_document procs (read line) else NotJson ∷ []

-- ---- laws

-- What is read of a line is what it says, what it says is read, and its fault is the first rule that it breaks.
pub record LineIsExact (procs : List ProcParts) (line : List ℕ) : Type 0 where
  pub found : (said : LogLine) → line_said procs line ≡ Ok said → SaysLine procs line said
  pub only : (said : LogLine) → SaysLine procs line said → line_said procs line ≡ Ok said
  pub is_first : IsFirst (line_said procs line) (line_faults procs line)
