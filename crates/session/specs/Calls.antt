-- Claimed: what contracts promise to a reader rests on these words.
-- Single lines as the next calls of a session, and cuts.
use Rattle.std.specs.Prelude.{ℕ, List, [], ◌∷◌, Bool, false, Option, Some, None, Result, Ok, Err, codes, ⊤}
use Rattle.documents.specs.Reading.{◌>>=◌, Reads}
use Rattle.batch_log.specs.declared.fault.LogFaultKind.{LogFaultKind}
use Rattle.batch_log.specs.Calls.{is_call, next_call}
use Rattle.batch_log.specs.Faults.{is_memory}
use Rattle.batch_log.specs.Feeds.{place_of}
use Rattle.session.specs.declared.call.CallFault.{CallFault}
use Rattle.session.specs.declared.call.CallFault.TheVariants.{Stopped, InLine, Line}
use Rattle.session.specs.declared.session.Session.{Session}
use Rattle.session.specs.declared.session.SessionFault.{SessionFault}
use Rattle.session.specs.Sessions.{stop_of}

-- whether a line can be taken: the run goes on, and no line is begun
abbrev pub at_line : Option SessionFault → List ℕ → Result ⊤ CallFault
at_line (Some fault) begun = Err (Stopped fault)
at_line None [] = Ok tt
at_line None (byte ∷ begun) = Err InLine

abbrev pub at_line_of : Session → Result ⊤ CallFault
at_line_of session = at_line (stop_of session) (place_of session.work.feed).line

-- a fault of a line
abbrev pub of_line : Result ⊤ LogFaultKind → Result ⊤ CallFault
of_line (Ok x) = Ok tt
of_line (Err kind) = Err (Line kind)

-- whether a line is a call that is taken next, or why it isn't
abbrev pub call_said : Session → List ℕ → Result ⊤ CallFault
call_said session line = at_line_of session
    >>= (λ x. of_line (is_call (next_call session.work.engine.procs.procs (place_of session.work.feed) line)))

-- an allocation failed for a line
abbrev pub is_of_memory : CallFault → Bool
is_of_memory (Stopped fault) = false
is_of_memory InLine = false
is_of_memory (Line kind) = is_memory kind

-- this was answered, unless an allocation failed
abbrev pub Answers : {T : Type 0} → Result T CallFault → Result ⊤ CallFault → Type 0
Answers result said = Reads is_of_memory (λ x. tt) result said

-- the line that ends a batch
abbrev pub cut_line : List ℕ
cut_line = codes "[\"cut\"]\n"

-- the run has stopped, with a fault of which this holds
abbrev pub HasStopped : CallFault → (SessionFault → Type 0) → Type 0
HasStopped (Stopped fault) P = P fault
HasStopped InLine P = ⊥
HasStopped (Line kind) P = ⊥

-- why nothing more is taken after a cut
abbrev pub stop_at_cut : {T : Type 0} → Result T CallFault → Option SessionFault
stop_at_cut (Ok x) = None
stop_at_cut (Err (Stopped fault)) = Some fault
stop_at_cut (Err InLine) = None
stop_at_cut (Err (Line kind)) = None
