-- Claimed: what contracts promise to a reader rests on these words.
-- Calls that clients send, and the requests that procedures make of them.
use Rattle.std.specs.Prelude.{ℕ, List, [], ◌∷◌, ◌++◌, Bool, true, false, ◌&&◌, if◌then◌else◌, Option, Some, None, Result, Ok, Err, string_bytes}
use Rattle.values.specs.declared.value.Value.{Value}
use Rattle.proclang_types.specs.Syntax.{ParamShape}
use Rattle.proclang_types.specs.Procedures.{ProcParts}
use Rattle.requests.specs.Requests.{Call, fits}
use Rattle.requests.specs.ProcLists.{ProcsParts, proc_named}
use Rattle.requests.specs.declared.request.RequestFault.{RequestFault}
use Rattle.requests.specs.declared.request.RequestFault.TheVariants.{UnknownProc, Args}
use Rattle.sequencer.specs.Batches.{RequestItem}
use Rattle.batch_items.specs.declared.item.Item.{Item}
use Rattle.example_serving.specs.declared.call.ClientCall.{ClientCall}
use Rattle.example_serving.specs.declared.taking_in.Asked.{Asked}

-- a call, its client, and its number among those of the client
abbrev pub CallItem : Type 0
CallItem = Item ClientCall

-- whether the values are one a parameter, each of the parameter's type
abbrev pub takes : List ParamShape → List Value → Bool
takes [] [] = true
takes [] (v ∷ vs) = false
takes (p ∷ ps) [] = false
takes (p ∷ ps) (v ∷ vs) = fits p.kind v && takes ps vs

-- the request of a procedure with values, or why there is none
abbrev pub request_with : Option ProcParts → List Value → Result Call RequestFault
request_with None values = Err UnknownProc
request_with (Some proc) values =
    if takes proc.params values then Ok (record { proc = proc; args = values }) else Err Args

-- the request that procedures make of a call, or why it is none
abbrev pub request_of : ProcsParts → ClientCall → Result Call RequestFault
request_of procs call = request_with (proc_named procs.procs (string_bytes call.name)) call.args.items

abbrev pub request_item : ℕ → ℕ → Result Call RequestFault → List RequestItem
request_item client number (Ok request) = record { client = client; number = number; request = request } ∷ []
request_item client number (Err fault) = []

-- the requests that they make of drawn calls, in their order
abbrev pub requests_of : ProcsParts → List CallItem → List RequestItem
requests_of procs [] = []
requests_of procs (x ∷ xs) = request_item x.client x.number (request_of procs x.request) ++ requests_of procs xs

abbrev pub refusal : Result Call RequestFault → Option RequestFault
refusal (Ok request) = None
refusal (Err fault) = Some fault

-- who asked, and why the call is no request, if it is none
abbrev pub asked_of : ProcsParts → List CallItem → List Asked
asked_of procs [] = []
asked_of procs (x ∷ xs) =
    record { client = x.client; number = x.number; refused = refusal (request_of procs x.request) } ∷ asked_of procs xs
