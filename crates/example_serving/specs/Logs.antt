-- Claimed: what contracts promise to a reader rests on these words.
-- The logs of clients.
use Rattle.std.specs.Prelude.{ℕ, ◌+◌, ◌<◌, ◌≤◌, ◌^◌, List, [], ◌∷◌, length, Vec}
use Rattle.std.specs.declared.alloc.Global.{Global}
use Rattle.intake.specs.declared.view.History.{History}
use Rattle.intake.specs.Histories.{history}
use Rattle.example_serving.specs.declared.call.ClientCall.{ClientCall}

-- the calls that a client submits, in order
abbrev pub ClientLog : Type 0
ClientLog = Vec ClientCall Global

-- a client has one of these logs: they are those of clients 1, 2 and so on
abbrev pub HasLog : List ClientLog → ℕ → Type 0
HasLog logs client = (0 < client) × (client ≤ length logs)

-- its calls can all be numbered
abbrev pub IsShortLog : ClientLog → Type 0
IsShortLog log = length log.items ≤ 2 ^ 48

-- the histories of clients that have submitted their logs, and are numbered from a first one
abbrev pub histories_from : ℕ → List ClientLog → List (History ClientCall)
histories_from client [] = []
histories_from client (log ∷ logs) = history client log.items ∷ histories_from (client + 1) logs
