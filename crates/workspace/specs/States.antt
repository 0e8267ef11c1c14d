-- Claimed: what contracts promise to a reader rests on these words.
-- The state that a workspace represents.
use Rattle.std.specs.Prelude.{ℕ, take}
use Rattle.values.specs.Database.{Database}
use Rattle.meaning.specs.Runs.{State}
use Rattle.workspace.specs.declared.workspace.Workspace.{Workspace}
use Rattle.workspace.specs.Overlay.{applied}

-- where a run is: its own writes over the rows of a database
abbrev pub state_at : Database → Workspace → State
state_at db space = record {
  rows = applied space.writes.entries db;
  variables = space.variables.items;
  steps = space.steps;
  reply = space.reply.items;
  accesses = space.accesses;
}

-- the state with its first n variables, without the others
abbrev pub with_first : ℕ → State → State
with_first count st = record st { variables = take count st.variables }
