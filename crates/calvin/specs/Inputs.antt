-- Claimed: what contracts promise to a reader rests on these words.
-- What a command reads its setup from: the texts at its paths, and what they say.
use Rattle.std.specs.Prelude.{◌≡◌, ℕ, ◌⊎◌, List, Option, Some, None, option_map, string_bytes}
use Rattle.setup.specs.declared.fault.SetupFault.{SetupFault}
use Rattle.setup.specs.declared.document.SetupDocument.{SetupDocument}
use Rattle.setup.specs.FirstFault.{BreaksFirst}
use Rattle.requests.specs.ProcLists.{AreOver}
use Rattle.setup.specs.Says.{SaysSetup}
use Rattle.setup.specs.Setups.{setup_view, SetupShape}
use Rattle.setup.specs.WithRows.{BreaksFirstWithRows, SaysSetupWithRows}
use Rattle.command_line.specs.declared.command.Input.{Input}

-- what a machine may hold at each path: a text, or nothing that can be read
abbrev pub Files : Type 1
Files = List ℕ → Option (List ℕ) → Type 0

-- the path of a setup, and that of the rows in place of the setup's where others are given
pub record Paths : Type 0 where
  pub setup : List ℕ
  pub rows : Option (List ℕ)

abbrev pub paths_of : Input → Paths
paths_of input = record { setup = string_bytes input.setup; rows = option_map string_bytes input.rows }

-- the path of a setup with its own rows
abbrev pub alone_at : List ℕ → Paths
alone_at path = record { setup = path; rows = None }

-- the path of a setup, and that of the rows in place of its own
abbrev pub with_rows_at : List ℕ → List ℕ → Paths
with_rows_at path rows = record { setup = path; rows = Some rows }

-- ---- setups

-- the text at the path of the rows, where one is given
abbrev pub AreRowsAt : Files → Option (List ℕ) → Option (List ℕ) → Type 0
AreRowsAt holds None rows = rows ≡ None
AreRowsAt holds (Some path) rows = (text : List ℕ) × holds path (Some text) × (rows ≡ Some text)

-- the texts at the paths
pub record AreTexts (holds : Files) (paths : Paths) (text : List ℕ) (rows : Option (List ℕ)) : Type 0 where
  pub setup : holds paths.setup (Some text)
  pub rows_are : AreRowsAt holds paths.rows rows

-- nothing can be read at one of the paths
abbrev pub IsUnreadable : Files → Paths → Type 0
IsUnreadable holds paths =
    holds paths.setup None ⊎ ((path : List ℕ) × (paths.rows ≡ Some path) × holds path None)

-- rule: option.rows
-- what a setup's text says, with the rows of another text in place of its own where there is one
abbrev pub SaysSetupOf : List ℕ → Option (List ℕ) → SetupShape → Type 0
SaysSetupOf text None shape = SaysSetup text shape
SaysSetupOf text (Some rows) shape = SaysSetupWithRows text rows shape

-- the first rule that they break
abbrev pub BreaksFirstOf : List ℕ → Option (List ℕ) → SetupFault → Type 0
BreaksFirstOf text None fault = BreaksFirst text fault
BreaksFirstOf text (Some rows) fault = BreaksFirstWithRows text rows fault

-- the texts at the paths break a rule
pub record AreFaulty (holds : Files) (paths : Paths) : Type 0 where
  pub text : List ℕ
  pub rows : Option (List ℕ)
  pub held : AreTexts holds paths text rows
  pub fault : SetupFault
  pub breaks : BreaksFirstOf text rows fault

-- No setup was read: nothing can be read at a path, or the texts there break a rule, or allocation failed.
abbrev pub IsWithoutSetup : Files → Paths → ℕ → Type 0
IsWithoutSetup holds paths status =
    ((status ≡ 4) × IsUnreadable holds paths)
    ⊎ (((status ≡ 1) × AreFaulty holds paths)
    ⊎ (status ≡ 3))

-- the setup document is what the texts at the paths say, and each of its procedures is over its catalogue
pub record IsSetupAt (holds : Files) (paths : Paths) (document : SetupDocument) : Type 0 where
  pub text : List ℕ
  pub rows : Option (List ℕ)
  pub held : AreTexts holds paths text rows
  pub says : SaysSetupOf text rows (setup_view document)
  pub over : AreOver document.setup.catalogue document.setup.procs.procs
