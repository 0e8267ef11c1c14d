-- Claimed: what contracts promise to a reader rests on these words.
-- A setup document whose starting rows another document says.
use Rattle.std.specs.Prelude.{◌≡◌, ◌⊎◌, ℕ, List, Result, slice_set}
use Rattle.serde_json.specs.Data.{Data, array}
use Rattle.serde_json.specs.View.{items_of}
use Rattle.documents.specs.Json.{list_of}
use Rattle.documents.specs.Reading.{◌>>=◌, formed}
use Rattle.setup.specs.declared.fault.SetupFault.{SetupFault}
use Rattle.setup.specs.declared.fault.SetupFault.TheVariants.{NotJson}
use Rattle.setup.specs.FirstFault.{InDocument}
use Rattle.setup.specs.Says.{IsJson, IsNotJson, SaysDocument}
use Rattle.setup.specs.Setups.{SetupShape, json_said, setup_at}

-- an array with other rows as its fifth element; a shorter array, or what is no array, is itself
abbrev pub with_rows_document : Data → Data → Data
with_rows_document (array ds) rows = array (items_of (slice_set (list_of ds) 4 rows))
with_rows_document d rows = d

-- a text says a setup whose starting rows another text says
pub record SaysSetupWithRows (text rows : List ℕ) (s : SetupShape) : Type 0 where
  pub setup : Data
  pub is_setup : IsJson text setup
  pub starting : Data
  pub is_rows : IsJson rows starting
  pub says : SaysDocument (with_rows_document setup starting) s

-- both texts are JSON, and the setup document with those rows breaks a rule
pub record InDocumentWithRows (text rows : List ℕ) (fault : SetupFault) : Type 0 where
  pub setup : Data
  pub is_setup : IsJson text setup
  pub starting : Data
  pub is_rows : IsJson rows starting
  pub is_first : InDocument (with_rows_document setup starting) fault

-- the first rule that a setup's text and a rows' text break: that each is JSON comes before all others
abbrev pub BreaksFirstWithRows : List ℕ → List ℕ → SetupFault → Type 0
BreaksFirstWithRows text rows fault =
    ((fault ≡ NotJson) × (IsNotJson text ⊎ IsNotJson rows)) ⊎ InDocumentWithRows text rows fault

-- the setup that a text says with the rows that another text says, or the first fault
unfoldable pub setup_with_rows_said : List ℕ → List ℕ → Result SetupShape SetupFault
setup_with_rows_said text rows = do
  setup ← formed NotJson (json_said text)
  starting ← formed NotJson (json_said rows)
  setup_at (with_rows_document setup starting)
