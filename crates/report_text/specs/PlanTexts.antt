-- Claimed: what contracts promise to a reader rests on these words.
-- The lines of plans. Words are separated by one space, and each line ends with a newline byte.
use Rattle.std.specs.Prelude.{ℕ, List, [], ◌∷◌, ◌++◌, codes}
use Rattle.std.specs.Fmt.{decimal}
use Rattle.catalogue.specs.Shapes.{TableShape}
use Rattle.footprint.specs.declared.resource.InPart.{InPart}
use Rattle.footprint.specs.declared.resource.InPart.TheVariants.{WholePart, Row}
use Rattle.footprint.specs.declared.resource.InTable.{InTable}
use Rattle.footprint.specs.declared.resource.InTable.TheVariants.{WholeTable, Part}
use Rattle.footprint.specs.declared.resource.Resource.{Resource}
use Rattle.footprint.specs.declared.resource.Resource.TheVariants.{Db, Table}
use Rattle.row_text.specs.Texts.{table_name}
use Rattle.modes.specs.declared.mode.Mode.{Mode}
use Rattle.modes.specs.declared.mode.Mode.TheVariants.{IntentionShared, IntentionExclusive, Shared, SharedIntentionExclusive, Exclusive}

-- the modes by their usual short names (Gray and others, 1975 and 1976)
unfoldable pub mode_word : Mode → List ℕ
mode_word IntentionShared = codes "IS"
mode_word IntentionExclusive = codes "IX"
mode_word Shared = codes "S"
mode_word SharedIntentionExclusive = codes "SIX"
mode_word Exclusive = codes "X"

-- what comes after a partition's number: nothing for the whole partition, /KEY for a row
unfoldable pub in_part_text : InPart → List ℕ
in_part_text WholePart = []
in_part_text (Row key) = codes "/" ++ decimal key

-- what comes after a table's name: nothing for the whole table, /PART for a partition, /PART/KEY for a row
unfoldable pub in_table_text : InTable → List ℕ
in_table_text WholeTable = []
in_table_text (Part part below) = (codes "/" ++ decimal part) ++ in_part_text below

-- the name of a resource: `db`, TABLE, TABLE/PART or TABLE/PART/KEY
unfoldable pub resource_text : List TableShape → Resource → List ℕ
resource_text tables Db = codes "db"
resource_text tables (Table table below) = table_name tables table ++ in_table_text below

-- NO MODE RESOURCE
unfoldable pub request_line : List TableShape → ℕ → Resource × Mode → List ℕ
request_line tables number request =
    decimal number ++ codes " " ++ mode_word request.1 ++ codes " " ++ resource_text tables request.0 ++ codes "\n"

-- a line for each request
abbrev pub request_lines : List TableShape → ℕ → List (Resource × Mode) → List ℕ
request_lines tables number [] = []
request_lines tables number (request ∷ requests) =
    request_line tables number request ++ request_lines tables number requests

-- a line a request, or NO none for a plan without requests
unfoldable pub plan_lines : List TableShape → ℕ → List (Resource × Mode) → List ℕ
plan_lines tables number [] = decimal number ++ codes " none\n"
plan_lines tables number (request ∷ requests) = request_lines tables number (request ∷ requests)
