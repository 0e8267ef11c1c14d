-- Of the code: invariants and steps; no promise rests on these words.
-- Setups and rows that are read from tokens.
use Rattle.std.specs.Prelude.{◌≡◌, ℕ, List, Ok, Some}
use Rattle.json.specs.Token.{Token}
use Rattle.serde_json.specs.Data.{Data}
use Rattle.serde_json.specs.Read.{read}
use Rattle.catalogue.specs.Shapes.{TableShape}
use Rattle.value_tokens.specs.Documents.{IsDocument}
use Rattle.setup.specs.declared.document.SetupDocument.{SetupDocument}
use Rattle.setup.specs.FirstFault.{InDocument}
use Rattle.setup.specs.Readings.{IsReading}
use Rattle.setup.specs.Rows.{RowAt, row_at}
use Rattle.setup.specs.Says.{SaysDocument}
use Rattle.setup.specs.Setups.{setup_at}

-- the tokens begin with a document, in two arrays of a setup's document, that says this row, after the rows before it,
-- and the others are the rest
abbrev pub IsRowRead : List TableShape → List RowAt → List Token → RowAt → List Token → Type 0
IsRowRead tables before tokens row rest =
    (document : Data) × IsDocument 124 tokens document rest × (row_at tables before document ≡ Ok row)

-- the text is a document, and reading this document gives the setup
abbrev pub IsReadByTokens : List ℕ → SetupDocument → Type 0
IsReadByTokens text setup = (document : Data) × (read text ≡ Some document)
    × IsReading (SaysDocument document) (InDocument document) (setup_at document) (Ok setup)
