-- Claimed: what contracts promise to a reader rests on these words.
-- Which documents say a setup: a relation between documents and what they say, apart from faults and the order in which
-- a document is read.
use Rattle.std.specs.Prelude.{◌≡◌, ◌≤◌, ◌⊎◌, ℕ, ◌==◌, ◌&&◌, pos, Bool, true, false, List, [], ◌∷◌, Some, None, codes}
use Rattle.std.specs.List.{IsDistinct}
use Rattle.std.specs.Str.{is_utf8}
use Rattle.serde_json.specs.Data.{Data, string, array}
use Rattle.serde_json.specs.Read.{read}
use Rattle.serde_json.specs.View.{items_of}
use Rattle.documents.specs.Json.{integer}
use Rattle.catalogue.specs.Places.{table_named}
use Rattle.catalogue.specs.Rules.{Says, SaysCatalogue, IsCatalogue}
use Rattle.catalogue.specs.Shapes.{TableShape}
use Rattle.proclang.specs.Says.{SaysProcs}
use Rattle.setup.specs.Rows.{RowAt, row_values}
use Rattle.row_text.specs.declared.form.DigestForm.{DigestForm}
use Rattle.row_text.specs.declared.form.DigestForm.TheVariants.{Rows, Partitions}
use Rattle.setup.specs.Setups.{SetupParts, SetupShape}

-- ---- rows

-- ["acct", 1, [100]]: values that the table of that name takes
pub record SaysRow (tables : List TableShape) (d : Data) (row : RowAt) : Type 0 where
  pub table : List ℕ
  pub key : Data
  pub list : List Data
  pub is_form : d ≡ array (items_of (string table ∷ key ∷ array (items_of list) ∷ []))
  pub is_table : table_named tables table ≡ Some row.0
  pub is_key : integer key ≡ Some (pos row.1)
  pub is_row : row_values tables row.0 list ≡ Some row.2

-- two rows of one table and key
abbrev pub same_name : RowAt → RowAt → Bool
same_name a b = (a.0 == b.0) && (a.1 == b.1)

-- ["rows", 1, [ROW ..]], and no two rows have one name
pub record SaysRows (tables : List TableShape) (d : Data) (rows : List RowAt) : Type 0 where
  pub version : Data
  pub list : List Data
  pub is_form : d ≡ array (items_of (string (codes "rows") ∷ version ∷ array (items_of list) ∷ []))
  pub is_version : integer version ≡ Some (pos 1)
  pub are : Says (SaysRow tables) list rows
  pub distinct : IsDistinct same_name rows

-- ---- setups

-- ["setup", 1, CATALOGUE, PROCEDURES, ROWS]: nothing is tried again, and digests are of row texts
pub record SpellsFirst (d : Data) (form : SetupParts) : Type 0 where
  pub version : Data
  pub is_form : d ≡ array (items_of (string (codes "setup") ∷ version ∷ form.catalogue ∷ form.procs ∷ form.rows ∷ []))
  pub is_version : integer version ≡ Some (pos 1)
  pub none : form.retries ≡ 0
  pub of_rows : form.digest ≡ Rows

-- ["setup", 2, CATALOGUE, PROCEDURES, ROWS, RETRIES]: a stale request is tried again 0 to 2 times, and digests are of
-- row texts
pub record SpellsSecond (d : Data) (form : SetupParts) : Type 0 where
  pub version : Data
  pub number : Data
  pub is_form : d
      ≡ array (items_of (string (codes "setup") ∷ version ∷ form.catalogue ∷ form.procs ∷ form.rows ∷ number ∷ []))
  pub is_version : integer version ≡ Some (pos 2)
  pub is_number : integer number ≡ Some (pos form.retries)
  pub few : form.retries ≤ 2
  pub of_rows : form.digest ≡ Rows

-- the names of the texts of which digests are
abbrev pub name_of : DigestForm → List ℕ
name_of Rows = codes "rows"
name_of Partitions = codes "partitions"

-- ["setup", 3, CATALOGUE, PROCEDURES, ROWS, RETRIES, DIGEST]: a stale request is tried again 0 to 2 times, and digests
-- are of row texts or of partition texts
pub record SpellsThird (d : Data) (form : SetupParts) : Type 0 where
  pub version : Data
  pub number : Data
  pub is_form : d
      ≡ array (items_of (string (codes "setup") ∷ version ∷ form.catalogue ∷ form.procs ∷ form.rows ∷ number
      ∷ string (name_of form.digest) ∷ []))
  pub is_version : integer version ≡ Some (pos 3)
  pub is_number : integer number ≡ Some (pos form.retries)
  pub few : form.retries ≤ 2

-- a document is of one of the three versions
abbrev pub SpellsSetup : Data → SetupParts → Type 0
SpellsSetup d form = SpellsFirst d form ⊎ (SpellsSecond d form ⊎ SpellsThird d form)

-- a document says a setup
pub record SaysDocument (d : Data) (s : SetupShape) : Type 0 where
  pub form : SetupParts
  pub is_form : SpellsSetup d form
  pub catalogue : SaysCatalogue form.catalogue s.tables
  pub is_catalogue : IsCatalogue s.tables
  pub procs : SaysProcs s.tables form.procs s.procs
  pub rows : SaysRows s.tables form.rows s.rows
  pub retries : s.retries ≡ form.retries
  pub digest : s.digest ≡ form.digest

-- a text is UTF-8 and JSON, and says that document
pub record IsJson (text : List ℕ) (d : Data) : Type 0 where
  pub utf8 : is_utf8 text ≡ true
  pub json : read text ≡ Some d

-- rule: json.text
-- a text is not UTF-8, or not JSON
abbrev pub IsNotJson : List ℕ → Type 0
IsNotJson text = (is_utf8 text ≡ false) ⊎ (read text ≡ None)

-- a text says a setup
abbrev pub SaysSetup : List ℕ → SetupShape → Type 0
SaysSetup text s = (d : Data) × IsJson text d × SaysDocument d s

-- a text says one setup, and no other
abbrev pub OneSetupIsSaid : Type 0
OneSetupIsSaid = (text : List ℕ) (s t : SetupShape) → SaysSetup text s → SaysSetup text t → s ≡ t
