-- Claimed: what contracts promise to a reader rests on these words.
-- What a catalogue is, and which documents say it. Apart from the order in which a document is read.
use Rattle.std.specs.Prelude.{◌≡◌, ◌⊎◌, ℕ, ◌<◌, ◌≤◌, ◌^◌, pos, List, [], ◌∷◌, length, map, Some, true, codes, ⊤}
use Rattle.std.specs.Str.{bytes_eq}
use Rattle.std.specs.List.{AllByRecursion, IsDistinct}
use Rattle.serde_json.specs.Data.{Data, string, array}
use Rattle.serde_json.specs.View.{items_of}
use Rattle.documents.specs.Json.{integer}
use Rattle.values.specs.Names.{is_name}
use Rattle.catalogue.specs.Shapes.{ColumnShape, SplitShape, by_remainder, at_bounds, TableShape}
use Rattle.catalogue.specs.Reading.{type_of_word}

-- ---- the rules

-- at least one and no more than a most, each with a name, and no two of one name
pub record AreNamed {X : Type 0} (name_of : X → List ℕ) (most : ℕ) (xs : List X) : Type 0 where
  pub some : 1 ≤ length xs
  pub few : length xs ≤ most
  pub names : AllByRecursion (λ x. is_name (name_of x) ≡ true) xs
  pub distinct : IsDistinct bytes_eq (map name_of xs)

-- each number is above the one before it, and the first above a least one
abbrev pub AreRising : ℕ → List ℕ → Type 0
AreRising least [] = ⊤
AreRising least (n ∷ ns) = (least < n) × AreRising n ns

-- at most 1,023 bounds, each above 0, above the one before it and less than 2^63
pub record AreBounds (bounds : List ℕ) : Type 0 where
  pub few : length bounds ≤ 1023
  pub rising : AreRising 0 bounds
  pub signed : AllByRecursion (λ bound. bound < 2 ^ 63) bounds

-- 1 to 1,024 partitions by the remainder, or bounds
abbrev pub IsSplit : SplitShape → Type 0
IsSplit (by_remainder count) = (1 ≤ count) × (count ≤ 1024)
IsSplit (at_bounds bounds) = AreBounds bounds

-- 1 to 1,024 partitions and 1 to 16 columns
pub record IsTable (t : TableShape) : Type 0 where
  pub split : IsSplit t.split
  pub columns : AreNamed (λ (c : ColumnShape). c.name) 16 t.columns

-- rule: catalogue.form
-- 1 to 64 tables
pub record IsCatalogue (ts : List TableShape) : Type 0 where
  pub named : AreNamed (λ (t : TableShape). t.name) 64 ts
  pub tables : AllByRecursion IsTable ts

-- ---- the documents

-- each says the one at its place
abbrev pub Says : {X : Type 0} → (Data → X → Type 0) → List Data → List X → Type 0
Says one [] [] = ⊤
Says one (d ∷ ds) (x ∷ xs) = one d x × Says one ds xs
Says one ds xs = ⊥

-- ["bal", "int"]
abbrev pub SaysColumn : Data → ColumnShape → Type 0
SaysColumn d c =
    (word : List ℕ) × (d ≡ array (items_of (string c.name ∷ string word ∷ []))) × (type_of_word word ≡ Some c.kind)

-- a document is a number that is not negative
abbrev pub SaysNumber : Data → ℕ → Type 0
SaysNumber d n = integer d ≡ Some (pos n)

-- a number of partitions, or ["bounds", 10, 20]
abbrev pub SaysSplit : Data → SplitShape → Type 0
SaysSplit d (by_remainder count) = SaysNumber d count
SaysSplit d (at_bounds bounds) = (numbers : List Data)
    × (d ≡ array (items_of (string (codes "bounds") ∷ numbers))) × Says SaysNumber numbers bounds

-- ["acct", 2, [COLUMN ..]]
abbrev pub SaysTable : Data → TableShape → Type 0
SaysTable d t = (split : Data) × (columns : List Data)
    × (d ≡ array (items_of (string t.name ∷ split ∷ array (items_of columns) ∷ [])))
    × SaysSplit split t.split × Says SaysColumn columns t.columns

-- the keys of a table are split by the remainder
abbrev pub IsByRemainder : TableShape → Type 0
IsByRemainder t = (count : ℕ) × (t.split ≡ by_remainder count)

-- version 1 has no bounds
abbrev pub IsOfVersion : ℕ → List TableShape → Type 0
IsOfVersion version ts = ((version ≡ 1) × AllByRecursion IsByRemainder ts) ⊎ (version ≡ 2)

-- ["catalogue", 1, [TABLE ..]] or ["catalogue", 2, [TABLE ..]]
abbrev pub SaysCatalogue : Data → List TableShape → Type 0
SaysCatalogue d ts = (number : Data) × (tables : List Data)
    × (d ≡ array (items_of (string (codes "catalogue") ∷ number ∷ array (items_of tables) ∷ [])))
    × ((version : ℕ) × SaysNumber number version × IsOfVersion version ts) × Says SaysTable tables ts

-- a document says one catalogue, and no other
abbrev pub OneCatalogueIsSaid : Type 0
OneCatalogueIsSaid = (d : Data) (ts us : List TableShape) → SaysCatalogue d ts → IsCatalogue ts → SaysCatalogue d us
    → IsCatalogue us → ts ≡ us
