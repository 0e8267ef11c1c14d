-- Claimed: what contracts promise to a reader rests on these words.
-- Which documents say a procedure: a relation between documents and typed syntax, apart from paths, faults and the
-- order in which a document is read.
use Rattle.std.specs.Prelude.{◌≡◌, ◌≤◌, ℕ, pos, List, [], ◌∷◌, length, map, Some, true, codes}
use Rattle.std.specs.List.{AllByRecursion, IsDistinct}
use Rattle.std.specs.Str.{bytes_eq}
use Rattle.serde_json.specs.Data.{Data, array, string}
use Rattle.serde_json.specs.View.{items_of}
use Rattle.documents.specs.Json.{integer}
use Rattle.values.specs.Names.{is_name}
use Rattle.catalogue.specs.Rules.{Says, SaysColumn}
use Rattle.catalogue.specs.Shapes.{TableShape}
use Rattle.proclang_types.specs.Syntax.{IntSyntax, EntrySyntax, row_entry, rows_entry, part_entry, table_entry, db_entry, FootprintSyntax, declared_by, found_by_recon, ParamShape, ProcSyntax}
use Rattle.proclang_expressions.specs.Expressions.{deepest}
use Rattle.proclang_forms.specs.ProcForms.{ProcDocument, EntryDocument, row_parts, rows_parts, part_parts, table_parts, db_parts}
use Rattle.proclang_expressions.specs.SaysExpressions.{NamesTable, SaysFootprintInt}
use Rattle.proclang.specs.SaysStatements.{SaysBlock}
use Rattle.proclang_expressions.specs.Seen.{Seen, seen_of}
use Rattle.proclang_forms.specs.Spells.{words, SpellsEntry, SpellsProc}

-- ["a", "int"]
abbrev pub SaysParam : Data → ParamShape → Type 0
SaysParam d p = SaysColumn d (record { name = p.name; kind = p.kind })

-- names that obey the rule, and no two the same
pub record AreNames (names : List (List ℕ)) : Type 0 where
  pub named : AllByRecursion (λ name. is_name name ≡ true) names
  pub distinct : IsDistinct bytes_eq names

-- at most 16 parameters, each with a name of its own
pub record SaysParams (ds : List Data) (params : List ParamShape) : Type 0 where
  pub few : length ds ≤ 16
  pub are : Says SaysParam ds params
  pub names : AreNames (map (λ p. p.name) params)

abbrev pub SaysEntryForm : List TableShape → List Seen → EntryDocument → EntrySyntax → Type 0
SaysEntryForm tables scope (row_parts right table key) e = (t : ℕ) × (k : IntSyntax) × NamesTable tables table t
    × SaysFootprintInt tables scope key k × (e ≡ row_entry right t k)
SaysEntryForm tables scope (rows_parts right table low high) e =
    (t : ℕ) × (l : IntSyntax) × (h : IntSyntax) × NamesTable tables table t × SaysFootprintInt tables scope low l
    × SaysFootprintInt tables scope high h × (e ≡ rows_entry right t l h)
SaysEntryForm tables scope (part_parts right table part) e = (t : ℕ) × (p : IntSyntax) × NamesTable tables table t
    × SaysFootprintInt tables scope part p × (e ≡ part_entry right t p)
SaysEntryForm tables scope (table_parts right table) e = (t : ℕ) × NamesTable tables table t × (e ≡ table_entry right t)
SaysEntryForm tables scope (db_parts right) e = e ≡ db_entry right

-- a document says an entry of a footprint
abbrev pub SaysEntry : List TableShape → List Seen → Data → EntrySyntax → Type 0
SaysEntry tables scope d e = (form : EntryDocument) × SpellsEntry d form × SaysEntryForm tables scope form e

-- ["declared", ENTRY ..], or ["recon"]
abbrev pub SaysFootprint : List TableShape → List Seen → Data → FootprintSyntax → Type 0
SaysFootprint tables scope d (declared_by es) =
    (ds : List Data) × (d ≡ words (codes "declared") ds) × (length ds ≤ 256) × Says (SaysEntry tables scope) ds es
SaysFootprint tables scope d found_by_recon = d ≡ words (codes "recon") []

-- parameters are seen in the whole footprint and the whole body
pub record SaysProc (tables : List TableShape) (d : Data) (p : ProcSyntax) : Type 0 where
  pub form : ProcDocument
  pub is_form : SpellsProc d form
  pub name : form.name ≡ p.name
  pub params : SaysParams form.params p.params
  pub footprint : SaysFootprint tables (seen_of p.params) form.footprint p.footprint
  pub body : SaysBlock tables deepest (seen_of p.params) form.body p.body

-- rule: procedure.form
-- ["procs", 1, [PROC ..]]
pub record SaysProcs (tables : List TableShape) (d : Data) (ps : List ProcSyntax) : Type 0 where
  pub version : Data
  pub list : List Data
  pub is_form : d ≡ array (items_of (string (codes "procs") ∷ version ∷ array (items_of list) ∷ []))
  pub is_version : integer version ≡ Some (pos 1)
  pub few : length list ≤ 256
  pub are : Says (SaysProc tables) list ps
  pub names : AreNames (map (λ p. p.name) ps)

-- over given tables, a document says one list of procedures, and no other
abbrev pub OneListOfProceduresIsSaid : Type 0
OneListOfProceduresIsSaid = (tables : List TableShape) (d : Data) (ps qs : List ProcSyntax) → SaysProcs tables d ps
    → SaysProcs tables d qs → ps ≡ qs
