-- Claimed: what contracts promise to a reader rests on these words.
-- One level of a procedure, and of an entry of its footprint, before their parts are read.
use Rattle.std.specs.Prelude.{ℕ, List, [], ◌∷◌, map, Option, Some, None, option_map, option_and_then, if◌then◌else◌, codes}
use Rattle.std.specs.Str.{bytes_eq}
use Rattle.serde_json.specs.Data.{Data}
use Rattle.serde_json.specs.Find.{as_str}
use Rattle.serde_json.specs.View.{view}
use Rattle.documents.specs.Json.{elements, four}
use Rattle.proclang_types.specs.declared.right.Right.{Right}
use Rattle.proclang_types.specs.declared.right.Right.TheVariants.{Read, Write}
use Rattle.proclang_forms.specs.declared.proc_forms.ProcForm.{ProcForm}
use Rattle.proclang_forms.specs.declared.proc_forms.FootprintForm.{FootprintForm}
use Rattle.proclang_forms.specs.declared.proc_forms.FootprintForm.TheVariants as footprints
use Rattle.proclang_forms.specs.declared.proc_forms.EntryForm.{EntryForm}
use Rattle.proclang_forms.specs.declared.proc_forms.EntryForm.TheVariants as forms

-- the parts of a procedure, not read yet
pub record ProcDocument : Type 0 where
  pub name : List ℕ
  pub params : List Data
  pub footprint : Data
  pub body : Data

abbrev pub proc_parts_of : ProcForm → ProcDocument
proc_parts_of p = record {
  name = p.name.now;
  params = map view p.params.now;
  footprint = view p.footprint.now;
  body = view p.body.now;
}

-- a name, parameters, a footprint, and a block
unfoldable pub proc_form : Data → Option ProcDocument
proc_form d =
    option_and_then (λ (p : Data × Data × Data × Data).
    option_and_then (λ (name : List ℕ).
    option_map (λ (params : List Data). record { name = name; params = params; footprint = p.2; body = p.3 })
    (elements p.1))
    (as_str p.0))
    (option_and_then four (elements d))

-- ---- footprints

-- the parts of a footprint, not read yet
pub data FootprintDocument : Type 0 where
  -- entries
  declared_parts : List Data → FootprintDocument
  recon_parts : FootprintDocument

abbrev pub footprint_form_view : FootprintForm → FootprintDocument
footprint_form_view (footprints.Declared entries) = declared_parts (map view entries.now)
footprint_form_view footprints.Recon = recon_parts

unfoldable pub recon_form : List Data → Option FootprintDocument
recon_form [] = Some recon_parts
recon_form (d ∷ ds) = None

-- what comes after a head word
unfoldable pub footprint_word : List ℕ → List Data → Option FootprintDocument
footprint_word word parts =
    if bytes_eq word (codes "declared") then Some (declared_parts parts) else
    (if bytes_eq word (codes "recon") then recon_form parts else None)

abbrev pub footprint_words : List Data → Option FootprintDocument
footprint_words [] = None
footprint_words (head ∷ parts) = option_and_then (λ word. footprint_word word parts) (as_str head)

-- the form of a footprint: its entries, or that reconnaissance finds it
unfoldable pub footprint_form : Data → Option FootprintDocument
footprint_form d = option_and_then footprint_words (elements d)

-- the parts of an entry of a footprint, not read yet
pub data EntryDocument : Type 0 where
  -- right, table, KEY
  row_parts : Right → List ℕ → Data → EntryDocument
  -- right, table, LOW, HIGH
  rows_parts : Right → List ℕ → Data → Data → EntryDocument
  -- right, table, PART
  part_parts : Right → List ℕ → Data → EntryDocument
  table_parts : Right → List ℕ → EntryDocument
  db_parts : Right → EntryDocument

abbrev pub entry_form_view : EntryForm → EntryDocument
entry_form_view (forms.Row right table key) = row_parts right table.now (view key.now)
entry_form_view (forms.Rows right table low high) = rows_parts right table.now (view low.now) (view high.now)
entry_form_view (forms.Part right table part) = part_parts right table.now (view part.now)
entry_form_view (forms.Table right table) = table_parts right table.now
entry_form_view (forms.Db right) = db_parts right

-- the right that a word means
abbrev pub right_of : List ℕ → Option Right
right_of word =
    if bytes_eq word (codes "r") then Some Read else
    (if bytes_eq word (codes "w") then Some Write else None)

unfoldable pub row_form : List Data → Option EntryDocument
row_form (right ∷ table ∷ key ∷ []) =
    option_and_then (λ (r : Right).
    option_map (λ (t : List ℕ). row_parts r t key) (as_str table))
    (option_and_then right_of (as_str right))
row_form parts = None

unfoldable pub rows_form : List Data → Option EntryDocument
rows_form (right ∷ table ∷ low ∷ high ∷ []) =
    option_and_then (λ (r : Right).
    option_map (λ (t : List ℕ). rows_parts r t low high) (as_str table))
    (option_and_then right_of (as_str right))
rows_form parts = None

unfoldable pub part_form : List Data → Option EntryDocument
part_form (right ∷ table ∷ part ∷ []) =
    option_and_then (λ (r : Right).
    option_map (λ (t : List ℕ). part_parts r t part) (as_str table))
    (option_and_then right_of (as_str right))
part_form parts = None

unfoldable pub whole_table_form : List Data → Option EntryDocument
whole_table_form (right ∷ table ∷ []) =
    option_and_then (λ (r : Right).
    option_map (λ (t : List ℕ). table_parts r t) (as_str table))
    (option_and_then right_of (as_str right))
whole_table_form parts = None

unfoldable pub db_form : List Data → Option EntryDocument
db_form (right ∷ []) = option_map db_parts (option_and_then right_of (as_str right))
db_form parts = None

-- what comes after a head word
unfoldable pub entry_word : List ℕ → List Data → Option EntryDocument
entry_word word parts =
    if bytes_eq word (codes "row") then row_form parts else
    (if bytes_eq word (codes "rows") then rows_form parts else
    (if bytes_eq word (codes "part") then part_form parts else
    (if bytes_eq word (codes "table") then whole_table_form parts else
    (if bytes_eq word (codes "db") then db_form parts else None))))

abbrev pub entry_words : List Data → Option EntryDocument
entry_words [] = None
entry_words (head ∷ parts) = option_and_then (λ word. entry_word word parts) (as_str head)

-- the form of an entry of a footprint, whose expressions read no rows
unfoldable pub entry_form : Data → Option EntryDocument
entry_form d = option_and_then entry_words (elements d)
