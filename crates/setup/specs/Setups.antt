-- Claimed: what contracts promise to a reader rests on these words.
-- What a setup document says, with the first fault from left to right.
use Rattle.std.specs.Prelude.{ℕ, ℤ, pos, negsuc, Bool, false, nat_le, ◌==◌, List, [], ◌∷◌, map, ◌&&◌, codes, Option, Some, None, option_and_then, Result, Ok, Err, if◌then◌else◌}
use Rattle.std.specs.Option.{option_or}
use Rattle.std.specs.Str.{bytes_eq, is_utf8}
use Rattle.serde_json.specs.Data.{Data}
use Rattle.serde_json.specs.Find.{as_str}
use Rattle.serde_json.specs.Read.{read}
use Rattle.serde_json.specs.View.{view}
use Rattle.documents.specs.Json.{elements, five, six, integer, is_one}
use Rattle.documents.specs.Reading.{◌>>=◌, formed}
use Rattle.catalogue.specs.Shapes.{TableShape}
use Rattle.catalogue.specs.Reading.{catalogue_at}
use Rattle.proclang_types.specs.Syntax.{ProcSyntax}
use Rattle.proclang_types.specs.Procedures.{proc_syntax}
use Rattle.proclang.specs.Procs.{procs_at}
use Rattle.setup.specs.declared.fault.SetupFault.{SetupFault}
use Rattle.setup.specs.declared.fault.SetupFault.TheVariants.{NotJson, Shape, Catalogue, Procedure}
use Rattle.row_text.specs.declared.form.DigestForm.{DigestForm}
use Rattle.row_text.specs.declared.form.DigestForm.TheVariants.{Rows, Partitions}
use Rattle.setup.specs.declared.form.Parts.{Parts}
use Rattle.setup.specs.declared.document.SetupDocument.{SetupDocument}
use Rattle.setup.specs.Rows.{RowAt, rows_at}

-- the parts of a setup document
pub record SetupParts : Type 0 where
  pub catalogue : Data
  pub procs : Data
  pub rows : Data
  pub retries : ℕ
  pub digest : DigestForm

-- what the parts of a setup document mean, as the code has them
abbrev pub parts_view : Parts → SetupParts
parts_view parts = record {
  catalogue = view parts.catalogue.now;
  procs = view parts.procs.now;
  rows = view parts.rows.now;
  retries = parts.retries;
  digest = parts.digest;
}

-- what comes after the head word and the version 1: nothing is tried again, and digests are of row texts
abbrev pub first_parts : Data × Data × Data × Data × Data → Option SetupParts
first_parts p =
    option_and_then (λ (word : List ℕ).
    option_and_then (λ (version : ℤ).
    if bytes_eq word (codes "setup") && is_one version
    then Some (record { catalogue = p.2; procs = p.3; rows = p.4; retries = 0; digest = Rows })
    else None)
    (integer p.1))
    (as_str p.0)

abbrev pub is_two : ℤ → Bool
is_two (pos n) = n == 2
is_two (negsuc n) = false

abbrev pub is_three : ℤ → Bool
is_three (pos n) = n == 3
is_three (negsuc n) = false

-- rule: setup.retries
-- how often a stale request is tried again: 0 to 2
abbrev pub retries_of : ℤ → Option ℕ
retries_of (pos n) = if nat_le n 2 then Some n else None
retries_of (negsuc n) = None

-- what comes after the head word and the version 2: digests are of row texts
abbrev pub second_parts : Data × Data × Data × Data × Data × Data → Option SetupParts
second_parts p =
    option_and_then (λ (word : List ℕ).
    option_and_then (λ (version : ℤ).
    option_and_then (λ (number : ℤ).
    option_and_then (λ (retries : ℕ).
    if bytes_eq word (codes "setup") && is_two version
    then Some (record { catalogue = p.2; procs = p.3; rows = p.4; retries = retries; digest = Rows }) else None)
    (retries_of number))
    (integer p.5))
    (integer p.1))
    (as_str p.0)

abbrev pub seven : List Data → Option (Data × Data × Data × Data × Data × Data × Data)
seven (a ∷ b ∷ c ∷ d ∷ e ∷ f ∷ g ∷ []) = Some (a, b, c, d, e, f, g)
seven ds = None

-- rule: setup.digest
-- the text of which the digests of rows are, by its name
abbrev pub form_named : List ℕ → Option DigestForm
form_named name =
    if bytes_eq name (codes "rows") then Some Rows
    else if bytes_eq name (codes "partitions") then Some Partitions
    else None

-- what comes after the head word and the version 3
abbrev pub third_parts : Data × Data × Data × Data × Data × Data × Data → Option SetupParts
third_parts p =
    option_and_then (λ (word : List ℕ).
    option_and_then (λ (version : ℤ).
    option_and_then (λ (number : ℤ).
    option_and_then (λ (retries : ℕ).
    option_and_then (λ (name : List ℕ).
    option_and_then (λ (digest : DigestForm).
    if bytes_eq word (codes "setup") && is_three version
    then Some (record { catalogue = p.2; procs = p.3; rows = p.4; retries = retries; digest = digest }) else None)
    (form_named name))
    (as_str p.6))
    (retries_of number))
    (integer p.5))
    (integer p.1))
    (as_str p.0)

-- rule: setup.form
-- version 1 is of five elements, version 2 of six, and version 3 of seven
unfoldable pub setup_form : Data → Option SetupParts
setup_form d =
    option_or (option_and_then first_parts (option_and_then five (elements d)))
    (option_or (option_and_then second_parts (option_and_then six (elements d)))
    (option_and_then third_parts (option_and_then seven (elements d))))

-- a fault of a part is one of the setup
abbrev pub part : {A E : Type 0} → (E → SetupFault) → Result A E → Result A SetupFault
part fault (Ok x) = Ok x
part fault (Err e) = Err (fault e)

-- tables, procedures over them, starting rows, how often a stale request is tried again, and of which text of the rows
-- digests are
pub record SetupShape : Type 0 where
  pub tables : List TableShape
  pub procs : List ProcSyntax
  pub rows : List RowAt
  pub retries : ℕ
  pub digest : DigestForm

-- a setup read from left to right, or its first fault
unfoldable pub setup_at : Data → Result SetupShape SetupFault
setup_at d = do
  form ← formed Shape (setup_form d)
  tables ← part Catalogue (catalogue_at form.catalogue)
  procs ← part Procedure (procs_at tables form.procs)
  rows ← rows_at tables form.rows
  Ok (record { tables = tables; procs = procs; rows = rows; retries = form.retries; digest = form.digest })

-- the document that a text is, where it is UTF-8 and JSON
unfoldable pub json_said : List ℕ → Option Data
json_said text = if is_utf8 text then read text else None

-- the setup that a text says, or its first fault
unfoldable pub setup_said : List ℕ → Result SetupShape SetupFault
setup_said text = formed NotJson (json_said text) >>= setup_at

-- what a setup document of the code means
abbrev pub setup_view : SetupDocument → SetupShape
setup_view document = record {
  tables = document.setup.catalogue;
  procs = map proc_syntax document.setup.procs.procs;
  rows = document.setup.rows.items;
  retries = document.setup.retries;
  digest = document.digest;
}
