-- What a setup that texts say has: rows of its tables, and procedures that fit them and store values.
use Rattle.std.proofs.Common.{inl, inr, ℕ, zero, suc, List, [], ◌∷◌, slice_set, sym, subst}
use Rattle.std.specs.List.{AllByRecursion}
use Rattle.std.specs.FinMap.{empty}
use Rattle.serde_json.specs.Data.{Data, null, boolean, number, string, array, object, Items, no_items, item}
use Rattle.serde_json.specs.View.{items_of}
use Rattle.documents.specs.Json.{list_of}
use Rattle.catalogue.specs.Rules.{IsCatalogue}
use Rattle.proclang_types.specs.Syntax.{ProcSyntax, block_of}
use Rattle.proclang_types.specs.Typing.{ProcFits}
use Rattle.shelves.specs.Rows.{with_rows}
use Rattle.setup.specs.Says.{IsJson, SaysDocument, SpellsSetup}
use Rattle.setup.specs.Setups.{SetupParts, SetupShape}
use Rattle.setup.specs.WithRows.{with_rows_document}
use Rattle.running.specs.Starts.{Start}
use Rattle.rows_document.specs.Said.{AreRowsIn}
use Rattle.moved_rows.specs.Starts.{IsSaidSetup, IsStartOf}
use Rattle.moved_rows.specs.Stored.{AllStoreValues}
use Rattle.moved_rows.proofs.Calls.{IsSaidProc, said_procs}
use Rattle.moved_rows.proofs.Fits.{procs_fit}
use Rattle.moved_rows.proofs.JsonData.{IsSound, AreSound, read_sound}
use Rattle.moved_rows.proofs.Rows.{said_rows}
use Rattle.moved_rows.proofs.Stores.{procs_store}

-- ---- documents with other rows

listed : (ds : Items) → AreSound ds → AllByRecursion IsSound (list_of ds)
listed no_items h = tt
listed (item d ds) h = (h.0, listed ds h.1)

again : (ds : List Data) → AllByRecursion IsSound ds → AreSound (items_of ds)
again [] h = tt
again (d ∷ ds) h = (h.0, again ds h.1)

set_sound : (ds : List Data) (place : ℕ) (d : Data) → AllByRecursion IsSound ds → IsSound d → AllByRecursion IsSound (slice_set ds place d)
set_sound [] place d h k = tt
set_sound (x ∷ xs) zero d h k = (k, h.1)
set_sound (x ∷ xs) (suc place) d h k = (h.0, set_sound xs place d h.1 k)

with_sound : (d rows : Data) → IsSound d → IsSound rows → IsSound (with_rows_document d rows)
with_sound (array ds) rows h k = again (slice_set (list_of ds) 4 rows) (set_sound (list_of ds) 4 rows (listed ds h) k)
with_sound null rows h k = h
with_sound (boolean b) rows h k = h
with_sound (number n) rows h k = h
with_sound (string s) rows h k = h
with_sound (object ms) rows h k = h

-- ---- the parts of a setup

parts_sound : (d : Data) (form : SetupParts) → IsSound d → SpellsSetup d form → IsSound form.procs × IsSound form.rows
parts_sound d form sound (inl h) = let parts = subst IsSound h.is_form sound in (parts.1.1.1.0, parts.1.1.1.1.0)
parts_sound d form sound (inr (inl h)) = let parts = subst IsSound h.is_form sound in (parts.1.1.1.0, parts.1.1.1.1.0)
parts_sound d form sound (inr (inr h)) = let parts = subst IsSound h.is_form sound in (parts.1.1.1.0, parts.1.1.1.1.0)

json_sound : (text : List ℕ) (d : Data) → IsJson text d → IsSound d
json_sound text d h = read_sound text d h.utf8 h.json

-- what a setup says of its rows and of its procedures
pub record HasParts (s : SetupShape) : Type 0 where
  pub catalogue : IsCatalogue s.tables
  pub rows : AreRowsIn s.tables (with_rows empty s.rows)
  pub fit : AllByRecursion (ProcFits s.tables) s.procs
  pub store : AllByRecursion (λ (p : ProcSyntax). AllStoreValues (block_of p.body)) s.procs

document_parts : (d : Data) (s : SetupShape) → IsSound d → SaysDocument d s → HasParts s
document_parts d s sound h =
    let parts = parts_sound d h.form sound h.is_form in
    record {
      catalogue = h.is_catalogue;
      rows = said_rows s.tables h.form.rows s.rows parts.1 h.rows;
      fit = procs_fit s.tables h.form.procs s.procs h.procs;
      store = procs_store s.tables h.form.procs s.procs parts.0 h.procs;
    }

pub setup_parts : (text : List ℕ) (s : SetupShape) → IsSaidSetup text s → HasParts s
setup_parts text s (inl h) = document_parts h.0 s (json_sound text h.0 h.1) h.2
setup_parts text s (inr h) =
    document_parts (with_rows_document h.1.setup h.1.starting) s (with_sound h.1.setup h.1.starting (json_sound text h.1.setup h.1.is_setup) (json_sound h.0 h.1.starting h.1.is_rows)) h.1.says

both_all : {A : Type 0} (P Q : A → Type 0) (xs : List A) → AllByRecursion P xs → AllByRecursion Q xs → AllByRecursion (λ x. P x × Q x) xs
both_all P Q [] h k = tt
both_all P Q (x ∷ xs) h k = ((h.0, k.0), both_all P Q xs h.1 k.1)

pub setup_procedures : (text : List ℕ) (s : SetupShape) → IsSaidSetup text s → AllByRecursion (λ (p : ProcSyntax). ProcFits s.tables p × AllStoreValues (block_of p.body)) s.procs
setup_procedures text s said = let parts = setup_parts text s said in both_all (ProcFits s.tables) (λ p. AllStoreValues (block_of p.body)) s.procs parts.fit parts.store

-- the procedures of a start
pub start_procs : (text : List ℕ) (s : SetupShape) (start : Start) → IsSaidSetup text s → IsStartOf s start → AllByRecursion (IsSaidProc s.tables) start.procs.procs
start_procs text s start said of =
    let parts = setup_parts text s said in
    said_procs s.tables start.procs.procs of.over (subst (AllByRecursion (ProcFits s.tables)) (sym of.procs) parts.fit)
    (subst (AllByRecursion (λ (p : ProcSyntax). AllStoreValues (block_of p.body))) (sym of.procs) parts.store)
