-- Setups whose rows are read from tokens.
use Rattle.std.proofs.Common.{◌≡◌, inl, inr, ℕ, List, [], ◌∷◌, ◌++◌, map, Some, Vec, Global, sym, ap, ◌∙◌, subst, append_assoc}
use Rattle.std.proofs.lemmas.List.{map-append}
use Rattle.json.specs.Token.{Token}
use Rattle.json.specs.Lex.{tokens}
use Rattle.serde_json.specs.Data.{Data, array}
use Rattle.serde_json.specs.Read.{read}
use Rattle.serde_json.specs.View.{items_of, view}
use Rattle.serde_json.specs.declared.value.Value.{Value, Array}
use Rattle.serde_json.proofs.Views.{view-Array}
use Rattle.documents.proofs.Json.{list_of-items_of}
use Rattle.value_tokens.specs.Documents.{AreDocuments, IsDocument}
use Rattle.value_tokens.proofs.Documents.{array_is_document, text_read}
use Rattle.setup.specs.Says.{SpellsSetup}
use Rattle.setup.specs.Setups.{SetupParts, setup_form}
use Rattle.setup.specs.WithRows.{with_rows_document}
use Rattle.setup.proofs.SaidSetups.{form_again, form_said}
use Rattle.setup.proofs.SaidWithRows.{spells_with_rows, with_parts}

-- the tokens of a setup's text, by those of its elements
pub setup_is_read : (text : List ℕ) (word version tables procs rows : Data) (more : List Data) (t0 t1 t2 t3 t4 t5 : List Token)
    → tokens text ≡ Token.begin_array ∷ t0 → IsDocument 126 t0 word t1 → IsDocument 126 t1 version t2 → IsDocument 126 t2 tables t3 → IsDocument 126 t3 procs t4 → IsDocument 126 t4 rows t5
    → AreDocuments 126 t5 more (Token.end_array ∷ []) → read text ≡ Some (array (items_of (word ∷ version ∷ tables ∷ procs ∷ rows ∷ more)))
setup_is_read text word version tables procs rows more t0 t1 t2 t3 t4 t5 opened a b c d e f =
    let parts : List Data = word ∷ version ∷ tables ∷ procs ∷ rows ∷ more in
    let are : AreDocuments 126 t0 parts (Token.end_array ∷ []) = (t1, a, (t2, b, (t3, c, (t4, d, (t5, e, f))))) in
    text_read text (array (items_of parts)) (subst (λ ts. IsDocument 127 ts (array (items_of parts)) []) (sym opened) (array_is_document 126 t0 parts [] are))

-- rows in the place of another document
pub rows_put : (v : Vec Value Global) (word version tables procs other rows : Data) (more : List Data) → map view v.items ≡ (word ∷ version ∷ tables ∷ procs ∷ other ∷ []) ++ more
    → with_rows_document (view (Array v)) rows ≡ array (items_of (word ∷ version ∷ tables ∷ procs ∷ rows ∷ more))
rows_put v word version tables procs other rows more e =
    ap (λ (d : Data). with_rows_document d rows) (view-Array v ∙ ap (λ (ds : List Data). array (items_of ds)) e)
    ∙ ap (λ (ds : List Data). array (items_of (word ∷ version ∷ tables ∷ procs ∷ rows ∷ ds))) (list_of-items_of more)

-- the third and the fourth element of a setup's document
pub record HasParts (form : SetupParts) (tables procs : Data) : Type 0 where
  pub is_catalogue : form.catalogue ≡ tables
  pub are_procs : form.procs ≡ procs

spelled_parts : (word version tables procs rows : Data) (more : List Data) (form : SetupParts) → SpellsSetup (array (items_of (word ∷ version ∷ tables ∷ procs ∷ rows ∷ more))) form → HasParts form tables procs
spelled_parts word version tables procs rows more form (inl h) = let e = h.is_form in record { is_catalogue = cc; are_procs = cc }
spelled_parts word version tables procs rows more form (inr (inl h)) = let e = h.is_form in record { is_catalogue = cc; are_procs = cc }
spelled_parts word version tables procs rows more form (inr (inr h)) = let e = h.is_form in record { is_catalogue = cc; are_procs = cc }

pub parts_are : (word version tables procs rows : Data) (more : List Data) (form : SetupParts) → setup_form (array (items_of (word ∷ version ∷ tables ∷ procs ∷ rows ∷ more))) ≡ Some form → HasParts form tables procs
parts_are word version tables procs rows more form e = spelled_parts word version tables procs rows more form (form_said (array (items_of (word ∷ version ∷ tables ∷ procs ∷ rows ∷ more))) form e)

-- the form of a document with other rows
pub form_with_rows : (d rows : Data) (form : SetupParts) → setup_form d ≡ Some form → setup_form (with_rows_document d rows) ≡ Some (with_parts form rows)
form_with_rows d rows form e = form_again (with_rows_document d rows) (with_parts form rows) (spells_with_rows d rows form (form_said d form e))

pub documents_pushed : (first all : List Value) (one : Value) (taken : List Data) → map view all ≡ map view first ++ taken → map view (all ++ one ∷ []) ≡ map view first ++ (taken ++ view one ∷ [])
documents_pushed first all one taken e =
    map-append view all (one ∷ []) ∙ ap (λ (ds : List Data). ds ++ view one ∷ []) e ∙ append_assoc (map view first) taken (view one ∷ [])
