-- What a setup's text and a rows' text say together, and where they break a rule first, from what is read of each.
use Rattle.std.proofs.Common.{◌≡◌, inl, inr, ℕ, Bool, true, false, List, map, set, Option, Some, None, Result, Ok, Err, Vec, Global, refl, sym, ap, ◌∙◌, subst, set-set}
use Rattle.std.specs.Prelude.{IfSome}
use Rattle.std.specs.Result.{IsErrAnd}
use Rattle.std.specs.Str.{IsUtf8, is_utf8}
use Rattle.std.proofs.lemmas.Str.{IsUtf8-from_is_utf8, is_utf8-from_IsUtf8}
use Rattle.serde_json.specs.Data.{Data, null, boolean, number, string, array, object}
use Rattle.serde_json.specs.Read.{read}
use Rattle.serde_json.specs.View.{view, items_of}
use Rattle.serde_json.specs.declared.value.Value.{Value, Array}
use Rattle.serde_json.proofs.Views.{view-Array}
use Rattle.documents.specs.Json.{list_of}
use Rattle.documents.proofs.Json.{list_of-items_of}
use Rattle.setup.specs.declared.fault.SetupFault.{SetupFault}
use Rattle.setup.specs.declared.fault.SetupFault.TheVariants.{NotJson}
use Rattle.setup.specs.declared.document.SetupDocument.{SetupDocument}
use Rattle.setup.specs.Faults.{is_memory}
use Rattle.setup.specs.FirstFault.{InDocument, BreaksFirst}
use Rattle.setup.specs.Readings.{IsReading}
use Rattle.setup.specs.Rows.{RowAt}
use Rattle.setup.specs.Says.{IsJson, IsNotJson, SaysDocument, SaysRows, SaysSetup, SpellsSetup}
use Rattle.setup.specs.Setups.{SetupParts, SetupShape, json_said, setup_at, setup_said}
use Rattle.setup.specs.WithRows.{with_rows_document, setup_with_rows_said, SaysSetupWithRows, BreaksFirstWithRows}
use Rattle.setup.specs.Tokens.{IsReadByTokens}
use Rattle.setup.proofs.Readings.{IsReading-as, IsReading-fault}

-- ---- the document of a text

pub not_utf8 : (text : List ℕ) → (IsUtf8 text → ⊥) → IsNotJson text
not_utf8 text never = inl (by (is_utf8 text) refl)
  where
    by : (b : Bool) → is_utf8 text ≡ b → is_utf8 text ≡ false
    by false e = e
    by true e = absurd (never (IsUtf8-from_is_utf8 text e))

pub is_json : (text bytes : List ℕ) (d : Data) → bytes ≡ text → IsUtf8 text → read bytes ≡ Some d → IsJson text d
is_json text bytes d same utf8 e = record { utf8 = is_utf8-from_IsUtf8 text utf8; json = ap read (sym same) ∙ e }

one_document : (text : List ℕ) (d e : Data) → IsJson text d → IsJson text e → d ≡ e
one_document text d e h k = is d e (sym h.json ∙ k.json)
  where
    is : (x y : Data) → Some x ≡ Some y → x ≡ y
    is x y q = cc

not_both : {B : Type 0} (text : List ℕ) (d : Data) → IsNotJson text → IsJson text d → B
not_both text d (inl e) h = absurd (let g = sym h.utf8 ∙ e in cc)
not_both text d (inr e) h = absurd (let g = sym h.json ∙ e in cc)

json_is : (text : List ℕ) (d : Data) → IsJson text d → json_said text ≡ Some d
unfolding json_said
json_is text d h = rw (h.utf8, h.json) refl

no_json : (text : List ℕ) → IsNotJson text → json_said text ≡ None
unfolding json_said
no_json text (inl e) = rw e refl
no_json text (inr e) = by (is_utf8 text) refl
  where
    by : (b : Bool) → is_utf8 text ≡ b → json_said text ≡ None
    by true p = rw (p, e) refl
    by false p = rw p refl

text_said : (text : List ℕ) (d : Data) → IsJson text d → setup_said text ≡ setup_at d
unfolding setup_said
text_said text d h = rw (json_is text d h) refl

no_text_said : (text : List ℕ) → IsNotJson text → setup_said text ≡ Err NotJson
unfolding setup_said
no_text_said text h = rw (no_json text h) refl

-- what is known of a text that was refused
abbrev pub IsRefused : List ℕ → SetupFault → Type 0
IsRefused text fault = is_memory fault ≡ false → (fault ≡ NotJson) × IsNotJson text

-- ---- a setup's text

-- what is read of the document is what is read of the text
pub text_read : (text : List ℕ) (d : Data) → IsJson text d → (r : Result SetupDocument SetupFault) → IsReading (SaysDocument d) (InDocument d) (setup_at d) r → IsReading (SaysSetup text) (BreaksFirst text) (setup_said text) r
text_read text d json r = IsReading-as (SaysDocument d) (SaysSetup text) (InDocument d) (BreaksFirst text) (setup_at d) (setup_said text) r
    (λ s says. (d, json, says)) (λ s says. subst (λ (e : Data). SaysDocument e s) (one_document text says.0 d says.1 json) says.2)
    (λ fault there. inr (d, json, there)) breaks_in (text_said text d json)
  where
    breaks_in : (fault : SetupFault) → BreaksFirst text fault → InDocument d fault
    breaks_in fault (inl (is, not)) = not_both text d not json
    breaks_in fault (inr (e, other, there)) = subst (λ (x : Data). InDocument x fault) (one_document text e d other json) there

-- what is read of the tokens of a text
pub tokens_read : (text bytes : List ℕ) (o : Option SetupDocument) → bytes ≡ text → IsUtf8 text → IfSome o (IsReadByTokens bytes) → IfSome o (λ s. IsReading (SaysSetup text) (BreaksFirst text) (setup_said text) (Ok s))
tokens_read text bytes None same utf8 h = tt
tokens_read text bytes (Some s) same utf8 h = text_read text h.0 (is_json text bytes h.0 same utf8 h.1) (Ok s) h.2

pub text_refused : (text : List ℕ) (fault : SetupFault) → IsRefused text fault → IsReading (SaysSetup text) (BreaksFirst text) (setup_said text) (Err fault)
text_refused text fault refused = IsReading-fault (SaysSetup text) (BreaksFirst text) (setup_said text) (Err fault) fault refl
    (λ s says known. not_both text says.0 (refused known).1 says.1) (λ known. inl (refused known))
    (λ known. no_text_said text (refused known).1 ∙ ap (λ (f : SetupFault). Err f) (sym (refused known).0))

-- ---- a setup's text and a rows' text

both_said : (text rows : List ℕ) (d e : Data) → IsJson text d → IsJson rows e → setup_with_rows_said text rows ≡ setup_at (with_rows_document d e)
unfolding setup_with_rows_said
both_said text rows d e h k = rw (json_is text d h, json_is rows e k) refl

first_not_said : (text rows : List ℕ) → IsNotJson text → setup_with_rows_said text rows ≡ Err NotJson
unfolding setup_with_rows_said
first_not_said text rows h = rw (no_json text h) refl

second_not_said : (text rows : List ℕ) (d : Data) → IsJson text d → IsNotJson rows → setup_with_rows_said text rows ≡ Err NotJson
unfolding setup_with_rows_said
second_not_said text rows d h k = rw (json_is text d h, no_json rows k) refl

same_document : (text rows : List ℕ) (d e x y : Data) → IsJson text d → IsJson rows e → IsJson text x → IsJson rows y → with_rows_document x y ≡ with_rows_document d e
same_document text rows d e x y h k i j = rw (one_document text x d i h, one_document rows y e j k) refl

module _ (text rows : List ℕ) (r : Result SetupDocument SetupFault) where
  -- what comes of reading both texts
  abbrev ReadsBoth : Type 0
  ReadsBoth = IsReading (SaysSetupWithRows text rows) (BreaksFirstWithRows text rows) (setup_with_rows_said text rows) r

  pub both_read : (d e : Data) → IsJson text d → IsJson rows e → IsReading (SaysDocument (with_rows_document d e)) (InDocument (with_rows_document d e)) (setup_at (with_rows_document d e)) r → ReadsBoth
  both_read d e json starting = IsReading-as (SaysDocument document) (SaysSetupWithRows text rows) (InDocument document) (BreaksFirstWithRows text rows) (setup_at document) (setup_with_rows_said text rows) r
      (λ s says. record { setup = d; is_setup = json; starting = e; is_rows = starting; says = says })
      (λ s h. subst (λ (x : Data). SaysDocument x s) (same_document text rows d e h.setup h.starting json starting h.is_setup h.is_rows) h.says)
      (λ fault there. inr (record { setup = d; is_setup = json; starting = e; is_rows = starting; is_first = there })) breaks_in (both_said text rows d e json starting)
    where
      document : Data
      document = with_rows_document d e

      breaks_in : (fault : SetupFault) → BreaksFirstWithRows text rows fault → InDocument document fault
      breaks_in fault (inl (is, inl not)) = not_both text d not json
      breaks_in fault (inl (is, inr not)) = not_both rows e not starting
      breaks_in fault (inr h) = subst (λ (x : Data). InDocument x fault) (same_document text rows d e h.setup h.starting json starting h.is_setup h.is_rows) h.is_first

  pub first_refused : (fault : SetupFault) → IsErrAnd r (λ x. x ≡ fault) → IsRefused text fault → ReadsBoth
  first_refused fault is refused = IsReading-fault (SaysSetupWithRows text rows) (BreaksFirstWithRows text rows) (setup_with_rows_said text rows) r fault is
      (λ s says known. not_both text says.setup (refused known).1 says.is_setup) (λ known. inl ((refused known).0, inl (refused known).1))
      (λ known. first_not_said text rows (refused known).1 ∙ ap (λ (f : SetupFault). Err f) (sym (refused known).0))

  pub second_refused : (d : Data) (fault : SetupFault) → IsErrAnd r (λ x. x ≡ fault) → IsJson text d → IsRefused rows fault → ReadsBoth
  second_refused d fault is json refused = IsReading-fault (SaysSetupWithRows text rows) (BreaksFirstWithRows text rows) (setup_with_rows_said text rows) r fault is
      (λ s says known. not_both rows says.starting (refused known).1 says.is_rows) (λ known. inl ((refused known).0, inr (refused known).1))
      (λ known. second_not_said text rows d json (refused known).1 ∙ ap (λ (f : SetupFault). Err f) (sym (refused known).0))

-- ---- the document with other rows

pub rows_replaced : (v w : Vec Value Global) (rows : Value) → map view w.items ≡ set (map view v.items) 4 (view rows) → view (Array w) ≡ with_rows_document (view (Array v)) (view rows)
rows_replaced v w rows e =
    view-Array w ∙ ap (λ (ds : List Data). array (items_of ds)) (e ∙ ap (λ (ds : List Data). set ds 4 (view rows)) (sym (list_of-items_of (map view v.items))))
    ∙ ap (λ (d : Data). with_rows_document d (view rows)) (sym (view-Array v))

abbrev pub with_parts : SetupParts → Data → SetupParts
with_parts form rows = record form { rows = rows }

pub spells_with_rows : (d rows : Data) (form : SetupParts) → SpellsSetup d form → SpellsSetup (with_rows_document d rows) (with_parts form rows)
spells_with_rows d rows form (inl h) =
    inl (record { version = h.version; is_form = ap (λ (x : Data). with_rows_document x rows) h.is_form; is_version = h.is_version; none = h.none; of_rows = h.of_rows })
spells_with_rows d rows form (inr (inl h)) = inr (inl (record {
  version = h.version;
  number = h.number;
  is_form = ap (λ (x : Data). with_rows_document x rows) h.is_form;
  is_version = h.is_version;
  is_number = h.is_number;
  few = h.few;
  of_rows = h.of_rows;
}))
spells_with_rows d rows form (inr (inr h)) = inr (inr (record {
  version = h.version;
  number = h.number;
  is_form = ap (λ (x : Data). with_rows_document x rows) h.is_form;
  is_version = h.is_version;
  is_number = h.is_number;
  few = h.few;
}))

-- a setup's document says with other rows what it said, and those rows
pub says_with_rows : (d starting : Data) (s : SetupShape) (rows : List RowAt) → SaysDocument d s → SaysRows s.tables starting rows
    → SaysDocument (with_rows_document d starting) (record { tables = s.tables; procs = s.procs; rows = rows; retries = s.retries; digest = s.digest })
says_with_rows d starting s rows h k = record {
  form = with_parts h.form starting;
  is_form = spells_with_rows d starting h.form h.is_form;
  catalogue = h.catalogue;
  is_catalogue = h.is_catalogue;
  procs = h.procs;
  rows = k;
  retries = h.retries;
  digest = h.digest;
}

-- the rows that were put in first show no more
pub rows_twice : (d one two : Data) → with_rows_document (with_rows_document d one) two ≡ with_rows_document d two
rows_twice null one two = refl
rows_twice (boolean b) one two = refl
rows_twice (number n) one two = refl
rows_twice (string s) one two = refl
rows_twice (object ms) one two = refl
rows_twice (array ds) one two =
    ap (λ (es : List Data). array (items_of es)) (ap (λ (es : List Data). set es 4 two) (list_of-items_of (set (list_of ds) 4 one)) ∙ set-set (list_of ds) 4 one two)
