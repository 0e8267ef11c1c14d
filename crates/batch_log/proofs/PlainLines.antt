-- What the tokens of a plain line are read as.
use Rattle.std.proofs.Common.{◌≡◌, ℕ, List, [], ◌∷◌, Option, Some, refl, ap, ◌∙◌, subst, sym, Bor, Ok, Err, false}
use Rattle.std.specs.Prelude.{codes, Vec}
use Rattle.std.specs.declared.alloc.Global.{Global}
use Rattle.json.specs.Token.{Token}
use Rattle.json.specs.Lex.{tokens}
use Rattle.serde_json.specs.Data.{Data, string, array}
use Rattle.serde_json.specs.Read.{read}
use Rattle.serde_json.specs.View.{items_of}
use Rattle.values.specs.declared.value.Value.{Value}
use Rattle.catalogue.specs.Said.{values_said}
use Rattle.documents.specs.Reading.{◌>>=◌, formed}
use Rattle.proclang_types.specs.Procedures.{ProcParts}
use Rattle.requests.specs.Requests as requests
use Rattle.value_tokens.specs.Documents.{IsDocument, AreDocuments, IsValueArray}
use Rattle.value_tokens.proofs.Documents.{array_is_document, text_is_document, text_read}
use Rattle.batch_log.specs.declared.fault.LogFaultKind.{LogFaultKind}
use Rattle.batch_log.specs.declared.fault.LogFaultKind.TheVariants.{Shape}
use Rattle.batch_log.specs.declared.line.LogLine.TheVariants.{Call, Cut}
use Rattle.batch_log.specs.declared.plain_line.PlainLine.TheVariants as plain
use Rattle.batch_log.specs.Faults.{is_memory}
use Rattle.batch_log.specs.Forms.{Form, call_form, cut_form}
use Rattle.batch_log.specs.Lines.{call_said, form_said, document_said}
use Rattle.batch_log.specs.LineRules.{SpellsLine}
use Rattle.batch_log.specs.Plain.{SpellsPlain}
use Rattle.batch_log.proofs.LineLaws.{form_again}

-- the text whose tokens are those of documents in brackets is an array of them
array_read : (text : List ℕ) (inner : List Token) (ds : List Data) → tokens text ≡ Token.begin_array ∷ inner → AreDocuments 126 inner ds (Token.end_array ∷ []) → read text ≡ Some (array (items_of ds))
array_read text inner ds h are = text_read text (array (items_of ds)) (subst (λ ts. IsDocument 127 ts (array (items_of ds)) []) (sym h) (array_is_document 126 inner ds [] are))

cut_read : (text : List ℕ) → tokens text ≡ Token.begin_array ∷ Token.string (codes "cut") ∷ Token.end_array ∷ [] → read text ≡ Some (array (items_of (string (codes "cut") ∷ [])))
cut_read text h = array_read text (Token.string (codes "cut") ∷ Token.end_array ∷ []) (string (codes "cut") ∷ []) h (Token.end_array ∷ [], text_is_document 126 (codes "cut") (Token.end_array ∷ []), refl)

-- the tokens of a call, by those of its list of values
call_read : (text name : List ℕ) (rest : List Token) (ds : List Data) → tokens text ≡ Token.begin_array ∷ Token.string (codes "call") ∷ Token.string name ∷ rest
    → IsDocument 126 rest (array (items_of ds)) (Token.end_array ∷ []) → read text ≡ Some (array (items_of (string (codes "call") ∷ string name ∷ array (items_of ds) ∷ [])))
call_read text name rest ds h list =
    array_read text (Token.string (codes "call") ∷ Token.string name ∷ rest) (string (codes "call") ∷ string name ∷ array (items_of ds) ∷ []) h
    (Token.string name ∷ rest, text_is_document 126 (codes "call") (Token.string name ∷ rest), (rest, text_is_document 126 name rest, (Token.end_array ∷ [], list, refl)))

form_is_said : (procs : List ProcParts) (text : List ℕ) (d : Data) (form : Form) → read text ≡ Some d → SpellsLine d form → document_said procs (read text) ≡ form_said procs form
form_is_said procs text d form e spells =
    ap (document_said procs) e ∙ ap (λ (f : Option Form). formed Shape f >>= form_said procs) (form_again d form spells)

pub plain_cut : (procs : List ProcParts) (text : List ℕ) → SpellsPlain (tokens text) plain.Cut → document_said procs (read text) ≡ Ok Cut
plain_cut procs text h = form_is_said procs text _ cut_form (cut_read text h) refl

-- a plain line says a call of that name with documents that say the values
record SaysPlainCall (procs : List ProcParts) (text name : List ℕ) (vs : List Value) : Type 0 where
  documents : List Data
  say : values_said documents ≡ Some vs
  line : document_said procs (read text) ≡ (call_said procs name documents >>= (λ call. Ok (Call call)))

plain_call : (procs : List ProcParts) (text name : List ℕ) (vs : List Value) (rest : List Token) → tokens text ≡ Token.begin_array ∷ Token.string (codes "call") ∷ Token.string name ∷ rest
    → IsValueArray rest vs (Token.end_array ∷ []) → SaysPlainCall procs text name vs
plain_call procs text name vs rest h values = record {
  documents = values.documents;
  say = values.say;
  line = form_is_said procs text _ (call_form name values.documents) (call_read text name rest values.documents h (values.read 125)) refl;
}

pub plain_call_made : (procs : List ProcParts) (text : List ℕ) (name : Bor (List ℕ)) (vs : Vec Value Global) (call : requests.Call) → SpellsPlain (tokens text) (plain.Call name vs)
    → ((ds : List Data) → values_said ds ≡ Some vs.items → call_said procs name.now ds ≡ Ok call) → document_said procs (read text) ≡ Ok (Call call)
plain_call_made procs text name vs call h made =
    let line = plain_call procs text name.now vs.items h.0 h.1 h.2 in
    line.line ∙ ap (λ r. r >>= (λ c. Ok (Call c))) (made line.documents line.say)

pub plain_call_refused : (procs : List ProcParts) (text : List ℕ) (name : Bor (List ℕ)) (vs : Vec Value Global) (fault : LogFaultKind) → SpellsPlain (tokens text) (plain.Call name vs)
    → ((ds : List Data) → values_said ds ≡ Some vs.items → is_memory fault ≡ false → call_said procs name.now ds ≡ Err fault) → is_memory fault ≡ false → document_said procs (read text) ≡ Err fault
plain_call_refused procs text name vs fault h refused other =
    let line = plain_call procs text name.now vs.items h.0 h.1 h.2 in
    line.line ∙ ap (λ r. r >>= (λ c. Ok (Call c))) (refused line.documents line.say other)
