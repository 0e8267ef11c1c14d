-- What is read of a line is what it says, what it says is read, and its fault is the first rule that it breaks.
use Rattle.std.proofs.Common.{◌≡◌, ℕ, Bool, true, false, if◌then◌else◌, List, [], ◌∷◌, ◌++◌, Option, Some, None, option_map, option_and_then, is_some, Result, Ok, refl, sym, ap, ◌∙◌, subst}
use Rattle.std.specs.Prelude.{codes}
use Rattle.std.specs.Str.{bytes_eq, is_utf8}
use Rattle.std.proofs.lemmas.Slice.Eq.{bytes_eq-Decides}
use Rattle.serde_json.specs.Data.{Data, string, array}
use Rattle.serde_json.specs.Find.{as_str}
use Rattle.serde_json.specs.Read.{read}
use Rattle.serde_json.specs.View.{items_of}
use Rattle.documents.specs.FirstFault.{broken, IsFirst}
use Rattle.documents.specs.Json.{elements}
use Rattle.documents.specs.Reading.{◌>>=◌, formed, rule}
use Rattle.documents.proofs.FirstFault.{ok_first}
use Rattle.documents.proofs.Said.{string_said, elements_said, elements_again}
use Rattle.documents.proofs.Steps.{bind_ok, rule_ok, formed_ok, and_then_ok, map_ok}
use Rattle.values.specs.declared.value.Value.{Value}
use Rattle.catalogue.specs.Said.{values_said}
use Rattle.proclang_types.specs.Procedures.{ProcParts}
use Rattle.requests.specs.ProcLists.{proc_named}
use Rattle.requests.specs.Requests as requests
use Rattle.batch_log.specs.declared.fault.LogFaultKind.{LogFaultKind}
use Rattle.batch_log.specs.declared.fault.LogFaultKind.TheVariants.{Shape, UnknownProc, Args}
use Rattle.batch_log.specs.declared.line.LogLine.{LogLine}
use Rattle.batch_log.specs.declared.line.LogLine.TheVariants.{Call, Cut}
use Rattle.batch_log.specs.Forms.{Form, call_form, cut_form, words_form, items_form, line_form}
use Rattle.batch_log.specs.Lines.{all_fit, call_said, form_said, document_said, line_said}
use Rattle.batch_log.specs.LineRules.{SpellsLine, SaysCall, SaysForm, SaysLine, takes, are_taken, in_call, in_form, in_document, line_faults, LineIsExact}

ok_is : {A : Type 0} (x y : A) → ◌≡◌ {A = Result A LogFaultKind} (Ok x) (Ok y) → x ≡ y
ok_is x y e = cc

none_is : {A B : Type 0} (x : A) → ◌≡◌ {A = Option A} None (Some x) → B
none_is x e = absurd cc

-- ---- forms

word_is : {A : Type 0} (a b : List ℕ) (x : Option A) (f : A) → (if bytes_eq a b then x else None) ≡ Some f → (a ≡ b) × (x ≡ Some f)
word_is a b x f e = by (bytes_eq a b) refl
  where
    by : (r : Bool) → bytes_eq a b ≡ r → (a ≡ b) × (x ≡ Some f)
    by true q = ((bytes_eq-Decides a b).0 q, (rw q at e))
    by false q = absurd (let h = rw q at e in cc)

parts_are : (a b c : Data) (w n : List ℕ) (ds : List Data) → a ≡ string w → w ≡ codes "call" → b ≡ string n → c ≡ array (items_of ds)
    → array (items_of (a ∷ b ∷ c ∷ [])) ≡ array (items_of (string (codes "call") ∷ string n ∷ array (items_of ds) ∷ []))
parts_are a b c w n ds p q r s = rw (p, q, r, s) refl

words_said : (head : Data) (word : List ℕ) (rest : List Data) (f : Form) → head ≡ string word → words_form word rest ≡ Some f → SpellsLine (array (items_of (head ∷ rest))) f
unfolding words_form
words_said head word [] f h e =
    let w = word_is word (codes "cut") (Some cut_form) f e in
    let is : cut_form ≡ f = (let g = w.1 in cc) in
    subst (SpellsLine (array (items_of (head ∷ [])))) is (ap (λ (d : Data). array (items_of (d ∷ []))) (h ∙ ap (λ (s : List ℕ). string s) w.0))
words_said head word (name ∷ values ∷ []) f h e =
    let w = word_is word (codes "call") _ f e in
    let n = and_then_ok _ (as_str name) f w.1 in
    let ds = map_ok (call_form n.0) (elements values) f n.2 in
    subst (SpellsLine (array (items_of (head ∷ name ∷ values ∷ [])))) ds.2 (parts_are head name values word n.0 ds.0 h w.0 (string_said name n.0 n.1) (elements_said values ds.0 ds.1))
words_said head word (a ∷ []) f h e = none_is f e
words_said head word (a ∷ b ∷ c ∷ ds) f h e = none_is f e

items_said : (ds : List Data) (f : Form) → items_form ds ≡ Some f → SpellsLine (array (items_of ds)) f
items_said [] f e = none_is f e
items_said (head ∷ rest) f e =
    let word = and_then_ok (λ w. words_form w rest) (as_str head) f e in
    words_said head word.0 rest f (string_said head word.0 word.1) word.2

spelled : (d : Data) (f : Form) → line_form d ≡ Some f → SpellsLine d f
unfolding line_form
spelled d f e =
    let ds = and_then_ok items_form (elements d) f e in
    rw (elements_said d ds.0 ds.1) (items_said ds.0 f ds.2)

pub form_again : (d : Data) (f : Form) → SpellsLine d f → line_form d ≡ Some f
unfolding line_form words_form
form_again d (call_form name ds) h = ap (λ (x : Data). option_and_then items_form (elements x)) h ∙ ap (option_map (call_form name)) (elements_again ds)
form_again d cut_form h = ap (λ (x : Data). option_and_then items_form (elements x)) h

-- ---- what is read

call_found : (procs : List ProcParts) (name : List ℕ) (ds : List Data) (call : requests.Call) → call_said procs name ds ≡ Ok call → SaysCall procs name ds call
unfolding call_said
call_found procs name ds call e =
    let proc = bind_ok (formed UnknownProc (proc_named procs name)) _ call e in
    let args = bind_ok (formed Args (values_said ds)) _ call proc.2 in
    let fit = rule_ok (all_fit proc.0.params args.0) Args _ call args.2 in
    let made : SaysCall procs name ds (record { proc = proc.0; args = args.0 }) = record {
      is_proc = formed_ok UnknownProc (proc_named procs name) proc.0 proc.1;
      are_values = formed_ok Args (values_said ds) args.0 args.1;
      fit = fit.0;
    } in
    subst (SaysCall procs name ds) (ok_is (record { proc = proc.0; args = args.0 }) call fit.1) made

call_read : (procs : List ProcParts) (name : List ℕ) (ds : List Data) (call : requests.Call) → SaysCall procs name ds call → call_said procs name ds ≡ Ok call
unfolding call_said
call_read procs name ds call h = rw (h.is_proc, h.are_values, h.fit) refl

form_found : (procs : List ProcParts) (f : Form) (said : LogLine) → form_said procs f ≡ Ok said → SaysForm procs f said
form_found procs (call_form name ds) said e =
    let call = bind_ok (call_said procs name ds) (λ call. Ok (Call call)) said e in
    (call.0, call_found procs name ds call.0 call.1, sym (ok_is (Call call.0) said call.2))
form_found procs cut_form said e = sym (ok_is Cut said e)

form_read : (procs : List ProcParts) (f : Form) (said : LogLine) → SaysForm procs f said → form_said procs f ≡ Ok said
form_read procs (call_form name ds) said h = ap (λ r. r >>= (λ call. Ok (Call call))) (call_read procs name ds h.0 h.1) ∙ ap (λ (x : LogLine). Ok x) (sym h.2)
form_read procs cut_form said h = ap (λ (x : LogLine). Ok x) (sym h)

found_by : (procs : List ProcParts) (line : List ℕ) (said : LogLine) (o : Option Data) → is_utf8 line ≡ true → read line ≡ o → document_said procs o ≡ Ok said → SaysLine procs line said
found_by procs line said None utf8 json e = absurd cc
found_by procs line said (Some d) utf8 json e =
    let f = bind_ok (formed Shape (line_form d)) (form_said procs) said e in
    record { document = d; utf8 = utf8; json = json; form = f.0; is_form = spelled d f.0 (formed_ok Shape (line_form d) f.0 f.1); says = form_found procs f.0 said f.2 }

line_found : (procs : List ProcParts) (line : List ℕ) (said : LogLine) (b : Bool) → is_utf8 line ≡ b → line_said procs line ≡ Ok said → SaysLine procs line said
unfolding line_said
line_found procs line said true utf8 e = found_by procs line said (read line) utf8 refl (rw utf8 at e)
line_found procs line said false utf8 e = absurd (let h = rw utf8 at e in cc)

line_read : (procs : List ProcParts) (line : List ℕ) (said : LogLine) → SaysLine procs line said → line_said procs line ≡ Ok said
unfolding line_said
line_read procs line said h = rw (h.utf8, h.json, form_again h.document h.form h.is_form) (form_read procs h.form said h.says)

-- ---- the first fault

rule_at : {B : Type 0} (b : Bool) (x : B) → IsFirst (rule b Args >>= (λ _. Ok x)) (broken b Args)
rule_at true x = refl
rule_at false x = refl

args_first : (proc : ProcParts) (o : Option (List Value)) → IsFirst {A = requests.Call} (formed Args o >>= λ args. rule (all_fit proc.params args) Args >>= λ _. Ok (record { proc = proc; args = args })) (broken (takes proc o) Args)
args_first proc None = refl
args_first proc (Some args) = rule_at (all_fit proc.params args) (record { proc = proc; args = args })

proc_first : (procs : List ProcParts) (name : List ℕ) (ds : List Data) (o : Option ProcParts) → proc_named procs name ≡ o → IsFirst (call_said procs name ds) (broken (is_some o) UnknownProc ++ broken (are_taken o (values_said ds)) Args)
unfolding call_said
proc_first procs name ds None e = rw e refl
proc_first procs name ds (Some proc) e = rw e (args_first proc (values_said ds))

form_first : (procs : List ProcParts) (o : Option Form) → IsFirst (formed Shape o >>= form_said procs) (in_form procs o)
form_first procs None = refl
form_first procs (Some (call_form name ds)) = ok_first (call_said procs name ds) Call (in_call procs name ds) (proc_first procs name ds (proc_named procs name) refl)
form_first procs (Some cut_form) = refl

document_first : (procs : List ProcParts) (o : Option Data) → IsFirst (document_said procs o) (in_document procs o)
document_first procs None = refl
document_first procs (Some d) = form_first procs (line_form d)

first_by : (procs : List ProcParts) (line : List ℕ) (b : Bool) → is_utf8 line ≡ b → IsFirst (line_said procs line) (line_faults procs line)
unfolding line_said
first_by procs line true e = rw e (document_first procs (read line))
first_by procs line false e = rw e refl

pub line_is_exact : (procs : List ProcParts) (line : List ℕ) → LineIsExact procs line
line_is_exact procs line = record {
  found = λ said e. line_found procs line said (is_utf8 line) refl e;
  only = λ said h. line_read procs line said h;
  is_first = first_by procs line (is_utf8 line) refl;
}
