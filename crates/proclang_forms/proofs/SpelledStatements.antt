-- What one level of a statement is, where its form has been read, and that such a document has the form.
use Rattle.std.proofs.Common.{◌≡◌, ℕ, List, [], ◌∷◌, Option, Some, option_map, option_and_then, refl, ap, ◌∙◌, subst}
use Rattle.std.specs.Prelude.{codes}
use Rattle.serde_json.specs.Data.{Data, string, array}
use Rattle.serde_json.specs.Find.{as_str}
use Rattle.serde_json.specs.View.{items_of}
use Rattle.documents.specs.Json.{elements, integer}
use Rattle.documents.proofs.Said.{string_said, elements_said, elements_again}
use Rattle.documents.proofs.Steps.{and_then_ok, map_ok}
use Rattle.proclang_forms.specs.Spells.{words, list, SpellsStatement}
use Rattle.proclang_forms.specs.StmtForms.{StatementForm, let_parts, get_parts, put_parts, insert_parts, delete_parts, if_parts, for_parts, each_parts, abort_code, reply_values, let_form, get_form, put_form, insert_form, delete_form, if_form, for_form, each_form, abort_form, word_form, words_form, statement_form}
use Rattle.proclang_forms.proofs.Words.{none_is, spelled_or}

-- parts that are texts
texts_are : (word : List ℕ) (a b k c : Data) (x t n : List ℕ) → a ≡ string x → b ≡ string t → c ≡ string n → words word (a ∷ b ∷ k ∷ c ∷ []) ≡ words word (string x ∷ string t ∷ k ∷ string n ∷ [])
texts_are word a b k c x t n p q r = rw (p, q, r) refl

two_texts_are : (word : List ℕ) (a k b e : Data) (t n : List ℕ) → a ≡ string t → b ≡ string n → words word (a ∷ k ∷ b ∷ e ∷ []) ≡ words word (string t ∷ k ∷ string n ∷ e ∷ [])
two_texts_are word a k b e t n p q = rw (p, q) refl

let_said : (parts : List Data) (f : StatementForm) → let_form parts ≡ Some f → SpellsStatement (words (codes "let") parts) f
unfolding let_form
let_said (variable ∷ value ∷ []) f e =
    let x = map_ok _ (as_str variable) f e in
    subst (SpellsStatement (words (codes "let") (variable ∷ value ∷ []))) x.2 (ap (λ (d : Data). words (codes "let") (d ∷ value ∷ [])) (string_said variable x.0 x.1))
let_said [] f e = none_is f e
let_said (a ∷ []) f e = none_is f e
let_said (a ∷ b ∷ c ∷ ds) f e = none_is f e

get_said : (parts : List Data) (f : StatementForm) → get_form parts ≡ Some f → SpellsStatement (words (codes "get") parts) f
unfolding get_form
get_said (variable ∷ table ∷ key ∷ column ∷ []) f e =
    let x = and_then_ok _ (as_str variable) f e in
    let t = and_then_ok _ (as_str table) f x.2 in
    let c = map_ok _ (as_str column) f t.2 in
    subst (SpellsStatement (words (codes "get") (variable ∷ table ∷ key ∷ column ∷ []))) c.2 (texts_are (codes "get") variable table key column x.0 t.0 c.0 (string_said variable x.0 x.1) (string_said table t.0 t.1) (string_said column c.0 c.1))
get_said [] f e = none_is f e
get_said (a ∷ []) f e = none_is f e
get_said (a ∷ b ∷ []) f e = none_is f e
get_said (a ∷ b ∷ c ∷ []) f e = none_is f e
get_said (a ∷ b ∷ c ∷ d ∷ x ∷ ds) f e = none_is f e

put_said : (parts : List Data) (f : StatementForm) → put_form parts ≡ Some f → SpellsStatement (words (codes "put") parts) f
unfolding put_form
put_said (table ∷ key ∷ column ∷ value ∷ []) f e =
    let t = and_then_ok _ (as_str table) f e in
    let c = map_ok _ (as_str column) f t.2 in
    subst (SpellsStatement (words (codes "put") (table ∷ key ∷ column ∷ value ∷ []))) c.2 (two_texts_are (codes "put") table key column value t.0 c.0 (string_said table t.0 t.1) (string_said column c.0 c.1))
put_said [] f e = none_is f e
put_said (a ∷ []) f e = none_is f e
put_said (a ∷ b ∷ []) f e = none_is f e
put_said (a ∷ b ∷ c ∷ []) f e = none_is f e
put_said (a ∷ b ∷ c ∷ d ∷ x ∷ ds) f e = none_is f e

insert_is : (a k b : Data) (t : List ℕ) (vs : List Data) → a ≡ string t → b ≡ list vs → words (codes "insert") (a ∷ k ∷ b ∷ []) ≡ words (codes "insert") (string t ∷ k ∷ list vs ∷ [])
insert_is a k b t vs p q = rw (p, q) refl

insert_said : (parts : List Data) (f : StatementForm) → insert_form parts ≡ Some f → SpellsStatement (words (codes "insert") parts) f
unfolding insert_form
insert_said (table ∷ key ∷ values ∷ []) f e =
    let t = and_then_ok _ (as_str table) f e in
    let vs = map_ok _ (elements values) f t.2 in
    subst (SpellsStatement (words (codes "insert") (table ∷ key ∷ values ∷ []))) vs.2 (insert_is table key values t.0 vs.0 (string_said table t.0 t.1) (elements_said values vs.0 vs.1))
insert_said [] f e = none_is f e
insert_said (a ∷ []) f e = none_is f e
insert_said (a ∷ b ∷ []) f e = none_is f e
insert_said (a ∷ b ∷ c ∷ d ∷ ds) f e = none_is f e

delete_said : (parts : List Data) (f : StatementForm) → delete_form parts ≡ Some f → SpellsStatement (words (codes "delete") parts) f
unfolding delete_form
delete_said (table ∷ key ∷ []) f e =
    let t = map_ok _ (as_str table) f e in
    subst (SpellsStatement (words (codes "delete") (table ∷ key ∷ []))) t.2 (ap (λ (d : Data). words (codes "delete") (d ∷ key ∷ [])) (string_said table t.0 t.1))
delete_said [] f e = none_is f e
delete_said (a ∷ []) f e = none_is f e
delete_said (a ∷ b ∷ c ∷ ds) f e = none_is f e

if_said : (parts : List Data) (f : StatementForm) → if_form parts ≡ Some f → SpellsStatement (words (codes "if") parts) f
unfolding if_form
if_said (test ∷ first ∷ second ∷ []) f e =
    let is : if_parts (record { test = test; first = first; second = second }) ≡ f = cc in
    subst (SpellsStatement (words (codes "if") (test ∷ first ∷ second ∷ []))) is refl
if_said [] f e = none_is f e
if_said (a ∷ []) f e = none_is f e
if_said (a ∷ b ∷ []) f e = none_is f e
if_said (a ∷ b ∷ c ∷ d ∷ ds) f e = none_is f e

for_said : (parts : List Data) (f : StatementForm) → for_form parts ≡ Some f → SpellsStatement (words (codes "for") parts) f
unfolding for_form
for_said (variable ∷ low ∷ high ∷ body ∷ []) f e =
    let x = map_ok _ (as_str variable) f e in
    subst (SpellsStatement (words (codes "for") (variable ∷ low ∷ high ∷ body ∷ []))) x.2 (ap (λ (d : Data). words (codes "for") (d ∷ low ∷ high ∷ body ∷ [])) (string_said variable x.0 x.1))
for_said [] f e = none_is f e
for_said (a ∷ []) f e = none_is f e
for_said (a ∷ b ∷ []) f e = none_is f e
for_said (a ∷ b ∷ c ∷ []) f e = none_is f e
for_said (a ∷ b ∷ c ∷ d ∷ x ∷ ds) f e = none_is f e

each_is : (a b p d : Data) (x t : List ℕ) → a ≡ string x → b ≡ string t → words (codes "each") (a ∷ b ∷ p ∷ d ∷ []) ≡ words (codes "each") (string x ∷ string t ∷ p ∷ d ∷ [])
each_is a b p d x t q r = rw (q, r) refl

each_said : (parts : List Data) (f : StatementForm) → each_form parts ≡ Some f → SpellsStatement (words (codes "each") parts) f
unfolding each_form
each_said (variable ∷ table ∷ part ∷ body ∷ []) f e =
    let x = and_then_ok _ (as_str variable) f e in
    let t = map_ok _ (as_str table) f x.2 in
    subst (SpellsStatement (words (codes "each") (variable ∷ table ∷ part ∷ body ∷ []))) t.2 (each_is variable table part body x.0 t.0 (string_said variable x.0 x.1) (string_said table t.0 t.1))
each_said [] f e = none_is f e
each_said (a ∷ []) f e = none_is f e
each_said (a ∷ b ∷ []) f e = none_is f e
each_said (a ∷ b ∷ c ∷ []) f e = none_is f e
each_said (a ∷ b ∷ c ∷ d ∷ x ∷ ds) f e = none_is f e

abort_said : (parts : List Data) (f : StatementForm) → abort_form parts ≡ Some f → SpellsStatement (words (codes "abort") parts) f
unfolding abort_form
abort_said (code ∷ []) f e =
    let z = map_ok abort_code (integer code) f e in
    subst (SpellsStatement (words (codes "abort") (code ∷ []))) z.2 (code, refl, z.1)
abort_said [] f e = none_is f e
abort_said (a ∷ b ∷ ds) f e = none_is f e

reply_said : (parts : List Data) (f : StatementForm) → ◌≡◌ {A = Option StatementForm} (Some (reply_values parts)) (Some f) → SpellsStatement (words (codes "reply") parts) f
reply_said parts f e = let is : reply_values parts ≡ f = cc in subst (SpellsStatement (words (codes "reply") parts)) is refl

word_said : (word : List ℕ) (parts : List Data) (f : StatementForm) → word_form word parts ≡ Some f → SpellsStatement (words word parts) f
unfolding word_form
word_said word parts f a =
    spelled_or (λ w. SpellsStatement (words w parts) f) word (codes "let") (let_form parts) _ f a (let_said parts f) (λ b.
    spelled_or (λ w. SpellsStatement (words w parts) f) word (codes "get") (get_form parts) _ f b (get_said parts f) (λ c.
    spelled_or (λ w. SpellsStatement (words w parts) f) word (codes "put") (put_form parts) _ f c (put_said parts f) (λ d.
    spelled_or (λ w. SpellsStatement (words w parts) f) word (codes "insert") (insert_form parts) _ f d (insert_said parts f) (λ e.
    spelled_or (λ w. SpellsStatement (words w parts) f) word (codes "delete") (delete_form parts) _ f e (delete_said parts f) (λ g.
    spelled_or (λ w. SpellsStatement (words w parts) f) word (codes "if") (if_form parts) _ f g (if_said parts f) (λ h.
    spelled_or (λ w. SpellsStatement (words w parts) f) word (codes "for") (for_form parts) _ f h (for_said parts f) (λ i.
    spelled_or (λ w. SpellsStatement (words w parts) f) word (codes "each") (each_form parts) _ f i (each_said parts f) (λ j.
    spelled_or (λ w. SpellsStatement (words w parts) f) word (codes "abort") (abort_form parts) _ f j (abort_said parts f) (λ k.
    spelled_or (λ w. SpellsStatement (words w parts) f) word (codes "reply") (Some (reply_values parts)) _ f k (reply_said parts f) (λ l.
    none_is f l))))))))))

words_said : (ds : List Data) (f : StatementForm) → words_form ds ≡ Some f → SpellsStatement (array (items_of ds)) f
words_said [] f e = none_is f e
words_said (head ∷ parts) f e =
    let word = and_then_ok _ (as_str head) f e in
    rw (string_said head word.0 word.1) (word_said word.0 parts f word.2)

pub statement_said : (d : Data) (f : StatementForm) → statement_form d ≡ Some f → SpellsStatement d f
unfolding statement_form
statement_said d f e =
    let ds = and_then_ok words_form (elements d) f e in
    rw (elements_said d ds.0 ds.1) (words_said ds.0 f ds.2)

-- a word before its parts
words_again : (word : List ℕ) (parts : List Data) → statement_form (words word parts) ≡ word_form word parts
unfolding statement_form
words_again word parts = ap (option_and_then words_form) (elements_again (string word ∷ parts))

pub statement_again : (d : Data) (f : StatementForm) → SpellsStatement d f → statement_form d ≡ Some f
unfolding word_form let_form get_form put_form insert_form delete_form if_form for_form each_form abort_form
statement_again d (let_parts f) h = ap statement_form h ∙ words_again (codes "let") (string f.variable ∷ f.value ∷ [])
statement_again d (get_parts f) h = ap statement_form h ∙ words_again (codes "get") (string f.variable ∷ string f.table ∷ f.key ∷ string f.column ∷ [])
statement_again d (put_parts f) h = ap statement_form h ∙ words_again (codes "put") (string f.table ∷ f.key ∷ string f.column ∷ f.value ∷ [])
statement_again d (insert_parts f) h =
    ap statement_form h ∙ words_again (codes "insert") (string f.table ∷ f.key ∷ list f.values ∷ [])
    ∙ ap (option_map (λ (vs : List Data). insert_parts (record { table = f.table; key = f.key; values = vs }))) (elements_again f.values)
statement_again d (delete_parts f) h = ap statement_form h ∙ words_again (codes "delete") (string f.table ∷ f.key ∷ [])
statement_again d (if_parts f) h = ap statement_form h ∙ words_again (codes "if") (f.test ∷ f.first ∷ f.second ∷ [])
statement_again d (for_parts f) h = ap statement_form h ∙ words_again (codes "for") (string f.variable ∷ f.low ∷ f.high ∷ f.body ∷ [])
statement_again d (each_parts f) h = ap statement_form h ∙ words_again (codes "each") (string f.variable ∷ string f.table ∷ f.number ∷ f.body ∷ [])
statement_again d (abort_code z) h = ap statement_form h.1 ∙ words_again (codes "abort") (h.0 ∷ []) ∙ ap (option_map abort_code) h.2
statement_again d (reply_values ds) h = ap statement_form h ∙ words_again (codes "reply") ds
