-- What one level of a procedure or of an entry of its footprint is, where its form has been read, and that such a document has the form.
use Rattle.std.proofs.Common.{◌≡◌, ℕ, List, [], ◌∷◌, Some, None, option_map, option_and_then, refl, ap, ◌∙◌, subst, inl, inr}
use Rattle.std.specs.Prelude.{codes}
use Rattle.serde_json.specs.Data.{Data, string, array}
use Rattle.serde_json.specs.Find.{as_str}
use Rattle.serde_json.specs.View.{items_of}
use Rattle.documents.specs.Json.{elements, four}
use Rattle.documents.proofs.Json.{list_of-items_of}
use Rattle.documents.proofs.Said.{string_said, elements_said, elements_again}
use Rattle.documents.proofs.Steps.{and_then_ok, map_ok}
use Rattle.proclang_types.specs.declared.right.Right.{Right}
use Rattle.proclang_types.specs.declared.right.Right.TheVariants.{Read, Write}
use Rattle.proclang_forms.specs.ProcForms.{ProcDocument, proc_form, FootprintDocument, declared_parts, recon_parts, recon_form, footprint_word, footprint_words, footprint_form, EntryDocument, row_parts, rows_parts, part_parts, table_parts, db_parts, right_of, row_form, rows_form, part_form, whole_table_form, db_form, entry_word, entry_words, entry_form}
use Rattle.proclang_forms.specs.Spells.{words, right_word, SpellsEntry, SpellsFootprint, SpellsProc}
use Rattle.proclang_forms.proofs.Words.{word_or, none_is}

-- ---- footprints

right_said : (word : List ℕ) (right : Right) → right_of word ≡ Some right → word ≡ right_word right
right_said word right e = elim (word_or word (codes "r") (Some Read) _ right e) [
  | inl h ↦ h.0 ∙ (let is : Read ≡ right = (let g = h.1 in cc) in ap right_word is)
  | inr other ↦ elim (word_or word (codes "w") (Some Write) None right other) [
    | inl h ↦ h.0 ∙ (let is : Write ≡ right = (let g = h.1 in cc) in ap right_word is)
    | inr none ↦ none_is right none
  ]
]

right_again : (right : Right) → right_of (right_word right) ≡ Some right
right_again Read = refl
right_again Write = refl

-- a document says a right
right_is : (d : Data) (right : Right) → option_and_then right_of (as_str d) ≡ Some right → d ≡ string (right_word right)
right_is d right e =
    let word = and_then_ok right_of (as_str d) right e in
    string_said d word.0 word.1 ∙ ap (λ (s : List ℕ). string s) (right_said word.0 right word.2)

row_texts : (word : List ℕ) (a b k : Data) (right : Right) (t : List ℕ) → a ≡ string (right_word right) → b ≡ string t → words word (a ∷ b ∷ k ∷ []) ≡ words word (string (right_word right) ∷ string t ∷ k ∷ [])
row_texts word a b k right t p q = rw (p, q) refl

table_texts : (word : List ℕ) (a b : Data) (right : Right) (t : List ℕ) → a ≡ string (right_word right) → b ≡ string t → words word (a ∷ b ∷ []) ≡ words word (string (right_word right) ∷ string t ∷ [])
table_texts word a b right t p q = rw (p, q) refl

range_texts : (word : List ℕ) (a b l k : Data) (right : Right) (t : List ℕ) → a ≡ string (right_word right) → b ≡ string t → words word (a ∷ b ∷ l ∷ k ∷ []) ≡ words word (string (right_word right) ∷ string t ∷ l ∷ k ∷ [])
range_texts word a b l k right t p q = rw (p, q) refl

row_said : (parts : List Data) (f : EntryDocument) → row_form parts ≡ Some f → SpellsEntry (words (codes "row") parts) f
unfolding row_form
row_said (right ∷ table ∷ key ∷ []) f e =
    let r = and_then_ok _ (option_and_then right_of (as_str right)) f e in
    let t = map_ok _ (as_str table) f r.2 in
    subst (SpellsEntry (words (codes "row") (right ∷ table ∷ key ∷ []))) t.2 (row_texts (codes "row") right table key r.0 t.0 (right_is right r.0 r.1) (string_said table t.0 t.1))
row_said [] f e = none_is f e
row_said (a ∷ []) f e = none_is f e
row_said (a ∷ b ∷ []) f e = none_is f e
row_said (a ∷ b ∷ c ∷ d ∷ ds) f e = none_is f e

part_said : (parts : List Data) (f : EntryDocument) → part_form parts ≡ Some f → SpellsEntry (words (codes "part") parts) f
unfolding part_form
part_said (right ∷ table ∷ part ∷ []) f e =
    let r = and_then_ok _ (option_and_then right_of (as_str right)) f e in
    let t = map_ok _ (as_str table) f r.2 in
    subst (SpellsEntry (words (codes "part") (right ∷ table ∷ part ∷ []))) t.2 (row_texts (codes "part") right table part r.0 t.0 (right_is right r.0 r.1) (string_said table t.0 t.1))
part_said [] f e = none_is f e
part_said (a ∷ []) f e = none_is f e
part_said (a ∷ b ∷ []) f e = none_is f e
part_said (a ∷ b ∷ c ∷ d ∷ ds) f e = none_is f e

rows_said : (parts : List Data) (f : EntryDocument) → rows_form parts ≡ Some f → SpellsEntry (words (codes "rows") parts) f
unfolding rows_form
rows_said (right ∷ table ∷ low ∷ high ∷ []) f e =
    let r = and_then_ok _ (option_and_then right_of (as_str right)) f e in
    let t = map_ok _ (as_str table) f r.2 in
    subst (SpellsEntry (words (codes "rows") (right ∷ table ∷ low ∷ high ∷ []))) t.2 (range_texts (codes "rows") right table low high r.0 t.0 (right_is right r.0 r.1) (string_said table t.0 t.1))
rows_said [] f e = none_is f e
rows_said (a ∷ []) f e = none_is f e
rows_said (a ∷ b ∷ []) f e = none_is f e
rows_said (a ∷ b ∷ c ∷ []) f e = none_is f e
rows_said (a ∷ b ∷ c ∷ d ∷ x ∷ ds) f e = none_is f e

table_said : (parts : List Data) (f : EntryDocument) → whole_table_form parts ≡ Some f → SpellsEntry (words (codes "table") parts) f
unfolding whole_table_form
table_said (right ∷ table ∷ []) f e =
    let r = and_then_ok _ (option_and_then right_of (as_str right)) f e in
    let t = map_ok _ (as_str table) f r.2 in
    subst (SpellsEntry (words (codes "table") (right ∷ table ∷ []))) t.2 (table_texts (codes "table") right table r.0 t.0 (right_is right r.0 r.1) (string_said table t.0 t.1))
table_said [] f e = none_is f e
table_said (a ∷ []) f e = none_is f e
table_said (a ∷ b ∷ c ∷ ds) f e = none_is f e

db_said : (parts : List Data) (f : EntryDocument) → db_form parts ≡ Some f → SpellsEntry (words (codes "db") parts) f
unfolding db_form
db_said (right ∷ []) f e =
    let r = map_ok db_parts (option_and_then right_of (as_str right)) f e in
    subst (SpellsEntry (words (codes "db") (right ∷ []))) r.2 (ap (λ (a : Data). words (codes "db") (a ∷ [])) (right_is right r.0 r.1))
db_said [] f e = none_is f e
db_said (a ∷ b ∷ ds) f e = none_is f e

entry_word_said : (word : List ℕ) (parts : List Data) (f : EntryDocument) → entry_word word parts ≡ Some f → SpellsEntry (words word parts) f
unfolding entry_word
entry_word_said word parts f e = elim (word_or word (codes "row") (row_form parts) _ f e) [
  | inl h ↦ rw h.0 (row_said parts f h.1)
  | inr a ↦ elim (word_or word (codes "rows") (rows_form parts) _ f a) [
    | inl h ↦ rw h.0 (rows_said parts f h.1)
    | inr b ↦ elim (word_or word (codes "part") (part_form parts) _ f b) [
      | inl h ↦ rw h.0 (part_said parts f h.1)
      | inr c ↦ elim (word_or word (codes "table") (whole_table_form parts) _ f c) [
        | inl h ↦ rw h.0 (table_said parts f h.1)
        | inr d ↦ elim (word_or word (codes "db") (db_form parts) None f d) [
          | inl h ↦ rw h.0 (db_said parts f h.1)
          | inr none ↦ none_is f none
        ]
      ]
    ]
  ]
]

entry_words_said : (ds : List Data) (f : EntryDocument) → entry_words ds ≡ Some f → SpellsEntry (array (items_of ds)) f
entry_words_said [] f e = none_is f e
entry_words_said (head ∷ parts) f e =
    let word = and_then_ok _ (as_str head) f e in
    rw (string_said head word.0 word.1) (entry_word_said word.0 parts f word.2)

pub entry_said : (d : Data) (f : EntryDocument) → entry_form d ≡ Some f → SpellsEntry d f
unfolding entry_form
entry_said d f e =
    let ds = and_then_ok entry_words (elements d) f e in
    rw (elements_said d ds.0 ds.1) (entry_words_said ds.0 f ds.2)

entry_words_again : (word : List ℕ) (parts : List Data) → entry_form (words word parts) ≡ entry_word word parts
unfolding entry_form
entry_words_again word parts = ap (option_and_then entry_words) (elements_again (string word ∷ parts))

pub entry_again : (d : Data) (f : EntryDocument) → SpellsEntry d f → entry_form d ≡ Some f
unfolding entry_word row_form rows_form part_form whole_table_form db_form
entry_again d (row_parts right table key) h = ap entry_form h ∙ entry_words_again (codes "row") (string (right_word right) ∷ string table ∷ key ∷ []) ∙ ap (option_and_then (λ r. Some (row_parts r table key))) (right_again right)
entry_again d (rows_parts right table low high) h = ap entry_form h ∙ entry_words_again (codes "rows") (string (right_word right) ∷ string table ∷ low ∷ high ∷ []) ∙ ap (option_and_then (λ r. Some (rows_parts r table low high))) (right_again right)
entry_again d (part_parts right table part) h = ap entry_form h ∙ entry_words_again (codes "part") (string (right_word right) ∷ string table ∷ part ∷ []) ∙ ap (option_and_then (λ r. Some (part_parts r table part))) (right_again right)
entry_again d (table_parts right table) h = ap entry_form h ∙ entry_words_again (codes "table") (string (right_word right) ∷ string table ∷ []) ∙ ap (option_and_then (λ r. Some (table_parts r table))) (right_again right)
entry_again d (db_parts right) h = ap entry_form h ∙ entry_words_again (codes "db") (string (right_word right) ∷ []) ∙ ap (option_map db_parts) (right_again right)

recon_said : (parts : List Data) (f : FootprintDocument) → recon_form parts ≡ Some f → SpellsFootprint (words (codes "recon") parts) f
unfolding recon_form
recon_said [] f e = let is : recon_parts ≡ f = cc in subst (SpellsFootprint (words (codes "recon") [])) is refl
recon_said (d ∷ ds) f e = none_is f e

footprint_word_said : (word : List ℕ) (parts : List Data) (f : FootprintDocument) → footprint_word word parts ≡ Some f → SpellsFootprint (words word parts) f
unfolding footprint_word
footprint_word_said word parts f e = elim (word_or word (codes "declared") (Some (declared_parts parts)) _ f e) [
  | inl h ↦ (let is : declared_parts parts ≡ f = (let g = h.1 in cc) in subst (SpellsFootprint (words word parts)) is (ap (λ (w : List ℕ). words w parts) h.0))
  | inr a ↦ elim (word_or word (codes "recon") (recon_form parts) None f a) [
    | inl h ↦ rw h.0 (recon_said parts f h.1)
    | inr none ↦ none_is f none
  ]
]

footprint_words_said : (ds : List Data) (f : FootprintDocument) → footprint_words ds ≡ Some f → SpellsFootprint (array (items_of ds)) f
footprint_words_said [] f e = none_is f e
footprint_words_said (head ∷ parts) f e =
    let word = and_then_ok _ (as_str head) f e in
    rw (string_said head word.0 word.1) (footprint_word_said word.0 parts f word.2)

pub footprint_said : (d : Data) (f : FootprintDocument) → footprint_form d ≡ Some f → SpellsFootprint d f
unfolding footprint_form
footprint_said d f e =
    let ds = and_then_ok footprint_words (elements d) f e in
    rw (elements_said d ds.0 ds.1) (footprint_words_said ds.0 f ds.2)

footprint_words_again : (word : List ℕ) (parts : List Data) → footprint_form (words word parts) ≡ footprint_word word parts
unfolding footprint_form
footprint_words_again word parts = ap (option_and_then footprint_words) (elements_again (string word ∷ parts))

pub footprint_again : (d : Data) (f : FootprintDocument) → SpellsFootprint d f → footprint_form d ≡ Some f
unfolding footprint_word recon_form
footprint_again d (declared_parts ds) h = ap footprint_form h ∙ footprint_words_again (codes "declared") ds
footprint_again d recon_parts h = ap footprint_form h ∙ footprint_words_again (codes "recon") []

-- ---- procedures

pub four_said : (ds : List Data) (p : Data × Data × Data × Data) → four ds ≡ Some p → ds ≡ p.0 ∷ p.1 ∷ p.2 ∷ p.3 ∷ []
four_said (a ∷ b ∷ c ∷ d ∷ []) p e = cc
four_said [] p e = none_is p e
four_said (a ∷ []) p e = none_is p e
four_said (a ∷ b ∷ []) p e = none_is p e
four_said (a ∷ b ∷ c ∷ []) p e = none_is p e
four_said (a ∷ b ∷ c ∷ d ∷ x ∷ ds) p e = none_is p e

proc_is : (a b f y : Data) (n : List ℕ) (ps : List Data) → a ≡ string n → b ≡ array (items_of ps) → array (items_of (a ∷ b ∷ f ∷ y ∷ [])) ≡ array (items_of (string n ∷ array (items_of ps) ∷ f ∷ y ∷ []))
proc_is a b f y n ps p q = rw (p, q) refl

pub proc_said : (d : Data) (p : ProcDocument) → proc_form d ≡ Some p → SpellsProc d p
unfolding proc_form
proc_said d p e =
    let parts = and_then_ok _ (option_and_then four (elements d)) p e in
    let ds = and_then_ok four (elements d) parts.0 parts.1 in
    let name = and_then_ok _ (as_str parts.0.0) p parts.2 in
    let params = map_ok _ (elements parts.0.1) p name.2 in
    subst (SpellsProc d) params.2
    (elements_said d ds.0 ds.1 ∙ ap (λ (es : List Data). array (items_of es)) (four_said ds.0 parts.0 ds.2)
    ∙ proc_is parts.0.0 parts.0.1 parts.0.2 parts.0.3 name.0 params.0 (string_said parts.0.0 name.0 name.1) (elements_said parts.0.1 params.0 params.1))

pub proc_again : (d : Data) (p : ProcDocument) → SpellsProc d p → proc_form d ≡ Some p
unfolding proc_form
proc_again d p h = rw (h, list_of-items_of p.params) refl
