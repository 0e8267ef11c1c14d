-- What a setup's document says, and where it breaks a rule first, from what its parts say.
use Rattle.std.proofs.Common.{◌≡◌, ◌≤◌, nat_le, ◌⊎◌, inl, inr, ℕ, ℤ, pos, negsuc, Bool, true, false, if◌then◌else◌, ◌&&◌, List, [], ◌∷◌, Option, Some, None, option_and_then, Result, Ok, Err, refl, sym, ap, ◌∙◌, subst}
use Rattle.std.specs.Prelude.{codes}
use Rattle.std.specs.Option.{option_or}
use Rattle.std.specs.Str.{bytes_eq}
use Rattle.std.proofs.lemmas.Bool.{eqb-true, leb-true, le-leb}
use Rattle.std.proofs.lemmas.Slice.Eq.{bytes_eq-Decides}
use Rattle.serde_json.specs.Data.{Data, string, array}
use Rattle.serde_json.specs.Find.{as_str}
use Rattle.serde_json.specs.View.{items_of}
use Rattle.documents.specs.Json.{elements, five, six, integer, is_one}
use Rattle.documents.specs.FirstFault.{first}
use Rattle.documents.proofs.Said.{string_said, elements_said}
use Rattle.documents.proofs.Steps.{and_then_ok}
use Rattle.catalogue.specs.Broken as catalogue_rules
use Rattle.catalogue.specs.Reading as catalogues
use Rattle.catalogue.specs.Rules.{SaysCatalogue, IsCatalogue}
use Rattle.catalogue.specs.Shapes.{TableShape}
use Rattle.catalogue.specs.declared.fault.CatalogueFault.{CatalogueFault}
use Rattle.catalogue.specs.declared.fault.CatalogueFault.TheVariants as catalogue_faults
use Rattle.catalogue.specs.Reading.{catalogue_at}
use Rattle.proclang_types.specs.Syntax.{ProcSyntax}
use Rattle.proclang.specs.BrokenProcs as procedure_rules
use Rattle.proclang_expressions.specs.Faults as procedures
use Rattle.proclang.specs.Procs.{procs_at}
use Rattle.proclang.specs.Says.{SaysProcs}
use Rattle.proclang_expressions.specs.declared.fault.ProcFault.{ProcFault}
use Rattle.proclang_expressions.specs.declared.fault.ProcFault.TheVariants as proc_faults
use Rattle.setup.specs.declared.fault.SetupFault.{SetupFault}
use Rattle.setup.specs.declared.fault.SetupFault.TheVariants.{Catalogue, Procedure, Shape}
use Rattle.row_text.specs.declared.form.DigestForm.{DigestForm}
use Rattle.row_text.specs.declared.form.DigestForm.TheVariants.{Rows, Partitions}
use Rattle.setup.specs.Faults.{is_memory}
use Rattle.setup.specs.FirstFault.{InForm, InDocument, rows_faults}
use Rattle.setup.specs.Rows.{RowAt, rows_at}
use Rattle.setup.specs.Says.{name_of, SaysRows, SpellsFirst, SpellsSecond, SpellsThird, SpellsSetup, SaysDocument}
use Rattle.setup.specs.Setups.{SetupParts, SetupShape, first_parts, second_parts, third_parts, form_named, is_two, is_three, retries_of, seven, setup_at, setup_form}

-- ---- the outer form

five_said : (ds : List Data) (p : Data × Data × Data × Data × Data) → five ds ≡ Some p → ds ≡ p.0 ∷ p.1 ∷ p.2 ∷ p.3 ∷ p.4 ∷ []
five_said (a ∷ b ∷ c ∷ d ∷ e ∷ []) p h = cc
five_said [] p h = absurd cc
five_said (a ∷ []) p h = absurd cc
five_said (a ∷ b ∷ []) p h = absurd cc
five_said (a ∷ b ∷ c ∷ []) p h = absurd cc
five_said (a ∷ b ∷ c ∷ d ∷ []) p h = absurd cc
five_said (a ∷ b ∷ c ∷ d ∷ e ∷ x ∷ ds) p h = absurd cc

six_said : (ds : List Data) (p : Data × Data × Data × Data × Data × Data) → six ds ≡ Some p → ds ≡ p.0 ∷ p.1 ∷ p.2 ∷ p.3 ∷ p.4 ∷ p.5 ∷ []
six_said (a ∷ b ∷ c ∷ d ∷ e ∷ f ∷ []) p h = cc
six_said [] p h = absurd cc
six_said (a ∷ []) p h = absurd cc
six_said (a ∷ b ∷ []) p h = absurd cc
six_said (a ∷ b ∷ c ∷ []) p h = absurd cc
six_said (a ∷ b ∷ c ∷ d ∷ []) p h = absurd cc
six_said (a ∷ b ∷ c ∷ d ∷ e ∷ []) p h = absurd cc
six_said (a ∷ b ∷ c ∷ d ∷ e ∷ f ∷ x ∷ ds) p h = absurd cc

seven_said : (ds : List Data) (p : Data × Data × Data × Data × Data × Data × Data) → seven ds ≡ Some p → ds ≡ p.0 ∷ p.1 ∷ p.2 ∷ p.3 ∷ p.4 ∷ p.5 ∷ p.6 ∷ []
seven_said (a ∷ b ∷ c ∷ d ∷ e ∷ f ∷ g ∷ []) p h = cc
seven_said [] p h = absurd cc
seven_said (a ∷ []) p h = absurd cc
seven_said (a ∷ b ∷ []) p h = absurd cc
seven_said (a ∷ b ∷ c ∷ []) p h = absurd cc
seven_said (a ∷ b ∷ c ∷ d ∷ []) p h = absurd cc
seven_said (a ∷ b ∷ c ∷ d ∷ e ∷ []) p h = absurd cc
seven_said (a ∷ b ∷ c ∷ d ∷ e ∷ f ∷ []) p h = absurd cc
seven_said (a ∷ b ∷ c ∷ d ∷ e ∷ f ∷ g ∷ x ∷ ds) p h = absurd cc

one_is : (z : ℤ) → is_one z ≡ true → z ≡ pos 1
one_is (pos n) e = ap pos (eqb-true n 1 e)
one_is (negsuc n) e = absurd cc

two_is : (z : ℤ) → is_two z ≡ true → z ≡ pos 2
two_is (pos n) e = ap pos (eqb-true n 2 e)
two_is (negsuc n) e = absurd cc

three_is : (z : ℤ) → is_three z ≡ true → z ≡ pos 3
three_is (pos n) e = ap pos (eqb-true n 3 e)
three_is (negsuc n) e = absurd cc

retries_are : (z : ℤ) (retries : ℕ) → retries_of z ≡ Some retries → (z ≡ pos retries) × (retries ≤ 2)
retries_are (negsuc n) retries e = absurd cc
retries_are (pos n) retries e = by (nat_le n 2) refl
  where
    by : (b : Bool) → nat_le n 2 ≡ b → (pos n ≡ pos retries) × (retries ≤ 2)
    by true p = let h = rw p at e in let same : n ≡ retries = cc in (ap pos same, subst (λ m. m ≤ 2) same (leb-true n 2 p))
    by false p = absurd (let h = rw p at e in cc)

-- the name of a text of which digests are
named_is : (name : List ℕ) (form : DigestForm) → form_named name ≡ Some form → name ≡ name_of form
named_is name form e = by (bytes_eq name (codes "rows")) (bytes_eq name (codes "partitions")) refl refl
  where
    by : (a b : Bool) → bytes_eq name (codes "rows") ≡ a → bytes_eq name (codes "partitions") ≡ b → name ≡ name_of form
    by true b p q = let h = rw p at e in let same : Rows ≡ form = cc in subst (λ (f : DigestForm). name ≡ name_of f) same ((bytes_eq-Decides name (codes "rows")).0 p)
    by false true p q = let h = rw (p, q) at e in let same : Partitions ≡ form = cc in subst (λ (f : DigestForm). name ≡ name_of f) same ((bytes_eq-Decides name (codes "partitions")).0 q)
    by false false p q = absurd (let h = rw (p, q) at e in cc)

named_again : (form : DigestForm) → form_named (name_of form) ≡ Some form
named_again Rows = refl
named_again Partitions = refl

choice_said : (word : List ℕ) (b : Bool) (x y : SetupParts) → (if bytes_eq word (codes "setup") && b then Some x else None) ≡ Some y → (word ≡ codes "setup") × (b ≡ true) × (x ≡ y)
choice_said word b x y e = by (bytes_eq word (codes "setup")) b refl refl
  where
    by : (a c : Bool) → bytes_eq word (codes "setup") ≡ a → b ≡ c → (word ≡ codes "setup") × (b ≡ true) × (x ≡ y)
    by true true p q = ((bytes_eq-Decides word (codes "setup")).0 p, q, (let h = rw (p, q) at e in cc))
    by true false p q = absurd (let h = rw (p, q) at e in cc)
    by false c p q = absurd (let h = rw p at e in cc)

head_is : (a b : Data) (w : List ℕ) (rest : List Data) → a ≡ string w → w ≡ codes "setup" → array (items_of (a ∷ b ∷ rest)) ≡ array (items_of (string (codes "setup") ∷ b ∷ rest))
head_is a b w rest p q = rw (p, q) refl

abbrev form_of : Data → Data → Data → ℕ → DigestForm → SetupParts
form_of catalogue procs rows retries digest =
    record { catalogue = catalogue; procs = procs; rows = rows; retries = retries; digest = digest }

first_said : (d : Data) (form : SetupParts) → option_and_then first_parts (option_and_then five (elements d)) ≡ Some form → SpellsFirst d form
first_said d form e =
    let p = and_then_ok first_parts (option_and_then five (elements d)) form e in
    let ds = and_then_ok five (elements d) p.0 p.1 in
    let word = and_then_ok _ (as_str p.0.0) form p.2 in
    let version = and_then_ok _ (integer p.0.1) form word.2 in
    let said = choice_said word.0 (is_one version.0) (form_of p.0.2 p.0.3 p.0.4 0 Rows) form version.2 in
    let spelled : SpellsFirst d (form_of p.0.2 p.0.3 p.0.4 0 Rows) = record {
      version = p.0.1;
      is_form = elements_said d ds.0 ds.1 ∙ ap (λ (es : List Data). array (items_of es)) (five_said ds.0 p.0 ds.2) ∙ head_is p.0.0 p.0.1 word.0 (p.0.2 ∷ p.0.3 ∷ p.0.4 ∷ []) (string_said p.0.0 word.0 word.1) said.0;
      is_version = version.1 ∙ ap (λ (z : ℤ). Some z) (one_is version.0 said.1);
      none = refl;
      of_rows = refl;
    } in
    subst (SpellsFirst d) said.2 spelled

second_said : (d : Data) (form : SetupParts) → option_and_then second_parts (option_and_then six (elements d)) ≡ Some form → SpellsSecond d form
second_said d form e =
    let p = and_then_ok second_parts (option_and_then six (elements d)) form e in
    let ds = and_then_ok six (elements d) p.0 p.1 in
    let word = and_then_ok _ (as_str p.0.0) form p.2 in
    let version = and_then_ok _ (integer p.0.1) form word.2 in
    let number = and_then_ok _ (integer p.0.5) form version.2 in
    let retries = and_then_ok _ (retries_of number.0) form number.2 in
    let are = retries_are number.0 retries.0 retries.1 in
    let said = choice_said word.0 (is_two version.0) (form_of p.0.2 p.0.3 p.0.4 retries.0 Rows) form retries.2 in
    let spelled : SpellsSecond d (form_of p.0.2 p.0.3 p.0.4 retries.0 Rows) = record {
      version = p.0.1;
      number = p.0.5;
      is_form = elements_said d ds.0 ds.1 ∙ ap (λ (es : List Data). array (items_of es)) (six_said ds.0 p.0 ds.2) ∙ head_is p.0.0 p.0.1 word.0 (p.0.2 ∷ p.0.3 ∷ p.0.4 ∷ p.0.5 ∷ []) (string_said p.0.0 word.0 word.1) said.0;
      is_version = version.1 ∙ ap (λ (z : ℤ). Some z) (two_is version.0 said.1);
      is_number = number.1 ∙ ap (λ (z : ℤ). Some z) are.0;
      few = are.1;
      of_rows = refl;
    } in
    subst (SpellsSecond d) said.2 spelled

third_said : (d : Data) (form : SetupParts) → option_and_then third_parts (option_and_then seven (elements d)) ≡ Some form → SpellsThird d form
third_said d form e =
    let p = and_then_ok third_parts (option_and_then seven (elements d)) form e in
    let ds = and_then_ok seven (elements d) p.0 p.1 in
    let word = and_then_ok _ (as_str p.0.0) form p.2 in
    let version = and_then_ok _ (integer p.0.1) form word.2 in
    let number = and_then_ok _ (integer p.0.5) form version.2 in
    let retries = and_then_ok _ (retries_of number.0) form number.2 in
    let name = and_then_ok _ (as_str p.0.6) form retries.2 in
    let digest = and_then_ok _ (form_named name.0) form name.2 in
    let are = retries_are number.0 retries.0 retries.1 in
    let said = choice_said word.0 (is_three version.0) (form_of p.0.2 p.0.3 p.0.4 retries.0 digest.0) form digest.2 in
    let last : p.0.6 ≡ string (name_of digest.0) = string_said p.0.6 name.0 name.1 ∙ ap string (named_is name.0 digest.0 digest.1) in
    let spelled : SpellsThird d (form_of p.0.2 p.0.3 p.0.4 retries.0 digest.0) = record {
      version = p.0.1;
      number = p.0.5;
      is_form = elements_said d ds.0 ds.1 ∙ ap (λ (es : List Data). array (items_of es)) (seven_said ds.0 p.0 ds.2) ∙ head_is p.0.0 p.0.1 word.0 (p.0.2 ∷ p.0.3 ∷ p.0.4 ∷ p.0.5 ∷ p.0.6 ∷ []) (string_said p.0.0 word.0 word.1) said.0
          ∙ ap (λ (l : Data). array (items_of (string (codes "setup") ∷ p.0.1 ∷ p.0.2 ∷ p.0.3 ∷ p.0.4 ∷ p.0.5 ∷ l ∷ []))) last;
      is_version = version.1 ∙ ap (λ (z : ℤ). Some z) (three_is version.0 said.1);
      is_number = number.1 ∙ ap (λ (z : ℤ). Some z) are.0;
      few = are.1;
    } in
    subst (SpellsThird d) said.2 spelled

either : {A : Type 0} (o p : Option A) (x : A) → option_or o p ≡ Some x → (o ≡ Some x) ⊎ (p ≡ Some x)
either None p x e = inr e
either (Some y) p x e = inl e

pub form_said : (d : Data) (form : SetupParts) → setup_form d ≡ Some form → SpellsSetup d form
unfolding setup_form
form_said d form e = by (either (option_and_then first_parts (option_and_then five (elements d))) later form e)
  where
    later : Option SetupParts
    later = option_or (option_and_then second_parts (option_and_then six (elements d))) (option_and_then third_parts (option_and_then seven (elements d)))

    of_later : (option_and_then second_parts (option_and_then six (elements d)) ≡ Some form) ⊎ (option_and_then third_parts (option_and_then seven (elements d)) ≡ Some form) → SpellsSetup d form
    of_later (inl h) = inr (inl (second_said d form h))
    of_later (inr h) = inr (inr (third_said d form h))

    by : (option_and_then first_parts (option_and_then five (elements d)) ≡ Some form) ⊎ (later ≡ Some form) → SpellsSetup d form
    by (inl h) = inl (first_said d form h)
    by (inr h) = of_later (either (option_and_then second_parts (option_and_then six (elements d))) (option_and_then third_parts (option_and_then seven (elements d))) form h)

retries_again : (retries : ℕ) → retries ≤ 2 → retries_of (pos retries) ≡ Some retries
retries_again retries few = rw (le-leb retries 2 few) refl

abbrev form_in : Data → Option SetupParts
form_in d =
    option_or (option_and_then first_parts (option_and_then five (elements d)))
    (option_or (option_and_then second_parts (option_and_then six (elements d)))
    (option_and_then third_parts (option_and_then seven (elements d))))

pub form_again : (d : Data) (form : SetupParts) → SpellsSetup d form → setup_form d ≡ Some form
unfolding setup_form
form_again d form (inl h) = ap form_in h.is_form ∙ rw (h.is_version, h.none, h.of_rows) refl
form_again d form (inr (inl h)) = ap form_in h.is_form ∙ rw (h.is_version, h.is_number, retries_again form.retries h.few, h.of_rows) refl
form_again d form (inr (inr h)) = ap form_in h.is_form ∙ rw (h.is_version, h.is_number, retries_again form.retries h.few, named_again form.digest) refl

-- a document has one form
pub form_is : (d : Data) (form : SetupParts) (s : SetupShape) → setup_form d ≡ Some form → (h : SaysDocument d s) → h.form ≡ form
form_is d form s e h = some_is h.form form (sym (form_again d h.form h.is_form) ∙ e)
  where
    some_is : (x y : SetupParts) → Some x ≡ Some y → x ≡ y
    some_is x y e = cc

-- ---- answers

pub none_is : {A B : Type 0} {x : A} → ◌≡◌ {A = Option A} None (Some x) → B
none_is e = absurd cc

same_tables : (x y : List TableShape) → ◌≡◌ {A = Result (List TableShape) CatalogueFault} (Ok x) (Ok y) → x ≡ y
same_tables x y e = cc

same_procs : (x y : List ProcSyntax) → ◌≡◌ {A = Result (List ProcSyntax) ProcFault} (Ok x) (Ok y) → x ≡ y
same_procs x y e = cc

same_rows : (x y : List RowAt) → ◌≡◌ {A = Result (List RowAt) SetupFault} (Ok x) (Ok y) → x ≡ y
same_rows x y e = cc

-- ---- a setup that the document says, and a part that was read or refused

module _ (d : Data) (form : SetupParts) (s : SetupShape) where
  catalogue_of : setup_form d ≡ Some form → SaysDocument d s → SaysCatalogue form.catalogue s.tables
  catalogue_of e h = subst (λ (f : SetupParts). SaysCatalogue f.catalogue s.tables) (form_is d form s e h) h.catalogue

  procs_of : setup_form d ≡ Some form → SaysDocument d s → SaysProcs s.tables form.procs s.procs
  procs_of e h = subst (λ (f : SetupParts). SaysProcs s.tables f.procs s.procs) (form_is d form s e h) h.procs

  rows_of : setup_form d ≡ Some form → SaysDocument d s → SaysRows s.tables form.rows s.rows
  rows_of e h = subst (λ (f : SetupParts). SaysRows s.tables f.rows s.rows) (form_is d form s e h) h.rows

  pub no_catalogue : (f : CatalogueFault) → setup_form d ≡ Some form → SaysDocument d s
      → ((ts : List TableShape) → IsCatalogue ts → SaysCatalogue form.catalogue ts → catalogues.is_memory f ≡ false → ◌≡◌ {A = Result (List TableShape) CatalogueFault} (Ok ts) (Err f)) → catalogues.is_memory f ≡ false → ⊥
  no_catalogue f e h only known = let g = only s.tables h.is_catalogue (catalogue_of e h) known in cc

  -- the tables that were read are those that the document says
  tables_are : (tables : List TableShape) → setup_form d ≡ Some form → SaysDocument d s
      → ((ts : List TableShape) → IsCatalogue ts → SaysCatalogue form.catalogue ts → ◌≡◌ {A = Result (List TableShape) CatalogueFault} (Ok ts) (Ok tables)) → s.tables ≡ tables
  tables_are tables e h only = same_tables s.tables tables (only s.tables h.is_catalogue (catalogue_of e h))

  pub no_procs : (tables : List TableShape) (f : ProcFault) → setup_form d ≡ Some form → SaysDocument d s
      → ((ts : List TableShape) → IsCatalogue ts → SaysCatalogue form.catalogue ts → ◌≡◌ {A = Result (List TableShape) CatalogueFault} (Ok ts) (Ok tables))
      → ((ps : List ProcSyntax) → SaysProcs tables form.procs ps → procedures.is_memory f ≡ false → ◌≡◌ {A = Result (List ProcSyntax) ProcFault} (Ok ps) (Err f)) → procedures.is_memory f ≡ false → ⊥
  no_procs tables f e h only_tables only known =
      let says : SaysProcs tables form.procs s.procs = subst (λ (ts : List TableShape). SaysProcs ts form.procs s.procs) (tables_are tables e h only_tables) (procs_of e h) in
      let g = only s.procs says known in cc

  pub no_rows : (tables : List TableShape) (f : SetupFault) → setup_form d ≡ Some form → SaysDocument d s
      → ((ts : List TableShape) → IsCatalogue ts → SaysCatalogue form.catalogue ts → ◌≡◌ {A = Result (List TableShape) CatalogueFault} (Ok ts) (Ok tables))
      → ((rows : List RowAt) → SaysRows tables form.rows rows → is_memory f ≡ false → ◌≡◌ {A = Result (List RowAt) SetupFault} (Ok rows) (Err f)) → is_memory f ≡ false → ⊥
  no_rows tables f e h only_tables only known =
      let says : SaysRows tables form.rows s.rows = subst (λ (ts : List TableShape). SaysRows ts form.rows s.rows) (tables_are tables e h only_tables) (rows_of e h) in
      let g = only s.rows says known in cc

  pub only_parts : (tables : List TableShape) (procs : List ProcSyntax) (rows : List RowAt) → setup_form d ≡ Some form → SaysDocument d s
      → ((ts : List TableShape) → IsCatalogue ts → SaysCatalogue form.catalogue ts → ◌≡◌ {A = Result (List TableShape) CatalogueFault} (Ok ts) (Ok tables))
      → ((ps : List ProcSyntax) → SaysProcs tables form.procs ps → ◌≡◌ {A = Result (List ProcSyntax) ProcFault} (Ok ps) (Ok procs))
      → ((rs : List RowAt) → SaysRows tables form.rows rs → ◌≡◌ {A = Result (List RowAt) SetupFault} (Ok rs) (Ok rows))
      → ◌≡◌ {A = Result SetupShape SetupFault} (Ok s) (Ok (record { tables = tables; procs = procs; rows = rows; retries = form.retries; digest = form.digest }))
  only_parts tables procs rows e h only_tables only_procs only_rows =
      let same = tables_are tables e h only_tables in
      let procs_are = same_procs s.procs procs (only_procs s.procs (subst (λ (ts : List TableShape). SaysProcs ts form.procs s.procs) same (procs_of e h))) in
      let rows_are = same_rows s.rows rows (only_rows s.rows (subst (λ (ts : List TableShape). SaysRows ts form.rows s.rows) same (rows_of e h))) in
      let retries_are = h.retries ∙ ap (λ (f : SetupParts). f.retries) (form_is d form s e h) in
      let digest_is = h.digest ∙ ap (λ (f : SetupParts). f.digest) (form_is d form s e h) in
      made s.tables tables s.procs procs s.rows rows s.retries form.retries s.digest form.digest same procs_are rows_are retries_are digest_is
    where
      made : (a b : List TableShape) (p q : List ProcSyntax) (x y : List RowAt) (m n : ℕ) (v w : DigestForm) → a ≡ b → p ≡ q → x ≡ y → m ≡ n → v ≡ w
          → ◌≡◌ {A = Result SetupShape SetupFault} (Ok (record { tables = a; procs = p; rows = x; retries = m; digest = v })) (Ok (record { tables = b; procs = q; rows = y; retries = n; digest = w }))
      made a b p q x y m n v w g h i j k = rw (g, h, i, j, k) refl

-- ---- the first fault

pub in_catalogue : (d : Data) (form : SetupParts) (f : CatalogueFault) → setup_form d ≡ Some form → (f ≡ catalogue_faults.Memory) ⊎ (first (catalogue_rules.catalogue_faults form.catalogue) ≡ Some f)
    → catalogues.is_memory f ≡ false → InDocument d (Catalogue f)
in_catalogue d form f e (inl m) known = absurd (let g = sym (ap catalogues.is_memory m) ∙ known in cc)
in_catalogue d form f e (inr h) known = inr (form, e, inl (record { rule = f; is = refl; is_first = h }))

module _ (d : Data) (form : SetupParts) (tables : List TableShape) where
  pub in_procs : (f : ProcFault) → setup_form d ≡ Some form → SaysCatalogue form.catalogue tables → IsCatalogue tables → (f ≡ proc_faults.Memory) ⊎ (first (procedure_rules.procedures_faults tables form.procs) ≡ Some f)
      → procedures.is_memory f ≡ false → InDocument d (Procedure f)
  in_procs f e says is (inl m) known = absurd (let g = sym (ap procedures.is_memory m) ∙ known in cc)
  in_procs f e says is (inr h) known = inr (form, e, inr (inl (record { tables = tables; catalogue = says; is_catalogue = is; rule = f; is = refl; is_first = h })))

  pub in_rows : (procs : List ProcSyntax) (f : SetupFault) → setup_form d ≡ Some form → SaysCatalogue form.catalogue tables → IsCatalogue tables → SaysProcs tables form.procs procs
      → (is_memory f ≡ false → first (rows_faults tables form.rows) ≡ Some f) → is_memory f ≡ false → InDocument d f
  in_rows procs f e says is are h known = inr (form, e, inr (inr (record { tables = tables; catalogue = says; is_catalogue = is; procs = procs; are_procs = are; is_first = h known })))

  pub found_parts : (procs : List ProcSyntax) (rows : List RowAt) → setup_form d ≡ Some form → SaysCatalogue form.catalogue tables → IsCatalogue tables → SaysProcs tables form.procs procs → SaysRows tables form.rows rows
      → SaysDocument d (record { tables = tables; procs = procs; rows = rows; retries = form.retries; digest = form.digest })
  found_parts procs rows e says is are there = record { form = form; is_form = form_said d form e; catalogue = says; is_catalogue = is; procs = are; rows = there; retries = refl; digest = refl }

nothing_first : {F B : Type 0} (fs : List F) (f : F) → fs ≡ [] → first fs ≡ Some f → B
nothing_first fs f none h = absurd (let g = sym (ap first none) ∙ h in cc)

-- a document whose parts break no rule breaks none
pub no_break : (d : Data) (form : SetupParts) (tables : List TableShape) → setup_form d ≡ Some form
    → ((ts : List TableShape) → IsCatalogue ts → SaysCatalogue form.catalogue ts → ◌≡◌ {A = Result (List TableShape) CatalogueFault} (Ok ts) (Ok tables))
    → catalogue_rules.catalogue_faults form.catalogue ≡ [] → procedure_rules.procedures_faults tables form.procs ≡ [] → rows_faults tables form.rows ≡ []
    → (fault : SetupFault) → InDocument d fault → ⊥
no_break d form tables e only c p r fault (inl shape) = none_is (sym shape.1 ∙ e)
no_break d form tables e only c p r fault (inr (other, is, h)) = by (subst (λ (x : SetupParts). InForm x fault) (same other form (sym is ∙ e)) h)
  where
    same : (x y : SetupParts) → Some x ≡ Some y → x ≡ y
    same x y q = cc

    are : (ts : List TableShape) → IsCatalogue ts → SaysCatalogue form.catalogue ts → ts ≡ tables
    are ts is says = same_tables ts tables (only ts is says)

    by : InForm form fault → ⊥
    by (inl h) = nothing_first (catalogue_rules.catalogue_faults form.catalogue) h.rule c h.is_first
    by (inr (inl h)) =
        nothing_first (procedure_rules.procedures_faults h.tables form.procs) h.rule
        (ap (λ (ts : List TableShape). procedure_rules.procedures_faults ts form.procs) (are h.tables h.is_catalogue h.catalogue) ∙ p) h.is_first
    by (inr (inr h)) =
        nothing_first (rows_faults h.tables form.rows) fault (ap (λ (ts : List TableShape). rows_faults ts form.rows) (are h.tables h.is_catalogue h.catalogue) ∙ r) h.is_first

-- ---- what a document says in all, by its parts

pub at_no_form : (d : Data) → setup_form d ≡ None → setup_at d ≡ Err Shape
unfolding setup_at
at_no_form d e = rw e refl

module _ (d : Data) (form : SetupParts) (e : setup_form d ≡ Some form) where
  pub at_catalogue : (f : CatalogueFault) → catalogue_at form.catalogue ≡ Err f → setup_at d ≡ Err (Catalogue f)
  unfolding setup_at
  at_catalogue f h = rw (e, h) refl

  pub at_procs : (tables : List TableShape) (f : ProcFault) → catalogue_at form.catalogue ≡ Ok tables → procs_at tables form.procs ≡ Err f → setup_at d ≡ Err (Procedure f)
  unfolding setup_at
  at_procs tables f h i = rw (e, h, i) refl

  pub at_rows : (tables : List TableShape) (procs : List ProcSyntax) (f : SetupFault) → catalogue_at form.catalogue ≡ Ok tables → procs_at tables form.procs ≡ Ok procs → rows_at tables form.rows ≡ Err f → setup_at d ≡ Err f
  unfolding setup_at
  at_rows tables procs f h i j = rw (e, h, i, j) refl

  pub at_end : (tables : List TableShape) (procs : List ProcSyntax) (rows : List RowAt) → catalogue_at form.catalogue ≡ Ok tables → procs_at tables form.procs ≡ Ok procs → rows_at tables form.rows ≡ Ok rows
      → setup_at d ≡ Ok (record { tables = tables; procs = procs; rows = rows; retries = form.retries; digest = form.digest })
  unfolding setup_at
  at_end tables procs rows h i j = rw (e, h, i, j) refl

-- ---- faults

-- a text that breaks no rule is refused for want of memory alone
pub unbroken : {P : Type 0} (e : SetupFault) → (is_memory e ≡ false → P) → (P → ⊥) → is_memory e ≡ true
unbroken e h never = by (is_memory e) refl
  where
    by : (b : Bool) → is_memory e ≡ b → is_memory e ≡ true
    by true q = q
    by false q = absurd (never (h q))
