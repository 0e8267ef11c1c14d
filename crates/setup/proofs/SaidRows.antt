-- Rows that are read are those that the document says, such rows are read, and a fault is the first rule that is broken.
use Rattle.std.proofs.Common.{◌≡◌, ℕ, ℤ, pos, negsuc, eqb, Bool, true, false, ◌&&◌, ◌||◌, not, List, [], ◌∷◌, ◌++◌, map, Option, Some, None, option_map, option_and_then, is_some, Result, Ok, Err, refl, sym, ap, ◌∙◌, subst, append_assoc}
use Rattle.std.specs.Prelude.{codes}
use Rattle.std.specs.List.{AllByRecursion, IsDistinct}
use Rattle.std.proofs.lemmas.List.{append-nil}
use Rattle.serde_json.specs.Data.{Data}
use Rattle.documents.specs.FirstFault.{broken, first, IsFirst}
use Rattle.documents.specs.Json.{text_number_list, versioned_list}
use Rattle.documents.specs.Reading.{◌>>=◌, formed, rule, each_at}
use Rattle.documents.proofs.FirstFault.{formed_first, rule_last, each_first}
use Rattle.documents.proofs.Said.{text_number_list_said, text_number_list_again, versioned_said, versioned_again}
use Rattle.documents.proofs.Steps.{bind_ok, rule_ok, formed_ok}
use Rattle.values.specs.declared.value.Value.{Value}
use Rattle.values.specs.Keys.{key_of}
use Rattle.catalogue.specs.Places.{table_named}
use Rattle.catalogue.specs.Rules.{Says}
use Rattle.catalogue.specs.Shapes.{TableShape}
use Rattle.setup.specs.declared.fault.SetupFault.{SetupFault}
use Rattle.setup.specs.declared.fault.SetupFault.TheVariants.{Shape, RowTable, RowKey, RowValue, RowTwice}
use Rattle.setup.specs.FirstFault.{TableKey, RowForm, table_key_of_form, table_key_said, values_for, is_taken, in_row_form, in_row, in_rows_form, rows_faults}
use Rattle.setup.specs.Faults.{is_memory}
use Rattle.setup.specs.Rows.{RowAt, row_values, is_given, row_at, rows_at}
use Rattle.setup.specs.Says.{SaysRow, same_name, SaysRows}

-- ---- names

neither : (a b : Bool) → (a || b) ≡ false → (a ≡ false) × (b ≡ false)
neither true b e = absurd cc
neither false b e = (refl, e)

unlike_push : (y : RowAt) (ys : List RowAt) (x : RowAt) → AllByRecursion (λ z. same_name y z ≡ false) ys → same_name y x ≡ false → AllByRecursion (λ z. same_name y z ≡ false) (ys ++ x ∷ [])
unlike_push y [] x h e = (e, tt)
unlike_push y (z ∷ ys) x h e = (h.0, unlike_push y ys x h.1 e)

distinct_push : (xs : List RowAt) (x : RowAt) → IsDistinct same_name xs → is_given x.0 x.1 xs ≡ false → IsDistinct same_name (xs ++ x ∷ [])
unfolding IsDistinct
distinct_push [] x d u = (tt, tt)
distinct_push (y ∷ ys) x d u =
    let both = neither (same_name y x) (is_given x.0 x.1 ys) u in
    (unlike_push y ys x d.0 both.0, distinct_push ys x d.1 both.1)

unlike_at : (y : RowAt) (ys : List RowAt) (x : RowAt) (zs : List RowAt) → AllByRecursion (λ z. same_name y z ≡ false) (ys ++ x ∷ zs) → same_name y x ≡ false
unlike_at y [] x zs h = h.0
unlike_at y (z ∷ ys) x zs h = unlike_at y ys x zs h.1

pub unused : (xs : List RowAt) (x : RowAt) (zs : List RowAt) → IsDistinct same_name (xs ++ x ∷ zs) → is_given x.0 x.1 xs ≡ false
unfolding IsDistinct
unused [] x zs d = refl
unused (y ∷ ys) x zs d =
    let here : same_name y x ≡ false = unlike_at y ys x zs d.0 in
    rw here (unused ys x zs d.1)

-- ---- what is read

pub key_found : (z : ℤ) (k : ℕ) → key_of z ≡ Some k → z ≡ pos k
key_found (pos n) k e = cc
key_found (negsuc n) k e = absurd cc

pub not_found : (b : Bool) → not b ≡ true → b ≡ false
not_found false h = refl
not_found true h = absurd cc

ok_is : {A : Type 0} (x y : A) → ◌≡◌ {A = Result A SetupFault} (Ok x) (Ok y) → x ≡ y
ok_is x y e = cc

abbrev made : ℕ → ℕ → List Value → RowAt
made table key vs = (table, key, vs)

row_found : (tables : List TableShape) (before : List RowAt) (d : Data) (row : RowAt) → row_at tables before d ≡ Ok row → SaysRow tables d row × (is_given row.0 row.1 before ≡ false)
unfolding row_at
row_found tables before d row e =
    let form = bind_ok (formed Shape (text_number_list d)) _ row e in
    let table = bind_ok (formed RowTable (table_named tables form.0.0)) _ row form.2 in
    let key = bind_ok (formed RowKey (key_of form.0.1)) _ row table.2 in
    let vs = bind_ok (formed RowValue (row_values tables table.0 form.0.2)) _ row key.2 in
    let fresh = rule_ok (not (is_given table.0 key.0 before)) RowTwice _ row vs.2 in
    let is : made table.0 key.0 vs.0 ≡ row = ok_is (made table.0 key.0 vs.0) row fresh.1 in
    let spelled = text_number_list_said d form.0.0 form.0.1 form.0.2 (formed_ok Shape (text_number_list d) form.0 form.1) in
    let says : SaysRow tables d (made table.0 key.0 vs.0) = record {
      table = form.0.0;
      key = spelled.0;
      list = form.0.2;
      is_form = spelled.1;
      is_table = formed_ok RowTable (table_named tables form.0.0) table.0 table.1;
      is_key = spelled.2 ∙ ap (λ (z : ℤ). Some z) (key_found form.0.1 key.0 (formed_ok RowKey (key_of form.0.1) key.0 key.1));
      is_row = formed_ok RowValue (row_values tables table.0 form.0.2) vs.0 vs.1;
    } in
    subst (λ (r : RowAt). SaysRow tables d r × (is_given r.0 r.1 before ≡ false)) is (says, not_found (is_given table.0 key.0 before) fresh.0)

pub row_read : (tables : List TableShape) (before : List RowAt) (d : Data) (row : RowAt) → SaysRow tables d row → is_given row.0 row.1 before ≡ false → row_at tables before d ≡ Ok row
unfolding row_at
row_read tables before d row h fresh =
    let form : text_number_list d ≡ Some (h.table, pos row.1, h.list) = ap text_number_list h.is_form ∙ text_number_list_again h.table h.key (pos row.1) h.list h.is_key in
    rw (form, h.is_table, h.is_row, fresh) refl

each_found : (tables : List TableShape) (before : List RowAt) (ds : List Data) (all : List RowAt) → IsDistinct same_name before → each_at (row_at tables) before ds ≡ Ok all
    → (new : List RowAt) × (all ≡ before ++ new) × Says (SaysRow tables) ds new × IsDistinct same_name all
each_found tables before [] all distinct e = let is : before ≡ all = ok_is before all e in ([], sym is ∙ sym (append-nil before), tt, subst (IsDistinct same_name) is distinct)
each_found tables before (d ∷ ds) all distinct e =
    let x = bind_ok (row_at tables before d) _ all e in
    let one = row_found tables before d x.0 x.1 in
    let others = each_found tables (before ++ x.0 ∷ []) ds all (distinct_push before x.0 distinct one.1) x.2 in
    (x.0 ∷ others.0, others.1 ∙ append_assoc before (x.0 ∷ []) others.0, (one.0, others.2), others.3)

each_read : (tables : List TableShape) (before : List RowAt) (ds : List Data) (xs : List RowAt) → Says (SaysRow tables) ds xs → IsDistinct same_name (before ++ xs) → each_at (row_at tables) before ds ≡ Ok (before ++ xs)
each_read tables before [] [] says distinct = ap (λ (ys : List RowAt). Ok ys) (sym (append-nil before))
each_read tables before [] (x ∷ xs) says distinct = absurd says
each_read tables before (d ∷ ds) [] says distinct = absurd says
each_read tables before (d ∷ ds) (x ∷ xs) says distinct =
    let together : (before ++ x ∷ []) ++ xs ≡ before ++ x ∷ xs = append_assoc before (x ∷ []) xs in
    rw (row_read tables before d x says.0 (unused before x xs distinct))
    (each_read tables (before ++ x ∷ []) ds xs says.1 (subst (IsDistinct same_name) (sym together) distinct) ∙ ap (λ (ys : List RowAt). Ok ys) together)

pub rows_found : (tables : List TableShape) (d : Data) (rows : List RowAt) → rows_at tables d ≡ Ok rows → SaysRows tables d rows
unfolding rows_at IsDistinct
rows_found tables d rows e =
    let ds = bind_ok (formed Shape (versioned_list (codes "rows") d)) _ rows e in
    let all = each_found tables [] ds.0 rows tt ds.2 in
    let form = versioned_said (codes "rows") d ds.0 (formed_ok Shape (versioned_list (codes "rows") d) ds.0 ds.1) in
    record { version = form.0; list = ds.0; is_form = form.1; is_version = form.2; are = subst (Says (SaysRow tables) ds.0) (sym all.1) all.2; distinct = all.3 }

pub rows_read : (tables : List TableShape) (d : Data) (rows : List RowAt) → SaysRows tables d rows → rows_at tables d ≡ Ok rows
unfolding rows_at
rows_read tables d rows h =
    let form : versioned_list (codes "rows") d ≡ Some h.list = ap (versioned_list (codes "rows")) h.is_form ∙ versioned_again (codes "rows") h.version h.list h.is_version in
    rw form (each_read tables [] h.list rows h.are h.distinct)

-- ---- the first fault

abbrev pub table_key_of : RowAt → TableKey
table_key_of r = (r.0, r.1)

pub given_taken : (table key : ℕ) (rows : List RowAt) → is_given table key rows ≡ is_taken (map table_key_of rows) (Some (table, key))
given_taken table key [] = refl
given_taken table key (r ∷ rows) = ap (λ (b : Bool). (eqb r.0 table && eqb r.1 key) || b) (given_taken table key rows)

found_first : {A B : Type 0} (fault : SetupFault) (o : Option A) (k : A → Result B SetupFault) (rest : List SetupFault) → ((x : A) → o ≡ Some x → IsFirst (k x) rest) → IsFirst (formed fault o >>= k) (broken (is_some o) fault ++ rest)
found_first fault None k rest law = refl
found_first fault (Some x) k rest law = law x refl

pub row_first : (tables : List TableShape) (before : List RowAt) (d : Data) → IsFirst (row_at tables before d) (in_row tables (map table_key_of before) d)
unfolding row_at
row_first tables before d = formed_first Shape (text_number_list d) _ (in_row_form tables (map table_key_of before)) refl (λ f.
    let twice = broken (not (is_taken (map table_key_of before) (table_key_of_form tables f))) RowTwice in
    let values = broken (is_some (values_for tables f)) RowValue in
    found_first RowTable (table_named tables f.0) _ (broken (is_some (key_of f.1)) RowKey ++ (values ++ twice)) (λ table table_is.
    found_first RowKey (key_of f.1) _ (values ++ twice) (λ key key_is. known f table key table_is key_is)))
  where
    known : (f : RowForm) (table key : ℕ) → table_named tables f.0 ≡ Some table → key_of f.1 ≡ Some key
        → IsFirst {A = RowAt} (formed RowValue (row_values tables table f.2) >>= λ vs. rule (not (is_given table key before)) RowTwice >>= λ _. Ok (made table key vs))
        (broken (is_some (values_for tables f)) RowValue ++ broken (not (is_taken (map table_key_of before) (table_key_of_form tables f))) RowTwice)
    known f table key t k =
        let places : table_key_of_form tables f ≡ Some (table, key) = ap (option_and_then (λ (t : ℕ). option_map (λ (key : ℕ). (t, key)) (key_of f.1))) t ∙ ap (option_map (λ (key : ℕ). (table, key))) k in
        let values : values_for tables f ≡ row_values tables table f.2 = ap (option_and_then (λ (t : ℕ). row_values tables t f.2)) t in
        rw (places, values, ← given_taken table key before)
        (found_first RowValue (row_values tables table f.2) (λ vs. rule (not (is_given table key before)) RowTwice >>= λ _. Ok (made table key vs)) (broken (not (is_given table key before)) RowTwice) (λ vs _.
        rule_last (not (is_given table key before)) RowTwice (made table key vs)))

pub table_key_so : (tables : List TableShape) (before : List RowAt) (d : Data) (row : RowAt) → row_at tables before d ≡ Ok row → table_key_said tables d ≡ Some (table_key_of row)
table_key_so tables before d row e =
    let h = (row_found tables before d row e).0 in
    let form : text_number_list d ≡ Some (h.table, pos row.1, h.list) = ap text_number_list h.is_form ∙ text_number_list_again h.table h.key (pos row.1) h.list h.is_key in
    ap (option_and_then (table_key_of_form tables)) form ∙ ap (option_and_then (λ (t : ℕ). option_map (λ (key : ℕ). (t, key)) (key_of (pos row.1)))) h.is_table

pub rows_first : (tables : List TableShape) (d : Data) → IsFirst (rows_at tables d) (rows_faults tables d)
unfolding rows_at
rows_first tables d = formed_first Shape (versioned_list (codes "rows") d) _ (in_rows_form tables) refl (λ ds.
    each_first table_key_of (row_at tables) (table_key_said tables) (in_row tables) (row_first tables) (table_key_so tables) [] ds)

pub none_broken : {A : Type 0} (x : A) (r : Result A SetupFault) (fs : List SetupFault) → r ≡ Ok x → IsFirst r fs → fs ≡ []
none_broken {A} x r fs h i = subst (λ (q : Result A SetupFault). IsFirst q fs) h i

pub fault_first : {A : Type 0} (e : SetupFault) (r : Result A SetupFault) (fs : List SetupFault) → IsFirst r fs → r ≡ Err e → first fs ≡ Some e
fault_first {A} e r fs i h = subst (λ (q : Result A SetupFault). IsFirst q fs) h i

-- a document that breaks no rule is refused for want of memory alone
pub fault_none : {A : Type 0} (e : SetupFault) (r : Result A SetupFault) (fs : List SetupFault) → (is_memory e ≡ false → r ≡ Err e) → IsFirst r fs → fs ≡ [] → is_memory e ≡ true
fault_none e r fs h i none = by (is_memory e) refl
  where
    by : (b : Bool) → is_memory e ≡ b → is_memory e ≡ true
    by true q = q
    by false q = absurd (let g = sym (ap first none) ∙ fault_first e r fs i (h q) in cc)
