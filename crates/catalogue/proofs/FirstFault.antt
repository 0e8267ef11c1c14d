-- The fault that reading meets is the first rule that the document breaks.
use Rattle.std.proofs.Common.{◌≡◌, ℕ, ℤ, pos, negsuc, Bool, true, false, cond, not, ◌||◌, ◌&&◌, eqb, leb, ltb, List, [], ◌∷◌, ◌++◌, length, map, Some, option_map, Result, Ok, Err, refl, sym, ap, ◌∙◌, subst, inl, inr, ◌⊎◌}
use Rattle.std.specs.Str.{bytes_eq}
use Rattle.serde_json.specs.Data.{Data}
use Rattle.catalogue.specs.declared.fault.CatalogueFault.{CatalogueFault}
use Rattle.catalogue.specs.declared.fault.CatalogueFault.TheVariants.{Shape, DuplicateName, BadName, NoColumn, Limit, Memory, BadBounds}
use Rattle.values.specs.declared.value.ColType.{ColType}
use Rattle.values.specs.Names.{is_name}
use Rattle.catalogue.specs.Shapes.{ColumnShape, by_remainder, at_bounds, TableShape}
use Rattle.catalogue.specs.Reading.{is_memory, is_used, column_form, SplitForm, counted, bounded, table_form, catalogue_form, column_at, columns_at, partitions_at, bounds_at, split_at, Body, body_at, table_at, catalogue_at}
use Rattle.documents.specs.Reading.{◌>>=◌, rule, formed}
use Rattle.documents.specs.FirstFault.{broken, in_each, first, IsFirst}
use Rattle.documents.proofs.Steps.{bind_ok, rule_ok, formed_ok}
use Rattle.documents.proofs.FirstFault.{rule_first, bind_first, formed_first, rule_last, ok_first, if_first, each_first}
use Rattle.catalogue.specs.Broken.{is_among, name_of_column, in_column_form, in_column, is_partitions, are_rising, in_split, name_of_table, in_table_form, in_table, in_catalogue_form, catalogue_faults}

used_among : {X : Type 0} (name_of : X → List ℕ) (name : List ℕ) (xs : List X) → is_used name_of name xs ≡ is_among name (map name_of xs)
used_among name_of name [] = refl
used_among name_of name (x ∷ xs) = ap (λ (b : Bool). bytes_eq name (name_of x) || b) (used_among name_of name xs)

abbrev column_name : ColumnShape → List ℕ
column_name c = c.name

abbrev table_name : TableShape → List ℕ
table_name t = t.name

abbrev made_column : List ℕ × ColType → ColumnShape
made_column f = record { name = f.0; kind = f.1 }

abbrev made_table : List ℕ → Body → TableShape
made_table name body = record { name = name; split = body.split; columns = body.columns }

-- ---- columns

column_first : (before : List ColumnShape) (d : Data) → IsFirst (column_at before d) (in_column (map column_name before) d)
unfolding column_at
column_first before d = formed_first Shape (column_form d) _ (in_column_form (map column_name before)) refl (λ f.
    rule_first (is_name f.0) BadName _ (broken (not (is_among f.0 (map column_name before))) DuplicateName)
    (subst (λ (b : Bool). IsFirst (rule (not (is_used column_name f.0 before)) DuplicateName >>= λ _. Ok (made_column f)) (broken (not b) DuplicateName)) (used_among column_name f.0 before)
    (rule_last (not (is_used column_name f.0 before)) DuplicateName (made_column f))))

column_name_so : (before : List ColumnShape) (d : Data) (c : ColumnShape) → column_at before d ≡ Ok c → name_of_column d ≡ Some (column_name c)
unfolding column_at
column_name_so before d c e =
    let form = bind_ok (formed Shape (column_form d)) _ c e in
    let named = rule_ok (is_name form.0.0) BadName _ c form.2 in
    let fresh = rule_ok (not (is_used column_name form.0.0 before)) DuplicateName _ c named.1 in
    let is : record { name = form.0.0; kind = form.0.1 } ≡ c = cc in
    let is_form : column_form d ≡ Some form.0 = formed_ok Shape (column_form d) form.0 form.1 in
    ap (option_map (λ (f : List ℕ × ColType). f.0)) is_form ∙ ap (λ (x : ColumnShape). Some x.name) is

columns_first : (ds : List Data) → IsFirst (columns_at [] ds) (in_each name_of_column in_column [] ds)
columns_first ds = each_first column_name column_at name_of_column in_column column_first column_name_so [] ds

-- ---- tables

partitions_first : (z : ℤ) → IsFirst (partitions_at z) (broken (is_partitions z) Limit)
partitions_first (pos n) = if_first (leb 1 n && leb n 1024) Limit n
partitions_first (negsuc n) = refl

bound_first : (b : Bool) (n : ℕ) (zs : List ℤ) → IsFirst (bounds_at n zs) (broken (are_rising (pos n) zs) BadBounds)
    → IsFirst (cond b (Ok n) (Err BadBounds) >>= λ bound. bounds_at bound zs >>= λ others. Ok (bound ∷ others)) (broken (b && are_rising (pos n) zs) BadBounds)
bound_first true n zs h = ok_first (bounds_at n zs) (λ others. n ∷ others) (broken (are_rising (pos n) zs) BadBounds) h
bound_first false n zs h = refl

bounds_first : (least : ℕ) (zs : List ℤ) → IsFirst (bounds_at least zs) (broken (are_rising (pos least) zs) BadBounds)
bounds_first least [] = refl
bounds_first least (pos n ∷ zs) = bound_first (ltb least n) n zs (bounds_first n zs)
bounds_first least (negsuc n ∷ zs) = refl

split_first : (form : SplitForm) → IsFirst (split_at form) (in_split form)
unfolding split_at
split_first (counted z) = ok_first (partitions_at z) by_remainder (broken (is_partitions z) Limit) (partitions_first z)
split_first (bounded zs) = rule_first (leb (length zs) 1023) Limit _ (broken (are_rising (pos 0) zs) BadBounds) (ok_first (bounds_at 0 zs) at_bounds (broken (are_rising (pos 0) zs) BadBounds) (bounds_first 0 zs))

body_first : (form : SplitForm) (ds : List Data) → IsFirst (body_at form ds) (in_split form ++ (broken (not (eqb (length ds) 0)) NoColumn ++ (broken (leb (length ds) 16) Limit ++ in_each name_of_column in_column [] ds)))
unfolding body_at
body_first form ds =
    bind_first (split_at form) _ (in_split form) (broken (not (eqb (length ds) 0)) NoColumn ++ (broken (leb (length ds) 16) Limit ++ in_each name_of_column in_column [] ds)) (split_first form) (λ split _.
    rule_first (not (eqb (length ds) 0)) NoColumn _ (broken (leb (length ds) 16) Limit ++ in_each name_of_column in_column [] ds)
    (rule_first (leb (length ds) 16) Limit _ (in_each name_of_column in_column [] ds)
    (ok_first (columns_at [] ds) (λ cs. record { split = split; columns = cs }) (in_each name_of_column in_column [] ds) (columns_first ds))))

table_first : (has_bounds : Bool) (before : List TableShape) (d : Data) → IsFirst (table_at has_bounds before d) (in_table has_bounds (map table_name before) d)
unfolding table_at
table_first has_bounds before d = formed_first Shape (table_form has_bounds d) _ (in_table_form (map table_name before)) refl (λ f.
    let rest = in_split f.1 ++ (broken (not (eqb (length f.2) 0)) NoColumn ++ (broken (leb (length f.2) 16) Limit ++ in_each name_of_column in_column [] f.2)) in
    rule_first (is_name f.0) BadName _ (broken (not (is_among f.0 (map table_name before))) DuplicateName ++ rest)
    (subst (λ (b : Bool). IsFirst (rule (not (is_used table_name f.0 before)) DuplicateName >>= λ _. body_at f.1 f.2 >>= λ body. Ok (made_table f.0 body)) (broken (not b) DuplicateName ++ rest)) (used_among table_name f.0 before)
    (rule_first (not (is_used table_name f.0 before)) DuplicateName _ rest
    (ok_first (body_at f.1 f.2) (made_table f.0) rest (body_first f.1 f.2)))))

table_name_so : (has_bounds : Bool) (before : List TableShape) (d : Data) (t : TableShape) → table_at has_bounds before d ≡ Ok t → name_of_table has_bounds d ≡ Some (table_name t)
unfolding table_at
table_name_so has_bounds before d t e =
    let form = bind_ok (formed Shape (table_form has_bounds d)) _ t e in
    let named = rule_ok (is_name form.0.0) BadName _ t form.2 in
    let fresh = rule_ok (not (is_used table_name form.0.0 before)) DuplicateName _ t named.1 in
    let body = bind_ok (body_at form.0.1 form.0.2) _ t fresh.1 in
    let made : TableShape = record { name = form.0.0; split = body.0.split; columns = body.0.columns } in
    let is : made ≡ t = cc in
    let is_form : table_form has_bounds d ≡ Some form.0 = formed_ok Shape (table_form has_bounds d) form.0 form.1 in
    ap (option_map (λ (f : List ℕ × SplitForm × List Data). f.0)) is_form ∙ ap (λ (x : TableShape). Some x.name) is

-- the first rule that is broken, or none is
pub catalogue_first : (d : Data) → IsFirst (catalogue_at d) (catalogue_faults d)
unfolding catalogue_at
catalogue_first d = formed_first Shape (catalogue_form d) _ in_catalogue_form refl (λ f.
    rule_first (ltb 0 (length f.1) && leb (length f.1) 64) Limit _ (in_each (name_of_table f.0) (in_table f.0) [] f.1)
    (each_first table_name (table_at f.0) (name_of_table f.0) (in_table f.0) (table_first f.0) (table_name_so f.0) [] f.1))

fault_of : {A : Type 0} (e : CatalogueFault) (r : Result A CatalogueFault) (fs : List CatalogueFault) → IsFirst r fs → r ≡ Err e → first fs ≡ Some e
fault_of {A} e r fs i h = subst (λ (q : Result A CatalogueFault). IsFirst q fs) h i

pub none_broken : {A : Type 0} (x : A) (r : Result A CatalogueFault) (fs : List CatalogueFault) → r ≡ Ok x → IsFirst r fs → fs ≡ []
none_broken {A} x r fs h i = subst (λ (q : Result A CatalogueFault). IsFirst q fs) h i

pub fault_first : {A : Type 0} (e : CatalogueFault) (r : Result A CatalogueFault) (fs : List CatalogueFault) → (is_memory e ≡ false → r ≡ Err e) → IsFirst r fs → (e ≡ Memory) ⊎ (first fs ≡ Some e)
fault_first Memory r fs h i = inl refl
fault_first Shape r fs h i = inr (fault_of Shape r fs i (h refl))
fault_first DuplicateName r fs h i = inr (fault_of DuplicateName r fs i (h refl))
fault_first BadName r fs h i = inr (fault_of BadName r fs i (h refl))
fault_first NoColumn r fs h i = inr (fault_of NoColumn r fs i (h refl))
fault_first Limit r fs h i = inr (fault_of Limit r fs i (h refl))
fault_first BadBounds r fs h i = inr (fault_of BadBounds r fs i (h refl))

pub fault_none : {A : Type 0} (e : CatalogueFault) (r : Result A CatalogueFault) (fs : List CatalogueFault) → (is_memory e ≡ false → r ≡ Err e) → IsFirst r fs → fs ≡ [] → e ≡ Memory
fault_none e r fs h i none = elim (fault_first e r fs h i) [ inl m ↦ m | inr f ↦ absurd (let g = sym (ap first none) ∙ f in cc) ]
