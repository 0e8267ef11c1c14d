-- What is read is a catalogue that the document says, and such a catalogue is read.
use Rattle.std.proofs.Common.{◌≡◌, ℕ, ℤ, pos, negsuc, Bool, true, false, not, ◌&&◌, eqb, leb, ltb, Some, List, [], ◌∷◌, length, map, Result, Ok, refl, sym, ap, ◌∙◌, subst, arith, ◌≤◌, inl, inr}
use Rattle.std.specs.Prelude.{⊤}
use Rattle.std.specs.Str.{bytes_eq}
use Rattle.std.specs.List.{AllByRecursion, IsDistinct}
use Rattle.std.proofs.lemmas.Bool.{leb-true, le-leb, eqb-false, ltb-true, lt-ltb, ne_eqb}
use Rattle.std.proofs.lemmas.List.{length-map}
use Rattle.serde_json.specs.Data.{Data}
use Rattle.catalogue.specs.declared.fault.CatalogueFault.{CatalogueFault}
use Rattle.catalogue.specs.declared.fault.CatalogueFault.TheVariants.{Shape, Limit, BadName, DuplicateName, NoColumn}
use Rattle.values.specs.Names.{is_name}
use Rattle.catalogue.specs.Shapes.{ColumnShape, SplitShape, by_remainder, at_bounds, TableShape}
use Rattle.documents.specs.Reading.{formed}
use Rattle.documents.proofs.Steps.{bind_ok, rule_ok, formed_ok}
use Rattle.catalogue.specs.Reading.{is_used, is_column, is_table, column_form, SplitForm, counted, bounded, split_form, table_form, catalogue_form, column_at, columns_at, partitions_at, bounds_at, split_at, Body, body_at, table_at, tables_at, catalogue_at}
use Rattle.catalogue.specs.Rules.{AreNamed, IsSplit, IsTable, IsCatalogue, Says, SaysColumn, SaysNumber, SaysSplit, SaysTable, IsByRemainder, IsOfVersion, SaysCatalogue}
use Rattle.catalogue.specs.Bounds.{IsSigned}
use Rattle.catalogue.proofs.Steps.{body_is}
use Rattle.catalogue.proofs.Bounds.{bounds_found, bounds_read}
use Rattle.catalogue.proofs.Forms.{column_said, column_again, split_said, counted_again, bounded_again, table_said, table_again, VersionSaid, catalogue_said, catalogue_again}
use Rattle.catalogue.proofs.Named.{Found, each_found, each_again, says_len}

abbrev column_name : ColumnShape → List ℕ
column_name c = c.name

abbrev table_name : TableShape → List ℕ
table_name t = t.name

abbrev ColumnFits : ColumnShape → Type 0
ColumnFits c = is_name c.name ≡ true

not_true : (b : Bool) → not b ≡ true → b ≡ false
not_true true e = absurd cc
not_true false e = refl

abbrev done : {A : Type 0} → A → Result A CatalogueFault
done x = Ok x

-- ---- columns

column_found : (before : List ColumnShape) (d : Data) (c : ColumnShape) → column_at before d ≡ Ok c → SaysColumn d c × ColumnFits c × (is_used column_name (column_name c) before ≡ false)
unfolding column_at
column_found before d c e =
    let form = bind_ok (formed Shape (column_form d)) _ c e in
    let named = rule_ok (is_name form.0.0) BadName _ c form.2 in
    let fresh = rule_ok (not (is_column form.0.0 before)) DuplicateName _ c named.1 in
    let is : record { name = form.0.0; kind = form.0.1 } ≡ c = cc in
    subst (λ (x : ColumnShape). SaysColumn d x × ColumnFits x × (is_used column_name (column_name x) before ≡ false)) is
    (column_said d form.0.0 form.0.1 (formed_ok Shape (column_form d) form.0 form.1), named.0, not_true _ fresh.0)

column_read : (before : List ColumnShape) (d : Data) (c : ColumnShape) → SaysColumn d c → ColumnFits c → is_used column_name (column_name c) before ≡ false → column_at before d ≡ Ok c
unfolding column_at
column_read before d c says fits fresh =
    let form : column_form d ≡ Some (c.name, c.kind) = ap column_form says.1 ∙ column_again c.name says.0 c.kind says.2 in
    rw (form, fits, fresh) refl

columns_found : (ds : List Data) (cs : List ColumnShape) → columns_at [] ds ≡ Ok cs → Found column_name column_at SaysColumn ColumnFits [] ds cs
unfolding IsDistinct
columns_found ds cs e = each_found column_name column_at SaysColumn ColumnFits column_found [] ds cs tt e

-- ---- tables

partitions_found : (z : ℤ) (n : ℕ) → partitions_at z ≡ Ok n → (z ≡ pos n) × (1 ≤ n) × (n ≤ 1024)
partitions_found (negsuc m) n e = absurd cc
partitions_found (pos m) n e = by (leb 1 m) (leb m 1024) refl refl
  where
    by : (a b : Bool) → leb 1 m ≡ a → leb m 1024 ≡ b → (pos m ≡ pos n) × (1 ≤ n) × (n ≤ 1024)
    by true true p q = let is : m ≡ n = (let h = rw (p, q) at e in cc) in (ap pos is, rw (← is) (leb-true 1 m p), rw (← is) (leb-true m 1024 q))
    by true false p q = absurd (let h = rw (p, q) at e in cc)
    by false b p q = absurd (let h = rw p at e in cc)

partitions_read : (n : ℕ) → 1 ≤ n → n ≤ 1024 → partitions_at (pos n) ≡ Ok n
partitions_read n a b = rw (le-leb 1 n a, le-leb n 1024 b) refl

not_empty : {A : Type 0} (xs : List A) → not (eqb (length xs) 0) ≡ true → 1 ≤ length xs
not_empty xs e = let h = eqb-false (length xs) 0 (not_true _ e) in omega (arith, h)

-- ---- splits

-- version 1 has no bounds
abbrev Takes : Bool → SplitShape → Type 0
Takes true s = ⊤
Takes false s = (count : ℕ) × (s ≡ by_remainder count)

takes_count : (has_bounds : Bool) (count : ℕ) → Takes has_bounds (by_remainder count)
takes_count true count = tt
takes_count false count = (count, refl)

abbrev SplitFound : Bool → Data → SplitShape → Type 0
SplitFound has_bounds d s = SaysSplit d s × (IsSigned s → IsSplit s) × Takes has_bounds s

split_found : (has_bounds : Bool) (d : Data) (form : SplitForm) (s : SplitShape) → split_form has_bounds d ≡ Some form → split_at form ≡ Ok s → SplitFound has_bounds d s
unfolding split_at
split_found has_bounds d (counted z) s f e =
    let n = bind_ok (partitions_at z) _ s e in
    let p = partitions_found z n.0 n.1 in
    let is : by_remainder n.0 ≡ s = (let h = n.2 in cc) in
    let said = split_said has_bounds d (counted z) f in
    subst (SplitFound has_bounds d) is (said ∙ ap (λ (y : ℤ). Some y) p.0, λ _. (p.1, p.2), takes_count has_bounds n.0)
split_found has_bounds d (bounded zs) s f e =
    let few = rule_ok (leb (length zs) 1023) Limit _ s e in
    let bs = bind_ok (bounds_at 0 zs) _ s few.1 in
    let is : at_bounds bs.0 ≡ s = (let h = bs.2 in cc) in
    let said = split_said has_bounds d (bounded zs) f in
    let found = bounds_found 0 said.1 zs bs.0 said.3 bs.1 in
    let takes : Takes has_bounds (at_bounds bs.0) = rw said.0 tt in
    let sound : IsSigned (at_bounds bs.0) → IsSplit (at_bounds bs.0) = λ signed. record { few = rw (← found.len) (leb-true (length zs) 1023 few.0); rising = found.rising; signed = signed } in
    subst (SplitFound has_bounds d) is ((said.1, said.2, found.says), sound, takes)

split_read : (has_bounds : Bool) (d : Data) (s : SplitShape) → SaysSplit d s → IsSplit s → Takes has_bounds s → (form : SplitForm) × (split_form has_bounds d ≡ Some form) × (split_at form ≡ Ok s)
unfolding split_at
split_read has_bounds d (by_remainder n) says is takes = (counted (pos n), counted_again has_bounds d (pos n) says, rw (partitions_read n is.0 is.1) refl)
split_read false d (at_bounds bs) says is takes = absurd (let h = takes.1 in cc)
split_read true d (at_bounds bs) says is takes =
    let read = bounds_read 0 says.0 bs says.2 is.rising in
    let few : leb (length (map pos bs)) 1023 ≡ true = rw length-map (le-leb (length bs) 1023 is.few) in
    (bounded (map pos bs), ap (split_form true) says.1 ∙ bounded_again says.0 (map pos bs) read.0, rw (few, read.1) refl)

-- ---- tables

abbrev HasColumns : List ColumnShape → Type 0
HasColumns = AreNamed column_name 16

body_found : (form : SplitForm) (ds : List Data) (b : Body) → body_at form ds ≡ Ok b → (split_at form ≡ Ok b.split) × Says SaysColumn ds b.columns × HasColumns b.columns
unfolding body_at
body_found form ds b e =
    let split = bind_ok (split_at form) _ b e in
    let some = rule_ok (not (eqb (length ds) 0)) NoColumn _ b split.2 in
    let few = rule_ok (leb (length ds) 16) Limit _ b some.1 in
    let cs = bind_ok (columns_at [] ds) _ b few.1 in
    let f = columns_found ds cs.0 cs.1 in
    let same : cs.0 ≡ f.new = f.is in
    let len : length ds ≡ length f.new = says_len column_name column_at SaysColumn ColumnFits ds f.new f.says in
    let named : HasColumns f.new = record {
      some = rw (← len) (not_empty ds some.0);
      few = rw (← len) (leb-true (length ds) 16 few.0);
      names = f.fits;
      distinct = subst (λ (ys : List ColumnShape). IsDistinct bytes_eq (map column_name ys)) same f.distinct;
    } in
    let made : Body = record { split = split.0; columns = f.new } in
    let read : Body = record { split = split.0; columns = cs.0 } in
    let alike : made ≡ read = ap (λ (ys : List ColumnShape). record { split = split.0; columns = ys }) (sym same) in
    let is : made ≡ b = alike ∙ cs_is split.0 cs.0 b cs.2 in
    subst (λ (x : Body). (split_at form ≡ Ok x.split) × Says SaysColumn ds x.columns × HasColumns x.columns) is (split.1, f.says, named)
  where
    cs_is : (s : SplitShape) (cs : List ColumnShape) (b : Body) → done (record { split = s; columns = cs }) ≡ done b → record { split = s; columns = cs } ≡ b
    cs_is s cs b e = cc

body_read : (form : SplitForm) (t : TableShape) (ds : List Data) → split_at form ≡ Ok t.split → Says SaysColumn ds t.columns → HasColumns t.columns → body_at form ds ≡ Ok (record { split = t.split; columns = t.columns })
body_read form t ds split says named =
    let len : length ds ≡ length t.columns = says_len column_name column_at SaysColumn ColumnFits ds t.columns says in
    let some : eqb (length ds) 0 ≡ false = rw len (ne_eqb (length t.columns) 0 (λ z. let h = named.some in omega (arith, h, z))) in
    let few : leb (length ds) 16 ≡ true = rw len (le-leb (length t.columns) 16 named.few) in
    let cs : columns_at [] ds ≡ Ok t.columns = each_again column_name column_at SaysColumn ColumnFits column_read [] ds t.columns says named.names named.distinct in
    body_is form ds t.split t.columns split some few cs

abbrev IsFound : Bool → TableShape → Type 0
IsFound has_bounds t = (is_name t.name ≡ true) × (IsSigned t.split → IsTable t) × Takes has_bounds t.split

abbrev IsTaken : Bool → TableShape → Type 0
IsTaken has_bounds t = (is_name t.name ≡ true) × IsTable t × Takes has_bounds t.split

table_found : (has_bounds : Bool) (before : List TableShape) (d : Data) (t : TableShape) → table_at has_bounds before d ≡ Ok t → SaysTable d t × IsFound has_bounds t × (is_used table_name (table_name t) before ≡ false)
unfolding table_at
table_found has_bounds before d t e =
    let form = bind_ok (formed Shape (table_form has_bounds d)) _ t e in
    let named = rule_ok (is_name form.0.0) BadName _ t form.2 in
    let fresh = rule_ok (not (is_table form.0.0 before)) DuplicateName _ t named.1 in
    let body = bind_ok (body_at form.0.1 form.0.2) _ t fresh.1 in
    let b = body_found form.0.1 form.0.2 body.0 body.1 in
    let said = table_said has_bounds d form.0 (formed_ok Shape (table_form has_bounds d) form.0 form.1) in
    let split = split_found has_bounds said.0 form.0.1 body.0.split said.2 b.0 in
    let made : TableShape = record { name = form.0.0; split = body.0.split; columns = body.0.columns } in
    let is : made ≡ t = cc in
    subst (λ (x : TableShape). SaysTable d x × IsFound has_bounds x × (is_used table_name (table_name x) before ≡ false)) is
    ((said.0, form.0.2, said.1, split.0, b.1), (named.0, λ signed. record { split = split.1 signed; columns = b.2 }, split.2), not_true _ fresh.0)

table_read : (has_bounds : Bool) (before : List TableShape) (d : Data) (t : TableShape) → SaysTable d t → IsTaken has_bounds t → is_used table_name (table_name t) before ≡ false → table_at has_bounds before d ≡ Ok t
unfolding table_at
table_read has_bounds before d t says fits fresh =
    let split = split_read has_bounds says.0 t.split says.3 fits.1.split fits.2 in
    let form : table_form has_bounds d ≡ Some (t.name, split.0, says.1) = ap (table_form has_bounds) says.2 ∙ table_again has_bounds t.name says.0 split.0 says.1 split.1 in
    let body : body_at split.0 says.1 ≡ Ok (record { split = t.split; columns = t.columns }) = body_read split.0 t says.1 split.2 says.4 fits.1.columns in
    rw (form, fits.0, fresh, body) refl

tables_found : (has_bounds : Bool) (ds : List Data) (ts : List TableShape) → tables_at has_bounds [] ds ≡ Ok ts → Found table_name (table_at has_bounds) SaysTable (IsFound has_bounds) [] ds ts
unfolding IsDistinct
tables_found has_bounds ds ts e = each_found table_name (table_at has_bounds) SaysTable (IsFound has_bounds) (table_found has_bounds) [] ds ts tt e

-- ---- lists of tables

names_of : (has_bounds : Bool) (ts : List TableShape) → AllByRecursion (IsFound has_bounds) ts → AllByRecursion (λ t. is_name (table_name t) ≡ true) ts
names_of has_bounds [] h = tt
names_of has_bounds (t ∷ ts) h = (h.0.0, names_of has_bounds ts h.1)

tables_of : (has_bounds : Bool) (ts : List TableShape) → AllByRecursion (IsFound has_bounds) ts → AllByRecursion (λ t. IsSigned t.split) ts → AllByRecursion IsTable ts
tables_of has_bounds [] h k = tt
tables_of has_bounds (t ∷ ts) h k = (h.0.1 k.0, tables_of has_bounds ts h.1 k.1)

taken_of : (has_bounds : Bool) (ts : List TableShape) → AllByRecursion (λ t. is_name (table_name t) ≡ true) ts → AllByRecursion IsTable ts → AllByRecursion (λ t. Takes has_bounds t.split) ts → AllByRecursion (IsTaken has_bounds) ts
taken_of has_bounds [] h k l = tt
taken_of has_bounds (t ∷ ts) h k l = ((h.0, k.0, l.0), taken_of has_bounds ts h.1 k.1 l.1)

-- ---- versions

all_by_remainder : (ts : List TableShape) → AllByRecursion (IsFound false) ts → AllByRecursion IsByRemainder ts
all_by_remainder [] h = tt
all_by_remainder (t ∷ ts) h = (h.0.2, all_by_remainder ts h.1)

version_found : (version : ℕ) (has_bounds : Bool) (ts : List TableShape) → VersionSaid version has_bounds → AllByRecursion (IsFound has_bounds) ts → IsOfVersion version ts
version_found version has_bounds ts (inl e) h = inl (e.0, all_by_remainder ts (subst (λ (b : Bool). AllByRecursion (IsFound b) ts) e.1 h))
version_found version has_bounds ts (inr e) h = inr e.0

any_taken : (ts : List TableShape) → AllByRecursion (λ t. Takes true t.split) ts
any_taken [] = tt
any_taken (t ∷ ts) = (tt, any_taken ts)

version_read : (version : ℕ) (ts : List TableShape) → IsOfVersion version ts → (has_bounds : Bool) × VersionSaid version has_bounds × AllByRecursion (λ t. Takes has_bounds t.split) ts
version_read version ts (inl e) = (false, inl (e.0, refl), e.1)
version_read version ts (inr e) = (true, inr (e, refl), any_taken ts)

-- ---- the whole

within : (n : ℕ) → (ltb 0 n && leb n 64) ≡ true → (1 ≤ n) × (n ≤ 64)
within n e = by (ltb 0 n) (leb n 64) refl refl
  where
    by : (a b : Bool) → ltb 0 n ≡ a → leb n 64 ≡ b → (1 ≤ n) × (n ≤ 64)
    by true true p q = (let h = ltb-true 0 n p in omega (arith, h), leb-true n 64 q)
    by true false p q = absurd (let h = rw (p, q) at e in cc)
    by false b p q = absurd (let h = rw p at e in cc)

-- what is read is a catalogue, and the document says it
pub catalogue_found : (d : Data) (ts : List TableShape) → catalogue_at d ≡ Ok ts → AllByRecursion (λ t. IsSigned t.split) ts → SaysCatalogue d ts × IsCatalogue ts
unfolding catalogue_at
catalogue_found d ts e signed =
    let form = bind_ok (formed Shape (catalogue_form d)) _ ts e in
    let has_bounds : Bool = form.0.0 in
    let docs : List Data = form.0.1 in
    let count = rule_ok (ltb 0 (length docs) && leb (length docs) 64) Limit _ ts form.2 in
    let f = tables_found has_bounds docs ts count.1 in
    let said = catalogue_said d form.0 (formed_ok Shape (catalogue_form d) form.0 form.1) in
    let same : ts ≡ f.new = f.is in
    let len : length docs ≡ length f.new = says_len table_name (table_at has_bounds) SaysTable (IsFound has_bounds) docs f.new f.says in
    let w = within (length docs) count.0 in
    let all : IsCatalogue f.new = record {
      named = record {
        some = rw (← len) w.0;
        few = rw (← len) w.1;
        names = names_of has_bounds f.new f.fits;
        distinct = subst (λ (ys : List TableShape). IsDistinct bytes_eq (map table_name ys)) same f.distinct;
      };
      tables = tables_of has_bounds f.new f.fits (subst (AllByRecursion (λ t. IsSigned t.split)) same signed);
    } in
    let version : (version : ℕ) × SaysNumber said.0 version × IsOfVersion version f.new = (said.2, said.3, version_found said.2 has_bounds f.new said.4 f.fits) in
    subst (λ (ys : List TableShape). SaysCatalogue d ys × IsCatalogue ys) (sym same) ((said.0, docs, said.1, version, f.says), all)

-- and a catalogue that the document says is what is read
pub catalogue_read : (d : Data) (ts : List TableShape) → SaysCatalogue d ts → IsCatalogue ts → catalogue_at d ≡ Ok ts
unfolding catalogue_at
catalogue_read d ts says is =
    let docs : List Data = says.1 in
    let version = version_read says.3.0 ts says.3.2 in
    let has_bounds : Bool = version.0 in
    let form : catalogue_form d ≡ Some (has_bounds, docs) = ap catalogue_form says.2 ∙ catalogue_again says.0 says.3.0 has_bounds docs says.3.1 version.1 in
    let len : length docs ≡ length ts = says_len table_name (table_at has_bounds) SaysTable (IsTaken has_bounds) docs ts says.4 in
    let some : ltb 0 (length docs) ≡ true = rw len (lt-ltb 0 (length ts) (let h = is.named.some in omega (arith, h))) in
    let few : leb (length docs) 64 ≡ true = rw len (le-leb (length ts) 64 is.named.few) in
    let fits = taken_of has_bounds ts is.named.names is.tables version.2 in
    rw (form, some, few) (each_again table_name (table_at has_bounds) SaysTable (IsTaken has_bounds) (table_read has_bounds) [] docs ts says.4 fits is.named.distinct)
