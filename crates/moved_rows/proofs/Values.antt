-- Calls that store values that columns can hold leave such rows.
use Rattle.std.proofs.Common.{◌≡◌, ◌<◌, ◌^◌, ℕ, zero, suc, ℤ, pos, negsuc, Bool, true, false, cond, List, [], ◌∷◌, ◌++◌, length, map, take, Option, Some, None, Result, Ok, Err, unwrap_or, slice_get, slice_set, refl, sym, ap, ◌∙◌, subst, arith}
use Rattle.std.specs.Prelude.{◌==◌, ⊤, if◌then◌else◌}
use Rattle.std.specs.List.{AllByRecursion}
use Rattle.std.specs.Ordering.{eq_by_cmp}
use Rattle.std.specs.FinMap.{entries, get, len, get-insert, get-remove, insert, remove}
use Rattle.std.proofs.lemmas.Bool.{lt-ltb, ltb-true}
use Rattle.std.proofs.lemmas.Str.{IsUtf8-nil}
use Rattle.values.specs.declared.name.RowName.{RowName}
use Rattle.values.specs.declared.value.Value.{Value}
use Rattle.values.specs.declared.value.Value.TheVariants as values
use Rattle.values.specs.Database.{Database, RowOf, name_cmp}
use Rattle.catalogue.specs.Shapes.{TableShape}
use Rattle.catalogue.specs.Places.{partition_numbered}
use Rattle.proclang_types.specs.declared.right.Right.{Right}
use Rattle.proclang_types.specs.Syntax as syntax
use Rattle.proclang_types.specs.Syntax.{IntSyntax, TextSyntax, BoolSyntax, ValueSyntax, StmtSyntax, BlockSyntax}
use Rattle.footprint.specs.declared.abort_code.AbortCode.{AbortCode}
use Rattle.footprint.specs.declared.abort_code.AbortCode.TheVariants.{Overflow}
use Rattle.footprint.specs.declared.resource.Resource.{Resource}
use Rattle.footprint.specs.Arithmetic.{is_int, result_of}
use Rattle.footprint.specs.Declaration.{number_or}
use Rattle.footprint.specs.Rights.{FootprintOf, covers}
use Rattle.meaning.specs.declared.outcome.Ending.{Ending}
use Rattle.meaning.specs.Entries.{EntryShape, Footing, declares, faults, finds, finished, meaning, meaning_by, nothing, start}
use Rattle.meaning.specs.Meaning.{StandIn, bool_of, chosen, effect, in_order, int_of, text_of, text_or, turns, value_of, values_of}
use Rattle.meaning.specs.Partitions.{is_in_part, keys_of, part_rows, total}
use Rattle.meaning.specs.Runs.{State, Ran, AccessRule, absent, accessed, alter, and_then, computed, continued, covered, declare, int_result, look, ok, part_accessed, part_there, passing, present, provided, remove_row, replying, row_now, scoped, set_row, set_variable, step, tested_key, with_variable}
use Rattle.meaning.specs.Serial.{serial_end}
use Rattle.meaning.proofs.Partitions.{get_part}
use Rattle.row_text.proofs.MergedRows.{Rows, exact_names, names_total}
use Rattle.rows_document.specs.Said.{IsValue}
use Rattle.rows_document.proofs.Ordered.{equal, every_row}
use Rattle.moved_rows.specs.Stored.{AllStoreValues, HasInts, HasValues, IsValueCall, StoresValues}
use Rattle.moved_rows.proofs.Ranges.{GivesInt, IsInt, between_gives, result_gives}

-- ---- values in lists

abbrev All : List Value → Type 0
All vs = AllByRecursion IsValue vs

all_push : (vs : List Value) (v : Value) → All vs → IsValue v → All (vs ++ v ∷ [])
all_push [] v h k = (k, tt)
all_push (w ∷ vs) v h k = (h.0, all_push vs v h.1 k)

all_set : (vs : List Value) (place : ℕ) (v : Value) → All vs → IsValue v → All (slice_set vs place v)
all_set [] place v h k = tt
all_set (w ∷ vs) zero v h k = (k, h.1)
all_set (w ∷ vs) (suc place) v h k = (h.0, all_set vs place v h.1 k)

all_take : (vs : List Value) (count : ℕ) → All vs → All (take count vs)
all_take vs zero h = tt
all_take [] (suc count) h = tt
all_take (v ∷ vs) (suc count) h = (h.0, all_take vs count h.1)

all_with : (vs : List Value) (place : ℕ) (v : Value) → All vs → IsValue v → All (with_variable vs place v)
all_with vs place v h k = by (place == length vs)
  where
    by : (b : Bool) → All (if b then vs ++ v ∷ [] else slice_set vs place v)
    by true = all_push vs v h k
    by false = all_set vs place v h k

-- a text that a column can hold
abbrev IsText : List ℕ → Type 0
IsText s = IsValue (values.Text s)

text_at : (vs : List Value) (place : ℕ) (other : List ℕ) → All vs → IsText other → IsText (text_or other (slice_get vs place))
text_at [] place other h k = k
text_at (values.Int z ∷ vs) zero other h k = k
text_at (values.Text s ∷ vs) zero other h k = h.0
text_at (v ∷ vs) (suc place) other h k = text_at vs place other h.1 k

int_at : (vs : List Value) (place : ℕ) (other : ℤ) → All vs → IsInt other → IsInt (number_or other (slice_get vs place))
int_at [] place other h k = k
int_at (values.Int z ∷ vs) zero other h k = record { is = h.0 }
int_at (values.Text s ∷ vs) zero other h k = k
int_at (v ∷ vs) (suc place) other h k = int_at vs place other h.1 k

value_at : (vs : List Value) (place : ℕ) (z : ℤ) → All vs → IsInt z → IsValue (unwrap_or (slice_get vs place) (values.Int z))
value_at [] place z h k = k.is
value_at (v ∷ vs) zero z h k = h.0
value_at (v ∷ vs) (suc place) z h k = value_at vs place z h.1 k

-- ---- rows

-- a key below 2^63, and values that columns can hold
abbrev IsHeldAt : RowName → RowOf → Type 0
IsHeldAt name row = (name.key < 2 ^ 63) × All row

-- so is each row of the database
abbrev pub AreHeld : Database → Type 0
AreHeld db = (name : RowName) (row : RowOf) → get db name ≡ Some row → (name.key < 2 ^ 63) × AllByRecursion IsValue row

held_is : (name other : RowName) (row found : RowOf) → eq_by_cmp name_cmp other name ≡ true → row ≡ found → IsHeldAt name row → IsHeldAt other found
held_is name other row found t same k = subst (λ (x : RowName). IsHeldAt x found) (sym (exact_names other name (equal _ t))) (subst (IsHeldAt name) same k)

put_held : (db : Database) (name : RowName) (row : RowOf) → AreHeld db → IsHeldAt name row → AreHeld (insert db name row)
put_held db name row h k q found e = by (eq_by_cmp name_cmp q name) refl
  where
    by : (b : Bool) → eq_by_cmp name_cmp q name ≡ b → IsHeldAt q found
    by true t =
        let is = sym (ap (λ (c : Bool). cond c (Some row) (get db q)) t) ∙ sym (get-insert names_total db name row q) ∙ e in
        held_is name q row found t (cc) k
    by false t = h q found (sym (ap (λ (c : Bool). cond c (Some row) (get db q)) t) ∙ sym (get-insert names_total db name row q) ∙ e)

remove_held : (db : Database) (name : RowName) → AreHeld db → AreHeld (remove db name)
remove_held db name h q found e = by (eq_by_cmp name_cmp q name) (sym (get-remove names_total db name q) ∙ e)
  where
    by : (b : Bool) → cond b None (get db q) ≡ Some found → IsHeldAt q found
    by true is = absurd cc
    by false is = h q found is

part_held : (tables : List TableShape) (table part : ℕ) (db : Database) → AreHeld db → AreHeld (part_rows tables table part db)
part_held tables table part db h q found e = by (is_in_part tables table part q) (sym (get_part tables table part db q) ∙ e)
  where
    by : (b : Bool) → cond b (get db q) None ≡ Some found → IsHeldAt q found
    by true is = h q found is
    by false is = absurd cc

key_is : (n : ℕ) → n < 2 ^ 63 → IsInt (pos n)
key_is n h = record { is = lt-ltb n (2 ^ 63) h }

keys_in : (es : Rows) → AllByRecursion (λ (e : RowName × RowOf). e.0.key < 2 ^ 63) es → AllByRecursion IsInt (map pos (keys_of es))
keys_in [] h = tt
keys_in (e ∷ es) h = (key_is e.0.key h.0, keys_in es h.1)

keys_held : (db : Database) → AreHeld db → AllByRecursion IsInt (map pos (keys_of (entries db)))
keys_held db h = keys_in (entries db) (every_row (λ name row. name.key < 2 ^ 63) db (λ name row e. (h name row e).0))

-- ---- parts of a run

record IsGood (st : State) : Type 0 where
  rows : AreHeld st.rows
  variables : All st.variables

abbrev After : {A : Type 0} → (A → Type 0) → Result A Ending × State → Type 0
After P (Ok x, st) = P x × IsGood st
After P (Err e, st) = IsGood st

abbrev Keeps : {A : Type 0} → (A → Type 0) → Ran A → Type 0
Keeps P f = (st : State) → IsGood st → After P (f st)

-- nothing is asked of a value
record Any {A : Type 0} (x : A) : Type 0 where
  any : ⊤

yes : {A : Type 0} (x : A) → Any x
yes x = record { any = tt }

k_then : {A B : Type 0} (P : A → Type 0) (Q : B → Type 0) (f : Ran A) (g : A → Ran B) → Keeps P f → ((x : A) → P x → Keeps Q (g x)) → Keeps Q (and_then f g)
unfolding and_then
k_then {A} P Q f g h k st good = by (f st) (h st good)
  where
    by : (r : Result A Ending × State) → After P r → After Q (continued r g)
    by (Ok x, s) a = k x a.0 s a.1
    by (Err e, s) a = a

k_ok : {A : Type 0} (P : A → Type 0) (x : A) → P x → Keeps P (ok x)
k_ok P x p st good = (p, good)

k_look : {A : Type 0} (P : A → Type 0) (f : State → A) → ((st : State) → IsGood st → P (f st)) → Keeps P (look f)
k_look P f h st good = (h st good, good)

k_alter : (f : State → State) → ((st : State) → IsGood st → IsGood (f st)) → Keeps Any (alter f)
k_alter f h st good = (yes tt, h st good)

k_provided : {A : Type 0} (P : A → Type 0) (b : Bool) (code : AbortCode) (x : A) → P x → Keeps P (provided b code x)
k_provided P true code x p st good = (p, good)
k_provided P false code x p st good = good

k_step : Keeps Any step
k_step = k_then Any Any _ _ (k_look Any _ (λ st good. yes _)) (λ taken p. k_then Any Any _ _ (k_provided Any _ _ _ (yes _)) (λ more q. k_alter _ (λ st good. record { rows = good.rows; variables = good.variables })))

k_computed : (r : Result ℤ AbortCode) → GivesInt r → Keeps IsInt (computed r)
k_computed (Ok x) h st good = (h, good)
k_computed (Err code) h st good = good

k_any_computed : (r : Result ℤ AbortCode) → Keeps Any (computed r)
k_any_computed (Ok x) st good = (yes x, good)
k_any_computed (Err code) st good = good

k_result : (z : ℤ) → Keeps IsInt (int_result z)
k_result z = by (is_int z) refl
  where
    by : (b : Bool) → is_int z ≡ b → Keeps IsInt (provided b Overflow z)
    by true e st good = (record { is = e }, good)
    by false e st good = good

-- a key below 2^63
record IsKey (key : ℕ) : Type 0 where
  few : key < 2 ^ 63

-- a name with such a key
record IsKeyed (name : RowName) : Type 0 where
  few : name.key < 2 ^ 63

k_key : (z : ℤ) → IsInt z → Keeps IsKey (tested_key z)
k_key (pos n) h st good = (record { few = ltb-true n (2 ^ 63) h.is }, good)
k_key (negsuc n) h st good = good

k_any_key : (z : ℤ) → Keeps Any (tested_key z)
k_any_key (pos n) st good = (yes n, good)
k_any_key (negsuc n) st good = good

k_there : (part : Option ℕ) → Keeps Any (part_there part)
k_there None st good = good
k_there (Some part) st good = (yes part, good)

abbrev HeldRow : RowName → Option RowOf → Type 0
HeldRow name None = ⊤
HeldRow name (Some row) = IsHeldAt name row

row_of : (db : Database) (name : RowName) → AreHeld db → HeldRow name (get db name)
row_of db name h = by (get db name) refl
  where
    by : (o : Option RowOf) → get db name ≡ o → HeldRow name o
    by None e = tt
    by (Some row) e = h name row e

k_row : (name : RowName) → Keeps (HeldRow name) (row_now name)
k_row name = k_look (HeldRow name) _ (λ st good. row_of st.rows name good.rows)

k_present : (name : RowName) (o : Option RowOf) → HeldRow name o → Keeps (IsHeldAt name) (present o)
k_present name None p st good = good
k_present name (Some row) p st good = (p, good)

k_absent : (o : Option RowOf) → Keeps Any (absent o)
k_absent None st good = (yes tt, good)
k_absent (Some row) st good = good

k_set_row : (name : RowName) (row : RowOf) → IsHeldAt name row → Keeps Any (set_row name row)
k_set_row name row p = k_alter _ (λ st good. record { rows = put_held st.rows name row good.rows p; variables = good.variables })

k_remove_row : (name : RowName) → Keeps Any (remove_row name)
k_remove_row name = k_alter _ (λ st good. record { rows = remove_held st.rows name good.rows; variables = good.variables })

k_set_variable : (place : ℕ) (v : Value) → IsValue v → Keeps Any (set_variable place v)
k_set_variable place v p = k_alter _ (λ st good. record { rows = good.rows; variables = all_with st.variables place v good.variables p })

k_declare : (v : Value) → IsValue v → Keeps Any (declare v)
k_declare v p = k_alter _ (λ st good. record { rows = good.rows; variables = all_push st.variables v good.variables p })

k_scoped : (block : Ran (Unit {0})) → Keeps Any block → Keeps Any (scoped block)
k_scoped block h =
    k_then Any Any _ _ (k_look Any _ (λ st good. yes _)) (λ seen p. k_then Any Any _ _ h (λ u q. k_alter _ (λ st good. record { rows = good.rows; variables = all_take st.variables seen good.variables })))

k_replying : (vs : List Value) → Keeps Any (replying vs)
k_replying vs = k_then Any Any _ _ (k_look Any _ (λ st good. yes _)) (λ before p. k_then Any Any _ _ (k_provided Any _ _ _ (yes _)) (λ all q. k_alter _ (λ st good. record { rows = good.rows; variables = good.variables })))

k_chosen : {A : Type 0} (P : A → Type 0) (b : Bool) (f g : Ran A) → Keeps P f → Keeps P g → Keeps P (chosen b f g)
k_chosen P true f g h k = h
k_chosen P false f g h k = k

k_turns : (block : Ran (Unit {0})) (zs : List ℤ) → AllByRecursion IsInt zs → Keeps Any block → Keeps Any (turns block zs)
k_turns block [] are h = k_ok Any _ (yes _)
k_turns block (z ∷ zs) are h =
    k_then Any Any _ _ (k_then Any Any _ _ k_step (λ u p. k_scoped _ (k_then Any Any _ _ (k_declare (values.Int z) are.0.is) (λ v q. h)))) (λ u p. k_turns block zs are.1 h)

-- ---- expressions and statements

module _ (d : StandIn) (few : IsText d.text) (ranged : IsInt d.number) (rule : AccessRule) (allowed : (resource : Resource) (right : Right) → Keeps Any (rule.access resource right)) where
  k_accessed : (right : Right) (table : ℕ) (z : ℤ) → IsInt z → Keeps IsKeyed (accessed rule right table z)
  k_accessed right table z h = k_then IsKey IsKeyed _ _ (k_key z h) (λ key p. k_then Any IsKeyed _ _ (allowed _ _) (λ u q. k_ok IsKeyed _ (record { few = p.few })))

  k_any_accessed : (right : Right) (table : ℕ) (z : ℤ) → Keeps Any (accessed rule right table z)
  k_any_accessed right table z = k_then Any Any _ _ (k_any_key z) (λ key p. k_then Any Any _ _ (allowed _ _) (λ u q. k_ok Any _ (yes _)))

  k_part : (table : ℕ) (z : ℤ) → Keeps Any (part_accessed rule table z)
  k_part table z = k_then Any Any _ _ (k_there (partition_numbered rule.tables table z)) (λ part p. k_then Any Any _ _ (allowed _ _) (λ u q. k_ok Any _ (yes _)))

  k_any_int : (e : IntSyntax) → Keeps Any (int_of d rule e)
  k_any_int (syntax.number z) = k_ok Any _ (yes _)
  k_any_int (syntax.variable place) = k_look Any _ (λ st good. yes _)
  k_any_int (syntax.binary op a b) = k_then Any Any _ _ (k_any_int a) (λ x p. k_then Any Any _ _ (k_any_int b) (λ y q. k_any_computed (result_of op x y)))
  k_any_int (syntax.count_rows table part) =
      k_then Any Any _ _ k_step (λ u p. k_then Any Any _ _ (k_any_int part) (λ z q. k_then Any Any _ _ (k_part table z) (λ n r. k_then Any Any _ _ (k_look Any _ (λ st good. yes _)) (λ rows s. k_provided Any _ _ _ (yes _)))))
  k_any_int (syntax.sum_column table part column) =
      k_then Any Any _ _ k_step (λ u p. k_then Any Any _ _ (k_any_int part) (λ z q. k_then Any Any _ _ (k_part table z) (λ n r. k_then Any Any _ _ (k_look Any _ (λ st good. yes _)) (λ rows s. k_provided Any _ _ _ (yes _)))))

  k_int : (e : IntSyntax) → HasInts e → Keeps IsInt (int_of d rule e)
  k_int (syntax.number z) h = k_ok IsInt z (record { is = h })
  k_int (syntax.variable place) h = k_look IsInt (λ st. number_or d.number (slice_get st.variables place)) (λ st good. int_at st.variables place d.number good.variables ranged)
  k_int (syntax.binary op a b) h = k_then IsInt IsInt _ _ (k_int a h.0) (λ x p. k_then IsInt IsInt _ _ (k_int b h.1) (λ y q. k_computed (result_of op x y) (result_gives op x y p q)))
  k_int (syntax.count_rows table part) h =
      k_then Any IsInt _ _ k_step (λ u p. k_then Any IsInt _ _ (k_any_int part) (λ z q. k_then Any IsInt _ _ (k_part table z) (λ n r. k_then Any IsInt _ _ (k_look Any _ (λ st good. yes _)) (λ rows s. k_result (pos (len rows))))))
  k_int (syntax.sum_column table part column) h =
      k_then Any IsInt _ _ k_step (λ u p. k_then Any IsInt _ _ (k_any_int part) (λ z q. k_then Any IsInt _ _ (k_part table z) (λ n r. k_then Any IsInt _ _ (k_look Any _ (λ st good. yes _)) (λ rows s. k_result (total d.number column (entries rows))))))

  k_text : (e : TextSyntax) → Keeps Any (text_of d rule e)
  k_text (syntax.literal s) = k_ok Any _ (yes _)
  k_text (syntax.text_variable place) = k_look Any _ (λ st good. yes _)

  k_bool : (e : BoolSyntax) → Keeps Any (bool_of d rule e)
  k_bool (syntax.compare_ints test a b) = k_then Any Any _ _ (k_any_int a) (λ x p. k_then Any Any _ _ (k_any_int b) (λ y q. k_ok Any _ (yes _)))
  k_bool (syntax.compare_texts test a b) = k_then Any Any _ _ (k_text a) (λ x p. k_then Any Any _ _ (k_text b) (λ y q. k_ok Any _ (yes _)))
  k_bool (syntax.both a b) = k_then Any Any _ _ (k_bool a) (λ x p. k_chosen Any x _ _ (k_bool b) (k_ok Any _ (yes _)))
  k_bool (syntax.either a b) = k_then Any Any _ _ (k_bool a) (λ x p. k_chosen Any x _ _ (k_ok Any _ (yes _)) (k_bool b))
  k_bool (syntax.negated a) = k_then Any Any _ _ (k_bool a) (λ x p. k_ok Any _ (yes _))
  k_bool (syntax.row_exists table key) =
      k_then Any Any _ _ k_step (λ u p. k_then Any Any _ _ (k_any_int key) (λ k q. k_then Any Any _ _ (k_any_accessed _ table k) (λ name r. k_then (HeldRow name) Any _ _ (k_row name) (λ found s. k_ok Any _ (yes _)))))

  k_value : (e : ValueSyntax) → HasValues e → Keeps IsValue (value_of d rule e)
  k_value (syntax.int_value e) h = k_then IsInt IsValue _ _ (k_int e h) (λ z p. k_ok IsValue (values.Int z) p.is)
  k_value (syntax.text_value (syntax.literal s)) h = k_then IsText IsValue _ _ (k_ok IsText s h) (λ t p. k_ok IsValue (values.Text t) p)
  k_value (syntax.text_value (syntax.text_variable place)) h =
      k_then IsText IsValue _ _ (k_look IsText (λ st. text_or d.text (slice_get st.variables place)) (λ st good. text_at st.variables place d.text good.variables few)) (λ t p. k_ok IsValue (values.Text t) p)

  k_values : (es : List ValueSyntax) → AllByRecursion HasValues es → Keeps All (values_of d rule es)
  k_values [] h = k_ok All [] tt
  k_values (e ∷ es) h = k_then IsValue All _ _ (k_value e h.0) (λ v p. k_then All All _ _ (k_values es h.1) (λ vs q. k_ok All (v ∷ vs) (p, q)))

  k_any_value : (e : ValueSyntax) → Keeps Any (value_of d rule e)
  k_any_value (syntax.int_value e) = k_then Any Any _ _ (k_any_int e) (λ z p. k_ok Any _ (yes _))
  k_any_value (syntax.text_value e) = k_then Any Any _ _ (k_text e) (λ s p. k_ok Any _ (yes _))

  k_any_values : (es : List ValueSyntax) → Keeps Any (values_of d rule es)
  k_any_values [] = k_ok Any [] (yes _)
  k_any_values (e ∷ es) = k_then Any Any _ _ (k_any_value e) (λ v p. k_then Any Any _ _ (k_any_values es) (λ vs q. k_ok Any _ (yes _)))

  mutual
    k_effect : (s : StmtSyntax) → StoresValues s → Keeps Any (effect d rule s)
    k_effect (syntax.assign place value) h = k_then IsValue Any _ _ (k_value value h) (λ v p. k_set_variable place v p)
    k_effect (syntax.get place table key column) h =
        k_then Any Any _ _ (k_any_int key) (λ k p. k_then Any Any _ _ (k_any_accessed _ table k) (λ name q. k_then (HeldRow name) Any _ _ (k_row name) (λ found r. k_then (IsHeldAt name) Any _ _ (k_present name found r) (λ row s. k_set_variable place _ (value_at row column d.number s.1 ranged)))))
    k_effect (syntax.put table key column value) h =
        k_then Any Any _ _ (k_any_int key) (λ k p. k_then IsValue Any _ _ (k_value value h) (λ v o. k_then Any Any _ _ (k_any_accessed _ table k) (λ name q. k_then (HeldRow name) Any _ _ (k_row name) (λ found r. k_then (IsHeldAt name) Any _ _ (k_present name found r) (λ row s. k_set_row name _ (s.0, all_set row column v s.1 o))))))
    k_effect (syntax.insert_row table key es) h =
        k_then IsInt Any _ _ (k_int key h.0) (λ k p. k_then All Any _ _ (k_values es h.1) (λ vs o. k_then IsKeyed Any _ _ (k_accessed _ table k p) (λ name q. k_then Any Any _ _ (k_look Any _ (λ st good. yes _)) (λ found r. k_then Any Any _ _ (k_absent found) (λ u s. k_set_row name vs (q.few, o))))))
    k_effect (syntax.delete_row table key) h =
        k_then Any Any _ _ (k_any_int key) (λ k p. k_then Any Any _ _ (k_any_accessed _ table k) (λ name q. k_then (HeldRow name) Any _ _ (k_row name) (λ found r. k_then (IsHeldAt name) Any _ _ (k_present name found r) (λ row s. k_remove_row name))))
    k_effect (syntax.choose test first second) h = k_then Any Any _ _ (k_bool test) (λ b p. k_scoped _ (k_chosen Any b _ _ (k_in_order first h.0) (k_in_order second h.1)))
    k_effect (syntax.for_numbers low high body) h = k_then IsInt Any _ _ (k_int low h.0) (λ x p. k_then IsInt Any _ _ (k_int high h.1) (λ y q. k_turns _ _ (between_gives x y p q) (k_in_order body h.2)))
    k_effect (syntax.for_keys table part body) h =
        k_then Any Any _ _ (k_any_int part) (λ z p. k_then Any Any _ _ (k_part table z) (λ n q. k_then AreHeld Any _ _ (k_look AreHeld (λ st. part_rows rule.tables table n st.rows) (λ st good. part_held rule.tables table n st.rows good.rows)) (λ rows r. k_turns _ _ (keys_held rows r) (k_in_order body h))))
    k_effect (syntax.abort code) h = λ st good. good
    k_effect (syntax.reply es) h = k_then Any Any _ _ (k_any_values es) (λ vs p. k_replying vs)

    k_in_order : (b : BlockSyntax) → AllStoreValues b → Keeps Any (in_order d rule b)
    k_in_order syntax.no_statements h = k_ok Any _ (yes _)
    k_in_order (syntax.followed s rest) h = k_then Any Any _ _ k_step (λ u p. k_then Any Any _ _ (k_effect s h.0) (λ v q. k_in_order rest h.1))

-- ---- calls

k_passing : (b : Bool) (uncovered : Ending) → Keeps Any (passing b uncovered)
k_passing true uncovered st good = (yes tt, good)
k_passing false uncovered st good = good

end_held : (db : Database) (r : Result (Unit {0}) Ending × State) → AreHeld db → After Any r → AreHeld (finished db r).1
end_held db (Ok u, st) h a = a.1.rows
end_held db (Err e, st) h a = h

run_held : (tables : List TableShape) (footprint : FootprintOf) (uncovered : Ending) (b : BlockSyntax) (arguments : List Value) (db : Database) → AllStoreValues b → All arguments → AreHeld db
    → AreHeld (finished db (in_order nothing (covered tables footprint uncovered) b (start arguments db))).1
run_held tables footprint uncovered b arguments db body given h =
    end_held db _ h (k_in_order nothing (IsUtf8-nil, omega arith) (record { is = refl }) (covered tables footprint uncovered) (λ resource right. k_passing (covers footprint resource right) uncovered) b body (start arguments db) (record { rows = h; variables = given }))

call_held : (entry : EntryShape) (db : Database) → IsValueCall entry → AreHeld db → AreHeld (meaning entry db).1
call_held entry db call h = by entry.footing
  where
    by : (footing : Footing) → AreHeld (meaning_by nothing entry.tables entry.body entry.arguments footing db).1
    by (declares footprint) = run_held entry.tables footprint _ (syntax.block_of entry.body) entry.arguments db call.body call.arguments h
    by (faults code) = h
    by (finds footprint) = run_held entry.tables footprint _ (syntax.block_of entry.body) entry.arguments db call.body call.arguments h

pub held_left : (calls : List EntryShape) (db : Database) → AllByRecursion IsValueCall calls → AreHeld db → AreHeld (serial_end calls db)
held_left [] db are h = h
held_left (call ∷ calls) db are h = held_left calls (meaning call db).1 are.1 (call_held call db are.0 h)
