-- A body that fits its tables accesses what is of these tables.
use Rattle.std.proofs.Common.{◌≡◌, ℕ, zero, suc, ◌+◌, ◌%◌, ◌<◌, Bool, true, false, not, List, [], ◌∷◌, ◌++◌, map, length, refl, sym, ap, ◌∙◌, subst, Option, Some, None, unwrap_or, Result, Ok, Err, ℤ, pos, negsuc, arith}
use Rattle.std.specs.Prelude.{⊤, nat_lt, take, slice_get, slice_set, option_map, option_and_then, IsSome, if◌then◌else◌}
use Rattle.std.specs.Option.{is_some}
use Rattle.std.specs.List.{AllByRecursion, All}
use Rattle.std.specs.FinMap.{get, insert, remove, entries}
use Rattle.std.proofs.lemmas.List.Elements.{All-nil, All-push}
use Rattle.values.specs.declared.name.RowName.{RowName}
use Rattle.values.specs.declared.value.ColType.{ColType}
use Rattle.values.specs.declared.value.Value.{Value}
use Rattle.values.specs.declared.value.Value.TheVariants as values
use Rattle.catalogue.specs.Shapes.{TableShape, partitions, part_with}
use Rattle.catalogue.specs.Places.{partition_of, partition_numbered}
use Rattle.values.specs.Database.{Database, RowOf}
use Rattle.proclang_types.specs.declared.right.Right.{Right}
use Rattle.proclang_types.specs.declared.right.Right.TheVariants.{Read, Write}
use Rattle.proclang_types.specs.Syntax.{IntSyntax, number, variable, binary, count_rows, sum_column, TextSyntax, literal, text_variable, BoolSyntax, compare_ints, compare_texts, both, either, negated, row_exists, ValueSyntax, int_value, text_value, StmtSyntax, assign, get as get_syntax, put, insert_row, delete_row, choose, for_numbers, for_keys, abort as abort_syntax, reply, BlockSyntax, no_statements, followed, block_of, ProcSyntax}
use Rattle.proclang_types.specs.Typing.{IntFits, BoolFits, ValueFits, in_loop, scope_after, StmtFits, BlockFits, kinds_of, ProcFits}
use Rattle.footprint.specs.declared.abort_code.AbortCode.{AbortCode}
use Rattle.footprint.specs.declared.abort_code.AbortCode.TheVariants.{BadKey, NoRow, DuplicateRow, Budget, TooLong, Own}
use Rattle.footprint.specs.declared.resource.Resource.{Resource}
use Rattle.footprint.specs.declared.resource.Resource.TheVariants.{Db, Table}
use Rattle.footprint.specs.declared.resource.InTable.TheVariants.{WholeTable, Part}
use Rattle.footprint.specs.declared.resource.InPart.TheVariants.{WholePart, Row}
use Rattle.footprint.specs.Tree.{row_resource}
use Rattle.footprint.specs.OfCatalogue.{IsResourceOf}
use Rattle.footprint.specs.Arithmetic.{result_of}
use Rattle.footprint.specs.Declaration.{number_or}
use Rattle.meaning.specs.declared.outcome.Ending.{Ending}
use Rattle.meaning.specs.declared.outcome.Ending.TheVariants as endings
use Rattle.meaning.specs.Runs.{Access, State, Ran, continued, and_then, ok, ended, look, alter, provided, AccessRule, recorded, recording, step, tested_key, computed, accessed, part_there, part_accessed, present, absent, set_row, remove_row, declare, with_variable, set_variable, scoped, replying}
use Rattle.meaning.specs.Comparing.{compare, compare_bytes}
use Rattle.meaning.specs.Partitions.{part_rows, keys_of}
use Rattle.meaning.specs.Turns.{numbers_between}
use Rattle.meaning.specs.Meaning.{StandIn, text_or, int_of, text_of, bool_of, value_of, values_of, chosen, with_number, turns, effect, in_order}
use Rattle.meaning.specs.Entries.{start, nothing}
use Rattle.meaning.specs.Reconnaissance.{accesses_of, found_footprint, HasKey, FindsOfTables}
use Rattle.meaning.proofs.Greatest.{has_greatest_rights}

table_there : (tables : List TableShape) (table : ℕ) → table < length tables → IsSome (slice_get tables table)
table_there [] table h = absurd (omega (arith, h))
table_there (t ∷ tables) zero h = refl
table_there (t ∷ tables) (suc table) h = table_there tables table (omega (arith, h))

module _ (tables : List TableShape) where
  -- a resource of these tables, any number being a key
  abbrev IsPlace : Resource → Type 0
  IsPlace Db = ⊤
  IsPlace (Table t WholeTable) = t < length tables
  IsPlace (Table t (Part p WholePart)) = option_map (λ s. nat_lt p (partitions s.split)) (slice_get tables t) ≡ Some true
  IsPlace (Table t (Part p (Row k))) = partition_of tables t k ≡ Some p

  of_tables : (r : Resource) → HasKey r → IsPlace r → IsResourceOf tables r
  of_tables Db key place = tt
  of_tables (Table t WholeTable) key place = place
  of_tables (Table t (Part p WholePart)) key place = place
  of_tables (Table t (Part p (Row k))) key place = (key, place)

  abbrev ArePlaces : List Access → Type 0
  ArePlaces accesses = All (λ (access : Access). IsPlace access.0) accesses

  -- what is recorded is of these tables
  abbrev H : {A : Type 0} → Ran A → Type 0
  H f = (s : State) → ArePlaces s.accesses → ArePlaces (f s).1.accesses

  abbrev rule : AccessRule
  rule = recording tables

  then_places : {A B : Type 0} (r : Result A Ending × State) (h : A → Ran B) → ArePlaces r.1.accesses → ((v : A) → H (h v)) → ArePlaces (continued r h).1.accesses
  then_places (Ok x, s) h a n = n x s a
  then_places (Err e, s) h a n = a

  bind : {A B : Type 0} (f : Ran A) (h : A → Ran B) → H f → ((v : A) → H (h v)) → H (and_then f h)
  unfolding and_then
  bind f h a n s places = then_places (f s) h (a s places) n

  p_ok : {A : Type 0} (v : A) → H (ok v)
  p_ok v s places = places

  p_ended : (A : Type 0) (e : Ending) → H {A = A} (ended e)
  p_ended A e s places = places

  p_provided : {A : Type 0} (b : Bool) (code : AbortCode) (v : A) → H (provided b code v)
  p_provided true code v s places = places
  p_provided false code v s places = places

  p_look : {A : Type 0} (f : State → A) → H (look f)
  p_look f s places = places

  p_alter : (f : State → State) → ((s : State) → (f s).accesses ≡ s.accesses) → H (alter f)
  p_alter f same s places = subst ArePlaces (sym (same s)) places

  p_step : H step
  p_step = bind _ _ (p_look (λ st. st.steps)) (λ n. bind _ _ (p_provided (nat_lt n 10000) Budget (n + 1)) (λ k. p_alter (λ st. record st { steps = k }) (λ s. refl)))

  p_key : (z : ℤ) → H (tested_key z)
  p_key (pos n) = p_ok n
  p_key (negsuc n) = p_ended ℕ (endings.Abort BadKey)

  p_recorded : (resource : Resource) (right : Right) → IsPlace resource → H (recorded resource right)
  p_recorded resource right place s places = All-push (λ (access : Access). IsPlace access.0) s.accesses (resource, right) places place

  -- ---- tables that are there

  abbrev IsThere : ℕ → Type 0
  IsThere table = IsSome (slice_get tables table)

  in_partition : (o : Option TableShape) (key : ℕ) → IsSome o → option_map (λ t. part_with t.split key) o ≡ Some (unwrap_or (option_map (λ t. part_with t.split key) o) 0)
  in_partition None key there = absurd (cc)
  in_partition (Some t) key there = refl

  there_by : {A : Type 0} (o : Option TableShape) (f : TableShape → Option A) (x : A) → option_and_then f o ≡ Some x → IsSome o
  there_by None f x e = absurd (cc)
  there_by (Some t) f x e = refl

  there_by_map : {A : Type 0} (o : Option TableShape) (f : TableShape → A) (x : A) → option_map f o ≡ Some x → IsSome o
  there_by_map None f x e = absurd (cc)
  there_by_map (Some t) f x e = refl

  p_access : (right : Right) (table : ℕ) (z : ℤ) → IsThere table → H (accessed rule right table z)
  p_access right table z there = bind _ _ (p_key z) (λ key.
      let name : RowName = record { table = table; key = key } in
      bind _ _ (p_recorded (row_resource tables name) right (in_partition (slice_get tables table) key there)) (λ u. p_ok name))

  -- ---- partitions

  numbered : (b : Bool) (n p : ℕ) → (if b then Some n else None) ≡ Some p → (b ≡ true) × (n ≡ p)
  numbered true n p e = (refl, cc)
  numbered false n p e = absurd (cc)

  part_numbered : (o : Option TableShape) (n p : ℕ) → option_and_then (λ t. if nat_lt n (partitions t.split) then Some n else None) o ≡ Some p → option_map (λ s. nat_lt p (partitions s.split)) o ≡ Some true
  part_numbered None n p e = absurd (cc)
  part_numbered (Some t) n p e =
      let both = numbered (nat_lt n (partitions t.split)) n p e in
      ap (λ b. Some b) (ap (λ (m : ℕ). nat_lt m (partitions t.split)) (sym both.1) ∙ both.0)

  is_part : (table : ℕ) (z : ℤ) (p : ℕ) → partition_numbered tables table z ≡ Some p → IsPlace (Table table (Part p WholePart))
  is_part table (pos n) p e = part_numbered (slice_get tables table) n p e
  is_part table (negsuc n) p e = absurd (cc)

  abbrev recorded_part : ℕ → ℕ → Ran ℕ
  recorded_part table part = and_then (recorded (Table table (Part part WholePart)) Read) (λ u. ok part)

  p_part_by : (table : ℕ) (o : Option ℕ) → ((p : ℕ) → o ≡ Some p → IsPlace (Table table (Part p WholePart))) → H (and_then (part_there o) (recorded_part table))
  unfolding and_then
  p_part_by table None h s places = places
  p_part_by table (Some p) h s places = p_recorded (Table table (Part p WholePart)) Read (h p refl) s places

  p_part : (table : ℕ) (z : ℤ) → H (part_accessed rule table z)
  p_part table z = p_part_by table (partition_numbered tables table z) (is_part table z)

  -- ---- the others

  p_computed : {A : Type 0} (r : Result A AbortCode) → H (computed r)
  p_computed (Ok x) = p_ok x
  p_computed {A} (Err code) = p_ended A (endings.Abort code)

  p_absent : (o : Option RowOf) → H (absent o)
  p_absent None = p_ok {A = Unit {0}} tt
  p_absent (Some row) = p_ended (Unit {0}) (endings.Abort DuplicateRow)

  p_present : (o : Option RowOf) → H (present o)
  p_present None = p_ended RowOf (endings.Abort NoRow)
  p_present (Some row) = p_ok row

  p_write : (name : RowName) (row : RowOf) → H (set_row name row)
  p_write name row = p_alter (λ st. record st { rows = insert st.rows name row }) (λ s. refl)

  p_remove : (name : RowName) → H (remove_row name)
  p_remove name = p_alter (λ st. record st { rows = remove st.rows name }) (λ s. refl)

  p_declare : (v : Value) → H (declare v)
  p_declare v = p_alter (λ st. record st { variables = st.variables ++ v ∷ [] }) (λ s. refl)

  p_variable : (place : ℕ) (v : Value) → H (set_variable place v)
  p_variable place v = p_alter (λ st. record st { variables = with_variable st.variables place v }) (λ s. refl)

  p_scoped : (f : Ran (Unit {0})) → H f → H (scoped f)
  p_scoped f h = bind _ _ (p_look (λ st. length st.variables)) (λ n. bind _ _ h (λ u. p_alter (λ st. record st { variables = take n st.variables }) (λ s. refl)))

  p_replying : (vs : List Value) → H (replying vs)
  p_replying vs = bind _ _ (p_look (λ st. st.reply)) (λ old.
      bind _ _ (p_provided (not (nat_lt 64 (length old + length vs))) TooLong (old ++ vs)) (λ new. p_alter (λ st. record st { reply = new }) (λ s. refl)))

  module _ (d : StandIn) where
    p_int : (kinds : List ColType) (e : IntSyntax) → IntFits tables kinds e → H (int_of d rule e)
    p_int kinds (number z) fits = p_ok z
    p_int kinds (variable place) fits = p_look (λ st. number_or d.number (slice_get st.variables place))
    p_int kinds (binary op a b) fits = bind _ _ (p_int kinds a fits.0) (λ x. bind _ _ (p_int kinds b fits.1) (λ y. p_computed (result_of op x y)))
    p_int kinds (count_rows table part) fits = bind _ _ p_step (λ u. bind _ _ (p_int kinds part fits.1) (λ z.
        bind _ _ (p_part table z) (λ p. bind _ _ (p_look (λ st. part_rows tables table p st.rows)) (λ rows. p_provided _ _ _))))
    p_int kinds (sum_column table part column) fits = bind _ _ p_step (λ u. bind _ _ (p_int kinds part fits.0) (λ z.
        bind _ _ (p_part table z) (λ p. bind _ _ (p_look (λ st. part_rows tables table p st.rows)) (λ rows. p_provided _ _ _))))

    p_text : (e : TextSyntax) → H (text_of d rule e)
    p_text (literal s) = p_ok s
    p_text (text_variable place) = p_look (λ st. text_or d.text (slice_get st.variables place))

    p_chosen : {A : Type 0} (b : Bool) (f g : Ran A) → H f → H g → H (chosen b f g)
    p_chosen true f g p q = p
    p_chosen false f g p q = q

    p_bool : (kinds : List ColType) (e : BoolSyntax) → BoolFits tables kinds e → H (bool_of d rule e)
    p_bool kinds (compare_ints test a b) fits = bind _ _ (p_int kinds a fits.0) (λ x. bind _ _ (p_int kinds b fits.1) (λ y. p_ok (compare test x y)))
    p_bool kinds (compare_texts test a b) fits = bind _ _ (p_text a) (λ x. bind _ _ (p_text b) (λ y. p_ok (compare_bytes test x y)))
    p_bool kinds (both a b) fits = bind _ _ (p_bool kinds a fits.0) (λ x. p_chosen x (bool_of d rule b) (ok false) (p_bool kinds b fits.1) (p_ok false))
    p_bool kinds (either a b) fits = bind _ _ (p_bool kinds a fits.0) (λ x. p_chosen x (ok true) (bool_of d rule b) (p_ok true) (p_bool kinds b fits.1))
    p_bool kinds (negated a) fits = bind _ _ (p_bool kinds a fits) (λ x. p_ok (not x))
    p_bool kinds (row_exists table key) fits = bind _ _ p_step (λ u. bind _ _ (p_int kinds key fits.1) (λ k.
        bind _ _ (p_access Read table k (table_there tables table fits.0)) (λ name. bind _ _ (p_look (λ st. get st.rows name)) (λ found. p_ok (is_some found)))))

    p_value : (kinds : List ColType) (e : ValueSyntax) → ValueFits tables kinds e → H (value_of d rule e)
    p_value kinds (int_value e) fits = bind _ _ (p_int kinds e fits) (λ z. p_ok (values.Int z))
    p_value kinds (text_value e) fits = bind _ _ (p_text e) (λ s. p_ok (values.Text s))

    p_values : (kinds : List ColType) (es : List ValueSyntax) → AllByRecursion (ValueFits tables kinds) es → H (values_of d rule es)
    p_values kinds [] fits = p_ok {A = List Value} []
    p_values kinds (e ∷ es) fits = bind _ _ (p_value kinds e fits.0) (λ v. bind _ _ (p_values kinds es fits.1) (λ vs. p_ok (v ∷ vs)))

    p_turns : (f : Ran (Unit {0})) → H f → (zs : List ℤ) → H (turns f zs)
    p_turns f h [] = p_ok {A = Unit {0}} tt
    p_turns f h (z ∷ zs) = bind _ _ (bind _ _ p_step (λ u. p_scoped (with_number f z) (bind _ _ (p_declare (values.Int z)) (λ v. h)))) (λ u. p_turns f h zs)

    mutual
      p_effect : (kinds : List ColType) (s : StmtSyntax) → StmtFits tables kinds s → H (effect d rule s)
      p_effect kinds (assign place value) fits = bind _ _ (p_value kinds value fits.0) (λ v. p_variable place v)
      p_effect kinds (get_syntax place table key column) fits = bind _ _ (p_int kinds key fits.0) (λ k.
          bind _ _ (p_access Read table k (there_by (slice_get tables table) _ fits.1.0 fits.1.1)) (λ name.
          bind _ _ (p_look (λ st. get st.rows name)) (λ found. bind _ _ (p_present found) (λ row.
          p_variable place (unwrap_or (slice_get row column) (values.Int d.number))))))
      p_effect kinds (put table key column value) fits = bind _ _ (p_int kinds key fits.0) (λ k. bind _ _ (p_value kinds value fits.1) (λ v.
          bind _ _ (p_access Write table k (there_by (slice_get tables table) _ _ fits.2)) (λ name.
          bind _ _ (p_look (λ st. get st.rows name)) (λ found. bind _ _ (p_present found) (λ row.
          p_write name (slice_set row column v))))))
      p_effect kinds (insert_row table key es) fits = bind _ _ (p_int kinds key fits.0) (λ k. bind _ _ (p_values kinds es fits.1.0) (λ vs.
          bind _ _ (p_access Write table k (there_by_map (slice_get tables table) _ _ fits.1.1)) (λ name.
          bind _ _ (p_look (λ st. get st.rows name)) (λ found. bind _ _ (p_absent found) (λ u.
          p_write name vs)))))
      p_effect kinds (delete_row table key) fits = bind _ _ (p_int kinds key fits.1) (λ k.
          bind _ _ (p_access Write table k (table_there tables table fits.0)) (λ name.
          bind _ _ (p_look (λ st. get st.rows name)) (λ found. bind _ _ (p_present found) (λ row.
          p_remove name))))
      p_effect kinds (for_numbers low high body) fits = bind _ _ (p_int kinds low fits.0) (λ from. bind _ _ (p_int kinds high fits.1) (λ to.
          p_turns (in_order d rule body) (p_order (in_loop kinds) body fits.2) (numbers_between from to)))
      p_effect kinds (for_keys table part body) fits = bind _ _ (p_int kinds part fits.1) (λ z.
          bind _ _ (p_part table z) (λ p. bind _ _ (p_look (λ st. part_rows tables table p st.rows)) (λ rows.
          p_turns (in_order d rule body) (p_order (in_loop kinds) body fits.2) (map pos (keys_of (entries rows))))))
      p_effect kinds (choose test first second) fits = bind _ _ (p_bool kinds test fits.0) (λ b.
          p_scoped (chosen b (in_order d rule first) (in_order d rule second))
          (p_chosen b (in_order d rule first) (in_order d rule second) (p_order kinds first fits.1) (p_order kinds second fits.2)))
      p_effect kinds (abort_syntax code) fits = p_ended (Unit {0}) (endings.Abort (Own code))
      p_effect kinds (reply es) fits = bind _ _ (p_values kinds es fits) (λ vs. p_replying vs)

      p_order : (kinds : List ColType) (b : BlockSyntax) → BlockFits tables kinds b → H (in_order d rule b)
      p_order kinds no_statements fits = p_ok {A = Unit {0}} tt
      p_order kinds (followed s rest) fits = bind _ _ p_step (λ u. bind _ _ (p_effect kinds s fits.0) (λ v. p_order (scope_after tables kinds s) rest fits.1))

-- ---- the footprint found

right_of : (o : Option Right) → IsSome o → (right : Right) × (o ≡ Some right)
right_of None there = absurd (cc)
right_of (Some right) there = (right, refl)

pub finds_of_tables : (tables : List TableShape) (proc : ProcSyntax) (arguments : List Value) (db : Database) → ProcFits tables proc → FindsOfTables tables proc.body arguments db
finds_of_tables tables proc arguments db fits = λ keys resource there.
    let accesses = accesses_of tables proc.body arguments db in
    let places = p_order tables nothing (kinds_of proc.params) (block_of proc.body) fits.body (start arguments db) (All-nil (λ (access : Access). IsPlace tables access.0)) in
    let has = right_of (get (found_footprint tables proc.body arguments db) resource) there in
    let one = (has_greatest_rights accesses).accessed resource has.0 has.1 in
    let key = subst (λ (a : Access). HasKey a.0) one.2 (keys one.0 (resource, has.0) one.1) in
    let place = subst (λ (a : Access). IsPlace tables a.0) one.2 (places one.0 (resource, has.0) one.1) in
    of_tables tables resource key place
