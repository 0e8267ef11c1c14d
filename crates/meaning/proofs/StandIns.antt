-- In a body that fits, over rows of the tables, what stands for a missing variable or column never shows.
use Rattle.std.proofs.Common.{◌≡◌, ℕ, ◌+◌, Bool, true, false, cond, not, List, [], ◌∷◌, ◌++◌, map, refl, sym, ap, ◌∙◌, subst, Option, Some, None, unwrap_or, Result, Ok, Err, ℤ, pos, negsuc}
use Rattle.std.specs.Prelude.{nat_lt, length, take, slice_get, slice_set}
use Rattle.std.specs.List.{AllByRecursion}
use Rattle.std.specs.FinMap.{get, get-insert, get-remove, entries}
use Rattle.std.specs.Option.{is_some}
use Rattle.std.specs.Ordering.{eq_by_cmp}
use Rattle.std.proofs.lemmas.List.{map-append, length-map, take-map}
use Rattle.values.specs.declared.name.RowName.{RowName}
use Rattle.values.specs.declared.value.ColType.{ColType}
use Rattle.values.specs.declared.value.ColType.TheVariants as types
use Rattle.values.specs.declared.value.Value.{Value}
use Rattle.values.specs.declared.value.Value.TheVariants as values
use Rattle.catalogue.specs.Shapes.{TableShape}
use Rattle.values.specs.Rows.{type_of}
use Rattle.catalogue.specs.Places.{partition_numbered}
use Rattle.values.specs.Database.{Database, RowOf, name_cmp}
use Rattle.proclang_types.specs.declared.right.Right.{Right}
use Rattle.proclang_types.specs.declared.right.Right.TheVariants.{Read, Write}
use Rattle.proclang_types.specs.Syntax.{IntSyntax, number, variable, binary, count_rows, sum_column, TextSyntax, literal, text_variable, BoolSyntax, compare_ints, compare_texts, both, either, negated, row_exists, ValueSyntax, int_value, text_value, StmtSyntax, assign, get as get_syntax, put, insert_row, delete_row, choose, for_numbers, for_keys, abort as abort_syntax, reply, BlockSyntax, no_statements, followed, block_of, ProcSyntax}
use Rattle.proclang_types.specs.Typing.{column_kind, IntFits, TextFits, BoolFits, ValueFits, kind_of, in_loop, Takes, declared, scope_after as kinds_after, StmtFits, BlockFits, kinds_of, ProcFits}
use Rattle.footprint.specs.declared.abort_code.AbortCode.{AbortCode}
use Rattle.footprint.specs.declared.abort_code.AbortCode.TheVariants.{BadKey, BadPart, NoRow, DuplicateRow, Budget, TooLong, Own, Overflow, Uncovered}
use Rattle.footprint.specs.declared.resource.Resource.{Resource}
use Rattle.footprint.specs.declared.resource.Resource.TheVariants.{Table}
use Rattle.footprint.specs.declared.resource.InTable.TheVariants.{Part}
use Rattle.footprint.specs.declared.resource.InPart.TheVariants.{WholePart}
use Rattle.footprint.specs.Tree.{row_resource}
use Rattle.footprint.specs.Rights.{FootprintOf, covers}
use Rattle.footprint.specs.Arithmetic.{result_of, is_int}
use Rattle.meaning.specs.declared.outcome.Ending.{Ending}
use Rattle.meaning.specs.declared.outcome.Ending.TheVariants as endings
use Rattle.meaning.specs.Runs.{State, Ran, continued, and_then, ok, ended, look, alter, provided, AccessRule, passing, tested, covered, recorded, step, tested_key, int_result, computed, accessed, part_there, part_accessed, part_now, row_now, present, absent, set_row, remove_row, declare, set_variable, scoped, replying}
use Rattle.meaning.specs.Comparing.{compare, compare_bytes}
use Rattle.meaning.specs.Partitions.{keys_of, total, part_rows}
use Rattle.meaning.specs.Turns.{numbers_between}
use Rattle.meaning.specs.Meaning.{StandIn, int_of, text_of, bool_of, value_of, values_of, chosen, with_number, turns, effect, in_order}
use Rattle.meaning.specs.Entries.{EntryShape, Footing, declares, faults, finds, start, finished, run_of, nothing, meaning_by}
use Rattle.meaning.specs.Fitting.{IsRowOf, HasTypes, IsCallOf, StandInNeverShows}
use Rattle.meaning.specs.Reconnaissance.{StandInNeverFound}
use Rattle.meaning.proofs.Names.{names_total, exact_names}
use Rattle.meaning.proofs.Frame.{is_equal}
use Rattle.meaning.proofs.Typed.{same_number, same_text, same_value, in_place, column_in_place, kept_types, set_types, kinds_through, Extends, extends_take, through_extends, loop_extends}
use Rattle.meaning.proofs.Totals.{same_total}

module _ (tables : List TableShape) where
  -- variables of these types, and rows of the tables
  record Typed (kinds : List ColType) (st : State) : Type 0 where
    variables : map type_of st.variables ≡ kinds
    rows : HasTypes tables st.rows

  abbrev After : {A : Type 0} → (A → Type 0) → List ColType → Result A Ending × State → Type 0
  After Q kinds (Ok x, s) = Q x × Typed kinds s
  After Q kinds (Err e, s) = Unit {0}

  -- from a typed state both do the same, and where they go on they leave a typed state and a value of Q
  abbrev Same : {A : Type 0} → (A → Type 0) → List ColType → List ColType → Ran A → Ran A → Type 0
  Same Q kinds later f g = (s : State) → Typed kinds s → (g s ≡ f s) × After Q later (f s)

  abbrev Any : {A : Type 0} → A → Type 0
  Any x = Unit {0}

  then_same : {A B : Type 0} (Q : A → Type 0) (P : B → Type 0) (kinds later : List ColType) (r : Result A Ending × State) (h k : A → Ran B) → After Q kinds r → ((v : A) → Q v → Same P kinds later (h v) (k v))
      → (continued r k ≡ continued r h) × After P later (continued r h)
  then_same Q P kinds later (Ok x, s) h k a m = m x a.0 s a.1
  then_same Q P kinds later (Err e, s) h k a m = (refl, tt)

  bind : {A B : Type 0} (Q : A → Type 0) (P : B → Type 0) (kinds between later : List ColType) (f g : Ran A) (h k : A → Ran B)
      → Same Q kinds between f g → ((v : A) → Q v → Same P between later (h v) (k v)) → Same P kinds later (and_then f h) (and_then g k)
  unfolding and_then
  bind Q P kinds between later f g h k a m s typed =
      let both = then_same Q P between later (f s) h k (a s typed).1 m in
      (ap (λ r. continued r k) (a s typed).0 ∙ both.0, both.1)

  s_ok : {A : Type 0} (Q : A → Type 0) (kinds : List ColType) (v : A) → Q v → Same Q kinds kinds (ok v) (ok v)
  s_ok Q kinds v q s typed = (refl, (q, typed))

  s_ended : {A : Type 0} (Q : A → Type 0) (kinds later : List ColType) (e : Ending) → Same Q kinds later (ended e) (ended e)
  s_ended Q kinds later e s typed = (refl, tt)

  s_provided : {A : Type 0} (kinds : List ColType) (b : Bool) (code : AbortCode) (v : A) → Same Any kinds kinds (provided b code v) (provided b code v)
  s_provided kinds true code v s typed = (refl, (tt, typed))
  s_provided kinds false code v s typed = (refl, tt)

  s_look : {A : Type 0} (kinds : List ColType) (f : State → A) → Same Any kinds kinds (look f) (look f)
  s_look kinds f s typed = (refl, (tt, typed))

  s_computed : {A : Type 0} (kinds : List ColType) (r : Result A AbortCode) → Same Any kinds kinds (computed r) (computed r)
  s_computed kinds (Ok x) = s_ok Any kinds x tt
  s_computed {A} kinds (Err code) = s_ended {A = A} Any kinds kinds (endings.Abort code)

  -- a change of the steps or of the reply
  s_alter : (kinds : List ColType) (f : State → State) → ((s : State) → (f s).variables ≡ s.variables) → ((s : State) → (f s).rows ≡ s.rows) → Same Any kinds kinds (alter f) (alter f)
  s_alter kinds f v r s typed = (refl, (tt, record { variables = ap (map type_of) (v s) ∙ typed.variables; rows = subst (HasTypes tables) (sym (r s)) typed.rows }))

  s_step : (kinds : List ColType) → Same Any kinds kinds step step
  s_step kinds = bind Any Any kinds kinds kinds _ _ _ _ (s_look kinds (λ st. st.steps)) (λ n u.
      bind Any Any kinds kinds kinds _ _ _ _ (s_provided kinds (nat_lt n 10000) Budget (n + 1)) (λ k w.
      s_alter kinds (λ st. record st { steps = k }) (λ s. refl) (λ s. refl)))

  s_key : (kinds : List ColType) (z : ℤ) → Same Any kinds kinds (tested_key z) (tested_key z)
  s_key kinds (pos n) = s_ok Any kinds n tt
  s_key kinds (negsuc n) = s_ended {A = ℕ} Any kinds kinds (endings.Abort BadKey)

  -- a row that is found is one of its table
  abbrev OfTable : ℕ → Option RowOf → Type 0
  OfTable table found = (row : RowOf) → found ≡ Some row → IsRowOf tables table row

  s_row : (kinds : List ColType) (table : ℕ) (name : RowName) → name.table ≡ table → Same (OfTable table) kinds kinds (row_now name) (row_now name)
  s_row kinds table name is s typed = (refl, (λ row there. subst (λ (t : ℕ). IsRowOf tables t row) is (typed.rows name row there), typed))

  s_present : (kinds : List ColType) (table : ℕ) (found : Option RowOf) → OfTable table found → Same (IsRowOf tables table) kinds kinds (present found) (present found)
  s_present kinds table None of = s_ended {A = RowOf} (IsRowOf tables table) kinds kinds (endings.Abort NoRow)
  s_present kinds table (Some row) of = s_ok (IsRowOf tables table) kinds row (of row refl)

  s_absent : (kinds : List ColType) (found : Option RowOf) → Same Any kinds kinds (absent found) (absent found)
  s_absent kinds None = s_ok Any kinds tt tt
  s_absent kinds (Some row) = s_ended {A = Unit {0}} Any kinds kinds (endings.Abort DuplicateRow)

  s_part_there : (kinds : List ColType) (o : Option ℕ) → Same Any kinds kinds (part_there o) (part_there o)
  s_part_there kinds None = s_ended {A = ℕ} Any kinds kinds (endings.Abort BadPart)
  s_part_there kinds (Some part) = s_ok Any kinds part tt

  s_write : (kinds : List ColType) (name : RowName) (row : RowOf) → IsRowOf tables name.table row → Same Any kinds kinds (set_row name row) (set_row name row)
  s_write kinds name row is s typed = (
    refl,
    (
      tt,
      record {
        variables = typed.variables;
        rows = λ q r there.
            elim (eq_by_cmp name_cmp q name) as (λ t. eq_by_cmp name_cmp q name ≡ t → cond t (Some row) (get s.rows q) ≡ Some r → IsRowOf tables q.table r) [
              | true ↦ λ e h. subst (λ (n : RowName). IsRowOf tables n.table r) (sym (exact_names q name (is_equal (name_cmp q name) e))) (let same : row ≡ r = cc in subst (IsRowOf tables name.table) same is)
              | false ↦ λ e h. typed.rows q r h
            ] refl (sym (get-insert names_total s.rows name row q) ∙ there);
      },
    ),
  )

  s_remove : (kinds : List ColType) (name : RowName) → Same Any kinds kinds (remove_row name) (remove_row name)
  s_remove kinds name s typed = (
    refl,
    (
      tt,
      record {
        variables = typed.variables;
        rows = λ q r there.
            elim (eq_by_cmp name_cmp q name) as (λ t. cond t None (get s.rows q) ≡ Some r → IsRowOf tables q.table r) [
              | true ↦ λ h. absurd (cc)
              | false ↦ λ h. typed.rows q r h
            ] (sym (get-remove names_total s.rows name q) ∙ there);
      },
    ),
  )

  -- the variable of a loop
  s_declare : (kinds : List ColType) (z : ℤ) → Same Any kinds (in_loop kinds) (declare (values.Int z)) (declare (values.Int z))
  s_declare kinds z s typed = (
    refl,
    (
      tt,
      record {
        variables = map-append type_of s.variables (values.Int z ∷ []) ∙ ap (λ (ks : List ColType). ks ++ types.Int ∷ []) typed.variables;
        rows = typed.rows;
      },
    ),
  )

  s_variable : (kinds : List ColType) (place : ℕ) (v : Value) (kind : ColType) → type_of v ≡ kind → Takes kinds place kind → Same Any kinds (declared kinds place kind) (set_variable place v) (set_variable place v)
  s_variable kinds place v kind is takes s typed = (refl, (tt, record { variables = set_types s.variables kinds place v kind typed.variables is takes; rows = typed.rows }))

  abbrev Counts : List ColType → ℕ → Type 0
  Counts kinds n = n ≡ length kinds

  s_count : (kinds : List ColType) → Same (Counts kinds) kinds kinds (look (λ st. length st.variables)) (look (λ st. length st.variables))
  s_count kinds s typed = (refl, (sym (length-map s.variables type_of) ∙ ap length typed.variables, typed))

  -- the variables that were declared after the others are no more
  s_cut : (kinds later : List ColType) (n : ℕ) → Extends kinds later → Counts kinds n → Same Any later kinds (alter (λ st. record st { variables = take n st.variables })) (alter (λ st. record st { variables = take n st.variables }))
  s_cut kinds later n more is s typed = (
    refl,
    (
      tt,
      record {
        variables = sym (take-map type_of n s.variables) ∙ ap (λ (ks : List ColType). take n ks) typed.variables ∙ ap (λ (m : ℕ). take m later) is ∙ extends_take kinds later more;
        rows = typed.rows;
      },
    ),
  )

  s_scoped : (kinds later : List ColType) (f g : Ran (Unit {0})) → Extends kinds later → Same Any kinds later f g → Same Any kinds kinds (scoped f) (scoped g)
  s_scoped kinds later f g more h = bind (Counts kinds) Any kinds kinds kinds _ _ _ _ (s_count kinds) (λ n is. bind Any Any kinds later kinds _ _ _ _ h (λ u w. s_cut kinds later n more is))

  s_replying : (kinds : List ColType) (vs : List Value) → Same Any kinds kinds (replying vs) (replying vs)
  s_replying kinds vs = bind Any Any kinds kinds kinds _ _ _ _ (s_look kinds (λ st. st.reply)) (λ old u.
      bind Any Any kinds kinds kinds _ _ _ _ (s_provided kinds (not (nat_lt 64 (length old + length vs))) TooLong (old ++ vs)) (λ new w.
      s_alter kinds (λ st. record st { reply = new }) (λ s. refl) (λ s. refl)))

  -- what happens at an access keeps variables and rows
  abbrev Passes : (Resource → Right → Ran (Unit {0})) → Type 0
  Passes access = (kinds : List ColType) (resource : Resource) (right : Right) → Same Any kinds kinds (access resource right) (access resource right)

  s_passing : (kinds : List ColType) (uncovered : Ending) (b : Bool) → Same Any kinds kinds (passing b uncovered) (passing b uncovered)
  s_passing kinds uncovered true s typed = (refl, (tt, typed))
  s_passing kinds uncovered false s typed = (refl, tt)

  s_tested : (fo : FootprintOf) (uncovered : Ending) → Passes (tested fo uncovered)
  s_tested fo uncovered kinds resource right = s_passing kinds uncovered (covers fo resource right)

  s_recorded : Passes recorded
  s_recorded kinds resource right = s_alter kinds (λ st. record st { accesses = st.accesses ++ (resource, right) ∷ [] }) (λ s. refl) (λ s. refl)

  module _ (access : Resource → Right → Ran (Unit {0})) (passes : Passes access) (d e : StandIn) where
    abbrev rule : AccessRule
    rule = record { tables = tables; access = access }

    abbrev InTable : ℕ → RowName → Type 0
    InTable table name = name.table ≡ table

    s_access : (kinds : List ColType) (right : Right) (table : ℕ) (z : ℤ) → Same (InTable table) kinds kinds (accessed rule right table z) (accessed rule right table z)
    s_access kinds right table z = bind Any (InTable table) kinds kinds kinds _ _ _ _ (s_key kinds z) (λ key w.
        let name : RowName = record { table = table; key = key } in
        bind Any (InTable table) kinds kinds kinds _ _ _ _ (passes kinds (row_resource tables name) right) (λ u c. s_ok (InTable table) kinds name refl))

    s_part : (kinds : List ColType) (table : ℕ) (z : ℤ) → Same Any kinds kinds (part_accessed rule table z) (part_accessed rule table z)
    s_part kinds table z = bind Any Any kinds kinds kinds _ _ _ _ (s_part_there kinds (partition_numbered tables table z)) (λ part u.
        bind Any Any kinds kinds kinds _ _ _ _ (passes kinds (Table table (Part part WholePart)) Read) (λ v w. s_ok Any kinds part tt))

    abbrev Totals : ℕ → ℕ → Database → Type 0
    Totals table column rows = (x y : ℤ) → total y column (entries rows) ≡ total x column (entries rows)

    -- the rows of a partition of a table that has that column
    s_rows : (kinds : List ColType) (table part column : ℕ) → column_kind tables table column ≡ Some types.Int → Same (Totals table column) kinds kinds (part_now rule table part) (part_now rule table part)
    s_rows kinds table part column is s typed = (refl, (λ x y. same_total tables table part column s.rows x y typed.rows is, typed))

    s_int_result : (kinds : List ColType) (x y : ℤ) → y ≡ x → Same Any kinds kinds (int_result x) (int_result y)
    s_int_result kinds x y is s typed = (ap (λ (z : ℤ). int_result z s) is, (s_provided kinds (is_int x) Overflow x s typed).1)

    s_int : (kinds : List ColType) (t : IntSyntax) → IntFits tables kinds t → Same Any kinds kinds (int_of d rule t) (int_of e rule t)
    s_int kinds (number z) fits = s_ok Any kinds z tt
    s_int kinds (variable place) fits = λ s typed. (ap (λ (z : ℤ). (Ok z, s)) (same_number (slice_get s.variables place) d.number e.number (in_place s.variables kinds place types.Int typed.variables fits)), (tt, typed))
    s_int kinds (binary op a b) fits = bind Any Any kinds kinds kinds _ _ _ _ (s_int kinds a fits.0) (λ x u. bind Any Any kinds kinds kinds _ _ _ _ (s_int kinds b fits.1) (λ y w. s_computed kinds (result_of op x y)))
    s_int kinds (count_rows table part) fits = bind Any Any kinds kinds kinds _ _ _ _ (s_step kinds) (λ u v.
        bind Any Any kinds kinds kinds _ _ _ _ (s_int kinds part fits.1) (λ z w.
        bind Any Any kinds kinds kinds _ _ _ _ (s_part kinds table z) (λ p x.
        bind Any Any kinds kinds kinds _ _ _ _ (s_look kinds (λ st. part_rows tables table p st.rows)) (λ rows y.
        s_provided kinds _ _ _))))
    s_int kinds (sum_column table part column) fits = bind Any Any kinds kinds kinds _ _ _ _ (s_step kinds) (λ u v.
        bind Any Any kinds kinds kinds _ _ _ _ (s_int kinds part fits.0) (λ z w.
        bind Any Any kinds kinds kinds _ _ _ _ (s_part kinds table z) (λ p x.
        bind (Totals table column) Any kinds kinds kinds _ _ _ _ (s_rows kinds table p column fits.1) (λ rows same.
        s_int_result kinds (total d.number column (entries rows)) (total e.number column (entries rows)) (same d.number e.number)))))

    s_text : (kinds : List ColType) (t : TextSyntax) → TextFits kinds t → Same Any kinds kinds (text_of d rule t) (text_of e rule t)
    s_text kinds (literal s) fits = s_ok Any kinds s tt
    s_text kinds (text_variable place) fits = λ s typed. (ap (λ (t : List ℕ). (Ok t, s)) (same_text (slice_get s.variables place) d.text e.text (in_place s.variables kinds place types.Text typed.variables fits)), (tt, typed))

    s_pick : {A : Type 0} (kinds : List ColType) (b : Bool) (f g k l : Ran A) → Same Any kinds kinds f k → Same Any kinds kinds g l → Same Any kinds kinds (chosen b f g) (chosen b k l)
    s_pick kinds true f g k l p q = p
    s_pick kinds false f g k l p q = q

    s_bool : (kinds : List ColType) (t : BoolSyntax) → BoolFits tables kinds t → Same Any kinds kinds (bool_of d rule t) (bool_of e rule t)
    s_bool kinds (compare_ints test a b) fits = bind Any Any kinds kinds kinds _ _ _ _ (s_int kinds a fits.0) (λ x u. bind Any Any kinds kinds kinds _ _ _ _ (s_int kinds b fits.1) (λ y w. s_ok Any kinds (compare test x y) tt))
    s_bool kinds (compare_texts test a b) fits = bind Any Any kinds kinds kinds _ _ _ _ (s_text kinds a fits.0) (λ x u. bind Any Any kinds kinds kinds _ _ _ _ (s_text kinds b fits.1) (λ y w. s_ok Any kinds (compare_bytes test x y) tt))
    s_bool kinds (both a b) fits = bind Any Any kinds kinds kinds _ _ _ _ (s_bool kinds a fits.0) (λ x u.
        s_pick kinds x (bool_of d rule b) (ok false) (bool_of e rule b) (ok false) (s_bool kinds b fits.1) (s_ok Any kinds false tt))
    s_bool kinds (either a b) fits = bind Any Any kinds kinds kinds _ _ _ _ (s_bool kinds a fits.0) (λ x u.
        s_pick kinds x (ok true) (bool_of d rule b) (ok true) (bool_of e rule b) (s_ok Any kinds true tt) (s_bool kinds b fits.1))
    s_bool kinds (negated a) fits = bind Any Any kinds kinds kinds _ _ _ _ (s_bool kinds a fits) (λ x u. s_ok Any kinds (not x) tt)
    s_bool kinds (row_exists table key) fits = bind Any Any kinds kinds kinds _ _ _ _ (s_step kinds) (λ u v.
        bind Any Any kinds kinds kinds _ _ _ _ (s_int kinds key fits.1) (λ k w.
        bind (InTable table) Any kinds kinds kinds _ _ _ _ (s_access kinds Read table k) (λ name is.
        bind (OfTable table) Any kinds kinds kinds _ _ _ _ (s_row kinds table name is) (λ found of. s_ok Any kinds (is_some found) tt))))

    abbrev OfKind : ColType → Value → Type 0
    OfKind kind v = type_of v ≡ kind

    s_value : (kinds : List ColType) (t : ValueSyntax) → ValueFits tables kinds t → Same (OfKind (kind_of t)) kinds kinds (value_of d rule t) (value_of e rule t)
    s_value kinds (int_value t) fits = bind Any (OfKind types.Int) kinds kinds kinds _ _ _ _ (s_int kinds t fits) (λ z u. s_ok (OfKind types.Int) kinds (values.Int z) refl)
    s_value kinds (text_value t) fits = bind Any (OfKind types.Text) kinds kinds kinds _ _ _ _ (s_text kinds t fits) (λ s u. s_ok (OfKind types.Text) kinds (values.Text s) refl)

    abbrev OfKinds : List ColType → List Value → Type 0
    OfKinds ks vs = map type_of vs ≡ ks

    s_values : (kinds : List ColType) (ts : List ValueSyntax) → AllByRecursion (ValueFits tables kinds) ts → Same (OfKinds (map kind_of ts)) kinds kinds (values_of d rule ts) (values_of e rule ts)
    s_values kinds [] fits = s_ok (OfKinds []) kinds [] refl
    s_values kinds (t ∷ ts) fits = bind (OfKind (kind_of t)) (OfKinds (map kind_of (t ∷ ts))) kinds kinds kinds _ _ _ _ (s_value kinds t fits.0) (λ v is.
        bind (OfKinds (map kind_of ts)) (OfKinds (map kind_of (t ∷ ts))) kinds kinds kinds _ _ _ _ (s_values kinds ts fits.1) (λ vs are.
        s_ok (OfKinds (map kind_of (t ∷ ts))) kinds (v ∷ vs) (ap (λ (k : ColType). k ∷ map type_of vs) is ∙ ap (λ (ks : List ColType). kind_of t ∷ ks) are)))

    -- a variable gets a column's value
    s_column : (kinds : List ColType) (place table column : ℕ) (kind : ColType) (row : RowOf) → column_kind tables table column ≡ Some kind → Takes kinds place kind → IsRowOf tables table row
        → Same Any kinds (declared kinds place kind) (set_variable place (unwrap_or (slice_get row column) (values.Int d.number))) (set_variable place (unwrap_or (slice_get row column) (values.Int e.number)))
    s_column kinds place table column kind row there takes is s typed =
        let same = same_value (slice_get row column) (values.Int d.number) (values.Int e.number) kind (column_in_place tables table row column kind is there) in
        (ap (λ (v : Value). set_variable place v s) same.0, (s_variable kinds place (unwrap_or (slice_get row column) (values.Int d.number)) kind same.1 takes s typed).1)

    s_chosen : (kinds : List ColType) (b : Bool) (f g k l : Ran (Unit {0})) → Same Any kinds kinds (scoped f) (scoped k) → Same Any kinds kinds (scoped g) (scoped l) → Same Any kinds kinds (scoped (chosen b f g)) (scoped (chosen b k l))
    s_chosen kinds true f g k l p q = p
    s_chosen kinds false f g k l p q = q

    s_turns : (kinds later : List ColType) (f g : Ran (Unit {0})) → Extends kinds later → Same Any (in_loop kinds) later f g → (zs : List ℤ) → Same Any kinds kinds (turns f zs) (turns g zs)
    s_turns kinds later f g more h [] = s_ok Any kinds tt tt
    s_turns kinds later f g more h (z ∷ zs) = bind Any Any kinds kinds kinds _ _ _ _
        (bind Any Any kinds kinds kinds _ _ _ _ (s_step kinds) (λ u v.
        s_scoped kinds later (with_number f z) (with_number g z) more (bind Any Any kinds (in_loop kinds) later _ _ _ _ (s_declare kinds z) (λ w x. h))))
        (λ u v. s_turns kinds later f g more h zs)

    s_get : (kinds : List ColType) (place table : ℕ) (key : IntSyntax) (column : ℕ) (kind : ColType) → IntFits tables kinds key → column_kind tables table column ≡ Some kind → Takes kinds place kind
        → Same Any kinds (declared kinds place kind) (effect d rule (get_syntax place table key column)) (effect e rule (get_syntax place table key column))
    s_get kinds place table key column kind fits there takes = bind Any Any kinds kinds _ _ _ _ _ (s_int kinds key fits) (λ k u.
        bind (InTable table) Any kinds kinds _ _ _ _ _ (s_access kinds Read table k) (λ name is.
        bind (OfTable table) Any kinds kinds _ _ _ _ _ (s_row kinds table name is) (λ found of.
        bind (IsRowOf tables table) Any kinds kinds _ _ _ _ _ (s_present kinds table found of) (λ row its.
        s_column kinds place table column kind row there takes its))))

    mutual
      s_effect : (kinds : List ColType) (t : StmtSyntax) → StmtFits tables kinds t → Same Any kinds (kinds_after tables kinds t) (effect d rule t) (effect e rule t)
      s_effect kinds (assign place value) fits = bind (OfKind (kind_of value)) Any kinds kinds _ _ _ _ _ (s_value kinds value fits.0) (λ v is.
          s_variable kinds place v (kind_of value) is fits.1)
      s_effect kinds (get_syntax place table key column) fits =
          subst (λ (o : Option ColType). Same Any kinds (declared kinds place (unwrap_or o types.Int)) (effect d rule (get_syntax place table key column)) (effect e rule (get_syntax place table key column)))
          (sym fits.1.1) (s_get kinds place table key column fits.1.0 fits.0 fits.1.1 fits.1.2)
      s_effect kinds (put table key column value) fits = bind Any Any kinds kinds kinds _ _ _ _ (s_int kinds key fits.0) (λ k u.
          bind (OfKind (kind_of value)) Any kinds kinds kinds _ _ _ _ (s_value kinds value fits.1) (λ v is.
          bind (InTable table) Any kinds kinds kinds _ _ _ _ (s_access kinds Write table k) (λ name at.
          bind (OfTable table) Any kinds kinds kinds _ _ _ _ (s_row kinds table name at) (λ found of.
          bind (IsRowOf tables table) Any kinds kinds kinds _ _ _ _ (s_present kinds table found of) (λ row its.
          let same : map type_of (slice_set row column v) ≡ map type_of row = kept_types row column v (column_in_place tables table row column (kind_of value) its fits.2 ∙ ap (λ (q : ColType). Some q) (sym is)) in
          s_write kinds name (slice_set row column v) (subst (λ (n : ℕ). IsRowOf tables n (slice_set row column v)) (sym at) (its ∙ ap (λ (ks : List ColType). Some ks) (sym same))))))))
      s_effect kinds (insert_row table key es) fits = bind Any Any kinds kinds kinds _ _ _ _ (s_int kinds key fits.0) (λ k u.
          bind (OfKinds (map kind_of es)) Any kinds kinds kinds _ _ _ _ (s_values kinds es fits.1.0) (λ vs are.
          bind (InTable table) Any kinds kinds kinds _ _ _ _ (s_access kinds Write table k) (λ name at.
          bind (OfTable table) Any kinds kinds kinds _ _ _ _ (s_row kinds table name at) (λ found of.
          bind Any Any kinds kinds kinds _ _ _ _ (s_absent kinds found) (λ v w.
          s_write kinds name vs (subst (λ (n : ℕ). IsRowOf tables n vs) (sym at) (fits.1.1 ∙ ap (λ (ks : List ColType). Some ks) (sym are))))))))
      s_effect kinds (delete_row table key) fits = bind Any Any kinds kinds kinds _ _ _ _ (s_int kinds key fits.1) (λ k u.
          bind (InTable table) Any kinds kinds kinds _ _ _ _ (s_access kinds Write table k) (λ name at.
          bind (OfTable table) Any kinds kinds kinds _ _ _ _ (s_row kinds table name at) (λ found of.
          bind (IsRowOf tables table) Any kinds kinds kinds _ _ _ _ (s_present kinds table found of) (λ row its.
          s_remove kinds name))))
      s_effect kinds (for_numbers low high body) fits = bind Any Any kinds kinds kinds _ _ _ _ (s_int kinds low fits.0) (λ first u.
          bind Any Any kinds kinds kinds _ _ _ _ (s_int kinds high fits.1) (λ last w.
          s_turns kinds (kinds_through tables (in_loop kinds) body) (in_order d rule body) (in_order e rule body) (loop_extends tables kinds body) (s_order (in_loop kinds) body fits.2) (numbers_between first last)))
      s_effect kinds (for_keys table part body) fits = bind Any Any kinds kinds kinds _ _ _ _ (s_int kinds part fits.1) (λ z u.
          bind Any Any kinds kinds kinds _ _ _ _ (s_part kinds table z) (λ p w.
          bind Any Any kinds kinds kinds _ _ _ _ (s_look kinds (λ st. part_rows tables table p st.rows)) (λ rows x.
          s_turns kinds (kinds_through tables (in_loop kinds) body) (in_order d rule body) (in_order e rule body) (loop_extends tables kinds body) (s_order (in_loop kinds) body fits.2) (map pos (keys_of (entries rows))))))
      s_effect kinds (choose test first second) fits = bind Any Any kinds kinds kinds _ _ _ _ (s_bool kinds test fits.0) (λ b u.
          s_chosen kinds b (in_order d rule first) (in_order d rule second) (in_order e rule first) (in_order e rule second)
          (s_scoped kinds (kinds_through tables kinds first) (in_order d rule first) (in_order e rule first) (through_extends tables kinds first) (s_order kinds first fits.1))
          (s_scoped kinds (kinds_through tables kinds second) (in_order d rule second) (in_order e rule second) (through_extends tables kinds second) (s_order kinds second fits.2)))
      s_effect kinds (abort_syntax code) fits = s_ended {A = Unit {0}} Any kinds kinds (endings.Abort (Own code))
      s_effect kinds (reply es) fits = bind (OfKinds (map kind_of es)) Any kinds kinds kinds _ _ _ _ (s_values kinds es fits) (λ vs u. s_replying kinds vs)

      s_order : (kinds : List ColType) (b : BlockSyntax) → BlockFits tables kinds b → Same Any kinds (kinds_through tables kinds b) (in_order d rule b) (in_order e rule b)
      s_order kinds no_statements fits = s_ok Any kinds tt tt
      s_order kinds (followed t rest) fits = bind Any Any kinds kinds _ _ _ _ _ (s_step kinds) (λ u w.
          bind Any Any kinds (kinds_after tables kinds t) _ _ _ _ _ (s_effect kinds t fits.0) (λ v x. s_order (kinds_after tables kinds t) rest fits.1))

-- ---- entries

left_typed : (tables : List TableShape) (kinds : List ColType) (db : Database) (r : Result (Unit {0}) Ending × State) → HasTypes tables db → After tables (λ u. Unit {0}) kinds r → HasTypes tables (finished db r).1
left_typed tables kinds db (Ok x, s) h a = a.1.rows
left_typed tables kinds db (Err e, s) h a = h

run_same : (tables : List TableShape) (kinds : List ColType) (fo : FootprintOf) (uncovered : Ending) (body : List StmtSyntax) (arguments : List Value) (db : Database) (d : StandIn)
    → BlockFits tables kinds (block_of body) → map type_of arguments ≡ kinds → HasTypes tables db
    → (run_of d (covered tables fo uncovered) body arguments db ≡ run_of nothing (covered tables fo uncovered) body arguments db) × HasTypes tables (run_of nothing (covered tables fo uncovered) body arguments db).1
run_same tables kinds fo uncovered body arguments db d fits args rows =
    let both = s_order tables (tested fo uncovered) (s_tested tables fo uncovered) nothing d kinds (block_of body) fits (start arguments db) (record { variables = args; rows = rows }) in
    (ap (finished db) both.0, left_typed tables (kinds_through tables kinds (block_of body)) db _ rows both.1)

by_footing : (tables : List TableShape) (kinds : List ColType) (body : List StmtSyntax) (arguments : List Value) (footing : Footing) (db : Database) (d : StandIn)
    → BlockFits tables kinds (block_of body) → map type_of arguments ≡ kinds → HasTypes tables db
    → (meaning_by d tables body arguments footing db ≡ meaning_by nothing tables body arguments footing db) × HasTypes tables (meaning_by nothing tables body arguments footing db).1
by_footing tables kinds body arguments (declares fo) db d fits args rows = run_same tables kinds fo (endings.Abort Uncovered) body arguments db d fits args rows
by_footing tables kinds body arguments (faults code) db d fits args rows = (refl, rows)
by_footing tables kinds body arguments (finds fo) db d fits args rows = run_same tables kinds fo endings.Stale body arguments db d fits args rows

pub never_shows : (proc : ProcSyntax) (entry : EntryShape) (db : Database) → IsCallOf proc entry → HasTypes entry.tables db → StandInNeverShows entry db
never_shows proc entry db call rows =
    let fits : BlockFits entry.tables (kinds_of proc.params) (block_of entry.body) = subst (λ (body : List StmtSyntax). BlockFits entry.tables (kinds_of proc.params) (block_of body)) (sym call.body) call.fits.body in
    let law = λ (d : StandIn). by_footing entry.tables (kinds_of proc.params) entry.body entry.arguments entry.footing db d fits call.arguments rows in
    record { same = λ d. (law d).0; types = (law nothing).1 }

pub never_found : (tables : List TableShape) (proc : ProcSyntax) (arguments : List Value) (db : Database) → ProcFits tables proc → map type_of arguments ≡ kinds_of proc.params → HasTypes tables db
    → StandInNeverFound tables proc.body arguments db
never_found tables proc arguments db fits args rows = λ d.
    ap (λ (r : Result (Unit {0}) Ending × State). r.1.accesses)
    (s_order tables recorded (s_recorded tables) nothing d (kinds_of proc.params) (block_of proc.body) fits.body (start arguments db) (record { variables = args; rows = rows })).0
