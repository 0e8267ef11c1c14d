-- Two runs of one body, under two rules of what happens at an access: a relation that each part of a step keeps is one of the whole runs.
use Rattle.std.proofs.Common.{◌≡◌, ℕ, ◌+◌, Bool, true, false, not, List, [], ◌∷◌, ◌++◌, map, refl, Option, Some, None, Result, Ok, Err, ℤ, pos, negsuc}
use Rattle.std.specs.Prelude.{nat_lt, length, take, unwrap_or, slice_get, slice_set}
use Rattle.std.specs.Option.{is_some}
use Rattle.std.specs.FinMap.{entries}
use Rattle.values.specs.declared.name.RowName.{RowName}
use Rattle.values.specs.declared.value.Value.{Value}
use Rattle.values.specs.declared.value.Value.TheVariants as values
use Rattle.catalogue.specs.Shapes.{TableShape}
use Rattle.catalogue.specs.Places.{partition_numbered}
use Rattle.values.specs.Database.{Database, RowOf}
use Rattle.proclang_types.specs.declared.right.Right.{Right}
use Rattle.proclang_types.specs.declared.right.Right.TheVariants.{Read, Write}
use Rattle.proclang_types.specs.Syntax.{IntSyntax, number, variable, binary, count_rows, sum_column, TextSyntax, literal, text_variable, BoolSyntax, compare_ints, compare_texts, both, either, negated, row_exists, ValueSyntax, int_value, text_value, StmtSyntax, assign, get as get_syntax, put, insert_row, delete_row, choose, for_numbers, for_keys, abort as abort_syntax, reply, BlockSyntax, no_statements, followed}
use Rattle.footprint.specs.declared.abort_code.AbortCode.{AbortCode}
use Rattle.footprint.specs.declared.abort_code.AbortCode.TheVariants.{BadKey, BadPart, NoRow, DuplicateRow, Budget, TooLong, Own}
use Rattle.footprint.specs.declared.resource.Resource.{Resource}
use Rattle.footprint.specs.declared.resource.Resource.TheVariants.{Table}
use Rattle.footprint.specs.declared.resource.InTable.TheVariants.{Part}
use Rattle.footprint.specs.declared.resource.InPart.TheVariants.{WholePart}
use Rattle.footprint.specs.Tree.{row_resource}
use Rattle.footprint.specs.Arithmetic.{result_of}
use Rattle.footprint.specs.Declaration.{number_or}
use Rattle.meaning.specs.Runs.{Access, State, Ran, and_then, ok, abort, look, alter, provided, AccessRule, step, tested_key, computed, accessed, part_there, part_accessed, row_now, present, absent, set_row, remove_row, declare, with_variable, set_variable, scoped, replying}
use Rattle.meaning.specs.Comparing.{compare, compare_bytes}
use Rattle.meaning.specs.Partitions.{part_rows, keys_of}
use Rattle.meaning.specs.Turns.{numbers_between}
use Rattle.meaning.specs.Meaning.{StandIn, text_or, int_of, text_of, bool_of, value_of, values_of, chosen, with_number, turn_of, turns, effect, in_order}

abbrev pub Any : {A : Type 0} → A → Type 0
Any x = Unit {0}

-- it depends on the variables, the steps and the reply alone
abbrev pub HangsOnTheRest : {A : Type 0} → (State → A) → Type 0
HangsOnTheRest f = (s : State) (rows : Database) (accesses : List Access) → f (record s { rows = rows; accesses = accesses }) ≡ f s

-- it changes the variables, the steps and the reply alone, and depends on them alone
abbrev pub ChangesTheRest : (State → State) → Type 0
ChangesTheRest f = (s : State) (rows : Database) (accesses : List Access) → f (record s { rows = rows; accesses = accesses }) ≡ record (f s) { rows = rows; accesses = accesses }

-- a relation of two runs, and that the parts of a step keep it
pub record Relation (tables : List TableShape) (one other : Resource → Right → Ran (Unit {0})) : Type 1 where
  -- the runs are related, and a value that they go on with is of Q
  pub Related : {A : Type 0} → (A → Type 0) → Ran A → Ran A → Type 0
  -- what is known of a resource and a right, once an access of them has not ended the runs
  pub Passed : Resource → Right → Type 0
  pub chain : {A B : Type 0} (Q : A → Type 0) (P : B → Type 0) (f g : Ran A) (h k : A → Ran B) → Related Q f g → ((x : A) → Q x → Related P (h x) (k x)) → Related P (and_then f h) (and_then g k)
  pub go_on : {A : Type 0} (Q : A → Type 0) (x : A) → Q x → Related Q (ok x) (ok x)
  pub aborted : {A : Type 0} (code : AbortCode) → Related {A = A} Any (abort code) (abort code)
  pub looked : {A : Type 0} (f : State → A) → HangsOnTheRest f → Related Any (look f) (look f)
  pub altered : (f : State → State) → ChangesTheRest f → Related Any (alter f) (alter f)
  pub access : (resource : Resource) (right : Right) → Related (λ u. Passed resource right) (one resource right) (other resource right)
  pub part_seen : (table part : ℕ) → Passed (Table table (Part part WholePart)) Read → Related Any (look (λ st. part_rows tables table part st.rows)) (look (λ st. part_rows tables table part st.rows))
  pub row_seen : (right : Right) (name : RowName) → Passed (row_resource tables name) right → Related Any (row_now name) (row_now name)
  pub row_set : (name : RowName) (row : RowOf) → Passed (row_resource tables name) Write → Related Any (set_row name row) (set_row name row)
  pub row_removed : (name : RowName) → Passed (row_resource tables name) Write → Related Any (remove_row name) (remove_row name)

module _ {tables : List TableShape} {one other : Resource → Right → Ran (Unit {0})} (relation : Relation tables one other) where
  open relation use {Related, Passed, chain, go_on, aborted, looked, altered, access, part_seen, row_seen, row_set, row_removed}

  abbrev first : AccessRule
  first = record { tables = tables; access = one }

  abbrev second : AccessRule
  second = record { tables = tables; access = other }

  -- one part and then the next
  bind : {A B : Type 0} {Q : A → Type 0} {P : B → Type 0} {f g : Ran A} {h k : A → Ran B} → Related Q f g → ((x : A) → Q x → Related P (h x) (k x)) → Related P (and_then f h) (and_then g k)
  bind {Q = Q} {P = P} {f = f} {g = g} {h = h} {k = k} a n = chain Q P f g h k a n

  next : {A B : Type 0} {P : B → Type 0} {f g : Ran A} {h k : A → Ran B} → Related Any f g → ((x : A) → Related P (h x) (k x)) → Related P (and_then f h) (and_then g k)
  next a n = bind a (λ x u. n x)

  value : {A : Type 0} (x : A) → Related Any (ok x) (ok x)
  value x = go_on Any x tt

  provided_alike : {A : Type 0} (b : Bool) (code : AbortCode) (x : A) → Related Any (provided b code x) (provided b code x)
  provided_alike true code x = value x
  provided_alike false code x = aborted code

  computed_alike : {A : Type 0} (r : Result A AbortCode) → Related Any (computed r) (computed r)
  computed_alike (Ok x) = value x
  computed_alike (Err code) = aborted code

  stepped : Related Any step step
  stepped = next (looked (λ st. st.steps) (λ s rows accesses. refl)) (λ n.
      next (provided_alike (nat_lt n 10000) Budget (n + 1)) (λ more.
      altered (λ st. record st { steps = more }) (λ s rows accesses. refl)))

  key_tested : (z : ℤ) → Related Any (tested_key z) (tested_key z)
  key_tested (pos n) = value n
  key_tested (negsuc n) = aborted BadKey

  abbrev RowPassed : Right → RowName → Type 0
  RowPassed right name = Passed (row_resource tables name) right

  row_accessed : (right : Right) (table : ℕ) (z : ℤ) → Related (RowPassed right) (accessed first right table z) (accessed second right table z)
  row_accessed right table z = next (key_tested z) (λ key.
      let name : RowName = record { table = table; key = key } in
      bind (access (row_resource tables name) right) (λ u passed. go_on (RowPassed right) name passed))

  abbrev PartPassed : ℕ → ℕ → Type 0
  PartPassed table part = Passed (Table table (Part part WholePart)) Read

  part_found : (o : Option ℕ) → Related Any (part_there o) (part_there o)
  part_found None = aborted BadPart
  part_found (Some part) = value part

  part_reached : (table : ℕ) (z : ℤ) → Related (PartPassed table) (part_accessed first table z) (part_accessed second table z)
  part_reached table z = next (part_found (partition_numbered tables table z)) (λ part.
      bind (access (Table table (Part part WholePart)) Read) (λ u passed. go_on (PartPassed table) part passed))

  is_present : (o : Option RowOf) → Related Any (present o) (present o)
  is_present None = aborted NoRow
  is_present (Some row) = value row

  is_absent : (o : Option RowOf) → Related Any (absent o) (absent o)
  is_absent None = value tt
  is_absent (Some row) = aborted DuplicateRow

  declared : (v : Value) → Related Any (declare v) (declare v)
  declared v = altered (λ st. record st { variables = st.variables ++ v ∷ [] }) (λ s rows accesses. refl)

  variable_set : (place : ℕ) (v : Value) → Related Any (set_variable place v) (set_variable place v)
  variable_set place v = altered (λ st. record st { variables = with_variable st.variables place v }) (λ s rows accesses. refl)

  in_scope : {f g : Ran (Unit {0})} → Related Any f g → Related Any (scoped f) (scoped g)
  in_scope a = next (looked (λ st. length st.variables) (λ s rows accesses. refl)) (λ seen. next a (λ u.
      altered (λ st. record st { variables = take seen st.variables }) (λ s rows accesses. refl)))

  replied : (vs : List Value) → Related Any (replying vs) (replying vs)
  replied vs = next (looked (λ st. st.reply) (λ s rows accesses. refl)) (λ before.
      next (provided_alike (not (nat_lt 64 (length before + length vs))) TooLong (before ++ vs)) (λ all.
      altered (λ st. record st { reply = all }) (λ s rows accesses. refl)))

  one_chosen : {A : Type 0} (b : Bool) {f g h k : Ran A} → Related Any f h → Related Any g k → Related Any (chosen b f g) (chosen b h k)
  one_chosen true a c = a
  one_chosen false a c = c

  turned : {f g : Ran (Unit {0})} → Related Any f g → (zs : List ℤ) → Related Any (turns f zs) (turns g zs)
  turned a [] = value tt
  turned {f = f} {g = g} a (z ∷ zs) = next {f = turn_of f z} {g = turn_of g z}
      (next stepped (λ u. in_scope {f = with_number f z} {g = with_number g z} (next (declared (values.Int z)) (λ v. a)))) (λ u. turned a zs)

  module _ (d : StandIn) where
    int_related : (e : IntSyntax) → Related Any (int_of d first e) (int_of d second e)
    int_related (number z) = value z
    int_related (variable place) = looked (λ st. number_or d.number (slice_get st.variables place)) (λ s rows accesses. refl)
    int_related (binary op a b) = next (int_related a) (λ x. next (int_related b) (λ y. computed_alike (result_of op x y)))
    int_related (count_rows table part) = next stepped (λ u. next (int_related part) (λ z.
        bind (part_reached table z) (λ p passed. next (part_seen table p passed) (λ rows. provided_alike _ _ _))))
    int_related (sum_column table part column) = next stepped (λ u. next (int_related part) (λ z.
        bind (part_reached table z) (λ p passed. next (part_seen table p passed) (λ rows. provided_alike _ _ _))))

    text_related : (e : TextSyntax) → Related Any (text_of d first e) (text_of d second e)
    text_related (literal s) = value s
    text_related (text_variable place) = looked (λ st. text_or d.text (slice_get st.variables place)) (λ s rows accesses. refl)

    bool_related : (e : BoolSyntax) → Related Any (bool_of d first e) (bool_of d second e)
    bool_related (compare_ints test a b) = next (int_related a) (λ x. next (int_related b) (λ y. value (compare test x y)))
    bool_related (compare_texts test a b) = next (text_related a) (λ x. next (text_related b) (λ y. value (compare_bytes test x y)))
    bool_related (both a b) = next (bool_related a) (λ x. one_chosen x (bool_related b) (value false))
    bool_related (either a b) = next (bool_related a) (λ x. one_chosen x (value true) (bool_related b))
    bool_related (negated a) = next (bool_related a) (λ x. value (not x))
    bool_related (row_exists table key) = next stepped (λ u. next (int_related key) (λ k.
        bind (row_accessed Read table k) (λ name passed. next (row_seen Read name passed) (λ found. value (is_some found)))))

    value_related : (e : ValueSyntax) → Related Any (value_of d first e) (value_of d second e)
    value_related (int_value e) = next (int_related e) (λ z. value (values.Int z))
    value_related (text_value e) = next (text_related e) (λ s. value (values.Text s))

    values_related : (es : List ValueSyntax) → Related Any (values_of d first es) (values_of d second es)
    values_related [] = value []
    values_related (e ∷ es) = next (value_related e) (λ v. next (values_related es) (λ vs. value (v ∷ vs)))

    mutual
      effect_related : (s : StmtSyntax) → Related Any (effect d first s) (effect d second s)
      effect_related (assign place value) = next (value_related value) (λ v. variable_set place v)
      effect_related (get_syntax place table key column) = next (int_related key) (λ k.
          bind (row_accessed Read table k) (λ name passed. next (row_seen Read name passed) (λ found. next (is_present found) (λ row.
          variable_set place (unwrap_or (slice_get row column) (values.Int d.number))))))
      effect_related (put table key column value) = next (int_related key) (λ k. next (value_related value) (λ v.
          bind (row_accessed Write table k) (λ name passed. next (row_seen Write name passed) (λ found. next (is_present found) (λ row.
          row_set name (slice_set row column v) passed)))))
      effect_related (insert_row table key es) = next (int_related key) (λ k. next (values_related es) (λ vs.
          bind (row_accessed Write table k) (λ name passed. next (row_seen Write name passed) (λ found. next (is_absent found) (λ u.
          row_set name vs passed)))))
      effect_related (delete_row table key) = next (int_related key) (λ k.
          bind (row_accessed Write table k) (λ name passed. next (row_seen Write name passed) (λ found. next (is_present found) (λ row.
          row_removed name passed))))
      effect_related (choose test then_block else_block) = next (bool_related test) (λ b. in_scope (one_chosen b (block_related then_block) (block_related else_block)))
      effect_related (for_numbers low high body) = next (int_related low) (λ from. next (int_related high) (λ to. turned (block_related body) (numbers_between from to)))
      effect_related (for_keys table part body) = next (int_related part) (λ z.
          bind (part_reached table z) (λ p passed. next (part_seen table p passed) (λ rows. turned (block_related body) (map pos (keys_of (entries rows))))))
      effect_related (abort_syntax code) = aborted (Own code)
      effect_related (reply es) = next (values_related es) (λ vs. replied vs)

      pub block_related : (b : BlockSyntax) → Related Any (in_order d first b) (in_order d second b)
      block_related no_statements = value tt
      block_related (followed s rest) = next stepped (λ u. next (effect_related s) (λ v. block_related rest))
