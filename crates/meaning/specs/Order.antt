-- Claimed: what contracts promise to a reader rests on these words.
-- The order in which the parts of a statement are looked at, said once for all statements, and for expressions.
use Rattle.std.specs.Prelude.{◌≡◌, ℕ, ℤ, ◌+◌, nat_lt, Bool, true, false, not, List, [], ◌∷◌, map, length, slice_get, Ok, Err}
use Rattle.values.specs.declared.value.Value.{Value}
use Rattle.proclang_types.specs.declared.right.Right.{Right}
use Rattle.proclang_types.specs.declared.right.Right.TheVariants.{Read, Write}
use Rattle.proclang_types.specs.declared.operator.IntOperator.{IntOperator}
use Rattle.proclang_types.specs.declared.operator.Comparison.{Comparison}
use Rattle.proclang_types.specs.Syntax.{IntSyntax, binary, count_rows, sum_column, BoolSyntax, compare_ints, row_exists, ValueSyntax, int_value, StmtSyntax, assign, get, put, insert_row, delete_row, choose, for_numbers, for_keys, abort, reply, BlockSyntax, no_statements, followed}
use Rattle.footprint.specs.declared.abort_code.AbortCode.TheVariants.{TooLong}
use Rattle.footprint.specs.Declaration.{number_or}
use Rattle.meaning.specs.declared.outcome.Ending.{Ending}
use Rattle.meaning.specs.Runs.{State, Ran, ◌>>=◌, ok, look, provided, AccessRule, step, accessed, part_accessed, row_now, present, absent}
use Rattle.meaning.specs.Meaning.{StandIn, int_of, bool_of, value_of, in_order}

-- an operand: an expression for a number or a text, or a condition
pub data Operand : Type 0 where
  value_operand : ValueSyntax → Operand
  condition : BoolSyntax → Operand

abbrev pub number_operand : IntSyntax → Operand
number_operand e = value_operand (int_value e)

-- the operands of a statement, in the order in which they are written
abbrev pub operands_of : StmtSyntax → List Operand
operands_of (assign place e) = value_operand e ∷ []
operands_of (get place table key column) = number_operand key ∷ []
operands_of (put table key column e) = number_operand key ∷ value_operand e ∷ []
operands_of (insert_row table key es) = number_operand key ∷ map value_operand es
operands_of (delete_row table key) = number_operand key ∷ []
operands_of (choose test first second) = condition test ∷ []
operands_of (for_numbers low high body) = number_operand low ∷ number_operand high ∷ []
operands_of (for_keys table part body) = number_operand part ∷ []
operands_of (abort code) = []
operands_of (reply es) = map value_operand es

-- one operand after the other, and the numbers and texts that they give
abbrev pub operand_values : StandIn → AccessRule → List Operand → Ran (List Value)
operand_values d rule [] = ok []
operand_values d rule (value_operand e ∷ operands) = do
  v ← value_of d rule e
  vs ← operand_values d rule operands
  ok (v ∷ vs)
operand_values d rule (condition e ∷ operands) = do
  b ← bool_of d rule e
  operand_values d rule operands

-- ---- what is tested of these values

-- whether the number is a key, and then whether the footprint covers the access to that row
abbrev pub row_reached : AccessRule → Right → ℕ → ℤ → Ran (Unit {0})
row_reached rule right table z = do
  name ← accessed rule right table z
  ok tt

-- ... and then whether the row is there
abbrev pub row_present : AccessRule → Right → ℕ → ℤ → Ran (Unit {0})
row_present rule right table z = do
  name ← accessed rule right table z
  found ← row_now name
  row ← present found
  ok tt

-- ... or is not there
abbrev pub row_absent : AccessRule → Right → ℕ → ℤ → Ran (Unit {0})
row_absent rule right table z = do
  name ← accessed rule right table z
  found ← row_now name
  absent found

-- whether the number is one of a partition, and then whether the footprint covers the access to it
abbrev pub part_reached : AccessRule → ℕ → ℤ → Ran (Unit {0})
part_reached rule table z = do
  part ← part_accessed rule table z
  ok tt

-- rule: order.reply
-- whether the reply has room for more values
abbrev pub reply_has_room : List Value → Ran (Unit {0})
reply_has_room vs = do
  before ← look (λ st. st.reply)
  provided (not (nat_lt 64 (length before + length vs))) TooLong tt

-- the first of the values: a key, or the number of a partition
abbrev pub leading_number : StandIn → List Value → ℤ
leading_number d vs = number_or d.number (slice_get vs 0)

-- what is tested of the values of the operands
abbrev pub tests_of : StandIn → AccessRule → StmtSyntax → List Value → Ran (Unit {0})
tests_of d rule (get place table key column) vs = row_present rule Read table (leading_number d vs)
tests_of d rule (put table key column e) vs = row_present rule Write table (leading_number d vs)
tests_of d rule (insert_row table key es) vs = row_absent rule Write table (leading_number d vs)
tests_of d rule (delete_row table key) vs = row_present rule Write table (leading_number d vs)
tests_of d rule (for_keys table part body) vs = part_reached rule table (leading_number d vs)
tests_of d rule (reply es) vs = reply_has_room vs
tests_of d rule s vs = ok tt

-- ---- the order

-- first the step, then all operands, and then the tests of their values
abbrev pub parts_in_order : StandIn → AccessRule → List Operand → (List Value → Ran (Unit {0})) → Ran (Unit {0})
parts_in_order d rule operands tests = do
  u ← step
  vs ← operand_values d rule operands
  tests vs

-- where the parts end the run, the whole ends it likewise, and leaves the same state
abbrev pub EndsLike : {A B : Type 0} → Ran A → Ran B → Type 0
EndsLike parts whole = (before left : State) (e : Ending) → parts before ≡ (Err e, left) → whole before ≡ (Err e, left)

-- where the parts go on, so does the whole
abbrev pub GoesOnLike : {A B : Type 0} → Ran A → Ran B → Type 0
GoesOnLike {A} {B} parts whole = (before left : State) (x : A) → parts before ≡ (Ok x, left)
    → (after : State) × (y : B) × (whole before ≡ (Ok y, after))

-- the statement has no block, and is no abort
abbrev pub is_plain : StmtSyntax → Bool
is_plain (choose test first second) = false
is_plain (for_numbers low high body) = false
is_plain (for_keys table part body) = false
is_plain (abort code) = false
is_plain s = true

-- rule: order.operands
-- Each statement looks at its parts in this order, and the first that fails ends the run. A plain statement fails in no
-- other way. Counts, sums and tests of a row go the same way, and operators and comparisons evaluate their operands
-- from left to right.
pub record OperandsComeFirst (d : StandIn) (rule : AccessRule) : Type 0 where
  pub statements : (s : StmtSyntax) (rest : BlockSyntax)
      → EndsLike (parts_in_order d rule (operands_of s) (tests_of d rule s)) (in_order d rule (followed s rest))
  pub nothing_else : (s : StmtSyntax) → is_plain s ≡ true
      → GoesOnLike (parts_in_order d rule (operands_of s) (tests_of d rule s))
      (in_order d rule (followed s no_statements))
  pub counts : (table : ℕ) (part : IntSyntax)
      → EndsLike
      (parts_in_order d rule (number_operand part ∷ []) (λ vs. part_reached rule table (leading_number d vs)))
      (int_of d rule (count_rows table part))
  pub sums : (table : ℕ) (part : IntSyntax) (column : ℕ)
      → EndsLike
      (parts_in_order d rule (number_operand part ∷ []) (λ vs. part_reached rule table (leading_number d vs)))
      (int_of d rule (sum_column table part column))
  pub tests_of_rows : (table : ℕ) (key : IntSyntax)
      → EndsLike
      (parts_in_order d rule (number_operand key ∷ []) (λ vs. row_reached rule Read table (leading_number d vs)))
      (bool_of d rule (row_exists table key))
  pub operators : (op : IntOperator) (a b : IntSyntax)
      → EndsLike (operand_values d rule (number_operand a ∷ number_operand b ∷ [])) (int_of d rule (binary op a b))
  pub comparisons : (test : Comparison) (a b : IntSyntax)
      → EndsLike (operand_values d rule (number_operand a ∷ number_operand b ∷ []))
      (bool_of d rule (compare_ints test a b))
