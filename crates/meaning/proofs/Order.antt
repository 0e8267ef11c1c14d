-- The first part of a statement that fails, in the order of all parts, is how the statement fails.
use Rattle.std.proofs.Common.{◌≡◌, ℕ, ◌+◌, Bool, true, false, not, List, [], ◌∷◌, ◌++◌, map, refl, sym, ap, subst, Result, Ok, Err, ℤ}
use Rattle.std.specs.Prelude.{nat_lt, length}
use Rattle.values.specs.declared.value.Value.{Value}
use Rattle.values.specs.declared.value.Value.TheVariants as values
use Rattle.proclang_types.specs.declared.right.Right.TheVariants.{Read, Write}
use Rattle.proclang_types.specs.declared.operator.IntOperator.{IntOperator}
use Rattle.proclang_types.specs.declared.operator.Comparison.{Comparison}
use Rattle.proclang_types.specs.Syntax.{IntSyntax, binary, count_rows, sum_column, BoolSyntax, compare_ints, row_exists, ValueSyntax, StmtSyntax, assign, get as get_syntax, put, insert_row, delete_row, choose, for_numbers, for_keys, abort as abort_syntax, reply, BlockSyntax, no_statements, followed}
use Rattle.footprint.specs.declared.abort_code.AbortCode.{AbortCode}
use Rattle.footprint.specs.declared.abort_code.AbortCode.TheVariants.{TooLong}
use Rattle.meaning.specs.declared.outcome.Ending.{Ending}
use Rattle.meaning.specs.Runs.{State, Ran, continued, and_then, ok, look, provided, AccessRule, step, accessed, part_accessed, row_now, present, absent}
use Rattle.meaning.specs.Meaning.{StandIn, int_of, bool_of, value_of, values_of, effect, in_order}
use Rattle.meaning.specs.Order.{Operand, value_operand, condition, number_operand, operands_of, operand_values, row_reached, part_reached, leading_number, tests_of, parts_in_order, EndsLike, GoesOnLike, is_plain, OperandsComeFirst}

-- where the first ends the run the second ends it likewise, and where the first goes on, P holds of the second
abbrev Led : {A B : Type 0} → (Result B Ending × State → Type 0) → Result A Ending × State → Result B Ending × State → Type 0
Led P (Ok x, s) q = P q
Led P (Err e, s) q = q ≡ (Err e, s)

abbrev Leads : {A B : Type 0} → (Result B Ending × State → Type 0) → Ran A → Ran B → Type 0
Leads P f g = (s : State) → Led P (f s) (g s)

-- nothing is said of what goes on, or that it goes on
abbrev Any : {B : Type 0} → Result B Ending × State → Type 0
Any q = Unit {0}

abbrev GoesOn : {B : Type 0} → Result B Ending × State → Type 0
GoesOn (Ok y, s) = Unit {0}
GoesOn (Err e, s) = ⊥

led_on : {A B C : Type 0} (P : Result C Ending × State → Type 0) (r : Result A Ending × State) (h : A → Ran B) (k : A → Ran C) → ((x : A) → Leads P (h x) (k x)) → Led P (continued r h) (continued r k)
led_on P (Ok x, s) h k n = n x s
led_on P (Err e, s) h k n = refl

bind : {A B C : Type 0} (P : Result C Ending × State → Type 0) (f : Ran A) (h : A → Ran B) (k : A → Ran C) → ((x : A) → Leads P (h x) (k x)) → Leads P (and_then f h) (and_then f k)
unfolding and_then
bind P f h k n s = led_on P (f s) h k n

-- what comes after a part that fails is left out
led_then : {A B C : Type 0} (r : Result A Ending × State) (q : Result B Ending × State) (k : B → Ran C) → Led (Any {B = B}) r q → Led (Any {B = C}) r (continued q k)
led_then (Ok x, s) q k l = tt
led_then {B = B} (Err e, s) q k l = ap (λ (p : Result B Ending × State). continued p k) l

leads_then : {A B C : Type 0} (f : Ran A) (g : Ran B) (k : B → Ran C) → Leads (Any {B = B}) f g → Leads (Any {B = C}) f (and_then g k)
unfolding and_then
leads_then f g k l s = led_then (f s) (g s) k (l s)

goes_on : {B C : Type 0} (q : Result B Ending × State) (x : C) → GoesOn q → GoesOn (continued q (λ y. ok x))
goes_on (Ok y, s) x g = tt
goes_on (Err e, s) x g = absurd g

led_last : {A B C : Type 0} (r : Result A Ending × State) (q : Result B Ending × State) (x : C) → Led (GoesOn {B = B}) r q → Led (GoesOn {B = C}) r (continued q (λ y. ok x))
led_last (Ok y, s) q x l = goes_on q x l
led_last {B = B} {C = C} (Err e, s) q x l = ap (λ (p : Result B Ending × State). continued p (λ y. ok x)) l

last : {A B C : Type 0} (f : Ran A) (g : Ran B) (x : C) → Leads (GoesOn {B = B}) f g → Leads (GoesOn {B = C}) f (and_then g (λ y. ok x))
unfolding and_then
last f g x l s = led_last (f s) (g s) x (l s)

-- less is said of what goes on
led_less : {A B : Type 0} (P : Result B Ending × State → Type 0) (r : Result A Ending × State) (q : Result B Ending × State) → Led P r q → Led (Any {B = B}) r q
led_less P (Ok x, s) q l = tt
led_less P (Err e, s) q l = l

said_less : {A B : Type 0} (P : Result B Ending × State → Type 0) (f : Ran A) (g : Ran B) → Leads P f g → Leads (Any {B = B}) f g
said_less P f g l s = led_less P (f s) (g s) (l s)

-- what is said of endings follows
ends_like : {A B : Type 0} (P : Result B Ending × State → Type 0) (f : Ran A) (g : Ran B) → Leads P f g → EndsLike f g
ends_like {A} {B} P f g l before left e is = subst (λ (r : Result A Ending × State). Led P r (g before)) is (l before)

gone_on : {B : Type 0} (q : Result B Ending × State) → GoesOn q → (after : State) × (y : B) × (q ≡ (Ok y, after))
gone_on (Ok y, s) g = (s, y, refl)
gone_on (Err e, s) g = absurd g

goes_on_like : {A B : Type 0} (f : Ran A) (g : Ran B) → Leads (GoesOn {B = B}) f g → GoesOnLike f g
goes_on_like {A} {B} f g l before left x is = gone_on (g before) (subst (λ (r : Result A Ending × State). Led (GoesOn {B = B}) r (g before)) is (l before))

-- ---- operands

-- what is done with the list of all values is done with the first and the others
joined : {C : Type 0} (v : Value) (q : Result (List Value) Ending × State) (next : List Value → Ran C) → continued (continued q (λ vs. ok (v ∷ vs))) next ≡ continued q (λ vs. next (v ∷ vs))
joined v (Ok vs, s) next = refl
joined v (Err e, s) next = refl

-- values that nothing more is done with
led_alone : {A B : Type 0} (P : Result B Ending × State → Type 0) (r : Result A Ending × State) (q : Result B Ending × State) → Led P (continued r (λ x. ok x)) q → Led P r q
led_alone P (Ok x, s) q l = l
led_alone P (Err e, s) q l = l

alone : {A B : Type 0} (P : Result B Ending × State → Type 0) (f : Ran A) (g : Ran B) → Leads P (and_then f (λ x. ok x)) g → Leads P f g
unfolding and_then
alone P f g l s = led_alone P (f s) (g s) (l s)

-- a test, and the same test with a value to go on with
provided_first : {A : Type 0} (b : Bool) (code : AbortCode) (x : A) (k : A → Ran (Unit {0})) → ((y : A) (s : State) → GoesOn (k y s)) → Leads {A = Unit {0}} GoesOn (provided b code tt) (and_then (provided b code x) k)
unfolding and_then
provided_first true code x k g s = g x s
provided_first false code x k g s = refl

-- a plain statement goes on after its parts
abbrev After : Bool → Result (Unit {0}) Ending × State → Type 0
After true q = GoesOn q
After false q = Any q

module _ (d : StandIn) (rule : AccessRule) where
  value_led : {C D : Type 0} (P : Result D Ending × State → Type 0) (r : Result Value Ending × State) (operands : List Operand) (next : List Value → Ran C) (k : Value → Ran D)
      → ((v : Value) → Leads P (and_then (operand_values d rule operands) (λ vs. next (v ∷ vs))) (k v))
      → Led P (continued (continued r (λ v. and_then (operand_values d rule operands) (λ vs. ok (v ∷ vs)))) next) (continued r k)
  unfolding and_then
  value_led {C} P (Ok v, s) operands next k n = subst (λ (q : Result C Ending × State). Led P q (k v s)) (sym (joined v (operand_values d rule operands s) next)) (n v s)
  value_led P (Err e, s) operands next k n = refl

  value_first : {C D : Type 0} (P : Result D Ending × State → Type 0) (e : ValueSyntax) (operands : List Operand) (next : List Value → Ran C) (k : Value → Ran D)
      → ((v : Value) → Leads P (and_then (operand_values d rule operands) (λ vs. next (v ∷ vs))) (k v))
      → Leads P (and_then (operand_values d rule (value_operand e ∷ operands)) next) (and_then (value_of d rule e) k)
  unfolding and_then
  value_first P e operands next k n s = value_led P (value_of d rule e s) operands next k n

  number_led : {C D : Type 0} (P : Result D Ending × State → Type 0) (r : Result ℤ Ending × State) (operands : List Operand) (next : List Value → Ran C) (k : ℤ → Ran D)
      → ((z : ℤ) → Leads P (and_then (operand_values d rule operands) (λ vs. next (values.Int z ∷ vs))) (k z))
      → Led P (continued (continued (continued r (λ z. ok (values.Int z))) (λ v. and_then (operand_values d rule operands) (λ vs. ok (v ∷ vs)))) next) (continued r k)
  unfolding and_then
  number_led {C} P (Ok z, s) operands next k n = subst (λ (q : Result C Ending × State). Led P q (k z s)) (sym (joined (values.Int z) (operand_values d rule operands s) next)) (n z s)
  number_led P (Err e, s) operands next k n = refl

  number_first : {C D : Type 0} (P : Result D Ending × State → Type 0) (e : IntSyntax) (operands : List Operand) (next : List Value → Ran C) (k : ℤ → Ran D)
      → ((z : ℤ) → Leads P (and_then (operand_values d rule operands) (λ vs. next (values.Int z ∷ vs))) (k z))
      → Leads P (and_then (operand_values d rule (number_operand e ∷ operands)) next) (and_then (int_of d rule e) k)
  unfolding and_then
  number_first P e operands next k n s = number_led P (int_of d rule e s) operands next k n

  condition_led : {C D : Type 0} (P : Result D Ending × State → Type 0) (r : Result Bool Ending × State) (operands : List Operand) (next : List Value → Ran C) (k : Bool → Ran D)
      → ((b : Bool) → Leads P (and_then (operand_values d rule operands) next) (k b))
      → Led P (continued (continued r (λ b. operand_values d rule operands)) next) (continued r k)
  unfolding and_then
  condition_led P (Ok b, s) operands next k n = n b s
  condition_led P (Err e, s) operands next k n = refl

  condition_first : {C D : Type 0} (P : Result D Ending × State → Type 0) (e : BoolSyntax) (operands : List Operand) (next : List Value → Ran C) (k : Bool → Ran D)
      → ((b : Bool) → Leads P (and_then (operand_values d rule operands) next) (k b))
      → Leads P (and_then (operand_values d rule (condition e ∷ operands)) next) (and_then (bool_of d rule e) k)
  unfolding and_then
  condition_first P e operands next k n s = condition_led P (bool_of d rule e s) operands next k n

  none_left : {C D : Type 0} (P : Result D Ending × State → Type 0) (next : List Value → Ran C) (g : Ran D) → Leads P (next []) g → Leads P (and_then (operand_values d rule []) next) g
  unfolding and_then
  none_left P next g l s = l s

  all_values : (es : List ValueSyntax) → operand_values d rule (map value_operand es) ≡ values_of d rule es
  all_values [] = refl
  all_values (e ∷ es) = ap (λ (f : Ran (List Value)). and_then (value_of d rule e) (λ v. and_then f (λ vs. ok (v ∷ vs)))) (all_values es)

  values_first : {C D : Type 0} (P : Result D Ending × State → Type 0) (es : List ValueSyntax) (next : List Value → Ran C) (k : List Value → Ran D)
      → ((vs : List Value) → Leads P (next vs) (k vs))
      → Leads P (and_then (operand_values d rule (map value_operand es)) next) (and_then (values_of d rule es) k)
  values_first P es next k n = subst (λ (f : Ran (List Value)). Leads P (and_then f next) (and_then (values_of d rule es) k)) (sym (all_values es)) (bind P (values_of d rule es) next k n)

  -- ---- statements

  statement : (s : StmtSyntax) → Leads (After (is_plain s)) (and_then (operand_values d rule (operands_of s)) (tests_of d rule s)) (effect d rule s)
  statement (assign place e) = value_first (After true) e [] _ _ (λ v. none_left (After true) _ _ (λ s. tt))
  statement (get_syntax place table key column) = number_first (After true) key [] _ _ (λ z. none_left (After true) _ _
      (bind (After true) (accessed rule Read table z) _ _ (λ name. bind (After true) (row_now name) _ _ (λ found. bind (After true) (present found) _ _ (λ row s. tt)))))
  statement (put table key column e) = number_first (After true) key (value_operand e ∷ []) _ _ (λ z. value_first (After true) e [] _ _ (λ v. none_left (After true) _ _
      (bind (After true) (accessed rule Write table z) _ _ (λ name. bind (After true) (row_now name) _ _ (λ found. bind (After true) (present found) _ _ (λ row s. tt))))))
  statement (insert_row table key es) = number_first (After true) key (map value_operand es) _ _ (λ z. values_first (After true) es _ _ (λ vs.
      bind (After true) (accessed rule Write table z) _ _ (λ name. bind (After true) (row_now name) _ _ (λ found. alone (After true) (absent found) _ (bind (After true) (absent found) _ _ (λ u s. tt))))))
  statement (delete_row table key) = number_first (After true) key [] _ _ (λ z. none_left (After true) _ _
      (bind (After true) (accessed rule Write table z) _ _ (λ name. bind (After true) (row_now name) _ _ (λ found. bind (After true) (present found) _ _ (λ row s. tt)))))
  statement (choose test first second) = condition_first (After false) test [] _ _ (λ b. none_left (After false) _ _ (λ s. tt))
  statement (for_numbers low high body) = number_first (After false) low (number_operand high ∷ []) _ _ (λ first. number_first (After false) high [] _ _ (λ last. none_left (After false) _ _ (λ s. tt)))
  statement (for_keys table part body) = number_first (After false) part [] _ _ (λ z. none_left (After false) _ _ (bind (After false) (part_accessed rule table z) _ _ (λ p s. tt)))
  statement (abort_syntax code) = none_left (After false) _ _ (λ s. tt)
  statement (reply es) = values_first (After true) es _ _ (λ vs. bind (After true) (look (λ st. st.reply)) _ _ (λ before.
      provided_first (not (nat_lt 64 (length before + length vs))) TooLong (before ++ vs) _ (λ all s. tt)))

  in_a_block : (s : StmtSyntax) (rest : BlockSyntax) → EndsLike (parts_in_order d rule (operands_of s) (tests_of d rule s)) (in_order d rule (followed s rest))
  in_a_block s rest = ends_like Any (parts_in_order d rule (operands_of s) (tests_of d rule s)) (in_order d rule (followed s rest))
      (bind Any step _ _ (λ u. leads_then (and_then (operand_values d rule (operands_of s)) (tests_of d rule s)) (effect d rule s) (λ v. in_order d rule rest)
      (said_less (After (is_plain s)) (and_then (operand_values d rule (operands_of s)) (tests_of d rule s)) (effect d rule s) (statement s))))

  alone_in_a_block : (s : StmtSyntax) → is_plain s ≡ true → GoesOnLike (parts_in_order d rule (operands_of s) (tests_of d rule s)) (in_order d rule (followed s no_statements))
  alone_in_a_block s is = goes_on_like (parts_in_order d rule (operands_of s) (tests_of d rule s)) (in_order d rule (followed s no_statements))
      (bind GoesOn step _ _ (λ u. last {C = Unit {0}} (and_then (operand_values d rule (operands_of s)) (tests_of d rule s)) (effect d rule s) tt
      (subst (λ (b : Bool). Leads (After b) (and_then (operand_values d rule (operands_of s)) (tests_of d rule s)) (effect d rule s)) is (statement s))))

  -- ---- expressions

  count : (table : ℕ) (part : IntSyntax) → EndsLike (parts_in_order d rule (number_operand part ∷ []) (λ vs. part_reached rule table (leading_number d vs))) (int_of d rule (count_rows table part))
  count table part = ends_like Any _ _ (bind Any step _ _ (λ u. number_first Any part [] _ _ (λ z. none_left Any _ _ (bind Any (part_accessed rule table z) _ _ (λ p s. tt)))))

  sum : (table : ℕ) (part : IntSyntax) (column : ℕ) → EndsLike (parts_in_order d rule (number_operand part ∷ []) (λ vs. part_reached rule table (leading_number d vs))) (int_of d rule (sum_column table part column))
  sum table part column = ends_like Any _ _ (bind Any step _ _ (λ u. number_first Any part [] _ _ (λ z. none_left Any _ _ (bind Any (part_accessed rule table z) _ _ (λ p s. tt)))))

  test_of_a_row : (table : ℕ) (key : IntSyntax) → EndsLike (parts_in_order d rule (number_operand key ∷ []) (λ vs. row_reached rule Read table (leading_number d vs))) (bool_of d rule (row_exists table key))
  test_of_a_row table key = ends_like Any _ _ (bind Any step _ _ (λ u. number_first Any key [] _ _ (λ z. none_left Any _ _ (bind Any (accessed rule Read table z) _ _ (λ name s. tt)))))

  operator : (op : IntOperator) (a b : IntSyntax) → EndsLike (operand_values d rule (number_operand a ∷ number_operand b ∷ [])) (int_of d rule (binary op a b))
  operator op a b = ends_like Any _ _ (alone Any (operand_values d rule (number_operand a ∷ number_operand b ∷ [])) (int_of d rule (binary op a b))
      (number_first Any a (number_operand b ∷ []) _ _ (λ x. number_first Any b [] _ _ (λ y. none_left Any _ _ (λ s. tt)))))

  comparison : (test : Comparison) (a b : IntSyntax) → EndsLike (operand_values d rule (number_operand a ∷ number_operand b ∷ [])) (bool_of d rule (compare_ints test a b))
  comparison test a b = ends_like Any _ _ (alone Any (operand_values d rule (number_operand a ∷ number_operand b ∷ [])) (bool_of d rule (compare_ints test a b))
      (number_first Any a (number_operand b ∷ []) _ _ (λ x. number_first Any b [] _ _ (λ y. none_left Any _ _ (λ s. tt)))))

pub first_in_order : (d : StandIn) (rule : AccessRule) → OperandsComeFirst d rule
first_in_order d rule = record {
  statements = in_a_block d rule;
  nothing_else = alone_in_a_block d rule;
  counts = count d rule;
  sums = sum d rule;
  tests_of_rows = test_of_a_row d rule;
  operators = operator d rule;
  comparisons = comparison d rule;
}
