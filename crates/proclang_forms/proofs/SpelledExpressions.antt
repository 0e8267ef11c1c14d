-- What one level of an expression is, where its form has been read, and that such a document has the form.
use Rattle.std.proofs.Common.{◌≡◌, ℕ, ℤ, List, [], ◌∷◌, Some, option_map, refl, ap, ◌∙◌, subst}
use Rattle.std.specs.Prelude.{codes}
use Rattle.serde_json.specs.Data.{Data, null, boolean, number, string, array, object}
use Rattle.serde_json.specs.Find.{as_str, as_i64}
use Rattle.serde_json.specs.View.{items_of}
use Rattle.documents.specs.Json.{list_of, integer}
use Rattle.documents.proofs.Json.{items_of-list_of, list_of-items_of}
use Rattle.documents.proofs.Said.{string_said}
use Rattle.documents.proofs.Steps.{and_then_ok, map_ok}
use Rattle.proclang_types.specs.declared.operator.IntOperator.TheVariants.{Add, Subtract, Multiply, Divide, Remainder}
use Rattle.proclang_types.specs.declared.operator.Equality.TheVariants.{Equal, Unequal}
use Rattle.proclang_forms.specs.declared.operator.Operator.{Operator}
use Rattle.proclang_forms.specs.declared.operator.Operator.TheVariants.{Arithmetic, Less, AtMost, Same, And, Or}
use Rattle.proclang_forms.specs.Operators.{operator_of, word_of}
use Rattle.proclang_forms.specs.ExprForms.{Form, number_form, literal_form, variable_form, not_form, binary_form, exists_form, count_form, sum_form, literal_form_of, not_form_of, exists_form_of, count_form_of, sum_form_of, operands_form, call_form, calls_form, expr_form}
use Rattle.proclang_forms.specs.Spells.{words, SpellsExpr}
use Rattle.proclang_forms.proofs.Words.{none_is, operator_or, spelled_or}

-- ---- operators

operator_said : (word : List ℕ) (op : Operator) → operator_of word ≡ Some op → word ≡ word_of op
operator_said word op a =
    operator_or word (codes "+") (Arithmetic Add) _ op refl a (λ b.
    operator_or word (codes "-") (Arithmetic Subtract) _ op refl b (λ c.
    operator_or word (codes "*") (Arithmetic Multiply) _ op refl c (λ d.
    operator_or word (codes "/") (Arithmetic Divide) _ op refl d (λ e.
    operator_or word (codes "%") (Arithmetic Remainder) _ op refl e (λ f.
    operator_or word (codes "=") (Same Equal) _ op refl f (λ g.
    operator_or word (codes "<>") (Same Unequal) _ op refl g (λ h.
    operator_or word (codes "<") Less _ op refl h (λ i.
    operator_or word (codes "<=") AtMost _ op refl i (λ j.
    operator_or word (codes "and") And _ op refl j (λ k.
    operator_or word (codes "or") Or _ op refl k (λ l.
    none_is op l)))))))))))

operator_again : (op : Operator) → operator_of (word_of op) ≡ Some op
operator_again (Arithmetic Add) = refl
operator_again (Arithmetic Subtract) = refl
operator_again (Arithmetic Multiply) = refl
operator_again (Arithmetic Divide) = refl
operator_again (Arithmetic Remainder) = refl
operator_again (Same Equal) = refl
operator_again (Same Unequal) = refl
operator_again Less = refl
operator_again AtMost = refl
operator_again And = refl
operator_again Or = refl

-- ---- what comes after each head word

literal_said : (parts : List Data) (f : Form) → literal_form_of parts ≡ Some f → SpellsExpr (words (codes "text") parts) f
unfolding literal_form_of
literal_said (text ∷ []) f e =
    let s = map_ok literal_form (as_str text) f e in
    subst (SpellsExpr (words (codes "text") (text ∷ []))) s.2 (ap (λ (d : Data). words (codes "text") (d ∷ [])) (string_said text s.0 s.1))
literal_said [] f e = none_is f e
literal_said (a ∷ b ∷ ds) f e = none_is f e

not_said : (parts : List Data) (f : Form) → not_form_of parts ≡ Some f → SpellsExpr (words (codes "not") parts) f
unfolding not_form_of
not_said (a ∷ []) f e = let is : not_form a ≡ f = cc in subst (SpellsExpr (words (codes "not") (a ∷ []))) is refl
not_said [] f e = none_is f e
not_said (a ∷ b ∷ ds) f e = none_is f e

exists_said : (parts : List Data) (f : Form) → exists_form_of parts ≡ Some f → SpellsExpr (words (codes "exists") parts) f
unfolding exists_form_of
exists_said (table ∷ key ∷ []) f e =
    let t = map_ok (λ (t : List ℕ). exists_form t key) (as_str table) f e in
    subst (SpellsExpr (words (codes "exists") (table ∷ key ∷ []))) t.2 (ap (λ (d : Data). words (codes "exists") (d ∷ key ∷ [])) (string_said table t.0 t.1))
exists_said [] f e = none_is f e
exists_said (a ∷ []) f e = none_is f e
exists_said (a ∷ b ∷ c ∷ ds) f e = none_is f e

count_said : (parts : List Data) (f : Form) → count_form_of parts ≡ Some f → SpellsExpr (words (codes "count") parts) f
unfolding count_form_of
count_said (table ∷ part ∷ []) f e =
    let t = map_ok (λ (t : List ℕ). count_form t part) (as_str table) f e in
    subst (SpellsExpr (words (codes "count") (table ∷ part ∷ []))) t.2 (ap (λ (d : Data). words (codes "count") (d ∷ part ∷ [])) (string_said table t.0 t.1))
count_said [] f e = none_is f e
count_said (a ∷ []) f e = none_is f e
count_said (a ∷ b ∷ c ∷ ds) f e = none_is f e

sum_texts : (a p b : Data) (t c : List ℕ) → a ≡ string t → b ≡ string c → words (codes "sum") (a ∷ p ∷ b ∷ []) ≡ words (codes "sum") (string t ∷ p ∷ string c ∷ [])
sum_texts a p b t c x y = rw (x, y) refl

sum_said : (parts : List Data) (f : Form) → sum_form_of parts ≡ Some f → SpellsExpr (words (codes "sum") parts) f
unfolding sum_form_of
sum_said (table ∷ part ∷ column ∷ []) f e =
    let t = and_then_ok _ (as_str table) f e in
    let c = map_ok (λ (c : List ℕ). sum_form t.0 part c) (as_str column) f t.2 in
    subst (SpellsExpr (words (codes "sum") (table ∷ part ∷ column ∷ []))) c.2 (sum_texts table part column t.0 c.0 (string_said table t.0 t.1) (string_said column c.0 c.1))
sum_said [] f e = none_is f e
sum_said (a ∷ []) f e = none_is f e
sum_said (a ∷ b ∷ []) f e = none_is f e
sum_said (a ∷ b ∷ c ∷ d ∷ ds) f e = none_is f e

operands_said : (word : List ℕ) (parts : List Data) (f : Form) → operands_form word parts ≡ Some f → SpellsExpr (words word parts) f
unfolding operands_form
operands_said word (a ∷ b ∷ []) f e =
    let op = map_ok (λ (op : Operator). binary_form op a b) (operator_of word) f e in
    subst (SpellsExpr (words word (a ∷ b ∷ []))) op.2 (ap (λ (w : List ℕ). words w (a ∷ b ∷ [])) (operator_said word op.0 op.1))
operands_said word [] f e = none_is f e
operands_said word (a ∷ []) f e = none_is f e
operands_said word (a ∷ b ∷ c ∷ ds) f e = none_is f e

call_said : (word : List ℕ) (parts : List Data) (f : Form) → call_form word parts ≡ Some f → SpellsExpr (words word parts) f
unfolding call_form
call_said word parts f a =
    spelled_or (λ w. SpellsExpr (words w parts) f) word (codes "text") (literal_form_of parts) _ f a (literal_said parts f) (λ b.
    spelled_or (λ w. SpellsExpr (words w parts) f) word (codes "not") (not_form_of parts) _ f b (not_said parts f) (λ c.
    spelled_or (λ w. SpellsExpr (words w parts) f) word (codes "exists") (exists_form_of parts) _ f c (exists_said parts f) (λ d.
    spelled_or (λ w. SpellsExpr (words w parts) f) word (codes "count") (count_form_of parts) _ f d (count_said parts f) (λ e.
    spelled_or (λ w. SpellsExpr (words w parts) f) word (codes "sum") (sum_form_of parts) _ f e (sum_said parts f) (λ g.
    operands_said word parts f g)))))

calls_said : (ds : List Data) (f : Form) → calls_form ds ≡ Some f → SpellsExpr (array (items_of ds)) f
calls_said [] f e = none_is f e
calls_said (head ∷ parts) f e =
    let word = and_then_ok _ (as_str head) f e in
    rw (string_said head word.0 word.1) (call_said word.0 parts f word.2)

-- ---- expressions

pub expr_said : (d : Data) (f : Form) → expr_form d ≡ Some f → SpellsExpr d f
expr_said (number n) f e =
    let z = map_ok number_form (as_i64 n) f e in
    subst (SpellsExpr (number n)) z.2 z.1
expr_said (string s) f e = let is : variable_form s ≡ f = cc in subst (SpellsExpr (string s)) is refl
expr_said (array ds) f e = subst (λ (d : Data). SpellsExpr d f) (ap (λ items. array items) (items_of-list_of ds)) (calls_said (list_of ds) f e)
expr_said null f e = none_is f e
expr_said (boolean b) f e = none_is f e
expr_said (object ms) f e = none_is f e

number_again : (d : Data) (z : ℤ) → integer d ≡ Some z → expr_form d ≡ Some (number_form z)
number_again (number n) z e = ap (option_map number_form) e
number_again (string s) z e = none_is z e
number_again (array ds) z e = none_is z e
number_again null z e = none_is z e
number_again (boolean b) z e = none_is z e
number_again (object ms) z e = none_is z e

-- a word before its parts
words_again : (word : List ℕ) (parts : List Data) → expr_form (words word parts) ≡ call_form word parts
words_again word parts = ap calls_form (list_of-items_of (string word ∷ parts))

operands_again : (op : Operator) (a b : Data) → call_form (word_of op) (a ∷ b ∷ []) ≡ Some (binary_form op a b)
unfolding call_form operands_form
operands_again (Arithmetic Add) a b = refl
operands_again (Arithmetic Subtract) a b = refl
operands_again (Arithmetic Multiply) a b = refl
operands_again (Arithmetic Divide) a b = refl
operands_again (Arithmetic Remainder) a b = refl
operands_again (Same Equal) a b = refl
operands_again (Same Unequal) a b = refl
operands_again Less a b = refl
operands_again AtMost a b = refl
operands_again And a b = refl
operands_again Or a b = refl

pub expr_again : (d : Data) (f : Form) → SpellsExpr d f → expr_form d ≡ Some f
unfolding call_form literal_form_of not_form_of exists_form_of count_form_of sum_form_of
expr_again d (number_form z) h = number_again d z h
expr_again d (literal_form s) h = ap expr_form h ∙ words_again (codes "text") (string s ∷ [])
expr_again d (variable_form s) h = ap expr_form h
expr_again d (not_form a) h = ap expr_form h ∙ words_again (codes "not") (a ∷ [])
expr_again d (binary_form op a b) h = ap expr_form h ∙ words_again (word_of op) (a ∷ b ∷ []) ∙ operands_again op a b
expr_again d (exists_form table key) h = ap expr_form h ∙ words_again (codes "exists") (string table ∷ key ∷ [])
expr_again d (count_form table part) h = ap expr_form h ∙ words_again (codes "count") (string table ∷ part ∷ [])
expr_again d (sum_form table part column) h = ap expr_form h ∙ words_again (codes "sum") (string table ∷ part ∷ string column ∷ [])
