-- A rows document is read as the tokens of its JSON value.
use Rattle.std.proofs.Common.{◌≡◌, ℕ, pos, negsuc, ◌^◌, true, false, ℤ, List, [], ◌∷◌, ◌++◌, codes, decimal, refl, sym, ap, ◌∙◌, arith, append_assoc, ltb-true}
use Rattle.std.specs.Fmt.{signed_decimal}
use Rattle.std.specs.List.{AllByRecursion, flat_map, join_by}
use Rattle.std.specs.Str.{IsUtf8}
use Rattle.std.proofs.lemmas.Bool.{false≢true}
use Rattle.json.specs.Lex.{Lexeme, Place, token, begins_colon, between, fresh, after_value, after_comma, after_key, lex, may_begin, punctuate, tokens}
use Rattle.json.specs.Token.{Token, begin_array, end_array, number, string}
use Rattle.json.specs.Tree.{json_tokens, items_tokens}
use Rattle.json.specs.Print.{IsNumber}
use Rattle.json.specs.Word.{after_number, ends_word}
use Rattle.json.proofs.Printed.Decimals.{IsNumber-decimal, IsNumber-signed_decimal}
use Rattle.json.proofs.Printed.Numbers.{lex-number}
use Rattle.values.specs.declared.name.RowName.{RowName}
use Rattle.values.specs.declared.value.Value.{Value}
use Rattle.values.specs.declared.value.Value.TheVariants.{Int, Text}
use Rattle.values.specs.Database.{RowOf}
use Rattle.catalogue.specs.Shapes.{TableShape}
use Rattle.row_text.specs.Texts.{table_name}
use Rattle.rows_document.specs.Said.{IsValue}
use Rattle.rows_document.specs.Texts.{json_text, row_document, row_on_line, value_document}
use Rattle.rows_document.proofs.Characters.{lex-json_text}
use Rattle.rows_document.proofs.Trees.{IsWritten, document_json, row_json, rows_json, value_json, values_json}

-- ---- values

abbrev value_token : Value → Token
value_token (Int z) = number (signed_decimal z)
value_token (Text s) = string s

int_number : (z : ℤ) → IsValue (Int z) → IsNumber (signed_decimal z)
int_number (pos n) h = IsNumber-signed_decimal (pos n) (ltb-true n (2 ^ 63) h)
int_number (negsuc n) h = IsNumber-signed_decimal (negsuc n) (ltb-true n (2 ^ 63) h)

lex-value : (v : Value) (r : List ℕ) → IsValue v → ends_word r ≡ true → lex between (value_document v ++ r) ≡ token (value_token v) ∷ lex between r
unfolding value_document
lex-value (Int z) r h e = lex-number (signed_decimal z) r (int_number z h) e
lex-value (Text s) r h e = lex-json_text s r h.0

placed : (p : Place) (v : Value) (ls : List Lexeme) → may_begin p ≡ true → begins_colon ls ≡ false → punctuate p (token (value_token v) ∷ ls) ≡ value_token v ∷ punctuate after_value ls
unfolding punctuate
placed fresh (Int z) ls h e = refl
placed fresh (Text s) ls h e = rw e refl
placed after_comma (Int z) ls h e = refl
placed after_comma (Text s) ls h e = rw e refl
placed after_value v ls h e = absurd (false≢true h)
placed after_key v ls h e = absurd (false≢true h)

one_token : (v : Value) (ts us : List Token) → (json_tokens (value_json v) ++ ts) ++ us ≡ value_token v ∷ (ts ++ us)
one_token (Int z) ts us = refl
one_token (Text s) ts us = refl

abbrev more_values_text : List Value → List ℕ
more_values_text vs = flat_map (λ v. codes "," ++ value_document v) vs

values_end : (vs : List Value) (r : List ℕ) → ends_word (more_values_text vs ++ 93 ∷ r) ≡ true
values_end [] r = refl
values_end (v ∷ vs) r = refl

no_colon : (vs : List Value) (r : List ℕ) → begins_colon (lex between (more_values_text vs ++ 93 ∷ r)) ≡ false
unfolding lex
no_colon [] r = refl
no_colon (v ∷ vs) r = refl

value_then : (p : Place) (v : Value) (vs : List Value) (r : List ℕ) → may_begin p ≡ true → IsValue v
    → punctuate after_value (lex between (more_values_text vs ++ 93 ∷ r)) ≡ items_tokens (values_json vs) ++ punctuate after_value (lex between r)
    → punctuate p (lex between ((value_document v ++ more_values_text vs) ++ 93 ∷ r)) ≡ items_tokens (values_json (v ∷ vs)) ++ punctuate after_value (lex between r)
value_then p v vs r begins h more =
    let rest = more_values_text vs ++ 93 ∷ r in
    ap (λ t. punctuate p (lex between t)) (append_assoc (value_document v) (more_values_text vs) (93 ∷ r))
    ∙ ap (punctuate p) (lex-value v rest h (values_end vs r)) ∙ placed p v (lex between rest) begins (no_colon vs r)
    ∙ ap (λ ts. value_token v ∷ ts) more
    ∙ sym (one_token v (items_tokens (values_json vs)) (punctuate after_value (lex between r)))

more_values : (vs : List Value) (r : List ℕ) → AllByRecursion IsValue vs → punctuate after_value (lex between (more_values_text vs ++ 93 ∷ r)) ≡ items_tokens (values_json vs) ++ punctuate after_value (lex between r)
unfolding lex punctuate
more_values [] r h = refl
more_values (v ∷ vs) r h = value_then after_comma v vs r refl h.0 (more_values vs r h.1)

values_read : (vs : List Value) (r : List ℕ) → AllByRecursion IsValue vs
    → punctuate fresh (lex between (join_by value_document (codes ",") vs ++ 93 ∷ r)) ≡ items_tokens (values_json vs) ++ punctuate after_value (lex between r)
unfolding lex punctuate
values_read [] r h = refl
values_read (v ∷ vs) r h = value_then fresh v vs r refl h.0 (more_values vs r h.1)

-- ---- rows

-- what stands in a row before the values, and behind them
row_parts : (tables : List TableShape) (e : RowName × RowOf) (r : List ℕ) → row_document tables e.0 e.1 ++ r
    ≡ 91 ∷ (json_text (table_name tables e.0.table) ++ (44 ∷ (decimal e.0.key ++ (44 ∷ 91 ∷ (join_by value_document (codes ",") e.1 ++ (93 ∷ 93 ∷ r))))))
unfolding row_document
row_parts tables e r = simp append_assoc

opened : (p : Place) (ls : List Lexeme) → may_begin p ≡ true → punctuate p (token begin_array ∷ ls) ≡ begin_array ∷ punctuate fresh ls
unfolding punctuate
opened fresh ls h = refl
opened after_comma ls h = refl
opened after_value ls h = absurd (false≢true h)
opened after_key ls h = absurd (false≢true h)

closed : (ts us : List Token) → (ts ++ end_array ∷ []) ++ us ≡ ts ++ end_array ∷ us
closed ts us = append_assoc ts (end_array ∷ []) us

row_read : (p : Place) (tables : List TableShape) (e : RowName × RowOf) (r : List ℕ) → may_begin p ≡ true → IsUtf8 (table_name tables e.0.table) → IsWritten e
    → punctuate p (lex between (row_document tables e.0 e.1 ++ r)) ≡ json_tokens (row_json tables e) ++ punctuate after_value (lex between r)
unfolding lex punctuate
row_read p tables e r begins utf8 h =
    let name = table_name tables e.0.table in
    let values = join_by value_document (codes ",") e.1 ++ (93 ∷ 93 ∷ r) in
    let key = decimal e.0.key ++ (44 ∷ 91 ∷ values) in
    ap (λ t. punctuate p (lex between t)) (row_parts tables e r) ∙ opened p (lex between (json_text name ++ (44 ∷ key))) begins
    ∙ ap (λ ls. begin_array ∷ punctuate fresh ls) (lex-json_text name (44 ∷ key) utf8)
    ∙ ap (λ ls. begin_array ∷ string name ∷ punctuate after_comma ls) (lex-number (decimal e.0.key) (44 ∷ 91 ∷ values) (IsNumber-decimal e.0.key (omega (arith, h.0))) refl)
    ∙ ap (λ ts. begin_array ∷ string name ∷ number (decimal e.0.key) ∷ begin_array ∷ ts)
    (values_read e.1 (93 ∷ r) h.1 ∙ sym (closed (items_tokens (values_json e.1)) (punctuate after_value (lex between r))))

abbrev more_rows_text : List TableShape → List (RowName × RowOf) → List ℕ
more_rows_text tables es = flat_map (λ e. codes "," ++ row_on_line tables e) es

-- a row whose table has a name in UTF-8
abbrev pub IsNamed : List TableShape → RowName × RowOf → Type 0
IsNamed tables e = IsUtf8 (table_name tables e.0.table) × IsWritten e

row_then : (p : Place) (tables : List TableShape) (e : RowName × RowOf) (es : List (RowName × RowOf)) (r : List ℕ) → may_begin p ≡ true → IsNamed tables e
    → punctuate after_value (lex between (more_rows_text tables es ++ 10 ∷ 93 ∷ r)) ≡ items_tokens (rows_json tables es) ++ punctuate after_value (lex between r)
    → punctuate p (lex between ((row_on_line tables e ++ more_rows_text tables es) ++ 10 ∷ 93 ∷ r)) ≡ items_tokens (rows_json tables (e ∷ es)) ++ punctuate after_value (lex between r)
unfolding lex
row_then p tables e es r begins h more =
    let rest = more_rows_text tables es ++ 10 ∷ 93 ∷ r in
    ap (λ t. punctuate p (lex between t)) (append_assoc (row_document tables e.0 e.1) (more_rows_text tables es) (10 ∷ 93 ∷ r))
    ∙ row_read p tables e rest begins h.0 h.1
    ∙ ap (λ ts. json_tokens (row_json tables e) ++ ts) more
    ∙ sym (append_assoc (json_tokens (row_json tables e)) (items_tokens (rows_json tables es)) (punctuate after_value (lex between r)))

more_rows : (tables : List TableShape) (es : List (RowName × RowOf)) (r : List ℕ) → AllByRecursion (IsNamed tables) es
    → punctuate after_value (lex between (more_rows_text tables es ++ 10 ∷ 93 ∷ r)) ≡ items_tokens (rows_json tables es) ++ punctuate after_value (lex between r)
unfolding lex punctuate
more_rows tables [] r h = refl
more_rows tables (e ∷ es) r h = row_then after_comma tables e es r refl h.0 (more_rows tables es r h.1)

rows_read : (tables : List TableShape) (es : List (RowName × RowOf)) (r : List ℕ) → AllByRecursion (IsNamed tables) es
    → punctuate fresh (lex between (join_by (row_on_line tables) (codes ",") es ++ 10 ∷ 93 ∷ r)) ≡ items_tokens (rows_json tables es) ++ punctuate after_value (lex between r)
unfolding lex punctuate
rows_read tables [] r h = refl
rows_read tables (e ∷ es) r h = row_then fresh tables e es r refl h.0 (more_rows tables es r h.1)

-- ---- the whole text

one_is_number : IsNumber (codes "1")
unfolding after_number
one_is_number = refl

pub document_tokens : (tables : List TableShape) (es : List (RowName × RowOf)) → IsUtf8 (codes "rows") → AllByRecursion (IsNamed tables) es
    → tokens (91 ∷ (json_text (codes "rows") ++ (44 ∷ 49 ∷ 44 ∷ 91 ∷ (join_by (row_on_line tables) (codes ",") es ++ (10 ∷ 93 ∷ 93 ∷ 10 ∷ []))))) ≡ json_tokens (document_json tables es)
unfolding lex punctuate
document_tokens tables es utf8 h =
    let rows = join_by (row_on_line tables) (codes ",") es ++ (10 ∷ 93 ∷ 93 ∷ 10 ∷ []) in
    let number_on = 49 ∷ 44 ∷ 91 ∷ rows in
    ap (λ ls. begin_array ∷ punctuate fresh ls) (lex-json_text (codes "rows") (44 ∷ number_on) utf8)
    ∙ ap (λ ls. begin_array ∷ string (codes "rows") ∷ punctuate after_comma ls) (lex-number (codes "1") (44 ∷ 91 ∷ rows) one_is_number refl)
    ∙ ap (λ ts. begin_array ∷ string (codes "rows") ∷ number (codes "1") ∷ begin_array ∷ ts) (rows_read tables es (93 ∷ 10 ∷ []) h)
