-- What is read of a text in UTF-8 has texts in UTF-8 and whole numbers in range.
use Rattle.std.proofs.Common.{◌≡◌, ℕ, zero, suc, ◌<◌, ◌≤◌, ℤ, pos, negsuc, ◌^◌, Bool, true, false, cond, ◌&&◌, ◌==◌, nat_lt, nat_le, nat_eq, if◌then◌else◌, List, [], ◌∷◌, ◌++◌, length, drop, slice_index, Option, Some, None, option_map, option_and_then, IfSome, refl, sym, subst, arith, append_assoc}
use Rattle.std.specs.Prelude.{⊤}
use Rattle.std.specs.List.{AllByRecursion, starts_with}
use Rattle.std.specs.Str.{IsUtf8, is_utf8}
use Rattle.std.proofs.lemmas.Bool.{and_parts, eqb-true, ltb-true, leb-true, lt-ltb}
use Rattle.std.proofs.lemmas.Str.{IsUtf8-from_is_utf8}
use Rattle.std.specs.Float.{binary64, float_is_finite}
use Rattle.fast_float.specs.Text.{minus, Parts, scan, digits_of, with_sign, nearest}
use Rattle.json.specs.Text.{content, plain}
use Rattle.json.specs.Token.{Token}
use Rattle.json.specs.Token as token
use Rattle.json.specs.Word.{after_number, ends_word, head, is_operator, is_space, number_before, literal, word}
use Rattle.json.specs.Ascii as ascii
use Rattle.json.specs.Lex.{Lexeme, comma, colon, Class, quote, backslash, operator, space, other, class, operator_lexeme, string_token, Mode, between, in_word, in_string, in_escape, lex_byte, lex, Place, fresh, after_value, after_comma, after_key, begins_colon, may_begin, may_close, if_allowed, place_token, punctuate, tokens}
use Rattle.json.specs.Lex as lexing
use Rattle.json.specs.Json as json
use Rattle.json.specs.Json.{Parse, parse_map, after_end_array, read_key, items_step, members_step, items, members, value_with, value, if_last}
use Rattle.serde_json.specs.Data.{Num, unsigned, negative, float, Data, null, boolean, number, string, array, object, Items, no_items, item, no_members}
use Rattle.serde_json.specs.Find.{as_i64}
use Rattle.serde_json.specs.Read.{is_integer, float_of, number_from, number_of, of_json, of_items, of_members, max_depth, read}
use Rattle.footprint.specs.Arithmetic.{is_int}
use Rattle.moved_rows.proofs.JsonStrings.{ascii_split, string_utf8}

-- ---- what is asked of a document

-- a whole number in the signed 64-bit range
abbrev pub IsSoundNumber : Num → Type 0
IsSoundNumber n = (z : ℤ) → as_i64 n ≡ Some z → is_int z ≡ true

-- its texts are UTF-8 and its whole numbers are in range, but for what is in objects
abbrev mutual
  pub IsSound : Data → Type 0
  IsSound null = ⊤
  IsSound (boolean b) = ⊤
  IsSound (number n) = IsSoundNumber n
  IsSound (string s) = IsUtf8 s
  IsSound (array ds) = AreSound ds
  IsSound (object ms) = ⊤

  pub AreSound : Items → Type 0
  AreSound no_items = ⊤
  AreSound (item d ds) = IsSound d × AreSound ds

-- ---- lexemes

abbrev IsTextToken : Token → Type 0
IsTextToken (token.string s) = IsUtf8 s
IsTextToken token.begin_object = ⊤
IsTextToken token.end_object = ⊤
IsTextToken token.begin_array = ⊤
IsTextToken token.end_array = ⊤
IsTextToken (token.key s) = ⊤
IsTextToken (token.number s) = ⊤
IsTextToken (token.boolean b) = ⊤
IsTextToken token.null = ⊤
IsTextToken token.bad = ⊤

abbrev IsTextLexeme : Lexeme → Type 0
IsTextLexeme (lexing.token t) = IsTextToken t
IsTextLexeme comma = ⊤
IsTextLexeme colon = ⊤

abbrev Texts : List Token → Type 0
Texts ts = AllByRecursion IsTextToken ts

abbrev TextLexemes : List Lexeme → Type 0
TextLexemes ls = AllByRecursion IsTextLexeme ls

if_token : (b : Bool) (t u : Token) → IsTextToken t → IsTextToken u → IsTextToken (cond b t u)
if_token true t u h k = h
if_token false t u h k = k

if_lexeme : (b : Bool) (t u : Lexeme) → IsTextLexeme t → IsTextLexeme u → IsTextLexeme (cond b t u)
if_lexeme true t u h k = h
if_lexeme false t u h k = k

number_text : (t : List ℕ) (o : Option (List ℕ)) → IsTextToken (number_before t o)
number_text t None = tt
number_text t (Some rest) = if_token (ends_word rest) _ _ tt tt

literal_text : (name : List ℕ) (u : Token) (t : List ℕ) → IsTextToken u → IsTextToken (literal name u t)
literal_text name u t h = if_token (starts_with nat_eq t name && ends_word (drop (length name) t)) u token.bad h tt

word_text : (t : List ℕ) → IsTextToken (word t)
unfolding word
word_text t =
    if_token (head t == 116) _ _ (literal_text ascii.true_text (token.boolean true) t tt)
    (if_token (head t == 102) _ _ (literal_text ascii.false_text (token.boolean false) t tt)
    (if_token (head t == 110) _ _ (literal_text ascii.null_text token.null t tt) (number_text t (after_number t))))

operator_text : (x : ℕ) → IsTextLexeme (operator_lexeme x)
operator_text x = if_lexeme (x == 123) _ _ tt (if_lexeme (x == 125) _ _ tt (if_lexeme (x == 91) _ _ tt (if_lexeme (x == 93) _ _ tt (if_lexeme (x == 44) _ _ tt tt))))

string_text : (xs : List ℕ) → IsUtf8 xs → IsTextToken (string_token (content plain xs))
string_text xs h = by (content plain xs) refl
  where
    by : (o : Option (List ℕ)) → content plain xs ≡ o → IsTextToken (string_token o)
    by None e = tt
    by (Some s) e = string_utf8 xs s h e

by_class : (m : Mode) (c : Class) (x : ℕ) (xs : List ℕ) → (c ≡ quote → IsUtf8 xs) → ((next : Mode) → TextLexemes (lex next xs)) → TextLexemes (lex_byte m c x xs (λ next. lex next xs))
by_class between quote x xs h ih = (string_text xs (h refl), ih in_string)
by_class between backslash x xs h ih = (tt, ih in_word)
by_class between operator x xs h ih = (operator_text x, ih between)
by_class between space x xs h ih = ih between
by_class between other x xs h ih = (word_text (x ∷ xs), ih in_word)
by_class in_word quote x xs h ih = ih in_word
by_class in_word backslash x xs h ih = ih in_word
by_class in_word operator x xs h ih = (operator_text x, ih between)
by_class in_word space x xs h ih = ih between
by_class in_word other x xs h ih = ih in_word
by_class in_string quote x xs h ih = ih between
by_class in_string backslash x xs h ih = ih in_escape
by_class in_string operator x xs h ih = ih in_string
by_class in_string space x xs h ih = ih in_string
by_class in_string other x xs h ih = ih in_string
by_class in_escape c x xs h ih = ih in_string

quote_only : (q b o s : Bool) → cond q quote (cond b backslash (cond o operator (cond s space other))) ≡ quote → q ≡ true
quote_only true b o s e = refl
quote_only false true o s e = absurd cc
quote_only false false true s e = absurd cc
quote_only false false false true e = absurd cc
quote_only false false false false e = absurd cc

lex_texts : (m : Mode) (pre xs : List ℕ) → IsUtf8 (pre ++ xs) → TextLexemes (lex m xs)
unfolding lex
lex_texts m pre [] h = tt
lex_texts m pre (x ∷ xs) h =
    by_class m (class x) x xs
    (λ e. let is : x ≡ 34 = eqb-true x 34 (quote_only (x == 34) (x == 92) (is_operator x) (is_space x) e) in (ascii_split pre x xs (omega (arith, is)) h).1)
    (λ next. lex_texts next (pre ++ x ∷ []) xs (subst IsUtf8 (sym (append_assoc pre (x ∷ []) xs)) h))

-- ---- tokens

allowed : (b : Bool) (t : Token) (k : Place → List Token) (next : Place) → IsTextToken t → ((n : Place) → Texts (k n)) → Texts (if_allowed b t k next)
allowed true t k next h ih = (h, ih next)
allowed false t k next h ih = (tt, tt)

placed : (p : Place) (t : Token) (c : Bool) (k : Place → List Token) → IsTextToken t → ((n : Place) → Texts (k n)) → Texts (place_token p t c k)
placed p token.begin_object c k h ih = allowed (may_begin p) token.begin_object k fresh tt ih
placed p token.end_object c k h ih = allowed (may_close p) token.end_object k after_value tt ih
placed p token.begin_array c k h ih = allowed (may_begin p) token.begin_array k fresh tt ih
placed p token.end_array c k h ih = allowed (may_close p) token.end_array k after_value tt ih
placed p (token.key s) c k h ih = (tt, tt)
placed p (token.string s) true k h ih = allowed (may_begin p) (token.key s) k after_key tt ih
placed p (token.string s) false k h ih = allowed (may_begin p) (token.string s) k after_value h ih
placed p (token.number s) c k h ih = allowed (may_begin p) (token.number s) k after_value tt ih
placed p (token.boolean b) c k h ih = allowed (may_begin p) (token.boolean b) k after_value tt ih
placed p token.null c k h ih = allowed (may_begin p) token.null k after_value tt ih
placed p token.bad c k h ih = (tt, tt)

punctuated : (p : Place) (ls : List Lexeme) → TextLexemes ls → Texts (punctuate p ls)
unfolding punctuate
punctuated fresh [] h = tt
punctuated after_value [] h = tt
punctuated after_comma [] h = (tt, tt)
punctuated after_key [] h = (tt, tt)
punctuated fresh (lexing.token t ∷ ls) h = placed fresh t (begins_colon ls) _ h.0 (λ n. punctuated n ls h.1)
punctuated after_value (lexing.token t ∷ ls) h = placed after_value t (begins_colon ls) _ h.0 (λ n. punctuated n ls h.1)
punctuated after_comma (lexing.token t ∷ ls) h = placed after_comma t (begins_colon ls) _ h.0 (λ n. punctuated n ls h.1)
punctuated after_key (lexing.token t ∷ ls) h = placed after_key t (begins_colon ls) _ h.0 (λ n. punctuated n ls h.1)
punctuated fresh (comma ∷ ls) h = (tt, tt)
punctuated after_value (comma ∷ ls) h = punctuated after_comma ls h.1
punctuated after_comma (comma ∷ ls) h = (tt, tt)
punctuated after_key (comma ∷ ls) h = (tt, tt)
punctuated fresh (colon ∷ ls) h = (tt, tt)
punctuated after_value (colon ∷ ls) h = (tt, tt)
punctuated after_comma (colon ∷ ls) h = (tt, tt)
punctuated after_key (colon ∷ ls) h = punctuated fresh ls h.1

token_texts : (text : List ℕ) → IsUtf8 text → Texts (tokens text)
token_texts text h = punctuated fresh (lex between text) (lex_texts between [] text h)

-- ---- trees

abbrev mutual
  IsTextTree : json.Json → Type 0
  IsTextTree json.null = ⊤
  IsTextTree (json.boolean b) = ⊤
  IsTextTree (json.number s) = ⊤
  IsTextTree (json.string s) = IsUtf8 s
  IsTextTree (json.array js) = AreTextTrees js
  IsTextTree (json.object ms) = ⊤

  AreTextTrees : json.Items → Type 0
  AreTextTrees json.no_items = ⊤
  AreTextTrees (json.item j js) = IsTextTree j × AreTextTrees js

-- nothing is asked of a value
record Any {A : Type 0} (x : A) : Type 0 where
  any : ⊤

yes : {A : Type 0} (x : A) → Any x
yes x = record { any = tt }

abbrev Parsed : {A : Type 0} → (A → Type 0) → Option (A × List Token) → Type 0
Parsed P None = ⊤
Parsed P (Some p) = P p.0 × Texts p.1

mapped : {A B : Type 0} (P : A → Type 0) (Q : B → Type 0) (f : A → B) (r : Option (A × List Token)) → ((x : A) → P x → Q (f x)) → Parsed P r → Parsed Q (parse_map f r)
mapped P Q f None h k = tt
mapped P Q f (Some p) h k = (h p.0 k.0, k.1)

bound : {A B : Type 0} (P : A → Type 0) (Q : B → Type 0) (f : A × List Token → Option (B × List Token)) (r : Option (A × List Token)) → Parsed P r → ((p : A × List Token) → P p.0 → Texts p.1 → Parsed Q (f p)) → Parsed Q (option_and_then f r)
bound P Q f None h k = tt
bound P Q f (Some p) h k = k p h.0 h.1

key_texts : (ts : List Token) → Texts ts → Parsed {A = Option (List ℕ)} Any (read_key ts)
key_texts [] h = tt
key_texts (token.begin_object ∷ ts) h = tt
key_texts (token.end_object ∷ ts) h = (yes _, h.1)
key_texts (token.begin_array ∷ ts) h = tt
key_texts (token.end_array ∷ ts) h = tt
key_texts (token.key s ∷ ts) h = (yes _, h.1)
key_texts (token.string s ∷ ts) h = tt
key_texts (token.number s ∷ ts) h = tt
key_texts (token.boolean b ∷ ts) h = tt
key_texts (token.null ∷ ts) h = tt
key_texts (token.bad ∷ ts) h = tt

ended_texts : (ts : List Token) → Texts ts → IfSome (after_end_array ts) Texts
ended_texts [] h = tt
ended_texts (token.begin_object ∷ ts) h = tt
ended_texts (token.end_object ∷ ts) h = tt
ended_texts (token.begin_array ∷ ts) h = tt
ended_texts (token.end_array ∷ ts) h = h.1
ended_texts (token.key s ∷ ts) h = tt
ended_texts (token.string s ∷ ts) h = tt
ended_texts (token.number s ∷ ts) h = tt
ended_texts (token.boolean b ∷ ts) h = tt
ended_texts (token.null ∷ ts) h = tt
ended_texts (token.bad ∷ ts) h = tt

abbrev Reads : {A : Type 0} → (A → Type 0) → Parse A → Type 0
Reads P parse = (ts : List Token) → Texts ts → Parsed P (parse ts)

step_texts : (v : Parse json.Json) (more : Parse json.Items) → Reads IsTextTree v → Reads AreTextTrees more → (ts : List Token) → Texts ts → (o : Option (List Token)) → IfSome o Texts → Parsed AreTextTrees (items_step v more ts o)
step_texts v more hv hm ts h (Some rest) k = (tt, k)
step_texts v more hv hm ts h None k = bound IsTextTree AreTextTrees _ (v ts) (hv ts h) (λ p a b. mapped AreTextTrees AreTextTrees (json.item p.0) (more p.1) (λ js c. (a, c)) (hm p.1 b))

items_texts : (v : Parse json.Json) → Reads IsTextTree v → (n : ℕ) → Reads AreTextTrees (items v n)
unfolding items
items_texts v hv zero ts h = tt
items_texts v hv (suc n) ts h = step_texts v (items v n) hv (items_texts v hv n) ts h (after_end_array ts) (ended_texts ts h)

member_texts : (v : Parse json.Json) (more : Parse json.Members) → Reads IsTextTree v → Reads Any more → (key : Option (List ℕ)) → Reads {A = json.Members} Any (members_step v more key)
member_texts v more hv hm None ts h = (yes _, h)
member_texts v more hv hm (Some k) ts h = bound IsTextTree Any _ (v ts) (hv ts h) (λ p a b. mapped Any Any (json.member k p.0) (more p.1) (λ ms c. yes _) (hm p.1 b))

members_texts : (v : Parse json.Json) → Reads IsTextTree v → (n : ℕ) → Reads {A = json.Members} Any (members v n)
unfolding members
members_texts v hv zero ts h = tt
members_texts v hv (suc n) ts h = bound Any Any _ (read_key ts) (key_texts ts h) (λ p a b. member_texts v (members v n) hv (members_texts v hv n) p.0 p.1 b)

with_texts : (a : Parse json.Items) (o : Parse json.Members) → Reads AreTextTrees a → Reads Any o → Reads IsTextTree (value_with a o)
with_texts a o ha ho [] h = tt
with_texts a o ha ho (token.begin_object ∷ ts) h = mapped Any IsTextTree json.object (o ts) (λ ms k. tt) (ho ts h.1)
with_texts a o ha ho (token.end_object ∷ ts) h = tt
with_texts a o ha ho (token.begin_array ∷ ts) h = mapped AreTextTrees IsTextTree json.array (a ts) (λ js k. k) (ha ts h.1)
with_texts a o ha ho (token.end_array ∷ ts) h = tt
with_texts a o ha ho (token.key s ∷ ts) h = tt
with_texts a o ha ho (token.string s ∷ ts) h = h
with_texts a o ha ho (token.number s ∷ ts) h = h
with_texts a o ha ho (token.boolean b ∷ ts) h = h
with_texts a o ha ho (token.null ∷ ts) h = h
with_texts a o ha ho (token.bad ∷ ts) h = tt

value_texts : (depth : ℕ) → Reads IsTextTree (value depth)
unfolding value
value_texts zero = with_texts (λ ts. None) (λ ts. None) (λ ts h. tt) (λ ts h. tt)
value_texts (suc depth) = with_texts _ _ (λ ts h. items_texts (value depth) (value_texts depth) (length ts) ts h) (λ ts h. members_texts (value depth) (value_texts depth) (length ts) ts h)

-- ---- numbers

unsigned_sound : (n : ℕ) → IsSoundNumber (unsigned n)
unsigned_sound n z e = by (nat_lt n (2 ^ 63)) refl e
  where
    by : (b : Bool) → nat_lt n (2 ^ 63) ≡ b → (if b then Some (pos n) else None) ≡ Some z → is_int z ≡ true
    by true p e = let same : pos n ≡ z = cc in subst (λ (x : ℤ). is_int x ≡ true) same p
    by false p e = absurd cc

negative_sound : (n : ℕ) → 0 < n → n ≤ 2 ^ 63 → IsSoundNumber (negative (with_sign true n))
negative_sound zero some few z e = absurd (omega (arith, some))
negative_sound (suc n) some few z e = let same : negsuc n ≡ z = cc in subst (λ (x : ℤ). is_int x ≡ true) same (lt-ltb n (2 ^ 63) (omega (arith, few)))

floats : (sign : Bool) (p : Parts) → IfSome (float_of sign p) IsSoundNumber
floats sign p = by (float_is_finite (nearest binary64 sign p))
  where
    by : (b : Bool) → IfSome (if b then Some (float (nearest binary64 sign p)) else None) IsSoundNumber
    by true = λ z e. absurd cc
    by false = tt

from_sound : (sign : Bool) (p : Parts) → IfSome (number_from sign p) IsSoundNumber
from_sound false p = by (is_integer p && nat_lt (digits_of p) (2 ^ 64))
  where
    by : (b : Bool) → IfSome (if b then Some (unsigned (digits_of p)) else float_of false p) IsSoundNumber
    by true = unsigned_sound (digits_of p)
    by false = floats false p
from_sound true p = by (is_integer p && nat_lt 0 (digits_of p) && nat_le (digits_of p) (2 ^ 63)) refl
  where
    by : (b : Bool) → (is_integer p && nat_lt 0 (digits_of p) && nat_le (digits_of p) (2 ^ 63)) ≡ b → IfSome (if b then Some (negative (with_sign true (digits_of p))) else float_of true p) IsSoundNumber
    by true e =
        let last = and_parts (is_integer p && nat_lt 0 (digits_of p)) (nat_le (digits_of p) (2 ^ 63)) e in
        let first = and_parts (is_integer p) (nat_lt 0 (digits_of p)) last.0 in
        negative_sound (digits_of p) (ltb-true 0 (digits_of p) first.1) (leb-true (digits_of p) (2 ^ 63) last.1)
    by false e = floats true p

number_sound : (s : List ℕ) → IfSome (number_of s) IsSoundNumber
unfolding number_of
number_sound s = by (slice_index s 0 == minus)
  where
    by : (b : Bool) → IfSome (if b then number_from true (scan (drop 1 s)) else number_from false (scan s)) IsSoundNumber
    by true = from_sound true (scan (drop 1 s))
    by false = from_sound false (scan s)

-- ---- documents

some_of : {A B : Type 0} (P : A → Type 0) (Q : B → Type 0) (f : A → B) (o : Option A) → ((x : A) → P x → Q (f x)) → IfSome o P → IfSome (option_map f o) Q
some_of P Q f None h k = tt
some_of P Q f (Some x) h k = h x k

then_of : {A B : Type 0} (P : A → Type 0) (Q : B → Type 0) (f : A → Option B) (o : Option A) → ((x : A) → P x → IfSome (f x) Q) → IfSome o P → IfSome (option_and_then f o) Q
then_of P Q f None h k = tt
then_of P Q f (Some x) h k = h x k

any_of : {A : Type 0} (o : Option A) → IfSome o Any
any_of None = tt
any_of (Some x) = yes x

mutual
  json_sound : (j : json.Json) → IsTextTree j → IfSome (of_json j) IsSound
  json_sound json.null h = tt
  json_sound (json.boolean b) h = tt
  json_sound (json.number s) h = some_of IsSoundNumber IsSound number (number_of s) (λ n k. k) (number_sound s)
  json_sound (json.string s) h = h
  json_sound (json.array js) h = some_of AreSound IsSound array (of_items js) (λ ds k. k) (items_sound js h)
  json_sound (json.object ms) h = some_of Any IsSound object (of_members ms no_members) (λ ms k. tt) (any_of (of_members ms no_members))

  items_sound : (js : json.Items) → AreTextTrees js → IfSome (of_items js) AreSound
  items_sound json.no_items h = tt
  items_sound (json.item j js) h = then_of IsSound AreSound (λ d. option_map (item d) (of_items js)) (of_json j) (λ d k. some_of AreSound AreSound (item d) (of_items js) (λ ds l. (k, l)) (items_sound js h.1)) (json_sound j h.0)

last_sound : (j : json.Json) (ts : List Token) → IsTextTree j → IfSome (if_last j ts) IsTextTree
last_sound j [] h = h
last_sound j (t ∷ ts) h = tt

parsed_then : (f : json.Json × List Token → Option json.Json) (r : Option (json.Json × List Token)) → Parsed IsTextTree r → ((p : json.Json × List Token) → IsTextTree p.0 → IfSome (f p) IsTextTree) → IfSome (option_and_then f r) IsTextTree
parsed_then f None h k = tt
parsed_then f (Some p) h k = k p h.0

-- what is read of a text in UTF-8
pub read_sound : (text : List ℕ) (d : Data) → is_utf8 text ≡ true → read text ≡ Some d → IsSound d
read_sound text d utf8 e =
    let tree = parsed_then (λ p. if_last p.0 p.1) (value max_depth (tokens text)) (value_texts max_depth (tokens text) (token_texts text (IsUtf8-from_is_utf8 text utf8))) (λ p k. last_sound p.0 p.1 k) in
    subst (λ (o : Option Data). IfSome o IsSound) e (then_of IsTextTree IsSound of_json _ json_sound tree)
