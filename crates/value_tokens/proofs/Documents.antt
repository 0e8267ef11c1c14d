-- Tokens that begin with a document: texts, numbers and arrays, and the text whose tokens they are.
use Rattle.std.proofs.Common.{◌≡◌, ℕ, suc, ℤ, ◌-◌, ◌<◌, ◌≤◌, List, [], ◌∷◌, ◌++◌, length, Option, Some, None, option_map, option_and_then, refl, sym, ap, ◌∙◌, subst, arith}
use Rattle.json.specs.Token.{Token}
use Rattle.json.specs.Lex.{tokens}
use Rattle.json.specs.Json as json
use Rattle.json.specs.Json.{parse_map, after_end_array, items, value}
use Rattle.json.proofs.Grammar.{value_is, value-begin_array, items_end, items_more, skip_value-shorter}
use Rattle.serde_json.specs.Data.{Data, Num, number, string, array}
use Rattle.serde_json.specs.Find.{as_i64}
use Rattle.serde_json.specs.Read.{converted, number_of, of_json, of_items, read}
use Rattle.serde_json.specs.View.{items_of}
use Rattle.value_tokens.specs.Documents.{IsDocument, AreDocuments}

-- what is read of tokens by the grammar alone, of which the document is made
pub record IsParsed (depth : ℕ) (ts : List Token) (d : Data) (rest : List Token) : Type 0 where
  pub written : json.Json
  pub is_read : value depth ts ≡ Some (written, rest)
  pub is : of_json written ≡ Some d

abbrev pick : {A : Type 0} → A → Option A → A
pick d None = d
pick d (Some a) = a

both : {B : Type 0} (r s : List Token) (x : Option B) (b : B) → option_map {U = B × List Token} (λ y. (y, r)) x ≡ Some (b, s) → (r ≡ s) × (x ≡ Some b)
both r s None b e = absurd cc
both r s (Some y) b e = let same = ap (pick (y, r)) e in (ap (λ p. p.1) same, ap (λ p. Some p.0) same)

-- what is converted was parsed
parsed_of : {A B : Type 0} (f : A → Option B) (o : Option (A × List Token)) (b : B) (rest : List Token) → converted f o ≡ Some (b, rest) → (a : A) × (o ≡ Some (a, rest)) × (f a ≡ Some b)
parsed_of f None b rest e = absurd cc
parsed_of f (Some p) b rest e = let h = both p.1 rest (f p.0) b e in (p.0, ap (λ s. Some (p.0, s)) h.0, h.1)

pub parsed : (depth : ℕ) (ts : List Token) (d : Data) (rest : List Token) → IsDocument depth ts d rest → IsParsed depth ts d rest
parsed depth ts d rest h = let p = parsed_of of_json (value depth ts) d rest h in record { written = p.0; is_read = p.1; is = p.2 }

pub document_of : (depth : ℕ) (ts : List Token) (j : json.Json) (d : Data) (rest : List Token) → value depth ts ≡ Some (j, rest) → of_json j ≡ Some d → IsDocument depth ts d rest
document_of depth ts j d rest e f = ap (converted of_json) e ∙ ap (option_map (λ b. (b, rest))) f

pub document_shorter : (depth : ℕ) (ts : List Token) (d : Data) (rest : List Token) → IsDocument depth ts d rest → length rest < length ts
document_shorter depth ts d rest h = let p = parsed depth ts d rest h in skip_value-shorter depth ts rest (ap (option_map (λ q. q.1)) p.is_read)

-- ---- texts and numbers

pub text_is_document : (depth : ℕ) (s : List ℕ) (rest : List Token) → IsDocument depth (Token.string s ∷ rest) (string s) rest
text_is_document depth s rest = document_of depth (Token.string s ∷ rest) (json.string s) (string s) rest (value_is depth (Token.string s ∷ rest)) refl

pub number_is_document : (depth : ℕ) (s : List ℕ) (n : Num) (rest : List Token) → number_of s ≡ Some n → IsDocument depth (Token.number s ∷ rest) (number n) rest
number_is_document depth s n rest e = document_of depth (Token.number s ∷ rest) (json.number s) (number n) rest (value_is depth (Token.number s ∷ rest)) (ap (option_map number) e)

-- a number's text that writes an integer is the text of a number
pub record IsNumberOf (s : List ℕ) (z : ℤ) : Type 0 where
  pub num : Num
  pub is_number : number_of s ≡ Some num
  pub is : as_i64 num ≡ Some z

pub integer_written : (s : List ℕ) (z : ℤ) → option_and_then as_i64 (number_of s) ≡ Some z → IsNumberOf s z
integer_written s z e = by (number_of s) refl e
  where
    by : (found : Option Num) → number_of s ≡ found → option_and_then as_i64 found ≡ Some z → IsNumberOf s z
    by None p q = absurd cc
    by (Some n) p q = record { num = n; is_number = p; is = q }

-- ---- arrays

-- no document begins with the bracket that closes an array
not_end : (depth : ℕ) (ts : List Token) (j : json.Json) (rest : List Token) → value depth ts ≡ Some (j, rest) → after_end_array ts ≡ None
not_end depth [] j rest e = refl
not_end depth (Token.begin_object ∷ ts) j rest e = refl
not_end depth (Token.end_object ∷ ts) j rest e = refl
not_end depth (Token.begin_array ∷ ts) j rest e = refl
not_end depth (Token.end_array ∷ ts) j rest e = let g = sym (value_is depth (Token.end_array ∷ ts)) ∙ e in absurd cc
not_end depth (Token.key s ∷ ts) j rest e = refl
not_end depth (Token.string s ∷ ts) j rest e = refl
not_end depth (Token.number s ∷ ts) j rest e = refl
not_end depth (Token.boolean b ∷ ts) j rest e = refl
not_end depth (Token.null ∷ ts) j rest e = refl
not_end depth (Token.bad ∷ ts) j rest e = refl

with_first : (j : json.Json) (d : Data) (o : Option (json.Items × List Token)) (ds : List Data) (rest : List Token) → of_json j ≡ Some d → converted of_items o ≡ Some (items_of ds, rest)
    → converted of_items (parse_map (json.item j) o) ≡ Some (items_of (d ∷ ds), rest)
with_first j d o ds rest e f =
    let p = parsed_of of_items o (items_of ds) rest f in
    ap (λ q. converted of_items (parse_map (json.item j) q)) p.1 ∙ rw (e, p.2) refl

documents_listed : (depth n : ℕ) (ts : List Token) (ds : List Data) (rest : List Token) → length ts ≤ n → AreDocuments depth ts ds (Token.end_array ∷ rest) → converted of_items (items (value depth) n ts) ≡ Some (items_of ds, rest)
documents_listed depth n ts [] rest enough h = ap (converted of_items) (items_end (value depth) n ts rest enough (ap after_end_array h))
documents_listed depth n ts (d ∷ ds) rest enough h =
    let p = parsed depth ts d h.0 h.1 in
    let fewer = document_shorter depth ts d h.0 h.1 in
    ap (converted of_items) (items_more (value depth) n ts h.0 p.written (omega (arith, fewer)) (not_end depth ts p.written h.0 p.is_read) p.is_read)
    ∙ with_first p.written d (items (value depth) (n - 1) h.0) ds rest p.is (documents_listed depth (n - 1) h.0 ds rest (omega (arith, fewer)) h.2)

array_made : (o : Option (json.Items × List Token)) (ds : List Data) (rest : List Token) → converted of_items o ≡ Some (items_of ds, rest) → converted of_json (parse_map json.array o) ≡ Some (array (items_of ds), rest)
array_made o ds rest e =
    let p = parsed_of of_items o (items_of ds) rest e in
    ap (λ q. converted of_json (parse_map json.array q)) p.1 ∙ rw p.2 refl

-- documents in brackets are an array
pub array_is_document : (depth : ℕ) (ts : List Token) (ds : List Data) (rest : List Token) → AreDocuments depth ts ds (Token.end_array ∷ rest) → IsDocument (suc depth) (Token.begin_array ∷ ts) (array (items_of ds)) rest
array_is_document depth ts ds rest h =
    let less : suc depth - 1 ≡ depth = omega arith in
    ap (converted of_json) (value-begin_array (suc depth) ts (omega arith) ∙ ap (λ m. parse_map json.array (items (value m) (length ts) ts)) less)
    ∙ array_made (items (value depth) (length ts) ts) ds rest (documents_listed depth (length ts) ts ds rest (omega arith) h)

-- one more document after those that were read
pub one_more_document : (depth : ℕ) (ts : List Token) (ds : List Data) (after : List Token) (d : Data) (rest : List Token) → AreDocuments depth ts ds after → IsDocument depth after d rest → AreDocuments depth ts (ds ++ d ∷ []) rest
one_more_document depth ts [] after d rest h one = (rest, subst (λ us. IsDocument depth us d rest) (sym h) one, refl)
one_more_document depth ts (x ∷ ds) after d rest h one = (h.0, h.1, one_more_document depth h.0 ds after d rest h.2 one)

-- ---- a text

-- a text whose tokens are those of a document is that document
pub text_read : (text : List ℕ) (d : Data) → IsDocument 127 (tokens text) d [] → read text ≡ Some d
text_read text d h =
    let p = parsed 127 (tokens text) d [] h in
    ap (λ o. option_and_then of_json (option_and_then (λ q. json.if_last q.0 q.1) o)) p.is_read ∙ p.is

-- the bracket that closes an array is what was taken
pub end_taken : (ts rest : List Token) → after_end_array ts ≡ Some rest → ts ≡ Token.end_array ∷ rest
end_taken [] rest e = absurd cc
end_taken (Token.begin_object ∷ ts) rest e = absurd cc
end_taken (Token.end_object ∷ ts) rest e = absurd cc
end_taken (Token.begin_array ∷ ts) rest e = absurd cc
end_taken (Token.end_array ∷ ts) rest e = cc
end_taken (Token.key s ∷ ts) rest e = absurd cc
end_taken (Token.string s ∷ ts) rest e = absurd cc
end_taken (Token.number s ∷ ts) rest e = absurd cc
end_taken (Token.boolean b ∷ ts) rest e = absurd cc
end_taken (Token.null ∷ ts) rest e = absurd cc
end_taken (Token.bad ∷ ts) rest e = absurd cc
