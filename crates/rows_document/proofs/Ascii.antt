-- A rows document is in ASCII.
use Rattle.std.proofs.Common.{◌≡◌, ℕ, zero, suc, pos, negsuc, ◌+◌, ◌-◌, ◌/◌, ◌%◌, ◌^◌, ◌<◌, ◌≤◌, ◌⊎◌, inl, inr, true, ◌&&◌, ◌||◌, eqb, leb, ltb, length, List, [], ◌∷◌, ◌++◌, codes, decimal, refl, sym, ◌∙◌, subst, arith, ltb-true, leb-true}
use Rattle.std.specs.Char.{digit_char}
use Rattle.std.specs.Char.Escape.{hex_digit_at}
use Rattle.std.specs.List.{AllByRecursion, flat_map, join_by, list_all}
use Rattle.std.specs.Str.{IsAscii, chars}
use Rattle.std.proofs.lemmas.Bool.{and_parts, or_cases, cases_eq, cases_lt, cond_above, cond_below, eqb-true}
use Rattle.std.proofs.lemmas.Fmt.{IsAscii-decimal, IsAscii-signed}
use Rattle.std.proofs.lemmas.Str.{IsAscii-append}
use Rattle.values.specs.declared.name.RowName.{RowName}
use Rattle.values.specs.declared.value.Value.{Value}
use Rattle.values.specs.declared.value.Value.TheVariants.{Int, Text}
use Rattle.values.specs.Database.{RowOf}
use Rattle.values.specs.Names.{is_name, is_name_byte, is_lower, is_digit}
use Rattle.catalogue.specs.Shapes.{TableShape}
use Rattle.row_text.specs.Texts.{table_name}
use Rattle.rows_document.specs.Said.{IsValue}
use Rattle.rows_document.specs.Texts.{character_text, json_text, row_document, row_on_line, unit_text, value_document}
use Rattle.rows_document.proofs.Characters.{escaped_is, hex_below, one_unit, plain_is, two_units}
use Rattle.rows_document.proofs.Trees.{IsWritten}

ascii_nil : IsAscii []
ascii_nil i = omega arith

ascii_cons : (x : ℕ) (xs : List ℕ) → x < 128 → IsAscii xs → IsAscii (x ∷ xs)
ascii_cons x xs h k zero = h
ascii_cons x xs h k (suc i) = k i

ascii_one : (x : ℕ) → x < 128 → IsAscii (x ∷ [])
ascii_one x h = ascii_cons x [] h ascii_nil

ascii_two : (x y : ℕ) → x < 128 → y < 128 → IsAscii (x ∷ y ∷ [])
ascii_two x y h k = ascii_cons x (y ∷ []) h (ascii_one y k)

-- ---- characters

hex_ascii : (d : ℕ) → d < 16 → digit_char d < 128
hex_ascii d h = by (cases_lt d 10)
  where
    by : (d < 10) ⊎ (10 ≤ d) → digit_char d < 128
    by (inl few) = let is : 48 + d ≡ digit_char d = cond_below d 10 (48 + d) (87 + d) few in omega arith
    by (inr many) = let is : 87 + d ≡ digit_char d = cond_above d 10 (48 + d) (87 + d) (87 + d) many refl in omega arith

digit_ascii : (place u : ℕ) (xs : List ℕ) → IsAscii xs → IsAscii (hex_digit_at place u ∷ xs)
digit_ascii place u xs h = ascii_cons (hex_digit_at place u) xs (hex_ascii (u / place % 16) (hex_below place u)) h

unit_ascii : (u : ℕ) → IsAscii (unit_text u)
unit_ascii u =
    let one = hex_digit_at 1 u ∷ [] in
    let two = hex_digit_at 16 u ∷ one in
    let three = hex_digit_at 256 u ∷ two in
    let four = hex_digit_at 4096 u ∷ three in
    ascii_cons 92 (117 ∷ four) (omega arith) (ascii_cons 117 four (omega arith) (digit_ascii 4096 u three (digit_ascii 256 u two (digit_ascii 16 u one (digit_ascii 1 u [] ascii_nil)))))

escaped_ascii : (c : ℕ) → (c ≡ 34 → ⊥) × (c ≡ 92 → ⊥) → (c < 32) ⊎ (126 < c) → IsAscii (character_text c)
escaped_ascii c not out = by (cases_lt c 65536)
  where
    by : (c < 65536) ⊎ (65536 ≤ c) → IsAscii (character_text c)
    by (inl few) = subst IsAscii (sym (escaped_is c not out ∙ one_unit c few)) (unit_ascii c)
    by (inr many) = subst IsAscii (sym (escaped_is c not out ∙ two_units c many)) (IsAscii-append (unit_text (0xd800 + (c - 65536) / 1024)) (unit_text (0xdc00 + (c - 65536) % 1024)) (unit_ascii (0xd800 + (c - 65536) / 1024)) (unit_ascii (0xdc00 + (c - 65536) % 1024)))

quote_ascii : IsAscii (character_text 34)
unfolding character_text
quote_ascii = ascii_two 92 34 (omega arith) (omega arith)

backslash_ascii : IsAscii (character_text 92)
unfolding character_text
backslash_ascii = ascii_two 92 92 (omega arith) (omega arith)

character_ascii : (c : ℕ) → IsAscii (character_text c)
character_ascii c = by (cases_eq c 34) (cases_eq c 92) (cases_lt c 32) (cases_lt 126 c)
  where
    by : (c ≡ 34) ⊎ (c ≡ 34 → ⊥) → (c ≡ 92) ⊎ (c ≡ 92 → ⊥) → (c < 32) ⊎ (32 ≤ c) → (126 < c) ⊎ (c ≤ 126) → IsAscii (character_text c)
    by (inl e) b l h = subst (λ (x : ℕ). IsAscii (character_text x)) (sym e) quote_ascii
    by (inr a) (inl e) l h = subst (λ (x : ℕ). IsAscii (character_text x)) (sym e) backslash_ascii
    by (inr a) (inr b) (inl l) h = escaped_ascii c (a, b) (inl l)
    by (inr a) (inr b) (inr l) (inl h) = escaped_ascii c (a, b) (inr h)
    by (inr a) (inr b) (inr l) (inr h) = subst IsAscii (sym (plain_is c (a, b) l h)) (ascii_one c (omega arith))

each_ascii : {X : Type 0} (f : X → List ℕ) (xs : List X) → ((x : X) → IsAscii (f x)) → IsAscii (flat_map f xs)
each_ascii f [] h = ascii_nil
each_ascii f (x ∷ xs) h = IsAscii-append (f x) (flat_map f xs) (h x) (each_ascii f xs h)

pub json_text_ascii : (text : List ℕ) → IsAscii (json_text text)
json_text_ascii text =
    let body = flat_map character_text (chars text) in
    ascii_cons 34 (body ++ 34 ∷ []) (omega arith) (IsAscii-append body (34 ∷ []) (each_ascii character_text (chars text) character_ascii) (ascii_one 34 (omega arith)))

-- ---- rows

joined_ascii : {X : Type 0} (f : X → List ℕ) (P : X → Type 0) → ((x : X) → P x → IsAscii (f x)) → (xs : List X) → AllByRecursion P xs → IsAscii (join_by f (codes ",") xs)
joined_ascii {X} f P law [] h = ascii_nil
joined_ascii {X} f P law (x ∷ xs) h = IsAscii-append (f x) (flat_map (λ y. codes "," ++ f y) xs) (law x h.0) (more xs h.1)
  where
    more : (ys : List X) → AllByRecursion P ys → IsAscii (flat_map (λ y. codes "," ++ f y) ys)
    more [] k = ascii_nil
    more (y ∷ ys) k = IsAscii-append (codes "," ++ f y) (flat_map (λ z. codes "," ++ f z) ys) (ascii_cons 44 (f y) (omega arith) (law y k.0)) (more ys k.1)

value_ascii : (v : Value) → IsValue v → IsAscii (value_document v)
unfolding value_document
value_ascii (Int (pos n)) h = IsAscii-signed (pos n) (ltb-true n (2 ^ 63) h)
value_ascii (Int (negsuc n)) h = IsAscii-signed (negsuc n) (ltb-true n (2 ^ 63) h)
value_ascii (Text s) h = json_text_ascii s

row_ascii : (tables : List TableShape) (e : RowName × RowOf) → IsWritten e → IsAscii (row_on_line tables e)
unfolding row_document
row_ascii tables e h =
    let name = codes "[" ++ json_text (table_name tables e.0.table) in
    let key = name ++ codes "," ++ decimal e.0.key in
    let opened = key ++ codes ",[" in
    let values = opened ++ join_by value_document (codes ",") e.1 in
    let with_name = ascii_cons 91 (json_text (table_name tables e.0.table)) (omega arith) (json_text_ascii (table_name tables e.0.table)) in
    let with_comma = IsAscii-append name (codes ",") with_name (ascii_one 44 (omega arith)) in
    let with_key = IsAscii-append (name ++ codes ",") (decimal e.0.key) with_comma (IsAscii-decimal e.0.key (omega (arith, h.0))) in
    let with_opened = IsAscii-append key (codes ",[") with_key (ascii_two 44 91 (omega arith) (omega arith)) in
    let with_values = IsAscii-append opened (join_by value_document (codes ",") e.1) with_opened (joined_ascii value_document IsValue value_ascii e.1 h.1) in
    ascii_cons 10 (values ++ codes "]]") (omega arith) (IsAscii-append values (codes "]]") with_values (ascii_two 93 93 (omega arith) (omega arith)))

pub document_ascii : (tables : List TableShape) (es : List (RowName × RowOf)) → AllByRecursion IsWritten es
    → IsAscii (91 ∷ (json_text (codes "rows") ++ (44 ∷ 49 ∷ 44 ∷ 91 ∷ (join_by (row_on_line tables) (codes ",") es ++ (10 ∷ 93 ∷ 93 ∷ 10 ∷ [])))))
document_ascii tables es h =
    let end : List ℕ = 10 ∷ 93 ∷ 93 ∷ 10 ∷ [] in
    let rows : List ℕ = join_by (row_on_line tables) (codes ",") es ++ end in
    let with_end = ascii_cons 10 (93 ∷ 93 ∷ 10 ∷ []) (omega arith) (ascii_cons 93 (93 ∷ 10 ∷ []) (omega arith) (ascii_two 93 10 (omega arith) (omega arith))) in
    let with_rows = IsAscii-append (join_by (row_on_line tables) (codes ",") es) end (joined_ascii (row_on_line tables) IsWritten (row_ascii tables) es h) with_end in
    let with_version = ascii_cons 44 (49 ∷ 44 ∷ 91 ∷ rows) (omega arith) (ascii_cons 49 (44 ∷ 91 ∷ rows) (omega arith) (ascii_cons 44 (91 ∷ rows) (omega arith) (ascii_cons 91 rows (omega arith) with_rows))) in
    ascii_cons 91 (json_text (codes "rows") ++ (44 ∷ 49 ∷ 44 ∷ 91 ∷ rows)) (omega arith)
    (IsAscii-append (json_text (codes "rows")) (44 ∷ 49 ∷ 44 ∷ 91 ∷ rows) (json_text_ascii (codes "rows")) with_version)

-- ---- names

lower_small : (x : ℕ) → is_lower x ≡ true → x < 128
lower_small x e = omega (arith, leb-true x 122 (and_parts (leb 97 x) (leb x 122) e).1)

digit_small : (x : ℕ) → is_digit x ≡ true → x < 128
digit_small x e = omega (arith, leb-true x 57 (and_parts (leb 48 x) (leb x 57) e).1)

name_byte_small : (x : ℕ) → is_name_byte x ≡ true → x < 128
name_byte_small x e = by (or_cases (is_lower x) (is_digit x || eqb x 95) e)
  where
    other : (is_digit x ≡ true) ⊎ (eqb x 95 ≡ true) → x < 128
    other (inl d) = digit_small x d
    other (inr u) = omega (arith, eqb-true x 95 u)

    by : (is_lower x ≡ true) ⊎ ((is_digit x || eqb x 95) ≡ true) → x < 128
    by (inl l) = lower_small x l
    by (inr o) = other (or_cases (is_digit x) (eqb x 95) o)

name_bytes_ascii : (xs : List ℕ) → list_all is_name_byte xs ≡ true → IsAscii xs
name_bytes_ascii [] e = ascii_nil
name_bytes_ascii (x ∷ xs) e = let both = and_parts (is_name_byte x) (list_all is_name_byte xs) e in ascii_cons x xs (name_byte_small x both.0) (name_bytes_ascii xs both.1)

pub name_ascii : (name : List ℕ) → is_name name ≡ true → IsAscii name
name_ascii [] h = ascii_nil
name_ascii (b ∷ bs) h =
    let both = and_parts (is_lower b) (ltb (length bs) 32 && list_all is_name_byte bs) h in
    let rest = and_parts (ltb (length bs) 32) (list_all is_name_byte bs) both.1 in
    ascii_cons b bs (lower_small b both.0) (name_bytes_ascii bs rest.1)
