-- Claimed: what contracts promise to a reader rests on these words.
-- One level of a JSON document (RFC 8259): the elements of an array, a whole number.
use Rattle.std.specs.Prelude.{ℕ, pos, negsuc, Bool, false, ◌&&◌, ◌==◌, if◌then◌else◌, ℤ, List, [], ◌∷◌, Option, Some, None, option_map, option_and_then}
use Rattle.serde_json.specs.Data.{Data, Items, no_items, item}
use Rattle.std.specs.Str.{bytes_eq}
use Rattle.serde_json.specs.Find.{as_str, as_array, as_number, as_i64}

-- the items of a list of documents
abbrev pub list_of : Items → List Data
list_of no_items = []
list_of (item d ds) = d ∷ list_of ds

-- the elements of an array
abbrev pub elements : Data → Option (List Data)
elements d = option_map list_of (as_array d)

-- rule: json.number
-- a number that is whole and in the signed 64-bit range
abbrev pub integer : Data → Option ℤ
integer d = option_and_then as_i64 (as_number d)

-- lists of a given length
abbrev pub two : List Data → Option (Data × Data)
two (a ∷ b ∷ []) = Some (a, b)
two ds = None

-- lists of three items; the words below do the same for longer ones
abbrev pub three : List Data → Option (Data × Data × Data)
three (a ∷ b ∷ c ∷ []) = Some (a, b, c)
three ds = None

abbrev pub four : List Data → Option (Data × Data × Data × Data)
four (a ∷ b ∷ c ∷ d ∷ []) = Some (a, b, c, d)
four ds = None

abbrev pub five : List Data → Option (Data × Data × Data × Data × Data)
five (a ∷ b ∷ c ∷ d ∷ e ∷ []) = Some (a, b, c, d, e)
five ds = None

abbrev pub six : List Data → Option (Data × Data × Data × Data × Data × Data)
six (a ∷ b ∷ c ∷ d ∷ e ∷ f ∷ []) = Some (a, b, c, d, e, f)
six ds = None

-- a text, a whole number, and a list
unfoldable pub text_number_list : Data → Option (List ℕ × ℤ × List Data)
text_number_list d =
    option_and_then (λ (p : Data × Data × Data).
    option_and_then (λ (text : List ℕ).
    option_and_then (λ (number : ℤ).
    option_map (λ (list : List Data). (text, number, list)) (elements p.2))
    (integer p.1))
    (as_str p.0))
    (option_and_then three (elements d))

-- the number is 1
abbrev pub is_one : ℤ → Bool
is_one (pos n) = n == 1
is_one (negsuc n) = false

-- the list after a head word and the version 1
unfoldable pub versioned_list : List ℕ → Data → Option (List Data)
versioned_list word d =
    option_and_then (λ (f : List ℕ × ℤ × List Data). if bytes_eq f.0 word && is_one f.1 then Some f.2 else None)
    (text_number_list d)
