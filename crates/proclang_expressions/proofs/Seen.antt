-- The variables that are seen, and those of the code.
use Rattle.std.proofs.Common.{◌≡◌, ℕ, suc, ◌+◌, Bool, cond, List, [], ◌∷◌, length, map, get_or, slice_get, Some, option_map, position, string_bytes, refl, ap, ◌∙◌}
use Rattle.std.specs.Str.{bytes_eq}
use Rattle.std.specs.List.{prefix_len}
use Rattle.std.proofs.lemmas.List.Quantifiers.{position-Some}
use Rattle.std.proofs.lemmas.Option.{slice_get_read, slice_get-map}
use Rattle.proclang_expressions.specs.declared.scope.Variable.{Variable}
use Rattle.proclang_expressions.specs.Seen.{Seen, seen, place_in, found_at, found_in}

prefix_len-map : {X Y : Type 0} (p : Y → Bool) (f : X → Y) (xs : List X) → prefix_len p (map f xs) ≡ prefix_len (λ x. p (f x)) xs
prefix_len-map p f [] = refl
prefix_len-map p f (x ∷ xs) = ap (λ n. cond (p (f x)) (1 + n) 0) (prefix_len-map p f xs)

length_of_map : {X Y : Type 0} (f : X → Y) (xs : List X) → length (map f xs) ≡ length xs
length_of_map f [] = refl
length_of_map f (x ∷ xs) = ap suc (length_of_map f xs)

pub position-map : {X Y : Type 0} (p : Y → Bool) (f : X → Y) (xs : List X) → position p (map f xs) ≡ position (λ x. p (f x)) xs
position-map p f xs = rw (prefix_len-map, length_of_map) refl

pub seen_place : (name : List ℕ) (vs : List Variable) → place_in name (map seen vs) ≡ position (λ v. bytes_eq name (string_bytes v.name)) vs
seen_place name vs = position-map (λ v. bytes_eq name v.name) seen vs

pub found_seen : (name : List ℕ) (scope : List Seen) (vs : List Variable) (place : ℕ) (v : Variable) → map seen vs ≡ scope → position (λ w. bytes_eq name (string_bytes w.name)) vs ≡ Some place → v ≡ get_or vs place v
    → found_in name scope ≡ Some (found_at place (seen v))
found_seen name scope vs place v is at item =
    let there : slice_get vs place ≡ Some v = slice_get_read vs (length vs) place v refl (position-Some (λ w. bytes_eq name (string_bytes w.name)) vs place v at).0 item in
    let same : slice_get (map seen vs) place ≡ Some (seen v) = slice_get-map seen vs place ∙ ap (option_map seen) there in
    let placed : place_in name (map seen vs) ≡ Some place = seen_place name vs ∙ at in
    rw (← is, placed, same) refl
