-- What is copied to the front of a list.
use Rattle.std.proofs.Common.{◌≡◌, ℕ, ◌+◌, ◌<◌, ◌≤◌, List, [], ◌∷◌, ◌++◌, length, map, min, take, slice_index_or, slice_set, sym, ap, ◌∙◌, arith}
use Rattle.std.proofs.Math.Nat.{min_comm}
use Rattle.std.proofs.lemmas.List.{length-take, map-append, take_all, take_min, take-append-le, take_more, take_more_set}

-- the first n bytes of a text, copied before others, are its first 64 bytes, where n is at most both lengths
pub copied_text : (bytes copied rest : List ℕ) (n : ℕ) → n ≡ min (length bytes) 64 → copied ≡ take n bytes → take n (copied ++ rest) ≡ take 64 bytes
copied_text bytes copied rest n few is =
    let long : length copied ≡ min n (length bytes) = ap length is ∙ length-take n bytes in
    let low : n ≤ length bytes = omega (arith, few) in
    let as_long : n ≤ length copied = omega (arith, long, low) in
    let not_longer : length copied ≤ n = omega (arith, long) in
    take-append-le n copied rest as_long ∙ take_all n copied not_longer ∙ is
    ∙ ap (λ k. take k bytes) (few ∙ min_comm (length bytes) 64) ∙ take_min 64 bytes

-- one more value is written
pub one_more : {X Y Z : Type 0} (f : X → Z) (g : Y → Z) (xs : List X) (ys : List Y) (i : ℕ) (x : X) (d : Y)
    → i < length xs → i < length ys → map f (take i xs) ≡ map g (take i ys) → f x ≡ g (slice_index_or ys i d)
    → map f (take (i + 1) (slice_set xs i x)) ≡ map g (take (i + 1) ys)
one_more f g xs ys i x d in_xs in_ys before is =
    ap (map f) (take_more_set xs i x in_xs) ∙ map-append f (take i xs) (x ∷ [])
    ∙ (λ j. before j ++ is j ∷ [])
    ∙ sym (ap (map g) (take_more ys i d in_ys) ∙ map-append g (take i ys) (slice_index_or ys i d ∷ []))
