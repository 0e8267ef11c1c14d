-- The requests that nodes hold.
use Rattle.std.proofs.Common.{◌≡◌, ℕ, zero, suc, List, [], ◌∷◌, ◌++◌, length, get_or, Option, None, Some, option_map, refl, ◌∙◌, ap, arith}
use Rattle.std.specs.Prelude.{slice_get, slice_set}
use Rattle.std.specs.List.{remove}
use Rattle.std.proofs.lemmas.Option.{slice_get-map, get_or_from_slice_get}
use Rattle.std.proofs.lemmas.List.{length-map, map_push}
use Rattle.modes.specs.declared.mode.Mode.{Mode}
use Rattle.request_arena.specs.declared.node.Held.{Held}
use Rattle.request_arena.specs.Following.{without}
use Rattle.lock_tree.specs.Lines.{asked, request_at, requests}
use Rattle.lock_tree.proofs.Positions.{get_set_other, without_at, Absent}

abbrev Nodes : Type 0
Nodes = List (Option Held)

-- each node of a list holds in the second what it holds in the first
pub same_requests : (old new : Nodes) (xs : List ℕ) → ((j a : ℕ) → slice_get xs j ≡ Some a → request_at new a ≡ request_at old a) → requests new xs ≡ requests old xs
same_requests old new [] same = refl
same_requests old new (x ∷ xs) same = ap (λ r. r ∷ requests new xs) (same 0 x refl) ∙ ap (λ rs. request_at old x ∷ rs) (same_requests old new xs (λ j a h. same (suc j) a h))

removed_requests : (hs : Nodes) (xs : List ℕ) (i : ℕ) → requests hs (remove xs i) ≡ remove (requests hs xs) i
removed_requests hs [] zero = refl
removed_requests hs [] (suc i) = refl
removed_requests hs (x ∷ xs) zero = refl
removed_requests hs (x ∷ xs) (suc i) = ap (λ rs. request_at hs x ∷ rs) (removed_requests hs xs i)

-- the request of a node in its place
pub request_there : (hs : Nodes) (xs : List ℕ) (i a : ℕ) (d : ℕ × Mode) → slice_get xs i ≡ Some a → get_or (requests hs xs) i d ≡ request_at hs a
request_there hs xs i a d h = get_or_from_slice_get (requests hs xs) i (request_at hs a) d (slice_get-map (request_at hs) xs i ∙ ap (option_map (request_at hs)) h)

pub requests_length : (hs : Nodes) (xs : List ℕ) → length (requests hs xs) ≡ length xs
requests_length hs xs = length-map xs (request_at hs)

pub requests_end : (hs : Nodes) (xs : List ℕ) (a : ℕ) → requests hs (xs ++ a ∷ []) ≡ requests hs xs ++ request_at hs a ∷ []
requests_end hs xs a = map_push (request_at hs) xs a

-- what is left of the requests where a node leaves
pub requests_without : (old new : Nodes) (xs : List ℕ) (i a : ℕ) → new ≡ slice_set old a None → slice_get xs i ≡ Some a → ((j : ℕ) → slice_get xs j ≡ Some a → i ≡ j)
    → requests new (without a xs) ≡ remove (requests old xs) i
requests_without old new xs i a is here once =
    ap (requests new) (without_at a xs i here once)
    ∙ removed_requests new xs i ∙ kept xs i here once
  where
    kept : (xs : List ℕ) (i : ℕ) → slice_get xs i ≡ Some a → ((j : ℕ) → slice_get xs j ≡ Some a → i ≡ j) → remove (requests new xs) i ≡ remove (requests old xs) i
    kept [] i here once = refl
    kept (x ∷ xs) zero here once = same_requests old new xs (λ j b h. ap (λ (hs : Nodes). request_at hs b) is ∙ ap asked (get_set_other old a b None (λ e. let o = once (suc j) (h ∙ ap Some e) in absurd (omega arith))))
    kept (x ∷ xs) (suc i) here once =
        ap (λ r. r ∷ remove (requests new xs) i) (ap (λ (hs : Nodes). request_at hs x) is ∙ ap asked (get_set_other old a x None (λ e. let o = once 0 (ap Some e) in absurd (omega arith))))
        ∙ ap (λ rs. request_at old x ∷ rs) (kept xs i here (λ j h. let e = once (suc j) h in omega arith))

-- nothing, where the node isn't among them
pub requests_beside : (old new : Nodes) (xs : List ℕ) (a : ℕ) → new ≡ slice_set old a None → Absent a xs → requests new xs ≡ requests old xs
requests_beside old new xs a is absent = same_requests old new xs (λ j b h. ap (λ (hs : Nodes). request_at hs b) is ∙ ap asked (get_set_other old a b None (λ e. absent j (h ∙ ap Some e))))
