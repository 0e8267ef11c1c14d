-- A copy of places shows what they show.
use Rattle.std.proofs.Common.{◌≡◌, Bool, true, false, cond, List, [], ◌∷◌, refl, sym, ap, ◌∙◌, Option, Some}
use Rattle.std.specs.List.{AllZip}
use Rattle.std.specs.BTreeMap.{is_at}
use Rattle.std.specs.Map.{lookup}
use Rattle.values.specs.declared.name.RowName.{RowName}
use Rattle.values.specs.Database.{RowOf, name_cmp}
use Rattle.shelves.specs.declared.place.Place.{Place}
use Rattle.shelves.specs.Places.{seen_over}

seen_cond : (b : Bool) (x y : Place) (m n : Option Place) (otherwise : Option RowOf) → seen_over (Some y) otherwise ≡ seen_over (Some x) otherwise
    → seen_over n otherwise ≡ seen_over m otherwise
    → seen_over (cond b (Some y) n) otherwise ≡ seen_over (cond b (Some x) m) otherwise
seen_cond true x y m n otherwise h k = h
seen_cond false x y m n otherwise h k = k

pub copied : (C : RowName → RowName → Type 0) → ((a b : RowName) → C a b → a ≡ b) → (m n : List (RowName × Place))
    → AllZip (λ p q. C p.0 q.0 × ((otherwise : Option RowOf) → seen_over (Some q.1) otherwise ≡ seen_over (Some p.1) otherwise)) m n
    → (q : RowName) (otherwise : Option RowOf) → seen_over (lookup (is_at (name_cmp q)) n) otherwise ≡ seen_over (lookup (is_at (name_cmp q)) m) otherwise
copied C exact [] [] h q otherwise = refl
copied C exact [] (y ∷ n) h q otherwise = absurd h
copied C exact (x ∷ m) [] h q otherwise = absurd h
copied C exact (x ∷ m) (y ∷ n) h q otherwise =
    ap (λ k. seen_over (cond (is_at (name_cmp q) k) (Some y.1) (lookup (is_at (name_cmp q)) n)) otherwise) (sym (exact x.0 y.0 h.0.0))
    ∙ seen_cond (is_at (name_cmp q) x.0) x.1 y.1 (lookup (is_at (name_cmp q)) m) (lookup (is_at (name_cmp q)) n) otherwise (h.0.1 otherwise) (copied C exact m n h.1 q otherwise)
