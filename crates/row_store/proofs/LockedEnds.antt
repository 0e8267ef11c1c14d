-- Requests that lock no last row name of a partition.
use Rattle.std.proofs.Common.{◌≡◌, Bool, true, false, ◌&&◌, ◌||◌, List, [], ◌∷◌, refl, sym, ap, ◌∙◌, inl, inr, Option, Some, None}
use Rattle.std.specs.List.{list_any}
use Rattle.values.specs.declared.name.RowName.{RowName}
use Rattle.catalogue.specs.Shapes.{TableShape}
use Rattle.proclang_types.specs.declared.right.Right.TheVariants.{Read}
use Rattle.coarsen.specs.Subtrees.{Requests}
use Rattle.shelves.specs.Shelving.{is_end}
use Rattle.row_store.specs.Locked.{gives, name_of, is_of, is_end_among, is_an_end, locks_itself}
use Rattle.shelves.proofs.Exact.{same_name}
use Rattle.shelves.proofs.Booleans.{cases, second}

not_last : (tables : List TableShape) (found : Option RowName) (q : RowName) → is_end_among tables found ≡ false → is_of found q ≡ true → is_end tables q ≡ false
not_last tables None q none is = absurd (cc)
not_last tables (Some name) q none is = ap (is_end tables) (sym (same_name name q is)) ∙ none

neither : (a b : Bool) → a || b ≡ false → (a ≡ false) × (b ≡ false)
neither true b h = absurd (cc)
neither false b h = (refl, h)

either : (a b : Bool) → a || b ≡ true → a ≡ false → b ≡ true
either true b h k = absurd (cc)
either false b h k = h

pub no_end : (tables : List TableShape) (requests : Requests) → list_any (λ e. is_an_end tables e.0) requests ≡ false
    → (q : RowName) → locks_itself requests Read q ≡ true → is_end tables q ≡ false
no_end tables [] none q on = absurd (cc)
no_end tables (e ∷ es) none q on =
    let both = neither (is_an_end tables e.0) (list_any (λ e. is_an_end tables e.0) es) none in
    elim (cases (gives Read e.1 && is_of (name_of e.0) q)) [
      | inl here ↦ not_last tables (name_of e.0) q both.0 (second (gives Read e.1) (is_of (name_of e.0) q) here)
      | inr off ↦ no_end tables es both.1 q (either _ _ on off)
    ]
