-- Entries in tree order are those of the footprint that has them.
use Rattle.std.proofs.Common.{◌≡◌, List, [], ◌∷◌, map, length, refl, sym, ap, ◌∙◌, arith, Ordering, Less}
use Rattle.std.specs.List.{AllByRecursion}
use Rattle.std.specs.List.Sorted.{IsStrictlySortedBy}
use Rattle.std.specs.FinMap.Entries.{by_order, put}
use Rattle.std.specs.FinMap.{entries, entries-insert, len-empty, len-entries}
use Rattle.proclang_types.specs.declared.right.Right.{Right}
use Rattle.footprint.specs.declared.resource.Resource.{Resource}
use Rattle.footprint.specs.Tree.{resource_cmp}
use Rattle.footprint.specs.InOrder.{footprint_of}
use Rattle.footprint.proofs.Resources.{resources_total}

none_of_len : {A : Type 0} (xs : List A) → length xs ≡ 0 → xs ≡ []
none_of_len [] e = refl
none_of_len (x ∷ xs) e = absurd (omega arith)

no_entries : entries (footprint_of []) ≡ []
no_entries = none_of_len (entries (footprint_of [])) (sym (len-entries (footprint_of [])) ∙ len-empty resource_cmp Right)

put_first : (e : Resource × Right) (es : List (Resource × Right)) → AllByRecursion (λ y. resource_cmp e.0 y ≡ Less) (map (λ e. e.0) es) → put resource_cmp e.0 e.1 es ≡ e ∷ es
put_first e [] h = refl
put_first e (f ∷ es) h = ap (λ (o : Ordering). by_order o (e ∷ f ∷ es) ((f.0, e.1) ∷ es) (f ∷ put resource_cmp e.0 e.1 es)) h.0

pub entries-footprint_of : (es : List (Resource × Right)) → IsStrictlySortedBy resource_cmp (map (λ e. e.0) es) → entries (footprint_of es) ≡ es
unfolding IsStrictlySortedBy
entries-footprint_of [] s = no_entries
entries-footprint_of (e ∷ es) s =
    entries-insert resources_total (footprint_of es) e.0 e.1
    ∙ ap (put resource_cmp e.0 e.1) (entries-footprint_of es s.1)
    ∙ put_first e es s.0
