-- A list in tree order in which an entry is put, and the footprint that it stands for.
use Rattle.std.proofs.Common.{◌≡◌, ℕ, List, get_or, set, sym, ap, ◌∙◌, Some, None}
use Rattle.std.specs.List.{insert}
use Rattle.std.specs.FinMap as map
use Rattle.std.specs.FinMap.{get, entries-insert, get-from_entries, same_entries_map}
use Rattle.std.specs.FinMap.Entries.{put}
use Rattle.proclang_types.specs.declared.right.Right.{Right}
use Rattle.footprint.specs.declared.resource.Resource.{Resource}
use Rattle.footprint.specs.Tree.{resource_cmp}
use Rattle.footprint.specs.InTreeOrder.{IsInTreeOrder, IsAt, IsGapFor}
use Rattle.footprint.specs.InOrder.{footprint_of}
use Rattle.footprint.proofs.Resources.{resources_total}
use Rattle.footprint.proofs.InOrder.{entries-footprint_of}
use Rattle.footprint.proofs.Placing.{sorted-set, sorted-inserted, found, not_found, put-set, put-inserted}

-- where one entry more makes one list in tree order of another, it makes one footprint of the other
one_more : (es more : List (Resource × Right)) (r : Resource) (right : Right) → IsInTreeOrder es → IsInTreeOrder more → put resource_cmp r right es ≡ more
    → footprint_of more ≡ map.insert (footprint_of es) r right
one_more es more r right o p is = same_entries_map (footprint_of more) (map.insert (footprint_of es) r right)
    (entries-footprint_of more p ∙ sym is ∙ ap (put resource_cmp r right) (sym (entries-footprint_of es o))
    ∙ sym (entries-insert resources_total (footprint_of es) r right))

-- an entry takes another right
pub footprint-set : (es : List (Resource × Right)) (i : ℕ) (r : Resource) (right : Right) → IsInTreeOrder es → IsAt es r i → footprint_of (set es i (r, right)) ≡ map.insert (footprint_of es) r right
footprint-set es i r right o at = one_more es (set es i (r, right)) r right o (sorted-set es o i r right at) (put-set es i r right o at)

-- an entry is put into the gap for it
pub footprint-inserted : (es : List (Resource × Right)) (i : ℕ) (r : Resource) (right : Right) → IsInTreeOrder es → IsGapFor es r i → footprint_of (insert es i (r, right)) ≡ map.insert (footprint_of es) r right
footprint-inserted es i r right o gap = one_more es (insert es i (r, right)) r right o (sorted-inserted es i r right gap o) (put-inserted es i r right gap)

-- the right at a place of the list is the map's
pub right_at : (es : List (Resource × Right)) (i : ℕ) (r : Resource) (d : Resource × Right) → IsInTreeOrder es → IsAt es r i → Some (get_or es i d).1 ≡ get (footprint_of es) r
right_at es i r d o at = sym (get-from_entries resources_total es r ∙ found es i r d o at)

-- a resource with a gap for it has no right
pub no_right : (es : List (Resource × Right)) (i : ℕ) (r : Resource) → IsGapFor es r i → None ≡ get (footprint_of es) r
no_right es i r gap = sym (get-from_entries resources_total es r ∙ not_found es i r gap)
