-- A map of the code and the footprint that it stands for.
use Rattle.std.proofs.Common.{◌≡◌, cond, List, [], ◌∷◌, refl, sym, ap, ◌∙◌, Some}
use Rattle.std.specs.Cmp.{eq_by_cmp_equiv}
use Rattle.std.specs.Ordering.{eq_by_cmp}
use Rattle.std.specs.BTreeMap.{is_at}
use Rattle.std.specs.Map.{lookup}
use Rattle.std.specs.FinMap.{get, insert, find, get-insert, get-from_entries, same_map}
use Rattle.proclang_types.specs.declared.right.Right.{Right}
use Rattle.footprint.specs.declared.resource.Resource.{Resource}
use Rattle.footprint.specs.Tree.{resource_cmp}
use Rattle.footprint.specs.InOrder.{footprint_of}
use Rattle.footprint.proofs.Resources.{resources_total, exact_resources}

find_lookup : (es : List (Resource × Right)) (r : Resource) → find resource_cmp r es ≡ lookup (is_at (resource_cmp r)) es
find_lookup [] r = refl
find_lookup (e ∷ es) r = ap (cond (eq_by_cmp resource_cmp r e.0) (Some e.1)) (find_lookup es r)

pub get_entries : (es : List (Resource × Right)) (r : Resource) → lookup (is_at (resource_cmp r)) es ≡ get (footprint_of es) r
get_entries es r = sym (get-from_entries resources_total es r ∙ find_lookup es r)

-- maps that differ at one resource
pub inserted : (old new : List (Resource × Right)) (r : Resource) (right : Right)
    → ((q : Resource) → lookup (is_at (resource_cmp q)) new ≡ cond (is_at (resource_cmp r) q) (Some right) (lookup (is_at (resource_cmp q)) old))
    → footprint_of new ≡ insert (footprint_of old) r right
inserted old new r right h = same_map resources_total exact_resources _ _ (λ q.
    sym (get_entries new q) ∙ h q
    ∙ ap (λ b. cond b (Some right) (lookup (is_at (resource_cmp q)) old)) ((eq_by_cmp_equiv resources_total).symm r q)
    ∙ ap (cond (eq_by_cmp resource_cmp q r) (Some right)) (get_entries old q)
    ∙ sym (get-insert resources_total (footprint_of old) r right q))
