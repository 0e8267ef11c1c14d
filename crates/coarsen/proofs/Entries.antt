-- The entries of a footprint to which rights are added.
use Rattle.std.proofs.Common.{◌≡◌, T, ◌≤◌, Bool, true, cond, max, List, [], ◌∷◌, length, map, refl, sym, ap, ◌∙◌, arith, Option, Some, None, Less, Greater, inl, inr}
use Rattle.std.specs.List.{Contains}
use Rattle.std.specs.Ordering.{is_eq, is_lt, ordering_reverse}
use Rattle.std.proofs.lemmas.Cmp.{tied_itself}
use Rattle.std.specs.FinMap.{entries, entries_sorted, entries-insert, get, get-entries, empty, len-empty, len-entries}
use Rattle.std.specs.FinMap.Entries.{find, put, is_sorted, below_all}
use Rattle.proclang_types.specs.declared.right.Right.{Right}
use Rattle.proclang_types.specs.declared.right.Right.TheVariants.{Read, Write}
use Rattle.footprint.specs.declared.resource.Resource.{Resource}
use Rattle.footprint.specs.Tree.{resource_cmp}
use Rattle.footprint.specs.Rights.{FootprintOf, greater, with_right, is_at_least, with_rights}
use Rattle.modes.specs.Rights.{rank_of, rank}
use Rattle.coarsen.specs.Subtrees.{greatest, is_same, right_on}
use Rattle.coarsen.specs.Coarsening.{gathered}
use Rattle.footprint.proofs.Resources.{resources_total}
use Rattle.coarsen.proofs.Greatest.{number_or_none, found, greatest-put, first_test, second_test, less, first_or_later}

none_of_len : {A : Type 0} (xs : List A) → length xs ≡ 0 → xs ≡ []
none_of_len [] e = refl
none_of_len (x ∷ xs) e = absurd (omega arith)

abbrev pub nothing : FootprintOf
nothing = empty

pub entries-empty : entries nothing ≡ []
entries-empty = none_of_len (entries nothing) (sym (len-entries nothing) ∙ len-empty resource_cmp Right)

rank_value : (o : Option Right) → rank o ≡ number_or_none rank_of o
rank_value None = refl
rank_value (Some x) = refl

-- a resource's own right is the greatest of the entries there
pub right_on-entries : (f : FootprintOf) (r : Resource) → right_on f r ≡ greatest rank_of (is_same r) (entries f)
right_on-entries f r = ap rank (get-entries f r) ∙ rank_value (find resource_cmp r (entries f)) ∙ found rank_of (entries f) (entries_sorted f) r

greater_rank : (o : Option Right) (x : Right) → rank_of (greater o x) ≡ max (number_or_none rank_of o) (rank_of x)
greater_rank None Read = refl
greater_rank None Write = refl
greater_rank (Some Read) Read = refl
greater_rank (Some Read) Write = refl
greater_rank (Some Write) Read = refl
greater_rank (Some Write) Write = refl

pub at_least_rank : (x : Right) (o : Option Right) → is_at_least x o ≡ true → rank_of x ≤ rank o
at_least_rank Read None h = absurd (cc)
at_least_rank Read (Some Read) h = omega arith
at_least_rank Read (Some Write) h = omega arith
at_least_rank Write None h = absurd (cc)
at_least_rank Write (Some Read) h = absurd (cc)
at_least_rank Write (Some Write) h = omega arith

greatest_with_right : (test : Resource → Bool) (f : FootprintOf) (r : Resource) (x : Right)
    → greatest rank_of test (entries (with_right f r x)) ≡ max (greatest rank_of test (entries f)) (cond (test r) (rank_of x) 0)
greatest_with_right test f r x =
    ap (greatest rank_of test) (entries-insert resources_total f r (greater (get f r) x))
    ∙ ap (λ (o : Option Right). greatest rank_of test (put resource_cmp r (greater o x) (entries f))) (get-entries f r)
    ∙ greatest-put rank_of test (entries f) r (greater (find resource_cmp r (entries f)) x) (rank_of x) (greater_rank (find resource_cmp r (entries f)) x)

greatest_with_rights : (test : Resource → Bool) (f : FootprintOf) (es : List (Resource × Right))
    → greatest rank_of test (entries (with_rights f es)) ≡ max (greatest rank_of test (entries f)) (greatest rank_of test es)
greatest_with_rights test f [] = omega arith
greatest_with_rights test f (e ∷ es) =
    let h = greatest_with_rights test (with_right f e.0 e.1) es in
    let k = greatest_with_right test f e.0 e.1 in
    omega (arith, h, k)

-- what stands together is as great as what was put together
pub greatest_gathered : (test : Resource → Bool) (es : List (Resource × Right)) → greatest rank_of test (entries (gathered es)) ≡ greatest rank_of test es
greatest_gathered test es =
    let h = greatest_with_rights test nothing es in
    let k : greatest rank_of test (entries nothing) ≡ 0 = ap (greatest rank_of test) entries-empty in
    omega (arith, h, k)

pub greatest_map : (test : Resource → Bool) (f : Resource → Resource) (es : List (Resource × Right))
    → greatest rank_of test (map {B = Resource × Right} (λ (e : Resource × Right). (f e.0, e.1)) es) ≡ greatest rank_of (λ s. test (f s)) es
greatest_map test f [] = refl
greatest_map test f (e ∷ es) = ap (λ n. max (cond (test (f e.0)) (rank_of e.1) 0) n) (greatest_map test f es)

-- ---- members

pub less_than_member : (r : Resource) (es : List (Resource × Right)) (d : Resource × Right) → T (below_all resource_cmp r es) → Contains es d → resource_cmp r d.0 ≡ Less
less_than_member r [] d h k = absurd (let l = k.1 in omega (arith, l))
less_than_member r (e ∷ es) d h k = elim (first_or_later e es d k) [
  | inl same ↦ ap (resource_cmp r) (ap (λ (y : Resource × Right). y.0) (sym same)) ∙ less (resource_cmp r e.0) (first_test (is_lt (resource_cmp r e.0)) (below_all resource_cmp r es) h)
  | inr l ↦ less_than_member r es d (second_test (is_lt (resource_cmp r e.0)) (below_all resource_cmp r es) h) l
]

member_found : (es : List (Resource × Right)) (d : Resource × Right) → T (is_sorted resource_cmp es) → Contains es d → find resource_cmp d.0 es ≡ Some d.1
member_found [] d s k = absurd (let l = k.1 in omega (arith, l))
member_found (e ∷ es) d s k = elim (first_or_later e es d k) [
  | inl same ↦ ap (λ (y : Resource × Right). cond (is_eq (resource_cmp d.0 y.0)) (Some y.1) (find resource_cmp d.0 es)) same
      ∙ ap (λ o. cond (is_eq o) (Some d.1) (find resource_cmp d.0 es)) (tied_itself resources_total d.0)
  | inr l ↦
      let before = less_than_member e.0 es d (first_test (below_all resource_cmp e.0 es) (is_sorted resource_cmp es) s) l in
      let after : resource_cmp d.0 e.0 ≡ Greater = resources_total.antisymm d.0 e.0 ∙ ap ordering_reverse before in
      ap (λ o. cond (is_eq o) (Some e.1) (find resource_cmp d.0 es)) after ∙ member_found es d (second_test (below_all resource_cmp e.0 es) (is_sorted resource_cmp es) s) l
]

-- an entry is what is found at its resource
pub get_member : (f : FootprintOf) (d : Resource × Right) → Contains (entries f) d → get f d.0 ≡ Some d.1
get_member f d k = get-entries f d.0 ∙ member_found (entries f) d (entries_sorted f) k
