-- How many children of a level a resource has, in footprints of which one has the other's entries.
use Rattle.std.proofs.Common.{◌≡◌, T, ℕ, ◌+◌, ◌<◌, ◌≤◌, suc, zero, Bool, true, false, cond, List, [], ◌∷◌, length, refl, sym, ap, ◌∙◌, arith, Option, Some, None, ◌⊎◌, inl, inr}
use Rattle.std.specs.List.{filter, Contains}
use Rattle.std.specs.FinMap.{entries, entries_sorted}
use Rattle.std.specs.FinMap.Entries.{is_sorted, below_all}
use Rattle.proclang_types.specs.declared.right.Right.{Right}
use Rattle.footprint.specs.declared.resource.Resource.{Resource}
use Rattle.footprint.specs.Tree.{resource_cmp}
use Rattle.footprint.specs.Rights.{FootprintOf}
use Rattle.modes.specs.Rights.{rank_of, rank}
use Rattle.coarsen.specs.declared.level.Level.{Level}
use Rattle.coarsen.specs.Subtrees.{is_same, right_on}
use Rattle.coarsen.specs.Coarsening.{parent_at, is_parent, children}
use Rattle.coarsen.proofs.Tree.{same_resource}
use Rattle.coarsen.proofs.Greatest.{some_greatest, first_or_later, later, second_test, first_test}
use Rattle.coarsen.proofs.Entries.{nothing, entries-empty, right_on-entries, get_member, less_than_member}
use Rattle.coarsen.proofs.Covered.{some_rank}
use Rattle.coarsen.proofs.Merging.{not_itself}

-- how many entries have resources that pass a test
abbrev passing : (Resource → Bool) → List (Resource × Right) → ℕ
passing p es = length (filter (λ (e : Resource × Right). p e.0) es)

one_passes : (b : Bool) (e : Resource × Right) (es : List (Resource × Right)) → b ≡ true → length (cond b (e ∷ es) es) ≡ length es + 1
one_passes true e es h = omega arith
one_passes false e es h = absurd (cc)

one_more : (b : Bool) (e : Resource × Right) (es ds : List (Resource × Right)) → length es ≡ length ds + 1 → length (cond b (e ∷ es) es) ≡ length (cond b (e ∷ ds) ds) + 1
one_more true e es ds h = omega (arith, h)
one_more false e es ds h = h

-- an entry is taken out of a list
taken_out : (p : Resource → Bool) (ds : List (Resource × Right)) (d : Resource × Right) → Contains ds d → p d.0 ≡ true
    → (rest : List (Resource × Right)) × (passing p ds ≡ passing p rest + 1) × ((x : Resource × Right) → Contains ds x → (x ≡ d) ⊎ Contains rest x)
taken_out p [] d k t = absurd (let l = k.1 in omega (arith, l))
taken_out p (e ∷ ds) d (zero, l, is) t =
    let same : e ≡ d = is in (
      ds,
      one_passes (p e.0) e (filter (λ (x : Resource × Right). p x.0) ds) (ap (λ (x : Resource × Right). p x.0) same ∙ t),
      λ x k. elim (first_or_later e ds x k) [ inl at ↦ inl (sym at ∙ same) | inr m ↦ inr m ],
    )
taken_out p (e ∷ ds) d (suc n, l, is) t =
    let r = taken_out p ds d (n, omega (arith, l), is) t in (
      e ∷ r.0,
      one_more (p e.0) e (filter (λ (x : Resource × Right). p x.0) ds) (filter (λ (x : Resource × Right). p x.0) r.0) r.1,
      λ x k. elim (first_or_later e ds x k) [
        | inl at ↦ inr (0, omega arith, at)
        | inr m ↦ elim (r.2 x m) [ inl same ↦ inl same | inr q ↦ inr (later e r.0 x q) ]
      ],
    )

-- a list in order, each of whose resources that pass is one of another list: no more of them pass
at_most : (p : Resource → Bool) (es ds : List (Resource × Right)) → T (is_sorted resource_cmp es)
    → ((e : Resource × Right) → Contains es e → p e.0 ≡ true → (d : Resource × Right) × Contains ds d × (d.0 ≡ e.0))
    → passing p es ≤ passing p ds
at_most p [] ds s h = omega arith
at_most p (e ∷ es) ds s h = elim (p e.0) as (λ v. p e.0 ≡ v → length (cond v (e ∷ filter (λ (x : Resource × Right). p x.0) es) (filter (λ (x : Resource × Right). p x.0) es)) ≤ passing p ds) [
  | true ↦ λ t.
      let d = h e (0, omega arith, refl) t in
      let r = taken_out p ds d.0 d.1 (ap p d.2 ∙ t) in
      let m = at_most p es r.0 (second_test (below_all resource_cmp e.0 es) (is_sorted resource_cmp es) s) (λ x k u.
      let y = h x (later e es x k) u in
      elim (r.2 y.0 y.1) [
        | inl same ↦ absurd (not_itself e.0 x.0 (less_than_member e.0 es x (first_test (below_all resource_cmp e.0 es) (is_sorted resource_cmp es) s) k)
            (sym d.2 ∙ ap (λ (z : Resource × Right). z.0) (sym same) ∙ y.2))
        | inr q ↦ (y.0, q, y.2)
      ]) in
      let n = r.1 in
      omega (arith, m, n)
  | false ↦ λ t. at_most p es ds (second_test (below_all resource_cmp e.0 es) (is_sorted resource_cmp es) s) (λ x k u. h x (later e es x k) u)
] refl

-- where the one footprint has an entry on each child on which the other has one, it has as many children at least
pub fewer : (level : Level) (f g : FootprintOf) (q : Resource) → ((r : Resource) → is_parent (parent_at level r) q ≡ true → 0 < right_on f r → 0 < right_on g r) → children level f q ≤ children level g q
fewer level f g q h = at_most (λ r. is_parent (parent_at level r) q) (entries f) (entries g) (entries_sorted f) (λ e k t.
    let is : right_on f e.0 ≡ rank_of e.1 = ap rank (get_member f e k) in
    let s = some_rank e.1 in
    let m = h e.0 t (omega (arith, is, s)) in
    let on = right_on-entries g e.0 in
    let d = some_greatest rank_of (is_same e.0) (entries g) 1 (omega arith) (omega (arith, m, on)) in
    (d.0, d.1, sym (same_resource e.0 d.0.0 d.2)))

-- a footprint without a right on a child has none
pub no_children : (level : Level) (f : FootprintOf) (q : Resource) → ((r : Resource) → is_parent (parent_at level r) q ≡ true → right_on f r ≡ 0) → children level f q ≡ 0
no_children level f q h =
    let m = fewer level f nothing q (λ r t there. let z = h r t in absurd (omega (arith, z, there))) in
    let e : children level nothing q ≡ 0 = ap (λ (es : List (Resource × Right)). passing (λ r. is_parent (parent_at level r) q) es) entries-empty in
    omega (arith, m, e)

-- a parent that a resource of a level has
pub the_parent : (o : Option Resource) (q : Resource) → is_parent o q ≡ true → o ≡ Some q
the_parent None q h = absurd (cc)
the_parent (Some p) q h = ap (λ (x : Resource). Some x) (same_resource p q h)
