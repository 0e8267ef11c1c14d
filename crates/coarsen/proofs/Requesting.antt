-- Requests for a resource and all over it.
use Rattle.std.proofs.Common.{◌≡◌, ℕ, Bool, true, false, cond, max, refl, sym, ap, ◌∙◌, arith, Some, None, inl, inr, ◌⊎◌}
use Rattle.footprint.specs.declared.resource.Resource.{Resource}
use Rattle.footprint.specs.Tree.{parent_of}
use Rattle.coarsen.specs.Subtrees.{holds, is_same}
use Rattle.coarsen.proofs.Tree.{both, and, holds_on}
use Rattle.coarsen.proofs.Parents.{over_up, same_or_up, parent_holds}

holds_split : (r s : Resource) → holds s r ≡ true → (is_same s r ≡ true) ⊎ (over_up s (parent_of r) ≡ true)
holds_split r s h = elim (same_or_up r s h) [ inl i ↦ inl (and (holds s r) (holds r s) h i) | inr i ↦ inr i ]

pick : (a b c : Bool) (n old mid new : ℕ) → (c ≡ true → (a ≡ true) ⊎ (b ≡ true)) → (a ≡ true → c ≡ true) → (b ≡ true → c ≡ true)
    → mid ≡ max old (cond a n 0) → new ≡ max mid (cond b n 0) → new ≡ max old (cond c n 0)
pick true b true n old mid new h i j e f = elim b as (λ v. new ≡ max mid (cond v n 0) → new ≡ max old n) [ true ↦ λ g. omega (arith, e, g) | false ↦ λ g. omega (arith, e, g) ] f
pick true b false n old mid new h i j e f = let w : false ≡ true = i refl in absurd (cc)
pick false true true n old mid new h i j e f = omega (arith, e, f)
pick false true false n old mid new h i j e f = let w : false ≡ true = j refl in absurd (cc)
pick false false true n old mid new h i j e f = elim (h refl) [ inl w ↦ absurd (cc) | inr w ↦ absurd (cc) ]
pick false false false n old mid new h i j e f = omega (arith, e, f)

-- requests of a subtree right over the parent, and then a request on the resource
pub over_both : (r resource up : Resource) (n m old mid new : ℕ) → parent_of resource ≡ Some up → m ≡ n
    → mid ≡ max old (cond (holds r up) m 0) → new ≡ max mid (cond (is_same r resource) n 0) → new ≡ max old (cond (holds r resource) n 0)
over_both r resource up n m old mid new e same h k = pick (holds r up) (is_same r resource) (holds r resource) n old mid new
    (λ h. elim (holds_split resource r h) [ inl i ↦ inr i | inr i ↦ inl (sym (ap (over_up r) e) ∙ i) ])
    (λ t. holds_on r up resource t (parent_holds resource up e))
    (λ t. (both (holds r resource) (holds resource r) t).0)
    (h ∙ ap (λ x. max old (cond (holds r up) x 0)) same) k

pub over_one : (r resource : Resource) (n old mid : ℕ) → parent_of resource ≡ None
    → mid ≡ max old (cond (is_same r resource) n 0) → mid ≡ max old (cond (holds r resource) n 0)
over_one r resource n old mid e m = pick (is_same r resource) false (holds r resource) n old mid mid
    (λ h. elim (holds_split resource r h) [ inl i ↦ inl i | inr i ↦ inr (sym (ap (over_up r) e) ∙ i) ])
    (λ t. (both (holds r resource) (holds resource r) t).0)
    (λ t. absurd (cc))
    m (omega arith)

pub own_both : (a b : Bool) (n z old mid new : ℕ) → z ≡ 0 → mid ≡ max old (cond b z 0) → new ≡ max mid (cond a n 0) → new ≡ max old (cond a n 0)
own_both a true n z old mid new e m k = omega (arith, e, m, k)
own_both a false n z old mid new e m k = omega (arith, m, k)

-- one entry of those that are left is taken in
pub taken : (b : Bool) (n m s old new rest total : ℕ) → s ≡ max (cond b n 0) rest → m ≡ n → new ≡ max old (cond b m 0) → max old s ≡ total → max new rest ≡ total
taken true n m s old new rest total e f g h = omega (arith, e, f, g, h)
taken false n m s old new rest total e f g h = omega (arith, e, g, h)
