-- Resources, and what is noted of them.
use Rattle.std.proofs.Common.{◌≡◌, ℕ, Bool, true, false, cond, Option, refl, ◌∙◌, ap, Ordering, Less, Equal, Greater}
use Rattle.std.specs.Ordering.{is_eq, ordering_reverse}
use Rattle.footprint.specs.declared.resource.Resource.{Resource}
use Rattle.footprint.specs.contracts.resource.ResourceOrd.TheImpl.Laws as laws
use Rattle.footprint.specs.Tree.{resource_cmp}
use Rattle.footprint.proofs.Resources.{resources_total, exact_resources}
use Rattle.lock_tree.specs.Keys.{resource_eq, tied}
use Rattle.lock_tree.specs.Lines.{is_same}

-- ---- resources that are alike are one

pub same_resource : (a b : Resource) → is_same a b ≡ true → a ≡ b
same_resource a b h = exact_resources a b (tied (resource_cmp a b) h)

own_order : (o : Ordering) → o ≡ ordering_reverse o → o ≡ Equal
own_order Less h = absurd (cc)
own_order Equal h = refl
own_order Greater h = absurd (cc)

pub itself : (r : Resource) → is_same r r ≡ true
itself r = ap is_eq (own_order (resource_cmp r r) (resources_total.antisymm r r))

pub same_or_not : (a b : Resource) (P : Type 0) → (a ≡ b → P) → (is_same a b ≡ false → P) → P
same_or_not a b P same other = elim (is_same a b) as (λ v. is_same a b ≡ v → P) [
  | true ↦ λ e. same (same_resource a b e)
  | false ↦ λ e. other e
] refl

-- ---- what is noted of a resource

-- `==` answers what the order does
pub eq_is_same : (a b : Resource) → resource_eq a b ≡ is_same a b
eq_is_same a b = laws.lawful.matches_eq a b

-- so a change at one resource is one at those that are alike
pub changed_as : (old new : Resource → Option ℕ) (r : Resource) (slot : Option ℕ) → ((s : Resource) → new s ≡ cond (resource_eq r s) slot (old s)) → (s : Resource) → new s ≡ cond (is_same r s) slot (old s)
changed_as old new r slot is s = is s ∙ ap (λ v. cond v slot (old s)) (eq_is_same r s)

-- with a slot of its own, a resource has that
pub noted_here : (old new : Option ℕ) (r : Resource) (slot : Option ℕ) → new ≡ cond (is_same r r) slot old → new ≡ slot
noted_here old new r slot is = is ∙ ap (λ v. cond v slot old) (itself r)

-- and another has what it had
pub noted_elsewhere : (old new : Option ℕ) (v : Bool) (slot : Option ℕ) → v ≡ false → new ≡ cond v slot old → new ≡ old
noted_elsewhere old new v slot other is = is ∙ ap (λ b. cond b slot old) other
