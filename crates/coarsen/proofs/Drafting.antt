-- A draft of requests: it grows at its end, and its requests serve each other.
use Rattle.std.proofs.Common.{◌≡◌, ◌≤◌, ℕ, ◌∷◌, ◌++◌, [], Bool, true, false, cond, length, max, refl, sym, ap, ◌∙◌, subst, arith, Some, Result, Ok, Err, OnOk}
use Rattle.std.proofs.lemmas.List.Edits.{insert_end}
use Rattle.std.specs.List.{insert}
use Rattle.footprint.specs.declared.resource.Resource.{Resource}
use Rattle.footprint.specs.InTreeOrder.{IsInTreeOrder, IsGapFor}
use Rattle.footprint.proofs.Placing.{sorted-inserted}
use Rattle.footprint.specs.Tree.{parent_of}
use Rattle.modes.specs.declared.mode.Mode.{Mode}
use Rattle.modes.specs.Modes.{subtree}
use Rattle.std.specs.List.{Contains}
use Rattle.coarsen.specs.Subtrees.{Requests, greatest, holds, is_same, subtree_on}
use Rattle.coarsen.proofs.Greatest.{greatest-inserted, has_greatest}
use Rattle.coarsen.proofs.Requesting.{over_both}
use Rattle.coarsen.proofs.Tree.{holds_on, same_resource, is_same_itself}

-- a request is put at the end, where the gap for it is
pub sorted-pushed : (es new : Requests) (n : ℕ) (r : Resource) (v : Mode)
    → IsGapFor es r n → n ≡ length es → new ≡ es ++ (r, v) ∷ [] → IsInTreeOrder es → IsInTreeOrder new
sorted-pushed es new n r v gap end is o =
    subst (λ (rs : Requests). IsInTreeOrder rs) (ap (λ k. insert es k (r, v)) end ∙ insert_end es (r, v) ∙ sym is)
    (sorted-inserted es n r v gap o)

pub greatest-pushed : (f : Mode → ℕ) (test : Resource → Bool) (es : Requests) (r : Resource) (v : Mode)
    → greatest f test (es ++ (r, v) ∷ []) ≡ max (greatest f test es) (cond (test r) (f v) 0)
greatest-pushed f test es r v =
    sym (ap (λ (rs : Requests). greatest f test rs) (insert_end es (r, v))) ∙ greatest-inserted f test es (length es) r v

-- what a request asks for in its subtree, the requests on its ancestors ask for
abbrev pub AsksAbove : Requests → Type 0
AsksAbove es = (above resource : Resource) → holds above resource ≡ true → subtree_on es resource ≤ subtree_on es above

pub none_asks : AsksAbove []
none_asks above resource on = omega arith

-- a resource and its ancestors ask for a right, once the resource has asked for it
abbrev pub Serves : Requests → Resource → ℕ → Type 0
Serves es resource n =
    (above : Resource) → holds above resource ≡ true → n ≤ max (subtree_on es above) (cond (is_same above resource) n 0)

-- a request on a resource whose ancestors ask for as much
pub asks-requested : (old new : Requests) (r : Resource) (n : ℕ)
    → ((q : Resource) → subtree_on new q ≡ max (subtree_on old q) (cond (is_same q r) n 0))
    → Serves old r n → AsksAbove old → AsksAbove new
asks-requested old new r n is serves asks above resource on =
    let before = asks above resource on in
    let here = is resource in
    let there = is above in
    elim (is_same resource r) as (λ v.
    is_same resource r ≡ v → subtree_on new resource ≡ max (subtree_on old resource) (cond v n 0)
    → subtree_on new resource ≤ subtree_on new above) [
      | true ↦ λ on_it k.
          let over : holds above r ≡ true = sym (ap (holds above) (same_resource resource r on_it)) ∙ on in
          let s = serves above over in
          omega (arith, before, k, there, s)
      | false ↦ λ off k. omega (arith, before, k, there)
    ] refl here

-- what is asked for already
asked_already : (b : Bool) (old n : ℕ) → (b ≡ true → n ≤ old) → old ≡ max old (cond b n 0)
asked_already true old n h = let i = h refl in omega (arith, i)
asked_already false old n h = omega arith

-- where the parent and its ancestors ask for a right, a request on the resource alone does as much as a climb
pub over_served : (es : Requests) (r resource up : Resource) (n new : ℕ) → parent_of resource ≡ Some up
    → ((above : Resource) → holds above up ≡ true → n ≤ subtree_on es above)
    → new ≡ max (subtree_on es r) (cond (is_same r resource) n 0)
    → new ≡ max (subtree_on es r) (cond (holds r resource) n 0)
over_served es r resource up n new e asks is =
    over_both r resource up n n (subtree_on es r) (subtree_on es r) new e refl
    (asked_already (holds r up) (subtree_on es r) n (asks r)) is

-- what follows from a fact of success
pub on_ok : {X E P Q : Type 0} → (result : Result X E) → (P → Q) → OnOk result P → OnOk result Q
on_ok (Ok x) f p = f p
on_ok (Err e) f p = tt

-- the last request is under a resource, and asks for as much: so do all over it
pub served_below : (es : Requests) (up : Resource) (last : Resource × Mode) (n : ℕ) → AsksAbove es → Contains es last
    → holds up last.0 ≡ true → n ≤ subtree last.1 → (above : Resource) → holds above up ≡ true → n ≤ subtree_on es above
served_below es up last n asks there under enough above on =
    let own = has_greatest subtree (is_same last.0) es last there (is_same_itself last.0) in
    let over = asks above last.0 (holds_on above up last.0 on under) in
    omega (arith, own, over, enough)
