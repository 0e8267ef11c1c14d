-- The last step of coarsening.
use Rattle.std.proofs.Common.{◌≡◌, ℕ, ◌≤◌, true, false, refl, ap, subst, ◌∙◌, arith, Option, Some, None}
use Rattle.std.specs.List.{Contains}
use Rattle.std.specs.FinMap.{entries, get}
use Rattle.proclang_types.specs.declared.right.Right.{Right}
use Rattle.proclang_types.specs.declared.right.Right.TheVariants.{Read, Write}
use Rattle.footprint.specs.declared.resource.InTable.{InTable}
use Rattle.footprint.specs.declared.resource.Resource.{Resource}
use Rattle.footprint.specs.declared.resource.Resource.TheVariants.{Db, Table}
use Rattle.footprint.specs.Rights.{FootprintOf, is_at_least}
use Rattle.modes.specs.Rights.{rank_of, rank}
use Rattle.coarsen.specs.Subtrees.{greatest, is_same, right_on}
use Rattle.coarsen.specs.Coarsening.{on_database}
use Rattle.coarsen.proofs.Covered.{some_rank}
use Rattle.coarsen.proofs.CoarseningLaws.{same_entry}
use Rattle.coarsen.proofs.Entries.{right_on-entries, greatest_gathered, greatest_map, get_member}
use Rattle.coarsen.proofs.Greatest.{has_greatest, some_greatest, greatest_least}
use Rattle.language_laws.specs.Coarsening.{DatabaseHasGreatest}

abbrev all : FootprintOf → ℕ
all f = greatest rank_of (λ s. true) (entries f)

right_is : (f : FootprintOf) → right_on (on_database f) Db ≡ all f
right_is f = right_on-entries (on_database f) Db ∙ greatest_gathered (is_same Db) _ ∙ greatest_map (is_same Db) (λ s. Db) (entries f)

right_elsewhere : (f : FootprintOf) (t : ℕ) (w : InTable) → right_on (on_database f) (Table t w) ≡ 0
right_elsewhere f t w =
    let e = right_on-entries (on_database f) (Table t w) ∙ greatest_gathered (is_same (Table t w)) _ ∙ greatest_map (is_same (Table t w)) (λ s. Db) (entries f) in
    let none = greatest_least rank_of (λ s. false) (entries f) 0 (λ d k h. absurd (cc)) in
    omega (arith, e, none)

-- what is found at a resource is an entry
member : (f : FootprintOf) (r : Resource) (x : Right) → get f r ≡ Some x → Contains (entries f) (r, x)
member f r x e =
    let was = right_on-entries f r in
    let is : right_on f r ≡ rank_of x = ap rank e in
    let d = some_greatest rank_of (is_same r) (entries f) (rank_of x) (some_rank x) (omega (arith, was, is)) in
    subst (Contains (entries f)) (same_entry f r x d.0 e d.1 d.2) d.1

satisfied : (x : Right) (o : Option Right) → rank_of x ≤ rank o → is_at_least x o ≡ true
satisfied Read None h = absurd (omega (arith, h))
satisfied Write None h = absurd (omega (arith, h))
satisfied Read (Some y) h = refl
satisfied Write (Some Read) h = absurd (omega (arith, h))
satisfied Write (Some Write) h = refl

no_rank : (o : Option Right) → rank o ≡ 0 → o ≡ None
no_rank None e = refl
no_rank (Some Read) e = absurd (omega (arith, e))
no_rank (Some Write) e = absurd (omega (arith, e))

same_rank : (x y : Right) → rank_of x ≤ rank_of y → rank_of y ≤ rank_of x → x ≡ y
same_rank Read Read h k = refl
same_rank Read Write h k = absurd (omega (arith, k))
same_rank Write Read h k = absurd (omega (arith, h))
same_rank Write Write h k = refl

each : (f : FootprintOf) (r : Resource) (x : Right) → get f r ≡ Some x → is_at_least x (get (on_database f) Db) ≡ true
each f r x e =
    let is = right_is f in
    let most = has_greatest rank_of (λ s. true) (entries f) (r, x) (member f r x e) refl in
    satisfied x (get (on_database f) Db) (omega (arith, is, most))

one : (f : FootprintOf) (x : Right) → get (on_database f) Db ≡ Some x → (r : Resource) × (get f r ≡ Some x)
one f x e =
    let is = right_is f in
    let at : right_on (on_database f) Db ≡ rank_of x = ap rank e in
    let d = some_greatest rank_of (λ s. true) (entries f) (rank_of x) (some_rank x) (omega (arith, is, at)) in
    let most = has_greatest rank_of (λ s. true) (entries f) d.0 d.1 refl in
    let same = same_rank d.0.1 x (omega (arith, most, is, at)) d.3 in
    (d.0.0, get_member f d.0 d.1 ∙ ap Some same)

pub greatest_of_all : DatabaseHasGreatest
greatest_of_all = record {
  at_least_each = each;
  one_of_them = one;
  no_other = λ f t w. no_rank _ (right_elsewhere f t w);
}
