-- Coarsening covers all that the footprint covers, and has nothing where the footprint has nothing.
use Rattle.std.proofs.Common.{◌≡◌, ℕ, ◌<◌, ◌≤◌, suc, zero, nat_lt, Bool, true, false, cond, not, List, [], ◌∷◌, refl, sym, ap, ◌∙◌, arith, Option, Some, None}
use Rattle.std.proofs.Math.Nat.{le-max_right}
use Rattle.std.specs.List.{Contains, filter, list_any}
use Rattle.std.specs.FinMap.{entries, get}
use Rattle.proclang_types.specs.declared.right.Right.{Right}
use Rattle.proclang_types.specs.declared.right.Right.TheVariants.{Read, Write}
use Rattle.footprint.specs.declared.resource.InPart.TheVariants.{WholePart, Row}
use Rattle.footprint.specs.declared.resource.InTable.TheVariants.{WholeTable, Part}
use Rattle.footprint.specs.declared.resource.Resource.{Resource}
use Rattle.footprint.specs.declared.resource.Resource.TheVariants.{Db, Table}
use Rattle.footprint.specs.Tree.{parent_of, ancestors_of}
use Rattle.footprint.specs.Rights.{FootprintOf, is_at_least, covers}
use Rattle.modes.specs.Rights.{rank_of}
use Rattle.coarsen.specs.declared.level.Level.{Level}
use Rattle.coarsen.specs.declared.level.Level.TheVariants.{Rows, Partitions}
use Rattle.coarsen.specs.Subtrees.{holds, is_same, greatest, right_under}
use Rattle.coarsen.specs.Coarsening.{is_needed, needed, parent_at, place, children, lifted, coarsened, on_database}
use Rattle.coarsen.proofs.Tree.{both, holds_itself, holds_on, same_resource}
use Rattle.coarsen.proofs.Greatest.{has_greatest, some_greatest, greatest_least, greatest_mono}
use Rattle.coarsen.proofs.Parents.{depth, parent_holds, some_ancestor, some_over}
use Rattle.coarsen.proofs.Entries.{right_on-entries, at_least_rank, greatest_gathered, greatest_map}

-- the greatest right of the entries on a resource or an ancestor
abbrev pub right_over : FootprintOf → Resource → ℕ
right_over f r = greatest rank_of (λ s. holds s r) (entries f)

level_parent : (level : Level) (s q : Resource) → parent_at level s ≡ Some q → parent_of s ≡ Some q
level_parent Rows Db q e = absurd (cc)
level_parent Rows (Table t WholeTable) q e = absurd (cc)
level_parent Rows (Table t (Part p WholePart)) q e = absurd (cc)
level_parent Rows (Table t (Part p (Row k))) q e = e
level_parent Partitions Db q e = absurd (cc)
level_parent Partitions (Table t WholeTable) q e = absurd (cc)
level_parent Partitions (Table t (Part p WholePart)) q e = e
level_parent Partitions (Table t (Part p (Row k))) q e = absurd (cc)

to_over : (o : Option Resource) (counts : Resource → ℕ) (k : ℕ) (s : Resource) → ((q : Resource) → o ≡ Some q → holds q s ≡ true) → holds (place o counts k s) s ≡ true
to_over None counts k s h = holds_itself s
to_over (Some q) counts k s h = elim (nat_lt k (counts q)) as (λ b. holds (cond b q s) s ≡ true) [ true ↦ h q refl | false ↦ holds_itself s ]

abbrev pub moved : Level → ℕ → FootprintOf → Resource → Resource
moved level k f s = place (parent_at level s) (children level f) k s

-- an entry goes to its own resource or one over it
moved_over : (level : Level) (k : ℕ) (f : FootprintOf) (s : Resource) → holds (moved level k f s) s ≡ true
moved_over level k f s = to_over (parent_at level s) (children level f) k s (λ q e. parent_holds s q (level_parent level s q e))

pub lifted_is : (test : Resource → Bool) (level : Level) (k : ℕ) (f : FootprintOf) → greatest rank_of test (entries (lifted level k f)) ≡ greatest rank_of (λ s. test (moved level k f s)) (entries f)
lifted_is test level k f = greatest_gathered test _ ∙ greatest_map test (moved level k f) (entries f)

lifted_over : (level : Level) (k : ℕ) (f : FootprintOf) (r : Resource) → right_over f r ≤ right_over (lifted level k f) r
lifted_over level k f r =
    let e = lifted_is (λ s. holds s r) level k f in
    let m = greatest_mono rank_of (λ s. holds s r) (λ s. holds (moved level k f s) r) (entries f) (λ s h. holds_on (moved level k f s) s r (moved_over level k f s) h) in
    omega (arith, e, m)

lifted_under : (level : Level) (k : ℕ) (f : FootprintOf) (r : Resource) → right_under (lifted level k f) r ≤ right_under f r
lifted_under level k f r =
    let e = lifted_is (holds r) level k f in
    let m = greatest_mono rank_of (λ s. holds r (moved level k f s)) (holds r) (entries f) (λ s h. holds_on r (moved level k f s) s h (moved_over level k f s)) in
    omega (arith, e, m)

pub kept : (p : Resource × Right → Bool) (test : Resource → Bool) (es : List (Resource × Right)) (e : Resource × Right) → Contains es e → p e ≡ true → test e.0 ≡ true → rank_of e.1 ≤ greatest rank_of test (filter p es)
kept p test [] e h u t = absurd (omega (arith, h.1))
kept p test (x ∷ es) e (zero, l, is) u t =
    let same : x ≡ e = is in
    elim (p x) as (λ v. p x ≡ v → rank_of e.1 ≤ greatest rank_of test (cond v (x ∷ filter p es) (filter p es))) [
      | true ↦ λ on. has_greatest rank_of test (x ∷ filter p es) e (0, omega arith, is) t
      | false ↦ λ off. let w : false ≡ true = sym off ∙ ap p same ∙ u in absurd (cc)
    ] refl
kept p test (x ∷ es) e (suc k, l, is) u t =
    let h = kept p test es e (k, omega (arith, l), is) u t in
    elim (p x) as (λ v. rank_of e.1 ≤ greatest rank_of test (cond v (x ∷ filter p es) (filter p es))) [
      | true ↦ (let m = le-max_right (cond (test x.0) (rank_of x.1) 0) (greatest rank_of test (filter p es)) in omega (arith, h, m))
      | false ↦ h
    ]

pub filter_less : (p : Resource × Right → Bool) (test : Resource → Bool) (es : List (Resource × Right)) → greatest rank_of test (filter p es) ≤ greatest rank_of test es
filter_less p test [] = omega arith
filter_less p test (x ∷ es) =
    let h = filter_less p test es in
    elim (p x) as (λ v. greatest rank_of test (cond v (x ∷ filter p es) (filter p es)) ≤ greatest rank_of test (x ∷ es)) [
      | true ↦ omega (arith, h)
      | false ↦ omega (arith, h)
    ]

pub some_rank : (x : Right) → 0 < rank_of x
some_rank Read = omega arith
some_rank Write = omega arith

turned : (b : Bool) → not b ≡ false → b ≡ true
turned true h = refl
turned false h = absurd (cc)

below : (a b c : ℕ) → a ≡ b → a < c → b < c
below a b c e h = omega (arith, e, h)

-- an entry that isn't needed has one of at least its right on an ancestor
pub covered_above : (f : FootprintOf) (e : Resource × Right) → is_needed f e ≡ false
    → (d : Resource × Right) × Contains (entries f) d × (holds d.0 e.0 ≡ true) × (depth d.0 < depth e.0) × (rank_of e.1 ≤ rank_of d.1)
covered_above f e h =
    let test : Resource → Bool = λ r. is_at_least e.1 (get f r) in
    let a = some_ancestor test e.0 (turned (list_any test (ancestors_of e.0)) h) in
    let least = at_least_rank e.1 (get f a.0) a.3 in
    let here = right_on-entries f a.0 in
    let d = some_greatest rank_of (is_same a.0) (entries f) (rank_of e.1) (some_rank e.1) (omega (arith, least, here)) in
    let same : a.0 ≡ d.0.0 = same_resource a.0 d.0.0 d.2 in
    (d.0, d.1, ap (λ q. holds q e.0) (sym same) ∙ a.1, below (depth a.0) (depth d.0.0) (depth e.0) (ap depth same) a.2, d.3)

by_depth : (n : ℕ) (f : FootprintOf) (r : Resource) (e : Resource × Right) → Contains (entries f) e → holds e.0 r ≡ true → depth e.0 < n → rank_of e.1 ≤ greatest rank_of (λ s. holds s r) (filter (is_needed f) (entries f))
by_depth zero f r e k h l = absurd (omega (arith, l))
by_depth (suc n) f r e k h l = elim (is_needed f e) as (λ v. is_needed f e ≡ v → rank_of e.1 ≤ greatest rank_of (λ s. holds s r) (filter (is_needed f) (entries f))) [
  | true ↦ λ on. kept (is_needed f) (λ s. holds s r) (entries f) e k on h
  | false ↦ λ off.
      let d = covered_above f e off in
      let i = by_depth n f r d.0 d.1 (holds_on d.0.0 e.0 r d.2 h) (let q = d.3 in omega (arith, q, l)) in
      let w = d.4 in
      omega (arith, i, w)
] refl

needed_over : (f : FootprintOf) (r : Resource) → right_over f r ≤ right_over (needed f) r
needed_over f r =
    let g = greatest_gathered (λ s. holds s r) (filter (is_needed f) (entries f)) in
    let m = greatest_least rank_of (λ s. holds s r) (entries f) _ (λ e k t. by_depth (suc (depth e.0)) f r e k t (omega arith)) in
    omega (arith, g, m)

needed_under : (f : FootprintOf) (r : Resource) → right_under (needed f) r ≤ right_under f r
needed_under f r =
    let g = greatest_gathered (holds r) (filter (is_needed f) (entries f)) in
    let m = filter_less (is_needed f) (holds r) (entries f) in
    omega (arith, g, m)

-- what the footprint covers, the coarsened one does
pub coarsened_over : (k : ℕ) (f : FootprintOf) (r : Resource) → right_over f r ≤ right_over (coarsened k f) r
coarsened_over k f r =
    let a = needed_over f r in
    let b = lifted_over Rows k (needed f) r in
    let c = lifted_over Partitions k (lifted Rows k (needed f)) r in
    let d = needed_over (lifted Partitions k (lifted Rows k (needed f))) r in
    omega (arith, a, b, c, d)

-- where the coarsened footprint has something under a resource, the footprint has
pub coarsened_under : (k : ℕ) (f : FootprintOf) (r : Resource) → right_under (coarsened k f) r ≤ right_under f r
coarsened_under k f r =
    let a = needed_under f r in
    let b = lifted_under Rows k (needed f) r in
    let c = lifted_under Partitions k (lifted Rows k (needed f)) r in
    let d = needed_under (lifted Partitions k (lifted Rows k (needed f))) r in
    omega (arith, a, b, c, d)

-- the same for one entry on the database
database_is : (test : Resource → Bool) (f : FootprintOf) → greatest rank_of test (entries (on_database f)) ≡ greatest rank_of (λ s. test Db) (entries f)
database_is test f = greatest_gathered test _ ∙ greatest_map test (λ s. Db) (entries f)

pub database_over : (f : FootprintOf) (r : Resource) → right_over f r ≤ right_over (on_database f) r
database_over f r =
    let e = database_is (λ s. holds s r) f in
    let m = greatest_mono rank_of (λ s. holds s r) (λ s. true) (entries f) (λ s h. refl) in
    omega (arith, e, m)

pub database_under : (f : FootprintOf) (r : Resource) → right_under (on_database f) r ≤ right_under f r
database_under f Db =
    let e = database_is (holds Db) f in
    omega (arith, e)
database_under f (Table t a) =
    let e = database_is (holds (Table t a)) f in
    let none = greatest_least rank_of (λ s. false) (entries f) 0 (λ d k h. absurd (cc)) in
    omega (arith, e, none)

-- and there is nothing but on the database
pub database_alone : (f : FootprintOf) (r : Resource) → 0 < right_under (on_database f) r → r ≡ Db
database_alone f Db h = refl
database_alone f (Table t a) h =
    let e = database_is (holds (Table t a)) f in
    let none = greatest_least rank_of (λ s. false) (entries f) 0 (λ d k t. absurd (cc)) in
    absurd (omega (arith, e, none, h))

-- what a footprint covers, by its entries
pub covers_over : (f : FootprintOf) (r : Resource) (x : Right) → covers f r x ≡ true → rank_of x ≤ right_over f r
covers_over f r x h =
    let a = some_over (λ q. is_at_least x (get f q)) r h in
    let least = at_least_rank x (get f a.0) a.2 in
    let here = right_on-entries f a.0 in
    let m = greatest_mono rank_of (is_same a.0) (λ s. holds s r) (entries f) (λ s i. holds_on s a.0 r (both (holds a.0 s) (holds s a.0) i).1 a.1) in
    omega (arith, least, here, m)
