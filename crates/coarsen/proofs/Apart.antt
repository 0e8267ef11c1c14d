-- Footprints that coarsening leaves as they are.
use Rattle.std.proofs.Common.{◌≡◌, T, ℕ, ◌<◌, ◌≤◌, ◌&&◌, ◌==◌, not, Bool, true, false, cond, List, [], ◌∷◌, length, refl, sym, ap, ◌∙◌, subst, arith, Option, Some, None, Ordering, Less, Equal, Greater, ◌⊎◌, inl, inr}
use Rattle.std.proofs.lemmas.Bool.Decides.{nat_tests}
use Rattle.std.proofs.lemmas.Cmp.{ranked}
use Rattle.std.specs.List.{Contains, list_any}
use Rattle.std.specs.Ordering.{nat_cmp, ordering_then}
use Rattle.std.specs.FinMap.{entries, entries_sorted, get, same_map}
use Rattle.std.specs.FinMap.Entries.{is_sorted, below_all}
use Rattle.proclang_types.specs.declared.right.Right.{Right}
use Rattle.footprint.specs.declared.resource.InPart.{InPart}
use Rattle.footprint.specs.declared.resource.InPart.TheVariants.{WholePart, Row}
use Rattle.footprint.specs.declared.resource.InTable.{InTable}
use Rattle.footprint.specs.declared.resource.InTable.TheVariants.{WholeTable, Part}
use Rattle.footprint.specs.declared.resource.Resource.{Resource}
use Rattle.footprint.specs.declared.resource.Resource.TheVariants.{Db, Table}
use Rattle.footprint.specs.contracts.resource.InPartOrd.TheImpl as in_part
use Rattle.footprint.specs.contracts.resource.InTableOrd.TheImpl as in_table
use Rattle.footprint.specs.Tree.{resource_cmp, ancestors_of}
use Rattle.footprint.specs.Rights.{FootprintOf, is_at_least}
use Rattle.footprint.proofs.Resources.{resources_total, exact_resources}
use Rattle.modes.specs.Rights.{rank_of, rank}
use Rattle.coarsen.specs.declared.level.Level.{Level}
use Rattle.coarsen.specs.declared.level.Level.TheVariants.{Rows, Partitions}
use Rattle.coarsen.specs.Subtrees.{holds, holds_in_table, holds_in_part, is_same, right_on}
use Rattle.coarsen.specs.Coarsening.{is_needed, needed, lifted, coarsened, children}
use Rattle.coarsen.proofs.Tree.{both, and}
use Rattle.coarsen.proofs.Greatest.{some_greatest, first_or_later, first_test, second_test}
use Rattle.coarsen.proofs.Parents.{depth}
use Rattle.coarsen.proofs.Entries.{less_than_member, right_on-entries}
use Rattle.coarsen.proofs.Counts.{count_within}
use Rattle.coarsen.proofs.Covered.{covered_above, some_rank}
use Rattle.coarsen.proofs.CoarseningLaws.{drops_covered, same_entry}
use Rattle.coarsen.proofs.Coarsened.{same_right, lifted_same}

-- ---- tree order

-- what comes first decides, or else what comes second
by_first : (m n : ℕ) (o : Ordering) → ordering_then (nat_cmp m n) o ≡ Less → (m < n) ⊎ ((m ≡ n) × (o ≡ Less))
by_first m n o h = elim (nat_cmp m n) as (λ v. nat_cmp m n ≡ v → ordering_then v o ≡ Less → (m < n) ⊎ ((m ≡ n) × (o ≡ Less))) [
  | Less ↦ λ is t. inl (ranked m n Less (sym is))
  | Equal ↦ λ is t. inr (ranked m n Equal (sym is), t)
  | Greater ↦ λ is t. absurd (cc)
] refl h

-- what is over a resource doesn't come after it
holder_not_after_in_part : (a b : InPart) → holds_in_part a b ≡ true → in_part.ghosts.cmp b a ≡ Less → ⊥
holder_not_after_in_part WholePart WholePart h l = absurd (cc)
holder_not_after_in_part WholePart (Row y) h l = absurd (cc)
holder_not_after_in_part (Row x) WholePart h l = absurd (cc)
holder_not_after_in_part (Row x) (Row y) h l = let less = ranked y x Less (sym l) in let e : x ≡ y = grind (arith, nat_tests) in absurd (omega (arith, less, e))

holder_not_after_in_table : (a b : InTable) → holds_in_table a b ≡ true → in_table.ghosts.cmp b a ≡ Less → ⊥
holder_not_after_in_table WholeTable WholeTable h l = absurd (cc)
holder_not_after_in_table WholeTable (Part q b) h l = absurd (cc)
holder_not_after_in_table (Part p a) WholeTable h l = absurd (cc)
holder_not_after_in_table (Part p a) (Part q b) h l =
    let x = both (p == q) (holds_in_part a b) h in
    let e : p ≡ q = grind (arith, nat_tests) in
    elim (by_first q p (in_part.ghosts.cmp b a) l) [
      | inl less ↦ absurd (omega (arith, less, e))
      | inr k ↦ holder_not_after_in_part a b x.1 k.1
    ]

holder_not_after : (a b : Resource) → holds a b ≡ true → resource_cmp b a ≡ Less → ⊥
holder_not_after Db Db h l = absurd (cc)
holder_not_after Db (Table u b) h l = absurd (cc)
holder_not_after (Table t a) Db h l = absurd (cc)
holder_not_after (Table t a) (Table u b) h l =
    let x = both (t == u) (holds_in_table a b) h in
    let e : t ≡ u = grind (arith, nat_tests) in
    elim (by_first u t (in_table.ghosts.cmp b a) l) [
      | inl less ↦ absurd (omega (arith, less, e))
      | inr k ↦ holder_not_after_in_table a b x.1 k.1
    ]

-- what comes between a resource and one under it is under it
between_in_part : (a b c : InPart) → holds_in_part a c ≡ true → in_part.ghosts.cmp a b ≡ Less → in_part.ghosts.cmp b c ≡ Less → holds_in_part a b ≡ true
between_in_part WholePart b c h l m = refl
between_in_part (Row x) WholePart c h l m = absurd (cc)
between_in_part (Row x) (Row y) WholePart h l m = absurd (cc)
between_in_part (Row x) (Row y) (Row z) h l m =
    let less = ranked x y Less (sym l) in
    let more = ranked y z Less (sym m) in
    let e : x ≡ z = grind (arith, nat_tests) in
    absurd (omega (arith, less, more, e))

between_in_table : (a b c : InTable) → holds_in_table a c ≡ true → in_table.ghosts.cmp a b ≡ Less → in_table.ghosts.cmp b c ≡ Less → holds_in_table a b ≡ true
between_in_table WholeTable b c h l m = refl
between_in_table (Part p a) WholeTable c h l m = absurd (cc)
between_in_table (Part p a) (Part q b) WholeTable h l m = absurd (cc)
between_in_table (Part p a) (Part q b) (Part r c) h l m =
    let x = both (p == r) (holds_in_part a c) h in
    let e : p ≡ r = grind (arith, nat_tests) in
    elim (by_first p q (in_part.ghosts.cmp a b) l) [
      | inl less ↦ elim (by_first q r (in_part.ghosts.cmp b c) m) [
        | inl more ↦ absurd (omega (arith, less, more, e))
        | inr k ↦ absurd (let s = k.0 in omega (arith, less, s, e))
      ]
      | inr j ↦ elim (by_first q r (in_part.ghosts.cmp b c) m) [
        | inl more ↦ absurd (let s = j.0 in omega (arith, more, s, e))
        | inr k ↦ and (p == q) (holds_in_part a b) (let s = j.0 in grind (arith, nat_tests)) (between_in_part a b c x.1 j.1 k.1)
      ]
    ]

between : (a b c : Resource) → holds a c ≡ true → resource_cmp a b ≡ Less → resource_cmp b c ≡ Less → holds a b ≡ true
between Db b c h l m = refl
between (Table t a) Db c h l m = absurd (cc)
between (Table t a) (Table u b) Db h l m = absurd (cc)
between (Table t a) (Table u b) (Table v c) h l m =
    let x = both (t == v) (holds_in_table a c) h in
    let e : t ≡ v = grind (arith, nat_tests) in
    elim (by_first t u (in_table.ghosts.cmp a b) l) [
      | inl less ↦ elim (by_first u v (in_table.ghosts.cmp b c) m) [
        | inl more ↦ absurd (omega (arith, less, more, e))
        | inr k ↦ absurd (let s = k.0 in omega (arith, less, s, e))
      ]
      | inr j ↦ elim (by_first u v (in_table.ghosts.cmp b c) m) [
        | inl more ↦ absurd (let s = j.0 in omega (arith, more, s, e))
        | inr k ↦ and (t == u) (holds_in_table a b) (let s = j.0 in grind (arith, nat_tests)) (between_in_table a b c x.1 j.1 k.1)
      ]
    ]

-- ---- entries that stand apart

-- a resource, if there is one, isn't over another
abbrev pub is_off : Option Resource → Resource → Bool
is_off None r = true
is_off (Some a) r = not (holds a r)

-- no entry is over the next one, nor is the last one before them over the first
abbrev pub apart : Option Resource → List (Resource × Right) → Bool
apart last [] = true
apart last (e ∷ es) = is_off last e.0 && apart (Some e.0) es

off : (b : Bool) → not b ≡ true → b ≡ true → ⊥
off true h k = absurd (cc)
off false h k = absurd (cc)

-- then an entry is over none of those after it
over_none : (r : Resource) (es : List (Resource × Right)) (e : Resource × Right) → T (below_all resource_cmp r es) → T (is_sorted resource_cmp es) → apart (Some r) es ≡ true
    → Contains es e → holds r e.0 ≡ true → ⊥
over_none r [] e b s h k t = absurd (let l = k.1 in omega (arith, l))
over_none r (x ∷ es) e b s h k t =
    let free = (both (not (holds r x.0)) (apart (Some x.0) es) h).0 in
    elim (first_or_later x es e k) [
      | inl same ↦ off (holds r x.0) free (ap (λ (y : Resource × Right). holds r y.0) same ∙ t)
      | inr l ↦ off (holds r x.0) free (between r x.0 e.0 t
          (less_than_member r (x ∷ es) x b (0, omega arith, refl))
          (less_than_member x.0 es e (first_test (below_all resource_cmp x.0 es) (is_sorted resource_cmp es) s) l))
    ]

-- and over no other at all
apart_all : (last : Option Resource) (es : List (Resource × Right)) (d e : Resource × Right) → T (is_sorted resource_cmp es) → apart last es ≡ true
    → Contains es d → Contains es e → holds d.0 e.0 ≡ true → d.0 ≡ e.0
apart_all last [] d e s h i j t = absurd (let l = i.1 in omega (arith, l))
apart_all last (x ∷ es) d e s h i j t =
    let rest = (both (is_off last x.0) (apart (Some x.0) es) h).1 in
    let below = first_test (below_all resource_cmp x.0 es) (is_sorted resource_cmp es) s in
    let sorted = second_test (below_all resource_cmp x.0 es) (is_sorted resource_cmp es) s in
    elim (first_or_later x es d i) [
      | inl first ↦ elim (first_or_later x es e j) [
        | inl same ↦ ap (λ (y : Resource × Right). y.0) (sym first ∙ same)
        | inr l ↦ absurd (over_none x.0 es e below sorted rest l (ap (λ (y : Resource × Right). holds y.0 e.0) first ∙ t))
      ]
      | inr k ↦ elim (first_or_later x es e j) [
        | inl same ↦ absurd (holder_not_after d.0 e.0 t (ap (λ (y : Resource × Right). resource_cmp y.0 d.0) (sym same) ∙ less_than_member x.0 es d below k))
        | inr l ↦ apart_all (Some x.0) es d e sorted rest k l t
      ]
    ]

-- ---- steps that change nothing

-- footprints with the same rights are one
one_footprint : (f g : FootprintOf) → ((r : Resource) → right_on f r ≡ right_on g r) → f ≡ g
one_footprint f g h = same_map resources_total exact_resources f g (λ r. same_right (get f r) (get g r) (h r))

-- what is found at a resource is an entry
member : (f : FootprintOf) (r : Resource) (x : Right) → get f r ≡ Some x → Contains (entries f) (r, x)
member f r x e =
    let was = right_on-entries f r in
    let is : right_on f r ≡ rank_of x = ap rank e in
    let d = some_greatest rank_of (is_same r) (entries f) (rank_of x) (some_rank x) (omega (arith, was, is)) in
    subst (Contains (entries f)) (same_entry f r x d.0 e d.1 d.2) d.1

-- where entries stand apart, none is covered
all_needed_by : (f : FootprintOf) → apart None (entries f) ≡ true → (e : Resource × Right) → Contains (entries f) e → (b : Bool) → is_needed f e ≡ b → b ≡ true
all_needed_by f h e k true is = refl
all_needed_by f h e k false is =
    let d = covered_above f e is in
    let same = apart_all None (entries f) d.0 e (entries_sorted f) h d.1 k d.2 in
    let less = d.3 in
    let tie = ap depth same in
    absurd (omega (arith, less, tie))

turned : (b : Bool) → not b ≡ true → b ≡ false
turned true h = absurd (cc)
turned false h = refl

same_needed : (f : FootprintOf) → apart None (entries f) ≡ true → (r : Resource) (o : Option Right) → get f r ≡ o → right_on (needed f) r ≡ right_on f r
same_needed f h r None e = drops_covered.none f r e ∙ sym (ap rank e)
same_needed f h r (Some x) e =
    let free = turned (list_any (λ a. is_at_least x (get f a)) (ancestors_of r)) (all_needed_by f h (r, x) (member f r x e) (is_needed f (r, x)) refl) in
    drops_covered.entry f r x e ∙ ap (λ b. cond b 0 (rank_of x)) free ∙ sym (ap rank e)

pub apart_needed : (f : FootprintOf) → apart None (entries f) ≡ true → needed f ≡ f
apart_needed f h = one_footprint (needed f) f (λ r. same_needed f h r (get f r) refl)

-- where no resource has many entries of a level as its children, none goes to its parent
pub few_lifted : (level : Level) (k : ℕ) (f : FootprintOf) → ((q : Resource) → children level f q ≤ k) → lifted level k f ≡ f
few_lifted level k f few = one_footprint (lifted level k f) f (lifted_same level k f few)

few_in_all : (level : Level) (k : ℕ) (f : FootprintOf) → length (entries f) ≤ k → lifted level k f ≡ f
few_in_all level k f few = few_lifted level k f (λ q. let c = count_within level (entries f) q in omega (arith, c, few))

-- a footprint whose entries all are needed, and that are few, is coarse
pub coarse_already : (k : ℕ) (f : FootprintOf) → needed f ≡ f → length (entries f) ≤ k → coarsened k f ≡ f
coarse_already k f all few =
    ap (λ (g : FootprintOf). needed (lifted Partitions k (lifted Rows k g))) all
    ∙ ap (λ (g : FootprintOf). needed (lifted Partitions k g)) (few_in_all Rows k f few)
    ∙ ap (λ (g : FootprintOf). needed g) (few_in_all Partitions k f few)
    ∙ all
