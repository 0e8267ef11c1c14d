-- What a plan of a footprint promises.
use Rattle.std.proofs.Common.{◌≡◌, ℕ, ◌<◌, ◌≤◌, nat_le, true, List, [], ◌∷◌, length, refl, sym, ap, ◌∙◌, subst, arith, Option, Some, None, IsSome, Less, Equal}
use Rattle.std.proofs.lemmas.Bool.Decides.{nat_tests}
use Rattle.std.specs.List.{Contains}
use Rattle.std.specs.List.Sorted.{IsStrictlySortedBy}
use Rattle.std.specs.FinMap.{entries, get, empty}
use Rattle.catalogue.specs.Shapes.{TableShape}
use Rattle.catalogue.specs.Rules.{IsCatalogue}
use Rattle.proclang_types.specs.declared.right.Right.{Right}
use Rattle.footprint.specs.declared.resource.Resource.{Resource}
use Rattle.footprint.specs.declared.resource.Resource.TheVariants.{Db}
use Rattle.footprint.specs.Tree.{resource_cmp}
use Rattle.footprint.specs.Rights.{FootprintOf, covers}
use Rattle.footprint.specs.OfCatalogue.{IsFootprintOf}
use Rattle.modes.specs.declared.mode.Mode.{Mode}
use Rattle.modes.specs.declared.mode.Mode.TheVariants.{IntentionShared, IntentionExclusive, Shared, SharedIntentionExclusive, Exclusive}
use Rattle.modes.specs.Rights.{rank_of, rank}
use Rattle.modes.specs.Modes.{own, subtree}
use Rattle.coarsen.specs.Subtrees.{Requests, holds, is_same, greatest, right_under, own_over, covers_by_requests}
use Rattle.coarsen.specs.Coarsening.{coarsened, on_database}
use Rattle.coarsen.specs.Plans.{IsPlanOf, IsWellFormed, KeepsProtocol, IsBacked, IsPlanOver, serves}
use Rattle.coarsen.proofs.Tree.{holds_on, same_resource, is_same_itself}
use Rattle.coarsen.proofs.Greatest.{has_greatest, some_greatest, greatest_mono, any_test}
use Rattle.coarsen.proofs.Entries.{nothing, entries-empty, right_on-entries}
use Rattle.coarsen.proofs.Covered.{right_over, some_rank, covers_over, coarsened_over, coarsened_under, database_over, database_under, database_alone}
use Rattle.coarsen.proofs.OfTables.{of_over}

pub subtree_some : (m : Mode) → 0 < subtree m
subtree_some IntentionShared = omega arith
subtree_some IntentionExclusive = omega arith
subtree_some Shared = omega arith
subtree_some SharedIntentionExclusive = omega arith
subtree_some Exclusive = omega arith

-- ---- cover

-- what a footprint covers, its plan does, and nothing else
pub plan_over : (f : FootprintOf) (plan : Requests) → IsPlanOf f plan → (r : Resource) → own_over plan r ≡ right_over f r
plan_over f plan is r =
    let low = any_test own rank_of plan (entries f) (λ q. let o = is.owns q in let k = right_on-entries f q in omega (arith, o, k)) (λ s. holds s r) in
    let high = any_test rank_of own (entries f) plan (λ q. let o = is.owns q in let k = right_on-entries f q in omega (arith, o, k)) (λ s. holds s r) in
    omega (arith, low, high)

at_least : (n m : ℕ) → n ≤ m → nat_le n m ≡ true
at_least n m h = grind (arith, nat_tests, h)

pub covers_full : (k : ℕ) (f : FootprintOf) (plan : Requests) → IsPlanOf (coarsened k f) plan
    → (r : Resource) (x : Right) → covers f r x ≡ true → covers_by_requests plan r x ≡ true
covers_full k f plan is r x h =
    let a = covers_over f r x h in
    let b = coarsened_over k f r in
    let c = plan_over (coarsened k f) plan is r in
    at_least (rank_of x) (own_over plan r) (omega (arith, a, b, c))

pub covers_whole : (k : ℕ) (f : FootprintOf) (plan : Requests) → IsPlanOf (on_database (coarsened k f)) plan
    → (r : Resource) (x : Right) → covers f r x ≡ true → covers_by_requests plan r x ≡ true
covers_whole k f plan is r x h =
    let a = covers_over f r x h in
    let b = coarsened_over k f r in
    let d = database_over (coarsened k f) r in
    let c = plan_over (on_database (coarsened k f)) plan is r in
    at_least (rank_of x) (own_over plan r) (omega (arith, a, b, c, d))

-- ---- protocol

serving : (n m : Mode) → subtree m ≤ subtree n → serves n m ≡ true
serving n IntentionShared h = refl
serving n Shared h = refl
serving IntentionExclusive IntentionExclusive h = refl
serving IntentionExclusive SharedIntentionExclusive h = refl
serving IntentionExclusive Exclusive h = refl
serving SharedIntentionExclusive IntentionExclusive h = refl
serving SharedIntentionExclusive SharedIntentionExclusive h = refl
serving SharedIntentionExclusive Exclusive h = refl
serving Exclusive IntentionExclusive h = refl
serving Exclusive SharedIntentionExclusive h = refl
serving Exclusive Exclusive h = refl
serving IntentionShared IntentionExclusive h = absurd (omega (arith, h))
serving IntentionShared SharedIntentionExclusive h = absurd (omega (arith, h))
serving IntentionShared Exclusive h = absurd (omega (arith, h))
serving Shared IntentionExclusive h = absurd (omega (arith, h))
serving Shared SharedIntentionExclusive h = absurd (omega (arith, h))
serving Shared Exclusive h = absurd (omega (arith, h))

-- the footprint has an entry under each request, at least as great as the request's subtree right
under_request : (f : FootprintOf) (plan : Requests) → IsPlanOf f plan → (e : Resource × Mode) → Contains plan e → subtree e.1 ≤ right_under f e.0
under_request f plan is e k =
    let x = has_greatest subtree (is_same e.0) plan e k (is_same_itself e.0) in
    let y = is.subtrees e.0 in
    omega (arith, x, y)

protocol_of : (f : FootprintOf) (plan : Requests) → IsPlanOf f plan → KeepsProtocol plan
protocol_of f plan is a r m h k =
    let x = under_request f plan is (r, m) k in
    let z = is.subtrees a in
    let w = greatest_mono rank_of (holds r) (holds a) (entries f) (λ s t. holds_on a r s h t) in
    let g = some_greatest subtree (is_same a) plan (subtree m) (subtree_some m) (omega (arith, x, z, w)) in
    let same : (a, g.0.1) ≡ g.0 = ap (λ (q : Resource). (q, g.0.1)) (same_resource a g.0.0 g.2) in
    (g.0.1, subst (Contains plan) (sym same) g.1, serving g.0.1 m g.3)

backed_of : (f : FootprintOf) (plan : Requests) → IsPlanOf f plan → IsBacked plan
backed_of f plan is e k =
    let x = under_request f plan is e k in
    let d = some_greatest rank_of (holds e.0) (entries f) (subtree e.1) (subtree_some e.1) x in
    let on = has_greatest rank_of (is_same d.0.0) (entries f) d.0 d.1 (is_same_itself d.0.0) in
    let here = right_on-entries f d.0.0 in
    let o = is.owns d.0.0 in
    let more = d.3 in
    let g = some_greatest own (is_same d.0.0) plan (subtree e.1) (subtree_some e.1) (omega (arith, on, here, o, more)) in
    (g.0, g.1, ap (λ q. holds e.0 q) (sym (same_resource d.0.0 g.0.0 g.2)) ∙ d.2, g.3)

-- the plan of a footprint is sound
pub sound_of : (f : FootprintOf) (plan : Requests) → IsPlanOf f plan → IsWellFormed plan
sound_of f plan is = record { ordered = is.ordered; protocol = protocol_of f plan is; backed = backed_of f plan is }

-- ---- resources of a catalogue

some_of_rank : (o : Option Right) → 0 < rank o → IsSome o
some_of_rank None h = absurd (omega (arith, h))
some_of_rank (Some x) h = refl

over_under : (tables : List TableShape) → IsCatalogue tables → (f : FootprintOf) (plan : Requests) → IsFootprintOf tables f
    → ((e : Resource × Mode) → Contains plan e → 0 < right_under f e.0) → IsPlanOver tables plan
over_under tables is f plan of some e k =
    let d = some_greatest rank_of (holds e.0) (entries f) 1 (omega arith) (let s = some e k in omega (arith, s)) in
    let on = has_greatest rank_of (is_same d.0.0) (entries f) d.0 d.1 (is_same_itself d.0.0) in
    let here = right_on-entries f d.0.0 in
    let more = some_rank d.0.1 in
    of_over tables is e.0 d.0.0 d.2 (of d.0.0 (some_of_rank (get f d.0.0) (omega (arith, on, here, more))))

pub over_full : (k : ℕ) (f : FootprintOf) (plan : Requests) → IsPlanOf (coarsened k f) plan
    → (tables : List TableShape) → IsCatalogue tables → IsFootprintOf tables f → IsPlanOver tables plan
over_full k f plan is tables cat of = over_under tables cat f plan of (λ e m.
    let x = under_request (coarsened k f) plan is e m in
    let s = subtree_some e.1 in
    let u = coarsened_under k f e.0 in
    omega (arith, x, s, u))

pub over_whole : (k : ℕ) (f : FootprintOf) (plan : Requests) → IsPlanOf (on_database (coarsened k f)) plan
    → (tables : List TableShape) → IsCatalogue tables → IsFootprintOf tables f → IsPlanOver tables plan
over_whole k f plan is tables cat of = over_under tables cat f plan of (λ e m.
    let x = under_request (on_database (coarsened k f)) plan is e m in
    let s = subtree_some e.1 in
    let d = database_under (coarsened k f) e.0 in
    let u = coarsened_under k f e.0 in
    omega (arith, x, s, u, d))

-- ---- how many requests

no_request : (f : FootprintOf) (plan : Requests) → IsPlanOf f plan → ((r : Resource) → right_under f r ≡ 0) → plan ≡ []
no_request f [] is none = refl
no_request f (e ∷ plan) is none =
    let x = under_request f (e ∷ plan) is e (0, omega arith, refl) in
    let s = subtree_some e.1 in
    let n = none e.0 in
    absurd (omega (arith, x, s, n))

nothing_under : (r : Resource) → right_under nothing r ≡ 0
nothing_under r = ap (greatest rank_of (holds r)) entries-empty

pub none_full : (k : ℕ) (f : FootprintOf) (plan : Requests) → IsPlanOf (coarsened k f) plan → f ≡ empty → plan ≡ []
none_full k f plan is e = no_request (coarsened k f) plan is (λ r.
    let u = coarsened_under k f r in
    let n : right_under f r ≡ 0 = ap (λ (g : FootprintOf). right_under g r) e ∙ nothing_under r in
    omega (arith, u, n))

pub none_whole : (k : ℕ) (f : FootprintOf) (plan : Requests) → IsPlanOf (on_database (coarsened k f)) plan → f ≡ empty → plan ≡ []
none_whole k f plan is e = no_request (on_database (coarsened k f)) plan is (λ r.
    let u = coarsened_under k f r in
    let d = database_under (coarsened k f) r in
    let n : right_under f r ≡ 0 = ap (λ (g : FootprintOf). right_under g r) e ∙ nothing_under r in
    omega (arith, u, n, d))

at_database : (f : FootprintOf) (plan : Requests) → IsPlanOf (on_database f) plan → (e : Resource × Mode) → Contains plan e → e.0 ≡ Db
at_database f plan is e k =
    let x = under_request (on_database f) plan is e k in
    let s = subtree_some e.1 in
    database_alone f e.0 (omega (arith, x, s))

pub whole_length : (f : FootprintOf) (plan : Requests) → IsPlanOf (on_database f) plan → length plan ≤ 1
unfolding IsStrictlySortedBy
whole_length f [] is = omega arith
whole_length f (e ∷ []) is = omega arith
whole_length f (e ∷ d ∷ plan) is =
    let a = at_database f (e ∷ d ∷ plan) is e (0, omega arith, refl) in
    let b = at_database f (e ∷ d ∷ plan) is d (1, omega arith, refl) in
    let o : resource_cmp e.0 d.0 ≡ Less = is.ordered.0.0 in
    let w : Equal ≡ Less = sym (ap (λ q. resource_cmp q d.0) a ∙ ap (λ q. resource_cmp Db q) b) ∙ o in
    absurd (cc)
