-- The plan for a footprint, put together, is the one plan for it, and serves it.
use Rattle.std.proofs.Common.{◌≡◌, ℕ, ◌≤◌, ◌<◌, Bool, true, false, nat_le, cond, max, List, [], ◌∷◌, length, Ordering, Less, Equal, Greater, Some, refl, sym, ap, ◌∙◌, subst, arith, inl, inr}
use Rattle.std.specs.List.{AllByRecursion}
use Rattle.std.specs.List.Sorted.{IsStrictlySortedBy}
use Rattle.std.specs.Map.{keys_of}
use Rattle.std.specs.FinMap.{entries}
use Rattle.std.specs.Ordering.{ordering_reverse}
use Rattle.std.proofs.lemmas.Bool.{cases_lt}
use Rattle.std.proofs.lemmas.Bool.Decides.{nat_tests}
use Rattle.proclang_types.specs.declared.right.Right.{Right}
use Rattle.proclang_types.specs.declared.right.Right.TheVariants.{Read, Write}
use Rattle.footprint.specs.declared.resource.InPart.TheVariants.{WholePart, Row}
use Rattle.footprint.specs.declared.resource.InTable.TheVariants.{WholeTable, Part}
use Rattle.footprint.specs.declared.resource.Resource.{Resource}
use Rattle.footprint.specs.declared.resource.Resource.TheVariants.{Db, Table}
use Rattle.footprint.specs.Tree.{resource_cmp, parent_of}
use Rattle.footprint.specs.Rights.{FootprintOf}
use Rattle.footprint.proofs.Resources.{resources_total, exact_resources}
use Rattle.footprint.specs.InTreeOrder.{IsInTreeOrder}
use Rattle.modes.specs.declared.mode.Mode.{Mode}
use Rattle.modes.specs.declared.mode.Mode.TheVariants.{IntentionShared, IntentionExclusive, Shared, SharedIntentionExclusive, Exclusive}
use Rattle.modes.specs.Modes.{own, subtree}
use Rattle.modes.specs.Rights.{rank_of}
use Rattle.coarsen.specs.Subtrees.{Requests, greatest, is_same, holds, own_on, subtree_on}
use Rattle.coarsen.specs.Coarsening.{coarsened, on_database}
use Rattle.coarsen.specs.Plans.{IsPlanOf, IsPlanFor}
use Rattle.coarsen.specs.ThePlan.{joined, intention, whole, at_head, request, on_table, on_part, request_up, requests_for, plan_of, plan_for}
use Rattle.coarsen.specs.Laws.{PlanIsOne, PlansServe}
use Rattle.coarsen.proofs.Greatest.{raise, max_on}
use Rattle.coarsen.proofs.Requesting.{over_both, over_one, own_both}
use Rattle.coarsen.proofs.Entries.{right_on-entries}
use Rattle.coarsen.proofs.Planning.{covers_full, covers_whole, over_full, over_whole, whole_length, sound_of}
use Rattle.coarsen.proofs.PlanLaws.{plans_exact}

-- ---- modes

own_joined : (a b : Mode) → own (joined a b) ≡ max (own a) (own b)
own_joined IntentionShared IntentionShared = refl
own_joined IntentionShared IntentionExclusive = refl
own_joined IntentionShared Shared = refl
own_joined IntentionShared SharedIntentionExclusive = refl
own_joined IntentionShared Exclusive = refl
own_joined IntentionExclusive IntentionShared = refl
own_joined IntentionExclusive IntentionExclusive = refl
own_joined IntentionExclusive Shared = refl
own_joined IntentionExclusive SharedIntentionExclusive = refl
own_joined IntentionExclusive Exclusive = refl
own_joined Shared IntentionShared = refl
own_joined Shared IntentionExclusive = refl
own_joined Shared Shared = refl
own_joined Shared SharedIntentionExclusive = refl
own_joined Shared Exclusive = refl
own_joined SharedIntentionExclusive IntentionShared = refl
own_joined SharedIntentionExclusive IntentionExclusive = refl
own_joined SharedIntentionExclusive Shared = refl
own_joined SharedIntentionExclusive SharedIntentionExclusive = refl
own_joined SharedIntentionExclusive Exclusive = refl
own_joined Exclusive IntentionShared = refl
own_joined Exclusive IntentionExclusive = refl
own_joined Exclusive Shared = refl
own_joined Exclusive SharedIntentionExclusive = refl
own_joined Exclusive Exclusive = refl

subtree_joined : (a b : Mode) → subtree (joined a b) ≡ max (subtree a) (subtree b)
subtree_joined IntentionShared IntentionShared = refl
subtree_joined IntentionShared IntentionExclusive = refl
subtree_joined IntentionShared Shared = refl
subtree_joined IntentionShared SharedIntentionExclusive = refl
subtree_joined IntentionShared Exclusive = refl
subtree_joined IntentionExclusive IntentionShared = refl
subtree_joined IntentionExclusive IntentionExclusive = refl
subtree_joined IntentionExclusive Shared = refl
subtree_joined IntentionExclusive SharedIntentionExclusive = refl
subtree_joined IntentionExclusive Exclusive = refl
subtree_joined Shared IntentionShared = refl
subtree_joined Shared IntentionExclusive = refl
subtree_joined Shared Shared = refl
subtree_joined Shared SharedIntentionExclusive = refl
subtree_joined Shared Exclusive = refl
subtree_joined SharedIntentionExclusive IntentionShared = refl
subtree_joined SharedIntentionExclusive IntentionExclusive = refl
subtree_joined SharedIntentionExclusive Shared = refl
subtree_joined SharedIntentionExclusive SharedIntentionExclusive = refl
subtree_joined SharedIntentionExclusive Exclusive = refl
subtree_joined Exclusive IntentionShared = refl
subtree_joined Exclusive IntentionExclusive = refl
subtree_joined Exclusive Shared = refl
subtree_joined Exclusive SharedIntentionExclusive = refl
subtree_joined Exclusive Exclusive = refl

own_intention : (m : Mode) → own (intention m) ≡ 0
own_intention IntentionShared = refl
own_intention IntentionExclusive = refl
own_intention Shared = refl
own_intention SharedIntentionExclusive = refl
own_intention Exclusive = refl

subtree_intention : (m : Mode) → subtree (intention m) ≡ subtree m
subtree_intention IntentionShared = refl
subtree_intention IntentionExclusive = refl
subtree_intention Shared = refl
subtree_intention SharedIntentionExclusive = refl
subtree_intention Exclusive = refl

own_whole : (x : Right) → own (whole x) ≡ rank_of x
own_whole Read = refl
own_whole Write = refl

subtree_whole : (x : Right) → subtree (whole x) ≡ rank_of x
subtree_whole Read = refl
subtree_whole Write = refl

-- ---- one request

turned : (a b : ℕ) → max a b ≡ max b a
turned a b = omega arith

module _ (f : Mode → ℕ) (joins : (a b : Mode) → f (joined a b) ≡ max (f a) (f b)) (test : Resource → Bool) where
  put_at : (o : Ordering) (r : Resource) (m : Mode) (e : Resource × Mode) (es rest : Requests) → resource_cmp r e.0 ≡ o
      → greatest f test rest ≡ max (greatest f test es) (cond (test r) (f m) 0)
      → greatest f test (at_head o r m e es rest) ≡ max (greatest f test (e ∷ es)) (cond (test r) (f m) 0)
  put_at Less r m e es rest is h = turned (cond (test r) (f m) 0) (greatest f test (e ∷ es))
  put_at Equal r m e es rest is h =
      raise (test e.0) (f (joined e.1 m)) (f e.1) (f m) (greatest f test es) (joins e.1 m)
      ∙ ap (λ q. max (max (cond (test e.0) (f e.1) 0) (greatest f test es)) (cond (test q) (f m) 0)) (sym (exact_resources r e.0 is))
  put_at Greater r m e es rest is h =
      ap (λ n. max (cond (test e.0) (f e.1) 0) n) h
      ∙ max_on (cond (test e.0) (f e.1) 0) (greatest f test es) (cond (test r) (f m) 0)

  greatest_request : (r : Resource) (m : Mode) (es : Requests) → greatest f test (request r m es) ≡ max (greatest f test es) (cond (test r) (f m) 0)
  greatest_request r m [] = turned (cond (test r) (f m) 0) 0
  greatest_request r m (e ∷ es) = put_at (resource_cmp r e.0) r m e es (request r m es) refl (greatest_request r m es)

own_request : (q r : Resource) (m : Mode) (es : Requests) → own_on (request r m es) q ≡ max (own_on es q) (cond (is_same q r) (own m) 0)
own_request q r m es = greatest_request own own_joined (is_same q) r m es

subtree_request : (q r : Resource) (m : Mode) (es : Requests) → subtree_on (request r m es) q ≡ max (subtree_on es q) (cond (is_same q r) (subtree m) 0)
subtree_request q r m es = greatest_request subtree subtree_joined (is_same q) r m es

-- ---- the order

put_all : (P : Resource → Type 0) (o : Ordering) (r : Resource) (m : Mode) (e : Resource × Mode) (es rest : Requests)
    → AllByRecursion P (keys_of (e ∷ es)) → P r → AllByRecursion P (keys_of rest) → AllByRecursion P (keys_of (at_head o r m e es rest))
put_all P Less r m e es rest all one h = (one, all)
put_all P Equal r m e es rest all one h = all
put_all P Greater r m e es rest all one h = (all.0, h)

all_request : (P : Resource → Type 0) (r : Resource) (m : Mode) (es : Requests) → AllByRecursion P (keys_of es) → P r → AllByRecursion P (keys_of (request r m es))
all_request P r m [] all one = (one, all)
all_request P r m (e ∷ es) all one = put_all P (resource_cmp r e.0) r m e es (request r m es) all one (all_request P r m es all.1 one)

less_than_all : (r q : Resource) → resource_cmp r q ≡ Less → (ks : List Resource) → AllByRecursion (λ k. resource_cmp q k ≡ Less) ks → AllByRecursion (λ k. resource_cmp r k ≡ Less) ks
less_than_all r q is [] all = tt
less_than_all r q is (k ∷ ks) all = (resources_total.trans r q k is all.0, less_than_all r q is ks all.1)

after : (a b : Resource) → resource_cmp a b ≡ Greater → resource_cmp b a ≡ Less
after a b h = resources_total.antisymm b a ∙ ap ordering_reverse h

put_sorted : (o : Ordering) (r : Resource) (m : Mode) (e : Resource × Mode) (es : Requests) → resource_cmp r e.0 ≡ o
    → IsInTreeOrder (e ∷ es) → IsInTreeOrder (request r m es)
    → IsInTreeOrder (at_head o r m e es (request r m es))
unfolding IsStrictlySortedBy
put_sorted Less r m e es is o h = ((is, less_than_all r e.0 is (keys_of es) o.0), o)
put_sorted Equal r m e es is o h = o
put_sorted Greater r m e es is o h = (all_request (λ q. resource_cmp e.0 q ≡ Less) r m es o.0 (after r e.0 is), h)

sorted_request : (r : Resource) (m : Mode) (es : Requests) → IsInTreeOrder es → IsInTreeOrder (request r m es)
unfolding IsStrictlySortedBy
sorted_request r m [] o = (tt, tt)
sorted_request r m (e ∷ es) o = put_sorted (resource_cmp r e.0) r m e es refl o (sorted_request r m es o.1)

-- ---- a request, and the intentions on the ancestors

-- what a request adds to the rights of each resource
record Adds (resource : Resource) (m : Mode) (es new : Requests) : Type 0 where
  owns : (q : Resource) → own_on new q ≡ max (own_on es q) (cond (is_same q resource) (own m) 0)
  subtrees : (q : Resource) → subtree_on new q ≡ max (subtree_on es q) (cond (holds q resource) (subtree m) 0)
  sorted : IsInTreeOrder es → IsInTreeOrder new

adds_top : (m : Mode) (es : Requests) → Adds Db m es (request Db m es)
adds_top m es = record {
  owns = λ q. own_request q Db m es;
  subtrees = λ q. over_one q Db (subtree m) (subtree_on es q) (subtree_on (request Db m es) q) refl (subtree_request q Db m es);
  sorted = λ o. sorted_request Db m es o;
}

adds_below : (resource above : Resource) (m : Mode) (es mid : Requests) → parent_of resource ≡ Some above → Adds above (intention m) es mid
    → Adds resource m es (request resource m mid)
adds_below resource above m es mid up a = record {
  owns = λ q. own_both (is_same q resource) (is_same q above) (own m) (own (intention m)) (own_on es q) (own_on mid q) (own_on (request resource m mid) q)
      (own_intention m) (a.owns q) (own_request q resource m mid);
  subtrees = λ q. over_both q resource above (subtree m) (subtree (intention m)) (subtree_on es q) (subtree_on mid q) (subtree_on (request resource m mid) q)
      up (subtree_intention m) (a.subtrees q) (subtree_request q resource m mid);
  sorted = λ o. sorted_request resource m mid (a.sorted o);
}

adds_table : (t : ℕ) (m : Mode) (es : Requests) → Adds (Table t WholeTable) m es (on_table t m es)
adds_table t m es = adds_below (Table t WholeTable) Db m es (request Db (intention m) es) refl (adds_top (intention m) es)

adds_part : (t p : ℕ) (m : Mode) (es : Requests) → Adds (Table t (Part p WholePart)) m es (on_part t p m es)
adds_part t p m es = adds_below (Table t (Part p WholePart)) (Table t WholeTable) m es (on_table t (intention m) es) refl (adds_table t (intention m) es)

adds : (resource : Resource) (m : Mode) (es : Requests) → Adds resource m es (request_up resource m es)
adds Db m es = adds_top m es
adds (Table t WholeTable) m es = adds_table t m es
adds (Table t (Part p WholePart)) m es = adds_part t p m es
adds (Table t (Part p (Row k))) m es = adds_below (Table t (Part p (Row k))) (Table t (Part p WholePart)) m es (on_part t p (intention m) es) refl (adds_part t p (intention m) es)

-- ---- all entries

one_more : (b : Bool) (n m old rest new : ℕ) → m ≡ n → old ≡ rest → new ≡ max old (cond b m 0) → new ≡ max (cond b n 0) rest
one_more true n m old rest new e f g = omega (arith, e, f, g)
one_more false n m old rest new e f g = omega (arith, f, g)

owns_all : (es : List (Resource × Right)) (q : Resource) → own_on (requests_for es) q ≡ greatest rank_of (is_same q) es
owns_all [] q = refl
owns_all (e ∷ es) q = one_more (is_same q e.0) (rank_of e.1) (own (whole e.1)) (own_on (requests_for es) q) (greatest rank_of (is_same q) es) _
    (own_whole e.1) (owns_all es q) ((adds e.0 (whole e.1) (requests_for es)).owns q)

subtrees_all : (es : List (Resource × Right)) (q : Resource) → subtree_on (requests_for es) q ≡ greatest rank_of (holds q) es
subtrees_all [] q = refl
subtrees_all (e ∷ es) q = one_more (holds q e.0) (rank_of e.1) (subtree (whole e.1)) (subtree_on (requests_for es) q) (greatest rank_of (holds q) es) _
    (subtree_whole e.1) (subtrees_all es q) ((adds e.0 (whole e.1) (requests_for es)).subtrees q)

sorted_all : (es : List (Resource × Right)) → IsInTreeOrder (requests_for es)
unfolding IsStrictlySortedBy
sorted_all [] = tt
sorted_all (e ∷ es) = (adds e.0 (whole e.1) (requests_for es)).sorted (sorted_all es)

plan_is : (f : FootprintOf) → IsPlanOf f (plan_of f)
plan_is f = record {
  ordered = sorted_all (entries f);
  owns = λ r. owns_all (entries f) r ∙ sym (right_on-entries f r);
  subtrees = λ r. subtrees_all (entries f) r;
}

-- ---- the plan for a footprint

module _ (k c : ℕ) (f : FootprintOf) where
  abbrev full : Requests
  full = plan_of (coarsened k f)

  plan_within : length full ≤ c → plan_for k c f ≡ full
  plan_within l = let t : nat_le (length full) c ≡ true = grind (arith, nat_tests, l) in ap (λ b. cond b full (plan_of (on_database (coarsened k f)))) t

  too_long : c < length full → plan_for k c f ≡ plan_of (on_database (coarsened k f))
  too_long l = let t : nat_le (length full) c ≡ false = grind (arith, nat_tests, l) in ap (λ b. cond b full (plan_of (on_database (coarsened k f)))) t

  made_is_for : IsPlanFor k c f (plan_for k c f)
  made_is_for = record {
    full = full;
    full_is = plan_is (coarsened k f);
    within = λ l. plan_within l;
    past = λ l. subst (IsPlanOf (on_database (coarsened k f))) (sym (too_long l)) (plan_is (on_database (coarsened k f)));
  }

  one_for : (plan : Requests) → IsPlanFor k c f plan → plan ≡ plan_for k c f
  one_for plan is =
      let same : is.full ≡ full = plans_exact.one (coarsened k f) is.full full is.full_is (plan_is (coarsened k f)) in
      let long : length is.full ≡ length full = ap length same in
      elim (cases_lt c (length full)) [
        | inl less ↦ plans_exact.one (on_database (coarsened k f)) plan _ (is.past (omega (arith, less, long))) (plan_is (on_database (coarsened k f))) ∙ sym (too_long less)
        | inr more ↦ is.within (omega (arith, more, long)) ∙ same ∙ sym (plan_within more)
      ]

  for_one : (plan : Requests) → plan ≡ plan_for k c f → IsPlanFor k c f plan
  for_one plan is = subst (IsPlanFor k c f) (sym is) made_is_for

pub plan_one : PlanIsOne
plan_one k c f plan = (one_for k c f plan, for_one k c f plan)

-- ---- what it is good for

-- a plan is that of the coarsened footprint, or that of one entry on the database
by_kind : {P : Type 0} (k c : ℕ) (f : FootprintOf) (plan : Requests) → IsPlanFor k c f plan
    → (IsPlanOf (coarsened k f) plan → length plan ≤ c → P) → (IsPlanOf (on_database (coarsened k f)) plan → P) → P
by_kind k c f plan is small large = elim (cases_lt c (length is.full)) [
  | inl less ↦ large (is.past less)
  | inr more ↦
      let e : plan ≡ is.full = is.within more in
      let long : length plan ≡ length is.full = ap length e in
      small (subst (IsPlanOf (coarsened k f)) (sym e) is.full_is) (omega (arith, more, long))
]

pub plans_good : PlansServe
plans_good = record {
  sound = λ k c f plan is. by_kind k c f plan is (λ of _. sound_of (coarsened k f) plan of) (λ of. sound_of (on_database (coarsened k f)) plan of);
  covered = λ k c f plan is. by_kind k c f plan is (λ of _. covers_full k f plan of) (λ of. covers_whole k f plan of);
  size = λ k c f plan some is. by_kind k c f plan is (λ of fit. fit) (λ of. let l = whole_length (coarsened k f) plan of in omega (arith, l, some));
  over = λ k c f plan is. by_kind k c f plan is (λ of _. over_full k f plan of) (λ of. over_whole k f plan of);
}
