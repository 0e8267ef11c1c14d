-- The place of a resource in a list in tree order, and lists in which an entry is put there.
use Rattle.std.proofs.Common.{◌≡◌, ℕ, ◌<◌, ◌≤◌, ◌-◌, suc, zero, List, [], ◌∷◌, length, get_or, set, subst, Ordering, true, Some, None, Result, Ok, Err, IfOk, IfErr, cond, refl, sym, ap, ◌∙◌, arith, Less, Equal, Greater, inl, inr}
use Rattle.std.specs.List.{insert, AllByRecursion}
use Rattle.std.specs.List.Sorted.{IsStrictlySortedBy, IsSearchInRange, IsBinarySearchResult, IsNonDecreasingBy}
use Rattle.std.specs.Map.{keys_of}
use Rattle.std.specs.Ordering.{is_lt, is_eq, ordering_index, ordering_reverse}
use Rattle.std.specs.FinMap.{find}
use Rattle.std.specs.FinMap.Entries.{by_order, put}
use Rattle.std.proofs.lemmas.Bool.{cases_lt}
use Rattle.std.proofs.lemmas.Cmp.{tied_itself}
use Rattle.footprint.specs.declared.resource.Resource.{Resource}
use Rattle.footprint.specs.Tree.{resource_cmp}
use Rattle.footprint.specs.InTreeOrder.{IsInTreeOrder, IsAt, IsGapFor}
use Rattle.footprint.proofs.Resources.{resources_total, exact_resources}

after : (a b : Resource) → resource_cmp a b ≡ Greater → resource_cmp b a ≡ Less
after a b h = resources_total.antisymm b a ∙ ap ordering_reverse h

before : (a b : Resource) → resource_cmp a b ≡ Less → resource_cmp b a ≡ Greater
before a b h = resources_total.antisymm b a ∙ ap ordering_reverse h

pub is_less : (o : Ordering) → is_lt o ≡ true → o ≡ Less
is_less Less h = refl
is_less Equal h = absurd (cc)
is_less Greater h = absurd (cc)

rises : (x y : Ordering) → (y ≡ Less → x ≡ Less) → (y ≡ Equal → x ≡ Less) → ordering_index x ≤ ordering_index y
rises x Less f g = let e = ap ordering_index (f refl) in omega (arith, e)
rises x Equal f g = let e = ap ordering_index (g refl) in omega (arith, e)
rises Less Greater f g = omega arith
rises Equal Greater f g = omega arith
rises Greater Greater f g = omega arith

pub none_sorted : (V : Type 0) → IsInTreeOrder {V = V} []
unfolding IsStrictlySortedBy
none_sorted V = tt

same : (r : Resource) → resource_cmp r r ≡ Equal
same r = tied_itself resources_total r

module _ {V : Type 0} where
  pub at_tail : (e : Resource × V) (es : List (Resource × V)) (r : Resource) (i : ℕ) → IsAt (e ∷ es) r (suc i) → IsAt es r i
  at_tail e es r i at = record { in_range = (let l = at.in_range in omega (arith, l)); on = at.on }

  gap_tail : (e : Resource × V) (es : List (Resource × V)) (r : Resource) (i : ℕ) → IsGapFor (e ∷ es) r (suc i) → IsGapFor es r i
  gap_tail e es r i gap = record {
    in_range = (let l = gap.in_range in omega (arith, l));
    before = λ j d l. gap.before (suc j) d (omega (arith, l));
    after = λ j d l m. gap.after (suc j) d (omega (arith, l)) (omega (arith, m));
  }

  -- ---- the order

  -- an entry takes another value: the resources stay
  keys-set : (es : List (Resource × V)) (i : ℕ) (r : Resource) (v : V) → IsAt es r i → keys_of (set es i (r, v)) ≡ keys_of es
  keys-set [] i r v at = absurd (let l = at.in_range in omega (arith, l))
  keys-set (e ∷ es) zero r v at = ap (λ (q : Resource). q ∷ keys_of es) (sym (at.on e))
  keys-set (e ∷ es) (suc i) r v at = ap (λ (ks : List Resource). e.0 ∷ ks) (keys-set es i r v (at_tail e es r i at))

  pub sorted-set : (es : List (Resource × V)) → IsInTreeOrder es → (i : ℕ) (r : Resource) (v : V) → IsAt es r i → IsInTreeOrder (set es i (r, v))
  sorted-set es o i r v at = subst (IsStrictlySortedBy resource_cmp) (sym (keys-set es i r v at)) o

  all_inserted : (P : Resource → Type 0) (es : List (Resource × V)) (i : ℕ) (r : Resource) (v : V) → AllByRecursion P (keys_of es) → P r → AllByRecursion P (keys_of (insert es i (r, v)))
  all_inserted P es zero r v all one = (one, all)
  all_inserted P [] (suc i) r v all one = (one, all)
  all_inserted P (e ∷ es) (suc i) r v all one = (all.0, all_inserted P es i r v all.1 one)

  all_by_place : (P : Resource → Type 0) (es : List (Resource × V)) → ((j : ℕ) (d : Resource × V) → j < length es → P (get_or es j d).0) → AllByRecursion P (keys_of es)
  all_by_place P [] h = tt
  all_by_place P (e ∷ es) h = (h 0 e (omega arith), all_by_place P es (λ j d l. h (suc j) d (omega (arith, l))))

  each_by_place : (P : Resource → Type 0) (es : List (Resource × V)) → AllByRecursion P (keys_of es) → (j : ℕ) (d : Resource × V) → j < length es → P (get_or es j d).0
  each_by_place P [] h j d l = absurd (omega (arith, l))
  each_by_place P (e ∷ es) h zero d l = h.0
  each_by_place P (e ∷ es) h (suc j) d l = each_by_place P es h.1 j d (omega (arith, l))

  -- an entry is put into the gap for it
  pub sorted-inserted : (es : List (Resource × V)) (i : ℕ) (r : Resource) (v : V) → IsGapFor es r i → IsInTreeOrder es → IsInTreeOrder (insert es i (r, v))
  unfolding IsStrictlySortedBy
  sorted-inserted es zero r v gap o = (all_by_place (λ q. resource_cmp r q ≡ Less) es (λ j d l. after (get_or es j d).0 r (gap.after j d (omega arith) l)), o)
  sorted-inserted [] (suc i) r v gap o = absurd (let l = gap.in_range in omega (arith, l))
  sorted-inserted (e ∷ es) (suc i) r v gap o =
      (all_inserted (λ q. resource_cmp e.0 q ≡ Less) es i r v o.0 (gap.before 0 e (omega arith)), sorted-inserted es i r v (gap_tail e es r i gap) o.1)

  -- ---- the place

  -- what is later in the list comes after
  rising : (es : List (Resource × V)) (d : Resource × V) (i j : ℕ) → IsInTreeOrder es → i < j → j < length es → resource_cmp (get_or es i d).0 (get_or es j d).0 ≡ Less
  unfolding IsStrictlySortedBy
  rising [] d i j o l m = absurd (omega (arith, m))
  rising (e ∷ es) d zero (suc j) o l m = each_by_place (λ q. resource_cmp e.0 q ≡ Less) es o.0 j d (omega (arith, m))
  rising (e ∷ es) d (suc i) (suc j) o l m = rising es d i j o.1 (omega (arith, l)) (omega (arith, m))
  rising (e ∷ es) d i zero o l m = absurd (omega (arith, l))

  -- where the last entry comes before a resource, all do
  pub at_end : (es : List (Resource × V)) → IsInTreeOrder es → (r : Resource) (n : ℕ) (last : Resource × V) → n ≡ length es
      → ((d : Resource × V) → last ≡ get_or es (length es - 1) d) → resource_cmp last.0 r ≡ Less → IsGapFor es r n
  at_end es o r n last len is less = record {
    in_range = omega (arith, len);
    before = λ j d l. elim (cases_lt j (length es - 1)) [
      | inl m ↦ resources_total.trans (get_or es j d).0 (get_or es (length es - 1) d).0 r
          (rising es d j (length es - 1) o m (omega (arith, l, len)))
          (ap (λ (e : Resource × V). resource_cmp e.0 r) (sym (is d)) ∙ less)
      | inr m ↦
          let same : j ≡ length es - 1 = omega (arith, l, m, len) in
          ap (λ k. resource_cmp (get_or es k d).0 r) same ∙ ap (λ (e : Resource × V). resource_cmp e.0 r) (sym (is d)) ∙ less
    ];
    after = λ j d l m. absurd (omega (arith, l, m, len));
  }

  -- comparisons with a resource rise along the list, as a binary search asks
  comparisons_rise : (es : List (Resource × V)) → IsInTreeOrder es → (r : Resource) → IsNonDecreasingBy (λ e. ordering_index (resource_cmp e.0 r)) es
  comparisons_rise es o r i j d l m = elim (cases_lt i j) [
    | inl less ↦
        let before = rising es d i j o less m in
        rises (resource_cmp (get_or es i d).0 r) (resource_cmp (get_or es j d).0 r)
        (λ is. resources_total.trans (get_or es i d).0 (get_or es j d).0 r before is)
        (λ is. ap (resource_cmp (get_or es i d).0) (sym (exact_resources (get_or es j d).0 r is)) ∙ before)
    | inr more ↦
        let same : i ≡ j = omega (arith, l, more) in
        let e = ap (λ k. ordering_index (resource_cmp (get_or es k d).0 r)) same in
        omega (arith, e)
  ]

  -- what a binary search by resource finds
  pub placed : (es : List (Resource × V)) → IsInTreeOrder es → (r : Resource) (answer : Result ℕ ℕ) → IsSearchInRange answer (length es)
      → IsBinarySearchResult (λ e. resource_cmp e.0 r) es answer → record { found : IfOk answer (IsAt es r); absent : IfErr answer (IsGapFor es r) }
  placed es o r (Ok at) in_range equal = record { found = record { in_range = in_range; on = λ d. exact_resources (get_or es at d).0 r (equal d) }; absent = tt }
  placed es o r (Err at) in_range parted = record {
    found = tt;
    absent = record {
      in_range = in_range;
      before = λ j d l. (parted (comparisons_rise es o r)).0 j d (omega arith) l;
      after = λ j d l m. (parted (comparisons_rise es o r)).1 j d l m;
    };
  }

  -- ---- what a map of the list has

  -- the first entry comes before one that is later
  first_less : (e : Resource × V) (es : List (Resource × V)) (r : Resource) (i : ℕ) → IsInTreeOrder (e ∷ es) → IsAt es r i → resource_cmp r e.0 ≡ Greater
  unfolding IsStrictlySortedBy
  first_less e es r i o at = before e.0 r (ap (resource_cmp e.0) (sym (at.on e)) ∙ each_by_place (λ q. resource_cmp e.0 q ≡ Less) es o.0 i e at.in_range)

  pub found : (es : List (Resource × V)) (i : ℕ) (r : Resource) (d : Resource × V) → IsInTreeOrder es → IsAt es r i → find resource_cmp r es ≡ Some (get_or es i d).1
  unfolding IsStrictlySortedBy
  found [] i r d o at = absurd (let l = at.in_range in omega (arith, l))
  found (e ∷ es) zero r d o at = ap (λ c. cond (is_eq c) (Some e.1) (find resource_cmp r es)) (ap (resource_cmp r) (at.on e) ∙ same r)
  found (e ∷ es) (suc i) r d o at =
      let t = at_tail e es r i at in
      ap (λ c. cond (is_eq c) (Some e.1) (find resource_cmp r es)) (first_less e es r i o t) ∙ found es i r d o.1 t

  pub not_found : (es : List (Resource × V)) (i : ℕ) (r : Resource) → IsGapFor es r i → find resource_cmp r es ≡ None
  not_found [] i r gap = refl
  not_found (e ∷ es) zero r gap =
      ap (λ c. cond (is_eq c) (Some e.1) (find resource_cmp r es)) (after e.0 r (gap.after 0 e (omega arith) (omega arith)))
      ∙ not_found es zero r (record {
        in_range = omega arith;
        before = λ j d l. absurd (omega (arith, l));
        after = λ j d l m. gap.after (suc j) d (omega arith) (omega (arith, m));
      })
  not_found (e ∷ es) (suc i) r gap =
      ap (λ c. cond (is_eq c) (Some e.1) (find resource_cmp r es)) (before e.0 r (gap.before 0 e (omega arith)))
      ∙ not_found es i r (gap_tail e es r i gap)

  pub put-set : (es : List (Resource × V)) (i : ℕ) (r : Resource) (v : V) → IsInTreeOrder es → IsAt es r i → put resource_cmp r v es ≡ set es i (r, v)
  unfolding IsStrictlySortedBy
  put-set [] i r v o at = absurd (let l = at.in_range in omega (arith, l))
  put-set (e ∷ es) zero r v o at =
      ap (λ c. by_order c ((r, v) ∷ e ∷ es) ((e.0, v) ∷ es) (e ∷ put resource_cmp r v es)) (ap (resource_cmp r) (at.on e) ∙ same r)
      ∙ ap (λ (q : Resource). (q, v) ∷ es) (at.on e)
  put-set (e ∷ es) (suc i) r v o at =
      let t = at_tail e es r i at in
      ap (λ c. by_order c ((r, v) ∷ e ∷ es) ((e.0, v) ∷ es) (e ∷ put resource_cmp r v es)) (first_less e es r i o t)
      ∙ ap (λ (xs : List (Resource × V)). e ∷ xs) (put-set es i r v o.1 t)

  pub put-inserted : (es : List (Resource × V)) (i : ℕ) (r : Resource) (v : V) → IsGapFor es r i → put resource_cmp r v es ≡ insert es i (r, v)
  put-inserted [] zero r v gap = refl
  put-inserted [] (suc i) r v gap = absurd (let l = gap.in_range in omega (arith, l))
  put-inserted (e ∷ es) zero r v gap =
      ap (λ c. by_order c ((r, v) ∷ e ∷ es) ((e.0, v) ∷ es) (e ∷ put resource_cmp r v es)) (after e.0 r (gap.after 0 e (omega arith) (omega arith)))
  put-inserted (e ∷ es) (suc i) r v gap =
      ap (λ c. by_order c ((r, v) ∷ e ∷ es) ((e.0, v) ∷ es) (e ∷ put resource_cmp r v es)) (before e.0 r (gap.before 0 e (omega arith)))
      ∙ ap (λ (xs : List (Resource × V)). e ∷ xs) (put-inserted es i r v (gap_tail e es r i gap))
