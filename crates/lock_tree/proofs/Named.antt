-- Transactions that stand under their numbers.
use Rattle.std.proofs.Common.{◌≡◌, ℕ, ◌+◌, ◌<◌, ◌==◌, suc, true, false, cond, List, [], ◌∷◌, ◌++◌, length, Option, None, Some, option_map, refl, sym, ◌∙◌, ap, subst, arith, slice_set, add-one, Greater}
use Rattle.std.specs.List.{remove}
use Rattle.std.specs.Map.{lookup, set_value, remove_entry, values_of}
use Rattle.std.specs.BTreeMap.{is_at, insert_entry}
use Rattle.std.specs.Ordering.{nat_cmp, match_ordering}
use Rattle.std.proofs.lemmas.Bool.Decides.{nat_tests}
use Rattle.lock_tree.specs.Entered.{Enqueued}
use Rattle.lock_tree.specs.Enqueues.{AreBelow}
use Rattle.lock_tree.specs.Placing.{place_numbered}
use Rattle.lock_tree.specs.Views.{all_waiting}
use Rattle.lock_tree.specs.Indexed.{AreNamed, IsFound}
use Rattle.lock_tree.proofs.Places.{at, some_one, none_some, later_place, same_numbers}

same_at : (k a n : ℕ) → a ≡ n → is_at (nat_cmp k) a ≡ (n == k)
same_at k a n e = grind (arith, nat_tests)

greater : (k a n : ℕ) → a ≡ n → n < k → nat_cmp k a ≡ Greater
greater k a n e l = grind (arith, nat_tests)

one_entry : (a b : Enqueued) → Some a ≡ Some b → b ≡ a
one_entry a b h = cc

abbrev place_in_rest : ℕ → List (ℕ × Enqueued) → Option ℕ
place_in_rest k es = option_map (λ n. n + 1) (place_numbered k (all_waiting (values_of es)))

-- what is found stands at the place of its number
pub found : (k : ℕ) (es : List (ℕ × Enqueued)) (e : Enqueued) → AreNamed es → lookup (is_at (nat_cmp k)) es ≡ Some e → IsFound (values_of es) k e
found k [] e named h = absurd (cc)
found k (x ∷ es) e named h =
    elim (x.1.no == k) as (λ v. (x.1.no == k) ≡ v → cond v (Some x.1) (lookup (is_at (nat_cmp k)) es) ≡ Some e → IsFound (values_of (x ∷ es)) k e) [
      | true ↦ λ here h. record { place = 0; exact = ap (λ v. cond v (Some 0) (place_in_rest k es)) here; within = omega arith; there = one_entry x.1 e h }
      | false ↦ λ other h.
          let r = found k es e named.1 h in
          record {
            place = suc r.place;
            exact = ap (λ v. cond v (Some 0) (place_in_rest k es)) other ∙ ap (option_map (λ n. n + 1)) r.exact ∙ ap (λ n. Some n) (add-one r.place);
            within = (let l = r.within in omega (arith, l));
            there = r.there;
          }
    ] refl (sym (ap (λ v. cond v (Some x.1) (lookup (is_at (nat_cmp k)) es)) (same_at k x.0 x.1.no named.0)) ∙ h)

-- where none is found, none has the number
pub absent : (k : ℕ) (es : List (ℕ × Enqueued)) → AreNamed es → lookup (is_at (nat_cmp k)) es ≡ None → place_numbered k (all_waiting (values_of es)) ≡ None
absent k [] named h = refl
absent k (x ∷ es) named h =
    elim (x.1.no == k) as (λ v. (x.1.no == k) ≡ v → cond v (Some x.1) (lookup (is_at (nat_cmp k)) es) ≡ None → place_numbered k (all_waiting (values_of (x ∷ es))) ≡ None) [
      | true ↦ λ here h. absurd (cc)
      | false ↦ λ other h. ap (λ v. cond v (Some 0) (place_in_rest k es)) other ∙ ap (option_map (λ n. n + 1)) (absent k es named.1 h)
    ] refl (sym (ap (λ v. cond v (Some x.1) (lookup (is_at (nat_cmp k)) es)) (same_at k x.0 x.1.no named.0)) ∙ h)

-- ---- one changes

pub value_set : (k : ℕ) (es : List (ℕ × Enqueued)) (i : ℕ) (w : Enqueued) → AreNamed es → place_numbered k (all_waiting (values_of es)) ≡ Some i → values_of (set_value (is_at (nat_cmp k)) es w) ≡ slice_set (values_of es) i w
value_set k [] i w named h = absurd (none_some i h)
value_set k (x ∷ es) i w named h =
    ap (λ v. values_of (cond v ((x.0, w) ∷ es) (x ∷ set_value (is_at (nat_cmp k)) es w))) (same_at k x.0 x.1.no named.0)
    ∙ (elim (x.1.no == k) as (λ v. cond v (Some 0) (place_in_rest k es) ≡ Some i → values_of (cond v ((x.0, w) ∷ es) (x ∷ set_value (is_at (nat_cmp k)) es w)) ≡ slice_set (values_of (x ∷ es)) i w) [
      | true ↦ λ h. ap (λ n. slice_set (values_of (x ∷ es)) n w) (some_one 0 i h)
      | false ↦ λ h.
          let j = later_place (place_numbered k (all_waiting (values_of es))) i h in
          ap (λ xs. x.1 ∷ xs) (value_set k es j.0 w named.1 j.1) ∙ ap (λ n. slice_set (values_of (x ∷ es)) n w) (sym j.2)
    ] h)

pub named_set : (k : ℕ) (es : List (ℕ × Enqueued)) (w : Enqueued) → AreNamed es → w.no ≡ k → AreNamed (set_value (is_at (nat_cmp k)) es w)
named_set k [] w named same = tt
named_set k (x ∷ es) w named same =
    subst (λ v. AreNamed (cond v ((x.0, w) ∷ es) (x ∷ set_value (is_at (nat_cmp k)) es w))) (sym (same_at k x.0 x.1.no named.0))
    (elim (x.1.no == k) as (λ v. (x.1.no == k) ≡ v → AreNamed (cond v ((x.0, w) ∷ es) (x ∷ set_value (is_at (nat_cmp k)) es w))) [
      | true ↦ λ here. (named.0 ∙ same_numbers x.1.no k here ∙ sym same, named.1)
      | false ↦ λ other. (named.0, named_set k es w named.1 same)
    ] refl)

-- ---- one goes

pub value_removed : (k : ℕ) (es : List (ℕ × Enqueued)) (i : ℕ) → AreNamed es → place_numbered k (all_waiting (values_of es)) ≡ Some i → values_of (remove_entry (is_at (nat_cmp k)) es) ≡ remove (values_of es) i
value_removed k [] i named h = absurd (none_some i h)
value_removed k (x ∷ es) i named h =
    ap (λ v. values_of (cond v es (x ∷ remove_entry (is_at (nat_cmp k)) es))) (same_at k x.0 x.1.no named.0)
    ∙ (elim (x.1.no == k) as (λ v. cond v (Some 0) (place_in_rest k es) ≡ Some i → values_of (cond v es (x ∷ remove_entry (is_at (nat_cmp k)) es)) ≡ remove (values_of (x ∷ es)) i) [
      | true ↦ λ h. ap (remove (values_of (x ∷ es))) (some_one 0 i h)
      | false ↦ λ h.
          let j = later_place (place_numbered k (all_waiting (values_of es))) i h in
          ap (λ xs. x.1 ∷ xs) (value_removed k es j.0 named.1 j.1) ∙ ap (remove (values_of (x ∷ es))) (sym j.2)
    ] h)

pub named_removed : (k : ℕ) (es : List (ℕ × Enqueued)) → AreNamed es → AreNamed (remove_entry (is_at (nat_cmp k)) es)
named_removed k [] named = tt
named_removed k (x ∷ es) named = elim (is_at (nat_cmp k) x.0) as (λ v. AreNamed (cond v es (x ∷ remove_entry (is_at (nat_cmp k)) es))) [
  | true ↦ named.1
  | false ↦ (named.0, named_removed k es named.1)
]

-- ---- one comes after the others

pub entered : (k : ℕ) (es : List (ℕ × Enqueued)) (e : Enqueued) → AreNamed es → AreBelow k (all_waiting (values_of es)) → insert_entry nat_cmp es k e ≡ es ++ (k, e) ∷ []
entered k [] e named below = refl
entered k (x ∷ es) e named below =
    ap (λ o. match_ordering o ((k, e) ∷ x ∷ es) ((x.0, e) ∷ es) (x ∷ insert_entry nat_cmp es k e)) (greater k x.0 x.1.no named.0 below.0)
    ∙ ap (λ xs. x ∷ xs) (entered k es e named.1 below.1)

pub values_end : (es : List (ℕ × Enqueued)) (k : ℕ) (e : Enqueued) → values_of (es ++ (k, e) ∷ []) ≡ values_of es ++ e ∷ []
values_end [] k e = refl
values_end (x ∷ es) k e = ap (λ xs. x.1 ∷ xs) (values_end es k e)

pub values_length : (es : List (ℕ × Enqueued)) → length (values_of es) ≡ length es
values_length [] = refl
values_length (x ∷ es) = let h = values_length es in omega (arith, h)

pub named_end : (es : List (ℕ × Enqueued)) (k : ℕ) (e : Enqueued) → AreNamed es → k ≡ e.no → AreNamed (es ++ (k, e) ∷ [])
named_end [] k e named same = (same, tt)
named_end (x ∷ es) k e named same = (named.0, named_end es k e named.1 same)

below_other : (a k : ℕ) → a < k → (a == k) ≡ false
below_other a k l = grind (arith, nat_tests)

itself : (k : ℕ) → (k == k) ≡ true
itself k = grind (arith, nat_tests)

-- the last one's place
pub place_end : (es : List Enqueued) (e : Enqueued) → AreBelow e.no (all_waiting es) → place_numbered e.no (all_waiting (es ++ e ∷ [])) ≡ Some (length es)
place_end [] e below = ap (λ v. cond v (Some 0) (option_map (λ n. n + 1) (place_numbered e.no []))) (itself e.no)
place_end (f ∷ es) e below =
    ap (λ v. cond v (Some 0) (option_map (λ n. n + 1) (place_numbered e.no (all_waiting (es ++ e ∷ []))))) (below_other f.no e.no below.0)
    ∙ ap (option_map (λ n. n + 1)) (place_end es e below.1) ∙ ap (λ n. Some n) (add-one (length es))

pub at_end : (es : List Enqueued) (e d : Enqueued) → at (es ++ e ∷ []) (length es) d ≡ e
at_end [] e d = refl
at_end (f ∷ es) e d = at_end es e d

pub set_end : (es : List Enqueued) (e w : Enqueued) → slice_set (es ++ e ∷ []) (length es) w ≡ es ++ w ∷ []
set_end [] e w = refl
set_end (f ∷ es) e w = ap (λ xs. f ∷ xs) (set_end es e w)

-- ---- the last one, as it is found and changed

pub last_found : (k : ℕ) (all es : List Enqueued) (e d : Enqueued) → all ≡ es ++ e ∷ [] → k ≡ e.no → AreBelow e.no (all_waiting es) → IsFound all k d → d ≡ e
last_found k all es e d is same below h =
    let place : Some (length es) ≡ Some h.place =
    sym (place_end es e below) ∙ ap (λ (xs : List Enqueued). place_numbered e.no (all_waiting xs)) (sym is) ∙ ap (λ n. place_numbered n (all_waiting all)) (sym same) ∙ h.exact in
    h.there ∙ ap (λ (xs : List Enqueued). at xs h.place d) is ∙ ap (λ n. at (es ++ e ∷ []) n d) (sym (some_one (length es) h.place place)) ∙ at_end es e d

pub last_there : (k : ℕ) (all es : List Enqueued) (e : Enqueued) → all ≡ es ++ e ∷ [] → k ≡ e.no → AreBelow e.no (all_waiting es) → place_numbered k (all_waiting all) ≡ Some (length es)
last_there k all es e is same below = ap (λ (xs : List Enqueued). place_numbered k (all_waiting xs)) is ∙ ap (λ n. place_numbered n (all_waiting (es ++ e ∷ []))) same ∙ place_end es e below

pub last_set : (k : ℕ) (xs : List (ℕ × Enqueued)) (es : List Enqueued) (e w : Enqueued) → AreNamed xs → values_of xs ≡ es ++ e ∷ [] → k ≡ e.no → AreBelow e.no (all_waiting es)
    → values_of (set_value (is_at (nat_cmp k)) xs w) ≡ es ++ w ∷ []
last_set k xs es e w named is same below =
    value_set k xs (length es) w named (last_there k (values_of xs) es e is same below) ∙ ap (λ (ys : List Enqueued). slice_set ys (length es) w) is ∙ set_end es e w
