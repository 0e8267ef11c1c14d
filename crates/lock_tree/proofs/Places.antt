-- The place of a transaction among the entries.
use Rattle.std.proofs.Common.{◌≡◌, ℕ, ◌+◌, ◌<◌, ◌≤◌, ◌==◌, zero, suc, Bool, true, false, cond, List, [], ◌∷◌, ◌++◌, length, Option, None, Some, option_map, refl, sym, ◌∙◌, ap, subst, arith, slice_index_or, slice_set}
use Rattle.std.specs.List.{Contains, remove}
use Rattle.std.proofs.lemmas.Bool.Decides.{nat_tests}
use Rattle.lock_tree.specs.Entered.{Enqueued}
use Rattle.lock_tree.specs.Locks.{Waiting, used, plan_of, without, with_mark, AreAbove, IsRising}
use Rattle.lock_tree.specs.Enqueues.{AreBelow}
use Rattle.lock_tree.specs.Placing.{place_numbered}
use Rattle.lock_tree.specs.Views.{waiting_of, all_waiting}

pub same_numbers : (i k : ℕ) → (i == k) ≡ true → i ≡ k
same_numbers i k h = grind (arith, nat_tests)

other_numbers : (i k : ℕ) → i < k → (k == i) ≡ false
other_numbers i k h = grind (arith, nat_tests)

pub some_one : (i j : ℕ) → Some i ≡ Some j → i ≡ j
some_one i j e = cc

pub none_some : (i : ℕ) → None ≡ Some i → ⊥
none_some i e = absurd (cc)

-- a place after the first
pub later_place : (o : Option ℕ) (i : ℕ) → option_map (λ n. n + 1) o ≡ Some i → (j : ℕ) × (o ≡ Some j) × (i ≡ suc j)
later_place None i h = absurd (cc)
later_place (Some j) i h = let e : j + 1 ≡ i = cc in (j, refl, omega (arith, e))

pub no_later_place : (o : Option ℕ) → option_map (λ n. n + 1) o ≡ None → o ≡ None
no_later_place None h = refl
no_later_place (Some j) h = absurd (cc)

pub no_plan : (k : ℕ) (ws : List Waiting) → place_numbered k ws ≡ None → plan_of ws k ≡ None
no_plan k [] h = refl
no_plan k (w ∷ ws) h = elim (w.no == k) as (λ v. cond v (Some 0) (option_map (λ n. n + 1) (place_numbered k ws)) ≡ None → cond v (Some w.plan) (plan_of ws k) ≡ None) [
  | true ↦ λ h. absurd (cc)
  | false ↦ λ h. no_plan k ws (no_later_place (place_numbered k ws) h)
] h

-- what stands at the place of a number
abbrev pub at : List Enqueued → ℕ → Enqueued → Enqueued
at es i d = slice_index_or es i d

pub plan_at : (k : ℕ) (es : List Enqueued) (i : ℕ) (d : Enqueued) → place_numbered k (all_waiting es) ≡ Some i → plan_of (all_waiting es) k ≡ Some (at es i d).plan.value
plan_at k [] i d h = absurd (none_some i h)
plan_at k (e ∷ es) i d h = elim (e.no == k) as (λ v. cond v (Some 0) (option_map (λ n. n + 1) (place_numbered k (all_waiting es))) ≡ Some i → cond v (Some e.plan.value) (plan_of (all_waiting es) k) ≡ Some (at (e ∷ es) i d).plan.value) [
  | true ↦ λ h. ap (λ n. Some (at (e ∷ es) n d).plan.value) (some_one 0 i h)
  | false ↦ λ h. let j = later_place (place_numbered k (all_waiting es)) i h in plan_at k es j.0 d j.1 ∙ ap (λ n. Some (at (e ∷ es) n d).plan.value) (sym j.2)
] h

-- ---- numbers that rise

-- a number that is below all stands nowhere
not_above : (k : ℕ) (ws : List Waiting) → AreAbove k ws → (without k ws ≡ ws) × ((m : Bool) → with_mark k m ws ≡ ws)
not_above k [] h = (refl, λ m. refl)
not_above k (w ∷ ws) h =
    let other = other_numbers k w.no h.0 in
    let rest = not_above k ws h.1 in (
      ap (λ v. cond v (without k ws) (w ∷ without k ws)) other ∙ ap (λ xs. w ∷ xs) rest.0,
      λ m. ap (λ v. cond v (record w { marked = m }) w ∷ with_mark k m ws) other ∙ ap (λ xs. w ∷ xs) (rest.1 m),
    )

pub number_kept : (v : Bool) (w : Waiting) (m : Bool) → (cond v (record w { marked = m }) w).no ≡ w.no
number_kept true w m = refl
number_kept false w m = refl

pub plan_kept : (v : Bool) (w : Waiting) (m : Bool) → (cond v (record w { marked = m }) w).plan ≡ w.plan
plan_kept true w m = refl
plan_kept false w m = refl

pub used_marked : (k : ℕ) (m : Bool) (ws : List Waiting) → used (with_mark k m ws) ≡ used ws
used_marked k m [] = refl
used_marked k m (w ∷ ws) =
    let p : length (cond (w.no == k) (record w { marked = m }) w).plan ≡ length w.plan = ap length (plan_kept (w.no == k) w m) in
    let r = used_marked k m ws in
    omega (arith, p, r)

above_end : (a : ℕ) (ws : List Waiting) (w : Waiting) → AreAbove a ws → a < w.no → AreAbove a (ws ++ w ∷ [])
above_end a [] w h l = (l, tt)
above_end a (v ∷ ws) w h l = (h.0, above_end a ws w h.1 l)

pub rising_end : (ws : List Waiting) (w : Waiting) → IsRising ws → AreBelow w.no ws → IsRising (ws ++ w ∷ [])
rising_end [] w h b = (tt, tt)
rising_end (v ∷ ws) w h b = (above_end v.no ws w h.0 b.0, rising_end ws w h.1 b.1)

pub used_end : (ws : List Waiting) (w : Waiting) → used (ws ++ w ∷ []) ≡ used ws + length w.plan
used_end [] w = omega arith
used_end (v ∷ ws) w = let r = used_end ws w in omega (arith, r)

-- ---- what a change at the place of a number does

pub marked_at : (k : ℕ) (m : Bool) (es : List Enqueued) (i : ℕ) (d : Enqueued) → IsRising (all_waiting es) → place_numbered k (all_waiting es) ≡ Some i
    → all_waiting (slice_set es i (record (at es i d) { marked = m })) ≡ with_mark k m (all_waiting es)
marked_at k m [] i d r h = absurd (none_some i h)
marked_at k m (e ∷ es) i d r h = elim (e.no == k) as (λ v. (e.no == k) ≡ v → cond v (Some 0) (option_map (λ n. n + 1) (place_numbered k (all_waiting es))) ≡ Some i
    → all_waiting (slice_set (e ∷ es) i (record (at (e ∷ es) i d) { marked = m })) ≡ cond v (record (waiting_of e) { marked = m }) (waiting_of e) ∷ with_mark k m (all_waiting es)) [
      | true ↦ λ here h.
          let above : AreAbove k (all_waiting es) = subst (λ n. AreAbove n (all_waiting es)) (same_numbers e.no k here) r.0 in
          ap (λ n. all_waiting (slice_set (e ∷ es) n (record (at (e ∷ es) n d) { marked = m }))) (sym (some_one 0 i h))
          ∙ ap (λ xs. record (waiting_of e) { marked = m } ∷ xs) (sym ((not_above k (all_waiting es) above).1 m))
      | false ↦ λ elsewhere h.
          let j = later_place (place_numbered k (all_waiting es)) i h in
          ap (λ n. all_waiting (slice_set (e ∷ es) n (record (at (e ∷ es) n d) { marked = m }))) j.2
          ∙ ap (λ xs. waiting_of e ∷ xs) (marked_at k m es j.0 d r.1 j.1)
    ] refl h

pub no_mark : (k : ℕ) (m : Bool) (ws : List Waiting) → place_numbered k ws ≡ None → with_mark k m ws ≡ ws
no_mark k m [] h = refl
no_mark k m (w ∷ ws) h = elim (w.no == k) as (λ v. cond v (Some 0) (option_map (λ n. n + 1) (place_numbered k ws)) ≡ None → cond v (record w { marked = m }) w ∷ with_mark k m ws ≡ w ∷ ws) [
  | true ↦ λ h. absurd (cc)
  | false ↦ λ h. ap (λ xs. w ∷ xs) (no_mark k m ws (no_later_place (place_numbered k ws) h))
] h

pub no_without : (k : ℕ) (ws : List Waiting) → place_numbered k ws ≡ None → without k ws ≡ ws
no_without k [] h = refl
no_without k (w ∷ ws) h = elim (w.no == k) as (λ v. cond v (Some 0) (option_map (λ n. n + 1) (place_numbered k ws)) ≡ None → cond v (without k ws) (w ∷ without k ws) ≡ w ∷ ws) [
  | true ↦ λ h. absurd (cc)
  | false ↦ λ h. ap (λ xs. w ∷ xs) (no_without k ws (no_later_place (place_numbered k ws) h))
] h

remove_first : (e : Enqueued) (es : List Enqueued) → remove (e ∷ es) 0 ≡ es
remove_first e es = refl

remove_later : (e : Enqueued) (es : List Enqueued) (i : ℕ) → remove (e ∷ es) (suc i) ≡ e ∷ remove es i
remove_later e es i = refl

pub removed_at : (k : ℕ) (es : List Enqueued) (i : ℕ) → IsRising (all_waiting es) → place_numbered k (all_waiting es) ≡ Some i
    → all_waiting (remove es i) ≡ without k (all_waiting es)
removed_at k [] i r h = absurd (none_some i h)
removed_at k (e ∷ es) i r h = elim (e.no == k) as (λ v. (e.no == k) ≡ v → cond v (Some 0) (option_map (λ n. n + 1) (place_numbered k (all_waiting es))) ≡ Some i
    → all_waiting (remove (e ∷ es) i) ≡ cond v (without k (all_waiting es)) (waiting_of e ∷ without k (all_waiting es))) [
      | true ↦ λ here h.
          let above : AreAbove k (all_waiting es) = subst (λ n. AreAbove n (all_waiting es)) (same_numbers e.no k here) r.0 in
          ap (λ n. all_waiting (remove (e ∷ es) n)) (sym (some_one 0 i h)) ∙ ap all_waiting (remove_first e es) ∙ sym (not_above k (all_waiting es) above).0
      | false ↦ λ elsewhere h.
          let j = later_place (place_numbered k (all_waiting es)) i h in
          ap (λ n. all_waiting (remove (e ∷ es) n)) j.2 ∙ ap all_waiting (remove_later e es j.0)
          ∙ ap (λ xs. waiting_of e ∷ xs) (removed_at k es j.0 r.1 j.1)
    ] refl h

pub used_at : (k : ℕ) (es : List Enqueued) (i : ℕ) (d : Enqueued) → IsRising (all_waiting es) → place_numbered k (all_waiting es) ≡ Some i
    → used (all_waiting es) ≡ length (at es i d).plan.value + used (without k (all_waiting es))
used_at k [] i d r h = absurd (none_some i h)
used_at k (e ∷ es) i d r h = elim (e.no == k) as (λ v. (e.no == k) ≡ v → cond v (Some 0) (option_map (λ n. n + 1) (place_numbered k (all_waiting es))) ≡ Some i
    → length e.plan.value + used (all_waiting es) ≡ length (at (e ∷ es) i d).plan.value + used (cond v (without k (all_waiting es)) (waiting_of e ∷ without k (all_waiting es)))) [
      | true ↦ λ here h.
          let above : AreAbove k (all_waiting es) = subst (λ n. AreAbove n (all_waiting es)) (same_numbers e.no k here) r.0 in
          let p : length e.plan.value ≡ length (at (e ∷ es) i d).plan.value = ap (λ n. length (at (e ∷ es) n d).plan.value) (some_one 0 i h) in
          let u : used (without k (all_waiting es)) ≡ used (all_waiting es) = ap used (not_above k (all_waiting es) above).0 in
          omega (arith, p, u)
      | false ↦ λ elsewhere h.
          let j = later_place (place_numbered k (all_waiting es)) i h in
          let p : length (at (e ∷ es) i d).plan.value ≡ length (at es j.0 d).plan.value = ap (λ n. length (at (e ∷ es) n d).plan.value) j.2 in
          let u = used_at k es j.0 d r.1 j.1 in
          omega (arith, p, u)
    ] refl h

-- ---- members

pub entry_there : (es : List Enqueued) (i : ℕ) (d : Enqueued) → i < length es → Contains (all_waiting es) (waiting_of (at es i d))
entry_there [] i d h = absurd (omega (arith, h))
entry_there (e ∷ es) zero d h = (0, omega arith, refl)
entry_there (e ∷ es) (suc i) d h = let r = entry_there es i d (omega (arith, h)) in (suc r.0, (let l = r.1 in omega (arith, l)), r.2)

above_member : (a : ℕ) (ws : List Waiting) (w : Waiting) → AreAbove a ws → Contains ws w → a < w.no
above_member a [] w h k = absurd (let l = k.1 in omega (arith, l))
above_member a (v ∷ ws) w h (zero, l, is) = let same : v ≡ w = is in subst (λ (x : Waiting). a < x.no) same h.0
above_member a (v ∷ ws) w h (suc n, l, is) = above_member a ws w h.1 (n, omega (arith, l), is)

first_of : (rest : List Waiting) (v w : Waiting) → IsRising (v ∷ rest) → Contains (v ∷ rest) w → v.no ≤ w.no
first_of rest v w r (zero, l, is) = let same : v ≡ w = is in let e = ap (λ (x : Waiting). x.no) same in omega (arith, e)
first_of rest v w r (suc n, l, is) = let a = above_member v.no rest w r.0 (n, omega (arith, l), is) in omega (arith, a)
