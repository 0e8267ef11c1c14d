-- The names that a plan locks are free, where it is in conflict with no plan that is lent.
use Rattle.std.proofs.Common.{◌≡◌, ℕ, Bool, true, false, not, ◌&&◌, ◌||◌, cond, List, [], ◌∷◌, refl, sym, ap, ◌∙◌, Some, None, Ordering, Less, Equal, Greater, arith}
use Rattle.std.specs.Prelude.{T}
use Rattle.std.proofs.lemmas.Grind.{common_steps}
use Rattle.std.specs.Ordering.{nat_cmp, eq_by_cmp, is_eq, is_lt}
use Rattle.std.specs.Cmp.{nat_cmp_total}
use Rattle.std.specs.List.{list_any}
use Rattle.std.specs.FinMap.{find, is_sorted, entries, entries_sorted, get-entries}
use Rattle.std.specs.FinMap.Entries.{below_all, find_tied}
use Rattle.proclang_types.specs.declared.right.Right.TheVariants.{Write}
use Rattle.coarsen.specs.Subtrees.{Requests}
use Rattle.coarsen.specs.Clashes.{locks_row}
use Rattle.coarsen.specs.Laws.{LockedRowsConflict}
use Rattle.row_store.specs.Laws.{FreeWhereApart}

abbrev Lents : Type 0
Lents = List (ℕ × Requests)

parts : (a b : Bool) → T (a && b) → T a × T b
parts true true h = (tt, tt)
parts true false h = absurd h
parts false b h = absurd h

less_differs : (o : Ordering) → T (is_lt o) → is_eq o ≡ false
less_differs Less h = refl
less_differs Equal h = absurd h
less_differs Greater h = absurd h

tied : (o : Ordering) → is_eq o ≡ true → o ≡ Equal
tied Less h = absurd (cc)
tied Equal h = refl
tied Greater h = absurd (cc)

-- a number below all has nothing
nothing_at : (x : ℕ) (es : Lents) → T (below_all nat_cmp x es) → find nat_cmp x es ≡ None
nothing_at x [] h = refl
nothing_at x (e ∷ es) h =
    let p = parts (is_lt (nat_cmp x e.0)) (below_all nat_cmp x es) h in
    ap (λ b. cond b (Some e.1) (find nat_cmp x es)) (less_differs (nat_cmp x e.0) p.0) ∙ nothing_at x es p.1

itself : (x : ℕ) → eq_by_cmp nat_cmp x x ≡ true
itself x = grind (arith, common_steps)

-- a later one is found past the first
found_past : (i : ℕ) (p : Requests) (e : ℕ × Requests) (es : Lents) → T (below_all nat_cmp e.0 es) → find nat_cmp i es ≡ Some p → find nat_cmp i (e ∷ es) ≡ Some p
found_past i p e es below is = elim (eq_by_cmp nat_cmp i e.0) as (λ b. eq_by_cmp nat_cmp i e.0 ≡ b → cond b (Some e.1) (find nat_cmp i es) ≡ Some p) [
  | true ↦ λ t.
      let same : find nat_cmp e.0 es ≡ find nat_cmp i es = find_tied nat_cmp nat_cmp_total i e.0 (tied (nat_cmp i e.0) t) es in
      absurd (let g : None ≡ Some p = sym (nothing_at e.0 es below) ∙ same ∙ is in cc)
  | false ↦ λ t. is
] refl

-- what fails of each that is found, fails of all
none_passes : (f : Requests → Bool) (es : Lents) → T (is_sorted nat_cmp es) → ((i : ℕ) (p : Requests) → find nat_cmp i es ≡ Some p → f p ≡ false) → list_any (λ e. f e.1) es ≡ false
none_passes f [] sorted h = refl
none_passes f (e ∷ es) sorted h =
    let s = parts (below_all nat_cmp e.0 es) (is_sorted nat_cmp es) sorted in
    ap (λ b. b || list_any (λ x. f x.1) es) (h e.0 e.1 (ap (λ b. cond b (Some e.1) (find nat_cmp e.0 es)) (itself e.0)))
    ∙ none_passes f es s.1 (λ i p is. h i p (found_past i p e es s.0 is))

unlocked : (b : Bool) → (b ≡ true → ⊥) → b ≡ false
unlocked true h = absurd (h refl)
unlocked false h = refl

pub free_where_apart : LockedRowsConflict → FreeWhereApart
free_where_apart law tables lent plan sound apart name locked =
    ap not (none_passes (λ r. locks_row tables r name Write) (entries lent) (entries_sorted lent) (λ i p is.
    let a = apart i p (get-entries lent i ∙ is) in
    unlocked (locks_row tables p name Write) (λ w. a.1 (law tables p plan a.0 sound name w locked))))
