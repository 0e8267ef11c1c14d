-- Whether one more transaction would be ready at once.
use Rattle.std.proofs.Common.{◌≡◌, ℕ, ◌==◌, ◌<◌, ◌≤◌, zero, suc, Bool, true, false, cond, ◌&&◌, ◌||◌, List, [], ◌∷◌, ◌++◌, length, take, Option, None, Some, refl, sym, ◌∙◌, ap, subst, arith, slice_get}
use Rattle.std.proofs.lemmas.Bool.Decides.{nat_tests}
use Rattle.std.proofs.lemmas.Option.{slice_get_within}
use Rattle.std.specs.List.{list_all, Contains}
use Rattle.footprint.specs.declared.resource.Resource.{Resource}
use Rattle.modes.specs.declared.mode.Mode.{Mode}
use Rattle.modes.specs.Modes.{are_compatible}
use Rattle.coarsen.specs.Subtrees.{Requests}
use Rattle.coarsen.specs.Plans.{IsWellFormed}
use Rattle.request_arena.specs.declared.node.Held.{Held as HeldNode}
use Rattle.lock_tree.specs.declared.line.Line.{Line}
use Rattle.lock_tree.specs.Locks.{Waiting, plan_of}
use Rattle.lock_tree.specs.Enqueues.{AreBelow}
use Rattle.lock_tree.specs.Queues.{Queue, mode_on, asks, queue, granted_beside, granted, has_number}
use Rattle.lock_tree.specs.Ready.{ready, all_granted}
use Rattle.lock_tree.specs.Lines.{requests, modes_of, numbers_of, AllUnder}
use Rattle.lock_tree.specs.Held.{AreHeld}
use Rattle.lock_tree.specs.Granted.{admits, IsLine}
use Rattle.lock_tree.proofs.Apart.{asked}
use Rattle.lock_tree.proofs.Asking.{requests_length}
use Rattle.lock_tree.proofs.Leaving.{granted_length, granted_front}
use Rattle.lock_tree.proofs.Trees.{queue_end}

-- ---- one queue

other_way : (n k : ℕ) → n < k → (n == k) ≡ false
other_way n k h = grind (arith, nat_tests)

pub itself : (k : ℕ) → (k == k) ≡ true
itself k = grind (arith, nat_tests)

both_false : (a : Bool) → (a && false) ≡ false
both_false true = refl
both_false false = refl

around : (a b c d : Bool) → (a && ((b && c) && d)) ≡ (a && (c && (b && d)))
around false b c d = refl
around true true c d = refl
around true false c d = sym (both_false c)

more_same : (a b : ℕ) → (suc a == suc b) ≡ (a == b)
more_same a b = grind (arith, nat_tests)

none_more : (n : ℕ) → (0 == suc n) ≡ false
none_more n = grind (arith, nat_tests)

-- the request that comes last is granted where all are, and fit it
last_beside : (held : List Mode) (n : ℕ) (mode : Mode) (q : Queue) → AllUnder n (numbers_of q)
    → has_number n (granted_beside held (q ++ (n, mode) ∷ []))
    ≡ ((length (granted_beside held q) == length q) && (list_all (λ h. are_compatible h mode) held && list_all (λ h. are_compatible h mode) (modes_of q)))
last_beside held n mode [] under =
    elim (list_all (λ h. are_compatible h mode) held) as (λ v. has_number n (cond v ((n, mode) ∷ []) []) ≡ (v && true)) [
      | true ↦ ap (λ v. v || false) (itself n)
      | false ↦ refl
    ]
last_beside held n mode (x ∷ q) under =
    elim (list_all (λ h. are_compatible h x.1) held) as (λ v. has_number n (cond v (x ∷ granted_beside (x.1 ∷ held) (q ++ (n, mode) ∷ [])) [])
    ≡ ((length (cond v (x ∷ granted_beside (x.1 ∷ held) q) []) == suc (length q))
    && (list_all (λ h. are_compatible h mode) held && (are_compatible x.1 mode && list_all (λ h. are_compatible h mode) (modes_of q))))) [
      | true ↦
          ap (λ v. v || has_number n (granted_beside (x.1 ∷ held) (q ++ (n, mode) ∷ []))) (other_way x.0 n under.0)
          ∙ last_beside (x.1 ∷ held) n mode q under.1
          ∙ around (length (granted_beside (x.1 ∷ held) q) == length q) (are_compatible x.1 mode) (list_all (λ h. are_compatible h mode) held) (list_all (λ h. are_compatible h mode) (modes_of q))
          ∙ ap (λ v. v && (list_all (λ h. are_compatible h mode) held && (are_compatible x.1 mode && list_all (λ h. are_compatible h mode) (modes_of q))))
          (sym (more_same (length (granted_beside (x.1 ∷ held) q)) (length q)))
      | false ↦ ap (λ v. v && (list_all (λ h. are_compatible h mode) held && (are_compatible x.1 mode && list_all (λ h. are_compatible h mode) (modes_of q)))) (sym (none_more (length q)))
    ]

last_granted : (n : ℕ) (mode : Mode) (q : Queue) → AllUnder n (numbers_of q) → has_number n (granted (q ++ (n, mode) ∷ [])) ≡ admits q mode
last_granted n mode q under = last_beside [] n mode q under

-- ---- what is noted of a queue

module _ (hs : List (Option HeldNode)) (xs : List ℕ) (x : Line) (mode : Mode) (is : IsLine hs xs x) where
  abbrev q : Queue
  q = requests hs xs

  whole : x.waiting ≡ None → length (granted q) ≡ length q
  whole none =
      let past : length xs ≤ x.granted = past_end xs x.granted (sym is.front.waiting ∙ none) in
      let all : x.granted ≡ length (granted q) = is.all in
      let most : length (granted q) ≤ length q = granted_length q in
      let many : length q ≡ length xs = requests_length hs xs in
      omega (arith, past, all, most, many)
    where
      past_end : (ys : List ℕ) (n : ℕ) → slice_get ys n ≡ None → length ys ≤ n
      past_end [] n e = omega arith
      past_end (y ∷ ys) zero e = absurd (cc)
      past_end (y ∷ ys) (suc n) e = let l = past_end ys n e in omega (arith, l)

  -- nothing waits, and so all that is held is all that is asked for
  pub admits_more : (b : Bool) → x.waiting ≡ None → ((held : List Mode) → AreHeld x.held held → b ≡ list_all (λ h. are_compatible h mode) held) → b ≡ admits q mode
  admits_more b none fits =
      let e : length (granted q) ≡ length q = whole none in
      let front : take x.granted q ≡ q = ap (λ n. take n q) is.all ∙ granted_front q ∙ whole_front q e in
      fits (modes_of q) (subst (λ r. AreHeld x.held (modes_of r)) front is.front.held)
      ∙ ap (λ v. v && list_all (λ h. are_compatible h mode) (modes_of q)) (sym (let t : (length (granted q) == length q) ≡ true = grind (arith, nat_tests) in t))
    where
      taken : (r : Queue) → take (length r) r ≡ r
      taken [] = refl
      taken (y ∷ r) = ap (λ ys. y ∷ ys) (taken r)

      whole_front : (r : Queue) → length (granted r) ≡ length r → granted r ≡ r
      whole_front r e = sym (granted_front r) ∙ ap (λ n. take n r) e ∙ taken r

  -- one waits
  pub admits_none : (a : ℕ) → x.waiting ≡ Some a → false ≡ admits q mode
  admits_none a waits =
      let near : x.granted < length xs = slice_get_within xs x.granted a (sym is.front.waiting ∙ waits) in
      let many : length q ≡ length xs = requests_length hs xs in
      let all : x.granted ≡ length (granted q) = is.all in
      let less : length (granted q) < length q = omega (arith, near, many, all) in
      ap (λ v. v && list_all (λ h. are_compatible h mode) (modes_of q)) (sym (other_way (length (granted q)) (length q) less))

-- ---- all of them

plan_end : (ws : List Waiting) (n : ℕ) (plan : Requests) → AreBelow n ws → plan_of (ws ++ record { no = n; plan = plan; marked = false } ∷ []) n ≡ Some plan
plan_end [] n plan below = ap (λ v. cond v (Some plan) None) (itself n)
plan_end (w ∷ ws) n plan below = ap (λ v. cond v (Some w.plan) (plan_of (ws ++ record { no = n; plan = plan; marked = false } ∷ []) n)) (other_way w.no n below.0) ∙ plan_end ws n plan below.1

under_next : (n : ℕ) (r : Resource) (ws : List Waiting) → AreBelow n ws → AllUnder n (numbers_of (queue r ws))
under_next n r [] below = tt
under_next n r (w ∷ ws) below = elim (mode_on r w.plan) as (λ o. AllUnder n (numbers_of (asks w.no o (queue r ws)))) [
  | None ↦ under_next n r ws below.1
  | Some mode ↦ (below.0, under_next n r ws below.1)
]

module _ (ws : List Waiting) (n : ℕ) (plan : Requests) (below : AreBelow n ws) (sound : IsWellFormed plan) where
  abbrev more : List Waiting
  more = ws ++ record { no = n; plan = plan; marked = false } ∷ []

  one : (e : Resource × Mode) → Contains plan e → has_number n (granted (queue e.0 more)) ≡ admits (queue e.0 ws) e.1
  one e there =
      ap (λ q. has_number n (granted q)) (queue_end e.0 ws (record { no = n; plan = plan; marked = false }) ∙ ap (λ o. queue e.0 ws ++ asks n o []) (asked plan e sound.ordered there))
      ∙ last_granted n e.1 (queue e.0 ws) (under_next n e.0 ws below)

  each : (es : Requests) → ((e : Resource × Mode) → Contains es e → Contains plan e)
      → list_all (λ e. has_number n (granted (queue e.0 more))) es ≡ list_all (λ e. admits (queue e.0 ws) e.1) es
  each [] within = refl
  each (e ∷ es) within =
      ap (λ v. v && list_all (λ x. has_number n (granted (queue x.0 more))) es) (one e (within e (0, omega arith, refl)))
      ∙ ap (λ v. admits (queue e.0 ws) e.1 && v) (each es (λ x (k, l, is). within x (suc k, omega (arith, l), is)))

  pub joins : ready more n ≡ list_all (λ e. admits (queue e.0 ws) e.1) plan
  joins = ap (all_granted more n) (plan_end ws n plan below) ∙ each plan (λ e there. there)

-- the queues as they are noted
pub all_admit : (lines : Resource → Queue) (ws : List Waiting) → ((r : Resource) → lines r ≡ queue r ws) → (es : Requests)
    → list_all (λ e. admits (lines e.0) e.1) es ≡ list_all (λ e. admits (queue e.0 ws) e.1) es
all_admit lines ws is [] = refl
all_admit lines ws is (e ∷ es) =
    ap (λ q. admits q e.1 && list_all (λ x. admits (lines x.0) x.1) es) (is e.0) ∙ ap (λ v. admits (queue e.0 ws) e.1 && v) (all_admit lines ws is es)
