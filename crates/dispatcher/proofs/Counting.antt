-- Tallies of replies: those of one reply more, and those of the transactions that are settled.
use Rattle.std.proofs.Common.{◌≡◌, ℕ, zero, suc, ◌+◌, ◌≤◌, Bool, true, false, cond, if◌then◌else◌, List, [], ◌∷◌, ◌++◌, length, map, Some, not, refl, sym, ap, ◌∙◌, subst, arith, slice_get, slice_set}
use Rattle.std.specs.Prelude.{count_by}
use Rattle.std.specs.List.{list_all}
use Rattle.std.proofs.lemmas.List.Sums.{sum_by-cons}
use Rattle.meaning.specs.Entries.{Reply, commit, aborted, stale}
use Rattle.scheduler_core.specs.declared.phase.Phase.{Phase}
use Rattle.scheduler_core.specs.declared.phase.Phase.TheVariants.{Idle, Out, Ran, Settled}
use Rattle.scheduler_core.specs.Phases.{is_settled, was_run}
use Rattle.scheduler.specs.Settling.{after_settling}
use Rattle.progress.specs.declared.tally.Tally.{Tally}
use Rattle.sequencer.specs.Attempts.{is_stale}
use Rattle.progress.specs.Tallies.{AddsUp}
use Rattle.dispatcher.specs.Tallies.{is_commit, is_abort, tally_of, together, counted, settled_among}
use Rattle.dispatcher.proofs.Facts.{none_some, some_is, and_left, and_right, not_true}

-- ---- tallies

abbrev at : ℕ → ℕ → ℕ → ℕ → Tally
at a b c d = record { settled = a; committed = b; aborted = c; stale = d }

same_tally : (a b c d a' b' c' d' : ℕ) → a ≡ a' → b ≡ b' → c ≡ c' → d ≡ d' → at a b c d ≡ at a' b' c' d'
same_tally a b c d a' b' c' d' p q r s = λ i. at (p i) (q i) (r i) (s i)

front : (p : Reply → Bool) (r : Reply) (rs : List Reply) → count_by p (r ∷ rs) ≡ count_by p rs + count_by p (r ∷ [])
front p r rs =
    let many = sum_by-cons (λ x. cond (p x) 1 0) r rs in
    let one = sum_by-cons (λ x. cond (p x) 1 0) r [] in
    omega (arith, many, one)

pub cons_tally : (r : Reply) (rs : List Reply) → tally_of (r ∷ rs) ≡ counted (tally_of rs) r
cons_tally r rs = same_tally _ _ _ _ _ _ _ _ (omega arith) (front is_commit r rs) (front is_abort r rs) (front is_stale r rs)

swapped : (t : Tally) (r q : Reply) → counted (counted t r) q ≡ counted (counted t q) r
swapped t r q = same_tally _ _ _ _ _ _ _ _ (omega arith) (omega arith) (omega arith) (omega arith)

pub together_counted : (t u : Tally) (r : Reply) → together t (counted u r) ≡ counted (together t u) r
together_counted t u r = same_tally _ _ _ _ _ _ _ _ (omega arith) (omega arith) (omega arith) (omega arith)

pub together_none : (t : Tally) → together t (tally_of []) ≡ t
together_none t = same_tally _ _ _ _ _ _ _ _ (omega arith) (omega arith) (omega arith) (omega arith)

one_kind : (r : Reply) → ◌≡◌ {A = ℕ} 1 (count_by is_commit (r ∷ []) + count_by is_abort (r ∷ []) + count_by is_stale (r ∷ []))
one_kind (commit values) = refl
one_kind (aborted code) = refl
one_kind stale = refl

pub counted_adds_up : (t : Tally) (r : Reply) → AddsUp t → AddsUp (counted t r)
counted_adds_up t r h = let o = one_kind r in omega (arith, h, o)

-- each reply is of one kind
pub tally_adds_up : (rs : List Reply) → AddsUp (tally_of rs)
tally_adds_up [] = refl
tally_adds_up (r ∷ rs) = subst AddsUp (sym (cons_tally r rs)) (counted_adds_up (tally_of rs) r (tally_adds_up rs))

-- ---- what is settled

with_head : (b c : Bool) (r : Reply) (rs : List Reply) → b ≡ c → (if b then r ∷ rs else rs) ≡ (if c then r ∷ rs else rs)
with_head b c r rs e = ap (λ x. if x then r ∷ rs else rs) e

with_tail : (b : Bool) (r : Reply) (xs ys : List Reply) → xs ≡ ys → (if b then r ∷ xs else xs) ≡ (if b then r ∷ ys else ys)
with_tail b r xs ys e = ap (λ (zs : List Reply). if b then r ∷ zs else zs) e

-- another phase at a place where nothing is settled, nor will be
pub set_open : (ps : List Phase) (rs : List Reply) (k : ℕ) (q : Phase) → is_settled (slice_get ps k) ≡ false → is_settled (Some q) ≡ false
    → settled_among (slice_set ps k q) rs ≡ settled_among ps rs
set_open [] rs k q was now = refl
set_open (p ∷ ps) [] zero q was now = refl
set_open (p ∷ ps) [] (suc k) q was now = refl
set_open (p ∷ ps) (r ∷ rs) zero q was now = with_head (is_settled (Some q)) (is_settled (Some p)) r (settled_among ps rs) (now ∙ sym was)
set_open (p ∷ ps) (r ∷ rs) (suc k) q was now = with_tail (is_settled (Some p)) r (settled_among (slice_set ps k q) rs) (settled_among ps rs) (set_open ps rs k q was now)

more : (b : Bool) (s r : Reply) (xs ys : List Reply) → tally_of xs ≡ counted (tally_of ys) r
    → tally_of (if b then s ∷ xs else xs) ≡ counted (tally_of (if b then s ∷ ys else ys)) r
more false s r xs ys h = h
more true s r xs ys h =
    cons_tally s xs ∙ ap (λ (t : Tally). counted t s) h ∙ swapped (tally_of ys) r s ∙ ap (λ (t : Tally). counted t r) (sym (cons_tally s ys))

-- a transaction that is settled counts beside the others
pub set_more : (ps : List Phase) (rs : List Reply) (k : ℕ) (r : Reply) → is_settled (slice_get ps k) ≡ true → slice_get rs k ≡ Some r
    → tally_of (settled_among ps rs) ≡ counted (tally_of (settled_among (slice_set ps k Idle) rs)) r
set_more [] rs k r is there = absurd (let e : false ≡ true = is in cc)
set_more (p ∷ ps) [] zero r is there = absurd (none_some r there)
set_more (p ∷ ps) [] (suc k) r is there = absurd (none_some r there)
set_more (p ∷ ps) (s ∷ rs) zero r is there =
    ap tally_of (with_head (is_settled (Some p)) true s (settled_among ps rs) is)
    ∙ cons_tally s (settled_among ps rs)
    ∙ ap (counted (tally_of (settled_among ps rs))) (some_is s r there)
set_more (p ∷ ps) (s ∷ rs) (suc k) r is there =
    more (is_settled (Some p)) s r (settled_among ps rs) (settled_among (slice_set ps k Idle) rs) (set_more ps rs k r is there)

pub pushed_same : (ps : List Phase) (rs : List Reply) → settled_among (ps ++ Idle ∷ []) rs ≡ settled_among ps rs
pushed_same [] [] = refl
pushed_same [] (r ∷ rs) = refl
pushed_same (p ∷ ps) [] = refl
pushed_same (p ∷ ps) (r ∷ rs) = with_tail (is_settled (Some p)) r (settled_among (ps ++ Idle ∷ []) rs) (settled_among ps rs) (pushed_same ps rs)

after_same : (p : Phase) → was_run (Some p) ≡ false → is_settled (Some (after_settling p)) ≡ is_settled (Some p)
after_same Idle was = refl
after_same Out was = refl
after_same Ran was = absurd (let e : true ≡ false = was in cc)
after_same Settled was = refl

-- taking back what was only lent
pub settling_same : (ps : List Phase) (rs : List Reply) → ((place : ℕ) → was_run (slice_get ps place) ≡ false)
    → settled_among (map after_settling ps) rs ≡ settled_among ps rs
settling_same [] rs none = refl
settling_same (p ∷ ps) [] none = refl
settling_same (p ∷ ps) (r ∷ rs) none =
    with_head (is_settled (Some (after_settling p))) (is_settled (Some p)) r (settled_among (map after_settling ps) rs) (after_same p (none zero))
    ∙ with_tail (is_settled (Some p)) r (settled_among (map after_settling ps) rs) (settled_among ps rs) (settling_same ps rs (λ place. none (suc place)))

-- where all are settled, all replies are
pub all_among : (ps : List Phase) (rs : List Reply) → length ps ≡ length rs → list_all (λ p. is_settled (Some p)) ps ≡ true → settled_among ps rs ≡ rs
all_among [] [] same all = refl
all_among [] (r ∷ rs) same all = absurd (cc)
all_among (p ∷ ps) [] same all = absurd (cc)
all_among (p ∷ ps) (r ∷ rs) same all =
    let first = and_left (is_settled (Some p)) (list_all (λ q. is_settled (Some q)) ps) all in
    let rest = and_right (is_settled (Some p)) (list_all (λ q. is_settled (Some q)) ps) all in
    with_head (is_settled (Some p)) true r (settled_among ps rs) first ∙ ap (λ xs. r ∷ xs) (all_among ps rs (cc) rest)

-- where none is settled, no reply is
pub none_among : (ps : List Phase) (rs : List Reply) → list_all (λ p. not (is_settled (Some p))) ps ≡ true → settled_among ps rs ≡ []
none_among [] rs none = refl
none_among (p ∷ ps) [] none = refl
none_among (p ∷ ps) (r ∷ rs) none =
    let first = and_left (not (is_settled (Some p))) (list_all (λ q. not (is_settled (Some q))) ps) none in
    let rest = and_right (not (is_settled (Some p))) (list_all (λ q. not (is_settled (Some q))) ps) none in
    with_head (is_settled (Some p)) false r (settled_among ps rs) (not_true (is_settled (Some p)) first) ∙ none_among ps rs rest

longer : (b : Bool) (r : Reply) (xs : List Reply) (n : ℕ) → length xs ≤ n → length (if b then r ∷ xs else xs) ≤ suc n
longer true r xs n h = omega (arith, h)
longer false r xs n h = omega (arith, h)

pub among_few : (ps : List Phase) (rs : List Reply) → length (settled_among ps rs) ≤ length rs
among_few [] rs = omega arith
among_few (p ∷ ps) [] = omega arith
among_few (p ∷ ps) (r ∷ rs) = longer (is_settled (Some p)) r (settled_among ps rs) (length rs) (among_few ps rs)
