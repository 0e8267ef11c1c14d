-- Counts of modes.
use Rattle.std.proofs.Common.{◌≡◌, ℕ, ◌+◌, ◌≤◌, ◌==◌, Bool, true, false, cond, ◌&&◌, ◌||◌, List, [], ◌∷◌, length, refl, sym, ◌∙◌, ap, arith}
use Rattle.std.specs.List.{list_all}
use Rattle.std.proofs.lemmas.Bool.Decides.{nat_tests}
use Rattle.modes.specs.declared.mode.Mode.{Mode}
use Rattle.modes.specs.declared.mode.Mode.TheVariants.{IntentionShared, IntentionExclusive, Shared, SharedIntentionExclusive, Exclusive}
use Rattle.modes.specs.Modes.{are_compatible}
use Rattle.lock_tree.specs.declared.held.Held.{Held}
use Rattle.lock_tree.specs.Held.{is_mode, times, AreHeld, spares}

pub times_few : (m : Mode) (held : List Mode) → times m held ≤ length held
times_few m [] = omega arith
times_few m (h ∷ held) = let l = times_few m held in elim (is_mode m h) as (λ v. cond v (times m held + 1) (times m held) ≤ length (h ∷ held)) [
  | true ↦ omega (arith, l)
  | false ↦ omega (arith, l)
]

-- whether a mode is compatible with all that are counted
abbrev pub all_spare : List Mode → Mode → Bool
all_spare held c = spares (times IntentionShared held) IntentionShared c && (spares (times IntentionExclusive held) IntentionExclusive c
    && (spares (times Shared held) Shared c && (spares (times SharedIntentionExclusive held) SharedIntentionExclusive c && (spares (times Exclusive held) Exclusive c && true))))

tested_before : (p s x y : Bool) → (p && x) ≡ y → (p && (s && x)) ≡ (s && y)
tested_before p true x y h = h
tested_before true false x y h = refl
tested_before false false x y h = refl

one_more : (n : ℕ) (p : Bool) → ((n + 1 == 0) || p) ≡ p
one_more n p = let e : (n + 1 == 0) ≡ false = grind (arith, nat_tests) in ap (λ v. v || p) e

absorbed : (n : ℕ) (p r : Bool) → (p && (((n == 0) || p) && r)) ≡ (((n + 1 == 0) || p) && r)
absorbed n p r = go p (n == 0) r ∙ sym (ap (λ v. v && r) (one_more n p))
  where
    go : (p b r : Bool) → (p && ((b || p) && r)) ≡ (p && r)
    go true true r = refl
    go true false r = refl
    go false b r = refl

module _ (c : Mode) (held : List Mode) where
  abbrev of : Mode → Bool
  of m = spares (times m held) m c

  abbrev p : Mode → Bool
  p m = are_compatible m c

  step : (h : Mode) → (are_compatible h c && all_spare held c) ≡ all_spare (h ∷ held) c
  step IntentionShared = absorbed (times IntentionShared held) (p IntentionShared) (of IntentionExclusive && (of Shared && (of SharedIntentionExclusive && (of Exclusive && true))))
  step IntentionExclusive = tested_before (p IntentionExclusive) (of IntentionShared) (of IntentionExclusive && (of Shared && (of SharedIntentionExclusive && (of Exclusive && true)))) _
      (absorbed (times IntentionExclusive held) (p IntentionExclusive) (of Shared && (of SharedIntentionExclusive && (of Exclusive && true))))
  step Shared = tested_before (p Shared) (of IntentionShared) (of IntentionExclusive && (of Shared && (of SharedIntentionExclusive && (of Exclusive && true)))) _
      (tested_before (p Shared) (of IntentionExclusive) (of Shared && (of SharedIntentionExclusive && (of Exclusive && true))) _
      (absorbed (times Shared held) (p Shared) (of SharedIntentionExclusive && (of Exclusive && true))))
  step SharedIntentionExclusive = tested_before (p SharedIntentionExclusive) (of IntentionShared) (of IntentionExclusive && (of Shared && (of SharedIntentionExclusive && (of Exclusive && true)))) _
      (tested_before (p SharedIntentionExclusive) (of IntentionExclusive) (of Shared && (of SharedIntentionExclusive && (of Exclusive && true))) _
      (tested_before (p SharedIntentionExclusive) (of Shared) (of SharedIntentionExclusive && (of Exclusive && true)) _
      (absorbed (times SharedIntentionExclusive held) (p SharedIntentionExclusive) (of Exclusive && true))))
  step Exclusive = tested_before (p Exclusive) (of IntentionShared) (of IntentionExclusive && (of Shared && (of SharedIntentionExclusive && (of Exclusive && true)))) _
      (tested_before (p Exclusive) (of IntentionExclusive) (of Shared && (of SharedIntentionExclusive && (of Exclusive && true))) _
      (tested_before (p Exclusive) (of Shared) (of SharedIntentionExclusive && (of Exclusive && true)) _
      (tested_before (p Exclusive) (of SharedIntentionExclusive) (of Exclusive && true) _
      (absorbed (times Exclusive held) (p Exclusive) true))))

pub fits_counted : (held : List Mode) (c : Mode) → all_spare held c ≡ list_all (λ h. are_compatible h c) held
fits_counted [] c = refl
fits_counted (h ∷ held) c = sym (step c held h) ∙ ap (λ v. are_compatible h c && v) (fits_counted held c)

all_five : (a b c d e : Bool) → ((((a && b) && c) && d) && e) ≡ (a && (b && (c && (d && (e && true)))))
all_five false b c d e = refl
all_five true false c d e = refl
all_five true true false d e = refl
all_five true true true false e = refl
all_five true true true true false = refl
all_five true true true true true = refl

pub counts_fit : (counts : Held) (held : List Mode) (c : Mode) → AreHeld counts held
    → ((((spares counts.intention_shared IntentionShared c && spares counts.intention_exclusive IntentionExclusive c) && spares counts.shared Shared c) && spares counts.shared_intention_exclusive SharedIntentionExclusive c) && spares counts.exclusive Exclusive c)
    ≡ list_all (λ h. are_compatible h c) held
counts_fit counts held c is =
    all_five (spares counts.intention_shared IntentionShared c) (spares counts.intention_exclusive IntentionExclusive c) (spares counts.shared Shared c) (spares counts.shared_intention_exclusive SharedIntentionExclusive c) (spares counts.exclusive Exclusive c)
    ∙ (λ i. spares (is.intention_shared i) IntentionShared c && (spares (is.intention_exclusive i) IntentionExclusive c
    && (spares (is.shared i) Shared c && (spares (is.shared_intention_exclusive i) SharedIntentionExclusive c && (spares (is.exclusive i) Exclusive c && true))))) ∙ fits_counted held c
