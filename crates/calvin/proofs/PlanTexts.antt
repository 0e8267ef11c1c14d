-- The text of the plans of entries.
use Rattle.std.proofs.Common.{◌≡◌, ℕ, zero, suc, ◌+◌, ◌<◌, ◌≤◌, ◌⊎◌, inl, inr, List, [], ◌∷◌, ◌++◌, append_assoc, append-nil, length, map, drop, get_or, refl, sym, ap, ◌∙◌, subst, arith}
use Rattle.std.proofs.lemmas.List.{drop_all, drop_more}
use Rattle.catalogue.specs.Shapes.{TableShape}
use Rattle.coarsen.specs.Subtrees.{Requests}
use Rattle.coarsen.specs.Laws.{PlansAreExact}
use Rattle.meaning.specs.Entries.{EntryShape}
use Rattle.interp.specs.Entries.{EntryParts, entry_shape}
use Rattle.report_text.specs.PlanTexts.{plan_lines}
use Rattle.dispatcher.specs.declared.settings.Settings.{Settings}
use Rattle.scheduler.specs.Logs.{IsPlanOfEntry, ArePlansOf}
use Rattle.calvin.specs.FirstBatches.{IsPlansText, plans_text, PlansHaveOneText}

-- ---- the text as it grows

-- whatever plans the entries from a place on have, the text with theirs after it is that of all entries
abbrev pub GoesOn : List TableShape → Settings → List EntryParts → ℕ → List ℕ → Type 0
GoesOn tables settings entries place text =
    (rest : List Requests) → ArePlansOf settings.threshold settings.arena (map entry_shape (drop place entries)) rest
    → (plans : List Requests) × ArePlansOf settings.threshold settings.arena (map entry_shape entries) plans × (plans_text tables 0 plans ≡ text ++ plans_text tables place rest)

pub GoesOn-start : (tables : List TableShape) (settings : Settings) (entries : List EntryParts) (text : List ℕ) → text ≡ [] → GoesOn tables settings entries 0 text
GoesOn-start tables settings entries text is = rw is (λ rest h. (rest, h, refl))

pub GoesOn-next : (tables : List TableShape) (settings : Settings) (entries : List EntryParts) (place : ℕ) (text longer : List ℕ) (entry : EntryParts) (plan : Requests) →
    GoesOn tables settings entries place text → place < length entries → entry ≡ get_or entries place entry → IsPlanOfEntry settings.threshold settings.arena (entry_shape entry) plan →
    longer ≡ text ++ plan_lines tables place plan → GoesOn tables settings entries (place + 1) longer
GoesOn-next tables settings entries place text longer entry plan h less at is grown = λ rest k.
    let P : List EntryParts → Type 0 = λ es. ArePlansOf settings.threshold settings.arena (map entry_shape es) (plan ∷ rest) in
    let here : drop place entries ≡ entry ∷ drop (place + 1) entries = drop_more entries place entry less ∙ ap (λ (e : EntryParts). e ∷ drop (place + 1) entries) (sym at) in
    let all = h (plan ∷ rest) (subst P (sym here) (is, k)) in (
      all.0,
      all.1,
      all.2 ∙ sym (append_assoc text (plan_lines tables place plan) (plans_text tables (place + 1) rest)) ∙ ap (λ t. t ++ plans_text tables (place + 1) rest) (sym grown),
    )

pub GoesOn-end : (tables : List TableShape) (settings : Settings) (entries : List EntryParts) (place : ℕ) (text : List ℕ) → GoesOn tables settings entries place text → length entries ≤ place →
    IsPlansText tables settings (map entry_shape entries) text
GoesOn-end tables settings entries place text h past =
    let P : List EntryParts → Type 0 = λ es. ArePlansOf settings.threshold settings.arena (map entry_shape es) [] in
    let all = h [] (subst P (sym (drop_all place entries past)) tt) in
    record { plans = all.0; of_entries = all.1; lines = sym (append-nil text) ∙ sym all.2 }

-- ---- one text

at_most_or_more : (m n : ℕ) → (m ≤ n) ⊎ (n < m)
at_most_or_more zero n = inl (omega arith)
at_most_or_more (suc m) zero = inr (omega arith)
at_most_or_more (suc m) (suc n) = elim (at_most_or_more m n) [ inl few ↦ inl (omega arith) | inr many ↦ inr (omega arith) ]

one_plan : PlansAreExact → (settings : Settings) (entry : EntryShape) (a b : Requests) → IsPlanOfEntry settings.threshold settings.arena entry a → IsPlanOfEntry settings.threshold settings.arena entry b → a ≡ b
one_plan exact settings entry a b p q =
    let full : p.full ≡ q.full = exact.one _ p.full q.full p.full_is q.full_is in
    elim (at_most_or_more (length p.full) settings.arena) [
      | inl few ↦ p.within few ∙ full ∙ sym (q.within (omega (arith, few, ap length full)))
      | inr many ↦ exact.one _ a b (p.past many) (q.past (omega (arith, many, ap length full)))
    ]

one_plans : PlansAreExact → (settings : Settings) (entries : List EntryShape) (a b : List Requests) → ArePlansOf settings.threshold settings.arena entries a → ArePlansOf settings.threshold settings.arena entries b → a ≡ b
one_plans exact settings [] [] [] h k = refl
one_plans exact settings [] [] (y ∷ ys) h k = absurd k
one_plans exact settings [] (x ∷ xs) ys h k = absurd h
one_plans exact settings (e ∷ es) [] ys h k = absurd h
one_plans exact settings (e ∷ es) (x ∷ xs) [] h k = absurd k
one_plans exact settings (e ∷ es) (x ∷ xs) (y ∷ ys) h k =
    let first : x ≡ y = one_plan exact settings e x y h.0 k.0 in
    let rest : xs ≡ ys = one_plans exact settings es xs ys h.1 k.1 in
    cc

pub one_text : PlansAreExact → PlansHaveOneText
one_text exact = λ tables settings entries a b p q.
    p.lines ∙ ap (plans_text tables 0) (one_plans exact settings entries p.plans q.plans p.of_entries q.of_entries) ∙ sym q.lines
