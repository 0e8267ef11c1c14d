-- What transactions know of their readiness.
use Rattle.std.proofs.Common.{◌≡◌, ℕ, ◌+◌, ◌<◌, ◌==◌, inl, inr, zero, suc, Bool, true, false, cond, ◌||◌, List, [], ◌∷◌, length, None, Some, option_map, refl, sym, ◌∙◌, ap, subst, arith, slice_set}
use Rattle.std.proofs.lemmas.Bool.Decides.{nat_tests}
use Rattle.footprint.specs.declared.resource.Resource.{Resource}
use Rattle.modes.specs.declared.mode.Mode.{Mode}
use Rattle.coarsen.specs.Subtrees.{Requests}
use Rattle.lock_tree.specs.Entered.{Enqueued}
use Rattle.lock_tree.specs.Locks.{AreAbove, IsRising}
use Rattle.lock_tree.specs.Queues.{Queue, has_number}
use Rattle.lock_tree.specs.Placing.{place_numbered}
use Rattle.lock_tree.specs.Views.{waiting_of, all_waiting}
use Rattle.lock_tree.specs.Known.{granted_in, Knows, AreKnown}
use Rattle.lock_tree.proofs.Places.{at, some_one, none_some, later_place, no_later_place, same_numbers}

-- what is seen of the transactions doesn't change
pub flag_unseen : (es : List Enqueued) (i : ℕ) (d : Enqueued) (b : Bool) → all_waiting (slice_set es i (record (at es i d) { ready = b })) ≡ all_waiting es
flag_unseen [] i d b = refl
flag_unseen (e ∷ es) zero d b = refl
flag_unseen (e ∷ es) (suc i) d b = ap (λ ws. waiting_of e ∷ ws) (flag_unseen es i d b)

other_way : (n k : ℕ) → (k == n) ≡ false → (n == k) ≡ false
other_way n k h = grind (arith, nat_tests)

below_other : (n k : ℕ) → n < k → (k == n) ≡ false
below_other n k h = grind (arith, nat_tests)

module _ (queues : Resource → Queue) (n : ℕ) (mode : Mode) (lately : Queue) where
  knows_more : (e : Enqueued) → (e.no == n) ≡ false → Knows queues ((n, mode) ∷ lately) e → Knows queues lately e
  knows_more e other known = record {
    sound = known.sound;
    complete = λ g. elim (known.complete g) [
      | inl ready ↦ inl ready
      | inr late ↦ inr (sym (ap (λ v. v || has_number e.no lately) (other_way n e.no other)) ∙ late)
    ];
  }

  known_above : (es : List Enqueued) → AreAbove n (all_waiting es) → AreKnown queues ((n, mode) ∷ lately) es → AreKnown queues lately es
  known_above [] above known = tt
  known_above (e ∷ es) above known = (knows_more e (below_other n e.no above.0) known.0, known_above es above.1 known.1)

  -- nobody has the number
  pub none_to_note : (es : List Enqueued) → place_numbered n (all_waiting es) ≡ None → AreKnown queues ((n, mode) ∷ lately) es → AreKnown queues lately es
  none_to_note [] h known = tt
  none_to_note (e ∷ es) h known = elim (e.no == n) as (λ v. (e.no == n) ≡ v → cond v (Some 0) (option_map (λ n. n + 1) (place_numbered n (all_waiting es))) ≡ None → AreKnown queues lately (e ∷ es)) [
    | true ↦ λ here h. absurd (cc)
    | false ↦ λ other h. (knows_more e other known.0, none_to_note es (no_later_place (place_numbered n (all_waiting es)) h) known.1)
  ] refl h

  knows_now : (e : Enqueued) (b : Bool) → e.no ≡ n → b ≡ granted_in queues n e.plan.value → Knows queues lately (record e { ready = b })
  knows_now e b same is =
      let at_it : granted_in queues e.no e.plan.value ≡ b = ap (λ k. granted_in queues k e.plan.value) same ∙ sym is in
      record { sound = λ h. at_it ∙ h; complete = λ g. inl (sym at_it ∙ g) }

  -- the one with the number
  pub noted_at : (es : List Enqueued) (i : ℕ) (d : Enqueued) (b : Bool) → IsRising (all_waiting es) → place_numbered n (all_waiting es) ≡ Some i → b ≡ granted_in queues n (at es i d).plan.value
      → AreKnown queues ((n, mode) ∷ lately) es → AreKnown queues lately (slice_set es i (record (at es i d) { ready = b }))
  noted_at [] i d b rising h is known = absurd (none_some i h)
  noted_at (e ∷ es) i d b rising h is known = elim (e.no == n) as (λ v. (e.no == n) ≡ v → cond v (Some 0) (option_map (λ n. n + 1) (place_numbered n (all_waiting es))) ≡ Some i
      → AreKnown queues lately (slice_set (e ∷ es) i (record (at (e ∷ es) i d) { ready = b }))) [
        | true ↦ λ here h.
            let first : 0 ≡ i = some_one 0 i h in
            let same : e.no ≡ n = same_numbers e.no n here in
            let plan : b ≡ granted_in queues n e.plan.value = is ∙ ap (λ j. granted_in queues n (at (e ∷ es) j d).plan.value) (sym first) in
            let now : AreKnown queues lately (slice_set (e ∷ es) 0 (record (at (e ∷ es) 0 d) { ready = b })) =
            (knows_now e b same plan, known_above es (subst (λ k. AreAbove k (all_waiting es)) same rising.0) known.1) in
            subst (λ j. AreKnown queues lately (slice_set (e ∷ es) j (record (at (e ∷ es) j d) { ready = b }))) first now
        | false ↦ λ other h.
            let j = later_place (place_numbered n (all_waiting es)) i h in
            let plan : b ≡ granted_in queues n (at es j.0 d).plan.value = is ∙ ap (λ x. granted_in queues n (at (e ∷ es) x d).plan.value) j.2 in
            let now : AreKnown queues lately (slice_set (e ∷ es) (suc j.0) (record (at (e ∷ es) (suc j.0) d) { ready = b })) =
            (knows_more e other known.0, noted_at es j.0 d b rising.1 j.1 plan known.1) in
            subst (λ x. AreKnown queues lately (slice_set (e ∷ es) x (record (at (e ∷ es) x d) { ready = b }))) (sym j.2) now
      ] refl h

pub at_any : (es : List Enqueued) (i : ℕ) (d f : Enqueued) → i < length es → at es i d ≡ at es i f
at_any [] i d f l = absurd (omega (arith, l))
at_any (e ∷ es) zero d f l = refl
at_any (e ∷ es) (suc i) d f l = at_any es i d f (omega (arith, l))

-- what an entry asks for, read twice
pub read_plan : (queues : Resource → Queue) (n i : ℕ) (es : List Enqueued) (d seen : Enqueued) (b : Bool) (plan : Requests) → i < length es → plan ≡ (at es i seen).plan.value
    → b ≡ granted_in queues n plan → b ≡ granted_in queues n (at es i d).plan.value
read_plan queues n i es d seen b plan l same h = h ∙ ap (granted_in queues n) (same ∙ ap (λ (e : Enqueued). e.plan.value) (at_any es i seen d l))
