-- A lock tree with one transaction more, or one less.
use Rattle.std.proofs.Common.{◌≡◌, ◌≢◌, ℕ, zero, suc, ◌+◌, ◌<◌, ◌==◌, Bool, true, false, eqb, List, [], ◌∷◌, ◌++◌, length, Option, Some, None, IsSome, slice_index_or, slice_set, if◌then◌else◌, refl, sym, subst, ap, ◌∙◌, inl, inr, arith}
use Rattle.std.proofs.lemmas.Bool.Decides.{eqb_tells}
use Rattle.std.proofs.lemmas.Bool.{ne_eqb}
use Rattle.coarsen.specs.Subtrees.{Requests}
use Rattle.lock_tree.specs.Locks.{Waiting, plan_of, without}
use Rattle.lock_tree.specs.Enqueues.{AreBelow}
use Rattle.bench_queues.specs.Crowds.{IsCrowd}

-- ---- a plan behind a test

where_kept : (b : Bool) (p : Requests) (o k : Option Requests) → (IsSome o → IsSome k) → IsSome (if b then Some p else o) → IsSome (if b then Some p else k)
where_kept true p o k f h = h
where_kept false p o k f h = f h

where_there : (b : Bool) (p : Requests) (o : Option Requests) → IsSome o → IsSome (if b then Some p else o)
where_there true p o h = refl
where_there false p o h = h

same_number : (n : ℕ) → eqb n n ≡ true
same_number n = elim (eqb_tells n n) [ inl t ↦ t.0 | inr t ↦ absurd (t.1 refl) ]

-- ---- plans of a list

plan_stays : (ws : List Waiting) (w : Waiting) (n : ℕ) → IsSome (plan_of ws n) → IsSome (plan_of (ws ++ w ∷ []) n)
plan_stays [] w n h = absurd (cc)
plan_stays (x ∷ ws) w n h = where_kept (x.no == n) x.plan (plan_of ws n) (plan_of (ws ++ w ∷ []) n) (plan_stays ws w n) h

plan_added : (ws : List Waiting) (w : Waiting) → IsSome (plan_of (ws ++ w ∷ []) w.no)
plan_added [] w = subst (λ b. IsSome (if b then Some w.plan else None)) (sym (same_number w.no)) refl
plan_added (x ∷ ws) w = where_there (x.no == w.no) x.plan (plan_of (ws ++ w ∷ []) w.no) (plan_added ws w)

unlike : (b : Bool) → b ≡ true → b ≡ false → ⊥
unlike true e f = absurd (cc)
unlike false e f = absurd (cc)

left_or_kept : (w : Waiting) (ws rest : List Waiting) (n : ℕ) (b : Bool) → (b ≡ true → (w.no == n) ≡ false) → (IsSome (plan_of ws n) → IsSome (plan_of rest n))
    → IsSome (plan_of (w ∷ ws) n) → IsSome (plan_of (if b then rest else w ∷ rest) n)
left_or_kept w ws rest n true f k h = k (subst (λ c. IsSome (if c then Some w.plan else plan_of ws n)) (f refl) h)
left_or_kept w ws rest n false f k h = where_kept (w.no == n) w.plan (plan_of ws n) (plan_of rest n) k h

plan_left : (ws : List Waiting) (m n : ℕ) → m ≢ n → IsSome (plan_of ws n) → IsSome (plan_of (without m ws) n)
plan_left [] m n apart h = absurd (cc)
plan_left (w ∷ ws) m n apart h =
    left_or_kept w ws (without m ws) n (w.no == m) (λ e. ne_eqb w.no n (λ z. apart (elim (eqb_tells w.no m) [ inl t ↦ sym t.1 ∙ z | inr t ↦ absurd (unlike (w.no == m) e t.0) ])))
    (plan_left ws m n apart) h

-- ---- numbers

below_added : (k : ℕ) (ws : List Waiting) (w : Waiting) → w.no ≡ k → AreBelow k ws → AreBelow (k + 1) (ws ++ w ∷ [])
below_added k [] w e h = (omega (arith, e), tt)
below_added k (x ∷ ws) w e h = (omega (arith, h.0), below_added k ws w e h.1)

below_or_kept : (k : ℕ) (w : Waiting) (rest : List Waiting) (b : Bool) → w.no < k → AreBelow k rest → AreBelow k (if b then rest else w ∷ rest)
below_or_kept k w rest true p h = h
below_or_kept k w rest false p h = (p, h)

below_left : (k m : ℕ) (ws : List Waiting) → AreBelow k ws → AreBelow k (without m ws)
below_left k m [] h = tt
below_left k m (w ∷ ws) h = below_or_kept k w (without m ws) (w.no == m) h.0 (below_left k m ws h.1)

-- ---- who is there

read_added : (there : List Bool) (n : ℕ) → slice_index_or (there ++ true ∷ []) n false ≡ true → (n ≡ length there → ⊥) → slice_index_or there n false ≡ true
read_added [] zero e apart = absurd (apart refl)
read_added [] (suc n) e apart = e
read_added (b ∷ bs) zero e apart = e
read_added (b ∷ bs) (suc n) e apart = read_added bs n e (λ z. apart (ap suc z))

read_left : (there : List Bool) (m n : ℕ) → slice_index_or (slice_set there m false) n false ≡ true → (m ≢ n) × (slice_index_or there n false ≡ true)
read_left [] m n e = absurd (cc)
read_left (b ∷ bs) zero zero e = absurd (cc)
read_left (b ∷ bs) zero (suc n) e = (λ z. absurd (omega (arith, z)), e)
read_left (b ∷ bs) (suc m) zero e = (λ z. absurd (omega (arith, z)), e)
read_left (b ∷ bs) (suc m) (suc n) e = let r = read_left bs m n e in (λ z. r.0 (omega (arith, z)), r.1)

pub one_more : (there : List Bool) (ws : List Waiting) (w : Waiting) → w.no ≡ length there → IsCrowd there ws → IsCrowd (there ++ true ∷ []) (ws ++ w ∷ [])
one_more there ws w e h = record {
  known = λ n is. elim (eqb_tells n (length there)) [
    | inl t ↦ subst (λ k. IsSome (plan_of (ws ++ w ∷ []) k)) (e ∙ sym t.1) (plan_added ws w)
    | inr t ↦ plan_stays ws w n (h.known n (read_added there n is t.1))
  ];
  below = subst (λ k. AreBelow k (ws ++ w ∷ [])) (sym (longer there)) (below_added (length there) ws w e h.below);
}
  where
    longer : (bs : List Bool) → length (bs ++ true ∷ []) ≡ length bs + 1
    longer [] = refl
    longer (b ∷ bs) = ap suc (longer bs) ∙ omega arith

pub one_less : (there : List Bool) (ws : List Waiting) (m : ℕ) → IsCrowd there ws → IsCrowd (slice_set there m false) (without m ws)
one_less there ws m h = record {
  known = λ n is. let r = read_left there m n is in plan_left ws m n r.0 (h.known n r.1);
  below = subst (λ k. AreBelow k (without m ws)) (sym (as_long there m)) (below_left (length there) m ws h.below);
}
  where
    as_long : (bs : List Bool) (m : ℕ) → length (slice_set bs m false) ≡ length bs
    as_long [] m = refl
    as_long (b ∷ bs) zero = refl
    as_long (b ∷ bs) (suc m) = ap suc (as_long bs m)
