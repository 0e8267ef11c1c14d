-- How many lanes have a job.
use Rattle.std.proofs.Common.{◌≡◌, ℕ, zero, suc, ◌+◌, ◌<◌, ◌≤◌, List, [], ◌∷◌, length, map, get_or, set, replicate, refl, ap, ◌∙◌, arith, cond, mul-zero}
use Rattle.std.specs.Prelude.{Option, Some, None, is_some, slice_get}
use Rattle.std.proofs.lemmas.List.Sums.{sum_by-cons, sum_by-set, count_by-le-length}
use Rattle.std.proofs.lemmas.List.Folds.{sum_by-replicate}
use Rattle.hand_off.specs.declared.view.Known.{Known}
use Rattle.hand_off.specs.declared.view.Known.TheVariants.{Idle, Filling, Put, Draining}
use Rattle.hand_off.specs.Seats.{IsPut}
use Rattle.scheduler.specs.JobRuns.{JobOf}
use Rattle.lanes.specs.Seats.{jobs_in}
use Rattle.lanes.specs.Kept.{job_of}

abbrev one_if : Option JobOf → ℕ
one_if x = cond (is_some x) 1 0

abbrev pub Lanes : Type 0
Lanes = List (Option JobOf)

-- a job more, and a job less
pub one_more : (jobs : Lanes) (i : ℕ) (job : JobOf) → i < length jobs → get_or jobs i None ≡ None → jobs_in (set jobs i (Some job)) ≡ jobs_in jobs + 1
one_more jobs i job near none = let e = sum_by-set one_if jobs i (Some job) None near in let zero_there : one_if (get_or jobs i None) ≡ 0 = ap one_if none in
    let a : ℕ = jobs_in (set jobs i (Some job)) in let b : ℕ = jobs_in jobs in let e' : a + one_if (get_or jobs i None) ≡ b + 1 = e in omega (arith, e', zero_there)

pub one_less : (jobs : Lanes) (i : ℕ) (job : JobOf) → i < length jobs → get_or jobs i None ≡ Some job → jobs_in (set jobs i None) + 1 ≡ jobs_in jobs
one_less jobs i job near some = let e = sum_by-set one_if jobs i None None near in let one_there : one_if (get_or jobs i None) ≡ 1 = ap one_if some in
    let a : ℕ = jobs_in (set jobs i None) in let b : ℕ = jobs_in jobs in let e' : a + one_if (get_or jobs i None) ≡ b + 0 = e in omega (arith, e', one_there)

-- where a lane has no job, there are fewer than lanes
pub with_room : (jobs : Lanes) (i : ℕ) → i < length jobs → get_or jobs i None ≡ None → jobs_in jobs < length jobs
with_room jobs i near none = go jobs i near none
  where
    go : (jobs : Lanes) (i : ℕ) → i < length jobs → get_or jobs i None ≡ None → jobs_in jobs < length jobs
    go [] i near none = absurd (omega arith)
    go (x ∷ xs) zero near none = let e = sum_by-cons one_if x xs in let le = count_by-le-length is_some xs in let z : one_if x ≡ 0 = ap one_if none in
        let a : ℕ = jobs_in (x ∷ xs) in let b : ℕ = jobs_in xs in let e' : a ≡ one_if x + b = e in let le' : b ≤ length xs = le in omega (arith, e', le', z)
    go (x ∷ xs) (suc i) near none = let e = sum_by-cons one_if x xs in let lt = go xs i (omega arith) none in let le : one_if x ≤ 1 = at_most_one x in
        let a : ℕ = jobs_in (x ∷ xs) in let b : ℕ = jobs_in xs in let e' : a ≡ one_if x + b = e in let lt' : b < length xs = lt in omega (arith, e', lt', le)
      where
        at_most_one : (x : Option JobOf) → one_if x ≤ 1
        at_most_one None = omega arith
        at_most_one (Some y) = omega arith

-- where each lane has one, there are as many as lanes
pub all_full : (known : List (Known JobOf)) → ((k : ℕ) → k < length known → IsPut (get_or known k Idle)) → jobs_in (map job_of known) ≡ length known
all_full [] h = refl
all_full (x ∷ xs) h = let e = sum_by-cons one_if (job_of x) (map job_of xs) in let later = all_full xs (λ k near. h (suc k) (omega arith)) in let one : one_if (job_of x) ≡ 1 = put_counts x (h 0 (omega arith)) in
    let a : ℕ = jobs_in (map job_of (x ∷ xs)) in let b : ℕ = jobs_in (map job_of xs) in let e' : a ≡ one_if (job_of x) + b = e in let l' : b ≡ length xs = later in omega (arith, e', l', one)
  where
    put_counts : (x : Known JobOf) → IsPut x → one_if (job_of x) ≡ 1
    put_counts Idle p = absurd p
    put_counts Filling p = absurd p
    put_counts (Put j) p = refl
    put_counts (Draining j) p = absurd p

pub none_in : (n : ℕ) → jobs_in (replicate n None) ≡ 0
none_in n = sum_by-replicate one_if n None ∙ mul-zero n

-- what is known of a lane, and the job that is seen there
pub at_map : (known : List (Known JobOf)) (i : ℕ) → i < length known → slice_get (map job_of known) i ≡ Some (job_of (get_or known i Idle))
at_map [] i near = absurd (omega arith)
at_map (x ∷ xs) zero near = refl
at_map (x ∷ xs) (suc i) near = at_map xs i (omega arith)

pub or_map : (known : List (Known JobOf)) (i : ℕ) → get_or (map job_of known) i None ≡ job_of (get_or known i Idle)
or_map [] i = refl
or_map (x ∷ xs) zero = refl
or_map (x ∷ xs) (suc i) = or_map xs i

pub put_there : (x : Known JobOf) → IsPut x → (job : JobOf) × (job_of x ≡ Some job)
put_there Idle p = absurd p
put_there Filling p = absurd p
put_there (Put j) p = (j, refl)
put_there (Draining j) p = absurd p

pub put_within : (known : List (Known JobOf)) (i : ℕ) (job : JobOf) → get_or known i Idle ≡ Put job → slice_get (map job_of known) i ≡ Some (Some job)
put_within [] i job e = absurd (wrong e)
  where
    mark : Known JobOf → ℕ
    mark Idle = 0
    mark Filling = 0
    mark (Put j) = 1
    mark (Draining j) = 0

    wrong : Idle ≡ Put job → ⊥
    wrong e = let z : 0 ≡ 1 = ap mark e in omega (arith, z)
put_within (x ∷ xs) zero job e = ap (λ (y : Known JobOf). Some (job_of y)) e
put_within (x ∷ xs) (suc i) job e = put_within xs i job e
