-- The requests that are tried again.
use Rattle.std.proofs.Common.{◌≡◌, ℕ, ◌+◌, ◌≤◌, ◌++◌, Bool, true, false, cond, List, [], ◌∷◌, length, map, filter, suc, refl, sym, ap, ◌∙◌, append_assoc, arith}
use Rattle.std.specs.List.{zip}
use Rattle.meaning.specs.declared.outcome.Outcome.{Outcome}
use Rattle.meaning.specs.Entries.{Reply}
use Rattle.meaning.specs.Outcomes.{as_reply}
use Rattle.sequencer.specs.Attempts.{Attempt, Numbered, numbered_from, is_stale, is_left, carried_on, left_of}
use Rattle.sequencer.specs.declared.attempts.Carried.{Carried}

-- one alone, if it is of that kind
module _ {A B : Type 0} (f : A → B) (p : A → Bool) (x : A) (xs : List A) where
  by_case : (b : Bool) (ys : List A) → map f (cond b (x ∷ ys) ys) ≡ cond b (f x ∷ []) [] ++ map f ys
  by_case true ys = refl
  by_case false ys = refl

  kept_next : map f (filter p (x ∷ xs)) ≡ cond (p x) (f x ∷ []) [] ++ map f (filter p xs)
  kept_next = by_case (p x) (filter p xs)

-- the first attempt, and those after it
pub left_next : (retries n : ℕ) (a : Attempt) (attempts : List Attempt) (o : Reply) (outcomes : List Reply)
    → left_of retries n (a ∷ attempts) (o ∷ outcomes) ≡ cond (is_left retries (record { no = n; attempt = a }, o)) (carried_on (record { no = n; attempt = a }) ∷ []) [] ++ left_of retries (n + 1) attempts outcomes
left_next retries n a attempts o outcomes = kept_next (λ (ended : Numbered × Reply). carried_on ended.0) (is_left retries) (record { no = n; attempt = a }, o) (zip (numbered_from (n + 1) attempts) outcomes)

pub none_left : (retries n : ℕ) (attempts : List Attempt) → left_of retries n attempts [] ≡ []
none_left retries n [] = refl
none_left retries n (a ∷ attempts) = refl

-- the stale ones among some outcomes
pub stale_among : (outcomes : List Outcome) → length (filter (λ o. is_stale (as_reply o)) outcomes) ≡ length (filter is_stale (map as_reply outcomes))
stale_among [] = refl
stale_among (o ∷ outcomes) = by (is_stale (as_reply o)) (stale_among outcomes)
  where
    by : (s : Bool) → length (filter (λ o. is_stale (as_reply o)) outcomes) ≡ length (filter is_stale (map as_reply outcomes))
        → length (cond s (o ∷ filter (λ o. is_stale (as_reply o)) outcomes) (filter (λ o. is_stale (as_reply o)) outcomes)) ≡ length (cond s (as_reply o ∷ filter is_stale (map as_reply outcomes)) (filter is_stale (map as_reply outcomes)))
    by true rest = ap suc rest
    by false rest = rest

-- what is carried on takes no more room than the stale ones ask for
pub room_next : (o : Reply) (outcomes : List Reply) (few : Bool) (x : Carried) → length (cond (cond (is_stale o) few false) (x ∷ []) []) + length (filter is_stale outcomes) ≤ length (filter is_stale (o ∷ outcomes))
room_next o outcomes few x = by (is_stale o) few
  where
    by : (s f : Bool) → length (cond (cond s f false) (x ∷ []) []) + length (filter is_stale outcomes) ≤ length (cond s (o ∷ filter is_stale outcomes) (filter is_stale outcomes))
    by true true = omega arith
    by true false = omega arith
    by false f = omega arith

-- one more attempt was looked at
pub left_step : (retries n m : ℕ) (a : Attempt) (attempts : List Attempt) (o : Reply) (outcomes : List Reply) (old new all : List Carried)
    → new ≡ old ++ cond (is_left retries (record { no = n; attempt = a }, o)) (carried_on (record { no = n; attempt = a }) ∷ []) []
    → left_of retries (n + 1) attempts outcomes ≡ left_of retries m attempts outcomes
    → old ++ left_of retries n (a ∷ attempts) (o ∷ outcomes) ≡ all → new ++ left_of retries m attempts outcomes ≡ all
left_step retries n m a attempts o outcomes old new all pushed same before =
    let one = cond (is_left retries (record { no = n; attempt = a }, o)) (carried_on (record { no = n; attempt = a }) ∷ []) [] in
    ap (λ xs. xs ++ left_of retries m attempts outcomes) pushed
    ∙ append_assoc old one (left_of retries m attempts outcomes)
    ∙ ap (λ xs. old ++ (one ++ xs)) (sym same)
    ∙ ap (λ xs. old ++ xs) (sym (left_next retries n a attempts o outcomes))
    ∙ before
