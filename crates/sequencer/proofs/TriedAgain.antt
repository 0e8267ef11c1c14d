-- What being tried again says of a request.
use Rattle.std.proofs.Common.{◌≡◌, ℕ, ◌+◌, ◌≤◌, ◌<◌, ◌++◌, Bool, true, false, cond, nat_lt, List, [], ◌∷◌, Some, slice_get, map, zero, suc, refl, sym, ap, subst, ◌∙◌, arith}
use Rattle.std.proofs.lemmas.Bool.{lt-ltb, ltb-true}
use Rattle.std.proofs.lemmas.List.Elements.{Contains-append_left, Contains-append_right}
use Rattle.std.specs.List.{AllByRecursion, Contains}
use Rattle.catalogue.specs.Shapes.{TableShape}
use Rattle.meaning.specs.Entries.{Reply, commit, aborted, stale}
use Rattle.sequencer.specs.Again.{IsTriedAgain}
use Rattle.sequencer.specs.Attempts.{Attempt, Numbered, is_stale, is_left, tries_of, first_of, carried_on, left_of, AreCarriedOver, AreRequestsOver}
use Rattle.sequencer.specs.declared.attempts.Carried.{Carried}
use Rattle.sequencer.proofs.Carryings.{left_next}

-- what holds of the first, if it is left, and of those after it
all_both : (holds : Carried → Type 0) (one : Carried) (b : Bool) (rest : List Carried) → (b ≡ true → holds one) → AllByRecursion holds rest
    → AllByRecursion holds (cond b (one ∷ []) [] ++ rest)
all_both holds one true rest h all = (h refl, all)
all_both holds one false rest h all = all

all_of : (holds other : Carried → Type 0) → ((one : Carried) → holds one → other one) → (xs : List Carried) → AllByRecursion holds xs → AllByRecursion other xs
all_of holds other goes [] h = tt
all_of holds other goes (x ∷ xs) h = (goes x h.0, all_of holds other goes xs h.1)

-- tried again one place later
tried_again_later : (retries n : ℕ) (a : Attempt) (attempts : List Attempt) (o : Reply) (outcomes : List Reply) (one : Carried)
    → IsTriedAgain retries (n + 1) attempts outcomes one → IsTriedAgain retries n (a ∷ attempts) (o ∷ outcomes) one
tried_again_later retries n a attempts o outcomes one h =
    let place : n + 1 + h.place ≡ n + suc h.place = omega arith in
    record {
      place = suc h.place;
      attempt = h.attempt;
      tried = h.tried;
      stale = h.stale;
      few = h.few;
      client = h.client;
      number = h.number;
      request = h.request;
      first = h.first ∙ ap (λ k. first_of k h.attempt.before) place;
      tries = h.tries;
    }

left_if : (s f : Bool) → cond s f false ≡ true → (s ≡ true) × (f ≡ true)
left_if true true h = (refl, refl)
left_if true false h = absurd cc
left_if false f h = absurd cc

stale_is : (o : Reply) → is_stale o ≡ true → o ≡ stale
stale_is (commit values) h = absurd cc
stale_is (aborted code) h = absurd cc
stale_is stale h = refl

-- the first attempt
first_tried_again : (retries n : ℕ) (a : Attempt) (attempts : List Attempt) (o : Reply) (outcomes : List Reply)
    → is_left retries (record { no = n; attempt = a }, o) ≡ true → IsTriedAgain retries n (a ∷ attempts) (o ∷ outcomes) (carried_on (record { no = n; attempt = a }))
first_tried_again retries n a attempts o outcomes h =
    let both = left_if (is_stale o) (nat_lt (tries_of a.before) retries) h in
    let place : n ≡ n + 0 = omega arith in
    record {
      place = 0;
      attempt = a;
      tried = refl;
      stale = ap (λ (x : Reply). Some x) (stale_is o both.0);
      few = ltb-true (tries_of a.before) retries both.1;
      client = refl;
      number = refl;
      request = refl;
      first = ap (λ k. first_of k a.before) place;
      tries = refl;
    }

pub left_is_tried_again : (retries n : ℕ) (attempts : List Attempt) (outcomes : List Reply) → AllByRecursion (IsTriedAgain retries n attempts outcomes) (left_of retries n attempts outcomes)
left_is_tried_again retries n [] outcomes = tt
left_is_tried_again retries n (a ∷ attempts) [] = tt
left_is_tried_again retries n (a ∷ attempts) (o ∷ outcomes) =
    let tried : Numbered = record { no = n; attempt = a } in
    subst (AllByRecursion (IsTriedAgain retries n (a ∷ attempts) (o ∷ outcomes))) (sym (left_next retries n a attempts o outcomes))
    (all_both (IsTriedAgain retries n (a ∷ attempts) (o ∷ outcomes)) (carried_on tried) (is_left retries (tried, o)) (left_of retries (n + 1) attempts outcomes) (first_tried_again retries n a attempts o outcomes)
    (all_of (IsTriedAgain retries (n + 1) attempts outcomes) (IsTriedAgain retries n (a ∷ attempts) (o ∷ outcomes)) (tried_again_later retries n a attempts o outcomes) (left_of retries (n + 1) attempts outcomes) (left_is_tried_again retries (n + 1) attempts outcomes)))

pub at_most_tried : (retries n : ℕ) (attempts : List Attempt) (outcomes : List Reply) → AllByRecursion (λ (one : Carried). one.tries ≤ retries) (left_of retries n attempts outcomes)
at_most_tried retries n attempts outcomes =
    all_of (IsTriedAgain retries n attempts outcomes) (λ (one : Carried). one.tries ≤ retries) (λ one h. omega (arith, h.few, h.tries)) (left_of retries n attempts outcomes) (left_is_tried_again retries n attempts outcomes)

-- none is tried again no time
pub none_tried : (n : ℕ) (attempts : List Attempt) (outcomes : List Reply) → left_of 0 n attempts outcomes ≡ []
none_tried n attempts outcomes = by (left_of 0 n attempts outcomes) (left_is_tried_again 0 n attempts outcomes)
  where
    by : (xs : List Carried) → AllByRecursion (IsTriedAgain 0 n attempts outcomes) xs → xs ≡ []
    by [] h = refl
    by (x ∷ xs) h = let few = h.0.few in absurd (omega (arith, few))

-- what is left is over the tables that the attempts are over
pub left_over : (tables : List TableShape) (retries n : ℕ) (attempts : List Attempt) (outcomes : List Reply) → AreRequestsOver tables (map (λ attempt. attempt.request) attempts) → AreCarriedOver tables (left_of retries n attempts outcomes)
left_over tables retries n [] outcomes h = tt
left_over tables retries n (a ∷ attempts) [] h = tt
left_over tables retries n (a ∷ attempts) (o ∷ outcomes) h =
    let tried : Numbered = record { no = n; attempt = a } in
    subst (AreCarriedOver tables) (sym (left_next retries n a attempts o outcomes))
    (all_both (λ one. one.request.proc.tables ≡ tables) (carried_on tried) (is_left retries (tried, o)) (left_of retries (n + 1) attempts outcomes) (λ e. h.0) (left_over tables retries (n + 1) attempts outcomes h.1))

-- each that was stale and tried too few times is among what is left
head_in : (one : Carried) (b : Bool) → b ≡ true → Contains (cond b (one ∷ []) []) one
head_in one true h = (0, omega arith, refl)
head_in one false h = absurd cc

is_left_if : (retries n : ℕ) (a attempt : Attempt) (o : Reply) → a ≡ attempt → o ≡ stale → tries_of attempt.before < retries → is_left retries (record { no = n; attempt = a }, o) ≡ true
is_left_if retries n a attempt o same ended few =
    ap (λ (x : Reply). is_left retries (record { no = n; attempt = a }, x)) ended
    ∙ ap (λ (x : Attempt). nat_lt (tries_of x.before) retries) same
    ∙ lt-ltb (tries_of attempt.before) retries few

some_is : {A : Type 0} (x y : A) → Some x ≡ Some y → x ≡ y
some_is x y h = cc

pub each_is_left : (retries n : ℕ) (attempts : List Attempt) (outcomes : List Reply) (place : ℕ) (attempt : Attempt)
    → slice_get attempts place ≡ Some attempt → slice_get outcomes place ≡ Some stale → tries_of attempt.before < retries
    → Contains (left_of retries n attempts outcomes) (carried_on (record { no = n + place; attempt = attempt }))
each_is_left retries n [] outcomes place attempt tried ended few = absurd cc
each_is_left retries n (a ∷ attempts) [] place attempt tried ended few = absurd cc
each_is_left retries n (a ∷ attempts) (o ∷ outcomes) zero attempt tried ended few =
    let one = carried_on (record { no = n; attempt = a }) in
    let head = cond (is_left retries (record { no = n; attempt = a }, o)) (one ∷ []) [] in
    let same : a ≡ attempt = some_is a attempt tried in
    let is : one ≡ carried_on (record { no = n + 0; attempt = attempt }) = ap (λ (x : Attempt). carried_on (record { no = n; attempt = x })) same ∙ ap (λ k. carried_on (record { no = k; attempt = attempt })) (omega arith) in
    subst (Contains (left_of retries n (a ∷ attempts) (o ∷ outcomes))) is
    (subst (λ xs. Contains xs one) (sym (left_next retries n a attempts o outcomes))
    (Contains-append_left head (left_of retries (n + 1) attempts outcomes) one (head_in one (is_left retries (record { no = n; attempt = a }, o)) (is_left_if retries n a attempt o same (some_is o stale ended) few))))
each_is_left retries n (a ∷ attempts) (o ∷ outcomes) (suc place) attempt tried ended few =
    let one = carried_on (record { no = n + suc place; attempt = attempt }) in
    let head = cond (is_left retries (record { no = n; attempt = a }, o)) (carried_on (record { no = n; attempt = a }) ∷ []) [] in
    let later : n + 1 + place ≡ n + suc place = omega arith in
    subst (λ xs. Contains xs one) (sym (left_next retries n a attempts o outcomes))
    (Contains-append_right head (left_of retries (n + 1) attempts outcomes) one
    (subst (λ k. Contains (left_of retries (n + 1) attempts outcomes) (carried_on (record { no = k; attempt = attempt }))) later (each_is_left retries (n + 1) attempts outcomes place attempt tried ended few)))
