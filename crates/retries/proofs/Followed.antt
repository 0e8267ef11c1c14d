-- Batches, and more batches after them.
use Rattle.std.proofs.Common.{◌≡◌, ℕ, zero, suc, ◌+◌, Bool, true, false, cond, List, [], ◌∷◌, ◌++◌, length, refl, sym, ap, ◌∙◌, arith}
use Rattle.std.proofs.lemmas.List.Sums.{sum_by-cons}
use Rattle.requests.specs.Requests.{Call}
use Rattle.sequencer.specs.declared.attempts.Carried.{Carried}
use Rattle.retries.specs.Standings.{Standing, transactions_at, after_batch, after_batches, in_turn, call_count, while_carried, closing, closing_within, closed}

pub after_batches-append : (retries : ℕ) (s : Standing) (batches more : List (List Call)) → after_batches retries s (batches ++ more) ≡ after_batches retries (after_batches retries s batches) more
after_batches-append retries s [] more = refl
after_batches-append retries s (calls ∷ batches) more = after_batches-append retries (after_batch retries s calls) batches more

pub in_turn-append : (retries : ℕ) (s : Standing) (batches more : List (List Call)) → in_turn retries s (batches ++ more) ≡ in_turn retries s batches ++ in_turn retries (after_batches retries s batches) more
in_turn-append retries s [] more = refl
in_turn-append retries s (calls ∷ batches) more = ap (λ rest. transactions_at s calls ∷ rest) (in_turn-append retries (after_batch retries s calls) batches more)

-- ---- the end of a log

pub closed-append : (retries : ℕ) (faulty : Bool) (s : Standing) (batches rest : List (List Call)) → closed retries faulty s (batches ++ rest) ≡ batches ++ closed retries faulty (after_batches retries s batches) rest
closed-append retries faulty s [] rest = refl
closed-append retries faulty s (calls ∷ batches) rest = ap (λ more. calls ∷ more) (closed-append retries faulty (after_batch retries s calls) batches rest)

pub not_closed : (retries : ℕ) (s : Standing) (batches : List (List Call)) → closed retries true s batches ≡ batches
not_closed retries s [] = refl
not_closed retries s (calls ∷ batches) = ap (λ more. calls ∷ more) (not_closed retries (after_batch retries s calls) batches)

none_closes : (s : Standing) (faulty : Bool) → closed 0 faulty s [] ≡ []
none_closes s true = refl
none_closes s false = refl

-- where no request is tried again, no batch closes a log
pub closed_alone : (faulty : Bool) (s : Standing) (batches : List (List Call)) → closed 0 faulty s batches ≡ batches
closed_alone faulty s [] = none_closes s faulty
closed_alone faulty s (calls ∷ batches) = ap (λ rest. calls ∷ rest) (closed_alone faulty (after_batch 0 s calls) batches)

-- a batch without calls adds none
no_calls_more : (carried : List Carried) (rest : List (List Call)) → call_count rest ≡ 0 → call_count (while_carried carried rest) ≡ 0
no_calls_more [] rest h = refl
no_calls_more (c ∷ cs) rest h = sum_by-cons (λ (calls : List Call). length calls) [] rest ∙ omega (arith, h)

closing_no_calls : (retries most : ℕ) (s : Standing) → call_count (closing_within retries most s) ≡ 0
closing_no_calls retries zero s = refl
closing_no_calls retries (suc most) s = no_calls_more s.carried (closing_within retries most (after_batch retries s [])) (closing_no_calls retries most (after_batch retries s []))

unless_faulty : (faulty : Bool) (batches : List (List Call)) → call_count batches ≡ 0 → call_count (cond faulty [] batches) ≡ 0
unless_faulty true batches h = refl
unless_faulty false batches h = h

pub closed_calls : (retries : ℕ) (faulty : Bool) (s : Standing) (batches : List (List Call)) → call_count (closed retries faulty s batches) ≡ call_count batches
closed_calls retries faulty s [] = unless_faulty faulty (closing retries s) (closing_no_calls retries retries s)
closed_calls retries faulty s (calls ∷ batches) =
    sum_by-cons (λ (c : List Call). length c) calls (closed retries faulty (after_batch retries s calls) batches)
    ∙ ap (λ n. length calls + n) (closed_calls retries faulty (after_batch retries s calls) batches)
    ∙ sym (sum_by-cons (λ (c : List Call). length c) calls batches)
