-- How the batches without calls that close a log follow one another.
use Rattle.std.proofs.Common.{◌≡◌, ℕ, zero, suc, ◌+◌, List, [], ◌∷◌, ◌++◌, append_assoc, length, refl, sym, ◌∙◌, ap, arith}
use Rattle.requests.specs.Requests.{Call}
use Rattle.sequencer.specs.declared.attempts.Carried.{Carried}
use Rattle.retries.specs.Standings.{after_batch, closing, closing_within, while_carried, Standing}
use Rattle.running.specs.Standings.{standing_after}
use Rattle.running.specs.Starts.{Start}
use Rattle.running.proofs.Reported.{standing_next}

none_to_come : (carried : List Carried) (rest : List (List Call)) → length carried ≡ 0 → while_carried carried rest ≡ []
none_to_come [] rest h = refl
none_to_come (c ∷ cs) rest h = absurd (omega arith)

one_to_come : (carried : List Carried) (rest : List (List Call)) → ¬ (length carried ≡ 0) → while_carried carried rest ≡ [] ∷ rest
one_to_come [] rest h = absurd (h refl)
one_to_come (c ∷ cs) rest h = refl

-- where nothing is carried, no batch is to come, however many might
pub closing_none : (retries most : ℕ) (s : Standing) → length s.carried ≡ 0 → closing_within retries most s ≡ []
closing_none retries zero s h = refl
closing_none retries (suc most) s h = none_to_come s.carried (closing_within retries most (after_batch retries s [])) h

-- after the first of the batches that close a log, something is carried
module _ (start : Start) (ran closers : List (List Call)) (most left : ℕ)
    (carries : ¬ (length (standing_after start (ran ++ closers)).carried ≡ 0)) (more : most ≡ left + 1) where
  -- one without calls is next, and then come those that are left
  pub next_closing : closing_within start.retries most (standing_after start (ran ++ closers))
      ≡ [] ∷ closing_within start.retries left (standing_after start ((ran ++ closers) ++ [] ∷ []))
  next_closing =
      ap (λ k. closing_within start.retries k (standing_after start (ran ++ closers))) (more ∙ one_more left)
      ∙ one_to_come (standing_after start (ran ++ closers)).carried (closing_within start.retries left (after_batch start.retries (standing_after start (ran ++ closers)) [])) carries
      ∙ ap (λ (s : Standing). [] ∷ closing_within start.retries left s) (sym (standing_next start.retries start.rows (ran ++ closers) []))
    where
      one_more : (k : ℕ) → k + 1 ≡ suc k
      one_more k = omega arith

  -- with it there is one more of the first
  pub closing_further : closing start.retries (standing_after start ran) ≡ closers ++ closing_within start.retries most (standing_after start (ran ++ closers)) →
      closing start.retries (standing_after start ran) ≡ (closers ++ [] ∷ []) ++ closing_within start.retries left (standing_after start (ran ++ (closers ++ [] ∷ [])))
  closing_further first =
      first ∙ ap (λ (rest : List (List Call)). closers ++ rest) next_closing
      ∙ sym (append_assoc closers ([] ∷ []) (closing_within start.retries left (standing_after start ((ran ++ closers) ++ [] ∷ []))))
      ∙ ap (λ (batches : List (List Call)). (closers ++ [] ∷ []) ++ closing_within start.retries left (standing_after start batches)) (append_assoc ran closers ([] ∷ []))
