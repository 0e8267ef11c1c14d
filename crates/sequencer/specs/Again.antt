-- Claimed: what contracts promise to a reader rests on these words.
-- What being tried again says of a request.
use Rattle.std.specs.Prelude.{◌≡◌, ◌<◌, ℕ, ◌+◌, List, Some, slice_get}
use Rattle.meaning.specs.Entries.{Reply, stale}
use Rattle.sequencer.specs.Attempts.{Attempt, tries_of, first_of}
use Rattle.sequencer.specs.declared.attempts.Carried.{Carried}

-- rule: retry.limit
-- a request that was tried at some place and was stale there, with fewer attempts before that one than are tried again:
-- it is the same request, its first attempt is what it was, or this one if none was before, and it had one more attempt
pub record IsTriedAgain (retries first_no : ℕ) (attempts : List Attempt) (replies : List Reply)
    (one : Carried) : Type 0 where
  pub place : ℕ
  pub attempt : Attempt
  pub tried : slice_get attempts place ≡ Some attempt
  pub stale : slice_get replies place ≡ Some stale
  pub few : tries_of attempt.before < retries
  pub client : one.client ≡ attempt.client
  pub number : one.number ≡ attempt.number
  pub request : one.request ≡ attempt.request
  pub first : one.first ≡ first_of (first_no + place) attempt.before
  pub tries : one.tries ≡ tries_of attempt.before + 1
