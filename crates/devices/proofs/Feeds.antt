-- Readers of a source that is no feed.
use Rattle.std.proofs.Common.{◌≡◌, ◌||◌, ℕ, List, Bool, true, false, Option, refl, ap}
use Rattle.std.proofs.lemmas.Bool.{both_ways}
use Rattle.devices.specs.LineReader.{failed_in, left_for, left_in, source_of}
use Rattle.devices.specs.declared.line_reader.LineReader.{LineReader}

not_ended : (ended feed : Bool) → (ended ≡ true → feed ≡ true) → feed ≡ false → ended ≡ false
not_ended true feed only none = absurd (both_ways feed none (only refl))
not_ended false feed only none = refl

-- it has what the source has
pub left_of_log : {S : Type 0} (left : S → Option (List ℕ)) (r : LineReader S) → r.is_feed ≡ false → left_in left r ≡ left (source_of r)
left_of_log left r none = ap (λ b. left_for b (left (source_of r))) none

-- and has failed where the source has
pub failed_of_log : {S : Type 0} (failed : S → Bool) (r : LineReader S) → r.is_feed ≡ false → failed_in failed r ≡ failed (source_of r)
failed_of_log failed r none = ap (λ b. b || failed (source_of r)) (not_ended r.has_ended r.is_feed r.feed none)

-- nothing more is to come at its end
pub never_ended : {S : Type 0} (r : LineReader S) → r.is_feed ≡ false → r.has_ended ≡ false
never_ended r none = not_ended r.has_ended r.is_feed r.feed none
