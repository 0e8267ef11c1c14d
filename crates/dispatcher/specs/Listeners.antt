-- Claimed: what contracts promise to a reader rests on these words.
-- What a listener is told while transactions run.
use Rattle.std.specs.Prelude.{◌≡◌, ◌+◌, ◌-◌, ◌<◌, ◌≤◌, ◌^◌, ℕ, List, [], ◌∷◌, ◌++◌, length, map, Option, Some, None, ⊤, slice_set}
use Rattle.meaning.specs.Entries.{Reply}
use Rattle.meaning.specs.Serial.{serial_replies}
use Rattle.interp.specs.Entries.{entry_shape}
use Rattle.scheduler.specs.Schedules.{Schedule, Work, phases_of}
use Rattle.scheduler_core.specs.declared.phase.Phase.TheVariants.{Idle}
use Rattle.progress.specs.Tallies.{latest}
use Rattle.progress.specs.Accounts.{Account}
use Rattle.dispatcher.specs.Tallies.{settled_among, tally_of, together, counted, GainsTallies}

-- the last published tally counts the replies of the batches that ended, and these
abbrev pub CountsReplies : Account → List Reply → Type 0
CountsReplies account replies = latest account.published ≡ together account.ended (tally_of replies)

-- what was published went on, where it was
pub record PublishesOn (old new : Account) : Type 0 where
  pub place : new.place ≡ old.place
  pub list : GainsTallies old.published new.published

-- one more transaction can be counted
abbrev pub HasRoomForOne : Option Account → Type 0
HasRoomForOne None = ⊤
HasRoomForOne (Some account) = (latest account.published).settled < 2 ^ 48

-- one more tally is published, which counts one more reply
abbrev pub Hears : Option Account → Reply → Option Account → Type 0
Hears None reply new = new ≡ None
Hears (Some old) reply new =
    new ≡ Some (record old { published = old.published ++ counted (latest old.published) reply ∷ [] })

-- the replies of the serial run of a scheduler's entries
abbrev pub replies_in : Work → List Reply
replies_in work = serial_replies (map entry_shape work.entries) work.start

-- those of the transactions that are settled
abbrev pub settled_in : Schedule → List Reply
settled_in s = settled_among (phases_of s) (replies_in s.work)

-- the last published tally counts the batches that ended, and what is settled of this one
pub record Counts (s : Schedule) (account : Account) : Type 0 where
  pub first : account.ended.settled ≡ s.work.first
  pub few : s.work.first + length s.work.entries ≤ 2 ^ 48
  pub shows : CountsReplies account (settled_in s)

-- and of this one all but the transaction of a number
pub record CountsOthers (s : Schedule) (number : ℕ) (account : Account) : Type 0 where
  pub first : account.ended.settled ≡ s.work.first
  pub few : s.work.first + length s.work.entries ≤ 2 ^ 48
  pub shows : CountsReplies account
      (settled_among (slice_set (phases_of s) (number - s.work.first) Idle) (replies_in s.work))

abbrev pub AreOthersCounted : Schedule → ℕ → Option Account → Type 0
AreOthersCounted s number None = ⊤
AreOthersCounted s number (Some account) = CountsOthers s number account

-- a listener has heard of all that is settled
abbrev pub AreCounted : Schedule → Option Account → Type 0
AreCounted s None = ⊤
AreCounted s (Some account) = Counts s account

-- a listener has heard of nothing but transactions that were settled
abbrev pub HearsOn : Option Account → Option Account → Type 0
HearsOn None new = new ≡ None
HearsOn (Some old) None = ⊥
HearsOn (Some old) (Some new) = (new.ended ≡ old.ended) × PublishesOn old new

-- after a call a listener has heard of all that is settled, and of nothing else
abbrev pub IsToldOf : Schedule → Option Account → Option Account → Type 0
IsToldOf s old new = AreCounted s new × HearsOn old new
