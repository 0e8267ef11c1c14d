-- Claimed: what contracts promise to a reader rests on these words.
-- The serial run of a log, by places: what each transaction finds and replies if all run one by one. (Calvin, SIGMOD
-- 2012: the outcome is a function of the log and the start.)
use Rattle.std.specs.Prelude.{◌≡◌, ℕ, suc, List, length, take, Option, Some, slice_get}
use Rattle.values.specs.Database.{Database}
use Rattle.meaning.specs.Entries.{Reply, meaning}
use Rattle.meaning.specs.Serial.{serial_end, serial_replies}
use Rattle.scheduler_core.specs.Transactions.{Transaction, entries_of}

-- the rows that the transaction at a place finds: those that all before it leave
abbrev pub serial_rows : List Transaction → Database → ℕ → Database
serial_rows log start place = serial_end (take place (entries_of log)) start

-- what the transaction at a place replies, None where there is none
abbrev pub serial_reply : List Transaction → Database → ℕ → Option Reply
serial_reply log start place = slice_get (serial_replies (entries_of log) start) place

-- it is the run of each transaction on the rows that the one before it left, from the start to the end
pub record IsByPlaces (log : List Transaction) (start : Database) : Type 0 where
  pub first : serial_rows log start 0 ≡ start
  pub next : (place : ℕ) (t : Transaction) → slice_get log place ≡ Some t
      → serial_rows log start (suc place) ≡ (meaning t.entry (serial_rows log start place)).1
  pub reply : (place : ℕ) (t : Transaction) → slice_get log place ≡ Some t
      → serial_reply log start place ≡ Some (meaning t.entry (serial_rows log start place)).0
  pub last : serial_rows log start (length log) ≡ serial_end (entries_of log) start
  -- as many replies as transactions, each the one of its place, are all the replies
  pub all : (replies : List Reply) → length replies ≡ length log
      → ((place : ℕ) (reply : Reply) → slice_get replies place ≡ Some reply → serial_reply log start place ≡ Some reply)
      → replies ≡ serial_replies (entries_of log) start
