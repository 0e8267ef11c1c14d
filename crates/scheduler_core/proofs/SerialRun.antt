-- The serial run by places.
use Rattle.std.proofs.Common.{◌≡◌, ℕ, zero, suc, ◌≤◌, List, [], ◌∷◌, ◌++◌, length, Some, refl, sym, ◌∙◌, ap, arith, slice_get, take}
use Rattle.values.specs.Database.{Database}
use Rattle.meaning.specs.Entries.{EntryShape, Reply, meaning}
use Rattle.meaning.specs.Serial.{serial_end, serial_replies}
use Rattle.scheduler_core.specs.Transactions.{Transaction, entries_of}
use Rattle.scheduler_core.specs.Serial.{serial_rows, serial_reply, IsByPlaces}
use Rattle.scheduler_core.proofs.Lists.{some_is, none_some, get_mapped, length_mapped, take_all, take_next, take_past, same_places}

end_more : (es : List EntryShape) (e : EntryShape) (db : Database) → serial_end (es ++ e ∷ []) db ≡ (meaning e (serial_end es db)).1
end_more [] e db = refl
end_more (x ∷ es) e db = end_more es e (meaning x db).1

reply_there : (es : List EntryShape) (k : ℕ) (e : EntryShape) (db : Database) → slice_get es k ≡ Some e
    → slice_get (serial_replies es db) k ≡ Some (meaning e (serial_end (take k es) db)).0
reply_there [] k e db is = absurd (none_some e is)
reply_there (x ∷ es) zero e db is = ap (λ (y : EntryShape). Some (meaning y db).0) (some_is x e is)
reply_there (x ∷ es) (suc k) e db is = reply_there es k e (meaning x db).1 is

pub reply_count : (es : List EntryShape) (db : Database) → length (serial_replies es db) ≡ length es
reply_count [] db = refl
reply_count (x ∷ es) db = ap suc (reply_count es (meaning x db).1)

entry_at : (log : List Transaction) (place : ℕ) (t : Transaction) → slice_get log place ≡ Some t → slice_get (entries_of log) place ≡ Some t.entry
entry_at log place t is = get_mapped (λ (u : Transaction). u.entry) log place t is

pub next_rows : (log : List Transaction) (start : Database) (place : ℕ) (t : Transaction) → slice_get log place ≡ Some t
    → serial_rows log start (suc place) ≡ (meaning t.entry (serial_rows log start place)).1
next_rows log start place t is =
    ap (λ es. serial_end es start) (take_next (entries_of log) place t.entry (entry_at log place t is)) ∙ end_more (take place (entries_of log)) t.entry start

pub next_reply : (log : List Transaction) (start : Database) (place : ℕ) (t : Transaction) → slice_get log place ≡ Some t
    → serial_reply log start place ≡ Some (meaning t.entry (serial_rows log start place)).0
next_reply log start place t is = reply_there (entries_of log) place t.entry start (entry_at log place t is)

-- past the log nothing changes
pub past_rows : (log : List Transaction) (start : Database) (place : ℕ) → length log ≤ place → serial_rows log start (suc place) ≡ serial_rows log start place
past_rows log start place more =
    let count : length (entries_of log) ≡ length log = length_mapped (λ (u : Transaction). u.entry) log in
    ap (λ es. serial_end es start) (take_past (entries_of log) (suc place) (omega (arith, count, more)) ∙ sym (take_past (entries_of log) place (omega (arith, count, more))))

pub last_rows : (log : List Transaction) (start : Database) → serial_rows log start (length log) ≡ serial_end (entries_of log) start
last_rows log start =
    let count : length (entries_of log) ≡ length log = length_mapped (λ (u : Transaction). u.entry) log in
    ap (λ es. serial_end es start) (ap (λ (n : ℕ). take n (entries_of log)) (sym count) ∙ take_all (entries_of log))

pub all_replies_are : (log : List Transaction) (start : Database) (replies : List Reply) → length replies ≡ length log
    → ((place : ℕ) (reply : Reply) → slice_get replies place ≡ Some reply → serial_reply log start place ≡ Some reply)
    → replies ≡ serial_replies (entries_of log) start
all_replies_are log start replies count each =
    same_places replies (serial_replies (entries_of log) start)
    (count ∙ sym (reply_count (entries_of log) start ∙ length_mapped (λ (u : Transaction). u.entry) log)) each

pub run_by_places : (log : List Transaction) (start : Database) → IsByPlaces log start
run_by_places log start = record { first = refl; next = next_rows log start; reply = next_reply log start; last = last_rows log start; all = all_replies_are log start }
