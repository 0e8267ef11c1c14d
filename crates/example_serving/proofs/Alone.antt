-- Batches to which nothing is carried.
use Rattle.std.proofs.Common.{◌≡◌, ◌+◌, List, [], ◌∷◌, ◌++◌, drop, length, map, refl, ap, ◌∙◌}
use Rattle.std.proofs.lemmas.List.{length-map}
use Rattle.values.specs.Database.{Database}
use Rattle.meaning.specs.Entries.{EntryShape}
use Rattle.meaning.specs.Serial.{serial_end, serial_replies}
use Rattle.requests.specs.ProcLists.{ProcsParts}
use Rattle.sequencer.specs.Attempts.{own, attempts_of}
use Rattle.sequencer.specs.Batches.{RequestItem}
use Rattle.sequencer.specs.Entries.{prepared}
use Rattle.sequencer.specs.declared.attempts.Carried.{Carried}
use Rattle.sequencer.proofs.TriedAgain.{none_tried}
use Rattle.retries.specs.Standings.{Standing}
use Rattle.engine.specs.Batches.{entries_of}
use Rattle.example_serving.specs.Calls.{CallItem, requests_of, asked_of}
use Rattle.example_serving.specs.Serving.{answers_to, said_again, attempts_for, replies_for, batch_said, batch_end, all_end}

pub none_carried : (procs : ProcsParts) (s : Standing) (batches : List (List CallItem)) → s.carried ≡ [] → (all_end 0 procs s batches).carried ≡ []
none_carried procs s [] none = none
none_carried procs s (b ∷ batches) none = none_carried procs (batch_end 0 procs s b) batches (none_tried s.next (attempts_for procs s b) (replies_for procs s b))

own_entries : (db : Database) (items : List RequestItem) → entries_of db (map own items) ≡ map (λ item. prepared db item.request) items
own_entries db [] = refl
own_entries db (item ∷ items) = ap (λ l. prepared db item.request ∷ l) (own_entries db items)

-- the entries of a batch are those of its own requests
entries_alone : (procs : ProcsParts) (s : Standing) (items : List CallItem) → s.carried ≡ []
    → entries_of s.rows (attempts_for procs s items) ≡ map (λ item. prepared s.rows item.request) (requests_of procs items)
entries_alone procs s items none = ap (λ (carried : List Carried). entries_of s.rows (attempts_of carried (requests_of procs items))) none ∙ own_entries s.rows (requests_of procs items)

pub said_alone : (procs : ProcsParts) (s : Standing) (items : List CallItem) → s.carried ≡ []
    → batch_said procs s items ≡ answers_to (asked_of procs items) (serial_replies (map (λ item. prepared s.rows item.request) (requests_of procs items)) s.rows)
said_alone procs s items none =
    ap (λ (carried : List Carried). said_again carried (replies_for procs s items) ++ answers_to (asked_of procs items) (drop (length carried) (replies_for procs s items))) none
    ∙ ap (λ (entries : List EntryShape). answers_to (asked_of procs items) (serial_replies entries s.rows)) (entries_alone procs s items none)

pub rows_alone : (procs : ProcsParts) (s : Standing) (items : List CallItem) → s.carried ≡ []
    → (batch_end 0 procs s items).rows ≡ serial_end (map (λ item. prepared s.rows item.request) (requests_of procs items)) s.rows
rows_alone procs s items none = ap (λ (entries : List EntryShape). serial_end entries s.rows) (entries_alone procs s items none)

pub next_alone : (procs : ProcsParts) (s : Standing) (items : List CallItem) → s.carried ≡ [] → (batch_end 0 procs s items).next ≡ s.next + length (requests_of procs items)
next_alone procs s items none =
    ap (λ (carried : List Carried). s.next + length (attempts_of carried (requests_of procs items))) none ∙ ap (λ n. s.next + n) (length-map (requests_of procs items) own)
