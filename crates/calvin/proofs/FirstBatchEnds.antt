-- How the plans of a first batch end.
use Rattle.std.proofs.Common.{◌≡◌, ℕ, zero, suc, ◌+◌, ◌≤◌, ◌||◌, List, [], ◌∷◌, ◌++◌, length, map, Bool, true, false, Option, Some, None, is_some, Result, Ok, Err, IsOkAnd, String, string_bytes, refl, sym, ap, ◌∙◌, subst}
use Rattle.std.specs.Option.{IfSome}
use Rattle.std.specs.declared.alloc.Global.{Global}
use Rattle.std.specs.Io.KnownBytes.{Consumes, prepend_known}
use Rattle.devices.specs.Devices.{Passes}
use Rattle.devices.specs.LineReader.{Origin, Position}
use Rattle.devices.proofs.Feeds.{failed_of_log, left_of_log}
use Rattle.devices.proofs.Passing.{Passes-first}
use Rattle.catalogue.specs.Shapes.{TableShape}
use Rattle.values.specs.Database.{Database}
use Rattle.requests.specs.ProcLists.{ProcsParts}
use Rattle.requests.specs.Requests.{Call}
use Rattle.meaning.specs.Entries.{EntryShape}
use Rattle.sequencer.specs.Attempts.{own}
use Rattle.sequencer.specs.Batches.{items_from}
use Rattle.sequencer.specs.Entries.{prepared}
use Rattle.batch_log.specs.Places.{batches_said, fault_said}
use Rattle.batch_log.specs.declared.fault.LogFaultKind.TheVariants.{Memory}
use Rattle.batch_log.specs.declared.fault.LogFault.{LogFault}
use Rattle.batch_log.specs.Faults.{is_io, IsOfLine, line_named}
use Rattle.batch_log.specs.Log.{batches_of, log_said, IsEnd, IsFault, IsNextBatch}
use Rattle.batch_log.specs.Moves.{Moves}
use Rattle.batch_log.specs.declared.reader.LogReader.{LogReader}
use Rattle.batch_log.specs.Reader.{failed_in, left_in, origin_of, source_of, unread}
use Rattle.batch_log.specs.Taken.{TakesCalls}
use Rattle.dispatcher.specs.declared.settings.Settings.{Settings}
use Rattle.running.specs.declared.run_fault.RunFault.{RunFault}
use Rattle.running.specs.declared.run_fault.RunFault.TheVariants as runs
use Rattle.report_text.specs.Report.{entries_in}
use Rattle.retries.specs.Standings.{closed, closing_within, in_turn, start_of, transaction_of}
use Rattle.running.specs.Runs.{device_with, Device}
use Rattle.running.proofs.RunEnds.{or_nothing}
use Rattle.running.proofs.Stopping.{line_begun_is, line_of_fault, not_of_line, nothing_taken, taken_and_came}
use Rattle.calvin.specs.FirstBatches.{first_batch, first_of, IsFirstBatchPlanned, IsPlansText}

-- ---- the first batch of a log, by its batches and its fault

-- nothing is carried before the first batch
none_carried : (retries most : ℕ) (db : Database) → closing_within retries most (start_of db) ≡ []
none_carried retries zero db = refl
none_carried retries (suc most) db = refl

own_entries : (db : Database) (number : ℕ) (calls : List Call) → entries_in (map (transaction_of db) (map own (items_from number calls))) ≡ map (prepared db) calls
own_entries db number [] = refl
own_entries db number (call ∷ calls) = ap (λ (rest : List EntryShape). prepared db call ∷ rest) (own_entries db (number + 1) calls)

pub batch_entries : (db : Database) (number : ℕ) (calls : List Call) → map (λ item. prepared db item.request) (items_from number calls) ≡ map (prepared db) calls
batch_entries db number [] = refl
batch_entries db number (call ∷ calls) = ap (λ (rest : List EntryShape). prepared db call ∷ rest) (batch_entries db (number + 1) calls)

-- the entries of batches, and of those that close a log after them
abbrev all_of : ℕ → Database → List (List Call) → Option LogFault → List (List EntryShape)
all_of retries db batches fault = map entries_in (in_turn retries (start_of db) (closed retries (is_some fault) (start_of db) batches))

first_is : (procs : ProcsParts) (retries : ℕ) (db : Database) (log : List ℕ) (batches : List (List Call)) (fault : Option LogFault) → batches_said procs retries log ≡ batches → fault_said procs retries log ≡ fault →
    first_batch procs retries db log ≡ first_of (all_of retries db batches fault) fault
first_is procs retries db log batches fault b f =
    ap (λ (bs : List (List Call)). first_of (all_of retries db bs (fault_said procs retries log)) (fault_said procs retries log)) b
    ∙ ap (λ (e : Option LogFault). first_of (all_of retries db batches e) e) f

-- without a batch, with one, and with a fault alone
first_of_none : (retries : ℕ) (db : Database) → first_of (all_of retries db [] None) None ≡ Ok []
first_of_none retries db = ap (λ (bs : List (List Call)). first_of (map entries_in (in_turn retries (start_of db) bs)) None) (none_carried retries retries db)

first_of_some : (retries : ℕ) (db : Database) (calls : List Call) (rest : List (List Call)) (fault : Option LogFault) → first_of (all_of retries db (calls ∷ rest) fault) fault ≡ Ok (map (prepared db) calls)
first_of_some retries db calls rest fault = ap first (own_entries db 0 calls)
  where
    first : List EntryShape → Result (List EntryShape) LogFault
    first es = Ok es

-- what is written where these are the entries of the first batch
text_as : (tables : List TableShape) (settings : Settings) (first : Result (List EntryShape) LogFault) (entries : List EntryShape) (text : List ℕ) → first ≡ Ok entries → IsPlansText tables settings entries text →
    IsOkAnd first (λ es. IsPlansText tables settings es text)
text_as tables settings first entries text is h = subst (λ (r : Result (List EntryShape) LogFault). IsOkAnd r (λ es. IsPlansText tables settings es text)) (sym is) h

no_entries : (tables : List TableShape) (settings : Settings) → IsPlansText tables settings [] []
no_entries tables settings = record { plans = []; of_entries = tt; lines = refl }

-- ---- by what the reader answered

-- the log has ended without a batch
pub none_first : (procs : ProcsParts) (retries : ℕ) (db : Database) (settings : Settings) (left now : Option (List ℕ)) (newlines calls : ℕ) (text : List ℕ) → newlines ≡ 0 → calls ≡ 0 →
    Passes (λ xs ys. IsEnd (log_said retries procs.procs newlines calls xs) × (ys ≡ [])) left now → text ≡ [] →
    IfSome left (λ log. IsOkAnd (first_batch procs retries db log) (λ entries. IsPlansText procs.tables settings entries text))
none_first procs retries db settings left now newlines calls text n k p empty =
    Passes-first _ _ left now (rw (n, k) at p) (λ xs ys e. rw empty (text_as procs.tables settings _ [] [] (first_is procs retries db xs [] None e.0.batches e.0.fault ∙ first_of_none retries db) (no_entries procs.tables settings)))

-- it has a first batch
pub batch_first : (procs : ProcsParts) (retries : ℕ) (db : Database) (settings : Settings) (left now : Option (List ℕ)) (newlines calls newlines2 calls2 : ℕ) (requests : List Call) (tables : List TableShape) (text : List ℕ) → newlines ≡ 0 → calls ≡ 0 →
    Passes (λ xs ys. IsNextBatch (log_said retries procs.procs newlines calls xs) requests (log_said retries procs.procs newlines2 calls2 ys)) left now → procs.tables ≡ tables → IsPlansText tables settings (map (prepared db) requests) text →
    IfSome left (λ log. IsOkAnd (first_batch procs retries db log) (λ entries. IsPlansText procs.tables settings entries text))
batch_first procs retries db settings left now newlines calls newlines2 calls2 requests tables text n k p t h =
    Passes-first _ _ left now (rw (n, k) at p)
    (λ xs ys e. text_as procs.tables settings _ (map (prepared db) requests) text (first_is procs retries db xs _ _ e.batches refl ∙ first_of_some retries db requests (batches_of (log_said retries procs.procs newlines2 calls2 ys)) (fault_said procs retries xs)) (subst (λ ts. IsPlansText ts settings (map (prepared db) requests) text) (sym t) h))

-- it has a fault first
pub fault_first : (procs : ProcsParts) (retries : ℕ) (db : Database) (left now : Option (List ℕ)) (newlines calls : ℕ) (fault : LogFault) → newlines ≡ 0 → calls ≡ 0 →
    Passes (λ xs ys. IsFault (log_said retries procs.procs newlines calls xs) fault) left now → IfSome left (λ log. first_batch procs retries db log ≡ Err fault)
fault_first procs retries db left now newlines calls fault n k p = Passes-first _ _ left now (rw (n, k) at p) (λ xs ys e. first_is procs retries db xs [] (Some fault) e.batches e.first)

-- ---- how it ends

module _ (procs : ProcsParts) (retries : ℕ) (db : Database) (settings : Settings) (left last : Option (List ℕ)) (came : List ℕ) (at : Position) (f f2 : Bool) (moves : Moves left (prepend_known came last) nothing_taken at) (few : length came ≤ 4096) where
  was_read : (taken : List ℕ) × Consumes left last taken
  was_read = (moves.bytes ++ came, taken_and_came left last moves.bytes came moves.takes.0)

  -- the bytes that the reader took, before those that came
  abbrev TakesAhead : Bool → Type 0
  TakesAhead failed = Passes (TakesCalls retries procs.procs 0 failed) left (prepend_known came last)

  -- with the text of the plans
  pub ends_planned : (text : String Global) → TakesAhead false → f2 ≡ (f || false) → IfSome left (λ log. IsOkAnd (first_batch procs retries db log) (λ entries. IsPlansText procs.tables settings entries (string_bytes text))) →
      IsFirstBatchPlanned procs retries db settings (device_with left f) (device_with last f2) (Ok text)
  ends_planned text takes works planned = record { text = planned; fault = tt; device = works; threadless = tt; line = λ _. tt; read = was_read; last = (came, few, takes) }

  -- with a fault of the reader
  pub ends_at_fault : (fault : LogFault) → TakesAhead (is_io fault.kind) → f2 ≡ (f || is_io fault.kind) → (IsOfLine fault.kind → IfSome left (λ log. first_batch procs retries db log ≡ Err fault)) →
      fault.line ≡ line_named fault.kind at → (is_io fault.kind ≡ true → came ≡ []) → IsFirstBatchPlanned procs retries db settings (device_with left f) (device_with last f2) (Err (runs.Log fault))
  ends_at_fault fault takes fails first place spent = record {
    text = tt;
    fault = first;
    device = fails;
    threadless = tt;
    line = λ works. λ _. line_of_fault fault.kind f2 left last came at fault.line (fails ∙ ap (λ x. x || is_io fault.kind) works) place spent moves;
    read = was_read;
    last = (came, few, takes);
  }

  -- with memory that was refused for the plans
  pub ends_without_memory : (told : RunFault) (line : ℕ) → TakesAhead false → told ≡ runs.Log (record { kind = Memory; line = line }) → f2 ≡ (f || false) → line ≡ at.begun →
      IsFirstBatchPlanned procs retries db settings (device_with left f) (device_with last f2) (Err told)
  ends_without_memory told line takes is fails begun =
      let ended : IsFirstBatchPlanned procs retries db settings (device_with left f) (device_with last f2) (Err (runs.Log (record { kind = Memory; line = line }))) = record {
        text = tt;
        fault = not_of_line (runs.Log (record { kind = Memory; line = line })) line (λ e. IfSome left (λ log. first_batch procs retries db log ≡ Err e)) (tt, refl);
        device = fails;
        threadless = tt;
        line = λ works. λ _. line_begun_is f2 left last came at line (fails ∙ sym (or_nothing f) ∙ works) begun moves;
        read = was_read;
        last = (came, few, takes);
      } in
      rw is ended

-- what a reader does is done to the source that it reads
pub planned_through : {S : Type 0} (procs : ProcsParts) (retries : ℕ) (db : Database) (settings : Settings) (left : S → Option (List ℕ)) (failed : S → Bool) (reader spent : LogReader S) (first given : S) (r : Result (String Global) RunFault) →
    IsFirstBatchPlanned procs retries db settings (device_with (unread left reader) (failed_in failed reader)) (device_with (left_in left spent) (failed_in failed spent)) r →
    origin_of spent ≡ origin_of reader → (origin_of reader).is_feed ≡ false → unread left reader ≡ left first → source_of reader ≡ first → given ≡ source_of spent →
    IsFirstBatchPlanned procs retries db settings (device_with (left first) (failed first)) (device_with (left given) (failed given)) r
planned_through procs retries db settings left failed reader spent first given r planned same none unread_is begins gives =
    let still : spent.lines.is_feed ≡ false = ap (λ (o : Origin). o.is_feed) same ∙ none in
    let was : failed_in failed reader ≡ failed first = failed_of_log failed reader.lines none ∙ ap failed begins in
    let is : failed_in failed spent ≡ failed given = failed_of_log failed spent.lines still ∙ ap failed (sym gives) in
    let rest : left_in left spent ≡ left given = left_of_log left spent.lines still ∙ ap left (sym gives) in
    subst (λ (d : Device × Device). IsFirstBatchPlanned procs retries db settings d.0 d.1 r) (λ i. (device_with (unread_is i) (was i), device_with (rest i) (is i))) planned
