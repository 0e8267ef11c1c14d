-- The rows that a log leaves, as they are listed.
use Rattle.std.proofs.Common.{◌≡◌, ◌||◌, ℕ, ◌<◌, List, [], ◌∷◌, length, Bool, true, false, Option, None, Some, Result, Ok, Err, refl, sym, ap, ap₂, ◌∙◌, subst, option_map}
use Rattle.std.specs.Option.{IfSome}
use Rattle.std.specs.Str.{bytes_eq}
use Rattle.std.proofs.lemmas.Bool.{both_ways}
use Rattle.std.proofs.lemmas.List.Quantifiers.{position-Some}
use Rattle.std.proofs.lemmas.Result.{IfOk-at_ok}
use Rattle.devices.specs.Devices.{Passes}
use Rattle.devices.specs.LineReader.{left_for}
use Rattle.values.specs.Database.{Database}
use Rattle.catalogue.specs.Places.{table_named}
use Rattle.catalogue.specs.Shapes.{TableShape}
use Rattle.requests.specs.ProcLists.{ProcsParts}
use Rattle.row_text.specs.declared.form.DigestForm.{DigestForm}
use Rattle.batch_log.specs.declared.fault.LogFaultKind.TheVariants.{Memory}
use Rattle.setup.specs.declared.document.SetupDocument.{SetupDocument}
use Rattle.dispatcher.specs.declared.settings.Settings.{Settings}
use Rattle.engine.specs.Engines.{EngineParts, tables_of}
use Rattle.engine.specs.Executions.{KeepsSetting}
use Rattle.running.specs.declared.run_fault.RunFault.{RunFault}
use Rattle.running.specs.declared.run_fault.RunFault.TheVariants as runs
use Rattle.running.specs.Followed.{IsFollowedTo}
use Rattle.running.specs.Reports.{rows_after}
use Rattle.running.specs.Runs.{device_with, Device, IsRunOfLog}
use Rattle.running.specs.Standings.{standing_of}
use Rattle.running.specs.Starts.{start_in, start_on}
use Rattle.running.specs.Stops.{IsNotOfThread}
use Rattle.running.proofs.RunEnds.{nothing_run}
use Rattle.running.specs.declared.reading.Ended.{Ended}
use Rattle.running.specs.declared.reading.Reading.{Reading}
use Rattle.running.specs.EngineRuns.{engine_on, has_ended, IsEngineRun}
use Rattle.calvin.specs.CommandEnds.{fault_status, rows_listed, unknown, AreListed, AreRowsOf, AreWritten, IsWritten}
use Rattle.calvin.specs.Listings.{text_at, text_of_table, IsNotThere, IsPlaceOf}

-- ---- the table that is asked for

-- a table that was found is there
pub place_within : (tables : List TableShape) (table : Option (List ℕ)) (place : Option ℕ) → IsPlaceOf tables table place → IfSome place (λ p. p < length tables)
place_within tables table None h = tt
place_within [] table (Some p) h = let bad : None ≡ Some p = h.2 in absurd cc
place_within (t ∷ ts) table (Some p) h = (position-Some (λ u. bytes_eq h.0 u.name) (t ∷ ts) p t h.2).0

-- its rows are those that are asked for
listed : (document : Bool) (tables : List TableShape) (db : Database) (table : Option (List ℕ)) (place : Option ℕ) → IsPlaceOf tables table place → rows_listed document table tables db ≡ Some (text_at document place tables db)
listed document tables db table None h = ap (λ t. rows_listed document t tables db) h
listed document tables db table (Some p) h =
    ap (λ t. rows_listed document t tables db) h.1 ∙ ap (option_map (λ (place : ℕ). text_of_table document tables place db)) h.2

pub not_there : (tables : List TableShape) (table : Option (List ℕ)) → IsNotThere tables table → (name : List ℕ) × (table ≡ Some name) × (table_named tables name ≡ None)
not_there tables None h = absurd h
not_there tables (Some name) h = (name, refl, h)

-- ---- the tables of an engine

-- after a run they are those of the setup
pub tables_left : (setup : SetupDocument) (settings : Settings) (old new : EngineParts) → old ≡ engine_on setup.setup settings → KeepsSetting old new → tables_of new ≡ setup.setup.catalogue
tables_left setup settings old new made same = ap (λ (procs : ProcsParts). procs.tables) (same.procs ∙ ap (λ (engine : EngineParts). engine.procs) made) ∙ setup.setup.over

pub still_within : (place : Option ℕ) (tables left : List TableShape) → left ≡ tables → IfSome place (λ p. p < length tables) → IfSome place (λ p. p < length left)
still_within place tables left is h = subst (λ (shapes : List TableShape). IfSome place (λ p. p < length shapes)) (sym is) h

-- ---- how the command ends

-- no engine was made
pub list_unmade : {S : Type 0} (left : S → Option (List ℕ)) (failed : S → Bool) (alone document feed : Bool) (table : Option (List ℕ)) (setup : SetupDocument) (source : S) (fault : RunFault) (sink : Device) (status : ℕ) →
    fault ≡ runs.Log (record { kind = Memory; line = 0 }) → status ≡ fault_status fault →
    AreRowsOf (document, table) alone feed setup (device_with (left source) (failed source)) (device_with (left source) (failed source)) sink sink status
list_unmade left failed alone document feed table setup source fault sink status is ends = record {
  result = Err fault;
  ended = false;
  run = nothing_run fault (start_in setup) (left_for feed (left source)) None (failed source) false is;
  whole = λ e. absurd (both_ways false refl e);
  threadless = λ _. rw is tt;
  ends = (ends, refl);
}

module _ {S K : Type 0} (left : S → Option (List ℕ)) (failed : S → Bool) (alone document : Bool) (reading : Reading) (table : Option (List ℕ)) (place : Option ℕ) (setup : SetupDocument) (settings : Settings)
    (at : IsPlaceOf setup.setup.catalogue table place) (old new : EngineParts) (source spent : S) (report reported : K) (ended : Ended) (made : old ≡ engine_on setup.setup settings) (digest : reading.digest ≡ setup.digest)
    (run : IsEngineRun left failed (λ (k : K). None) (λ (k : K). false) reading old new source spent report reported ended) (threadless : alone ≡ true → IsNotOfThread ended.result) where
  from : start_on old reading.digest ≡ start_in setup
  from = ap₂ (λ (engine : EngineParts) (form : DigestForm). start_on engine form) made digest

  ends_so : (sink filled : Device) (status : ℕ) →
      AreListed (document, table) reading.feed setup (device_with (left source) (failed source)) (device_with (left spent) (failed spent)) (has_ended ended) ended.result sink filled status →
      AreRowsOf (document, table) alone reading.feed setup (device_with (left source) (failed source)) (device_with (left spent) (failed spent)) sink filled status
  ends_so sink filled status ends = record {
    result = ended.result;
    ended = has_ended ended;
    run = subst (λ start. IsRunOfLog start (device_with (left_for reading.feed (left source)) (failed source))
        (device_with (left_for reading.feed (left spent)) (has_ended ended || failed spent)) unknown unknown ended.result) from run.run;
    whole = run.feed;
    threadless = threadless;
    ends = ends;
  }

  are_written : (sink filled : Device) (done status : ℕ) → IsWritten (text_at document place (tables_of new) new.rows) sink filled done status → AreWritten (document, table) setup new.rows sink filled done status
  are_written sink filled done status h = record {
    text = text_at document place setup.setup.catalogue new.rows;
    is_text = listed document setup.setup.catalogue new.rows table place at;
    written = subst (λ shapes. IsWritten (text_at document place shapes new.rows) sink filled done status) (tables_left setup settings old new made run.setting) h;
  }

  -- with the rows after the last cut
  pub list_followed : (sink filled : Device) (status : ℕ) → has_ended ended ≡ true → IsWritten (text_at document place (tables_of new) new.rows) sink filled 6 status →
      AreRowsOf (document, table) alone reading.feed setup (device_with (left source) (failed source)) (device_with (left spent) (failed spent)) sink filled status
  list_followed sink filled status e written =
      let so_far : Passes (IsFollowedTo (start_in setup) None None (standing_of new)) (left_for reading.feed (left source)) (left_for reading.feed (left spent)) =
      subst (λ start. Passes (IsFollowedTo start None None (standing_of new)) (left_for reading.feed (left source)) (left_for reading.feed (left spent))) from (run.followed e).followed in
      ends_so sink filled status
      (subst (λ (b : Bool). AreListed (document, table) reading.feed setup (device_with (left source) (failed source)) (device_with (left spent) (failed spent)) b ended.result sink filled status) (sym e)
      (standing_of new, so_far, are_written sink filled 6 status written))

  -- with the rows that the log leaves
  pub list_done : (count : ℕ) (sink filled : Device) (status : ℕ) → has_ended ended ≡ false → ended.result ≡ Ok count → IsWritten (text_at document place (tables_of new) new.rows) sink filled 0 status →
      AreRowsOf (document, table) alone reading.feed setup (device_with (left source) (failed source)) (device_with (left spent) (failed spent)) sink filled status
  list_done count sink filled status e is written =
      let rows : IfSome (left_for reading.feed (left source)) (λ log. new.rows ≡ rows_after (start_in setup) log) =
      subst (λ start. IfSome (left_for reading.feed (left source)) (λ log. new.rows ≡ rows_after start log)) from (IfOk-at_ok _ is run.rows) in
      ends_so sink filled status
      (subst (λ (p : Bool × Result ℕ RunFault). AreListed (document, table) reading.feed setup (device_with (left source) (failed source)) (device_with (left spent) (failed spent)) p.0 p.1 sink filled status)
      (ap₂ (λ b r. (b, r)) (sym e) (sym is)) (new.rows, rows, are_written sink filled 0 status written))

  -- with a fault
  pub list_refused : (fault : RunFault) (sink : Device) (status : ℕ) → has_ended ended ≡ false → ended.result ≡ Err fault → status ≡ fault_status fault →
      AreRowsOf (document, table) alone reading.feed setup (device_with (left source) (failed source)) (device_with (left spent) (failed spent)) sink sink status
  list_refused fault sink status e is ends =
      ends_so sink sink status
      (subst (λ (p : Bool × Result ℕ RunFault). AreListed (document, table) reading.feed setup (device_with (left source) (failed source)) (device_with (left spent) (failed spent)) p.0 p.1 sink sink status)
      (ap₂ (λ b r. (b, r)) (sym e) (sym is)) (ends, refl))
