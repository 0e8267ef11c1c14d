-- How the commands end.
use Rattle.std.proofs.Common.{◌≡◌, ℕ, List, [], Bool, true, false, ◌||◌, Option, Some, Result, Ok, Err, String, refl, sym, ap, ◌∙◌, subst, inl, inr, if◌then◌else◌}
use Rattle.std.specs.FinMap as map_of
use Rattle.std.specs.declared.alloc.Global.{Global}
use Rattle.row_store.specs.Stock.{with_rows}
use Rattle.batch_log.specs.Faults.{ends_in_io}
use Rattle.batch_log.specs.Filters.{IsFilterOf}
use Rattle.batch_log.specs.declared.fault.LogFault.{LogFault}
use Rattle.setup.specs.declared.fault.SetupFault.{SetupFault}
use Rattle.setup.specs.declared.document.SetupDocument.{SetupDocument}
use Rattle.setup.specs.Faults.{is_memory}
use Rattle.setup.specs.Setups.{setup_view}
use Rattle.requests.specs.ProcLists.{AreOver}
use Rattle.std.specs.Result.{IfErr, IfOk}
use Rattle.dispatcher.specs.declared.settings.Settings.{Settings}
use Rattle.running.specs.declared.run_fault.RunFault.{RunFault}
use Rattle.calvin.specs.CommandEnds.{filter_status, kept_status, setup_status, AreLocksAt, AreReplicas, IsAnswered, IsCompared, IsFilterAt, IsTold}
use Rattle.calvin.specs.Inputs.{AreTexts, BreaksFirstOf, Files, IsSetupAt, IsWithoutSetup, Paths, SaysSetupOf}
use Rattle.calvin.specs.FirstBatches.{IsFirstBatchPlanned}
use Rattle.running.specs.Runs.{Device, IsRunOfLog}
use Rattle.running.specs.Starts.{start_in}

-- a text that is no setup, or allocation failed
pub without_setup : (holds : Files) (paths : Paths) (text : List ℕ) (rows : Option (List ℕ)) (fault : SetupFault) (status : ℕ) → AreTexts holds paths text rows → (is_memory fault ≡ false → BreaksFirstOf text rows fault) →
    status ≡ setup_status fault → IsWithoutSetup holds paths status
without_setup holds paths text rows fault status held first is = elim (is_memory fault) as (λ b. is_memory fault ≡ b → IsWithoutSetup holds paths status) [
  | true ↦ λ m. inr (inr (is ∙ ap (λ b. if b then 3 else 1) m))
  | false ↦ λ m. inr (inl (is ∙ ap (λ b. if b then 3 else 1) m, record { text = text; rows = rows; held = held; fault = fault; breaks = first m }))
] refl

-- texts that were read, and what was told of them
pub texts_read : (holds : Files) (paths : Paths) (text : List ℕ) (rows : Option (List ℕ)) (read : Result SetupDocument SetupFault) (told : Result SetupDocument ℕ) → AreTexts holds paths text rows →
    IfOk read (λ s. SaysSetupOf text rows (setup_view s)) → IfOk read (λ s. AreOver s.setup.catalogue s.setup.procs.procs) → IfErr read (λ e. is_memory e ≡ false → BreaksFirstOf text rows e) →
    IfOk told (λ document. read ≡ Ok document) → IfErr told (λ status. (fault : SetupFault) × (read ≡ Err fault) × (status ≡ setup_status fault)) →
    IfOk told (IsSetupAt holds paths) × IfErr told (IsWithoutSetup holds paths)
texts_read holds paths text rows read (Ok document) held found over first same status =
    (record { text = text; rows = rows; held = held; says = rw same at found; over = rw same at over }, tt)
texts_read holds paths text rows read (Err told) held found over first same status =
    (tt, without_setup holds paths text rows status.0 told held (rw status.1 at first) status.2)

pub locks_at : (holds : Files) (paths : Paths) (settings : Settings) (source spent sink filled : Device) (status : ℕ) (document : SetupDocument) (result told : Result (String Global) RunFault) → IsSetupAt holds paths document →
    IsFirstBatchPlanned document.setup.procs document.setup.retries (with_rows map_of.empty document.setup.rows.items) settings source spent result → result ≡ told → IsTold told sink filled status → AreLocksAt holds paths settings source spent sink filled status
locks_at holds paths settings source spent sink filled status document result told is planned same ends = record {
  document = document;
  is_setup = is;
  result = result;
  planned = planned;
  ends = subst (λ r. IsTold r sink filled status) (sym same) ends;
}

pub compared : (result : Result ℕ RunFault) (count : ℕ) (full : Bool) (report other : List ℕ) (sink filled : Device) (status : ℕ) → result ≡ Ok count → IsAnswered report other sink filled status →
    IsCompared result full report other sink filled status
compared result count full report other sink filled status is answered = subst (λ r. IsCompared r full report other sink filled status) (sym is) answered

pub not_compared : (result : Result ℕ RunFault) (fault : RunFault) (full : Bool) (report other : List ℕ) (sink : Device) (status : ℕ) → result ≡ Err fault → status ≡ kept_status full fault →
    IsCompared result full report other sink sink status
not_compared result fault full report other sink status is ends = subst (λ r. IsCompared r full report other sink sink status) (sym is) (ends, refl)

abbrev kept : List ℕ → Bool → Device
kept report full = record { bytes = Some report; failed = full }

pub replicas_at : (holds : Files) (paths : Paths) (path : List ℕ) (source spent sink filled : Device) (status : ℕ) (other : List ℕ) (document : SetupDocument) (result : Result ℕ RunFault) (before report : List ℕ) (was full : Bool) →
    holds path (Some other) → IsSetupAt holds paths document → before ≡ [] → was ≡ false →
    IsRunOfLog (start_in document) source spent (kept before was) (kept report full) result →
    IsCompared result full report other sink filled status → AreReplicas holds paths path source spent sink filled status
replicas_at holds paths path source spent sink filled status other document result before report was full held is nothing room run ends =
    let from : IsRunOfLog (start_in document) source spent (kept [] false) (kept report full) result =
    subst (λ (d : Device). IsRunOfLog (start_in document) source spent d (kept report full) result) (λ i. kept (nothing i) (room i)) run in
    record {
      other = other;
      held = held;
      document = document;
      is_setup = is;
      result = result;
      report = report;
      is_full = full;
      run = from;
      whole = from.ok;
      ends = ends;
    }

pub filter_at : (holds : Files) (paths : Paths) (source spent sink filled : Device) (status : ℕ) (document : SetupDocument) (result told : Result Bool LogFault) → IsSetupAt holds paths document →
    IsFilterOf document.setup.procs.procs source.bytes spent.bytes sink.bytes filled.bytes source.failed spent.failed result →
    (spent.failed || filled.failed) ≡ ((source.failed || sink.failed) || ends_in_io result) → result ≡ told → status ≡ filter_status told → IsFilterAt holds paths source spent sink filled status
filter_at holds paths source spent sink filled status document result told is filter fails same ends = record {
  document = document;
  is_setup = is;
  result = result;
  filter = filter;
  fails = fails;
  ends = ends ∙ ap filter_status (sym same);
}
