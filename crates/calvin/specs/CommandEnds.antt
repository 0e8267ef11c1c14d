-- Claimed: what contracts promise to a reader rests on these words.
-- How a command ends: its exit status, and what it wrote.
use Rattle.std.specs.Prelude.{◌≡◌, ℕ, ◌⊎◌, List, [], ◌++◌, length, Bool, true, false, ◌&&◌, ◌||◌, Option, Some, None, option_map, IfSome, OnOk, Result, Ok, Err, codes, if◌then◌else◌, String, string_bytes, ⊤}
use Rattle.std.specs.Fmt.{decimal}
use Rattle.std.specs.FinMap as map_of
use Rattle.std.specs.declared.alloc.Global.{Global}
use Rattle.std.specs.Io.KnownBytes.{Appends}
use Rattle.devices.specs.Devices.{AppendsFront, Passes}
use Rattle.devices.specs.LineReader.{left_for}
use Rattle.catalogue.specs.Places.{table_named}
use Rattle.catalogue.specs.Shapes.{TableShape}
use Rattle.values.specs.Database.{Database}
use Rattle.row_store.specs.Stock.{with_rows}
use Rattle.setup.specs.declared.fault.SetupFault.{SetupFault}
use Rattle.setup.specs.declared.document.SetupDocument.{SetupDocument}
use Rattle.requests.specs.declared.setup.Setup.{Setup}
use Rattle.setup.specs.Faults.{is_memory}
use Rattle.retries.specs.Standings.{Standing}
use Rattle.batch_log.specs.Faults.{ends_in_io}
use Rattle.batch_log.specs.Filters.{IsFilterOf}
use Rattle.batch_log.specs.declared.fault.LogFault.{LogFault}
use Rattle.batch_log.specs.declared.fault.LogFaultKind.{LogFaultKind}
use Rattle.batch_log.specs.declared.fault.LogFaultKind.TheVariants.{Io, Memory}
use Rattle.command_line.specs.CommandLine.{IsAskedFor}
use Rattle.command_line.specs.declared.command.Command.{Command}
use Rattle.command_line.specs.declared.command.Command.TheVariants.{Run, Rows, Filter, Locks, Replicas, Check}
use Rattle.command_line.specs.declared.command.Line.{Line}
use Rattle.command_line.specs.declared.command.Running.{Running}
use Rattle.dispatcher.specs.declared.settings.Settings.{Settings}
use Rattle.running.specs.declared.run_fault.RunFault.{RunFault}
use Rattle.running.specs.declared.run_fault.RunFault.TheVariants as runs
use Rattle.calvin.specs.Comparisons.{IsFirstDifference}
use Rattle.calvin.specs.Listings.{text_of_all, text_of_table}
use Rattle.calvin.specs.FirstBatches.{IsFirstBatchPlanned}
use Rattle.running.specs.Followed.{IsFollowedTo}
use Rattle.running.specs.Reports.{report_of, rows_after}
use Rattle.running.specs.Runs.{Device, IsRunOfLog}
use Rattle.running.specs.Starts.{start_in, Start}
use Rattle.running.specs.Stops.{is_of_device, IsNotOfThread}
use Rattle.calvin.specs.Inputs.{alone_at, paths_of, Files, IsSetupAt, IsWithoutSetup, Paths}

-- ---- exit statuses

-- 1 for a line of the log, 3 for memory, 4 for a device
abbrev pub kind_status : LogFaultKind → ℕ
kind_status Io = 4
kind_status Memory = 3
kind_status kind = 1

-- a refused thread counts as a device
abbrev pub fault_status : RunFault → ℕ
fault_status (runs.Log fault) = kind_status fault.kind
fault_status (runs.Spawn line) = 4

-- the status of `run`
abbrev pub run_status : Result ℕ RunFault → ℕ
run_status (Ok count) = 0
run_status (Err fault) = fault_status fault

-- the status where a setup was not read: 3 where allocation failed, and else 1
abbrev pub setup_status : SetupFault → ℕ
setup_status fault = if is_memory fault then 3 else 1

-- ---- the command `run`

-- a device as the source of a log, which may be a feed, and whether nothing more had come when it was read
abbrev pub source_with : Bool → Bool → Device → Device
source_with feed ended device = record { bytes = left_for feed device.bytes; failed = ended || device.failed }

-- 6 where a feed has ended
abbrev pub end_status : Bool → Result ℕ RunFault → ℕ
end_status true result = 6
end_status false result = run_status result

-- Of a feed the reports of the batches that a cut ends were written, and nothing else; after their bytes come whole
-- lines of calls, and a beginning of a line. The rows, and the requests that are carried, are those after these
-- batches.
abbrev pub IsFollowed : Start → Bool → Device → Device → Option (List ℕ) → Option (List ℕ) → Standing → Type 0
IsFollowed start feed source spent sink filled standing =
    Passes (IsFollowedTo start sink filled standing) (left_for feed source.bytes) (left_for feed spent.bytes)

-- rule: command.follow
-- The log was run on the setup at the paths, alone on one thread or on several. Only a feed ends as a feed, once all
-- that had come is read.
pub record IsRunAt (alone feed : Bool) (holds : Files) (paths : Paths) (source spent sink filled : Device) (status : ℕ)
    : Type 0 where
  pub document : SetupDocument
  pub is_setup : IsSetupAt holds paths document
  pub result : Result ℕ RunFault
  pub ended : Bool
  pub run : IsRunOfLog (start_in document) (source_with feed false source) (source_with feed ended spent) sink filled
      result
  pub whole : ended ≡ true → (feed ≡ true) × IfSome spent.bytes (λ bytes. bytes ≡ [])
  pub followed : ended ≡ true
      → (standing : Standing) × IsFollowed (start_in document) feed source spent sink.bytes filled.bytes standing
  -- Alone on one thread, no thread is refused.
  pub threadless : alone ≡ true → IsNotOfThread result
  pub ends : status ≡ end_status ended result

-- Without a setup nothing is read of the log, and nothing is written.
abbrev pub IsRunCommand : Bool → Bool → Files → Paths → Device → Device → Device → Device → ℕ → Type 0
IsRunCommand alone feed holds paths source spent sink filled status =
    (IsWithoutSetup holds paths status × (spent ≡ source) × (filled ≡ sink))
    ⊎ IsRunAt alone feed holds paths source spent sink filled status

-- ---- the command `filter`

-- 0 where each line was copied, 1 where some was not
abbrev pub filter_status : Result Bool LogFault → ℕ
filter_status (Ok true) = 0
filter_status (Ok false) = 1
filter_status (Err fault) = kind_status fault.kind

-- The lines of the log that say a call or a cut to the procedures of the setup at a path were copied.
pub record IsFilterAt (holds : Files) (paths : Paths) (source spent sink filled : Device) (status : ℕ) : Type 0 where
  pub document : SetupDocument
  pub is_setup : IsSetupAt holds paths document
  pub result : Result Bool LogFault
  pub filter : IsFilterOf document.setup.procs.procs source.bytes spent.bytes sink.bytes filled.bytes source.failed
      spent.failed result
  -- A device fails where the fault is of one, and only there.
  pub fails : (spent.failed || filled.failed) ≡ ((source.failed || sink.failed) || ends_in_io result)
  pub ends : status ≡ filter_status result

-- Without a setup nothing is read of the log, and nothing is written.
abbrev pub IsFilterCommand : Files → Paths → Device → Device → Device → Device → ℕ → Type 0
IsFilterCommand holds paths source spent sink filled status =
    (IsWithoutSetup holds paths status × (spent ≡ source) × (filled ≡ sink))
    ⊎ IsFilterAt holds paths source spent sink filled status

-- ---- the command `replicas`

-- the line that says where two reports differ
abbrev pub answer_text : Option ℕ → List ℕ
answer_text None = codes "same\n"
answer_text (Some place) = codes "differ at byte " ++ decimal place ++ codes "\n"

-- the status of a comparison: 0 where the texts are one, and else 5
abbrev pub answer_status : Option ℕ → ℕ
answer_status None = 0
answer_status (Some place) = 5

-- A text was written and the command ended as it should; or its write failed; or allocation failed, and nothing was
-- written.
abbrev pub IsWritten : List ℕ → Device → Device → ℕ → ℕ → Type 0
IsWritten text sink filled done status =
    ((status ≡ done) × Appends sink.bytes filled.bytes text)
    ⊎ (((status ≡ 4) × AppendsFront sink.bytes filled.bytes text × (filled.failed ≡ true))
    ⊎ ((status ≡ 3) × (filled ≡ sink)))

-- The status of a fault of a run whose report was kept in memory: a write was refused for want of memory alone.
abbrev pub kept_status : Bool → RunFault → ℕ
kept_status full fault = if full && is_of_device fault then 3 else fault_status fault

-- the first difference of a report and another was written
abbrev pub IsAnswered : List ℕ → List ℕ → Device → Device → ℕ → Type 0
IsAnswered report other sink filled status =
    (difference : Option ℕ) × IsFirstDifference difference report other
    × IsWritten (answer_text difference) sink filled (answer_status difference) status

-- after a fault nothing is compared
abbrev pub IsCompared : Result ℕ RunFault → Bool → List ℕ → List ℕ → Device → Device → ℕ → Type 0
IsCompared (Err fault) full report other sink filled status = (status ≡ kept_status full fault) × (filled ≡ sink)
IsCompared (Ok count) full report other sink filled status = IsAnswered report other sink filled status

-- The log was run on the setup at the paths, and its report compared with the text at another.
pub record AreReplicas (holds : Files) (paths : Paths) (path : List ℕ) (source spent sink filled : Device) (status : ℕ)
    : Type 0 where
  pub other : List ℕ
  pub held : holds path (Some other)
  pub document : SetupDocument
  pub is_setup : IsSetupAt holds paths document
  pub result : Result ℕ RunFault
  -- what was kept of the report, and whether allocation failed for it
  pub report : List ℕ
  pub is_full : Bool
  pub run : IsRunOfLog (start_in document) source spent (record { bytes = Some []; failed = false })
      (record { bytes = Some report; failed = is_full }) result
  pub whole : OnOk result
      (IfSome source.bytes (λ log. report ≡ report_of (start_in document) log))
  pub ends : IsCompared result is_full report other sink filled status

-- rule: command.order
-- The other report is read first, and then the setup. Without either nothing is read of the log, and nothing is
-- written.
abbrev pub IsReplicasCommand : Files → Paths → List ℕ → Device → Device → Device → Device → ℕ → Type 0
IsReplicasCommand holds paths path source spent sink filled status =
    ((((status ≡ 4) × holds path None)
    ⊎ ((status ≡ 3) ⊎ ((other : List ℕ) × holds path (Some other) × IsWithoutSetup holds paths status)))
    × (spent ≡ source) × (filled ≡ sink))
    ⊎ AreReplicas holds paths path source spent sink filled status

-- ---- the command `rows`

-- a device of which nothing is known
abbrev pub unknown : Device
unknown = record { bytes = None; failed = false }

-- the rows of all tables, or of the one with a name, as row lines or as a rows document; none where no table has that
-- name
abbrev pub rows_listed : Bool → Option (List ℕ) → List TableShape → Database → Option (List ℕ)
rows_listed document None tables db = Some (text_of_all document tables db)
rows_listed document (Some name) tables db =
    option_map (λ table. text_of_table document tables table db) (table_named tables name)

-- a text of rows was written, and the command ended so
pub record AreWritten (listing : Bool × Option (List ℕ)) (document : SetupDocument) (rows : Database)
    (sink filled : Device) (done status : ℕ) : Type 0 where
  pub text : List ℕ
  pub is_text : rows_listed listing.0 listing.1 document.setup.catalogue rows ≡ Some text
  pub written : IsWritten text sink filled done status

-- After a fault of the run nothing is written; else the rows that it leaves are. At the end of a feed those after the
-- last cut are.
abbrev pub AreListed : Bool × Option (List ℕ) → Bool → SetupDocument → Device → Device → Bool → Result ℕ RunFault
    → Device → Device → ℕ → Type 0
AreListed listing feed document source spent true result sink filled status =
    (standing : Standing) × IsFollowed (start_in document) feed source spent None None standing
    × AreWritten listing document standing.rows sink filled 6 status
AreListed listing feed document source spent false (Err fault) sink filled status =
    (status ≡ fault_status fault) × (filled ≡ sink)
AreListed listing feed document source spent false (Ok count) sink filled status =
    (rows : Database)
    × IfSome (left_for feed source.bytes) (λ log. rows ≡ rows_after (start_in document) log)
    × AreWritten listing document rows sink filled 0 status

-- The log was run on the setup, alone on one thread or on several, and the rows that it leaves were written.
pub record AreRowsOf (listing : Bool × Option (List ℕ)) (alone feed : Bool) (document : SetupDocument)
    (source spent sink filled : Device) (status : ℕ) : Type 0 where
  pub result : Result ℕ RunFault
  pub ended : Bool
  -- the report goes where nothing is known of it
  pub run : IsRunOfLog (start_in document) (source_with feed false source) (source_with feed ended spent)
      unknown unknown result
  pub whole : ended ≡ true → (feed ≡ true) × IfSome spent.bytes (λ bytes. bytes ≡ [])
  -- Alone on one thread, no thread is refused.
  pub threadless : alone ≡ true → IsNotOfThread result
  pub ends : AreListed listing feed document source spent ended result sink filled status

-- the setup has no table with the name that is asked for
abbrev pub IsWithoutTable : Option (List ℕ) → SetupDocument → ℕ → Type 0
IsWithoutTable table document status =
    (status ≡ 1) × (name : List ℕ) × (table ≡ Some name) × (table_named document.setup.catalogue name ≡ None)

-- rule: command.rows
-- Without a setup, and without the table that is asked for, nothing is read of the log, and nothing is written.
abbrev pub IsRowsCommand : Bool × Option (List ℕ) → Bool → Bool → Files → Paths → Device → Device → Device → Device → ℕ
    → Type 0
IsRowsCommand listing alone feed holds paths source spent sink filled status =
    (IsWithoutSetup holds paths status × (spent ≡ source) × (filled ≡ sink))
    ⊎ ((document : SetupDocument) × IsSetupAt holds paths document
    × ((IsWithoutTable listing.1 document status × (spent ≡ source) × (filled ≡ sink))
    ⊎ AreRowsOf listing alone feed document source spent sink filled status))

-- ---- the command `check`

-- the line that says how many tables, procedures and rows there are
unfoldable pub counts_text : ℕ → ℕ → ℕ → List ℕ
counts_text tables procedures rows = codes "ok " ++ decimal tables ++ codes " tables " ++ decimal procedures
    ++ codes " procedures " ++ decimal rows ++ codes " rows\n"

-- rule: command.check
-- how many a setup has
abbrev pub check_text : Setup → List ℕ
check_text setup = counts_text (length setup.catalogue) (length setup.procs.procs) (length setup.rows.items)

-- Without a setup nothing is written; with one, how much it has.
abbrev pub IsCheckCommand : Files → Paths → Device → Device → ℕ → Type 0
IsCheckCommand holds paths sink filled status =
    (IsWithoutSetup holds paths status × (filled ≡ sink))
    ⊎ ((document : SetupDocument) × IsSetupAt holds paths document
    × IsWritten (check_text document.setup) sink filled 0 status)

-- ---- the command `locks`

-- A text that was made is written. After a fault nothing is.
abbrev pub IsTold : Result (String Global) RunFault → Device → Device → ℕ → Type 0
IsTold (Ok text) sink filled status = IsWritten (string_bytes text) sink filled 0 status
IsTold (Err fault) sink filled status = (status ≡ fault_status fault) × (filled ≡ sink)

-- The plans of the log's first batch were made on the setup at a path, and their text was written.
pub record AreLocksAt (holds : Files) (paths : Paths) (settings : Settings) (source spent sink filled : Device)
    (status : ℕ) : Type 0 where
  pub document : SetupDocument
  pub is_setup : IsSetupAt holds paths document
  pub result : Result (String Global) RunFault
  pub planned : IsFirstBatchPlanned document.setup.procs document.setup.retries
      (with_rows map_of.empty document.setup.rows.items) settings source spent result
  pub ends : IsTold result sink filled status

-- Without a setup nothing is read of the log, and nothing is written.
abbrev pub IsLocksCommand : Files → Paths → Settings → Device → Device → Device → Device → ℕ → Type 0
IsLocksCommand holds paths settings source spent sink filled status =
    (IsWithoutSetup holds paths status × (spent ≡ source) × (filled ≡ sink))
    ⊎ AreLocksAt holds paths settings source spent sink filled status

-- ---- which command

-- what holds of the paths of `run`, and of how the log is run
abbrev pub IfRun : Command → (Paths → Running → Type 0) → Type 0
IfRun (Run input running) P = P (paths_of input) running
IfRun command P = ⊤

-- what holds of the paths of `rows`, of how the log is run, and of whether the rows are a document and of which table
abbrev pub IfRows : Command → (Paths → Running → Bool × Option (List ℕ) → Type 0) → Type 0
IfRows (Rows input running listing) P =
    P (paths_of input) running (listing.document, option_map string_bytes listing.table)
IfRows command P = ⊤

-- what holds of the setup's path of `filter`
abbrev pub IfFilter : Command → (List ℕ → Type 0) → Type 0
IfFilter (Filter setup) P = P (string_bytes setup)
IfFilter command P = ⊤

-- what holds of the paths of `locks`
abbrev pub IfLocks : Command → (Paths → Type 0) → Type 0
IfLocks (Locks input) P = P (paths_of input)
IfLocks command P = ⊤

-- what holds of the paths of `replicas` and of that of the other report
abbrev pub IfReplicas : Command → (Paths → List ℕ → Type 0) → Type 0
IfReplicas (Replicas input progress report) P = P (paths_of input) (string_bytes report)
IfReplicas command P = ⊤

-- what holds of the paths of `check`
abbrev pub IfCheck : Command → (Paths → Type 0) → Type 0
IfCheck (Check input) P = P (paths_of input)
IfCheck command P = ⊤

-- rule: command.status
-- What comes of a command line, by its command: `run` writes the report of the log on the setup at its paths, and with
-- `--follow` that of what a feed had given up to a cut; `rows` writes the rows that the log leaves, and `replicas`
-- compares that report with the text at another path; `filter` writes the lines of the log that say a call or a cut;
-- `locks` writes the plans of the log's first batch; `check` writes how much the setup has, and reads nothing of the
-- log.
pub record Does (holds : Files) (line : Line) (source spent sink filled : Device) (status : ℕ) : Type 0 where
  pub run : IfRun line.command (λ paths running.
      IsRunCommand running.alone running.follow holds paths source spent sink filled status)
  pub rows : IfRows line.command (λ paths running listing.
      IsRowsCommand listing running.alone running.follow holds paths source spent sink filled status)
  pub filter : IfFilter line.command (λ path.
      IsFilterCommand holds (alone_at path) source spent sink filled status)
  pub locks : IfLocks line.command (λ paths.
      IsLocksCommand holds paths line.settings source spent sink filled status)
  pub replicas : IfReplicas line.command (λ paths path.
      IsReplicasCommand holds paths path source spent sink filled status)
  pub check : IfCheck line.command (λ paths. IsCheckCommand holds paths sink filled status)
  pub unread : IfCheck line.command (λ paths. spent ≡ source)

-- rule: command.help
-- What comes of the words after the program's name: they ask for a line, which is done; or they ask for none, or
-- allocation failed, and nothing is read of the log, and nothing is written.
abbrev pub IsProgram : Files → List (List ℕ) → Device → Device → Device → Device → ℕ
    → Type 0
IsProgram holds words source spent sink filled status =
    ((line : Line) × IsAskedFor words line × Does holds line source spent sink filled status)
    ⊎ ((((status ≡ 2) × ((line : Line) → ¬ (IsAskedFor words line))) ⊎ (status ≡ 3)) × (spent ≡ source)
    × (filled ≡ sink))
