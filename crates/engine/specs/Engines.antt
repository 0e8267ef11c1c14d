-- Claimed: what contracts promise to a reader rests on these words.
-- An engine as contracts see it.
use Rattle.std.specs.Prelude.{ℕ, List, Bool, Option, is_some, refl}
use Rattle.std.specs.Coded.{Coded, code_by, coded×, coded_ℕ, coded_list, coded_option}
use Rattle.catalogue.specs.Shapes.{TableShape}
use Rattle.values.specs.Database.{Database}
use Rattle.requests.specs.ProcLists.{ProcsParts}
use Rattle.requests.specs.contracts.procs.Procs as procs
use Rattle.dispatcher.specs.declared.settings.Settings.{Settings}
use Rattle.dispatcher.specs.contracts.settings.Settings as settings
use Rattle.requests.specs.Requests.{Call}
use Rattle.requests.specs.contracts.request.Request as requests
use Rattle.sequencer.specs.Attempts.{Attempt, Earlier}
use Rattle.sequencer.specs.declared.attempts.Carried.{Carried}
use Rattle.sequencer.specs.contracts.attempts.Carried as carried
use Rattle.row_store.specs.Stock.{rows_code}
use Rattle.scheduler_core.specs.declared.phase.Phase.{Phase}
use Rattle.scheduler_core.specs.contracts.phase.Phase as phase
use Rattle.progress.specs.Accounts.{Account, account_code}

-- the attempts of a batch that is unfinished, and how far those of its transactions are that were admitted
pub record Unfinished : Type 0 where
  pub attempts : List Attempt
  pub phases : List Phase

-- An engine: the procedures, the settings, how often a stale request is tried again, the number of the next
-- transaction, the database that the batches which ended have left, the requests that are carried to the next batch,
-- and the batch that is unfinished. While a batch is unfinished the carried requests are among its attempts, and none
-- is carried beside them.
pub record EngineParts : Type 0 where
  pub procs : ProcsParts
  pub settings : Settings
  pub retries : ℕ
  pub next : ℕ
  pub rows : Database
  pub carried : List Carried
  pub unfinished : Option Unfinished

-- an engine that publishes, and what its watchers are told
pub record PublishingParts : Type 0 where
  pub core : EngineParts
  pub account : Account

-- the tables of an engine's procedures
abbrev pub tables_of : EngineParts → List TableShape
tables_of engine = engine.procs.tables

-- whether a batch is unfinished
abbrev pub is_busy : EngineParts → Bool
is_busy engine = is_some engine.unfinished

abbrev pub earlier_code : Coded Earlier
earlier_code =
    code_by (ℕ × ℕ) (coded× coded_ℕ coded_ℕ)
    (λ e. (e.first, e.tries))
    (λ p. record { first = p.0; tries = p.1 })
    (λ _. refl)

abbrev pub attempt_code : Coded Attempt
attempt_code =
    code_by (ℕ × (ℕ × (Call × Option Earlier)))
    (coded× coded_ℕ (coded× coded_ℕ (coded× requests.the_row.coded (coded_option earlier_code))))
    (λ a. (a.client, (a.number, (a.request, a.before))))
    (λ p. record { client = p.0; number = p.1.0; request = p.1.1.0; before = p.1.1.1 })
    (λ _. refl)

abbrev pub unfinished_code : Coded Unfinished
unfinished_code =
    code_by (List Attempt × List Phase) (coded× (coded_list attempt_code) (coded_list phase.the_row.coded))
    (λ u. (u.attempts, u.phases))
    (λ p. record { attempts = p.0; phases = p.1 })
    (λ _. refl)

abbrev pub engine_code : Coded EngineParts
engine_code =
    code_by (ProcsParts × (Settings × (ℕ × (ℕ × (Database × (List Carried × Option Unfinished))))))
    (coded× procs.the_row.coded
    (coded× settings.the_row.coded
    (coded× coded_ℕ
    (coded× coded_ℕ (coded× rows_code (coded× (coded_list carried.the_row.coded) (coded_option unfinished_code)))))))
    (λ e. (e.procs, (e.settings, (e.retries, (e.next, (e.rows, (e.carried, e.unfinished)))))))
    (λ p. record {
      procs = p.0;
      settings = p.1.0;
      retries = p.1.1.0;
      next = p.1.1.1.0;
      rows = p.1.1.1.1.0;
      carried = p.1.1.1.1.1.0;
      unfinished = p.1.1.1.1.1.1;
    })
    (λ _. refl)

abbrev pub publishing_code : Coded PublishingParts
publishing_code =
    code_by (EngineParts × Account) (coded× engine_code account_code)
    (λ e. (e.core, e.account))
    (λ p. record { core = p.0; account = p.1 })
    (λ _. refl)
