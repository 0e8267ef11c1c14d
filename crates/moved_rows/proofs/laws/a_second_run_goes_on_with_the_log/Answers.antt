use Rattle.std.proofs.Common.{List, ◌++◌, sym, ap, ◌∙◌, subst}
use Rattle.values.specs.Database.{Database}
use Rattle.meaning.specs.Entries.{Reply}
use Rattle.setup.specs.Setups.{SetupShape}
use Rattle.running.specs.Reports.{rows_after}
use Rattle.rows_document.specs.Texts.{rows_document}
use Rattle.moved_rows.specs.GoingOn.{on_rows, outcomes_of, with_rows_of}
use Rattle.moved_rows.specs.Starts.{IsStartOf}
use Rattle.moved_rows.proofs.laws.a_second_run_goes_on_with_the_log.Goals as goal

pub returns-clause-says : goal.returns-clause-says
returns-clause-says c = λ text s start first said of none. (c.a_run_goes_on_from_written_rows.ensures.whole text s start first said of none).says

pub returns-clause-one : goal.returns-clause-one
returns-clause-one c = λ text s start first rest t again said of ends fine none says starts.
    let db = rows_after start first in
    let faults = c.a_log_goes_on_after_a_cut.ensures.faults start first rest ends fine in
    let goes = c.a_run_goes_on_from_written_rows.ensures.whole text s start first said of faults.0 in
    let same = c.one_setup_is_said_with_rows.ensures text (rows_document s.tables db) t (with_rows_of s db) says goes.says in
    let is : IsStartOf (with_rows_of s db) again = subst (λ (x : SetupShape). IsStartOf x again) same starts in
    let one = c.one_setup_has_one_run.ensures in
    record {
      begins = is.rows ∙ sym goes.starts.rows;
      tables = is.tables ∙ sym goes.starts.tables;
      digest = is.digest ∙ sym goes.starts.digest;
      fault = sym (one.fault (with_rows_of s db) (on_rows start db) again rest goes.starts is) ∙ faults.1;
      outcomes =
          c.a_log_goes_on_after_a_cut.ensures.outcomes start first rest ends fine none
          ∙ ap (λ (later : List (List Reply × Database)). outcomes_of start first ++ later) (one.outcomes (with_rows_of s db) (on_rows start db) again rest goes.starts is);
      rows = c.a_log_goes_on_after_a_cut.ensures.rows start first rest ends fine none ∙ one.rows (with_rows_of s db) (on_rows start db) again rest goes.starts is;
    }
