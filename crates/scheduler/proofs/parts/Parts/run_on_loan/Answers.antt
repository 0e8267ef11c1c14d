use Rattle.std.proofs.Common.{ap, ◌∙◌, subst}
use Rattle.scheduler.specs.JobRuns.{JobOf, transaction_of}
use Rattle.meaning.specs.Outcomes.{as_reply}
use Rattle.scheduler_core.specs.Sound.{IsRunOf}
use Rattle.scheduler.proofs.Left.{is_run, with_rows_left}
use Rattle.scheduler.proofs.parts.Parts.run_on_loan.Goals as goal

pub returns-clause-run : goal.returns-clause-run
returns-clause-run c = (
  with_rows_left c.self.inside.no c.self.inside.entry c.self.inside.loan c.apply.new.self c.apply.ensures.tables c.apply.ensures.plan
      ∙ ap (λ (j : JobOf). record { no = j.no; entry = j.entry; loan = record { tables = j.loan.tables; plan = j.loan.plan; rows = c.apply.new.self.rows } }) c.self.view_is,
  subst (λ (j : JobOf). IsRunOf j.loan.tables (transaction_of j) j.loan.rows (as_reply c.in_ok-outcome.field-0.outcome) c.apply.new.self.rows) c.self.view_is
      (is_run (record { no = c.self.inside.no; entry = c.self.inside.entry; loan = c.self.inside.loan }) c.in_ok-outcome.field-0.outcome c.in_ok-outcome.field-0.writes.entries c.apply.new.self.rows c.self.invariant.1 c.in_ok-outcome.ensures.meaning (c.in_ok-apply.ensures.rows)),
)
