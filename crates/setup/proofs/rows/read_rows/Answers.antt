use Rattle.std.proofs.Common.{sym, ◌∙◌}
use Rattle.serde_json.specs.View.{view}
use Rattle.setup.specs.FirstFault.{rows_faults}
use Rattle.setup.specs.Rows.{rows_at}
use Rattle.setup.proofs.SaidRows.{rows_found, rows_read, rows_first, fault_first, fault_none, none_broken}
use Rattle.setup.proofs.rows.read_rows.Goals as goal

pub returns-in-Ok-clause-found : goal.returns-in-Ok-clause-found
returns-in-Ok-clause-found c = rows_found c.args.catalogue.now (view c.args.document.now) c.in-Ok.rows.items c.in-Ok.ensures

pub returns-in-Ok-clause-only : goal.returns-in-Ok-clause-only
returns-in-Ok-clause-only c = λ rows says. sym (rows_read c.args.catalogue.now (view c.args.document.now) rows says) ∙ c.in-Ok.ensures

pub returns-in-Err-clause-only : goal.returns-in-Err-clause-only
returns-in-Err-clause-only c = λ rows says known. sym (rows_read c.args.catalogue.now (view c.args.document.now) rows says) ∙ c.in-Err.ensures known

pub returns-in-Err-clause-first : goal.returns-in-Err-clause-first
returns-in-Err-clause-first c = λ known. fault_first c.in-Err.fault (rows_at c.args.catalogue.now (view c.args.document.now)) (rows_faults c.args.catalogue.now (view c.args.document.now)) (rows_first c.args.catalogue.now (view c.args.document.now)) (c.in-Err.ensures known)

pub returns-in-Err-clause-none : goal.returns-in-Err-clause-none
returns-in-Err-clause-none c = fault_none c.in-Err.fault (rows_at c.args.catalogue.now (view c.args.document.now)) (rows_faults c.args.catalogue.now (view c.args.document.now)) c.in-Err.ensures (rows_first c.args.catalogue.now (view c.args.document.now))

pub returns-in-Ok-clause-unbroken : goal.returns-in-Ok-clause-unbroken
returns-in-Ok-clause-unbroken c = none_broken c.in-Ok.rows.items (rows_at c.args.catalogue.now (view c.args.document.now)) (rows_faults c.args.catalogue.now (view c.args.document.now)) c.in-Ok.ensures (rows_first c.args.catalogue.now (view c.args.document.now))
