use Rattle.serde_json.specs.View.{view}
use Rattle.setup.proofs.SaidWithRows.{both_read, first_refused, second_refused}
use Rattle.setup.proofs.reading.read_setup_with_rows.Goals as goal

pub returns-in_err-document : goal.returns-in_err-document
returns-in_err-document c =
    first_refused c.args.text.now c.args.rows.now c.from_residual.result c.in_err-document.field-0.0 c.from_residual.ensures.1 c.in_err-document.ensures.fault

pub returns-in_err-rows : goal.returns-in_err-rows
returns-in_err-rows c =
    second_refused c.args.text.now c.args.rows.now c.from_residual-in_err-rows.result (view c.in_ok-document.document) c.in_err-rows.field-0.0 c.from_residual-in_err-rows.ensures.1 c.in_ok-document.ensures.json
    c.in_err-rows.ensures.fault

pub returns : goal.returns
returns c =
    both_read c.args.text.now c.args.rows.now c.read_document.result (view c.in_ok-document.document) (view c.in_ok-rows.rows) c.in_ok-document.ensures.json c.in_ok-rows.ensures.json
    (rw c.with_rows_document.ensures at c.read_document.ensures)
