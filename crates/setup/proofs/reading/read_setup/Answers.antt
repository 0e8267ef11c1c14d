use Rattle.serde_json.specs.View.{view}
use Rattle.setup.proofs.SaidWithRows.{text_read, text_refused}
use Rattle.setup.proofs.reading.read_setup.Goals as goal

pub returns-in-Ok : goal.returns-in-Ok
returns-in-Ok c = text_read c.args.text.now (view c.in-Ok.document) c.in-Ok.ensures.json c.read_document.result c.read_document.ensures

pub returns-in-Err : goal.returns-in-Err
returns-in-Err c = text_refused c.args.text.now c.in-Err.fault c.in-Err.ensures.fault
