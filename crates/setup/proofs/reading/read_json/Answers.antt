use Rattle.std.proofs.Common.{refl}
use Rattle.serde_json.specs.View.{view}
use Rattle.setup.proofs.SaidWithRows.{is_json, not_utf8}
use Rattle.setup.proofs.reading.read_json.Goals as goal

pub returns-in_default-clause-fault : goal.returns-in_default-clause-fault
returns-in_default-clause-fault c = λ known. (refl, not_utf8 c.args.text.now c.in_default.ensures.cases.0)

pub returns-in-Ok-from_str-clause-json : goal.returns-in-Ok-from_str-clause-json
returns-in-Ok-from_str-clause-json c = is_json c.args.text.now c.in-Ok.text.now (view c.in-Ok-from_str.document) c.in-Ok.ensures.cases.0 c.in-Ok.ensures.cases.1 c.in-Ok-from_str.ensures.ok
