use Rattle.setup.proofs.SaidWithRows.{tokens_read}
use Rattle.setup.proofs.reading.read_by_tokens.Goals as goal

pub returns : goal.returns
returns c = tokens_read c.args.text.now c.in-Ok.text.now c.setup_by_tokens.result c.in-Ok.ensures.cases.0 c.in-Ok.ensures.cases.1 c.setup_by_tokens.ensures
