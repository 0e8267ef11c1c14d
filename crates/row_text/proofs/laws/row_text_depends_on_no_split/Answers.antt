use Rattle.row_text.proofs.SplitAnew.{same_text}
use Rattle.row_text.proofs.laws.row_text_depends_on_no_split.Goals as goal

pub returns : goal.returns
returns c = same_text
