use Rattle.row_text.proofs.PartitionTexts.{digests_told}
use Rattle.row_text.proofs.laws.partition_text_tells_each_digest.Goals as goal

pub returns : goal.returns
returns c = digests_told
