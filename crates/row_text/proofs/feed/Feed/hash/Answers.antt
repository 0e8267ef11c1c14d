use Rattle.std.proofs.Common.{ap}
use Rattle.hex.specs.Hex.{encode_lower}
use Rattle.row_text.specs.Texts.{digest}
use Rattle.row_text.proofs.Fed.{all_given}
use Rattle.row_text.proofs.feed.Feed.hash.Goals as goal

pub returns : goal.returns
unfolding digest
returns c = λ all is. ap encode_lower (c.finalize.ensures all (all_given c.hand_over.new.self all c.hand_over.ensures.none (c.hand_over.ensures.fed all is)))
