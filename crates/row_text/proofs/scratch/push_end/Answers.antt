use Rattle.std.proofs.Common.{arith, rules}
use Rattle.std.proofs.lemmas.Slice.{between_to_end}
use Rattle.row_text.proofs.scratch.push_end.Goals as goal

pub returns : goal.returns
returns c = rw (← between_to_end c.args.room.now c.args.start 2048 (omega arith)) (search rules)
