use Rattle.std.proofs.Common.{rules}
use Rattle.hand_off.proofs.Starts.{starts}
use Rattle.hand_off.proofs.tries.Lanes+J+D+W+A.new.Goals as goal

pub vacant-requires : goal.vacant-requires
vacant-requires g c = starts _ _ _ (search rules)
