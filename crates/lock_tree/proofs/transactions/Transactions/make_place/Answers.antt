use Rattle.std.proofs.Common.{ap, arith, length}
use Rattle.lock_tree.specs.Views.{enqueued}
use Rattle.lock_tree.proofs.Opens.{open_few}
use Rattle.lock_tree.proofs.Named.{values_length}
use Rattle.lock_tree.proofs.transactions.Transactions.make_place.Goals as goal

pub overflow_sub-missing : goal.overflow_sub-missing
overflow_sub-missing c =
    let few = open_few (enqueued c.args.self.now) in
    let is = ap length c.requires.open_ones in
    let all = values_length c.args.self.now.entries.entries in
    let a = c.len.ensures.len in
    let b = c.len-2.ensures in
    let m = c.args.self.now.open.ok.0 in
    omega (arith, few, is, all, a, b, m)
