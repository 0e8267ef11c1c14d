use Rattle.std.proofs.Common.{ap, sym, subst}
use Rattle.lock_tree.specs.Locks.{Locks}
use Rattle.lock_tree.specs.Ready.{IsNextReady}
use Rattle.lock_tree.specs.Views.{enqueued}
use Rattle.lock_tree.proofs.Nexts.{next_is}
use Rattle.lock_tree.proofs.requested.Requested.next_ready.Goals as goal

pub returns : goal.returns
returns c =
    subst (IsNextReady c.args.self.now.waiting) (sym c.least.ensures)
    (next_is c.self.inside.lines (enqueued c.self.inside.transactions) c.args.self.now.waiting (ap (λ (l : Locks). l.waiting) c.self.view_is) c.self.invariant.indexed.rising c.self.invariant.lines c.self.invariant.known
    c.self.inside.transactions.open.items c.self.invariant.indexed.open_ones)
