use Rattle.std.proofs.Common.{◌≡◌, ◌++◌, ◌∷◌, [], List, Option, None, Some, ap, sym, ◌∙◌, false}
use Rattle.lock_tree.specs.Locks.{Locks, Waiting}
use Rattle.lock_tree.specs.Ready.{ready}
use Rattle.lock_tree.specs.Requested.{locks_of}
use Rattle.lock_tree.proofs.Apart.{first_is_ready}
use Rattle.lock_tree.proofs.tree.LockTree.would_be_ready.Goals as goal

pub returns-in-None : goal.returns-in-None
returns-in-None c = λ number below.
    sym (first_is_ready (record { no = number; plan = c.args.plan.now; marked = false }) [])
    ∙ ap (λ (l : Locks). ready (l.waiting ++ record { no = number; plan = c.args.plan.now; marked = false } ∷ []) number)
    (ap (locks_of c.self.inside.arena) (sym c.in-None.is) ∙ c.self.view_is)
