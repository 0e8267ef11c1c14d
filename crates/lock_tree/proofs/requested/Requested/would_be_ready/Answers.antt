use Rattle.std.proofs.Common.{◌≡◌, ◌++◌, ◌∷◌, [], ℕ, List, ap, sym, ◌∙◌, subst, false}
use Rattle.std.specs.List.{list_all}
use Rattle.coarsen.specs.Subtrees.{Requests}
use Rattle.lock_tree.specs.Locks.{Locks, Waiting}
use Rattle.lock_tree.specs.Enqueues.{AreBelow}
use Rattle.lock_tree.specs.Ready.{ready}
use Rattle.lock_tree.specs.Lines.{line}
use Rattle.lock_tree.specs.Granted.{admits}
use Rattle.lock_tree.specs.Views.{all_waiting, enqueued}
use Rattle.lock_tree.proofs.Joining.{joins, all_admit}
use Rattle.lock_tree.proofs.requested.Requested.would_be_ready.Goals as goal

pub returns : goal.returns
returns c = λ number below.
    let ws = all_waiting (enqueued c.self.inside.transactions) in
    let waits : ws ≡ c.args.self.now.waiting = ap (λ (l : Locks). l.waiting) c.self.view_is in
    let plan = c.args.plan.now in
    let here : AreBelow number ws = subst (AreBelow number) (sym waits) below in
    c.admit_all.ensures
    ∙ ap (λ (es : Requests). list_all (λ e. admits (line c.self.inside.lines e.0) e.1) es) c.requests.ensures.same
    ∙ all_admit (line c.self.inside.lines) ws c.self.invariant.lines plan
    ∙ sym (joins ws number plan here c.requests.ensures.sound)
    ∙ ap (λ (xs : List Waiting). ready (xs ++ record { no = number; plan = plan; marked = false } ∷ []) number) waits
