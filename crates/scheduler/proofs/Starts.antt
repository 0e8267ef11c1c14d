-- A scheduler at its start.
use Rattle.std.proofs.Common.{◌≡◌, List, [], Some, None, refl, sym, ap, ◌∙◌, subst, arith}
use Rattle.std.specs.FinMap.{FinMap, get, get-empty, empty}
use Rattle.std.specs.Ordering.{nat_cmp}
use Rattle.coarsen.specs.Subtrees.{Requests}
use Rattle.lock_tree.specs.Locks.{Locks, Waiting}
use Rattle.row_store.specs.Stock.{Stock}
use Rattle.values.specs.Database.{Database}
use Rattle.scheduler_core.specs.Sound as core
use Rattle.scheduler_core.specs.Laws.{StaysSound, FollowsPhases}
use Rattle.scheduler.specs.Schedules.{Work, log_of}
use Rattle.scheduler.specs.Scheduled.{IsScheduled, AreSettledBefore}
use Rattle.scheduler.proofs.Numbers.{nothing_lent}

pub starts : (w : Work) → StaysSound w.tables w.first (log_of w) w.start → FollowsPhases w.first (log_of w) → (stock : Stock) (tree : Locks)
    → stock.tables ≡ w.tables → stock.rows ≡ w.start → stock.lent ≡ empty → tree ≡ record { arena = w.arena; waiting = [] } → IsScheduled w [] stock tree
starts w sound follows stock tree tables rows unlent is = record {
  tables = tables;
  sound = subst (λ (d : Database). core.IsSound w.tables (log_of w) w.start [] d) (sym rows) sound.starts;
  ready = follows.stays_ready.starts;
  kept = λ place slot at. absurd (let g : None ≡ Some slot = at in cc);
  tree_is = is ∙ ap (λ (ws : List Waiting). record { arena = w.arena; waiting = ws }) (sym follows.starts);
  lent_is = λ number. ap (λ (m : FinMap nat_cmp Requests). get m number) unlent ∙ get-empty {X = Requests} nat_cmp number ∙ sym (nothing_lent w number);
}

pub none_settled : AreSettledBefore [] 0
none_settled = record {
  before = λ place less. absurd (omega (arith, less));
  next = refl;
  within = omega arith;
}
