use Rattle.std.proofs.Common.{◌≡◌, ◌∙◌, None, ap, arith}
use Rattle.request_arena.specs.Lists.{Lists, free_nodes}
use Rattle.lock_tree.specs.Lines.{others}
use Rattle.lock_tree.proofs.Changing.{line_changed}
use Rattle.lock_tree.proofs.Chaining.{left_others, left_own, chained_noted, noted_still}
use Rattle.lock_tree.proofs.Vacancies.{unique}
use Rattle.lock_tree.proofs.queues.remove.Goals as goal

pub returns-clause-taken_off : goal.returns-clause-taken_off
returns-clause-taken_off c =
    let l = c.args.lines.now in let mid = c.leave-left.new.lines in let r = c.args.resource.now.value in let left = c.leave-left.ensures.left in let forgot = c.forget_empty.ensures in
    record {
      numbered = forgot.numbered;
      granted = forgot.granted;
      free =
          let same : free_nodes c.forget_empty.new.lines.nodes.held ≡ free_nodes mid.nodes.held = ap (λ (n : Lists). free_nodes n.held) forgot.nodes in
          let freed = left.free in omega (arith, same, freed);
      lines = λ other.
          forgot.same other
          ∙ line_changed l mid r c.args.number (others c.args.no) left.numbers c.requires.placed.named (λ s n e f. unique l None c.requires.numbered s r n e f) left.here left.elsewhere other;
      others_chained = λ e other ok.
          let before = left_others l mid c.args.no c.args.node c.leave-left.result.successor left.numbers left.removed c.requires.placed.owned e other ok in
          (before.0, chained_noted mid c.forget_empty.new.lines e.no forgot.nodes (noted_still mid c.forget_empty.new.lines e.no forgot.nodes forgot.kept) e.plan.value before.0 e.head before.1);
    }

pub returns-clause-shorter : goal.returns-clause-shorter
returns-clause-shorter c = λ e plan number numbers ok.
    let l = c.args.lines.now in let mid = c.leave-left.new.lines in let left = c.leave-left.ensures.left in
    chained_noted mid c.forget_empty.new.lines c.args.no c.forget_empty.ensures.nodes (noted_still mid c.forget_empty.new.lines c.args.no c.forget_empty.ensures.nodes c.forget_empty.ensures.kept) plan numbers c.leave-left.result.successor
    (left_own l mid c.args.no c.args.node c.leave-left.result.successor left.numbers left.removed c.requires.placed.owned e plan number numbers ok)
