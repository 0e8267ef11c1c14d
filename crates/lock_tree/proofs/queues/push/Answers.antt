use Rattle.std.proofs.Common.{◌≡◌, ◌∙◌, ◌++◌, [], ◌∷◌, ℕ, eqb, cond, true, Option, None, Some, IfSome, ap, sym, subst, ◌+◌, arith}
use Rattle.request_arena.specs.Lists.{Lists, EndsChain, free_nodes}
use Rattle.std.specs.HashMap.{spare}
use Rattle.lock_tree.specs.Queues.{Queue}
use Rattle.std.specs.List.{list_any}
use Rattle.request_arena.specs.Chains.{chain_from}
use Rattle.lock_tree.specs.Chained.{IsTail}
use Rattle.lock_tree.specs.Lines.{Lines as CodeLines, request_at, is_same}
use Rattle.lock_tree.proofs.Changing.{line_changed}
use Rattle.lock_tree.proofs.Chaining.{chained_noted, noted_still}
use Rattle.lock_tree.proofs.Lengthening.{pushed_others, pushed_own}
use Rattle.lock_tree.proofs.Vacancies.{unique}
use Rattle.lock_tree.proofs.queues.push.Goals as goal

second_part : (lists : Lists) (owner : ℕ) (tail : Option ℕ) → IfSome tail (λ t. EndsChain lists t × ((request_at lists.held t).0 ≡ owner)) → IfSome tail (λ t. (request_at lists.held t).0 ≡ owner)
second_part lists owner None h = tt
second_part lists owner (Some t) h = h.1

-- the tail is as it was
tail_noted : (was now : CodeLines) (owner : ℕ) (head tail : Option ℕ) → now.nodes ≡ was.nodes → IsTail was owner head tail → IsTail now owner head tail
tail_noted was now owner head None same end = end
tail_noted was now owner head (Some t) same end =
    subst (λ (n : Lists). (list_any (eqb t) (chain_from n.held head) ≡ true) × EndsChain n t × ((request_at n.held t).0 ≡ owner)) (sym same) end

pub returns-clause-pushed : goal.returns-clause-pushed
returns-clause-pushed c =
    let l = c.number_for-number.new.lines in let now = c.add.new.lines in let r = c.args.resource.now in let opened = c.number_for-number.ensures in let added = c.add.ensures in
    record {
      numbered = added.numbered;
      granted = added.granted;
      free =
          let same : free_nodes l.nodes.held ≡ free_nodes c.args.lines.now.nodes.held = ap (λ (n : Lists). free_nodes n.held) opened.nodes in
          let taken = added.free in omega (arith, same, taken);
      lines = λ other.
          line_changed l now r c.number_for-number.result (λ (q : Queue). q ++ (c.args.request.no, c.args.request.mode) ∷ []) added.numbers opened.named (λ s n e f. unique l (Some c.number_for-number.result) opened.numbered s r n e f) added.here added.elsewhere other
          ∙ ap (λ (q : Queue). cond (is_same other r) (q ++ (c.args.request.no, c.args.request.mode) ∷ []) q) (opened.same other);
      room = λ count more.
          let same : spare now.numbers ≡ spare l.numbers = ap spare added.numbers in
          let left = opened.room count more in omega (arith, same, left);
      others_chained = λ e other ok.
          let tail = subst (λ (n : Lists). IfSome c.args.tail (λ t. EndsChain n t × ((request_at n.held t).0 ≡ c.args.request.no))) (sym opened.nodes) c.requires.tail in
          pushed_others l now c.number_for-number.result c.add.result c.args.tail c.args.request opened.numbered opened.within added.live added.pushed added.numbers (second_part l.nodes c.args.request.no c.args.tail tail) e other
          (ok.0, chained_noted c.args.lines.now l e.no opened.nodes (noted_still c.args.lines.now l e.no opened.nodes (λ r n i a named there. opened.kept r n named)) e.plan.value ok.0 e.head ok.1);
    }

pub returns-clause-longer : goal.returns-clause-longer
returns-clause-longer c = (
  c.number_for-number.result,
  λ plan mode numbers head ok end.
      let l = c.number_for-number.new.lines in let now = c.add.new.lines in let opened = c.number_for-number.ensures in let added = c.add.ensures in let no = c.args.request.no in
      pushed_own l now c.number_for-number.result c.add.result c.args.tail c.args.request opened.numbered opened.within added.live added.pushed added.numbers c.args.resource.now opened.named plan mode numbers head
      (chained_noted c.args.lines.now l no opened.nodes (noted_still c.args.lines.now l no opened.nodes (λ r n i a named there. opened.kept r n named)) plan numbers head ok)
      (tail_noted c.args.lines.now l no head c.args.tail opened.nodes end),
)
