use Rattle.std.proofs.Common.{◌≡◌, length, drop, sym, ap, ◌∙◌, subst}
use Rattle.lock_tree.specs.Lines.{line, in_order, others}
use Rattle.lock_tree.specs.Views.{enqueued}
use Rattle.lock_tree.specs.Known.{AreKnown}
use Rattle.lock_tree.specs.Queues.{Queue, granted}
use Rattle.lock_tree.proofs.Leaving.{newly, known_left}
use Rattle.lock_tree.proofs.Chaining.{chained_others}
use Rattle.lock_tree.proofs.release.leave_one.Goals as goal

pub record_granted-requires-clause-agree : goal.record_granted-requires-clause-agree
record_granted-requires-clause-agree c =
    let old = line c.args.lines.now in
    let now = c.remove-left.new.lines in
    let k = c.args.no in
    let r = c.args.resource.now.value in
    let off = c.remove-left.ensures.taken_off in
    let is : drop c.remove-left.result.stay (granted (in_order now.nodes c.args.number)) ≡ newly k (old r) =
    ap (λ m. drop m (granted (in_order now.nodes c.args.number))) c.remove-left.ensures.stays.0
    ∙ ap (λ (xs : Queue). drop (length (others k (granted (old r)))) (granted xs)) c.remove-left.ensures.here in
    record {
      numbered = off.numbered;
      granted = off.granted;
      indexed = c.requires.agree.indexed;
      known =
          subst (λ (xs : Queue). AreKnown (line now) xs (enqueued c.args.transactions.now)) (sym is)
          (known_left k r old (line now) off.lines (enqueued c.args.transactions.now) c.requires.others c.requires.agree.known);
      chained = chained_others k c.args.lines.now now off.others_chained (enqueued c.args.transactions.now) c.requires.others c.requires.agree.chained;
    }
