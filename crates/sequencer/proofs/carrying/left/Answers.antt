use Rattle.std.proofs.Common.{rules, ◌≡◌, ◌∙◌, length, map, drop, sym, ap, subst, arith}
use Rattle.std.proofs.lemmas.List.{drop_all}
use Rattle.meaning.specs.Outcomes.{as_reply}
use Rattle.sequencer.specs.Attempts.{attempts_in, left_of, AreCarriedOver}
use Rattle.sequencer.specs.Endings.{left_in, next_no, waiting_in}
use Rattle.sequencer.proofs.Carryings.{stale_among}
use Rattle.sequencer.proofs.Ended.{none_ended, all_ended}
use Rattle.sequencer.proofs.TriedAgain.{left_over}
use Rattle.sequencer.proofs.carrying.left.Goals as goal

pub returns-in_default-clause-no_memory : goal.returns-in_default-clause-no_memory
returns-in_default-clause-no_memory c = λ none.
    let zero : c.stale_count.result ≡ 0 = c.stale_count.ensures ∙ stale_among c.args.outcomes.now ∙ ap length none in
    search rules

pub loop-outcome-init : goal.loop-outcome-init
loop-outcome-init c =
    let e = c.of-ending.result in
    let is = c.of-ending.ensures in
    let none = is.left ∙ c.in-Ok.ensures.items in
    let counted = c.stale_count.ensures ∙ stale_among c.args.outcomes.now in
    record {
      left = none_ended c.args.retries c.args.first_no (next_no e) (attempts_in c.args.attempts) (waiting_in e) (map as_reply c.args.outcomes.now) (left_in e) none is.first is.waiting;
      count = omega (arith, ap length is.waiting, c.requires.each);
      few = omega (arith, ap length is.waiting, is.first, c.requires.few);
      retries = is.retries;
      room = omega (arith, ap length none, counted, is.room, c.in-Ok.ensures.exact);
    }

all_left : (c : goal.After-into_left) → c.into_left.result.items ≡ left_of c.args.retries c.args.first_no (attempts_in c.args.attempts) (map as_reply c.args.outcomes.now)
all_left c =
    let ending = c.loop-outcome.ending in
    let none = ap (map as_reply) (drop_all c.loop-outcome.outcome-index c.args.outcomes.now c.loop-outcome-test.false) in
    c.into_left.ensures ∙ all_ended c.args.retries (next_no ending) (waiting_in ending) (map as_reply (drop c.loop-outcome.outcome-index c.args.outcomes.now)) (left_in ending) _ none c.loop-outcome.invariant.left

pub returns-clause-left : goal.returns-clause-left
returns-clause-left c = all_left c

pub returns-clause-over : goal.returns-clause-over
returns-clause-over c = λ tables over. subst (AreCarriedOver tables) (sym (all_left c)) (left_over tables c.args.retries c.args.first_no (attempts_in c.args.attempts) (map as_reply c.args.outcomes.now) over)
