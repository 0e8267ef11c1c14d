use Rattle.std.proofs.Common.{rules, ap, ◌∙◌, get_or}
use Rattle.std.specs.Prelude.{None}
use Rattle.hand_off.proofs.Steps.{may_deliver}
use Rattle.hand_off.proofs.tries.Lanes+J+D+W+A.deliver_to.Goals as goal

pub store-requires : goal.store-requires
store-requires g c = let now = c.exchange.ensures.3 in let done = c.requires.done in (
  search rules,
  search rules,
  may_deliver _ _ _ _ c.args.lane done.0 c.args.done _ (search rules) (ap (λ m. get_or m.0.claimed c.args.lane None) now ∙ done.1) done.2 (ap (λ m. m.1) now),
)

pub returns-clause-stands : goal.returns-clause-stands
returns-clause-stands g c = c.store.ensures.2.1
