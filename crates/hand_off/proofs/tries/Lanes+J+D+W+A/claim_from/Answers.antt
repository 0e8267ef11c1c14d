use Rattle.std.proofs.Common.{rules, ◌∷◌, sym, subst, ap, ◌∙◌, Some}
use Rattle.atomic_table.specs.Table.{rest}
use Rattle.hand_off.specs.declared.view.Load.TheVariants.{Job}
use Rattle.hand_off.specs.Stands.{Stands}
use Rattle.hand_off.proofs.Steps.{may_claim}
use Rattle.hand_off.proofs.tries.Lanes+J+D+W+A.claim_from.Goals as goal

pub compare_exchange-found-requires : goal.compare_exchange-found-requires
compare_exchange-found-requires g c = (search rules, search rules, may_claim _ _ _ _ _ (search rules))

pub exchange-requires : goal.exchange-requires
exchange-requires g c = let did = c.compare_exchange-found.ensures.2.0 c.if-found-ne-WAITING.false in let has = ap (λ m. m.1) did.3 in
    (search rules, (Some (Job did.1), has ∙ (λ i. (c.args.lane, Some (Job did.1)) ∷ sym (ap rest has) i)))

pub returns-clause-shown : goal.returns-clause-shown
returns-clause-shown g c = (c.compare_exchange-found.ensures.2.0 c.if-found-ne-WAITING.false).4

pub returns-clause-stands : goal.returns-clause-stands
returns-clause-stands g c = subst (Stands g.W.Work.comes_of) (sym (ap (λ m. m.0) c.exchange.ensures.3)) (c.compare_exchange-found.ensures.2.0 c.if-found-ne-WAITING.false).5
