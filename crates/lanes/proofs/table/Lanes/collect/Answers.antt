use Rattle.std.proofs.Common.{sym, ap, ◌∙◌, subst}
use Rattle.lanes.specs.Calls.{Collects, CollectsNothing}
use Rattle.lanes.specs.Kept.{seen_by_scheduler}
use Rattle.lanes.proofs.Put.{collects, collects_nothing, all_some, of_none}
use Rattle.lanes.proofs.table.Lanes.collect.Goals as goal

pub returns-clause-some : goal.returns-clause-some
returns-clause-some c = let is = ap (λ s. s.lanes) c.seat.view_is ∙ c.requires ∙ sym c.self.view_is in let v = c.seat.inside.seat.me.0 in
    all_some c.collect.result
    (λ r p q s. subst (λ old. Collects old r.0 r.1 (seen_by_scheduler c.collect.new.seat.table_id c.collect.new.seat.me.0)) c.seat.view_is
    (collects c.seat.inside.seat.table_id c.collect.new.seat.table_id v c.self.inside.table.count c.collect.new.seat.me r.0 r.1 (c.collect.ensures.seat.lanes ∙ sym (ap (λ l. l.table) is)) (c.seat.invariant.at_rest.wide ∙ ap (λ l. l.count) is) (ap (λ l. l.count) is) p q
    c.seat.invariant.at_rest.schedules c.collect.ensures.shown s))
    c.collect.ensures.some c.collect.ensures.looked c.collect.ensures.stands

pub returns-clause-none : goal.returns-clause-none
returns-clause-none c = let is = ap (λ s. s.lanes) c.seat.view_is ∙ c.requires ∙ sym c.self.view_is in
    of_none c.collect.result
    (λ p. subst (λ old. CollectsNothing old (seen_by_scheduler c.collect.new.seat.table_id c.collect.new.seat.me.0)) c.seat.view_is
    (collects_nothing c.seat.inside.seat.table_id c.collect.new.seat.table_id c.seat.inside.seat.me.0 c.collect.new.seat.me c.self.inside.table.count (c.collect.ensures.seat.lanes ∙ sym (ap (λ l. l.table) is)) (ap (λ l. l.count) is) p
    c.seat.invariant.at_rest.schedules c.collect.ensures.shown))
    c.collect.ensures.none
