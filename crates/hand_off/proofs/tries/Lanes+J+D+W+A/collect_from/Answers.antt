use Rattle.std.proofs.Common.{rules, ℕ, [], ◌∷◌, ◌<◌, sym, subst, ap, ◌∙◌, get_or, length, get_or-set_same, Some, arith}
use Rattle.atomic_table.specs.Table.{rest}
use Rattle.hand_off.specs.declared.state.LaneState.TheVariants.{Finished}
use Rattle.hand_off.specs.declared.view.Known.TheVariants.{Idle, Draining}
use Rattle.hand_off.specs.declared.view.Load.TheVariants.{Done}
use Rattle.hand_off.specs.Views.{knowing, with_note}
use Rattle.hand_off.proofs.Steps.{may_drain, may_clear}
use Rattle.hand_off.proofs.Rests.{still_rests, known_twice, done_of}
use Rattle.hand_off.proofs.tries.Lanes+J+D+W+A.collect_from.Goals as goal

pub compare_exchange-found-requires : goal.compare_exchange-found-requires
compare_exchange-found-requires g c = (search rules, search rules, may_drain _ _ _ _ _ (search rules) c.requires.0.at_rest.schedules)

pub exchange-load-requires : goal.exchange-load-requires
exchange-load-requires g c = let did = c.compare_exchange-found.ensures.2.0 c.if-found-ne-FINISHED.false in let has = ap (λ m. m.1) did.4 in
    (search rules, (Some (Done did.1), has ∙ (λ i. (c.args.lane, Some (Done did.1)) ∷ sym (ap rest has) i)))

pub store-requires : goal.store-requires
store-requires g c = let did = c.compare_exchange-found.ensures.2.0 c.if-found-ne-FINISHED.false in let now = c.exchange-load.ensures.3 in let lane : ℕ = c.args.lane in
    let long = c.requires.0.at_rest.wide in let near = c.requires.1 in let there : lane < length c.args.seat.now.me.0.known = omega arith in (
      search rules,
      search rules,
      may_clear _ _ _ _ lane did.0 _ (search rules) (ap (λ m. m.0.schedules) now ∙ ap (λ m. m.0.schedules) did.4 ∙ c.requires.0.at_rest.schedules)
          (ap (λ m. get_or m.0.known lane Idle) now ∙ ap (λ m. get_or m.0.known lane Idle) did.4 ∙ get_or-set_same c.args.seat.now.me.0.known lane (Draining did.0) Idle there) (ap (λ m. m.1) now),
    )

pub returns-clause-seat : goal.returns-clause-seat
returns-clause-seat g c = let did = c.compare_exchange-found.ensures.2.0 c.if-found-ne-FINISHED.false in let now = c.exchange-load.ensures.3 in let lane : ℕ = c.args.lane in let v = c.args.seat.now.me.0 in
    let whole = c.store.ensures.2.0 ∙ ap (λ m. (knowing m.0 lane Idle, rest m.1)) now ∙ ap (λ m. (knowing m.0 lane Idle, rest m.1)) did.4 in record {
      lanes = search rules;
      no_slot = ap (λ m. m.1) whole ∙ c.requires.0.no_slot;
      at_rest = still_rests _ v _ lane Idle tt (ap (λ m. m.0.schedules) whole) (ap (λ m. m.0.known) whole ∙ ap (λ w. w.known) (known_twice (with_note v lane Finished) lane (Draining did.0) Idle)) c.requires.0.at_rest;
    }

pub returns-clause-some : goal.returns-clause-some
returns-clause-some g c = let did = c.compare_exchange-found.ensures.2.0 c.if-found-ne-FINISHED.false in let now = c.exchange-load.ensures.3 in let lane : ℕ = c.args.lane in let v = c.args.seat.now.me.0 in
    let whole = c.store.ensures.2.0 ∙ ap (λ m. (knowing m.0 lane Idle, rest m.1)) now ∙ ap (λ m. (knowing m.0 lane Idle, rest m.1)) did.4 in
    let same = ap (λ m. done_of did.1 m.1) (sym did.4) ∙ ap (done_of did.1) c.exchange-load.ensures.2 ∙ ap (λ x. done_of did.1 ((lane, x) ∷ [])) c.in-Some-Done.is ∙ ap (λ x. done_of did.1 ((lane, Some x) ∷ [])) c.in-Some-Done.field-0-is in
    (did.0, did.2, subst (g.W.Work.comes_of did.0) same did.3, whole ∙ (λ i. (known_twice (with_note v lane Finished) lane (Draining did.0) Idle i, c.requires.0.no_slot i)))

pub returns-clause-shown : goal.returns-clause-shown
returns-clause-shown g c = (c.compare_exchange-found.ensures.2.0 c.if-found-ne-FINISHED.false).5

pub returns-clause-stands : goal.returns-clause-stands
returns-clause-stands g c = c.store.ensures.2.1
