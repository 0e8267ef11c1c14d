use Rattle.std.proofs.Common.{rules, ap, ◌∙◌, get_or, get_or-set_same, length, ◌<◌, ℕ, arith}
use Rattle.atomic_table.specs.Table.{rest}
use Rattle.hand_off.specs.declared.view.Known.TheVariants.{Idle, Filling, Put}
use Rattle.hand_off.specs.Views.{putting}
use Rattle.hand_off.proofs.Steps.{may_fill, may_post}
use Rattle.hand_off.proofs.Rests.{put_after_filling, still_rests}
use Rattle.hand_off.proofs.tries.Lanes+J+D+W+A.put_into.Goals as goal

pub compare_exchange-found-requires : goal.compare_exchange-found-requires
compare_exchange-found-requires g c = (search rules, search rules, may_fill _ _ _ _ _ (search rules) c.requires.0.at_rest.schedules)

pub store-requires : goal.store-requires
store-requires g c = let did = c.compare_exchange-found.ensures.2.0 c.if-found-ne-IDLE.false in let now = c.exchange.ensures.3 in let lane : ℕ = c.args.lane in
    let long = c.requires.0.at_rest.wide in let near = c.requires.1 in let there : lane < length c.args.seat.now.me.0.known = omega arith in (
      search rules,
      search rules,
      may_post _ _ _ _ lane c.args.job _ (search rules) (ap (λ m. m.0.schedules) now ∙ ap (λ m. m.0.schedules) did.1 ∙ c.requires.0.at_rest.schedules)
          (ap (λ m. get_or m.0.known lane Idle) now ∙ ap (λ m. get_or m.0.known lane Idle) did.1 ∙ get_or-set_same c.args.seat.now.me.0.known lane Filling Idle there) (ap (λ m. m.1) now),
    )

pub returns-clause-seat : goal.returns-clause-seat
returns-clause-seat g c = let did = c.compare_exchange-found.ensures.2.0 c.if-found-ne-IDLE.false in let now = c.exchange.ensures.3 in let lane : ℕ = c.args.lane in let job = c.args.job in let v = c.args.seat.now.me.0 in
    let whole = c.store.ensures.2.0 job _ (ap (λ m. m.1) now) ∙ ap (λ m. (putting m.0 lane job, rest c.compare_exchange-found.new.seat.me.1)) now ∙ ap (λ m. (putting m.0 lane job, rest m.1)) did.1 in record {
      lanes = search rules;
      no_slot = ap (λ m. m.1) whole ∙ c.requires.0.no_slot;
      at_rest = still_rests _ v _ lane (Put job) tt (ap (λ m. m.0.schedules) whole) (ap (λ m. m.0.known) whole ∙ ap (λ w. w.known) (put_after_filling v lane job)) c.requires.0.at_rest;
    }

pub returns-clause-ok : goal.returns-clause-ok
returns-clause-ok g c = let did = c.compare_exchange-found.ensures.2.0 c.if-found-ne-IDLE.false in let now = c.exchange.ensures.3 in let lane : ℕ = c.args.lane in let job = c.args.job in let v = c.args.seat.now.me.0 in
    let whole = c.store.ensures.2.0 job _ (ap (λ m. m.1) now) ∙ ap (λ m. (putting m.0 lane job, rest c.compare_exchange-found.new.seat.me.1)) now ∙ ap (λ m. (putting m.0 lane job, rest m.1)) did.1 in
    (did.0, whole ∙ (λ i. (put_after_filling v lane job i, c.requires.0.no_slot i)))

pub returns-clause-stands : goal.returns-clause-stands
returns-clause-stands g c = c.store.ensures.2.1
