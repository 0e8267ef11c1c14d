use Rattle.std.proofs.Common.{◌≡◌, ℕ, ◌<◌, sym, ap, ◌∙◌, subst, arith, length, get_or, set as slice_set, length-set}
use Rattle.std.specs.Prelude.{Some, None, is_some, count_by, Contains}
use Rattle.std.specs.VecDeque.{deque_len}
use Rattle.std.proofs.lemmas.Option.{slice_get_within, get_or_from_slice_get}
use Rattle.atomic_table.specs.Table.{rest}
use Rattle.lanes.specs.Kept.{empties}
use Rattle.lanes.proofs.Counts.{one_less}
use Rattle.lanes.proofs.Work.{one_less_held, popped}
use Rattle.lanes.proofs.Stands.{worker_stands}
use Rattle.lanes.proofs.table.Lanes.deliver.Goals as goal

pub bring_up-requires-clause-held : goal.bring_up-requires-clause-held
bring_up-requires-clause-held c = let done = c.requires.done in
    c.seat.invariant.holds c.args.lane done.job (ap (λ s. get_or s.jobs c.args.lane None) c.seat.view_is ∙ get_or_from_slice_get c.args.seat.now.jobs c.args.lane (Some done.job) None done.has)

pub deliver_to-requires-clause-seat : goal.deliver_to-requires-clause-seat
deliver_to-requires-clause-seat c = let is = ap (λ s. s.lanes) c.seat.view_is ∙ c.requires.lanes ∙ sym c.self.view_is in let up = c.bring_up.ensures.seat in
    let words : c.seat.inside.seat.table_id.words ≡ c.self.inside.table.count = ap (λ l. l.count) is in let wide = c.seat.invariant.wide in let long : length c.seat.inside.seat.me.0.claimed ≡ length c.args.seat.now.jobs = ap (λ s. length s.jobs) c.seat.view_is in
    let near = slice_get_within c.args.seat.now.jobs c.args.lane (Some c.requires.done.job) c.requires.done.has in (
      record { lanes = up.0 ∙ ap (λ l. l.table) is; wide = ap (λ m. length m.0.claimed) up.1 ∙ wide ∙ words },
      omega arith,
    )

pub deliver_to-requires-clause-done : goal.deliver_to-requires-clause-done
deliver_to-requires-clause-done c = let done = c.requires.done in
    (done.job, ap (λ m. get_or m.0.claimed c.args.lane None) c.bring_up.ensures.seat.1 ∙ ap (λ s. get_or s.jobs c.args.lane None) c.seat.view_is ∙ get_or_from_slice_get c.args.seat.now.jobs c.args.lane (Some done.job) None done.has, done.comes)

pub invariant_of-seat : goal.invariant_of-seat
invariant_of-seat c = let is = ap (λ s. s.lanes) c.seat.view_is ∙ c.requires.lanes ∙ sym c.self.view_is in let up = c.bring_up.ensures.seat in let inv = c.seat.invariant in let v = c.seat.inside.seat.me.0 in let lane : ℕ = c.args.lane in
    let long : length v.claimed ≡ length c.args.seat.now.jobs = ap (λ s. length s.jobs) c.seat.view_is in let within = slice_get_within c.args.seat.now.jobs lane (Some c.requires.done.job) c.requires.done.has in let near : lane < length v.claimed = omega arith in
    let mine : get_or v.claimed lane None ≡ Some c.requires.done.job = ap (λ s. get_or s.jobs lane None) c.seat.view_is ∙ get_or_from_slice_get c.args.seat.now.jobs lane (Some c.requires.done.job) None c.requires.done.has in
    let after = c.deliver_to.ensures.seat.1 in let claimed = ap (λ m. m.0.claimed) after ∙ ap (λ m. slice_set m.0.claimed lane None) up.1 in let held = c.pop_front.ensures.rest in
    let same : c.deliver_to.new.seat.table_id ≡ c.seat.inside.seat.table_id = c.deliver_to.ensures.seat.0.lanes ∙ sym (ap (λ l. l.table) is) in let same_words : c.deliver_to.new.seat.table_id.words ≡ c.seat.inside.seat.table_id.words = ap (λ t. t.words) same in
    let room = inv.room in let cap = c.pop_front.ensures.capacity in let cap_up = c.bring_up.ensures.room in record {
      wide = ap length claimed ∙ length-set v.claimed lane None ∙ inv.wide ∙ sym same_words;
      slots = ap (λ m. m.1) after ∙ ap (λ m. rest m.1) up.1 ∙ ap (λ l. rest (empties l)) c.bring_up.ensures.front ∙ ap empties (sym held);
      holds = λ k j e. subst (λ l. Contains l k) (sym held) (one_less_held v.claimed c.bring_up.new.held.items lane near (λ x y h. c.bring_up.ensures.held x (inv.holds x y h)) c.bring_up.ensures.front k j (ap (λ js. get_or js k None) (sym claimed) ∙ e));
      no_more = popped c.pop_front.result (deque_len c.bring_up.new.held) (deque_len c.pop_front.new.self) (count_by is_some (slice_set v.claimed lane None)) c.pop_front.ensures.cases
          (one_less v.claimed lane c.requires.done.job near mine ∙ sym inv.no_more ∙ sym c.bring_up.ensures.len) ∙ ap (count_by is_some) (sym claimed);
      room = omega arith;
    }

pub returns-clause-stands : goal.returns-clause-stands
returns-clause-stands c = worker_stands c.deliver_to.new.seat.table_id c.deliver_to.new.seat.me.0 c.deliver_to.ensures.stands
