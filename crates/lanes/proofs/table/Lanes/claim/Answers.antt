use Rattle.std.proofs.Common.{◌≡◌, ℕ, ◌+◌, ◌<◌, ◌∷◌, sym, ap, ◌∙◌, subst, arith, length, get_or, length-set}
use Rattle.std.specs.Prelude.{Some, None, is_some, count_by, Contains}
use Rattle.std.specs.VecDeque.{deque_len, deque_capacity}
use Rattle.lanes.specs.Calls.{Claims, ClaimsNothing}
use Rattle.lanes.specs.Kept.{seen_by_worker, empties}
use Rattle.lanes.proofs.Counts.{one_more}
use Rattle.lanes.proofs.Put.{at_none}
use Rattle.lanes.proofs.Work.{one_more_held, has_room, claims, claims_nothing}
use Rattle.lanes.proofs.table.Lanes.claim.Goals as goal

pub push_front_reserved-requires : goal.push_front_reserved-requires
push_front_reserved-requires c = let is = ap (λ s. s.lanes) c.seat.view_is ∙ c.requires ∙ sym c.self.view_is in let inv = c.seat.invariant in let some = c.in_ok-lane.ensures.some in
    let words : c.seat.inside.seat.table_id.words ≡ c.self.inside.table.count = ap (λ l. l.count) is in let near = some.0 in
    has_room c.seat.inside.seat.me.0.claimed c.seat.inside.seat.table_id.words c.in_ok-lane.lane (deque_len c.seat.inside.held) (deque_capacity c.seat.inside.held) inv.wide (omega arith) some.1 inv.no_more inv.room

pub invariant_of-seat-2 : goal.invariant_of-seat-2
invariant_of-seat-2 c = let is = ap (λ s. s.lanes) c.seat.view_is ∙ c.requires ∙ sym c.self.view_is in let inv = c.seat.invariant in let some = c.in_ok-lane.ensures.some in let found = c.in_ok-lane.ensures.looked.3 in
    let words : c.seat.inside.seat.table_id.words ≡ c.self.inside.table.count = ap (λ l. l.count) is in let near = some.0 in let v = c.seat.inside.seat.me.0 in let lane : ℕ = c.in_ok-lane.lane in let job = c.in_ok-lane.job in
    let same : c.claim.new.seat.table_id ≡ c.seat.inside.seat.table_id = c.in_ok-lane.ensures.seat.lanes ∙ sym (ap (λ l. l.table) is) in let same_words : c.claim.new.seat.table_id.words ≡ c.seat.inside.seat.table_id.words = ap (λ t. t.words) same in
    let wide = inv.wide in let within : lane < length v.claimed = omega arith in let room = inv.room in let cap = c.push_front_reserved.ensures.capacity in let items = c.push_front_reserved.ensures.items in record {
      wide = ap (λ m. length m.0.claimed) found ∙ length-set v.claimed lane (Some job) ∙ inv.wide ∙ sym same_words;
      slots = ap (λ m. m.1) found ∙ (λ i. (lane, None) ∷ inv.slots i) ∙ ap empties (sym items);
      holds = λ k j e. subst (λ l. Contains l k) (sym items) (one_more_held v.claimed c.seat.inside.held.items lane job inv.holds k j (ap (λ m. get_or m.0.claimed k None) (sym found) ∙ e));
      no_more = c.push_front_reserved.ensures.len ∙ ap (λ (n : ℕ). n + 1) inv.no_more ∙ sym (one_more v.claimed lane job within some.1) ∙ ap (λ m. count_by is_some m.0.claimed) (sym found);
      room = omega arith;
    }

pub returns-clause-some : goal.returns-clause-some
returns-clause-some c = let is = ap (λ s. s.lanes) c.seat.view_is ∙ c.requires ∙ sym c.self.view_is in let inv = c.seat.invariant in let some = c.in_ok-lane.ensures.some in
    let words : c.seat.inside.seat.table_id.words ≡ c.self.inside.table.count = ap (λ l. l.count) is in let near = some.0 in
    subst (λ old. Claims old c.in_ok-lane.lane c.in_ok-lane.job (seen_by_worker c.claim.new.seat.table_id c.claim.new.seat.me.0)) c.seat.view_is
    (claims c.seat.inside.seat.table_id c.claim.new.seat.table_id c.seat.inside.seat.me.0 c.claim.new.seat.me c.in_ok-lane.lane c.in_ok-lane.job _ (c.in_ok-lane.ensures.seat.lanes ∙ sym (ap (λ l. l.table) is)) inv.wide (omega arith, some.1) c.in_ok-lane.ensures.looked
    c.in_ok-lane.ensures.shown c.in_ok-lane.ensures.stands)

pub returns-in_err-lane-clause-none : goal.returns-in_err-lane-clause-none
returns-in_err-lane-clause-none c = let is = ap (λ s. s.lanes) c.seat.view_is ∙ c.requires ∙ sym c.self.view_is in let nothing = c.in_err-lane.ensures in
    at_none c.from_residual.result (subst (λ old. ClaimsNothing old (seen_by_worker c.claim.new.seat.table_id c.claim.new.seat.me.0)) c.seat.view_is
    (claims_nothing c.seat.inside.seat.table_id c.claim.new.seat.table_id c.seat.inside.seat.me.0 c.claim.new.seat.me c.self.inside.table.count _ (nothing.seat.lanes ∙ sym (ap (λ l. l.table) is)) (ap (λ l. l.count) is) nothing.none nothing.shown))
