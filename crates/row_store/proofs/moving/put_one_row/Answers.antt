use Rattle.std.proofs.Common.{sym, ap, ◌∙◌}
use Rattle.shelves.specs.Places.{shared_row, seen_at, has_place, is_same_shelf, is_same_name}
use Rattle.row_store.proofs.MovingSteps.{some_if, none_if, put_some, put_none, same_place}
use Rattle.row_store.proofs.moving.put_one_row.Goals as goal

pub returns-in-Some-clause-seen : goal.returns-in-Some-clause-seen
returns-in-Some-clause-seen c = λ d q.
    let is = some_if (has_place c.args.from.now c.args.at.now c.args.name.now) (seen_at c.args.from.now c.args.at.now c.args.name.now).row (shared_row c.in-Some.row) c.in-Some.ensures.row in
    c.put_row.ensures.seen d q
    ∙ put_some (is_same_shelf c.args.at.now d) (is_same_name c.args.name.now q) (has_place c.args.shelves.now d q) (has_place c.args.from.now d q) (shared_row c.in-Some.row) (seen_at c.args.from.now d q) (seen_at c.args.shelves.now d q)
    (λ h. (
      sym (same_place (has_place c.args.from.now) c.args.at.now d c.args.name.now q h) ∙ is.0,
      is.1 ∙ ap (λ p. p.row) (same_place (seen_at c.args.from.now) c.args.at.now d c.args.name.now q h),
    ))

pub returns-in_default-clause-seen : goal.returns-in_default-clause-seen
returns-in_default-clause-seen c = λ d q.
    put_none (is_same_shelf c.args.at.now d) (is_same_name c.args.name.now q) (has_place c.args.shelves.now d q) (has_place c.args.from.now d q) (seen_at c.args.from.now d q) (seen_at c.args.shelves.now d q)
    (λ h. sym (same_place (has_place c.args.from.now) c.args.at.now d c.args.name.now q h)
    ∙ none_if (has_place c.args.from.now c.args.at.now c.args.name.now) (seen_at c.args.from.now c.args.at.now c.args.name.now).row c.in_default.ensures.row)
