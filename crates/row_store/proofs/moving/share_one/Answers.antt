use Rattle.std.proofs.Common.{◌&&◌, ap, ◌∙◌}
use Rattle.shelves.specs.Places.{seen_at, full, as_it_stands, shared_row, is_same_shelf, is_same_name}
use Rattle.row_store.proofs.MovingSteps.{if_alike, same_place}
use Rattle.row_store.proofs.moving.share_one.Goals as goal

pub returns-clause-seen : goal.returns-clause-seen
returns-clause-seen c = λ d q.
    c.in_ok-add_row.ensures.seen d q
    ∙ if_alike (is_same_shelf c.args.at.now d && is_same_name c.args.name.now q) (full (shared_row c.in_ok-row.row)) (as_it_stands (seen_at c.args.shelves.now d q)) (seen_at c.args.copies.now d q)
    (λ h. ap full c.in_ok-row.ensures ∙ ap as_it_stands (same_place (seen_at c.args.shelves.now) c.args.at.now d c.args.name.now q h))
