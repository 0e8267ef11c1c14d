use Rattle.std.proofs.Common.{◌≡◌, rules, if◌then◌else◌, Option, None, sym, ap, ◌∙◌}
use Rattle.shelves.specs.declared.shelf.Shelf.{Shelf}
use Rattle.shelves.specs.Places.{PlaceOf, shelf_on, seen_at, seen_in, seen_on, full, shared_row, is_same_shelf, is_same_name}
use Rattle.shelves.proofs.Exact.{get_same}
use Rattle.shelves.proofs.Placed.{row_added}
use Rattle.shelves.proofs.shelves.add_row.Goals as goal

pub returns-clause-seen : goal.returns-clause-seen
returns-clause-seen c = λ d q.
    let none : shelf_on c.args.shelves.now c.args.at.now ≡ None = search rules in
    let row : PlaceOf = full (shared_row c.args.row) in
    let same : seen_at c.get_mut.follows.lender-at-none d q ≡ seen_at c.args.shelves.now d q = search rules in
    c.in_ok-add_shelf.ensures.seen d q
    ∙ ap (λ (p : PlaceOf). if is_same_shelf c.args.at.now d then seen_in c.set_row-2.new.self q else p) same
    ∙ row_added (is_same_shelf c.args.at.now d) (is_same_name c.args.name.now q) row (seen_in c.set_row-2.new.self q) (seen_at c.args.shelves.now d q)
    (c.in_ok-set_row.ensures.seen q ∙ ap (λ (p : PlaceOf). if is_same_name c.args.name.now q then row else p) (c.new-shelf.ensures.seen q))
    (λ h. ap (λ (o : Option Shelf). seen_on o q) (sym (get_same c.args.shelves.now c.args.at.now d h) ∙ none))
