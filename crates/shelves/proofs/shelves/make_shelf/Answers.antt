use Rattle.std.proofs.Common.{◌≡◌, rules, false, Option, is_some, sym, ap, ◌∙◌}
use Rattle.shelves.specs.declared.shelf.Shelf.{Shelf}
use Rattle.shelves.specs.Places.{has_shelf, shelf_on, seen_on, is_same_shelf}
use Rattle.shelves.proofs.Exact.{get_same}
use Rattle.shelves.proofs.Placed.{nothing_added}
use Rattle.shelves.proofs.shelves.make_shelf.Goals as goal

pub returns-clause-seen : goal.returns-clause-seen
returns-clause-seen c = λ d q.
    let none : has_shelf c.args.shelves.now c.args.at.now ≡ false = search rules in
    ap (λ (o : Option Shelf). seen_on o q) (c.in_ok-insert.ensures.updates.0 d)
    ∙ nothing_added (is_same_shelf c.args.at.now d) c.new.result (shelf_on c.args.shelves.now d) q
    (λ h. ap is_some (sym (get_same c.args.shelves.now c.args.at.now d h)) ∙ none) (c.new.ensures.seen q)
