use Rattle.std.proofs.Common.{◌≡◌, rules, false, is_some, sym, ap, ◌∙◌}
use Rattle.footprint.specs.declared.resource.Resource.{Resource}
use Rattle.shelves.specs.Places.{has_shelf, is_away, seen_at, seen_in, is_same_shelf}
use Rattle.shelves.proofs.Exact.{get_same, same_shelf}
use Rattle.shelves.proofs.Placed.{alike_added}
use Rattle.shelves.proofs.exchange.share_one_shelf.Goals as goal

pub returns-clause-shared : goal.returns-clause-shared
returns-clause-shared c = λ d q here.
    let none : has_shelf c.args.copies.now c.args.at.now ≡ false = search rules in
    c.in_ok-add_shelf.ensures.seen d q
    ∙ alike_added (is_same_shelf c.args.at.now d) (has_shelf c.args.copies.now d) (seen_in c.in_ok-shared.shared q) (seen_at c.args.shelves.now d q) (seen_at c.args.copies.now d q)
    (λ h. ap is_some (sym (get_same c.args.copies.now c.args.at.now d h)) ∙ none)
    (λ h. c.in_ok-shared.ensures.shared (ap (λ (r : Resource). is_away c.args.shelves.now r) (same_shelf c.args.at.now d h) ∙ here h) q
    ∙ ap (λ (r : Resource). seen_at c.args.shelves.now r q) (same_shelf c.args.at.now d h))
