use Rattle.std.proofs.Common.{◌≡◌, rules, Bool, if◌then◌else◌, Option, sym, ap, ◌∙◌}
use Rattle.values.specs.Database.{RowOf}
use Rattle.shelves.specs.Places.{PlaceOf, seen_in, has_in, full, shared_row, is_same_name}
use Rattle.shelves.proofs.Exact.{same_name}
use Rattle.shelves.proofs.Steps.{fill_there}
use Rattle.shelves.proofs.shelf.Shelf.write_row.Goals.{in-Own+in_default-get_mut, in_default}
use Rattle.shelves.proofs.shelf.Shelf.write_row.Goals as goal

pub returns-clause-seen : goal.returns-clause-seen
returns-clause-seen c = λ q.
    let n : Bool = is_same_name c.args.name.now q in
    let k : Bool = has_in c.make_place.new.self q in
    let now : PlaceOf = seen_in c.make_place.new.self q in
    let r : Option RowOf = shared_row c.in_ok-row.row in
    let same : seen_in c.match-self.self q ≡ seen_in c.args.self.now q =
    elim c.match-self.branch [
      | in-Own+in_default-get_mut w ↦ search rules
      | in_default w ↦ search rules
    ] in
    c.fill_place.ensures.seen q
    ∙ fill_there n k (full r) now (λ h. ap (has_in c.make_place.new.self) (sym (same_name c.args.name.now q h)) ∙ c.in_ok-make_place.ensures.there)
    ∙ ap (λ s. if n then full r else s) (c.make_place.ensures.seen q ∙ same)
    ∙ ap (λ (o : Option RowOf). if n then full o else seen_in c.args.self.now q) c.in_ok-row.ensures
