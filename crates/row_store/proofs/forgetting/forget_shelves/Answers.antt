use Rattle.std.proofs.Common.{◌≡◌, Bool, ◌||◌, ◌+◌, if◌then◌else◌, Option, List, ℕ, None, take, sym, ap, ◌∙◌, arith}
use Rattle.std.proofs.lemmas.Grind.{common_steps}
use Rattle.shelves.specs.Places.{is_same_shelf, among}
use Rattle.row_store.specs.Forgetting.{kept_on}
use Rattle.row_store.proofs.Forgotten.{one_more}
use Rattle.row_store.proofs.forgetting.forget_shelves.Goals as goal

pub loop-shelf-preserved : goal.loop-shelf-preserved
loop-shelf-preserved c = λ d.
    let b : Bool = among (take c.loop-shelf.shelf-index c.args.shelves.now) d in
    let x : Bool = is_same_shelf c.shelf-item.result d in
    let o : Option (List ℕ) = kept_on c.args.kept.now d in
    let more : among (take (c.loop-shelf.shelf-index + 1) c.args.shelves.now) d ≡ (b || x) = grind (arith, common_steps) in
    c.forget_shelf.ensures d
    ∙ ap (λ (y : Option (List ℕ)). if x then None else y) (c.loop-shelf.invariant d)
    ∙ one_more b x o
    ∙ ap (λ (h : Bool). if h then None else o) (sym more)
