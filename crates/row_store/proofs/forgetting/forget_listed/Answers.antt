use Rattle.std.proofs.Common.{◌≡◌, Bool, ◌||◌, ◌+◌, if◌then◌else◌, Option, List, ℕ, None, take, sym, ap, ◌∙◌, arith}
use Rattle.std.proofs.lemmas.Grind.{common_steps}
use Rattle.footprint.specs.declared.resource.Resource.{Resource}
use Rattle.shelves.specs.Places.{is_same_shelf}
use Rattle.shelves.specs.Shelving.{shelf_of}
use Rattle.row_store.specs.Forgetting.{kept_on, has_listed}
use Rattle.row_store.proofs.Forgotten.{one_more}
use Rattle.row_store.proofs.forgetting.forget_listed.Goals as goal

pub loop-entry-preserved : goal.loop-entry-preserved
loop-entry-preserved c = λ d.
    let b : Bool = has_listed c.args.catalogue.now (take c.loop-entry.entry-index c.args.rows.now) d in
    let x : Bool = is_same_shelf (shelf_of c.args.catalogue.now c.entry-item.result.name) d in
    let o : Option (List ℕ) = kept_on c.args.kept.now d in
    let more : has_listed c.args.catalogue.now (take (c.loop-entry.entry-index + 1) c.args.rows.now) d ≡ (b || x) = grind (arith, common_steps) in
    c.forget_shelf.ensures d
    ∙ ap (λ (e : Resource). if is_same_shelf e d then None else kept_on c.loop-entry.kept d) c.shelf_of.ensures
    ∙ ap (λ (y : Option (List ℕ)). if x then None else y) (c.loop-entry.invariant d)
    ∙ one_more b x o
    ∙ ap (λ (h : Bool). if h then None else o) (sym more)
