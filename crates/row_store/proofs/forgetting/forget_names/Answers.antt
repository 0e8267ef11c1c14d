use Rattle.std.proofs.Common.{◌≡◌, Bool, ◌||◌, ◌+◌, if◌then◌else◌, Option, List, ℕ, None, take, sym, ap, ◌∙◌, arith}
use Rattle.std.proofs.lemmas.Grind.{common_steps}
use Rattle.footprint.specs.declared.resource.Resource.{Resource}
use Rattle.shelves.specs.Places.{is_same_shelf}
use Rattle.shelves.specs.Shelving.{shelf_of}
use Rattle.row_store.specs.Forgetting.{kept_on, has_name}
use Rattle.row_store.proofs.Forgotten.{one_more}
use Rattle.row_store.proofs.forgetting.forget_names.Goals as goal

pub loop-name-preserved : goal.loop-name-preserved
loop-name-preserved c = λ d.
    let b : Bool = has_name c.args.catalogue.now (take c.loop-name.name-index c.args.names.now) d in
    let x : Bool = is_same_shelf (shelf_of c.args.catalogue.now c.name-item.result) d in
    let o : Option (List ℕ) = kept_on c.args.kept.now d in
    let more : has_name c.args.catalogue.now (take (c.loop-name.name-index + 1) c.args.names.now) d ≡ (b || x) = grind (arith, common_steps) in
    c.forget_shelf.ensures d
    ∙ ap (λ (e : Resource). if is_same_shelf e d then None else kept_on c.loop-name.kept d) c.shelf_of.ensures
    ∙ ap (λ (y : Option (List ℕ)). if x then None else y) (c.loop-name.invariant d)
    ∙ one_more b x o
    ∙ ap (λ (h : Bool). if h then None else o) (sym more)
