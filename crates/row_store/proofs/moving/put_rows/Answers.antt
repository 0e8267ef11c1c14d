use Rattle.std.proofs.Common.{◌≡◌, Bool, false, ◌&&◌, ◌||◌, ◌+◌, if◌then◌else◌, take, sym, ap, ◌∙◌, arith}
use Rattle.std.proofs.lemmas.Grind.{common_steps}
use Rattle.values.specs.declared.name.RowName.{RowName}
use Rattle.footprint.specs.declared.resource.Resource.{Resource}
use Rattle.shelves.specs.Places.{PlaceOf, has_place, seen_at, full, is_same_shelf, is_same_name, is_named}
use Rattle.shelves.specs.Shelving.{shelf_of}
use Rattle.row_store.proofs.MovingSteps.{row_step, left_step, kept_step}
use Rattle.shelves.proofs.Exact.{own_place}
use Rattle.row_store.proofs.moving.put_rows.Goals as goal

pub loop-name-preserved : goal.loop-name-preserved
loop-name-preserved c =
    let b : RowName → Bool = λ q. is_named (take c.loop-name.name-index c.args.names.now) q in
    let sh : RowName → Resource = shelf_of c.args.catalogue.now in
    let n : RowName → Bool = λ q. is_same_name c.name-item.result q in
    let x : RowName → Bool = λ q. is_same_shelf (sh c.name-item.result) (sh q) in
    let own : (q : RowName) → (x q && n q) ≡ n q = λ q. own_place c.args.catalogue.now c.name-item.result q in
    let at : (q : RowName) → (is_same_shelf c.shelf_of.result (sh q) && n q) ≡ (x q && n q) = λ q. ap (λ (d : Resource). is_same_shelf d (sh q) && n q) c.shelf_of.ensures in
    let more : (q : RowName) → is_named (take (c.loop-name.name-index + 1) c.args.names.now) q ≡ (b q || n q) = λ q. grind (arith, common_steps) in (
      λ q.
          let s0 : Bool = has_place c.args.shelves.now (sh q) q in
          let f0 : Bool = has_place c.args.from.now (sh q) q in
          let p0 : PlaceOf = seen_at c.args.from.now (sh q) q in
          let o : PlaceOf = seen_at c.args.shelves.now (sh q) q in
          let s : Bool = has_place c.loop-name.shelves (sh q) q in
          let p : PlaceOf = seen_at c.loop-name.from (sh q) q in
          c.put_one_row.ensures.seen (sh q) q
          ∙ ap (λ (d : Resource). if is_same_shelf d (sh q) && (n q && (s && has_place c.loop-name.from (sh q) q)) then full p.row else seen_at c.loop-name.shelves (sh q) q) c.shelf_of.ensures
          ∙ ap (λ (y : Bool). if x q && (n q && (s && y)) then full p.row else seen_at c.loop-name.shelves (sh q) q) (c.loop-name.invariant.4 q)
          ∙ ap (λ (y : PlaceOf). if x q && (n q && (s && (if b q then false else f0))) then full p.row else y) (c.loop-name.invariant.0 q)
          ∙ row_step (b q) (x q) (n q) s s0 f0 p p0 o (own q) (c.loop-name.invariant.1 q) (c.loop-name.invariant.5 q)
          ∙ ap (λ (h : Bool). if h && (s0 && f0) then full p0.row else o) (sym (more q)),
      λ q h.
          kept_step (b q) (x q) (n q) (has_place c.args.shelves.now (sh q) q) (has_place c.loop-name.shelves (sh q) q) (has_place c.put_one_row.new.shelves (sh q) q) (own q)
          (λ f. (c.put_one_row.ensures.others (sh q) q (at q ∙ f)).0) (c.loop-name.invariant.1 q) (sym (more q) ∙ h),
      λ d. c.put_one_row.ensures.shelves d ∙ c.loop-name.invariant.2 d,
      λ d. c.put_one_row.ensures.away d ∙ c.loop-name.invariant.3 d,
      λ q.
          left_step (b q) (x q) (n q) (has_place c.args.from.now (sh q) q) (has_place c.loop-name.from (sh q) q) (has_place c.put_one_row.new.from (sh q) q) (own q)
          (λ t. c.put_one_row.ensures.left (sh q) q (at q ∙ t)) (λ f. (c.put_one_row.ensures.left_others (sh q) q (at q ∙ f)).0) (c.loop-name.invariant.4 q)
          ∙ ap (λ (h : Bool). if h then false else has_place c.args.from.now (sh q) q) (sym (more q)),
      λ q h.
          kept_step (b q) (x q) (n q) (seen_at c.args.from.now (sh q) q) (seen_at c.loop-name.from (sh q) q) (seen_at c.put_one_row.new.from (sh q) q) (own q)
          (λ f. (c.put_one_row.ensures.left_others (sh q) q (at q ∙ f)).1) (c.loop-name.invariant.5 q) (sym (more q) ∙ h),
    )
