use Rattle.std.proofs.Common.{◌≡◌, ◌+◌, Bool, ◌&&◌, ◌||◌, if◌then◌else◌, take, Option, Some, None, sym, ap, ◌∙◌, arith}
use Rattle.std.proofs.lemmas.Grind.{common_steps}
use Rattle.std.specs.Option.{option_or}
use Rattle.values.specs.declared.name.RowName.{RowName}
use Rattle.values.specs.Database.{RowOf}
use Rattle.footprint.specs.declared.resource.Resource.{Resource}
use Rattle.shelves.specs.declared.named.NamedRow.{NamedRow}
use Rattle.shelves.specs.Places.{seen_at, shared_row, is_same_name}
use Rattle.shelves.specs.Shelving.{shelf_of}
use Rattle.row_store.specs.Locked.{name_of, is_of}
use Rattle.row_store.specs.Named.{reads_only, reads_itself}
use Rattle.shelves.specs.Named.{listed}
use Rattle.shelves.proofs.Exact.{same_name}
use Rattle.row_store.proofs.Lists.{list_step}
use Rattle.shelves.proofs.Lists.{listed_push}
use Rattle.row_store.proofs.Ordered.{of_tested, or_false}
use Rattle.row_store.proofs.by_name.read_rows.Goals.{in-Some+in_ok-row+in_ok-push, in_default}
use Rattle.row_store.proofs.by_name.read_rows.Goals as goal

pub loop-resource-preserved : goal.loop-resource-preserved
loop-resource-preserved c =
    let before : RowName → Bool = reads_itself (take c.loop-resource.resource-index c.args.requests.now) in
    let y : RowName → Bool = λ q. reads_only c.loop-resource-item.result.1 && is_of (name_of c.loop-resource-item.result.0) q in
    let row : RowName → Option RowOf = λ q. (seen_at c.args.shelves.now (shelf_of c.args.catalogue.now q) q).row in
    let more : (q : RowName) → reads_itself (take (c.loop-resource.resource-index + 1) c.args.requests.now) q ≡ (before q || y q) = λ q. grind (arith, common_steps) in
    let said : (q : RowName) → is_of c.read_name.result q ≡ y q =
    λ q. ap (λ o. is_of o q) c.read_name.ensures ∙ of_tested (reads_only c.loop-resource-item.result.1) (name_of c.loop-resource-item.result.0) q in
    elim c.match-read_name.branch [
      | in-Some+in_ok-row+in_ok-push w ↦ λ q.
          let n : RowName = w.in-Some.name in
          let x : NamedRow = record { name = n; row = w.in_ok-row.row } in
          let its : is_same_name n q ≡ y q = ap (λ o. is_of o q) (sym w.in-Some.is) ∙ said q in
          ap (λ v. listed v.items q) w.rows-is
          ∙ ap (λ ys. listed ys q) w.in_ok-push.ensures.items ∙ listed_push c.loop-resource.rows.items x q
          ∙ ap (λ o. option_or o (if is_same_name n q then Some (shared_row x.row) else None)) (c.loop-resource.invariant q)
          ∙ list_step (before q) (is_same_name n q) (row q) (shared_row x.row)
          (λ h. w.in_ok-row.ensures ∙ ap (λ (d : Resource). (seen_at c.args.shelves.now d n).row) w.shelf_of.ensures ∙ ap row (same_name n q h))
          ∙ ap (λ b. if before q || b then Some (row q) else None) its
          ∙ ap (λ b. if b then Some (row q) else None) (sym (more q))
      | in_default w ↦ λ q.
          ap (λ v. listed v.items q) w.rows-is ∙ c.loop-resource.invariant q
          ∙ ap (λ b. if b then Some (row q) else None) (sym (more q ∙ ap (λ b. before q || b) (sym (said q) ∙ ap (λ o. is_of o q) w.in_default.is) ∙ or_false (before q)))
    ]
