use Rattle.std.proofs.Common.{◌≡◌, if◌then◌else◌, List, Some, None, is_some, true, sym, ap, ◌∙◌}
use Rattle.std.specs.Option.{option_or}
use Rattle.values.specs.declared.name.RowName.{RowName}
use Rattle.shelves.specs.declared.named.NamedRow.{NamedRow}
use Rattle.shelves.specs.Places.{shared_row, is_same_name, is_named}
use Rattle.shelves.specs.Named.{listed, is_listed}
use Rattle.row_store.proofs.Lists.{put_step}
use Rattle.shelves.proofs.Lists.{listed_push, some_or, or_some}
use Rattle.row_store.proofs.named.set_rows.Goals as goal

pub loop-name-preserved : goal.loop-name-preserved
loop-name-preserved c =
    let x : NamedRow = c.in-Some.field-0 in
    let es : List NamedRow = c.pop.new.self.items in
    let was : (q : RowName) → listed c.loop-name.left.items q ≡ option_or (listed es q) (if is_same_name x.name q then Some (shared_row x.row) else None) =
    λ q. ap (λ ys. listed ys q) c.in-Some.ensures.items ∙ listed_push es x q in
    let mine : (q : RowName) → is_same_name x.name q ≡ true → is_listed c.loop-name.rows.items q ≡ true =
    λ q h.
    ap (λ ns. is_named ns q) c.loop-name.invariant.0
    ∙ c.loop-name.invariant.1 q (ap is_some (was q) ∙ or_some (listed es q) (if is_same_name x.name q then Some (shared_row x.row) else None) (ap (λ b. is_some (if b then Some (shared_row x.row) else None)) h)) in (
      c.set_row.ensures.names ∙ c.loop-name.invariant.0,
      λ q h. c.loop-name.invariant.1 q (ap is_some (was q) ∙ some_or (listed es q) (if is_same_name x.name q then Some (shared_row x.row) else None) h),
      λ q.
          ap (option_or (listed es q)) (c.set_row.ensures.rows q)
          ∙ put_step (is_same_name x.name q) (is_listed c.loop-name.rows.items q) (listed es q) (listed c.loop-name.rows.items q) (shared_row x.row) (mine q)
          ∙ ap (λ o. option_or o (listed c.loop-name.rows.items q)) (sym (was q))
          ∙ c.loop-name.invariant.2 q,
    )
