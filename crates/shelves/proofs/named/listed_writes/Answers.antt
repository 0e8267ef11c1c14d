use Rattle.std.proofs.Common.{if◌then◌else◌, List, Option, Some, None, sym, ap, ◌∙◌}
use Rattle.std.specs.Option.{option_or}
use Rattle.std.specs.BTreeMap.{get}
use Rattle.values.specs.declared.name.RowName.{RowName}
use Rattle.values.specs.Database.{RowOf, name_cmp}
use Rattle.shelves.specs.declared.named.NamedRow.{NamedRow}
use Rattle.shelves.specs.Places.{shared_row, is_same_name}
use Rattle.shelves.specs.Named.{listed}
use Rattle.shelves.proofs.Exact.{same_name}
use Rattle.shelves.proofs.Lists.{listed_push, write_listed}
use Rattle.shelves.proofs.named.listed_writes.Goals as goal

pub loop-name-preserved : goal.loop-name-preserved
loop-name-preserved c = λ q.
    let n : RowName = c.in-Some.name in
    let x : NamedRow = record { name = n; row = c.in_ok-row.row } in
    let es : List NamedRow = c.loop-name.made.items in
    let now : Option (Option RowOf) = get name_cmp c.pop_first.new.self q in
    let was : Option (Option RowOf) = get name_cmp c.loop-name.left q in
    ap (λ ys. option_or (listed ys q) now) c.in_ok-push.ensures.items
    ∙ ap (λ o. option_or o now) (listed_push es x q)
    ∙ ap (λ o. option_or (option_or (listed es q) (if is_same_name n q then Some (shared_row x.row) else None)) o) (c.in-Some.ensures.updates.0 q)
    ∙ ap (λ (r : Option RowOf). option_or (option_or (listed es q) (if is_same_name n q then Some r else None)) (if is_same_name n q then None else was)) c.in_ok-row.ensures
    ∙ write_listed (is_same_name n q) (listed es q) was c.in-Some.row (λ h. ap (get name_cmp c.loop-name.left) (sym (same_name n q h)) ∙ c.in-Some.ensures.value)
    ∙ c.loop-name.invariant q
