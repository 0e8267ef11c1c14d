use Rattle.std.proofs.Common.{◌≡◌, ◌<◌, ◌&&◌, if◌then◌else◌, List, Some, length, sym, ap, ◌∙◌, false, take, arith}
use Rattle.std.proofs.lemmas.List.{get_or_read}
use Rattle.shelves.specs.declared.named.NamedRow.{NamedRow}
use Rattle.shelves.specs.Places.{shared_row, is_same_name}
use Rattle.shelves.specs.Named.{listed, is_listed, names_listed}
use Rattle.row_store.proofs.Lists.{set_names, set_listed}
use Rattle.row_store.proofs.named.set_row.Goals as goal

pub returns-then-is_same_name-clause-names : goal.returns-then-is_same_name-clause-names
returns-then-is_same_name-clause-names c =
    let l : c.loop-place.place < length c.loop-place.rows.items = omega arith in
    set_names c.loop-place.rows.items c.loop-place.place c.index_mut.result.now c.args.row l c.index_mut.ensures.value
    ∙ ap names_listed c.loop-place.invariant.0

pub returns-then-is_same_name-clause-rows : goal.returns-then-is_same_name-clause-rows
returns-then-is_same_name-clause-rows c = λ q.
    let es : List NamedRow = c.loop-place.rows.items in
    let e : NamedRow = c.index_mut.result.now in
    let l : c.loop-place.place < length c.loop-place.rows.items = omega arith in
    let same : c.index.result.now ≡ e = get_or_read es c.loop-place.place c.index.result.now l c.index.ensures e ∙ sym c.index_mut.ensures.value in
    let none : is_listed (take c.loop-place.place es) c.args.name.now ≡ false = ap (λ xs. is_listed (take c.loop-place.place xs) c.args.name.now) c.loop-place.invariant.0 ∙ c.loop-place.invariant.1 in
    set_listed es c.loop-place.place e c.args.row c.args.name.now q l c.index_mut.ensures.value none
    (ap (λ (x : NamedRow). is_same_name x.name c.args.name.now) (sym same) ∙ sym c.is_same_name.ensures ∙ c.if-is_same_name.true)
    ∙ ap (λ xs. if is_same_name c.args.name.now q && is_listed xs q then Some (shared_row c.args.row) else listed xs q) c.loop-place.invariant.0
