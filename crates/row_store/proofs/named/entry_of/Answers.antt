use Rattle.std.proofs.Common.{sym, ap, ◌∙◌}
use Rattle.std.proofs.lemmas.List.{take_all}
use Rattle.shelves.specs.Named.{is_listed}
use Rattle.row_store.proofs.Lists.{found_at, none_listed}
use Rattle.row_store.proofs.named.entry_of.Goals as goal

pub returns-then-is_same_name : goal.returns-then-is_same_name
returns-then-is_same_name c =
    found_at c.args.rows.now c.loop-entry.entry-index c.entry-item.result c.args.name.now c.loop-entry-test.true c.entry-item.is c.loop-entry.invariant
    (sym c.is_same_name.ensures ∙ c.if-is_same_name.true)

pub returns : goal.returns
returns c =
    sym (none_listed c.args.rows.now c.args.name.now
    (ap (λ es. is_listed es c.args.name.now) (sym (take_all c.loop-entry.entry-index c.args.rows.now c.loop-entry-test.false)) ∙ c.loop-entry.invariant))
