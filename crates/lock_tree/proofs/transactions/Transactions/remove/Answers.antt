use Rattle.std.proofs.Common.{◌≡◌, Option, None, IfNone, sym, subst, ap, ◌∙◌}
use Rattle.std.specs.Map.{values_of}
use Rattle.lock_tree.specs.Entered.{Enqueued}
use Rattle.lock_tree.specs.Placing.{place_numbered}
use Rattle.lock_tree.specs.Views.{all_waiting, enqueued}
use Rattle.lock_tree.proofs.Places.{none_some}
use Rattle.lock_tree.proofs.Marks.{rising_numbers}
use Rattle.lock_tree.proofs.Named.{found, absent}
use Rattle.lock_tree.proofs.Changed.{gone_at, gone_index}
use Rattle.lock_tree.proofs.transactions.Transactions.remove.Goals as goal

pub take_out-requires : goal.take_out-requires
take_out-requires c = rising_numbers c.args.self.now.open.items (enqueued c.args.self.now) c.requires.open_ones c.requires.rising

pub returns-in_err-entry-clause-entries : goal.returns-in_err-entry-clause-entries
returns-in_err-entry-clause-entries c = λ place h.
    absurd (none_some place (sym (absent c.args.no c.args.self.now.entries.entries c.requires.named (sym c.in_err-entry.ensures.value)) ∙ h))

pub returns-in_err-entry-clause-none : goal.returns-in_err-entry-clause-none
returns-in_err-entry-clause-none c =
    let es = c.args.self.now.entries.entries in
    subst (λ (o : Option Enqueued). IfNone o ((place_numbered c.args.no (all_waiting (values_of es)) ≡ None) × (values_of c.remove.new.self.entries ≡ values_of es))) (sym c.from_residual.ensures)
    (absent c.args.no es c.requires.named (sym c.in_err-entry.ensures.value), ap values_of c.in_err-entry.ensures.unchanged)

pub returns-clause-indexed : goal.returns-clause-indexed
returns-clause-indexed c =
    gone_index c.args.self.now c.args.no c.in_ok-entry.entry c.requires (sym c.in_ok-entry.ensures.value)
    (record { entries = c.remove.new.self; «open» = c.take_out.new.numbers }) c.remove.ensures.entries c.take_out.ensures.items c.take_out.ensures.capacity

pub returns-clause-found : goal.returns-clause-found
returns-clause-found c = found c.args.no c.args.self.now.entries.entries c.in_ok-entry.entry c.requires.named (sym c.in_ok-entry.ensures.value)

pub returns-clause-entries : goal.returns-clause-entries
returns-clause-entries c = λ place h. gone_at c.args.self.now c.args.no c.in_ok-entry.entry c.requires (sym c.in_ok-entry.ensures.value) c.remove.new.self.entries place c.remove.ensures.entries h
