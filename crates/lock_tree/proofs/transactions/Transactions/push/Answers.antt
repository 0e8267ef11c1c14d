use Rattle.std.proofs.Common.{◌≡◌, ℕ, refl, sym, subst}
use Rattle.std.specs.BTreeMap.{insert_entry}
use Rattle.std.specs.Ordering.{nat_cmp}
use Rattle.lock_tree.proofs.Changed.{come, come_index}
use Rattle.lock_tree.proofs.transactions.Transactions.push.Goals as goal
use Rattle.lock_tree.proofs.transactions.Transactions.push.Goals.{In_ok-insert}

-- it is put there under its number
under_its_number : (c : In_ok-insert) → c.insert.new.self.entries ≡ insert_entry nat_cmp c.args.self.now.entries.entries c.args.entry.no c.args.entry
under_its_number c =
    subst (λ (k : ℕ). c.insert.new.self.entries ≡ insert_entry nat_cmp c.args.self.now.entries.entries k c.args.entry) (sym c.requires.owner) c.in_ok-insert.ensures.entries

pub returns-clause-indexed : goal.returns-clause-indexed
returns-clause-indexed c =
    come_index c.args.self.now (record { entries = c.insert.new.self; «open» = c.args.self.now.open }) c.args.entry c.requires.indexed c.requires.below c.requires.waits c.requires.place.open_ones (under_its_number (goal.at.returns-clause-indexed c).In_ok-insert) refl refl

pub returns-clause-entries : goal.returns-clause-entries
returns-clause-entries c = come c.args.self.now c.args.entry c.insert.new.self.entries c.requires.indexed c.requires.below (under_its_number (goal.at.returns-clause-entries c).In_ok-insert)
