use Rattle.std.proofs.Common.{◌≡◌, None, Some, IfSome, IfNone, sym}
use Rattle.std.specs.Option.{option_copied}
use Rattle.std.specs.Map.{lookup}
use Rattle.std.specs.BTreeMap.{is_at}
use Rattle.std.specs.Ordering.{nat_cmp}
use Rattle.lock_tree.specs.Views.{all_waiting, enqueued}
use Rattle.lock_tree.specs.Placing.{place_numbered}
use Rattle.lock_tree.specs.Indexed.{IsFound}
use Rattle.lock_tree.proofs.Named.{found, absent}
use Rattle.lock_tree.proofs.transactions.Transactions.get.Goals as goal

pub returns-clause-found : goal.returns-clause-found
returns-clause-found c =
    let es = c.args.self.now.entries.entries in
    elim c.get.result as (λ o. option_copied o ≡ lookup (is_at (nat_cmp c.args.no)) es → IfSome o (λ entry. IsFound (enqueued c.args.self.now) c.args.no entry.now)) [
      | None ↦ λ h. tt
      | Some r ↦ λ h. found c.args.no es r.now c.requires.named (sym h)
    ] c.get.ensures.value

pub returns-clause-none : goal.returns-clause-none
returns-clause-none c =
    let es = c.args.self.now.entries.entries in
    elim c.get.result as (λ o. option_copied o ≡ lookup (is_at (nat_cmp c.args.no)) es → IfNone o (place_numbered c.args.no (all_waiting (enqueued c.args.self.now)) ≡ None)) [
      | None ↦ λ h. absent c.args.no es c.requires.named (sym h)
      | Some r ↦ λ h. tt
    ] c.get.ensures.value
