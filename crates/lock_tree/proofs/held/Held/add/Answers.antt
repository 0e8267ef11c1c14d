use Rattle.std.proofs.Common.{arith}
use Rattle.modes.specs.declared.mode.Mode.TheVariants.{IntentionShared, IntentionExclusive, Shared, SharedIntentionExclusive, Exclusive}
use Rattle.lock_tree.proofs.Holding.{times_few}
use Rattle.lock_tree.proofs.held.Held.add.Goals as goal

pub overflow_add-self : goal.overflow_add-self
overflow_add-self c = let r = c.requires in let e = r.1.intention_shared in let l = times_few IntentionShared r.0 in let s = r.2 in omega (arith, e, l, s)

pub overflow_add-self-in-IntentionExclusive : goal.overflow_add-self-in-IntentionExclusive
overflow_add-self-in-IntentionExclusive c = let r = c.requires in let e = r.1.intention_exclusive in let l = times_few IntentionExclusive r.0 in let s = r.2 in omega (arith, e, l, s)

pub overflow_add-self-in-Shared : goal.overflow_add-self-in-Shared
overflow_add-self-in-Shared c = let r = c.requires in let e = r.1.shared in let l = times_few Shared r.0 in let s = r.2 in omega (arith, e, l, s)

pub overflow_add-self-in-SharedIntentionExclusive : goal.overflow_add-self-in-SharedIntentionExclusive
overflow_add-self-in-SharedIntentionExclusive c = let r = c.requires in let e = r.1.shared_intention_exclusive in let l = times_few SharedIntentionExclusive r.0 in let s = r.2 in omega (arith, e, l, s)

pub overflow_add-self-in-Exclusive : goal.overflow_add-self-in-Exclusive
overflow_add-self-in-Exclusive c = let r = c.requires in let e = r.1.exclusive in let l = times_few Exclusive r.0 in let s = r.2 in omega (arith, e, l, s)
