-- Of the code: invariants and steps; no promise rests on these words.
-- The code's entries as the transactions that contracts see.
use Rattle.std.specs.Prelude.{ℕ, Bool, List, map, refl}
use Rattle.std.specs.Map.{values_of}
use Rattle.std.specs.Coded.{Coded, code_by, coded×, coded_list, coded_ℕ, coded_bool}
use Rattle.coarsen.specs.Subtrees.{Requests}
use Rattle.lock_tree.specs.Entered.{Enqueued, requests_code}
use Rattle.lock_tree.specs.declared.transactions.Transactions.{Transactions}
use Rattle.lock_tree.specs.Locks.{Waiting, Locks}

abbrev pub waiting_of : Enqueued → Waiting
waiting_of e = record { no = e.no; plan = e.plan.value; marked = e.marked }

abbrev pub all_waiting : List Enqueued → List Waiting
all_waiting es = map waiting_of es

-- the transactions, in the order of their numbers
abbrev pub enqueued : Transactions → List Enqueued
enqueued t = values_of t.entries.entries

abbrev pub waiting_code : Coded Waiting
waiting_code = code_by (ℕ × (Requests × Bool)) (coded× coded_ℕ (coded× requests_code coded_bool))
    (λ w. (w.no, (w.plan, w.marked))) (λ p. record { no = p.0; plan = p.1.0; marked = p.1.1 }) (λ _. refl)

abbrev pub locks_code : Coded Locks
locks_code = code_by (ℕ × List Waiting) (coded× coded_ℕ (coded_list waiting_code)) (λ l. (l.arena, l.waiting))
    (λ p. record { arena = p.0; waiting = p.1 }) (λ _. refl)
