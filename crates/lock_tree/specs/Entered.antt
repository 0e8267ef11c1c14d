-- Of the code: invariants and steps; no promise rests on these words.
-- A transaction of the code, as clauses see it: with its plan and its number, which take no room.
use Rattle.std.specs.Prelude.{ℕ, Bool, Option, refl}
use Rattle.std.specs.Coded.{Coded, code_by, coded×, coded_list, coded_option, coded_ℕ, coded_bool}
use Rattle.footprint.specs.contracts.resource.Resource as resource
use Rattle.modes.specs.contracts.mode.Mode as mode
use Rattle.coarsen.specs.Subtrees.{Requests}

-- a plan that only clauses see
pub record PlanSeen : Type 0 where
  pub value : Requests

-- its number, its plan, the first node of its chain, whether it is marked, and whether each of its requests is granted
pub record Enqueued : Type 0 where
  pub no : ℕ
  pub plan : PlanSeen
  pub head : Option ℕ
  pub marked : Bool
  pub ready : Bool

abbrev pub requests_code : Coded Requests
requests_code = coded_list (coded× resource.the_row.coded mode.the_row.coded)

abbrev pub enqueued_code : Coded Enqueued
enqueued_code =
    code_by (ℕ × (Requests × (Option ℕ × (Bool × Bool))))
    (coded× coded_ℕ (coded× requests_code (coded× (coded_option coded_ℕ) (coded× coded_bool coded_bool))))
    (λ e. (e.no, (e.plan.value, (e.head, (e.marked, e.ready)))))
    (λ p. record {
      no = p.0;
      plan = record { value = p.1.0 };
      head = p.1.1.0;
      marked = p.1.1.1.0;
      ready = p.1.1.1.1;
    }) (λ _. refl)
