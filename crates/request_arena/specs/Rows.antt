-- Of the code: invariants and steps; no promise rests on these words.
-- Nodes in a row.
use Rattle.std.specs.Prelude.{ℕ, List, refl}
use Rattle.std.specs.Coded.{Coded, code_by, coded×, coded_list, coded_ℕ}
use Rattle.request_arena.specs.declared.packed.Packed.{Packed}
use Rattle.request_arena.specs.contracts.packed.Packed as packed

-- the nodes, and how many there is room for
pub record RowOf : Type 0 where
  pub items : List Packed
  pub room : ℕ

abbrev pub row_code : Coded RowOf
row_code = code_by (List Packed × ℕ) (coded× (coded_list packed.the_row.coded) coded_ℕ) (λ r. (r.items, r.room))
    (λ p. record { items = p.0; room = p.1 }) (λ _. refl)
