-- The rows that were written.
use Rattle.std.proofs.Common.{◌≡◌, ℕ, Bool, true, false, ◌&&◌, ◌==◌, refl, sym, ap, ◌∙◌, subst, Option, Some, None, List, ◌⊎◌, inl, inr, arith}
use Rattle.std.specs.Prelude.{nat_lt, option_map, [], ◌∷◌, unwrap_or}
use Rattle.std.specs.Option.{IsSome, is_some}
use Rattle.std.specs.declared.ops.Bound.TheVariants.{Unbounded}
use Rattle.std.specs.BTreeMap.{BTreeMap}
use Rattle.std.specs.BTreeMap.Range.{IsRangeOf, IsFromStart, IsLeBy}
use Rattle.std.specs.FinMap.{get, empty, get-empty}
use Rattle.std.proofs.lemmas.Bool.Decides.{nat_tests}
use Rattle.values.specs.declared.name.RowName.{RowName}
use Rattle.catalogue.specs.Shapes.{TableShape}
use Rattle.catalogue.specs.Places.{partition_of}
use Rattle.values.specs.Database.{RowOf, name_cmp}
use Rattle.meaning.specs.Partitions.{is_in_part}
use Rattle.workspace.specs.Scan.{is_after, is_ahead}
use Rattle.workspace.specs.Walks.{IsNextKey, IsNextWriteAt, IsNextWrite, write_of, own_rows, is_past, bound_of}
use Rattle.workspace.proofs.Writes.{get_applied, after_write}
use Rattle.workspace.proofs.Ahead.{both_true, together, table_of, key_test, skip_past}

pub get_own : (ws : List (RowName × Option RowOf)) (q : RowName) → get (own_rows ws) q ≡ after_write (write_of ws q) None
get_own ws q = get_applied ws empty q ∙ ap (after_write (write_of ws q)) (get-empty name_cmp q)

live_row : (l : Option (Option RowOf)) → option_map is_some l ≡ Some true → (row : RowOf) × (after_write l None ≡ Some row)
live_row None e = absurd (cc)
live_row (Some None) e = absurd (cc)
live_row (Some (Some row)) e = (row, refl)

dead_row : (l : Option (Option RowOf)) → option_map is_some l ≡ Some false → after_write l None ≡ None
dead_row None e = absurd (cc)
dead_row (Some None) e = refl
dead_row (Some (Some row)) e = absurd (cc)

past_ahead : (tables : List TableShape) (table part : ℕ) (after : Option ℕ) (q : RowName) → is_ahead tables table part after q ≡ true → is_past table after q ≡ true
past_ahead tables table part after q a =
    let x = both_true (is_in_part tables table part q) (is_after after q.key) a in
    together (q.table == table) (is_after after q.key) (both_true (q.table == table) (unwrap_or (partition_of tables table q.key) 0 == part) x.0).0 x.1

same_table : (t : ℕ) → (t == t) ≡ true
same_table t = grind (arith, nat_tests)

abbrev in_part_of : List TableShape → ℕ → ℕ → ℕ → Bool
in_part_of tables table part key = unwrap_or (partition_of tables table key) 0 == part

pub found : (tables : List TableShape) (ws : List (RowName × Option RowOf)) (table part : ℕ) (after : Option ℕ) (key : ℕ) (live : Bool) → IsNextWriteAt ws table after key live
    → live ≡ true → in_part_of tables table part key ≡ true → IsNextKey tables (own_rows ws) table part after (Some key)
found tables ws table part after key live m l p =
    let there = live_row _ (m.write ∙ ap Some l) in (
      there.0,
      record {
        ahead = together (is_in_part tables table part (record { table = table; key = key })) (is_after after key) (together (table == table) (in_part_of tables table part key) (same_table table) p) m.later;
        row = get_own ws (record { table = table; key = key }) ∙ there.1;
        least = λ q a b. get_own ws q ∙ ap (λ (x : Option (Option RowOf)). after_write x None) (m.least q (past_ahead tables table part after q a) b);
      },
    )

not_live : (live p : Bool) → (live && p) ≡ false → p ≡ true → live ≡ false
not_live true p e f = absurd (cc)
not_live false p e f = refl

pub passed : (tables : List TableShape) (ws : List (RowName × Option RowOf)) (table part : ℕ) (after : Option ℕ) (key : ℕ) (live : Bool) (r : Option ℕ) → IsNextWriteAt ws table after key live
    → (live && in_part_of tables table part key) ≡ false → IsNextKey tables (own_rows ws) table part (Some key) r → IsNextKey tables (own_rows ws) table part after r
passed tables ws table part after key live r m d = skip_past tables (own_rows ws) table part after key r m.later (λ q a.
    let x = both_true (is_in_part tables table part q) (is_after after q.key) a in
    elim (nat_lt key q.key) as (λ b. nat_lt key q.key ≡ b → (is_ahead tables table part (Some key) q ≡ true) ⊎ (get (own_rows ws) q ≡ None)) [
      | true ↦ λ e. inl (together (is_in_part tables table part q) (nat_lt key q.key) x.0 e)
      | false ↦ λ e. inr (get_own ws q ∙ elim (key_test key q.key e) [
        | inl is ↦
            let same : ◌≡◌ {A = RowName} (record { table = table; key = key }) q = λ i. record { table = sym (table_of tables table part q x.0) i; key = is i } in
            let p : in_part_of tables table part key ≡ true = ap (λ k. in_part_of tables table part k) is ∙ (both_true (q.table == table) (in_part_of tables table part q.key) x.0).1 in
            dead_row _ (ap (λ (y : RowName). option_map is_some (write_of ws y)) (sym same) ∙ m.write ∙ ap Some (not_live live _ d p))
        | inr l ↦ ap (λ (y : Option (Option RowOf)). after_write y None) (m.least q (past_ahead tables table part after q a) l)
      ])
    ] refl)

pub ended : (tables : List TableShape) (ws : List (RowName × Option RowOf)) (table part : ℕ) (after : Option ℕ) → IsNextWrite ws table after None → IsNextKey tables (own_rows ws) table part after None
ended tables ws table part after h = λ q a. get_own ws q ∙ ap (λ (x : Option (Option RowOf)). after_write x None) (h q (past_ahead tables table part after q a))

-- ---- the first write in the order of the map

in_range : (table : ℕ) (after : Option ℕ) (q : RowName) → is_past table after q ≡ true → IsFromStart name_cmp (bound_of table after) q
in_range table None q p = let e = (both_true (q.table == table) true p).0 in grind (arith, nat_tests)
in_range table (Some k) q p =
    let e = both_true (q.table == table) (nat_lt k q.key) p in
    let t = e.0 in let l = e.1 in
    grind (arith, nat_tests)

is_later : (table : ℕ) (after : Option ℕ) (q : RowName) → IsFromStart name_cmp (bound_of table after) q → q.table ≡ table → is_after after q.key ≡ true
is_later table None q h e = refl
is_later table (Some k) q h e = grind (arith, nat_tests)

higher : (table : ℕ) (after : Option ℕ) (q : RowName) → IsFromStart name_cmp (bound_of table after) q → ¬ (q.table ≡ table) → nat_lt table q.table ≡ true
higher table None q h e = grind (arith, nat_tests)
higher table (Some k) q h e = grind (arith, nat_tests)

not_below : (e q : RowName) → IsLeBy name_cmp e q → q.table ≡ e.table → nat_lt q.key e.key ≡ true → ⊥
not_below e q h t l = grind (arith, nat_tests)

not_lower : (e q : RowName) → IsLeBy name_cmp e q → nat_lt q.table e.table ≡ true → ⊥
not_lower e q h l = grind (arith, nat_tests)

none_or : (o : Option (Option RowOf)) → (IsSome o → ⊥) → o ≡ None
none_or None h = refl
none_or (Some x) h = absurd (h refl)

pub no_write : (m : BTreeMap RowName (Option RowOf)) (table : ℕ) (after : Option ℕ) (r : List (RowName × Option RowOf)) → IsRangeOf name_cmp (bound_of table after) Unbounded m r
    → r ≡ [] → IsNextWrite m.entries table after None
no_write m table after r h e = λ q p. h.5 e q (in_range table after q p, tt)

named_table : (table : ℕ) (q : RowName) → (q.table == table) ≡ true → q.table ≡ table
named_table table q e = grind (arith, nat_tests)

first_write : (m : BTreeMap RowName (Option RowOf)) (table : ℕ) (after : Option ℕ) (e : RowName × Option RowOf) (rest : List (RowName × Option RowOf))
    → IsRangeOf name_cmp (bound_of table after) Unbounded m (e ∷ rest) → e.0.table ≡ table → IsNextWriteAt m.entries table after e.0.key (is_some e.1)
first_write m table after e rest h t =
    let same : ◌≡◌ {A = RowName} (record { table = table; key = e.0.key }) e.0 = λ i. record { table = sym t i; key = e.0.key } in
    record {
      later = is_later table after e.0 h.1.0.0 t;
      write = ap (λ (x : RowName). option_map is_some (write_of m.entries x)) same ∙ ap (λ (o : Option (Option RowOf)). option_map is_some o) h.1.1;
      least = λ q p l. none_or (write_of m.entries q) (λ s. not_below e.0 q (h.2 q (in_range table after q p, tt) s)
          (named_table table q (both_true (q.table == table) (is_after after q.key) p).0 ∙ sym t) l);
    }

pub same_numbers : (a b : ℕ) → true ≡ (a == b) → a ≡ b
same_numbers a b e = grind (arith, nat_tests)

pub other_numbers : (a b : ℕ) → false ≡ (a == b) → ¬ (a ≡ b)
other_numbers a b e = λ f. let g : (a == b) ≡ true = (grind (arith, nat_tests)) in absurd (cc)

pub one_write : (m : BTreeMap RowName (Option RowOf)) (table : ℕ) (after : Option ℕ) (e : RowName × Option RowOf) (rest r : List (RowName × Option RowOf))
    → IsRangeOf name_cmp (bound_of table after) Unbounded m r → r ≡ e ∷ rest → e.0.table ≡ table → IsNextWriteAt m.entries table after e.0.key (is_some e.1)
one_write m table after e rest r h is t = first_write m table after e rest (subst (IsRangeOf name_cmp (bound_of table after) Unbounded m) is h) t

other_write : (m : BTreeMap RowName (Option RowOf)) (table : ℕ) (after : Option ℕ) (e : RowName × Option RowOf) (rest : List (RowName × Option RowOf))
    → IsRangeOf name_cmp (bound_of table after) Unbounded m (e ∷ rest) → ¬ (e.0.table ≡ table) → IsNextWrite m.entries table after None
other_write m table after e rest h n = λ q p. none_or (write_of m.entries q) (λ s. not_lower e.0 q (h.2 q (in_range table after q p, tt) s)
    (ap (λ t. nat_lt t e.0.table) (named_table table q (both_true (q.table == table) (is_after after q.key) p).0) ∙ higher table after e.0 h.1.0.0 n))

pub past_table : (m : BTreeMap RowName (Option RowOf)) (table : ℕ) (after : Option ℕ) (e : RowName × Option RowOf) (rest r : List (RowName × Option RowOf))
    → IsRangeOf name_cmp (bound_of table after) Unbounded m r → r ≡ e ∷ rest → ¬ (e.0.table ≡ table) → IsNextWrite m.entries table after None
past_table m table after e rest r h is n = other_write m table after e rest (subst (IsRangeOf name_cmp (bound_of table after) Unbounded m) is h) n
