-- The rows at names at which nothing was written.
use Rattle.std.proofs.Common.{◌≡◌, ℕ, Bool, true, false, cond, not, refl, sym, ap, ◌∙◌, subst, Option, Some, None, List, ◌⊎◌, inl, inr}
use Rattle.std.specs.Prelude.{nat_lt}
use Rattle.std.specs.Option.{is_some}
use Rattle.std.specs.FinMap.{get}
use Rattle.values.specs.declared.name.RowName.{RowName}
use Rattle.catalogue.specs.Shapes.{TableShape}
use Rattle.values.specs.Database.{Database, RowOf}
use Rattle.proclang_types.specs.declared.right.Right.TheVariants.{Read}
use Rattle.meaning.specs.Partitions.{is_in_part}
use Rattle.workspace.specs.declared.permit.Permit.{Permit}
use Rattle.workspace.specs.Coverage.{ShowsCovered, permits_part, permits}
use Rattle.workspace.specs.Scan.{is_after, is_ahead, IsNext, IsNextRow, ShowsPart}
use Rattle.workspace.specs.Walks.{IsNextKey, write_of, untouched}
use Rattle.workspace.proofs.Ahead.{both_true, together, get_kept, table_of, key_test, skip_past}
use Rattle.workspace.proofs.Covered.{allowed_in_part}

pub get_untouched : (ws : List (RowName × Option RowOf)) (db : Database) (q : RowName) → get (untouched ws db) q ≡ cond (not (is_some (write_of ws q))) (get db q) None
get_untouched ws db q = get_kept db (λ q. not (is_some (write_of ws q))) q

still_none : (b : Bool) (o : Option RowOf) → o ≡ None → cond b o None ≡ None
still_none true o e = e
still_none false o e = refl

-- a covered partition is shown
pub shows_part : (permit : Permit) (tables : List TableShape) (shows : RowName → Bool) (table part : ℕ) → ShowsCovered permit tables shows → permits_part permit table part ≡ true → ShowsPart tables shows table part
shows_part permit tables shows table part h c = record {
  shown = λ q e. h.shown q (allowed_in_part permit.passage permit.catalogue.now table part q Read (sym (ap (λ (ts : List TableShape). is_in_part ts table part q) h.over) ∙ e) c);
}

-- and so is each row that a walk over it comes to
pub next_covered : (permit : Permit) (db : Database) (table part : ℕ) (after : Option ℕ) (key : ℕ) → permits_part permit table part ≡ true
    → IsNextKey permit.catalogue.now db table part after (Some key) → permits permit (record { table = table; key = key }) Read ≡ true
next_covered permit db table part after key c m =
    allowed_in_part permit.passage permit.catalogue.now table part (record { table = table; key = key }) Read
    (both_true (is_in_part permit.catalogue.now table part (record { table = table; key = key })) (is_after after key) m.1.ahead).0 c

-- the walk stops at a name at which nothing was written
stop : (tables : List TableShape) (ws : List (RowName × Option RowOf)) (db : Database) (table part : ℕ) (after : Option ℕ) (key : ℕ) (row : RowOf)
    → IsNextRow tables db table part after (key, row) → is_some (write_of ws (record { table = table; key = key })) ≡ false → IsNextKey tables (untouched ws db) table part after (Some key)
stop tables ws db table part after key row m n = (
  row,
  record {
    ahead = m.ahead;
    row = get_untouched ws db (record { table = table; key = key }) ∙ ap (λ b. cond (not b) (get db (record { table = table; key = key })) None) n ∙ m.row;
    least = λ q a b. get_untouched ws db q ∙ still_none (not (is_some (write_of ws q))) (get db q) (m.least q a b);
  },
)

-- and goes on past a name at which something was
skip : (tables : List TableShape) (ws : List (RowName × Option RowOf)) (db : Database) (table part : ℕ) (after : Option ℕ) (key : ℕ) (row : RowOf) (r : Option ℕ)
    → IsNextRow tables db table part after (key, row) → is_some (write_of ws (record { table = table; key = key })) ≡ true
    → IsNextKey tables (untouched ws db) table part (Some key) r → IsNextKey tables (untouched ws db) table part after r
skip tables ws db table part after key row r m t n =
    let name : RowName = record { table = table; key = key } in
    skip_past tables (untouched ws db) table part after key r (both_true (is_in_part tables table part name) (is_after after key) m.ahead).1 (λ q a.
    let parts = both_true (is_in_part tables table part q) (is_after after q.key) a in
    elim (nat_lt key q.key) as (λ b. nat_lt key q.key ≡ b → (is_ahead tables table part (Some key) q ≡ true) ⊎ (get (untouched ws db) q ≡ None)) [
      | true ↦ λ e. inl (together (is_in_part tables table part q) (nat_lt key q.key) parts.0 e)
      | false ↦ λ e. inr (get_untouched ws db q ∙ elim (key_test key q.key e) [
        | inl is ↦
            let same : ◌≡◌ {A = RowName} name q = λ i. record { table = sym (table_of tables table part q parts.0) i; key = is i } in
            ap (λ (x : RowName). cond (not (is_some (write_of ws x))) (get db q) None) (sym same) ∙ ap (λ b. cond (not b) (get db q) None) t
        | inr l ↦ still_none (not (is_some (write_of ws q))) (get db q) (m.least q a l)
      ])
    ] refl) n

-- ---- at the name that the code makes

pub stop_at : (tables : List TableShape) (ws : List (RowName × Option RowOf)) (db : Database) (table part : ℕ) (after : Option ℕ) (key : ℕ) (name : RowName) → name ≡ record { table = table; key = key }
    → IsNextKey tables db table part after (Some key) → false ≡ is_some (write_of ws name) → IsNextKey tables (untouched ws db) table part after (Some name.key)
stop_at tables ws db table part after key name same m n =
    subst (λ (q : RowName). IsNextKey tables (untouched ws db) table part after (Some q.key)) (sym same)
    (stop tables ws db table part after key m.0 m.1 (ap (λ (x : RowName). is_some (write_of ws x)) (sym same) ∙ sym n))

pub skip_at : (tables : List TableShape) (ws : List (RowName × Option RowOf)) (db : Database) (table part : ℕ) (after : Option ℕ) (key : ℕ) (name : RowName) (r : Option ℕ) → name ≡ record { table = table; key = key }
    → IsNextKey tables db table part after (Some key) → true ≡ is_some (write_of ws name)
    → IsNextKey tables (untouched ws db) table part (Some name.key) r → IsNextKey tables (untouched ws db) table part after r
skip_at tables ws db table part after key name r same m t n =
    skip tables ws db table part after key m.0 r m.1 (ap (λ (x : RowName). is_some (write_of ws x)) (sym same) ∙ sym t)
    (subst (λ (q : RowName). IsNextKey tables (untouched ws db) table part (Some q.key) r) same n)

pub none_at : (tables : List TableShape) (ws : List (RowName × Option RowOf)) (db : Database) (table part : ℕ) (after : Option ℕ)
    → IsNextKey tables db table part after None → IsNextKey tables (untouched ws db) table part after None
none_at tables ws db table part after h = λ q a. get_untouched ws db q ∙ still_none (not (is_some (write_of ws q))) (get db q) (h q a)

-- ---- over the tables of the view

pub row_shown : (views tables : List TableShape) (db : Database) (table part : ℕ) (after : Option ℕ) (key : ℕ) (row : RowOf) → views ≡ tables
    → IsNextRow views db table part after (key, row) → IsNextKey tables db table part after (Some key)
row_shown views tables db table part after key row over m = (row, subst (λ (ts : List TableShape). IsNextRow ts db table part after (key, row)) over m)

pub none_shown : (views tables : List TableShape) (db : Database) (table part : ℕ) (after : Option ℕ) → views ≡ tables
    → IsNext views db table part after None → IsNextKey tables db table part after None
none_shown views tables db table part after over h = λ q a. h q (ap (λ (ts : List TableShape). is_ahead ts table part after q) over ∙ a)
