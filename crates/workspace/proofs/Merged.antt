-- The rows of a view and the own ones, together.
use Rattle.std.proofs.Common.{◌≡◌, ℕ, true, false, cond, not, refl, sym, ap, ◌∙◌, Option, Some, None, List, inl, inr, arith}
use Rattle.std.specs.Prelude.{nat_lt}
use Rattle.std.specs.Option.{is_some}
use Rattle.std.specs.FinMap.{get}
use Rattle.std.proofs.lemmas.Bool.Decides.{nat_tests}
use Rattle.values.specs.declared.name.RowName.{RowName}
use Rattle.catalogue.specs.Shapes.{TableShape}
use Rattle.values.specs.Database.{Database, RowOf}
use Rattle.meaning.specs.Partitions.{is_in_part}
use Rattle.workspace.specs.Overlay.{applied}
use Rattle.workspace.specs.Scan.{is_after}
use Rattle.workspace.specs.Walks.{IsNextKey, write_of, untouched, own_rows, lesser, is_second, IsWalk}
use Rattle.workspace.proofs.Writes.{get_applied, after_write}
use Rattle.workspace.proofs.Ahead.{both_true, still_next, key_test}
use Rattle.workspace.proofs.Untouched.{get_untouched}
use Rattle.workspace.proofs.OwnRows.{get_own}

join_none : (l : Option (Option RowOf)) (o : Option RowOf) → cond (not (is_some l)) o None ≡ None → after_write l None ≡ None → after_write l o ≡ None
join_none None o e f = e
join_none (Some now) o e f = f

join_left : (l : Option (Option RowOf)) (o : Option RowOf) (row : RowOf) → cond (not (is_some l)) o None ≡ Some row → after_write l o ≡ Some row
join_left None o row e = e
join_left (Some now) o row e = absurd (cc)

join_right : (l : Option (Option RowOf)) (o : Option RowOf) (row : RowOf) → after_write l None ≡ Some row → after_write l o ≡ Some row
join_right None o row e = absurd (cc)
join_right (Some now) o row e = e

none_there : (ws : List (RowName × Option RowOf)) (db : Database) (q : RowName) → get (untouched ws db) q ≡ None → get (own_rows ws) q ≡ None → get (applied ws db) q ≡ None
none_there ws db q e f = get_applied ws db q ∙ join_none (write_of ws q) (get db q) (sym (get_untouched ws db q) ∙ e) (sym (get_own ws q) ∙ f)

left_there : (ws : List (RowName × Option RowOf)) (db : Database) (q : RowName) (row : RowOf) → get (untouched ws db) q ≡ Some row → get (applied ws db) q ≡ Some row
left_there ws db q row e = get_applied ws db q ∙ join_left (write_of ws q) (get db q) row (sym (get_untouched ws db q) ∙ e)

right_there : (ws : List (RowName × Option RowOf)) (db : Database) (q : RowName) (row : RowOf) → get (own_rows ws) q ≡ Some row → get (applied ws db) q ≡ Some row
right_there ws db q row e = get_applied ws db q ∙ join_right (write_of ws q) (get db q) row (sym (get_own ws q) ∙ e)

lower : (q a b : ℕ) → nat_lt q a ≡ true → nat_lt a b ≡ true → nat_lt q b ≡ true
lower q a b e f = grind (arith, nat_tests)

lower_too : (q a b : ℕ) → nat_lt q b ≡ true → nat_lt a b ≡ false → nat_lt q a ≡ true
lower_too q a b e f = grind (arith, nat_tests)

-- the lesser of the next key of the view's at which nothing was written and the next own one
pub merged : (tables : List TableShape) (ws : List (RowName × Option RowOf)) (db : Database) (table part : ℕ) (after a b : Option ℕ)
    → IsNextKey tables (untouched ws db) table part after a → IsNextKey tables (own_rows ws) table part after b → IsNextKey tables (applied ws db) table part after (lesser a b)
merged tables ws db table part after None None m n = λ q h. none_there ws db q (m q h) (n q h)
merged tables ws db table part after None (Some b) m n = (
  n.0,
  record {
    ahead = n.1.ahead;
    row = right_there ws db _ n.0 n.1.row;
    least = λ q h l. none_there ws db q (m q h) (n.1.least q h l);
  },
)
merged tables ws db table part after (Some a) None m n = (
  m.0,
  record {
    ahead = m.1.ahead;
    row = left_there ws db _ m.0 m.1.row;
    least = λ q h l. none_there ws db q (m.1.least q h l) (n q h);
  },
)
merged tables ws db table part after (Some a) (Some b) m n =
    elim (nat_lt a b) as (λ t. nat_lt a b ≡ t → IsNextKey tables (applied ws db) table part after (Some (cond t a b))) [
      | true ↦ λ e. (
        m.0,
        record {
          ahead = m.1.ahead;
          row = left_there ws db _ m.0 m.1.row;
          least = λ q h l. none_there ws db q (m.1.least q h l) (n.1.least q h (lower q.key a b l e));
        },
      )
      | false ↦ λ e. (
        n.0,
        record {
          ahead = n.1.ahead;
          row = right_there ws db _ n.0 n.1.row;
          least = λ q h l. none_there ws db q (m.1.least q h (lower_too q.key a b l e)) (n.1.least q h l);
        },
      )
    ] refl

-- ---- a walk goes on

apart : (l : Option (Option RowOf)) (o : Option RowOf) (x y : RowOf) → cond (not (is_some l)) o None ≡ Some x → after_write l None ≡ Some y → ⊥
apart None o x y e f = absurd (cc)
apart (Some now) o x y e f = absurd (cc)

-- no key is next of both
differ : (tables : List TableShape) (ws : List (RowName × Option RowOf)) (db : Database) (table part : ℕ) (after : Option ℕ) (a b : ℕ)
    → IsNextKey tables (untouched ws db) table part after (Some a) → IsNextKey tables (own_rows ws) table part after (Some b) → a ≡ b → ⊥
differ tables ws db table part after a b m n is =
    let name : RowName = record { table = table; key = b } in
    let one : get (untouched ws db) name ≡ Some m.0 = ap (λ (k : ℕ). get (untouched ws db) (record { table = table; key = k })) (sym is) ∙ m.1.row in
    apart (write_of ws name) (get db name) m.0 n.0 (sym (get_untouched ws db name) ∙ one) (sym (get_own ws name) ∙ n.1.row)

after_of : (tables : List TableShape) (db : Database) (table part : ℕ) (after : Option ℕ) (key : ℕ) → IsNextKey tables db table part after (Some key) → is_after after key ≡ true
after_of tables db table part after key m = (both_true (is_in_part tables table part (record { table = table; key = key })) (is_after after key) m.1.ahead).1

abbrev Walked : List TableShape → List (RowName × Option RowOf) → Database → ℕ → ℕ → Option ℕ → Option ℕ → Option ℕ → Type 0
Walked tables ws db table part after theirs own = IsWalk tables ws db table part (record { after = after; theirs = theirs; own = own })

-- past an own row
pub own_passed : (tables : List TableShape) (ws : List (RowName × Option RowOf)) (db : Database) (table part : ℕ) (after a b new : Option ℕ) (key : ℕ)
    → Walked tables ws db table part after a b → lesser a b ≡ Some key → is_second a b ≡ true
    → IsNextKey tables (own_rows ws) table part (Some key) new → Walked tables ws db table part (Some key) a new
own_passed tables ws db table part after a None new key w e s n = absurd (cc)
own_passed tables ws db table part after None (Some b) new key w e s n =
    let is : b ≡ key = cc in
    let l : is_after after key ≡ true = ap (is_after after) (sym is) ∙ after_of tables (own_rows ws) table part after b w.own in
    record { theirs = still_next tables (untouched ws db) table part after key None l tt w.theirs; own = n }
own_passed tables ws db table part after (Some a) (Some b) new key w e s n =
    let not_less : nat_lt a b ≡ false = (grind (arith, nat_tests)) in
    let is : b ≡ key = (let f : Some (cond (nat_lt a b) a b) ≡ Some key = e in let g : cond (nat_lt a b) a b ≡ b = ap (λ t. cond t a b) not_less in cc) in
    let l : is_after after key ≡ true = ap (is_after after) (sym is) ∙ after_of tables (own_rows ws) table part after b w.own in
    let less : nat_lt b a ≡ true = elim (key_test a b not_less) as (λ _. nat_lt b a ≡ true) [ inl same ↦ absurd (differ tables ws db table part after a b w.theirs w.own same) | inr l ↦ l ] in
    record { theirs = still_next tables (untouched ws db) table part after key (Some a) l (ap (λ k. nat_lt k a) (sym is) ∙ less) w.theirs; own = n }

-- past a row of the view's
pub theirs_passed : (tables : List TableShape) (ws : List (RowName × Option RowOf)) (db : Database) (table part : ℕ) (after a b new : Option ℕ) (key : ℕ)
    → Walked tables ws db table part after a b → lesser a b ≡ Some key → is_second a b ≡ false
    → IsNextKey tables (untouched ws db) table part (Some key) new → Walked tables ws db table part (Some key) new b
theirs_passed tables ws db table part after None None new key w e s n = absurd (cc)
theirs_passed tables ws db table part after None (Some b) new key w e s n = absurd (cc)
theirs_passed tables ws db table part after (Some a) None new key w e s n =
    let is : a ≡ key = cc in
    let l : is_after after key ≡ true = ap (is_after after) (sym is) ∙ after_of tables (untouched ws db) table part after a w.theirs in
    record { theirs = n; own = still_next tables (own_rows ws) table part after key None l tt w.own }
theirs_passed tables ws db table part after (Some a) (Some b) new key w e s n =
    let less : nat_lt a b ≡ true = (grind (arith, nat_tests)) in
    let is : a ≡ key = (let f : Some (cond (nat_lt a b) a b) ≡ Some key = e in let g : cond (nat_lt a b) a b ≡ a = ap (λ t. cond t a b) less in cc) in
    let l : is_after after key ≡ true = ap (is_after after) (sym is) ∙ after_of tables (untouched ws db) table part after a w.theirs in
    record { theirs = n; own = still_next tables (own_rows ws) table part after key (Some b) l (ap (λ k. nat_lt k b) (sym is) ∙ less) w.own }
