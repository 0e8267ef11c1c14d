-- The rows of a table, over its partitions.
use Rattle.std.proofs.Common.{◌≡◌, ◌⊎◌, inl, inr, ℕ, ◌+◌, ◌-◌, ◌<◌, ◌≤◌, ◌^◌, ◌==◌, ◌&&◌, Bool, true, false, cond, nat_lt, nat_le, unwrap_or, List, [], ◌∷◌, length, Option, Some, None, IfSome, option_map, is_some, slice_get, refl, sym, ap, subst, arith}
use Rattle.std.specs.FinMap.{get}
use Rattle.std.specs.Str.{bytes_eq}
use Rattle.std.proofs.lemmas.Bool.Decides.{nat_tests}
use Rattle.std.proofs.lemmas.List.Quantifiers.{position-Some}
use Rattle.std.proofs.lemmas.List.Sums.{count_by-le-length}
use Rattle.values.specs.Database.{Database, RowOf}
use Rattle.catalogue.specs.Shapes.{SplitShape, by_remainder, at_bounds, partitions, part_with, TableShape}
use Rattle.catalogue.specs.Places.{table_named}
use Rattle.workspace.specs.Scan.{is_in_part, IsNext}
use Rattle.batch_log.specs.Feeds.{place_of}
use Rattle.retries.specs.Standings.{Standing}
use Rattle.running.specs.Starts.{Start}
use Rattle.session.specs.declared.session.Session.{Session}
use Rattle.session.specs.Replies.{NumberedReply}
use Rattle.session.specs.Rows.{AreEndedIn, AreRowsAfter, IsCarriedAfter, IsNextOfTable}
use Rattle.session.specs.Scanning.{any_key, before_part, in_part, key_up_to, lesser_of, part_of, IsLeastKeyAmong, IsNextKeyAmong}
use Rattle.session.specs.Sessions.{carried_of, rows_of, HasTaken}

-- ---- one partition

same_table : (table : ℕ) → (table == table) ≡ true
same_table table = grind (arith, nat_tests)

ahead : (table : ℕ) (here later : Bool) → here ≡ true → later ≡ true → (((table == table) && here) && later) ≡ true
ahead table here later h l = rw (same_table table, h, l) refl

later_of : (a b : Bool) → (a && b) ≡ true → b ≡ true
later_of true b h = h
later_of false b h = absurd cc

pub next_in_part : (tables : List TableShape) (db : Database) (table part : ℕ) (after : Option ℕ) (found : Option (ℕ × RowOf)) → IsNext tables db table part after found →
    IsNextKeyAmong (in_part tables table part) db table after (option_map (λ (row : ℕ × RowOf). row.0) found)
next_in_part tables db table part after None h = λ key here later. h (record { table = table; key = key }) (ahead table _ _ here later)
next_in_part tables db table part after (Some found) h = record {
  later = later_of (is_in_part tables table part (record { table = table; key = found.0 })) _ h.ahead;
  there = ap (λ (row : Option RowOf). is_some row) h.row;
  least = λ key here later below. h.least (record { table = table; key = key }) (ahead table _ _ here later) (grind (arith, nat_tests, below));
}

-- ---- two parts of a table

module _ (one other both : ℕ → Bool) (db : Database) (table : ℕ) (after : Option ℕ) (parts : (key : ℕ) → both key ≡ true → (one key ≡ true) ⊎ (other key ≡ true)) where
  abbrev None_at : ℕ → Type 0
  None_at key = get db (record { table = table; key = key }) ≡ None

  in_either : (key : ℕ) (A : Type 0) → (one key ≡ true) ⊎ (other key ≡ true) → (one key ≡ true → A) → (other key ≡ true → A) → A
  in_either key A (inl a) f g = f a
  in_either key A (inr b) f g = g b

  -- the lesser of the two
  chosen : (x y : ℕ) (less : Bool) → nat_lt y x ≡ less → IsLeastKeyAmong one db table after x → IsLeastKeyAmong other db table after y → IsNextKeyAmong both db table after (cond less (Some y) (Some x))
  chosen x y true e h k = record {
    later = k.later;
    there = k.there;
    least = λ key here later below. in_either key (None_at key) (parts key here) (λ a. h.least key a later (grind (arith, nat_tests, e, below))) (λ b. k.least key b later below);
  }
  chosen x y false e h k = record {
    later = h.later;
    there = h.there;
    least = λ key here later below. in_either key (None_at key) (parts key here) (λ a. h.least key a later below) (λ b. k.least key b later (grind (arith, nat_tests, e, below)));
  }

  pub next_in_both : (x y : Option ℕ) → IsNextKeyAmong one db table after x → IsNextKeyAmong other db table after y → IsNextKeyAmong both db table after (lesser_of x y)
  next_in_both None None h k = λ key here later. in_either key (None_at key) (parts key here) (λ a. h key a later) (λ b. k key b later)
  next_in_both None (Some y) h k = record {
    later = k.later;
    there = k.there;
    least = λ key here later below. in_either key (None_at key) (parts key here) (λ a. h key a later) (λ b. k.least key b later below);
  }
  next_in_both (Some x) None h k = record {
    later = h.later;
    there = h.there;
    least = λ key here later below. in_either key (None_at key) (parts key here) (λ a. h.least key a later below) (λ b. k key b later);
  }
  next_in_both (Some x) (Some y) h k = chosen x y (nat_lt y x) refl h k

-- ---- all partitions

-- none is before the first
pub none_before : (tables : List TableShape) (db : Database) (table : ℕ) (after : Option ℕ) → IsNextKeyAmong (before_part tables table 0) db table after None
none_before tables db table after = λ key here later. absurd (let none : nat_lt (part_of tables table key) 0 ≡ true = here in grind (arith, nat_tests, none))

either_part : (n part : ℕ) → nat_lt n (part + 1) ≡ true → (nat_lt n part ≡ true) ⊎ ((n == part) ≡ true)
either_part n part h = elim (nat_lt n part) as (λ b. nat_lt n part ≡ b → (b ≡ true) ⊎ ((n == part) ≡ true)) [
  | true ↦ λ e. inl refl
  | false ↦ λ e. inr (grind (arith, nat_tests, e, h))
] refl

-- one more
pub one_part_more : (tables : List TableShape) (db : Database) (table part : ℕ) (after x y : Option ℕ) → IsNextKeyAmong (before_part tables table part) db table after x →
    IsNextKeyAmong (in_part tables table part) db table after y → IsNextKeyAmong (before_part tables table (part + 1)) db table after (lesser_of x y)
one_part_more tables db table part after x y h k =
    next_in_both (before_part tables table part) (in_part tables table part) (before_part tables table (part + 1)) db table after
    (λ key here. either_part (part_of tables table key) part here) x y h k

within : (split : SplitShape) (key : ℕ) → 1 ≤ partitions split → part_with split key < partitions split
within (by_remainder count) key some = grind (arith, some)
within (at_bounds bounds) key some = let few = count_by-le-length (λ bound. nat_le bound key) bounds in omega (arith, few)

in_all : (key count : ℕ) (shape : Option TableShape) → Some count ≡ option_map (λ (t : TableShape). partitions t.split) shape → 1 ≤ count →
    nat_lt (unwrap_or (option_map (λ (t : TableShape). part_with t.split key) shape) 0) count ≡ true
in_all key count None is some = absurd cc
in_all key count (Some shape) is some =
    let same : count ≡ partitions shape.split = cc in
    let low : part_with shape.split key < count = subst (λ n. part_with shape.split key < n) (sym same) (within shape.split key (subst (λ n. 1 ≤ n) same some)) in
    grind (arith, nat_tests, low)

whole_of : (among : ℕ → Bool) (db : Database) (table : ℕ) (after found : Option ℕ) → ((key : ℕ) → among key ≡ true) → IsNextKeyAmong among db table after found →
    IsNextKeyAmong any_key db table after found
whole_of among db table after None all h = λ key any later. h key (all key) later
whole_of among db table after (Some found) all h = record { later = h.later; there = h.there; least = λ key any later below. h.least key (all key) later below }

pub next_of_all : (tables : List TableShape) (db : Database) (table count : ℕ) (after found : Option ℕ) →
    Some count ≡ option_map (λ (t : TableShape). partitions t.split) (slice_get tables table) → 1 ≤ count → IsNextKeyAmong (before_part tables table count) db table after found →
    IsNextKeyAmong any_key db table after found
next_of_all tables db table count after found is some h =
    whole_of (before_part tables table count) db table after found (λ key. in_all key count (slice_get tables table) is some) h

-- the row with that key
pub row_of_next : (db : Database) (table : ℕ) (after : Option ℕ) (key : ℕ) (row : RowOf) → IsNextKeyAmong any_key db table after (Some key) → Some row ≡ get db (record { table = table; key = key }) →
    IsNextOfTable db table after (Some (key, row))
row_of_next db table after key row h is = record { later = h.later; row = sym is; least = λ k later below. h.least k refl later below }

-- ---- numbers that are no keys

-- no key comes after the greatest
beyond : (db : Database) (table n : ℕ) (found : Option (ℕ × RowOf)) → IfSome found (λ row. row.0 < 2 ^ 63) → nat_lt n (2 ^ 63) ≡ false →
    IsNextOfTable db table (Some (2 ^ 63 - 1)) found → IsNextOfTable db table (Some n) found
beyond db table n None low e h = λ key later. h key (grind (arith, nat_tests, e, later))
beyond db table n (Some row) low e h = let later = h.later in absurd (grind (arith, nat_tests, low, later))

next_from : (db : Database) (table n : ℕ) (below : Bool) (found : Option (ℕ × RowOf)) → IfSome found (λ row. row.0 < 2 ^ 63) → nat_lt n (2 ^ 63) ≡ below →
    IsNextOfTable db table (Some (cond below n (2 ^ 63 - 1))) found → IsNextOfTable db table (Some n) found
next_from db table n true found low e h = h
next_from db table n false found low e h = beyond db table n found low e h

pub next_after : (db : Database) (table : ℕ) (after : Option ℕ) (found : Option (ℕ × RowOf)) → IfSome found (λ row. row.0 < 2 ^ 63) → IsNextOfTable db table (option_map key_up_to after) found →
    IsNextOfTable db table after found
next_after db table None found low h = h
next_after db table (Some n) found low h = next_from db table n (nat_lt n (2 ^ 63)) found low refl h

-- ---- tables

-- a table with a name is there
pub table_there : (tables : List TableShape) (name : List ℕ) (place : ℕ) → table_named tables name ≡ Some place → place < length tables
table_there [] name place h = absurd cc
table_there (t ∷ ts) name place h = (position-Some (λ (u : TableShape). bytes_eq name u.name) (t ∷ ts) place t h).0

-- ---- the rows of a session, and what is carried past them

batches_ended : (start : Start) (fed drained : List ℕ) (passed : List NumberedReply) (session : Session)
    → (h : HasTaken start fed drained passed session) → AreEndedIn start fed h.run.ended
batches_ended start fed drained passed session h =
    record { place = place_of session.work.feed; limit = h.run.limit; at = h.run.at }

pub rows_after_batches : (start : Start) (fed drained : List ℕ) (passed : List NumberedReply) (session : Session)
    → HasTaken start fed drained passed session → AreRowsAfter start fed (rows_of session)
rows_after_batches start fed drained passed session h = (
  h.run.ended,
  batches_ended start fed drained passed session h,
  ap (λ (s : Standing). s.rows) h.run.reported.standing_is,
)

pub carried_after_batches : (start : Start) (fed drained : List ℕ) (passed : List NumberedReply) (session : Session)
    → HasTaken start fed drained passed session → IsCarriedAfter start fed (carried_of session)
carried_after_batches start fed drained passed session h = (
  h.run.ended,
  batches_ended start fed drained passed session h,
  ap (λ (s : Standing). length s.carried) h.run.reported.standing_is,
)
