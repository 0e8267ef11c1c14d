-- What a walk over a partition has yet to come to.
use Rattle.std.proofs.Common.{◌≡◌, ℕ, ◌≤◌, Bool, true, false, cond, ◌&&◌, ◌==◌, refl, sym, ap, ◌∙◌, Option, Some, None, List, [], ◌∷◌, ◌⊎◌, inl, inr, arith}
use Rattle.std.specs.Prelude.{nat_lt, length, unwrap_or}
use Rattle.std.specs.Option.{is_some}
use Rattle.std.specs.Ordering.{eq_by_cmp}
use Rattle.std.specs.declared.cmp.Ordering.{Ordering}
use Rattle.std.specs.declared.cmp.Ordering.TheVariants.{Less as Below}
use Rattle.std.specs.Cmp.{eq_by_cmp_equiv}
use Rattle.std.specs.FinMap.{get, len, entries, entries-insert, get-entries, len-entries, put, find, insert, get-insert, empty, retain_keys, get-retain_keys, get-empty, len-empty, same_map}
use Rattle.std.specs.FinMap.Entries.{by_order}
use Rattle.std.proofs.lemmas.Bool.{false≢true}
use Rattle.std.proofs.lemmas.Bool.Decides.{nat_tests}
use Rattle.values.specs.declared.name.RowName.{RowName}
use Rattle.catalogue.specs.Shapes.{TableShape}
use Rattle.catalogue.specs.Places.{partition_of}
use Rattle.values.specs.Database.{Database, RowOf, name_cmp}
use Rattle.meaning.specs.Partitions.{is_in_part, part_rows}
use Rattle.workspace.specs.Scan.{is_after, is_ahead, IsNext, IsNextRow}
use Rattle.workspace.specs.Walks.{IsNextKey, rows_ahead, keys_before}
use Rattle.meaning.proofs.Names.{names_total, exact_names}
use Rattle.workspace.proofs.Writes.{is_equal}

pub both_true : (a b : Bool) → (a && b) ≡ true → (a ≡ true) × (b ≡ true)
both_true true b e = (refl, e)
both_true false b e = absurd (cc)

pub together : (a b : Bool) → a ≡ true → b ≡ true → (a && b) ≡ true
together true b e f = f
together false b e f = absurd (cc)

pub table_of : (tables : List TableShape) (table part : ℕ) (q : RowName) → is_in_part tables table part q ≡ true → q.table ≡ table
table_of tables table part q e =
    let t : (q.table == table) ≡ true = (both_true (q.table == table) (unwrap_or (partition_of tables table q.key) 0 == part) e).0 in
    grind (arith, nat_tests)

pub get_kept : (db : Database) (p : RowName → Bool) (q : RowName) → get (retain_keys db p) q ≡ cond (p q) (get db q) None
get_kept db p q = get-retain_keys db p q (λ x e. ap p (sym (exact_names q x e)))

none_kept : (b : Bool) (o : Option RowOf) → (b ≡ true → o ≡ None) → cond b o None ≡ None
none_kept true o h = h refl
none_kept false o h = refl

-- one step of a walk: at a name, whether it is the next one, was ahead, and still is
step_at : (same before after : Bool) (o now : Option RowOf)
    → (same ≡ true → (before ≡ true) × (o ≡ now)) → (after ≡ true → before ≡ true) → (same ≡ false → before ≡ true → after ≡ false → o ≡ None)
    → cond before o None ≡ cond same now (cond after o None)
step_at true before after o now f g h = ap (λ b. cond b o None) (f refl).0 ∙ (f refl).1
step_at false true true o now f g h = refl
step_at false true false o now f g h = h refl refl refl
step_at false false true o now f g h = let e : false ≡ true = g refl in absurd (cc)
step_at false false false o now f g h = refl

and_one : (a : Bool) → (a && true) ≡ a
and_one true = refl
and_one false = refl

true≢false : true ≡ false → ⊥
true≢false e = absurd (false≢true (sym e))

self_equal : (n : RowName) → eq_by_cmp name_cmp n n ≡ true
self_equal n = (eq_by_cmp_equiv names_total).refl n

fell : (a b : Bool) → a ≡ true → (a && b) ≡ false → b ≡ false
fell true b e f = f
fell false b e f = absurd (cc)

pub later : (after : Option ℕ) (k j : ℕ) → is_after after k ≡ true → nat_lt k j ≡ true → is_after after j ≡ true
later None k j e f = refl
later (Some a) k j e f = grind (arith, nat_tests)

below : (k j : ℕ) → nat_lt k j ≡ false → ¬ (j ≡ k) → nat_lt j k ≡ true
below k j e n = grind (arith, nat_tests)

same_name : (table key : ℕ) (q : RowName) → q.table ≡ table → q.key ≡ key → eq_by_cmp name_cmp q (record { table = table; key = key }) ≡ true
same_name table key q e f = rw (e, f) (self_equal (record { table = table; key = key }))

-- what is ahead is the next row and what is ahead of that
grown : (tables : List TableShape) (db : Database) (table part : ℕ) (after : Option ℕ) (key : ℕ) (row : RowOf) → IsNextRow tables db table part after (key, row)
    → retain_keys db (is_ahead tables table part after) ≡ insert (retain_keys db (is_ahead tables table part (Some key))) (record { table = table; key = key }) row
grown tables db table part after key row m =
    let name : RowName = record { table = table; key = key } in
    let split : (is_in_part tables table part name ≡ true) × (is_after after key ≡ true) = both_true (is_in_part tables table part name) (is_after after key) m.ahead in
    same_map names_total exact_names _ _ (λ q.
    get_kept db (is_ahead tables table part after) q
    ∙ step_at (eq_by_cmp name_cmp q name) (is_ahead tables table part after q) (is_ahead tables table part (Some key) q) (get db q) (Some row)
    (λ e. let is : q ≡ name = exact_names q name (is_equal (name_cmp q name) e) in
    (ap (is_ahead tables table part after) is ∙ m.ahead, ap (get db) is ∙ m.row))
    (λ e. let parts : (is_in_part tables table part q ≡ true) × (nat_lt key q.key ≡ true) = both_true (is_in_part tables table part q) (nat_lt key q.key) e in
    together (is_in_part tables table part q) (is_after after q.key) parts.0 (later after key q.key split.1 parts.1))
    (λ e f n. let parts : (is_in_part tables table part q ≡ true) × (is_after after q.key ≡ true) = both_true (is_in_part tables table part q) (is_after after q.key) f in
    m.least q f (below key q.key (fell (is_in_part tables table part q) (nat_lt key q.key) parts.0 n)
    (λ is. true≢false (sym (same_name table key q (table_of tables table part q parts.0) is) ∙ e))))
    ∙ ap (cond (eq_by_cmp name_cmp q name) (Some row)) (sym (get_kept db (is_ahead tables table part (Some key)) q))
    ∙ sym (get-insert names_total (retain_keys db (is_ahead tables table part (Some key))) name row q))

was_kept : (b : Bool) (o : Option RowOf) → is_some (cond b o None) ≡ true → b ≡ true
was_kept true o e = refl
was_kept false o e = absurd (cc)

put_first : (es : List (RowName × RowOf)) (name : RowName) (row : RowOf) → ((e : RowName × RowOf) (rest : List (RowName × RowOf)) → es ≡ e ∷ rest → name_cmp name e.0 ≡ Below)
    → put name_cmp name row es ≡ (name, row) ∷ es
put_first [] name row h = refl
put_first (e ∷ es) name row h = ap (λ (o : Ordering). by_order o ((name, row) ∷ e ∷ es) ((e.0, row) ∷ es) (e ∷ put name_cmp name row es)) (h e es refl)

pub less_name : (a b t u : ℕ) → t ≡ u → nat_lt a b ≡ true → name_cmp (record { table = t; key = a }) (record { table = u; key = b }) ≡ Below
less_name a b t u e f = grind (arith, nat_tests)

head_there : (db : Database) (e : RowName × RowOf) (rest : List (RowName × RowOf)) → entries db ≡ e ∷ rest → is_some (get db e.0) ≡ true
head_there db e rest is =
    ap is_some (get-entries db e.0 ∙ ap (find name_cmp e.0) is ∙ ap (λ b. cond b (Some e.1) (find name_cmp e.0 rest)) (self_equal e.0))

-- the list of the rows ahead begins with the next one
pub rows_on : (tables : List TableShape) (db : Database) (table part : ℕ) (after : Option ℕ) (key : ℕ) (row : RowOf) → IsNextRow tables db table part after (key, row)
    → rows_ahead tables table part after db ≡ (record { table = table; key = key }, row) ∷ rows_ahead tables table part (Some key) db
rows_on tables db table part after key row m =
    let name : RowName = record { table = table; key = key } in
    ap entries (grown tables db table part after key row m)
    ∙ entries-insert names_total (retain_keys db (is_ahead tables table part (Some key))) name row
    ∙ put_first (rows_ahead tables table part (Some key) db) name row (λ e rest is.
    let there = head_there (retain_keys db (is_ahead tables table part (Some key))) e rest is in
    let kept = was_kept (is_ahead tables table part (Some key) e.0) (get db e.0) (ap is_some (sym (get_kept db (is_ahead tables table part (Some key)) e.0)) ∙ there) in
    let parts = both_true (is_in_part tables table part e.0) (nat_lt key e.0.key) kept in
    less_name key e.0.key table e.0.table (sym (table_of tables table part e.0 parts.0)) parts.1)

no_rows : (rows : List (RowName × RowOf)) → length rows ≡ 0 → rows ≡ []
no_rows [] e = refl
no_rows (x ∷ rows) e = absurd (omega arith)

-- at the end of a walk nothing is ahead
pub rows_done : (tables : List TableShape) (db : Database) (table part : ℕ) (after : Option ℕ) → IsNext tables db table part after None → rows_ahead tables table part after db ≡ []
rows_done tables db table part after h =
    no_rows _ (sym (len-entries (retain_keys db (is_ahead tables table part after)))
    ∙ ap len (same_map names_total exact_names (retain_keys db (is_ahead tables table part after)) empty (λ q.
    get_kept db (is_ahead tables table part after) q ∙ none_kept (is_ahead tables table part after q) (get db q) (h q) ∙ sym (get-empty name_cmp q)))
    ∙ len-empty name_cmp RowOf)

-- at the start all rows of the partition are
pub rows_start : (tables : List TableShape) (db : Database) (table part : ℕ) → rows_ahead tables table part None db ≡ entries (part_rows tables table part db)
rows_start tables db table part = ap entries (same_map names_total exact_names _ _ (λ q.
    get_kept db (is_ahead tables table part None) q ∙ ap (λ b. cond b (get db q) None) (and_one (is_in_part tables table part q)) ∙ sym (get_kept db (is_in_part tables table part) q)))

before_key : (after : Option ℕ) (key : ℕ) → is_after after key ≡ true → keys_before after ≤ key
before_key None key e = omega arith
before_key (Some k) key e = grind (arith, nat_tests)

-- the places of a walk rise
pub before_next : (tables : List TableShape) (db : Database) (table part : ℕ) (after : Option ℕ) (key : ℕ) → IsNextKey tables db table part after (Some key) → keys_before after ≤ key
before_next tables db table part after key m =
    before_key after key (both_true (is_in_part tables table part (record { table = table; key = key })) (is_after after key) m.1.ahead).1

pub key_test : (a b : ℕ) → nat_lt a b ≡ false → (a ≡ b) ⊎ (nat_lt b a ≡ true)
key_test a b e = grind (arith, nat_tests)

-- a walk goes on past a key if what was ahead of the place before it, and is not ahead of it, is not there
pub skip_past : (tables : List TableShape) (db : Database) (table part : ℕ) (after : Option ℕ) (key : ℕ) (r : Option ℕ) → is_after after key ≡ true
    → ((q : RowName) → is_ahead tables table part after q ≡ true → (is_ahead tables table part (Some key) q ≡ true) ⊎ (get db q ≡ None))
    → IsNextKey tables db table part (Some key) r → IsNextKey tables db table part after r
skip_past tables db table part after key None l h n = λ q a. elim (h q a) [ inl b ↦ n q b | inr e ↦ e ]
skip_past tables db table part after key (Some k) l h n =
    let name : RowName = record { table = table; key = k } in
    let new : (is_in_part tables table part name ≡ true) × (nat_lt key k ≡ true) = both_true (is_in_part tables table part name) (nat_lt key k) n.1.ahead in (
      n.0,
      record {
        ahead = together (is_in_part tables table part name) (is_after after k) new.0 (later after key k l new.1);
        row = n.1.row;
        least = λ q a b. elim (h q a) [ inl c ↦ n.1.least q c b | inr e ↦ e ];
      },
    )

-- a key that something comes after
abbrev pub IsBehind : ℕ → Option ℕ → Type 0
IsBehind key None = Unit {0}
IsBehind key (Some k) = nat_lt key k ≡ true

-- what comes next after a later key is what came next
pub still_next : (tables : List TableShape) (db : Database) (table part : ℕ) (after : Option ℕ) (key : ℕ) (r : Option ℕ) → is_after after key ≡ true → IsBehind key r
    → IsNextKey tables db table part after r → IsNextKey tables db table part (Some key) r
still_next tables db table part after key None l b n = λ q a.
    let parts = both_true (is_in_part tables table part q) (nat_lt key q.key) a in
    n q (together (is_in_part tables table part q) (is_after after q.key) parts.0 (later after key q.key l parts.1))
still_next tables db table part after key (Some k) l b n =
    let name : RowName = record { table = table; key = k } in
    let old : (is_in_part tables table part name ≡ true) × (is_after after k ≡ true) = both_true (is_in_part tables table part name) (is_after after k) n.1.ahead in (
      n.0,
      record {
        ahead = together (is_in_part tables table part name) (nat_lt key k) old.0 b;
        row = n.1.row;
        least = λ q a less.
            let parts = both_true (is_in_part tables table part q) (nat_lt key q.key) a in
            n.1.least q (together (is_in_part tables table part q) (is_after after q.key) parts.0 (later after key q.key l parts.1)) less;
      },
    )
