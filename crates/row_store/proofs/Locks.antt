-- What a plan locks: the names that its requests lock by themselves, and those on the shelves that they lock whole.
use Rattle.std.proofs.Common.{◌≡◌, inl, inr, ℕ, ◌^◌, ◌<◌, pos, Bool, true, false, ◌&&◌, ◌||◌, ◌==◌, if◌then◌else◌, nat_le, max, List, [], ◌∷◌, length, refl, sym, ap, ◌∙◌, Option, Some, None, option_map, unwrap_or, option_and_then, slice_get, arith}
use Rattle.std.specs.Prelude.{nat_lt}
use Rattle.std.specs.List.{list_any}
use Rattle.std.proofs.lemmas.Bool.Decides.{nat_tests}
use Rattle.std.specs.Ordering.{is_eq, nat_cmp}
use Rattle.values.specs.declared.name.RowName.{RowName}
use Rattle.catalogue.specs.Shapes.{TableShape, partitions}
use Rattle.catalogue.specs.Places.{partition_of, partition_numbered}
use Rattle.proclang_types.specs.declared.right.Right.{Right}
use Rattle.proclang_types.specs.declared.right.Right.TheVariants.{Read, Write}
use Rattle.footprint.specs.declared.resource.Resource.{Resource}
use Rattle.footprint.specs.declared.resource.Resource.TheVariants.{Db, Table}
use Rattle.footprint.specs.declared.resource.InTable.TheVariants.{WholeTable, Part}
use Rattle.footprint.specs.declared.resource.InPart.TheVariants.{WholePart, Row}
use Rattle.footprint.specs.Tree.{row_resource}
use Rattle.footprint.specs.OfCatalogue.{IsResourceOf}
use Rattle.modes.specs.Rights.{rank_of}
use Rattle.modes.specs.Modes.{own}
use Rattle.coarsen.specs.Subtrees.{Requests, holds, own_over, covers_by_requests}
use Rattle.workspace.specs.Scan.{is_in_part}
use Rattle.coarsen.specs.Plans.{IsPlanOver}
use Rattle.coarsen.specs.Clashes.{locks_row}
use Rattle.std.proofs.lemmas.Option.{slice_get_cases}
use Rattle.std.proofs.lemmas.List.Elements.{Contains-append_left, Contains-append_right, Contains-push}
use Rattle.row_store.proofs.Shelved.{same_number, eq_table, both_eq, and_false, and_true, or_false, under_table, no_row}
use Rattle.shelves.specs.Places.{is_same_name}
use Rattle.shelves.specs.Shelving.{shelf_of, shelf_at, shelf_in, shelf_numbered}
use Rattle.row_store.specs.Locked.{gives, name_of, is_of, locks_shelf, locks_itself}
use Rattle.shelves.proofs.Booleans.{itself, second}

le_max : (n a b : ℕ) → nat_le n (max a b) ≡ (nat_le n a || nat_le n b)
le_max n a b = grind (arith, nat_tests)

at_least : (right : Right) (b : Bool) (n : ℕ) → nat_le (rank_of right) (if b then n else 0) ≡ (nat_le (rank_of right) n && b)
at_least right true n = sym (and_true (nat_le (rank_of right) n))
at_least Read false n = sym (and_false (nat_le 1 n))
at_least Write false n = sym (and_false (nat_le 2 n))

none_least : (right : Right) → nat_le (rank_of right) 0 ≡ false
none_least Read = refl
none_least Write = refl

-- what is covered is so by one of the requests
covers_any : (requests : Requests) (right : Right) (r : Resource) → nat_le (rank_of right) (own_over requests r) ≡ list_any (λ e. gives right e.1 && holds e.0 r) requests
covers_any [] right r = none_least right
covers_any (e ∷ es) right r =
    le_max (rank_of right) (if holds e.0 r then own e.1 else 0) (own_over es r)
    ∙ ap (λ b. b || nat_le (rank_of right) (own_over es r)) (at_least right (holds e.0 r) (own e.1))
    ∙ ap (λ b. (gives right e.1 && holds e.0 r) || b) (covers_any es right r)

test_true : (b : Bool) → ((b ≡ true) → ⊥) → b ≡ false
test_true true h = absurd (h refl)
test_true false h = refl

not_both : (a b : Bool) → (a ≡ true → b ≡ true → ⊥) → a && (b && true) ≡ a && false
not_both true true h = absurd (h refl refl)
not_both true false h = refl
not_both false b h = refl

not_one : (a b : Bool) → (a ≡ true → ⊥) → a && b ≡ false
not_one true b h = absurd (h refl)
not_one false b h = refl

third : (a b c : Bool) → (a ≡ true → c ≡ true → b ≡ true) → a && (b && c) ≡ a && c
third true true c h = refl
third true false true h = h refl refl
third true false false h = refl
third false b c h = refl

no_table : (tables : List TableShape) (t u : ℕ) → t < length tables → slice_get tables u ≡ None → (t == u) ≡ true → ⊥
no_table tables t u l none e =
    let past : slice_get tables t ≡ None = ap (slice_get tables) (same_number t u e) ∙ none in
    elim (slice_get_cases tables t).1 [
      | inl x ↦ let clash : None ≡ Some x.0 = sym past ∙ x.2 in cc
      | inr x ↦ omega (arith, x.0, l)
    ]

no_part : (o : Option TableShape) (p : ℕ) → option_map (λ (s : TableShape). nat_lt p (partitions s.split)) o ≡ Some true → o ≡ None → ⊥
no_part None p e f = cc
no_part (Some s) p e f = cc

part_below : (o : Option TableShape) (s : TableShape) (p : ℕ) → option_map (λ (s : TableShape). nat_lt p (partitions s.split)) o ≡ Some true → o ≡ Some s → nat_lt p (partitions s.split) ≡ true
part_below o s p e f =
    let g : option_map (λ (s : TableShape). nat_lt p (partitions s.split)) (Some s) ≡ Some true = ap (option_map (λ (s : TableShape). nat_lt p (partitions s.split))) (sym f) ∙ e in
    cc

true_false : (b : Bool) → b ≡ true → b ≡ false → ⊥
true_false b e f = let g : true ≡ false = sym e ∙ f in cc

-- over a row name is what is the name itself, or is over its shelf
over_row : (tables : List TableShape) (r : Resource) → IsResourceOf tables r → (q : RowName) → holds r (row_resource tables q) ≡ (is_of (name_of r) q || holds r (shelf_of tables q))
unfolding shelf_of shelf_at
over_row tables Db of q = refl
over_row tables (Table t WholeTable) of q =
    let part : ℕ = unwrap_or (partition_of tables q.table q.key) 0 in
    elim (slice_get tables q.table) as (λ (s : Option TableShape). slice_get tables q.table ≡ s → ((t == q.table) && true) ≡ holds (Table t WholeTable) (shelf_in tables q.table part s)) [
      | None ↦ λ is. not_one (t == q.table) true (no_table tables t q.table of is)
      | Some s ↦ λ is. and_true (t == q.table) ∙ sym (under_table t q.table (partition_numbered tables q.table (pos part)))
    ] refl
over_row tables (Table t (Part p WholePart)) of q =
    let part : ℕ = unwrap_or (partition_of tables q.table q.key) 0 in
    elim (slice_get tables q.table) as (λ (s : Option TableShape). slice_get tables q.table ≡ s → ((t == q.table) && ((p == part) && true)) ≡ holds (Table t (Part p WholePart)) (shelf_in tables q.table part s)) [
      | None ↦ λ is. not_one (t == q.table) ((p == part) && true) (λ e. no_part (slice_get tables t) p of (ap (slice_get tables) (same_number t q.table e) ∙ is))
      | Some s ↦ λ is.
          elim (nat_lt part (partitions s.split)) as (λ (b : Bool). nat_lt part (partitions s.split) ≡ b → ((t == q.table) && ((p == part) && true)) ≡ holds (Table t (Part p WholePart)) (shelf_numbered q.table (if b then Some part else None))) [
            | true ↦ λ on. refl
            | false ↦ λ on. not_both (t == q.table) (p == part) (λ e f.
                true_false (nat_lt p (partitions s.split))
                (part_below (slice_get tables t) s p of (ap (slice_get tables) (same_number t q.table e) ∙ is))
                (ap (λ n. nat_lt n (partitions s.split)) (same_number p part f) ∙ on))
          ] refl
          ∙ ap (λ o. holds (Table t (Part p WholePart)) (shelf_numbered q.table (option_and_then (λ (x : TableShape). if nat_lt part (partitions x.split) then Some part else None) o))) (sym is)
    ] refl
over_row tables (Table t (Part p (Row k))) of q =
    let part : ℕ = unwrap_or (partition_of tables q.table q.key) 0 in
    let fits : nat_lt k (2 ^ 63) ≡ true = let l : k < 2 ^ 63 = of.0 in grind (arith, nat_tests) in
    third (t == q.table) (p == part) (k == q.key) (λ e f.
    let at : partition_of tables q.table q.key ≡ Some p = ap (λ n. partition_of tables n q.key) (sym (same_number t q.table e)) ∙ ap (partition_of tables t) (sym (same_number k q.key f)) ∙ of.1 in
    ap (λ (o : Option ℕ). p == unwrap_or o 0) at ∙ itself p)
    ∙ sym (ap (λ b. b && (k == q.key)) (eq_table t q.table) ∙ refl)
    ∙ ap (λ b. is_eq (nat_cmp t q.table) && b) (sym (eq_table k q.key))
    ∙ sym (both_eq (nat_cmp t q.table) (nat_cmp k q.key))
    ∙ sym (or_false (is_same_name (record { table = t; key = k }) q))
    ∙ ap (λ b. is_same_name (record { table = t; key = k }) q || b) (sym (no_row tables q t p k))
    ∙ ap (λ b. is_of (if b then Some (record { table = t; key = k }) else None) q || holds (Table t (Part p (Row k))) (shelf_of tables q)) (sym fits)

or_and : (g a b : Bool) → g && (a || b) ≡ (g && a) || (g && b)
or_and true a b = refl
or_and false a b = refl

or_swap : (a b c d : Bool) → (a || b) || (c || d) ≡ (a || c) || (b || d)
or_swap true b c d = refl
or_swap false true true d = refl
or_swap false true false d = refl
or_swap false false c d = refl

each : (tables : List TableShape) (requests : Requests) → IsPlanOver tables requests → (right : Right) (q : RowName)
    → list_any (λ e. gives right e.1 && holds e.0 (row_resource tables q)) requests ≡ (locks_itself requests right q || locks_shelf requests right (shelf_of tables q))
each tables [] over right q = refl
each tables (e ∷ es) over right q =
    let r : Resource = row_resource tables q in
    let d : Resource = shelf_of tables q in
    let g : Bool = gives right e.1 in
    ap (λ b. (g && b) || list_any (λ e. gives right e.1 && holds e.0 r) es) (over_row tables e.0 (over e (Contains-append_left (e ∷ []) es e (Contains-push [] e))) q)
    ∙ ap (λ b. b || list_any (λ e. gives right e.1 && holds e.0 r) es) (or_and g (is_of (name_of e.0) q) (holds e.0 d))
    ∙ ap (λ b. ((g && is_of (name_of e.0) q) || (g && holds e.0 d)) || b) (each tables es (λ x h. over x (Contains-append_right (e ∷ []) es x h)) right q)
    ∙ or_swap (g && is_of (name_of e.0) q) (g && holds e.0 d) (locks_itself es right q) (locks_shelf es right d)

pub locks_either : (tables : List TableShape) (requests : Requests) → IsPlanOver tables requests → (right : Right) (q : RowName)
    → locks_row tables requests q right ≡ (locks_itself requests right q || locks_shelf requests right (shelf_of tables q))
locks_either tables requests over right q = covers_any requests right (row_resource tables q) ∙ each tables requests over right q

pub first : (a b : Bool) → a && b ≡ true → a ≡ true
first true b h = refl
first false b h = h

-- what locks a partition locks the row names in it
under_part : (r : Resource) (t p k : ℕ) → holds r (Table t (Part p WholePart)) ≡ true → holds r (Table t (Part p (Row k))) ≡ true
under_part Db t p k h = refl
under_part (Table u WholeTable) t p k h = h
under_part (Table u (Part r WholePart)) t p k h = h
under_part (Table u (Part r (Row l))) t p k h =
    let none : (u == t) && ((r == p) && false) ≡ false = ap (λ b. (u == t) && b) (and_false (r == p)) ∙ and_false (u == t) in
    absurd (true_false ((u == t) && ((r == p) && false)) h none)

and_then : (g a b : Bool) → (a ≡ true → b ≡ true) → g && a ≡ true → g && b ≡ true
and_then true a b f h = f h
and_then false a b f h = absurd (cc)

or_then : (a b c d : Bool) → (a ≡ true → b ≡ true) → (c ≡ true → d ≡ true) → a || c ≡ true → b || d ≡ true
or_then true b c d f g h = ap (λ x. x || d) (f refl)
or_then false true c d f g h = refl
or_then false false c d f g h = g h

any_under : (requests : Requests) (right : Right) (t p k : ℕ) → list_any (λ e. gives right e.1 && holds e.0 (Table t (Part p WholePart))) requests ≡ true
    → list_any (λ e. gives right e.1 && holds e.0 (Table t (Part p (Row k)))) requests ≡ true
any_under [] right t p k h = h
any_under (e ∷ es) right t p k h =
    or_then (gives right e.1 && holds e.0 (Table t (Part p WholePart))) (gives right e.1 && holds e.0 (Table t (Part p (Row k))))
    (list_any (λ e. gives right e.1 && holds e.0 (Table t (Part p WholePart))) es) (list_any (λ e. gives right e.1 && holds e.0 (Table t (Part p (Row k)))) es)
    (and_then (gives right e.1) (holds e.0 (Table t (Part p WholePart))) (holds e.0 (Table t (Part p (Row k)))) (under_part e.0 t p k)) (any_under es right t p k) h

pub covers_under : (requests : Requests) (right : Right) (t p k : ℕ) → covers_by_requests requests (Table t (Part p WholePart)) right ≡ true
    → covers_by_requests requests (Table t (Part p (Row k))) right ≡ true
covers_under requests right t p k h =
    covers_any requests right (Table t (Part p (Row k))) ∙ any_under requests right t p k (sym (covers_any requests right (Table t (Part p WholePart))) ∙ h)

-- a plan that covers a partition locks each name in it
pub part_locked : (tables : List TableShape) (requests : Requests) (right : Right) (t p : ℕ) → covers_by_requests requests (Table t (Part p WholePart)) right ≡ true
    → (q : RowName) → is_in_part tables t p q ≡ true → locks_row tables requests q right ≡ true
part_locked tables requests right t p h q a =
    let table : q.table ≡ t = same_number q.table t (first (q.table == t) (unwrap_or (partition_of tables t q.key) 0 == p) a) in
    let part : unwrap_or (partition_of tables t q.key) 0 ≡ p = same_number (unwrap_or (partition_of tables t q.key) 0) p (second (q.table == t) (unwrap_or (partition_of tables t q.key) 0 == p) a) in
    ap (λ n. covers_by_requests requests (Table n (Part (unwrap_or (partition_of tables n q.key) 0) (Row q.key))) right) table
    ∙ ap (λ n. covers_by_requests requests (Table t (Part n (Row q.key))) right) part
    ∙ covers_under requests right t p q.key h
