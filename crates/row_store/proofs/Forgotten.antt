-- What is kept of partitions, after some of it is forgotten and rows are written.
use Rattle.std.proofs.Common.{◌≡◌, ◌<◌, ◌&&◌, ◌||◌, ◌==◌, ℕ, Bool, true, false, cond, if◌then◌else◌, List, [], ◌∷◌, Option, Some, None, option_map, option_and_then, unwrap_or, slice_get, refl, sym, ap, subst, ◌∙◌, inl, inr, arith}
use Rattle.std.specs.Prelude.{nat_lt, IfSome, String}
use Rattle.std.proofs.lemmas.Bool.Decides.{nat_tests}
use Rattle.std.specs.declared.alloc.Global.{Global}
use Rattle.std.specs.BTreeMap.{BTreeMap, is_at}
use Rattle.std.specs.BTreeMap as tree
use Rattle.std.specs.FinMap.{get}
use Rattle.std.specs.Map.{lookup}
use Rattle.std.specs.declared.snapshot.Snapshot.{Snapshot}
use Rattle.values.specs.declared.name.RowName.{RowName}
use Rattle.values.specs.Database.{Database, RowOf, name_cmp}
use Rattle.catalogue.specs.Places.{partition_of}
use Rattle.catalogue.specs.Shapes.{TableShape, partitions}
use Rattle.footprint.specs.declared.resource.Resource.{Resource}
use Rattle.footprint.specs.declared.resource.Resource.TheVariants.{Table}
use Rattle.footprint.specs.declared.resource.InTable.TheVariants.{Part}
use Rattle.footprint.specs.declared.resource.InPart.TheVariants.{WholePart}
use Rattle.proclang_types.specs.declared.right.Right.TheVariants.{Write}
use Rattle.coarsen.specs.Subtrees.{Requests}
use Rattle.coarsen.specs.Clashes.{locks_row}
use Rattle.workspace.specs.Scan.{is_in_part}
use Rattle.row_text.specs.declared.kept.KeptDigests.{KeptDigests}
use Rattle.row_text.specs.Kept.{kept_at, AreKept}
use Rattle.row_text.specs.Partitions.{partition_count}
use Rattle.row_text.proofs.PartitionLines.{digest_of_its_rows}
use Rattle.shelves.specs.Places.{Shelves as AllShelves, PlaceOf, has_place, has_shelf, is_away, full, written, is_named, is_same_name, is_same_shelf, among}
use Rattle.shelves.specs.Rows.{found, rows_of}
use Rattle.shelves.specs.Shelving.{shelf_of, shelf_at, shelf_in, shelf_numbered}
use Rattle.shelves.proofs.Booleans.{cases, neither}
use Rattle.shelves.proofs.Exact.{is_shelf_itself, same_name}
use Rattle.shelves.proofs.Rows.{get-rows_of, same_rows}
use Rattle.row_store.specs.declared.held.Holdings.{Holdings}
use Rattle.row_store.specs.declared.held.Holdings.TheVariants.{Rows, Shelves}
use Rattle.shelves.specs.declared.named.NamedRow.{NamedRow}
use Rattle.row_store.specs.Forgetting.{gives_on, has_listed, has_name, has_write, AreForgotten}
use Rattle.row_store.specs.Held.{row_by_name, IsLoanOf}
use Rattle.row_store.specs.Kept.{IsDigestKept}
use Rattle.shelves.specs.Named.{names_listed}
use Rattle.row_store.proofs.Back.{loan_locks}
use Rattle.row_store.proofs.ByName.{gives_rows}
use Rattle.row_store.proofs.Incoming.{gives_shelves}
use Rattle.row_store.proofs.Shelved.{same_number}
use Rattle.row_store.specs.Views.{IsRowStore}

-- ---- the shelf of a partition

both : (a b : Bool) → a && b ≡ true → (a ≡ true) × (b ≡ true)
both true b e = (refl, e)
both false b e = absurd (cc)

numbered : (n count : ℕ) → n < count → (if nat_lt n count then Some n else None) ≡ Some n
numbered n count l = let is : nat_lt n count ≡ true = grind (arith, nat_tests) in ap (λ b. if b then Some n else None) is

at_part : (tables : List TableShape) (t p : ℕ) → p < partition_count tables t → shelf_at tables t p ≡ Table t (Part p WholePart)
unfolding shelf_at
at_part tables t p few = elim (slice_get tables t) as (λ (o : Option TableShape). slice_get tables t ≡ o → p < unwrap_or (option_map (λ (t : TableShape). partitions t.split) o) 0 → shelf_in tables t p o ≡ Table t (Part p WholePart)) [
  | None ↦ λ is l. absurd (omega (arith, l))
  | Some s ↦ λ is l.
      ap (shelf_numbered t) (ap (option_and_then (λ (x : TableShape). if nat_lt p (partitions x.split) then Some p else None)) is ∙ numbered p (partitions s.split) l)
] refl few

-- the names of a partition have their places on its shelf
pub shelf_in_part : (tables : List TableShape) (t p : ℕ) (q : RowName) → p < partition_count tables t → is_in_part tables t p q ≡ true → shelf_of tables q ≡ Table t (Part p WholePart)
unfolding shelf_of
shelf_in_part tables t p q few h =
    let is = both (q.table == t) (unwrap_or (partition_of tables t q.key) 0 == p) h in
    let table : q.table ≡ t = same_number q.table t is.0 in
    let part : unwrap_or (partition_of tables t q.key) 0 ≡ p = same_number _ p is.1 in
    ap (λ (u : ℕ). shelf_at tables u (unwrap_or (partition_of tables u q.key) 0)) table ∙ ap (shelf_at tables t) part ∙ at_part tables t p few

-- ---- forgotten

was_kept : (b : Bool) (o : Option (List ℕ)) (d : List ℕ) → (if b then None else o) ≡ Some d → (b ≡ false) × (o ≡ Some d)
was_kept true o d h = absurd (cc)
was_kept false o d h = (refl, h)

-- what is still kept is right, where rows are as they were but on shelves whose digests are forgotten
pub still_kept : (tables : List TableShape) (old new : Database) (before after : KeptDigests) (test : Resource → Bool)
    → AreForgotten test before after → ((q : RowName) → test (shelf_of tables q) ≡ false → get new q ≡ get old q)
    → AreKept tables old before → AreKept tables new after
still_kept tables old new before after test gone rows kept = record {
  within = λ t p d h.
      let was = was_kept (test (Table t (Part p WholePart))) (kept_at before t p) d (sym (gone (Table t (Part p WholePart))) ∙ h) in
      kept.within t p d was.1;
  digests = λ t p d h.
      let was = was_kept (test (Table t (Part p WholePart))) (kept_at before t p) d (sym (gone (Table t (Part p WholePart))) ∙ h) in
      digest_of_its_rows tables t p new old (record { same = λ q inside. rows q (ap test (shelf_in_part tables t p q (kept.within t p d was.1) inside) ∙ was.0) })
      ∙ kept.digests t p d was.1;
}

-- what is kept stays right where the same rows count
pub kept_here : (tables : List TableShape) (old new : AllShelves) (kept : KeptDigests) → ((q : RowName) → (found tables new q).counts_as ≡ (found tables old q).counts_as)
    → AreKept tables (rows_of tables old) kept → AreKept tables (rows_of tables new) kept
kept_here tables old new kept same was = subst (λ (db : Database). AreKept tables db kept) (sym (same_rows tables old new same)) was

-- the digest of the row text that is kept where there are no writes is still right
pub digest_still_kept : (tables : List TableShape) (writes : List (RowName × Option RowOf)) (old new : Database) (before after : Option (String Global))
    → IfSome after (λ t. (before ≡ Some t) × (writes ≡ [])) → (writes ≡ [] → new ≡ old)
    → IsDigestKept tables old before → IsDigestKept tables new after
digest_still_kept tables writes old new before None same rows kept = tt
digest_still_kept tables writes old new before (Some t) same rows kept =
    subst (λ (db : Database). IsDigestKept tables db (Some t)) (sym (rows same.1)) (subst (λ (o : Option (String Global)). IsDigestKept tables old o) same.0 kept)

-- ---- one shelf after another

pub one_more : (b x : Bool) (o : Option (List ℕ)) → (if x then None else (if b then None else o)) ≡ (if b || x then None else o)
one_more true true o = refl
one_more true false o = refl
one_more false true o = refl
one_more false false o = refl

pub write_step : (x h : Bool) (o : Option (List ℕ)) → (if h then None else (if x then None else o)) ≡ (if x || h then None else o)
write_step true true o = refl
write_step true false o = refl
write_step false true o = refl
write_step false false o = refl

pub two_steps : (a b : Bool) (o : Option (List ℕ)) → (if a then None else (if b then None else o)) ≡ (if a || b then None else o)
two_steps true b o = refl
two_steps false b o = refl

pub nothing_left : (b : Bool) (o : Option (List ℕ)) → o ≡ None → o ≡ (if b then None else o)
nothing_left true o h = h
nothing_left false o h = refl

-- ---- what is written

own_shelf : (tables : List TableShape) (n q : RowName) → is_same_shelf (shelf_of tables n) (shelf_of tables q) ≡ false → is_same_name n q ≡ false
own_shelf tables n q off = elim (cases (is_same_name n q)) [
  | inl on ↦
      let clash : true ≡ false = sym (is_shelf_itself (shelf_of tables n)) ∙ ap (λ (x : RowName). is_same_shelf (shelf_of tables n) (shelf_of tables x)) (same_name n q on) ∙ off in
      absurd (cc)
  | inr apart ↦ apart
]

or_false : (a b : Bool) → a ≡ false → b ≡ false → a || b ≡ false
or_false true b h k = absurd (cc)
or_false false b h k = k

not_named : (tables : List TableShape) (ns : List RowName) (q : RowName) → has_name tables ns (shelf_of tables q) ≡ false → is_named ns q ≡ false
not_named tables [] q h = refl
not_named tables (n ∷ ns) q h =
    let off = neither (is_same_shelf (shelf_of tables n) (shelf_of tables q)) (has_name tables ns (shelf_of tables q)) h in
    or_false (is_same_name n q) (is_named ns q) (own_shelf tables n q off.0) (not_named tables ns q off.1)

not_listed : (tables : List TableShape) (rows : List NamedRow) (q : RowName) → has_listed tables rows (shelf_of tables q) ≡ false → is_named (names_listed rows) q ≡ false
not_listed tables [] q h = refl
not_listed tables (e ∷ es) q h =
    let off = neither (is_same_shelf (shelf_of tables e.name) (shelf_of tables q)) (has_listed tables es (shelf_of tables q)) h in
    or_false (is_same_name e.name q) (is_named (names_listed es) q) (own_shelf tables e.name q off.0) (not_listed tables es q off.1)

-- a loan gives no row back at a name on another shelf
pub not_given : (tables : List TableShape) (plan : Requests) (held : Holdings) → IsLoanOf tables plan held → (q : RowName)
    → gives_on tables held (shelf_of tables q) ≡ false → locks_row tables plan q Write ≡ false
not_given tables plan (Rows held) loan q off =
    loan_locks tables plan (λ q. full (row_by_name held q)) [] (names_listed held.written.items) (gives_rows tables plan held loan) q
    ∙ not_listed tables held.written.items q off
not_given tables plan (Shelves held) loan q off =
    let apart = neither (has_name tables held.written_names.items (shelf_of tables q)) (among held.written_shelves.items (shelf_of tables q)) off in
    loan_locks tables plan (found tables held.shelves) held.written_shelves.items held.written_names.items (gives_shelves tables plan held loan) q
    ∙ or_false (among held.written_shelves.items (shelf_of tables q)) (is_named held.written_names.items q) apart.1 (not_named tables held.written_names.items q apart.0)

turned : (n q : RowName) → is_same_name n q ≡ false → is_same_name q n ≡ false
turned n q off = elim (cases (is_same_name q n)) [
  | inl on ↦ let clash : true ≡ false = sym on ∙ ap (is_same_name q) (sym (same_name q n on)) ∙ ap (λ (x : RowName). is_same_name x q) (same_name q n on) ∙ off in absurd (cc)
  | inr apart ↦ apart
]

-- no write is of a name on another shelf
pub not_written : (tables : List TableShape) (es : List (RowName × Option RowOf)) (q : RowName) → has_write tables es (shelf_of tables q) ≡ false → lookup (is_at (name_cmp q)) es ≡ None
not_written tables [] q h = refl
not_written tables (e ∷ es) q h =
    let off = neither (is_same_shelf (shelf_of tables e.0) (shelf_of tables q)) (has_write tables es (shelf_of tables q)) h in
    ap (λ b. cond b (Some e.1) (lookup (is_at (name_cmp q)) es)) (turned e.0 q (own_shelf tables e.0 q off.0)) ∙ not_written tables es q off.1

-- writes leave the rows at names on other shelves
pub not_changed : (tables : List TableShape) (old new : AllShelves) (writes : BTreeMap RowName (Option RowOf))
    → ((q : RowName) → found tables new q ≡ written (tree.get name_cmp writes q) (found tables old q)) → (q : RowName)
    → has_write tables writes.entries (shelf_of tables q) ≡ false → get (rows_of tables new) q ≡ get (rows_of tables old) q
not_changed tables old new writes seen q off =
    get-rows_of tables new q ∙ ap (λ (p : PlaceOf). p.counts_as) (seen q ∙ ap (λ w. written w (found tables old q)) (not_written tables writes.entries q off))
    ∙ sym (get-rows_of tables old q)

-- ---- a store after writes

pub written_here : (w : Option (Option RowOf)) (p : PlaceOf) → p.row ≡ p.counts_as → (written w p).row ≡ (written w p).counts_as
written_here None p h = h
written_here (Some r) p h = refl

pub store_over : (tables : List TableShape) (old new : AllShelves) (lent : BTreeMap ℕ (Snapshot Requests))
    → ((q : RowName) → (found tables old q).row ≡ (found tables old q).counts_as → (found tables new q).row ≡ (found tables new q).counts_as)
    → ((d : Resource) (q : RowName) → has_place old d q ≡ true → has_place new d q ≡ true) → ((d : Resource) → has_shelf old d ≡ true → has_shelf new d ≡ true)
    → ((d : Resource) → is_away new d ≡ is_away old d) → IsRowStore tables old lent → IsRowStore tables new lent
store_over tables old new lent here places shelves away kept = record {
  here = λ q h. here q (kept.here q h);
  with_shelf = λ i p e q h. shelves (shelf_of tables q) (kept.with_shelf i p e q h);
  with_place = λ i p e q off h. places (shelf_of tables q) q (kept.with_place i p e q off h);
  away = λ q h. kept.away q (sym (away (shelf_of tables q)) ∙ h);
  sound = kept.sound;
  over = kept.over;
  apart = kept.apart;
}
