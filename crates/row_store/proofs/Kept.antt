-- What a plan locks to write it locks to read; and what writes keep.
use Rattle.std.proofs.Common.{◌≡◌, inl, inr, ℕ, Bool, true, false, ◌||◌, ◌&&◌, nat_le, List, [], ◌∷◌, refl, sym, ap, ◌∙◌, Option, Some, None, Result, Ok, Err, OnErr, arith}
use Rattle.std.proofs.lemmas.Bool.Decides.{nat_tests}
use Rattle.std.specs.BTreeMap.{BTreeMap}
use Rattle.std.specs.declared.snapshot.Snapshot.{Snapshot}
use Rattle.values.specs.declared.name.RowName.{RowName}
use Rattle.catalogue.specs.Shapes.{TableShape}
use Rattle.values.specs.Database.{RowOf}
use Rattle.proclang_types.specs.declared.right.Right.TheVariants.{Read, Write}
use Rattle.footprint.specs.declared.resource.Resource.{Resource}
use Rattle.footprint.specs.Tree.{row_resource}
use Rattle.modes.specs.Modes.{own}
use Rattle.coarsen.specs.Subtrees.{Requests, own_over, holds}
use Rattle.coarsen.specs.Clashes.{locks_row}
use Rattle.shelves.specs.Places.{Shelves, PlaceOf, has_shelf, is_away, has_place, seen_at, written}
use Rattle.shelves.specs.Shelving.{shelf_of}
use Rattle.row_store.specs.Locked.{gives, name_of, is_of, locks_shelf, locks_itself}
use Rattle.shelves.specs.Rows.{found}
use Rattle.row_store.specs.Views.{IsRowStore, IsLoan}
use Rattle.shelves.proofs.Booleans.{or_left, or_right, cases}

-- a lock to write is a lock to read
gives_both : (n : ℕ) → nat_le 2 n ≡ true → nat_le 1 n ≡ true
gives_both n h = grind (arith, nat_tests)

pub write_reads : (tables : List TableShape) (plan : Requests) (q : RowName) → locks_row tables plan q Write ≡ true → locks_row tables plan q Read ≡ true
write_reads tables plan q h = gives_both (own_over plan (row_resource tables q)) h

weaker : (a b c : Bool) → (a ≡ true → b ≡ true) → a && c ≡ true → b && c ≡ true
weaker true b c f h = ap (λ x. x && c) (f refl) ∙ h
weaker false b c f h = absurd (cc)

or_weaker : (a b c d : Bool) → (a ≡ true → b ≡ true) → (c ≡ true → d ≡ true) → a || c ≡ true → b || d ≡ true
or_weaker true b c d f g h = or_left b d (f refl)
or_weaker false b c d f g h = or_right b d (g h)

pub shelf_reads : (plan : Requests) (d : Resource) → locks_shelf plan Write d ≡ true → locks_shelf plan Read d ≡ true
shelf_reads [] d h = absurd (cc)
shelf_reads (e ∷ es) d h =
    or_weaker (gives Write e.1 && holds e.0 d) (gives Read e.1 && holds e.0 d) (locks_shelf es Write d) (locks_shelf es Read d)
    (weaker (gives Write e.1) (gives Read e.1) (holds e.0 d) (gives_both (own e.1))) (shelf_reads es d) h

pub name_reads : (plan : Requests) (q : RowName) → locks_itself plan Write q ≡ true → locks_itself plan Read q ≡ true
name_reads [] q h = absurd (cc)
name_reads (e ∷ es) q h =
    or_weaker (gives Write e.1 && is_of (name_of e.0) q) (gives Read e.1 && is_of (name_of e.0) q) (locks_itself es Write q) (locks_itself es Read q)
    (weaker (gives Write e.1) (gives Read e.1) (is_of (name_of e.0) q) (gives_both (own e.1))) (name_reads es q) h

-- where no shelf is locked to read, none is locked to write
pub none_written : (plan : Requests) (d : Resource) → locks_shelf plan Read d ≡ false → locks_shelf plan Write d ≡ false
none_written plan d off = elim (cases (locks_shelf plan Write d)) [
  | inl on ↦ let clash : true ≡ false = sym (shelf_reads plan d on) ∙ off in absurd (cc)
  | inr no_more ↦ no_more
]

-- ---- writes

here_written : (w : Option (Option RowOf)) (p : PlaceOf) → p.row ≡ p.counts_as → (written w p).row ≡ (written w p).counts_as
here_written None p h = h
here_written (Some row) p h = refl

pub loan_written : (tables : List TableShape) (plan : Requests) (old new : Shelves) (at : List Resource) (ns : List RowName) (w : RowName → Option (Option RowOf))
    → ((q : RowName) → seen_at new (shelf_of tables q) q ≡ written (w q) (seen_at old (shelf_of tables q) q))
    → ((d : Resource) (q : RowName) → has_place old d q ≡ true → has_place new d q ≡ true)
    → ((d : Resource) → has_shelf old d ≡ true → has_shelf new d ≡ true)
    → ((d : Resource) → is_away new d ≡ is_away old d)
    → IsLoan tables plan old at ns → IsLoan tables plan new at ns
loan_written tables plan old new at ns w is places shelves away loan = record {
  over = loan.over;
  written_shelves = loan.written_shelves;
  written_names = loan.written_names;
  with_shelf = λ q h. shelves (shelf_of tables q) (loan.with_shelf q h);
  with_place = λ q off h. places (shelf_of tables q) q (loan.with_place q off h);
  whole = λ q. away (shelf_of tables q) ∙ loan.whole q;
  here = λ q. ap (λ p. p.row) (is q) ∙ here_written (w q) (found tables old q) (loan.here q) ∙ sym (ap (λ p. p.counts_as) (is q));
}

pub store_written : (tables : List TableShape) (old new : Shelves) (lent : BTreeMap ℕ (Snapshot Requests)) (w : RowName → Option (Option RowOf))
    → ((q : RowName) → seen_at new (shelf_of tables q) q ≡ written (w q) (seen_at old (shelf_of tables q) q))
    → ((d : Resource) (q : RowName) → has_place old d q ≡ true → has_place new d q ≡ true)
    → ((d : Resource) → has_shelf old d ≡ true → has_shelf new d ≡ true)
    → ((d : Resource) → is_away new d ≡ is_away old d)
    → IsRowStore tables old lent → IsRowStore tables new lent
store_written tables old new lent w is places shelves away kept = record {
  here = λ q h. ap (λ p. p.row) (is q) ∙ here_written (w q) (found tables old q) (kept.here q h) ∙ sym (ap (λ p. p.counts_as) (is q));
  with_shelf = λ i p e q h. shelves (shelf_of tables q) (kept.with_shelf i p e q h);
  with_place = λ i p e q off h. places (shelf_of tables q) q (kept.with_place i p e q off h);
  away = λ q h. kept.away q (sym (away (shelf_of tables q)) ∙ h);
  sound = kept.sound;
  over = kept.over;
  apart = kept.apart;
}

pub on_err : {A E : Type 0} (r : Result A E) (P : Type 0) → P → OnErr r P
on_err (Ok x) P p = tt
on_err (Err e) P p = p
