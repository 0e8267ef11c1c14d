-- Rows that are lent by their names.
use Rattle.std.proofs.Common.{◌≡◌, inl, inr, Bool, true, false, not, ◌||◌, ◌&&◌, if◌then◌else◌, List, [], ◌∷◌, ◌++◌, refl, sym, ap, subst, ◌∙◌, Option, Some, None, is_some}
use Rattle.std.specs.Option.{option_or}
use Rattle.std.specs.BTreeMap.{BTreeMap}
use Rattle.std.specs.BTreeMap as tree
use Rattle.std.specs.FinMap.{get}
use Rattle.values.specs.declared.name.RowName.{RowName}
use Rattle.values.specs.Database.{RowOf, name_cmp}
use Rattle.catalogue.specs.Shapes.{TableShape}
use Rattle.proclang_types.specs.declared.right.Right.TheVariants.{Read, Write}
use Rattle.coarsen.specs.Subtrees.{Requests}
use Rattle.coarsen.specs.Plans.{IsPlanOver}
use Rattle.coarsen.specs.Clashes.{locks_row}
use Rattle.workspace.specs.Overlay.{applied}
use Rattle.row_store.specs.declared.held.HeldRows.{HeldRows}
use Rattle.shelves.specs.Places.{Shelves, PlaceOf, full, written, is_named}
use Rattle.shelves.specs.Shelving.{shelf_of}
use Rattle.row_store.specs.Locked.{gives, name_of, is_of, locks_shelf, locks_itself}
use Rattle.row_store.specs.Named.{row_in, reads_itself, AreDistinct}
use Rattle.shelves.specs.Named.{listed, is_listed, names_listed}
use Rattle.row_store.specs.Held.{row_by_name, rows_by_name, IsLoanByName, AreRowsReady, AreRowsBack}
use Rattle.shelves.specs.Rows.{found}
use Rattle.row_store.proofs.Lists.{none_listed, some_test}
use Rattle.shelves.proofs.Lists.{listed_names}
use Rattle.row_store.proofs.Locks.{locks_either}
use Rattle.shelves.proofs.Rows.{get-rows_at, get-applied, named_append, same_database}
use Rattle.shelves.proofs.Booleans.{cases, neither}
use Rattle.row_store.proofs.Kept.{none_written}
use Rattle.row_store.proofs.Back.{IsBack, Gives}

read_step : (r w x l m n : Bool) → (r && x) || l ≡ true → (w && x) || m ≡ false → (l ≡ true → m ≡ false → n ≡ true) → ((r && not w) && x) || n ≡ true
read_step false false x l m n h f ih = ih h f
read_step false true true l m n h f ih = absurd (cc)
read_step false true false l m n h f ih = ih h f
read_step true false true l m n h f ih = refl
read_step true true true l m n h f ih = absurd (cc)
read_step true false false l m n h f ih = ih h f
read_step true true false l m n h f ih = ih h f

-- a name that is locked by itself to read, and not to write, is locked to read alone
pub reads_alone : (plan : Requests) (q : RowName) → locks_itself plan Read q ≡ true → locks_itself plan Write q ≡ false → reads_itself plan q ≡ true
reads_alone [] q h f = absurd (cc)
reads_alone (e ∷ es) q h f =
    read_step (gives Read e.1) (gives Write e.1) (is_of (name_of e.0) q) (locks_itself es Read q) (locks_itself es Write q) (reads_itself es q) h f (reads_alone es q)

or_none : (a b : Bool) → b ≡ false → a || b ≡ a
or_none true b h = refl
or_none false b h = h

-- what a plan locks that locks no shelf whole are names by themselves
pub locked_alone : (tables : List TableShape) (plan : Requests) → IsPlanOver tables plan → (q : RowName) → locks_shelf plan Read (shelf_of tables q) ≡ false
    → locks_row tables plan q Read ≡ locks_itself plan Read q
locked_alone tables plan over q off = locks_either tables plan over Read q ∙ or_none (locks_itself plan Read q) (locks_shelf plan Read (shelf_of tables q)) off

pub written_alone : (tables : List TableShape) (plan : Requests) → IsPlanOver tables plan → (q : RowName) → locks_shelf plan Read (shelf_of tables q) ≡ false
    → locks_row tables plan q Write ≡ locks_itself plan Write q
written_alone tables plan over q off =
    locks_either tables plan over Write q ∙ or_none (locks_itself plan Write q) (locks_shelf plan Write (shelf_of tables q)) (none_written plan (shelf_of tables q) off)

-- ---- the rows

nothing_said : (a b : Option (Option RowOf)) → a ≡ None → b ≡ None → None ≡ row_in (option_or a b)
nothing_said None None h k = refl
nothing_said None (Some x) h k = absurd (cc)
nothing_said (Some x) b h k = absurd (cc)

pub get-rows_by_name : (held : HeldRows) (q : RowName) → get (rows_by_name held) q ≡ row_by_name held q
get-rows_by_name held q =
    let ws : List RowName = names_listed held.written.items in
    let rs : List RowName = names_listed held.read.items in
    get-rows_at (row_by_name held) (ws ++ rs) q
    ∙ elim (cases (is_named (ws ++ rs) q)) [
      | inl on ↦ ap (λ b. if b then row_by_name held q else None) on
      | inr off ↦
          let both = neither (is_named ws q) (is_named rs q) (sym (named_append ws rs q) ∙ off) in
          ap (λ b. if b then row_by_name held q else None) off
          ∙ nothing_said (listed held.written.items q) (listed held.read.items q) (none_listed held.written.items q both.0) (none_listed held.read.items q both.1)
    ]

one_of : (w d : Bool) (r : Option RowOf) → (w ≡ false → d ≡ true) → row_in (option_or (if w then Some r else None) (if d then Some r else None)) ≡ r
one_of true d r h = refl
one_of false d r h = ap (λ b. row_in (if b then Some r else None)) (h refl)

pub row_ready : (tables : List TableShape) (plan : Requests) (old mid : Shelves) (held : HeldRows) → AreRowsReady tables plan old mid held
    → (q : RowName) → locks_itself plan Read q ≡ true → row_by_name held q ≡ (found tables old q).row
row_ready tables plan old mid held ready q locks =
    let r : Option RowOf = (found tables old q).row in
    ap (λ o. row_in (option_or o (listed held.read.items q))) (ready.written q)
    ∙ ap (λ o. row_in (option_or (if locks_itself plan Write q then Some r else None) o)) (ready.read q)
    ∙ one_of (locks_itself plan Write q) (reads_itself plan q) r (reads_alone plan q locks)

pub loan_ready : (tables : List TableShape) (plan : Requests) (old mid : Shelves) (held : HeldRows) → IsPlanOver tables plan → AreRowsReady tables plan old mid held
    → IsLoanByName tables plan held
loan_ready tables plan old mid held over ready = record {
  over = over;
  no_shelf = ready.no_shelf;
  no_end = ready.no_end;
  written = λ q. sym (listed_names held.written.items q) ∙ ap is_some (ready.written q) ∙ some_test (locks_itself plan Write q) (found tables old q).row;
  distinct = ready.distinct;
}

-- ---- given back

pub gives_rows : (tables : List TableShape) (plan : Requests) (held : HeldRows) → IsLoanByName tables plan held
    → Gives tables plan (λ q. full (row_by_name held q)) [] (names_listed held.written.items)
gives_rows tables plan held loan = record {
  over = loan.over;
  written_shelves = λ q. sym (none_written plan (shelf_of tables q) (loan.no_shelf q));
  written_names = loan.written;
  here = λ q. refl;
}

put_place : (n : Bool) (l : Option (Option RowOf)) (m : Option (Option RowOf)) (s : PlaceOf) → is_some l ≡ n → written l s ≡ (if n then full (row_in (option_or l m)) else s)
put_place true (Some r) m s h = refl
put_place true None m s h = absurd (cc)
put_place false (Some r) m s h = absurd (cc)
put_place false None m s h = refl

pub rows_back : (tables : List TableShape) (old new : Shelves) (held : HeldRows) → AreRowsBack tables old new held
    → IsBack tables old new (λ q. full (row_by_name held q)) [] (names_listed held.written.items)
rows_back tables old new held back = record {
  seen = λ q.
      back.seen q
      ∙ put_place (is_listed held.written.items q) (listed held.written.items q) (listed held.read.items q) (found tables old q) (listed_names held.written.items q);
  places = λ q off off_names. back.places q off_names;
  away = λ q. back.away (shelf_of tables q);
}

-- ---- writes

pub loan_rows_written : (tables : List TableShape) (plan : Requests) (old new : HeldRows) → names_listed new.written.items ≡ names_listed old.written.items
    → IsLoanByName tables plan old → IsLoanByName tables plan new
loan_rows_written tables plan old new names loan = record {
  over = loan.over;
  no_shelf = loan.no_shelf;
  no_end = loan.no_end;
  written = λ q. ap (λ ns. is_named ns q) names ∙ loan.written q;
  distinct = subst AreDistinct (sym names) loan.distinct;
}

write_over : (w l m : Option (Option RowOf)) → row_in (option_or (option_or w l) m) ≡ (written w (full (row_in (option_or l m)))).counts_as
write_over None l m = refl
write_over (Some row) l m = refl

pub named_rows_written : (old new : HeldRows) (writes : BTreeMap RowName (Option RowOf)) → new.read.items ≡ old.read.items
    → ((q : RowName) → listed new.written.items q ≡ option_or (tree.get name_cmp writes q) (listed old.written.items q))
    → rows_by_name new ≡ applied writes.entries (rows_by_name old)
named_rows_written old new writes read rows = same_database _ _ (λ q.
    get-rows_by_name new q
    ∙ ap (λ o. row_in (option_or o (listed new.read.items q))) (rows q)
    ∙ ap (λ es. row_in (option_or (option_or (tree.get name_cmp writes q) (listed old.written.items q)) (listed es q))) read
    ∙ write_over (tree.get name_cmp writes q) (listed old.written.items q) (listed old.read.items q)
    ∙ sym (get-applied writes.entries (rows_by_name old) q (full (row_by_name old q)) (get-rows_by_name old q)))
