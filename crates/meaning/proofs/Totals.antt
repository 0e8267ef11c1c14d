-- Totals of a column over rows of its table.
use Rattle.std.proofs.Common.{◌≡◌, ℕ, ℤ, ◌+ℤ◌, Bool, true, false, cond, ◌&&◌, T, List, [], ◌∷◌, refl, sym, ap, ◌∙◌, subst, Option, Some, None, Ordering, Less, Equal, Greater}
use Rattle.std.specs.Prelude.{slice_get}
use Rattle.std.specs.FinMap.{get, entries, entries_sorted, get-entries, find, is_sorted}
use Rattle.std.specs.FinMap.Entries.{below_all}
use Rattle.std.specs.Ordering.{eq_by_cmp, is_eq, is_lt}
use Rattle.std.specs.Cmp.{tied_itself}
use Rattle.values.specs.declared.name.RowName.{RowName}
use Rattle.values.specs.declared.value.ColType.TheVariants as types
use Rattle.catalogue.specs.Shapes.{TableShape}
use Rattle.values.specs.Database.{Database, RowOf, name_cmp}
use Rattle.proclang_types.specs.Typing.{column_kind}
use Rattle.footprint.specs.Declaration.{number_or}
use Rattle.meaning.specs.Fitting.{IsRowOf, HasTypes}
use Rattle.meaning.specs.Partitions.{is_in_part, part_rows, total}
use Rattle.meaning.proofs.Names.{names_total, exact_names}
use Rattle.meaning.proofs.Frame.{is_equal}
use Rattle.meaning.proofs.Partitions.{get_part, in_table}
use Rattle.meaning.proofs.Typed.{same_number, column_in_place}

one : (a b : Bool) → T (a && b) → T a
one true b h = tt
one false b h = h

other : (a b : Bool) → T (a && b) → T b
other true b h = h
other false b h = absurd h

not_tied : (o : Ordering) → T (is_lt o) → is_eq o ≡ false
not_tied Less h = refl
not_tied Equal h = absurd h
not_tied Greater h = absurd h

-- there is no entry of a key that is below all keys
none_below : (q : RowName) (es : List (RowName × RowOf)) → T (below_all name_cmp q es) → find name_cmp q es ≡ None
none_below q [] h = refl
none_below q (e ∷ es) h =
    ap (λ b. cond b (Some e.1) (find name_cmp q es)) (not_tied (name_cmp q e.0) (one (is_lt (name_cmp q e.0)) (below_all name_cmp q es) h))
    ∙ none_below q es (other (is_lt (name_cmp q e.0)) (below_all name_cmp q es) h)

-- what holds of each row that is found holds of each row of the list
found_later : (P : RowName → RowOf → Type 0) (e : RowName × RowOf) (es : List (RowName × RowOf)) → T (below_all name_cmp e.0 es)
    → ((q : RowName) (row : RowOf) → find name_cmp q (e ∷ es) ≡ Some row → P q row) → (q : RowName) (row : RowOf) → find name_cmp q es ≡ Some row → P q row
found_later P e es below h q row there = elim (eq_by_cmp name_cmp q e.0) as (λ b. eq_by_cmp name_cmp q e.0 ≡ b → P q row) [
  | true ↦ λ is.
      let same : q ≡ e.0 = exact_names q e.0 (is_equal (name_cmp q e.0) is) in
      let clash : Some row ≡ None = sym there ∙ ap (λ (n : RowName). find name_cmp n es) same ∙ none_below e.0 es below in
      absurd (cc)
  | false ↦ λ is. h q row (ap (λ b. cond b (Some e.1) (find name_cmp q es)) is ∙ there)
] refl

totals : (column : ℕ) (x y : ℤ) (es : List (RowName × RowOf)) → T (is_sorted name_cmp es)
    → ((q : RowName) (row : RowOf) → find name_cmp q es ≡ Some row → number_or y (slice_get row column) ≡ number_or x (slice_get row column))
    → total y column es ≡ total x column es
totals column x y [] sorted h = refl
totals column x y (e ∷ es) sorted h =
    let first : number_or y (slice_get e.1 column) ≡ number_or x (slice_get e.1 column) = h e.0 e.1 (ap (λ o. cond (is_eq o) (Some e.1) (find name_cmp e.0 es)) (tied_itself names_total e.0)) in
    let rest : total y column es ≡ total x column es = totals column x y es (other (below_all name_cmp e.0 es) (is_sorted name_cmp es) sorted)
    (found_later (λ q row. number_or y (slice_get row column) ≡ number_or x (slice_get row column)) e es (one (below_all name_cmp e.0 es) (is_sorted name_cmp es) sorted) h) in
    ap (λ (z : ℤ). z +ℤ total y column es) first ∙ ap (λ (z : ℤ). number_or x (slice_get e.1 column) +ℤ z) rest

kept_there : (b : Bool) (o : Option RowOf) (row : RowOf) → cond b o None ≡ Some row → (b ≡ true) × (o ≡ Some row)
kept_there true o row e = (refl, e)
kept_there false o row e = absurd (cc)

-- in rows of their tables each value of an int column is a number
pub same_total : (tables : List TableShape) (table part column : ℕ) (db : Database) (x y : ℤ) → HasTypes tables db → column_kind tables table column ≡ Some types.Int
    → total y column (entries (part_rows tables table part db)) ≡ total x column (entries (part_rows tables table part db))
same_total tables table part column db x y typed is = totals column x y (entries (part_rows tables table part db)) (entries_sorted (part_rows tables table part db)) (λ q row there.
    let found = kept_there (is_in_part tables table part q) (get db q) row (sym (get_part tables table part db q) ∙ get-entries (part_rows tables table part db) q ∙ there) in
    let its : IsRowOf tables table row = subst (λ (n : _). IsRowOf tables n row) (in_table tables table part q found.0) (typed q row found.1) in
    same_number (slice_get row column) x y (column_in_place tables table row column types.Int its is))
