-- The rows of a table in order, and those of all tables.
use Rattle.std.proofs.Common.{◌≡◌, ℕ, ◌+◌, ◌&&◌, Bool, true, false, cond, List, [], ◌∷◌, ◌++◌, append_assoc, filter, nat_lt, refl, sym, ap, ◌∙◌, T, arith, Ordering, Less, Equal, Greater}
use Rattle.std.specs.Cmp.{IsTotalOrder}
use Rattle.std.specs.Ordering.{is_eq, is_lt, nat_cmp}
use Rattle.std.specs.FinMap.{entries, entries_sorted, is_sorted}
use Rattle.std.specs.FinMap.Entries.{below_all}
use Rattle.std.proofs.lemmas.Bool.Decides.{nat_tests}
use Rattle.std.proofs.lemmas.Map.Lookups.{CmpEqualImpliesEq, exact_pairs, exact_unsigned}
use Rattle.values.specs.declared.name.RowName.{RowName}
use Rattle.values.specs.contracts.name.RowNameOrd.TheImpl.Laws as laws
use Rattle.catalogue.specs.Shapes.{TableShape}
use Rattle.values.specs.Database.{Database, RowOf, name_cmp}
use Rattle.row_text.specs.Texts.{row_line, row_lines}
use Rattle.row_text.specs.Merge.{is_of_table, rows_of}

pub names_total : IsTotalOrder name_cmp
names_total = laws.lawful.total

-- names that compare alike are one
pub exact_names : CmpEqualImpliesEq name_cmp
exact_names a b h = ap (λ (p : ℕ × ℕ). record { table = p.0; key = p.1 }) (exact_pairs nat_cmp nat_cmp exact_unsigned exact_unsigned (a.table, a.key) (b.table, b.key) h)

abbrev pub Rows : Type 0
Rows = List (RowName × RowOf)

-- ---- lists in order

abbrev pub Below : RowName → Rows → Type 0
Below x [] = Unit {0}
Below x (e ∷ es) = (name_cmp x e.0 ≡ Less) × Below x es

abbrev pub Ascends : Rows → Type 0
Ascends [] = Unit {0}
Ascends (e ∷ es) = Below e.0 es × Ascends es

less : (o : Ordering) → T (is_lt o) → o ≡ Less
less Less t = refl
less Equal t = absurd t
less Greater t = absurd t

both : (a b : Bool) → T (a && b) → T a × T b
both true b t = (tt, t)
both false b t = absurd t

below : (x : RowName) (es : Rows) → T (below_all name_cmp x es) → Below x es
below x [] t = tt
below x (e ∷ es) t = let parts = both _ _ t in (less _ parts.0, below x es parts.1)

pub ascends : (es : Rows) → T (is_sorted name_cmp es) → Ascends es
ascends [] t = tt
ascends (e ∷ es) t = let parts = both _ _ t in (below e.0 es parts.0, ascends es parts.1)

equal : (o : Ordering) → is_eq o ≡ true → o ≡ Equal
equal Less e = absurd cc
equal Equal e = refl
equal Greater e = absurd cc

abbrev pub kept : (RowName → Bool) → Rows → Rows
kept P es = filter (λ e. P e.0) es

-- ---- tables one after the other

abbrev pub before_table : ℕ → RowName → Bool
before_table count q = nat_lt q.table count

at_least : (a b : RowName) (count : ℕ) → name_cmp a b ≡ Less → before_table count a ≡ false → before_table count b ≡ false
at_least a b count l h = grind (arith, nat_tests)

none_before : (x : RowName) (count : ℕ) (es : Rows) → Below x es → before_table count x ≡ false → kept (before_table count) es ≡ []
none_before x count [] b h = refl
none_before x count (e ∷ es) b h = ap (λ t. cond t (e ∷ kept (before_table count) es) (kept (before_table count) es)) (at_least x e.0 count b.0 h) ∙ none_before x count es b.1 h

-- rows none of which is before a table
of_one_table : (x : RowName) (count : ℕ) → before_table count x ≡ false → before_table (count + 1) x ≡ is_of_table count x
of_one_table x count h = grind (arith, nat_tests)

same_of_table : (x : RowName) (count : ℕ) (es : Rows) → Below x es → before_table count x ≡ false → kept (before_table (count + 1)) es ≡ kept (is_of_table count) es
same_of_table x count [] b h = refl
same_of_table x count (e ∷ es) b h =
    ap (λ t. cond t (e ∷ kept (before_table (count + 1)) es) (kept (before_table (count + 1)) es)) (of_one_table e.0 count (at_least x e.0 count b.0 h))
    ∙ ap (λ rest. cond (is_of_table count e.0) (e ∷ rest) rest) (same_of_table x count es b.1 h)

still_before : (x : RowName) (count : ℕ) → before_table count x ≡ true → before_table (count + 1) x ≡ true
still_before x count h = grind (arith, nat_tests)

not_of_table : (x : RowName) (count : ℕ) → before_table count x ≡ true → is_of_table count x ≡ false
not_of_table x count h = grind (arith, nat_tests)

split : (count : ℕ) (es : Rows) → Ascends es → kept (before_table (count + 1)) es ≡ kept (before_table count) es ++ kept (is_of_table count) es
split count [] s = refl
split count (e ∷ es) s = elim (before_table count e.0) as (λ b. before_table count e.0 ≡ b →
    kept (before_table (count + 1)) (e ∷ es) ≡ cond b (e ∷ kept (before_table count) es) (kept (before_table count) es) ++ kept (is_of_table count) (e ∷ es)) [
      | true ↦ λ h.
          ap (λ t. cond t (e ∷ kept (before_table (count + 1)) es) (kept (before_table (count + 1)) es)) (still_before e.0 count h)
          ∙ ap (λ rest. e ∷ rest) (split count es s.1)
          ∙ ap (λ t. (e ∷ kept (before_table count) es) ++ cond t (e ∷ kept (is_of_table count) es) (kept (is_of_table count) es)) (sym (not_of_table e.0 count h))
      | false ↦ λ h.
          ap (λ t. cond t (e ∷ kept (before_table (count + 1)) es) (kept (before_table (count + 1)) es)) (of_one_table e.0 count h)
          ∙ ap (λ rest. cond (is_of_table count e.0) (e ∷ rest) rest) (same_of_table e.0 count es s.0 h)
          ∙ ap (λ front. front ++ kept (is_of_table count) (e ∷ es)) (sym (none_before e.0 count es s.0 h))
    ] refl

row_lines-append : (tables : List TableShape) (xs ys : Rows) → row_lines tables (xs ++ ys) ≡ row_lines tables xs ++ row_lines tables ys
row_lines-append tables [] ys = refl
row_lines-append tables (e ∷ xs) ys = ap (λ rest. row_line tables e.0 e.1 ++ rest) (row_lines-append tables xs ys) ∙ sym (append_assoc (row_line tables e.0 e.1) (row_lines tables xs) (row_lines tables ys))

-- the rows of the first tables
abbrev pub first_tables : ℕ → Database → Rows
first_tables count db = kept (before_table count) (entries db)

pub table_more : (tables : List TableShape) (db : Database) (count : ℕ) → row_lines tables (first_tables count db) ++ row_lines tables (rows_of count db) ≡ row_lines tables (first_tables (count + 1) db)
table_more tables db count = sym (ap (row_lines tables) (split count (entries db) (ascends (entries db) (entries_sorted db))) ∙ row_lines-append tables _ _)

pub none_of_none : (P : RowName → Bool) (es : Rows) → ((q : RowName) → P q ≡ false) → kept P es ≡ []
none_of_none P [] h = refl
none_of_none P (e ∷ es) h = ap (λ t. cond t (e ∷ kept P es) (kept P es)) (h e.0) ∙ none_of_none P es h

no_less : (n : ℕ) → nat_lt n 0 ≡ false
no_less n = grind (arith, nat_tests)

pub no_tables : (tables : List TableShape) (db : Database) → row_lines tables (first_tables 0 db) ≡ []
no_tables tables db = ap (row_lines tables) (none_of_none (before_table 0) (entries db) (λ q. no_less q.table))
