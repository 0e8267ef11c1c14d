-- Tables and columns of a catalogue, by their places and by their names.
use Rattle.std.proofs.Common.{◌≡◌, ◌∙◌, ap, sym, refl, subst, ℕ, zero, suc, ◌+◌, Bool, cond, List, [], ◌∷◌, length, map, Some, option_map, slice_get, String, Global, string_bytes}
use Rattle.std.specs.Str.{bytes_eq}
use Rattle.std.specs.List.{AllByRecursion, position, prefix_len}
use Rattle.values.specs.declared.value.ColType.{ColType}
use Rattle.catalogue.specs.declared.table.Table.{Table}
use Rattle.catalogue.specs.Places.{table_named, column_named}
use Rattle.catalogue.specs.Shapes.{SplitShape, TableShape, tables_shape, table_shape, columns_shape, column_shape}
use Rattle.catalogue.specs.Rules.{IsSplit, IsTable}

pub split_fits : (ts : List TableShape) (i : ℕ) (s : SplitShape) → AllByRecursion IsTable ts → option_map (λ t. t.split) (slice_get ts i) ≡ Some s → IsSplit s
split_fits [] i s h e = absurd cc
split_fits (t ∷ ts) zero s h e = let is : t.split ≡ s = cc in subst IsSplit is h.0.split
split_fits (t ∷ ts) (suc i) s h e = split_fits ts i s h.1 e

-- the same place in a list of names and in the list of the things that have them
prefix_named : {X Y : Type 0} (p : Y → Bool) (f : X → Y) (xs : List X) → prefix_len p (map f xs) ≡ prefix_len (λ x. p (f x)) xs
prefix_named p f [] = refl
prefix_named p f (x ∷ xs) = ap (λ n. cond (p (f x)) (1 + n) 0) (prefix_named p f xs)

length_named : {X Y : Type 0} (f : X → Y) (xs : List X) → length (map f xs) ≡ length xs
length_named f [] = refl
length_named f (x ∷ xs) = ap suc (length_named f xs)

position_named : {X Y : Type 0} (p : Y → Bool) (f : X → Y) (xs : List X) → position p (map f xs) ≡ position (λ x. p (f x)) xs
position_named p f xs = rw (prefix_named, length_named) refl

pub place_of_table : (name : List ℕ) (es : List (String Global × Table)) → position (λ k. bytes_eq name (string_bytes k)) (map (λ e. e.0) es) ≡ table_named (tables_shape es) name
place_of_table name es = position_named (λ k. bytes_eq name (string_bytes k)) (λ e. e.0) es ∙ sym (position_named (λ t. bytes_eq name t.name) table_shape es)

pub place_of_column : (name : List ℕ) (es : List (String Global × ColType)) → position (λ k. bytes_eq name (string_bytes k)) (map (λ e. e.0) es) ≡ column_named (columns_shape es) name
place_of_column name es = position_named (λ k. bytes_eq name (string_bytes k)) (λ e. e.0) es ∙ sym (position_named (λ c. bytes_eq name c.name) column_shape es)

-- the types of a table's columns
pub column_kinds : (es : List (String Global × ColType)) → map (λ c. c.kind) (columns_shape es) ≡ map (λ e. e.1) es
column_kinds [] = refl
column_kinds (e ∷ es) = ap (λ (ks : List ColType). e.1 ∷ ks) (column_kinds es)
