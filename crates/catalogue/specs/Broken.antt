-- Claimed: what contracts promise to a reader rests on these words.
-- The faults of a catalogue's document, in the order in which its rules are looked at: the first is the one that is
-- answered, and there is none where no rule is broken. No rule here depends on what reading does.
use Rattle.std.specs.Prelude.{ℕ, ℤ, pos, negsuc, List, [], ◌∷◌, ◌++◌, length, Option, Some, None, option_map, Bool, true, false, int_lt, ◌&&◌, not, nat_lt, nat_le, ◌==◌}
use Rattle.std.specs.Str.{bytes_eq}
use Rattle.std.specs.List.{list_any}
use Rattle.serde_json.specs.Data.{Data}
use Rattle.documents.specs.FirstFault.{broken, in_each}
use Rattle.catalogue.specs.declared.fault.CatalogueFault.{CatalogueFault}
use Rattle.catalogue.specs.declared.fault.CatalogueFault.TheVariants.{Shape, DuplicateName, BadName, NoColumn, Limit, BadBounds}
use Rattle.values.specs.declared.value.ColType.{ColType}
use Rattle.values.specs.Names.{is_name}
use Rattle.catalogue.specs.Reading.{column_form, SplitForm, counted, bounded, table_form, catalogue_form}

-- a name is one of these
abbrev pub is_among : List ℕ → List (List ℕ) → Bool
is_among name names = list_any (λ other. bytes_eq name other) names

-- the name that a column's document gives
abbrev pub name_of_column : Data → Option (List ℕ)
name_of_column d = option_map (λ (f : List ℕ × ColType). f.0) (column_form d)

-- after columns of these names
abbrev pub in_column_form : List (List ℕ) → Option (List ℕ × ColType) → List CatalogueFault
in_column_form names None = Shape ∷ []
in_column_form names (Some f) = broken (is_name f.0) BadName ++ broken (not (is_among f.0 names)) DuplicateName

-- the rules that a column breaks, after columns of these names
abbrev pub in_column : List (List ℕ) → Data → List CatalogueFault
in_column names d = in_column_form names (column_form d)

-- a number of partitions is 1 to 1,024
abbrev pub is_partitions : ℤ → Bool
is_partitions (pos n) = nat_le 1 n && nat_le n 1024
is_partitions (negsuc n) = false

-- each number is above the one before it, and the first above a least one
abbrev pub are_rising : ℤ → List ℤ → Bool
are_rising least [] = true
are_rising least (z ∷ zs) = int_lt least z && are_rising z zs

-- 1 to 1,024 partitions; at most 1,023 bounds, which rise from above 0
abbrev pub in_split : SplitForm → List CatalogueFault
in_split (counted z) = broken (is_partitions z) Limit
in_split (bounded zs) = broken (nat_le (length zs) 1023) Limit ++ broken (are_rising (pos 0) zs) BadBounds

-- the name that a table's document gives
abbrev pub name_of_table : Bool → Data → Option (List ℕ)
name_of_table has_bounds d = option_map (λ (f : List ℕ × SplitForm × List Data). f.0) (table_form has_bounds d)

-- after tables of these names
abbrev pub in_table_form : List (List ℕ) → Option (List ℕ × SplitForm × List Data) → List CatalogueFault
in_table_form names None = Shape ∷ []
in_table_form names (Some f) =
    broken (is_name f.0) BadName
    ++ (broken (not (is_among f.0 names)) DuplicateName
    ++ (in_split f.1
    ++ (broken (not (length f.2 == 0)) NoColumn
    ++ (broken (nat_le (length f.2) 16) Limit
    ++ in_each name_of_column in_column [] f.2))))

-- the rules that a table breaks, after tables of these names
abbrev pub in_table : Bool → List (List ℕ) → Data → List CatalogueFault
in_table has_bounds names d = in_table_form names (table_form has_bounds d)

-- the rules that a catalogue of that form breaks: 1 to 64 tables, and those of each table
abbrev pub in_catalogue_form : Option (Bool × List Data) → List CatalogueFault
in_catalogue_form None = Shape ∷ []
in_catalogue_form (Some f) =
    broken (nat_lt 0 (length f.1) && nat_le (length f.1) 64) Limit ++ in_each (name_of_table f.0) (in_table f.0) [] f.1

-- the faults of a catalogue's document, the first of which is answered
abbrev pub catalogue_faults : Data → List CatalogueFault
catalogue_faults d = in_catalogue_form (catalogue_form d)
