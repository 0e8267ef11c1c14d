-- Of the code: invariants and steps; no promise rests on these words.
-- Versions, the forms of splits that were read, and bounds one after another.
use Rattle.std.specs.Prelude.{ℕ, Bool, true, false, ◌<◌, ◌^◌, List, [], ◌∷◌, ◌++◌, map, Option, Some, option_map, Result, Ok, ⊤}
use Rattle.std.specs.List.{AllByRecursion}
use Rattle.serde_json.specs.Data.{Data}
use Rattle.serde_json.specs.View.{view}
use Rattle.documents.specs.Json.{integer}
use Rattle.documents.specs.Reading.{◌>>=◌, formed}
use Rattle.catalogue.specs.declared.fault.CatalogueFault.{CatalogueFault}
use Rattle.catalogue.specs.declared.fault.CatalogueFault.TheVariants.{Shape}
use Rattle.catalogue.specs.declared.split_form.SplitForm.{SplitForm as ReadForm}
use Rattle.catalogue.specs.declared.split_form.SplitForm.TheVariants.{Counted, Bounded}
use Rattle.catalogue.specs.declared.version.Version.{Version}
use Rattle.catalogue.specs.declared.version.Version.TheVariants.{One, Two}
use Rattle.catalogue.specs.Shapes.{SplitShape, by_remainder, at_bounds}
use Rattle.catalogue.specs.Reading.{SplitForm, counted, bounded, integers, bound_at}

-- version 1 has no bounds
abbrev pub has_bounds : Version → Bool
has_bounds One = false
has_bounds Two = true

-- what a form that was read says; none where its documents are not all whole numbers
abbrev pub form_said : ReadForm → Option SplitForm
form_said (Counted z) = Some (counted z)
form_said (Bounded ds) = option_map bounded (integers (map view ds.now))

-- a table's form where its split's form says something
abbrev pub with_split_said : List ℕ × SplitForm × List Data → List ℕ × Option SplitForm × List Data
with_split_said form = (form.0, Some form.1, form.2)

-- the bound that a document says, above a least one
abbrev pub bound_said : ℕ → Data → Result ℕ CatalogueFault
bound_said least d = formed Shape (integer d) >>= bound_at least

-- the bounds that documents say, after those before them, each above the one before it and the first above a least one
abbrev pub bounds_after : List ℕ → ℕ → List Data → Result (List ℕ) CatalogueFault
bounds_after before least [] = Ok before
bounds_after before least (d ∷ ds) = do
  bound ← bound_said least d
  bounds_after (before ++ bound ∷ []) bound ds

-- each bound is a key: it is less than 2^63
abbrev pub IsSigned : SplitShape → Type 0
IsSigned (by_remainder count) = ⊤
IsSigned (at_bounds bounds) = AllByRecursion (λ bound. bound < 2 ^ 63) bounds
