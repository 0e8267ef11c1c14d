-- In a declaration whose expressions fit, what stands for a missing parameter never shows.
use Rattle.std.proofs.Common.{◌≡◌, ℕ, ◌+◌, ℤ, pos, List, [], ◌∷◌, map, refl, sym, ap, ◌∙◌, Option, Some, None, option_map, Result, Ok, Err}
use Rattle.std.specs.Prelude.{slice_get, nat_le, length, ⊤}
use Rattle.std.specs.List.{AllByRecursion}
use Rattle.std.specs.FinMap.{empty}
use Rattle.std.proofs.lemmas.Option.{slice_get-map}
use Rattle.documents.specs.Reading.{◌>>=◌, rule, formed}
use Rattle.values.specs.declared.value.ColType.{ColType}
use Rattle.values.specs.declared.value.ColType.TheVariants as types
use Rattle.values.specs.declared.value.Value.{Value}
use Rattle.values.specs.declared.value.Value.TheVariants as values
use Rattle.catalogue.specs.Shapes.{TableShape}
use Rattle.values.specs.Rows.{type_of}
use Rattle.values.specs.Keys.{key_of}
use Rattle.catalogue.specs.Places.{partition_numbered}
use Rattle.proclang_types.specs.declared.right.Right.{Right}
use Rattle.proclang_types.specs.Syntax.{IntSyntax, number, variable, binary, count_rows, sum_column, EntrySyntax, row_entry, rows_entry, part_entry, table_entry, db_entry, FootprintSyntax, declared_by, found_by_recon, declared_entries, ProcSyntax}
use Rattle.proclang_types.specs.Typing.{IntFits, AsksNoRows, EntryFits, FootprintFits, kinds_of, ProcFits}
use Rattle.footprint.specs.declared.abort_code.AbortCode.{AbortCode}
use Rattle.footprint.specs.declared.abort_code.AbortCode.TheVariants.{BadKey, BadPart, TooLong}
use Rattle.footprint.specs.declared.resource.Resource.{Resource}
use Rattle.footprint.specs.declared.resource.Resource.TheVariants.{Table}
use Rattle.footprint.specs.declared.resource.InTable.TheVariants.{Part}
use Rattle.footprint.specs.declared.resource.InPart.TheVariants.{WholePart}
use Rattle.footprint.specs.Rights.{FootprintOf, with_rights}
use Rattle.footprint.specs.Arithmetic.{result_of}
use Rattle.footprint.specs.Declaration.{number_or, declared_number, keys_between, on_rows, grants_of, with_entries, declared_with, declared_footprint}

same_number : (o : Option Value) (x y : ℤ) → option_map type_of o ≡ Some types.Int → number_or y o ≡ number_or x o
same_number None x y e = absurd (cc)
same_number (Some (values.Int z)) x y e = refl
same_number (Some (values.Text s)) x y e = absurd (cc)

-- what goes on alike from each value comes to the same
bind_same : {B : Type 0} (r : Result ⊤ AbortCode) (f h : Result B AbortCode) → f ≡ h → (r >>= λ u. f) ≡ (r >>= λ u. h)
bind_same (Ok u) f h same = same
bind_same (Err code) f h same = refl

alike : {A B : Type 0} (g : Result A AbortCode) (r : A → Result ⊤ AbortCode) (f h : A → Result B AbortCode) → ((x : A) → f x ≡ h x) → (g >>= λ x. r x >>= λ u. f x) ≡ (g >>= λ x. r x >>= λ u. h x)
alike (Ok x) r f h same = bind_same (r x) (f x) (h x) (same x)
alike (Err code) r f h same = refl

module _ (other : ℤ) (kinds : List ColType) (arguments : List Value) (args : map type_of arguments ≡ kinds) where
  same_value : (tables : List TableShape) (e : IntSyntax) → IntFits tables kinds e → AsksNoRows e → declared_number other arguments e ≡ declared_number (pos 0) arguments e
  same_value tables (number z) fits asks = refl
  same_value tables (variable place) fits asks =
      let there : option_map type_of (slice_get arguments place) ≡ Some types.Int = sym (slice_get-map type_of arguments place) ∙ ap (λ (ks : List ColType). slice_get ks place) args ∙ fits in
      ap (λ (z : ℤ). Ok z) (same_number (slice_get arguments place) (pos 0) other there)
  same_value tables (binary op a b) fits asks =
      ap (λ (r : Result ℤ AbortCode). r >>= λ x. declared_number other arguments b >>= λ y. result_of op x y) (same_value tables a fits.0 asks.0)
      ∙ ap (λ (r : Result ℤ AbortCode). declared_number (pos 0) arguments a >>= λ x. r >>= λ y. result_of op x y) (same_value tables b fits.1 asks.1)
  same_value tables (count_rows table part) fits asks = absurd asks
  same_value tables (sum_column table part column) fits asks = absurd asks

  same_grants : (tables : List TableShape) (entry : EntrySyntax) → EntryFits tables kinds entry → grants_of other tables arguments entry ≡ grants_of (pos 0) tables arguments entry
  same_grants tables (row_entry right table key) fits =
      ap (λ (r : Result ℤ AbortCode). r >>= λ z. formed BadKey (key_of z) >>= λ k. Ok (on_rows tables right table (k ∷ []))) (same_value tables key fits.1 fits.2)
  same_grants tables (rows_entry right table low high) fits =
      ap (λ (r : Result ℤ AbortCode). r >>= λ z. declared_number other arguments high >>= λ last. formed BadKey (key_of z) >>= λ first. Ok (on_rows tables right table (keys_between first last))) (same_value tables low fits.1 fits.2)
      ∙ ap (λ (r : Result ℤ AbortCode). declared_number (pos 0) arguments low >>= λ z. r >>= λ last. formed BadKey (key_of z) >>= λ first. Ok (on_rows tables right table (keys_between first last))) (same_value tables high fits.3 fits.4)
  same_grants tables (part_entry right table part) fits =
      ap (λ (r : Result ℤ AbortCode). r >>= λ z. formed BadPart (partition_numbered tables table z) >>= λ p. Ok ((Table table (Part p WholePart), right) ∷ [])) (same_value tables part fits.1 fits.2)
  same_grants tables (table_entry right table) fits = refl
  same_grants tables (db_entry right) fits = refl

  same_entries : (tables : List TableShape) (count : ℕ) (footprint : FootprintOf) (entries : List EntrySyntax) → AllByRecursion (EntryFits tables kinds) entries
      → with_entries other tables arguments count footprint entries ≡ with_entries (pos 0) tables arguments count footprint entries
  same_entries tables count footprint [] fits = refl
  same_entries tables count footprint (entry ∷ entries) fits =
      ap (λ (r : Result (List (Resource × Right)) AbortCode). r >>= λ grants. rule (nat_le (count + length grants) 65536) TooLong >>= λ u. with_entries other tables arguments (count + length grants) (with_rights footprint grants) entries) (same_grants tables entry fits.0)
      ∙ alike (grants_of (pos 0) tables arguments entry) (λ grants. rule (nat_le (count + length grants) 65536) TooLong) _ _ (λ grants. same_entries tables (count + length grants) (with_rights footprint grants) entries fits.1)

fits_each : (tables : List TableShape) (kinds : List ColType) (footprint : FootprintSyntax) → FootprintFits tables kinds footprint → AllByRecursion (EntryFits tables kinds) (declared_entries footprint)
fits_each tables kinds (declared_by entries) fits = fits
fits_each tables kinds found_by_recon fits = tt

pub never_shows : (tables : List TableShape) (proc : ProcSyntax) (arguments : List Value) (other : ℤ) → ProcFits tables proc → map type_of arguments ≡ kinds_of proc.params
    → declared_with other tables arguments (declared_entries proc.footprint) ≡ declared_footprint tables arguments (declared_entries proc.footprint)
never_shows tables proc arguments other fits args = same_entries other (kinds_of proc.params) arguments args tables 0 empty (declared_entries proc.footprint) (fits_each tables (kinds_of proc.params) proc.footprint fits.footprint)
