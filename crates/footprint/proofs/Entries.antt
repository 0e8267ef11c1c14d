-- One entry of a declaration after another.
use Rattle.std.proofs.Common.{◌≡◌, ◌≤◌, ◌<◌, ◌+◌, ◌∙◌, ℕ, pos, Bool, true, false, List, ◌∷◌, length, Result, Ok, Err, ap, arith}
use Rattle.std.specs.Prelude.{nat_le}
use Rattle.std.proofs.lemmas.Bool.Decides.{nat_tests}
use Rattle.documents.specs.Reading.{◌>>=◌, rule}
use Rattle.values.specs.declared.value.Value.{Value}
use Rattle.catalogue.specs.Shapes.{TableShape}
use Rattle.proclang_types.specs.declared.right.Right.{Right}
use Rattle.proclang_types.specs.Syntax.{EntrySyntax}
use Rattle.footprint.specs.declared.abort_code.AbortCode.{AbortCode}
use Rattle.footprint.specs.declared.abort_code.AbortCode.TheVariants.{TooLong}
use Rattle.footprint.specs.declared.resource.Resource.{Resource}
use Rattle.footprint.specs.Declaration.{grants_of, with_entries}
use Rattle.footprint.specs.Rights.{FootprintOf, with_rights}

few : (n : ℕ) → n ≤ 65536 → nat_le n 65536 ≡ true
few n h = grind (arith, nat_tests, h)

many : (n : ℕ) → 65536 < n → nat_le n 65536 ≡ false
many n h = grind (arith, nat_tests, h)

module _ (tables : List TableShape) (arguments : List Value) (count : ℕ) (footprint : FootprintOf) (entry : EntrySyntax) (rest : List EntrySyntax) (grants : List (Resource × Right))
    (is : grants_of (pos 0) tables arguments entry ≡ Ok grants) where
  goes_on : Result (List (Resource × Right)) AbortCode → Result FootprintOf AbortCode
  goes_on r = r >>= λ gs. rule (nat_le (count + length gs) 65536) TooLong >>= λ u. with_entries (pos 0) tables arguments (count + length gs) (with_rights footprint gs) rest

  -- what an entry adds comes after what was added before, while there is room
  pub one_entry : count + length grants ≤ 65536 → with_entries (pos 0) tables arguments count footprint (entry ∷ rest) ≡ with_entries (pos 0) tables arguments (count + length grants) (with_rights footprint grants) rest
  unfolding goes_on
  one_entry room = ap goes_on is ∙ ap (λ (b : Bool). rule b TooLong >>= λ u. with_entries (pos 0) tables arguments (count + length grants) (with_rights footprint grants) rest) (few (count + length grants) room)

  -- the entry with which the count passes its bound ends all
  pub one_too_many : 65536 < count + length grants → with_entries (pos 0) tables arguments count footprint (entry ∷ rest) ≡ Err TooLong
  unfolding goes_on
  one_too_many more = ap goes_on is ∙ ap (λ (b : Bool). rule b TooLong >>= λ u. with_entries (pos 0) tables arguments (count + length grants) (with_rights footprint grants) rest) (many (count + length grants) more)
