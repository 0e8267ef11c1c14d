-- Of the code: invariants and steps; no promise rests on these words.
-- What an entry adds, as the code holds it: a list of rights on resources that is never written out.
use Rattle.std.specs.Prelude.{◌≡◌, ◌≤◌, ◌<◌, ◌+◌, ◌^◌, ℕ, List, [], ◌∷◌, length, Result, Ok, Err}
use Rattle.catalogue.specs.Shapes.{TableShape}
use Rattle.proclang_types.specs.declared.right.Right.{Right}
use Rattle.footprint.specs.declared.abort_code.AbortCode.{AbortCode}
use Rattle.footprint.specs.declared.resource.Resource.{Resource}
use Rattle.footprint.specs.declared.grant.Grant.{Grant}
use Rattle.footprint.specs.declared.grant.Grant.TheVariants as grants
use Rattle.footprint.specs.OfCatalogue.{IsResourceOf}
use Rattle.footprint.specs.Declaration.{keys_from, on_rows}

-- the rights on resources that a grant means
abbrev pub granted : List TableShape → Grant → List (Resource × Right)
granted tables (grants.OnOne right resource) = (resource, right) ∷ []
granted tables (grants.OnRows right table first count) = on_rows tables right table (keys_from count first)

-- rule: footprint.limit
-- how many they are
abbrev pub size_of : Grant → ℕ
size_of (grants.OnOne right resource) = 1
size_of (grants.OnRows right table first count) = count

-- the resource is of the tables, or the table is one of them and each key is a key
abbrev pub IsGrantOf : List TableShape → Grant → Type 0
IsGrantOf tables (grants.OnOne right resource) = IsResourceOf tables resource
IsGrantOf tables (grants.OnRows right table first count) = (table < length tables) × (first + count ≤ 2 ^ 63)

-- the grant says what is meant, or the abort is the one that is meant
abbrev pub GrantsAs : List TableShape → Result Grant AbortCode → Result (List (Resource × Right)) AbortCode → Type 0
GrantsAs tables (Ok grant) meant = meant ≡ Ok (granted tables grant)
GrantsAs tables (Err code) meant = meant ≡ Err code
