-- Of the code: invariants and steps; no promise rests on these words.
-- Resources as keys of a hash map.
use Rattle.std.specs.Prelude.{◌≡◌, ℕ, ◌*◌, ◌%◌, ◌^◌, Bool, true, bit_xor, refl}
use Rattle.std.proofs.Common.{true≢false, sym, ◌∙◌, ap, Ordering, Less, Equal, Greater}
use Rattle.std.specs.Cmp.{IsPartialEquivalence, IsEquivalence}
use Rattle.std.specs.Hash.{u64}
use Rattle.std.specs.Ordering.{is_eq}
use Rattle.footprint.specs.declared.resource.Resource.{Resource}
use Rattle.footprint.specs.declared.resource.Resource.TheVariants.{Db, Table}
use Rattle.footprint.specs.declared.resource.InTable.{InTable}
use Rattle.footprint.specs.declared.resource.InTable.TheVariants.{WholeTable, Part}
use Rattle.footprint.specs.declared.resource.InPart.TheVariants.{WholePart, Row}
use Rattle.footprint.specs.contracts.resource.ResourcePartialEq.TheImpl as equality
use Rattle.footprint.specs.contracts.resource.ResourcePartialEq.TheImpl.Laws as partly
use Rattle.footprint.specs.contracts.resource.ResourceEq.TheImpl.Laws as fully
use Rattle.footprint.specs.contracts.resource.ResourceOrd.TheImpl.Laws as order
use Rattle.footprint.specs.Tree.{resource_cmp}
use Rattle.footprint.proofs.Resources.{exact_resources}

-- what `==` answers of two resources, and the laws of that test
abbrev pub resource_eq : Resource → Resource → Bool
resource_eq = equality.ghosts.eq

pub partly_equal : IsPartialEquivalence resource_eq
partly_equal = partly.lawful.laws

pub equal_resources : IsEquivalence resource_eq
equal_resources = fully.lawful.laws

-- the word of what is in a table
abbrev pub word_in_table : InTable → ℕ
word_in_table WholeTable = 2 ^ 38
word_in_table (Part p WholePart) = bit_xor (2 ^ 39) p
word_in_table (Part p (Row k)) = bit_xor (3 * 2 ^ 38) k

-- the word that a resource is hashed as
abbrev pub word : Resource → ℕ
word Db = 0
word (Table t within) = bit_xor ((t * 2 ^ 40) % 2 ^ 64) (word_in_table within)

-- resources that the test finds equal are one, so they are hashed alike
pub tied : (o : Ordering) → is_eq o ≡ true → o ≡ Equal
tied Less h = absurd (true≢false (sym h))
tied Equal h = refl
tied Greater h = absurd (true≢false (sym h))

one_resource : (a b : Resource) → resource_eq a b ≡ true → a ≡ b
one_resource a b h = exact_resources a b (tied (resource_cmp a b) (sym (order.lawful.matches_eq a b) ∙ h))

pub alike_words : (a b : Resource) → resource_eq a b ≡ true → u64 (word a) ≡ u64 (word b)
alike_words a b h = ap (λ r. u64 (word r)) (one_resource a b h)
