-- Parents and ancestors.
use Rattle.std.proofs.Common.{◌≡◌, ℕ, ◌<◌, Bool, true, false, ◌&&◌, ◌||◌, ◌==◌, ◌∷◌, refl, sym, ap, ◌∙◌, arith, Option, Some, None, ◌⊎◌, inl, inr}
use Rattle.std.proofs.lemmas.Bool.Decides.{nat_tests}
use Rattle.std.specs.List.{list_any}
use Rattle.footprint.specs.declared.resource.InPart.TheVariants.{WholePart, Row}
use Rattle.footprint.specs.declared.resource.InTable.TheVariants.{WholeTable, Part}
use Rattle.footprint.specs.declared.resource.Resource.{Resource}
use Rattle.footprint.specs.declared.resource.Resource.TheVariants.{Db, Table}
use Rattle.footprint.specs.Tree.{parent_of, ancestors_of}
use Rattle.coarsen.specs.Subtrees.{holds}
use Rattle.coarsen.proofs.Tree.{both, holds_itself}

-- how many ancestors a resource has
abbrev pub depth : Resource → ℕ
depth Db = 0
depth (Table t WholeTable) = 1
depth (Table t (Part p WholePart)) = 2
depth (Table t (Part p (Row k))) = 3

pub parent_holds : (r b : Resource) → parent_of r ≡ Some b → holds b r ≡ true
parent_holds Db b e = absurd (cc)
parent_holds (Table t WholeTable) b e = let is : b ≡ Db = cc in ap (λ x. holds x (Table t WholeTable)) is
parent_holds (Table t (Part p WholePart)) b e = let is : b ≡ Table t WholeTable = cc in ap (λ x. holds x (Table t (Part p WholePart))) is ∙ grind (arith, nat_tests)
parent_holds (Table t (Part p (Row k))) b e = let is : b ≡ Table t (Part p WholePart) = cc in ap (λ x. holds x (Table t (Part p (Row k)))) is ∙ grind (arith, nat_tests)

pub parent_depth : (r b : Resource) → parent_of r ≡ Some b → depth b < depth r
parent_depth Db b e = absurd (cc)
parent_depth (Table t WholeTable) b e = let is : b ≡ Db = cc in let d : depth b ≡ 0 = ap depth is in omega (arith, d)
parent_depth (Table t (Part p WholePart)) b e = let is : b ≡ Table t WholeTable = cc in let d : depth b ≡ 1 = ap depth is in omega (arith, d)
parent_depth (Table t (Part p (Row k))) b e = let is : b ≡ Table t (Part p WholePart) = cc in let d : depth b ≡ 2 = ap depth is in omega (arith, d)

-- over the parent, if there is one
abbrev pub over_up : Resource → Option Resource → Bool
over_up s None = false
over_up s (Some b) = holds s b

-- what is over a resource is that resource, or over its parent
pub same_or_up : (r s : Resource) → holds s r ≡ true → (holds r s ≡ true) ⊎ (over_up s (parent_of r) ≡ true)
same_or_up Db Db h = inl refl
same_or_up Db (Table u a) h = absurd (cc)
same_or_up (Table t WholeTable) Db h = inr refl
same_or_up (Table t WholeTable) (Table u WholeTable) h = inl (grind (arith, nat_tests))
same_or_up (Table t WholeTable) (Table u (Part q a)) h = let x = both (u == t) false h in absurd (cc)
same_or_up (Table t (Part p WholePart)) Db h = inr refl
same_or_up (Table t (Part p WholePart)) (Table u WholeTable) h = inr h
same_or_up (Table t (Part p WholePart)) (Table u (Part q WholePart)) h = inl (grind (arith, nat_tests))
same_or_up (Table t (Part p WholePart)) (Table u (Part q (Row l))) h =
    let x = both (u == t) ((q == p) && false) h in let y = both (q == p) false x.1 in absurd (cc)
same_or_up (Table t (Part p (Row k))) Db h = inr refl
same_or_up (Table t (Part p (Row k))) (Table u WholeTable) h = inr h
same_or_up (Table t (Part p (Row k))) (Table u (Part q WholePart)) h = inr h
same_or_up (Table t (Part p (Row k))) (Table u (Part q (Row l))) h = inl (grind (arith, nat_tests))

one_of : (a b : Bool) → a || b ≡ true → (a ≡ true) ⊎ (b ≡ true)
one_of true b h = inl refl
one_of false b h = inr h

pub table_over : (t p : ℕ) (k : ℕ) → (holds (Table t WholeTable) (Table t (Part p WholePart)) ≡ true) × (holds (Table t WholeTable) (Table t (Part p (Row k))) ≡ true) × (holds (Table t (Part p WholePart)) (Table t (Part p (Row k))) ≡ true)
table_over t p k = (grind (arith, nat_tests), grind (arith, nat_tests), grind (arith, nat_tests))

-- an ancestor that passes a test
pub some_ancestor : (test : Resource → Bool) (r : Resource) → list_any test (ancestors_of r) ≡ true → (a : Resource) × (holds a r ≡ true) × (depth a < depth r) × (test a ≡ true)
some_ancestor test Db h = absurd (cc)
some_ancestor test (Table t WholeTable) h = elim (one_of (test Db) false h) [
  | inl i ↦ (Db, refl, omega arith, i)
  | inr i ↦ absurd (cc)
]
some_ancestor test (Table t (Part p WholePart)) h = elim (one_of (test (Table t WholeTable)) (test Db || false) h) [
  | inl i ↦ (Table t WholeTable, (table_over t p 0).0, omega arith, i)
  | inr j ↦ elim (one_of (test Db) false j) [
    | inl i ↦ (Db, refl, omega arith, i)
    | inr i ↦ absurd (cc)
  ]
]
some_ancestor test (Table t (Part p (Row k))) h = elim (one_of (test (Table t (Part p WholePart))) (test (Table t WholeTable) || (test Db || false)) h) [
  | inl i ↦ (Table t (Part p WholePart), (table_over t p k).2, omega arith, i)
  | inr j ↦ elim (one_of (test (Table t WholeTable)) (test Db || false) j) [
    | inl i ↦ (Table t WholeTable, (table_over t p k).1, omega arith, i)
    | inr l ↦ elim (one_of (test Db) false l) [
      | inl i ↦ (Db, refl, omega arith, i)
      | inr i ↦ absurd (cc)
    ]
  ]
]

-- a resource or an ancestor that passes a test
pub some_over : (test : Resource → Bool) (r : Resource) → list_any test (r ∷ ancestors_of r) ≡ true → (a : Resource) × (holds a r ≡ true) × (test a ≡ true)
some_over test r h = elim (one_of (test r) (list_any test (ancestors_of r)) h) [
  | inl i ↦ (r, holds_itself r, i)
  | inr i ↦ let a = some_ancestor test r i in (a.0, a.1, a.3)
]

-- the ancestors are the parent and its ancestors
pub ancestors_by_parent : (r b : Resource) → parent_of r ≡ Some b → ancestors_of r ≡ b ∷ ancestors_of b
ancestors_by_parent Db b e = absurd (cc)
ancestors_by_parent (Table t WholeTable) b e = let is : b ≡ Db = cc in ap (λ x. x ∷ ancestors_of x) (sym is)
ancestors_by_parent (Table t (Part p WholePart)) b e = let is : b ≡ Table t WholeTable = cc in ap (λ x. x ∷ ancestors_of x) (sym is)
ancestors_by_parent (Table t (Part p (Row k))) b e = let is : b ≡ Table t (Part p WholePart) = cc in ap (λ x. x ∷ ancestors_of x) (sym is)
