-- The tree of resources.
use Rattle.std.proofs.Common.{◌≡◌, Bool, true, false, ◌&&◌, ◌==◌, refl, sym, ap, ◌∙◌, arith, Ordering, Less, Equal, Greater, ◌⊎◌, inl, inr}
use Rattle.std.proofs.lemmas.Bool.Decides.{nat_tests}
use Rattle.footprint.specs.declared.resource.InPart.{InPart}
use Rattle.footprint.specs.declared.resource.InPart.TheVariants.{WholePart, Row}
use Rattle.footprint.specs.declared.resource.InTable.{InTable}
use Rattle.footprint.specs.declared.resource.InTable.TheVariants.{WholeTable, Part}
use Rattle.footprint.specs.declared.resource.Resource.{Resource}
use Rattle.footprint.specs.declared.resource.Resource.TheVariants.{Db, Table}
use Rattle.std.specs.Ordering.{is_eq}
use Rattle.std.proofs.lemmas.Cmp.{tied_itself}
use Rattle.footprint.specs.Tree.{resource_cmp}
use Rattle.footprint.proofs.Resources.{resources_total, exact_resources}
use Rattle.coarsen.specs.Subtrees.{holds, is_same, holds_in_part, holds_in_table}

pub both : (a b : Bool) → a && b ≡ true → (a ≡ true) × (b ≡ true)
both true b e = (refl, e)
both false b e = absurd (cc)

pub and : (a b : Bool) → a ≡ true → b ≡ true → a && b ≡ true
and a b e f = ap (λ x. x && b) e ∙ f

in_part_itself : (a : InPart) → holds_in_part a a ≡ true
in_part_itself WholePart = refl
in_part_itself (Row k) = grind (arith, nat_tests)

in_table_itself : (a : InTable) → holds_in_table a a ≡ true
in_table_itself WholeTable = refl
in_table_itself (Part p a) = and (p == p) (holds_in_part a a) (grind (arith, nat_tests)) (in_part_itself a)

pub holds_itself : (a : Resource) → holds a a ≡ true
holds_itself Db = refl
holds_itself (Table t a) = and (t == t) (holds_in_table a a) (grind (arith, nat_tests)) (in_table_itself a)

in_part_on : (a b c : InPart) → holds_in_part a b ≡ true → holds_in_part b c ≡ true → holds_in_part a c ≡ true
in_part_on WholePart b c h k = refl
in_part_on (Row x) WholePart c h k = absurd (cc)
in_part_on (Row x) (Row y) WholePart h k = absurd (cc)
in_part_on (Row x) (Row y) (Row z) h k = grind (arith, nat_tests)

in_table_on : (a b c : InTable) → holds_in_table a b ≡ true → holds_in_table b c ≡ true → holds_in_table a c ≡ true
in_table_on WholeTable b c h k = refl
in_table_on (Part p a) WholeTable c h k = absurd (cc)
in_table_on (Part p a) (Part q b) WholeTable h k = absurd (cc)
in_table_on (Part p a) (Part q b) (Part r c) h k =
    let x = both (p == q) (holds_in_part a b) h in
    let y = both (q == r) (holds_in_part b c) k in
    and (p == r) (holds_in_part a c) (grind (arith, nat_tests)) (in_part_on a b c x.1 y.1)

pub holds_on : (a b c : Resource) → holds a b ≡ true → holds b c ≡ true → holds a c ≡ true
holds_on Db b c h k = refl
holds_on (Table t a) Db c h k = absurd (cc)
holds_on (Table t a) (Table u b) Db h k = absurd (cc)
holds_on (Table t a) (Table u b) (Table v c) h k =
    let x = both (t == u) (holds_in_table a b) h in
    let y = both (u == v) (holds_in_table b c) k in
    and (t == v) (holds_in_table a c) (grind (arith, nat_tests)) (in_table_on a b c x.1 y.1)

-- two resources over one resource: one of them is over the other
in_part_chain : (a b c : InPart) → holds_in_part a c ≡ true → holds_in_part b c ≡ true → (holds_in_part a b ≡ true) ⊎ (holds_in_part b a ≡ true)
in_part_chain WholePart b c h k = inl refl
in_part_chain (Row x) WholePart c h k = inr refl
in_part_chain (Row x) (Row y) WholePart h k = absurd (cc)
in_part_chain (Row x) (Row y) (Row z) h k = inl (grind (arith, nat_tests))

in_table_chain : (a b c : InTable) → holds_in_table a c ≡ true → holds_in_table b c ≡ true → (holds_in_table a b ≡ true) ⊎ (holds_in_table b a ≡ true)
in_table_chain WholeTable b c h k = inl refl
in_table_chain (Part p a) WholeTable c h k = inr refl
in_table_chain (Part p a) (Part q b) WholeTable h k = absurd (cc)
in_table_chain (Part p a) (Part q b) (Part r c) h k =
    let x = both (p == r) (holds_in_part a c) h in
    let y = both (q == r) (holds_in_part b c) k in
    elim (in_part_chain a b c x.1 y.1) [
      | inl i ↦ inl (and (p == q) (holds_in_part a b) (grind (arith, nat_tests)) i)
      | inr i ↦ inr (and (q == p) (holds_in_part b a) (grind (arith, nat_tests)) i)
    ]

pub holds_chain : (a b c : Resource) → holds a c ≡ true → holds b c ≡ true → (holds a b ≡ true) ⊎ (holds b a ≡ true)
holds_chain Db b c h k = inl refl
holds_chain (Table t a) Db c h k = inr refl
holds_chain (Table t a) (Table u b) Db h k = absurd (cc)
holds_chain (Table t a) (Table u b) (Table v c) h k =
    let x = both (t == v) (holds_in_table a c) h in
    let y = both (u == v) (holds_in_table b c) k in
    elim (in_table_chain a b c x.1 y.1) [
      | inl i ↦ inl (and (t == u) (holds_in_table a b) (grind (arith, nat_tests)) i)
      | inr i ↦ inr (and (u == t) (holds_in_table b a) (grind (arith, nat_tests)) i)
    ]

-- resources over each other are one
in_part_same : (a b : InPart) → holds_in_part a b ≡ true → holds_in_part b a ≡ true → a ≡ b
in_part_same WholePart WholePart h k = refl
in_part_same WholePart (Row y) h k = absurd (cc)
in_part_same (Row x) WholePart h k = absurd (cc)
in_part_same (Row x) (Row y) h k = let e : x ≡ y = grind (arith, nat_tests) in ap (λ n. Row n) e

in_table_same : (a b : InTable) → holds_in_table a b ≡ true → holds_in_table b a ≡ true → a ≡ b
in_table_same WholeTable WholeTable h k = refl
in_table_same WholeTable (Part q b) h k = absurd (cc)
in_table_same (Part p a) WholeTable h k = absurd (cc)
in_table_same (Part p a) (Part q b) h k =
    let x = both (p == q) (holds_in_part a b) h in
    let y = both (q == p) (holds_in_part b a) k in
    let e : p ≡ q = grind (arith, nat_tests) in
    ap (λ n. Part n a) e ∙ ap (λ s. Part q s) (in_part_same a b x.1 y.1)

holds_same : (a b : Resource) → holds a b ≡ true → holds b a ≡ true → a ≡ b
holds_same Db Db h k = refl
holds_same Db (Table u b) h k = absurd (cc)
holds_same (Table t a) Db h k = absurd (cc)
holds_same (Table t a) (Table u b) h k =
    let x = both (t == u) (holds_in_table a b) h in
    let y = both (u == t) (holds_in_table b a) k in
    let e : t ≡ u = grind (arith, nat_tests) in
    ap (λ n. Table n a) e ∙ ap (λ s. Table u s) (in_table_same a b x.1 y.1)

pub same_resource : (a b : Resource) → is_same a b ≡ true → a ≡ b
same_resource a b h = let x = both (holds a b) (holds b a) h in holds_same a b x.0 x.1

pub is_same_itself : (a : Resource) → is_same a a ≡ true
is_same_itself a = and (holds a a) (holds a a) (holds_itself a) (holds_itself a)

-- the order ties a resource with itself alone
is_equal : (o : Ordering) → is_eq o ≡ true → o ≡ Equal
is_equal Less e = absurd (cc)
is_equal Equal e = refl
is_equal Greater e = absurd (cc)

pub ties_same : (a q : Resource) → is_eq (resource_cmp a q) ≡ is_same a q
ties_same a q = elim (is_eq (resource_cmp a q)) as (λ v. is_eq (resource_cmp a q) ≡ v → v ≡ is_same a q) [
  | true ↦ λ is. let same : a ≡ q = exact_resources a q (is_equal (resource_cmp a q) is) in sym (ap (λ x. is_same a x) (sym same) ∙ is_same_itself a)
  | false ↦ λ is. elim (is_same a q) as (λ v. is_same a q ≡ v → false ≡ v) [
    | true ↦ λ on.
        let same : a ≡ q = same_resource a q on in
        let w : false ≡ true = sym is ∙ ap (λ x. is_eq (resource_cmp a x)) (sym same) ∙ ap is_eq (tied_itself resources_total a) in
        absurd (cc)
    | false ↦ λ on. refl
  ] refl
] refl
