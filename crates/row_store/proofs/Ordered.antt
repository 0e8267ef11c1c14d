-- The names that requests lock by themselves, in tree order, differ.
use Rattle.std.proofs.Common.{◌≡◌, ℕ, zero, suc, ◌^◌, ◌<◌, Bool, true, false, ◌&&◌, ◌||◌, if◌then◌else◌, List, [], ◌∷◌, take, length, get_or, refl, sym, ap, ◌∙◌, Option, Some, None, Ordering, Less, Equal, arith}
use Rattle.std.specs.Prelude.{nat_lt}
use Rattle.std.proofs.lemmas.Bool.Decides.{nat_tests}
use Rattle.std.specs.List.{AllByRecursion}
use Rattle.std.specs.List.Sorted.{IsStrictlySortedBy}
use Rattle.std.specs.Map.{keys_of}
use Rattle.std.proofs.lemmas.Cmp.{tied_itself}
use Rattle.std.proofs.lemmas.List.Elements.{Contains-append_left, Contains-append_right, Contains-push}
use Rattle.values.specs.declared.name.RowName.{RowName}
use Rattle.catalogue.specs.Shapes.{TableShape}
use Rattle.catalogue.specs.Places.{partition_of}
use Rattle.proclang_types.specs.declared.right.Right.TheVariants.{Write}
use Rattle.footprint.specs.declared.resource.Resource.{Resource}
use Rattle.footprint.specs.declared.resource.Resource.TheVariants.{Db, Table}
use Rattle.footprint.specs.declared.resource.InTable.TheVariants.{WholeTable, Part}
use Rattle.footprint.specs.declared.resource.InPart.TheVariants.{WholePart, Row}
use Rattle.footprint.specs.Tree.{resource_cmp}
use Rattle.footprint.specs.OfCatalogue.{IsResourceOf}
use Rattle.footprint.proofs.Resources.{resources_total}
use Rattle.footprint.specs.InTreeOrder.{IsInTreeOrder}
use Rattle.modes.specs.declared.mode.Mode.{Mode}
use Rattle.coarsen.specs.Subtrees.{Requests}
use Rattle.coarsen.specs.Plans.{IsPlanOver}
use Rattle.row_store.specs.Locked.{gives, name_of, is_of, locks_itself}
use Rattle.shelves.proofs.Exact.{same_name}

some_name : (a b : RowName) → Some a ≡ Some b → a ≡ b
some_name a b h = cc

some_part : (a b : ℕ) → Some a ≡ Some b → a ≡ b
some_part a b h = cc

below_bound : (k : ℕ) → k < 2 ^ 63 → nat_lt k (2 ^ 63) ≡ true
below_bound k l = grind (arith, nat_tests)

rows_alike : (t u p r k l : ℕ) → t ≡ u → p ≡ r → k ≡ l → Table t (Part p (Row k)) ≡ Table u (Part r (Row l))
rows_alike t u p r k l a b c = ap (λ x. Table x (Part p (Row k))) a ∙ ap (λ x. Table u (Part x (Row k))) b ∙ ap (λ x. Table u (Part r (Row x))) c

-- a row name has one resource of the tables
same_row : (tables : List TableShape) (a b : Resource) → IsResourceOf tables a → IsResourceOf tables b → (n : RowName)
    → is_of (name_of a) n ≡ true → is_of (name_of b) n ≡ true → a ≡ b
same_row tables Db b of_a of_b n h g = absurd (cc)
same_row tables (Table t WholeTable) b of_a of_b n h g = absurd (cc)
same_row tables (Table t (Part p WholePart)) b of_a of_b n h g = absurd (cc)
same_row tables (Table t (Part p (Row k))) Db of_a of_b n h g = absurd (cc)
same_row tables (Table t (Part p (Row k))) (Table u WholeTable) of_a of_b n h g = absurd (cc)
same_row tables (Table t (Part p (Row k))) (Table u (Part r WholePart)) of_a of_b n h g = absurd (cc)
same_row tables (Table t (Part p (Row k))) (Table u (Part r (Row l))) of_a of_b n h g =
    let a : RowName = record { table = t; key = k } in
    let b : RowName = record { table = u; key = l } in
    let is_a : a ≡ n = same_name a n (ap (λ (c : Bool). is_of (if c then Some a else None) n) (sym (below_bound k of_a.0)) ∙ h) in
    let is_b : b ≡ n = same_name b n (ap (λ (c : Bool). is_of (if c then Some b else None) n) (sym (below_bound l of_b.0)) ∙ g) in
    let same : a ≡ b = is_a ∙ sym is_b in
    rows_alike t u p r k l (ap (λ (x : RowName). x.table) same)
    (some_part p r (sym of_a.1 ∙ ap (λ (x : RowName). partition_of tables x.table x.key) same ∙ of_b.1)) (ap (λ (x : RowName). x.key) same)

all_at : (r : Resource) (es : Requests) (i : ℕ) (e : Resource × Mode) → AllByRecursion (λ y. resource_cmp r y ≡ Less) (keys_of es) → i < length es → e ≡ get_or es i e → resource_cmp r e.0 ≡ Less
all_at r [] i e all l is = absurd (omega (arith, l))
all_at r (x ∷ es) zero e all l is = ap (λ (y : Resource × Mode). resource_cmp r y.0) is ∙ all.0
all_at r (x ∷ es) (suc i) e all l is = all_at r es i e all.1 (omega (arith, l)) is

less_than_itself : (o : Ordering) → o ≡ Less → o ≡ Equal → ⊥
less_than_itself o h g = let clash : Less ≡ Equal = sym h ∙ g in cc

two_off : (g a b : Bool) → (a ≡ true → ⊥) → b ≡ false → (g && a) || b ≡ false
two_off g true b f h = absurd (f refl)
two_off true false b f h = h
two_off false false b f h = h

sorted_head : (e : Resource × Mode) (es : Requests) → IsInTreeOrder (e ∷ es) → AllByRecursion (λ y. resource_cmp e.0 y ≡ Less) (keys_of es)
unfolding IsStrictlySortedBy
sorted_head e es s = s.0

sorted_rest : (e : Resource × Mode) (es : Requests) → IsInTreeOrder (e ∷ es) → IsInTreeOrder es
unfolding IsStrictlySortedBy
sorted_rest e es s = s.1

-- no earlier request locks the row name of a request
pub fresh : (tables : List TableShape) (requests : Requests) → IsPlanOver tables requests → IsInTreeOrder requests
    → (i : ℕ) (e : Resource × Mode) → i < length requests → e ≡ get_or requests i e → IsResourceOf tables e.0 → (n : RowName) → is_of (name_of e.0) n ≡ true
    → locks_itself (take i requests) Write n ≡ false
fresh tables [] over sorted i e l is of n named = absurd (omega (arith, l))
fresh tables (x ∷ xs) over sorted zero e l is of n named = refl
fresh tables (x ∷ xs) over sorted (suc i) e l is of n named =
    let below : resource_cmp x.0 e.0 ≡ Less = all_at x.0 xs i e (sorted_head x xs sorted) (omega (arith, l)) is in
    two_off (gives Write x.1) (is_of (name_of x.0) n) (locks_itself (take i xs) Write n)
    (λ h.
    let same : x.0 ≡ e.0 = same_row tables x.0 e.0 (over x (Contains-append_left (x ∷ []) xs x (Contains-push [] x))) of n h named in
    less_than_itself (resource_cmp x.0 e.0) below (ap (λ r. resource_cmp x.0 r) (sym same) ∙ tied_itself resources_total x.0))
    (fresh tables xs (λ y h. over y (Contains-append_right (x ∷ []) xs y h)) (sorted_rest x xs sorted) i e (omega (arith, l)) is of n named)

-- what a request locks by itself, if it passes a test
pub of_tested : (t : Bool) (o : Option RowName) (q : RowName) → is_of (if t then o else None) q ≡ (t && is_of o q)
of_tested true o q = refl
of_tested false o q = refl

pub tested : (t : Bool) (o : Option RowName) (n : RowName) → (if t then o else None) ≡ Some n → o ≡ Some n
tested true o n h = h
tested false o n h = absurd (cc)

pub or_false : (b : Bool) → b || false ≡ b
or_false true = refl
or_false false = refl
