-- Ranges of keys: place by place, their first, and how many they are.
use Rattle.std.proofs.Common.{◌≡◌, ◌≤◌, ◌<◌, ◌+◌, ◌-◌, ℕ, zero, suc, Bool, true, false, refl, sym, ap, ◌∙◌, Some, None, ℤ, pos, negsuc, ◌≤ℤ◌, List, [], ◌∷◌, length, arith}
use Rattle.std.specs.Prelude.{nat_lt, int_le, slice_get, if◌then◌else◌}
use borrow.Author.Differences.{le-true}
use borrow.Author.Tests.{ltb-true, lt-ltb}
use Rattle.std.specs.Cmp.{both_ways}
use Rattle.std.proofs.lemmas.Int.{ints}
use Rattle.std.proofs.lemmas.Bool.Decides.{nat_tests}
use Rattle.catalogue.specs.Shapes.{TableShape}
use Rattle.proclang_types.specs.declared.right.Right.{Right}
use Rattle.footprint.specs.declared.resource.Resource.{Resource}
use Rattle.footprint.specs.declared.grant.Grant.{Grant}
use Rattle.footprint.specs.declared.grant.Grant.TheVariants as grants
use Rattle.footprint.specs.Declaration.{keys_from, keys_up_to, keys_between, on_rows}
use Rattle.footprint.specs.Grants.{granted, size_of}
use Rattle.footprint.specs.Tree.{row_resource}
use Rattle.footprint.specs.Rights.{FootprintOf, with_right, with_rights}

-- ---- place by place

before_more : (k n : ℕ) → nat_lt k n ≡ nat_lt (suc k) (suc n)
before_more k n = both_ways _ _
    (λ t. let l = ltb-true k n t in lt-ltb (suc k) (suc n) (omega (arith, l)))
    (λ t. let l = ltb-true (suc k) (suc n) t in lt-ltb k n (omega (arith, l)))

none_before : (k : ℕ) → nat_lt k 0 ≡ false
none_before k = grind (arith, nat_tests)

at_place : (n k first : ℕ) → slice_get (keys_from n first) k ≡ (if nat_lt k n then Some (first + k) else None)
at_place zero k first = ap (λ (b : Bool). if b then Some (first + k) else None) (sym (none_before k))
at_place (suc n) zero first =
    let e : first ≡ first + 0 = omega arith in
    ap (λ (z : ℕ). Some z) e ∙ ap (λ (b : Bool). if b then Some (first + 0) else None) (sym (lt-ltb 0 (suc n) (omega arith)))
at_place (suc n) (suc k) first =
    let e : suc first + k ≡ first + suc k = omega arith in
    at_place n k (suc first)
    ∙ ap (λ (z : ℕ). if nat_lt k n then Some z else None) e
    ∙ ap (λ (b : Bool). if b then Some (first + suc k) else None) (before_more k n)

le_test : (a b : ℤ) → a ≤ℤ b → int_le a b ≡ true
le_test a b h = grind (arith, ints, h)

below_count_is_at_most : (low k : ℕ) (high : ℤ) → nat_lt k (keys_up_to low high) ≡ int_le (pos (low + k)) high
below_count_is_at_most low k (pos high) = both_ways _ _
    (λ t. let l = ltb-true k (suc high - low) t in le_test (pos (low + k)) (pos high) (omega (arith, ints, l)))
    (λ t. let l = le-true (pos (low + k)) (pos high) t in lt-ltb k (suc high - low) (omega (arith, ints, l)))
below_count_is_at_most low k (negsuc high) = both_ways _ _
    (λ t. absurd (let l = ltb-true k 0 t in omega (arith, l)))
    (λ t. absurd (let l = le-true (pos (low + k)) (negsuc high) t in omega (arith, ints, l)))

pub keys_at : (low k : ℕ) (high : ℤ) → slice_get (keys_between low high) k ≡ (if int_le (pos (low + k)) high then Some (low + k) else None)
keys_at low k high = at_place (keys_up_to low high) k low ∙ ap (λ (b : Bool). if b then Some (low + k) else None) (below_count_is_at_most low k high)

-- ---- from the first on

-- the rights on the rows that are left when so many keys are done
abbrev pub rows_left : List TableShape → Right → ℕ → ℕ → ℕ → ℕ → List (Resource × Right)
rows_left tables right table count first done = on_rows tables right table (keys_from (count - done) (first + done))

pub none_done : (tables : List TableShape) (right : Right) (table count first : ℕ) → rows_left tables right table count first 0 ≡ on_rows tables right table (keys_from count first)
none_done tables right table count first =
    let e : count - 0 ≡ count = omega arith in
    let f : first + 0 ≡ first = omega arith in
    ap (λ (n : ℕ). on_rows tables right table (keys_from n (first + 0))) e ∙ ap (λ (k : ℕ). on_rows tables right table (keys_from count k)) f

-- what is left begins with the next key
pub one_more : (footprint : FootprintOf) (tables : List TableShape) (right : Right) (table count first done : ℕ) → done < count
    → with_rights footprint (rows_left tables right table count first done)
    ≡ with_rights (with_right footprint (row_resource tables (record { table = table; key = first + done })) right) (rows_left tables right table count first (done + 1))
one_more footprint tables right table count first done less =
    let e : count - done ≡ suc (count - (done + 1)) = omega (arith, less) in
    let f : suc (first + done) ≡ first + (done + 1) = omega arith in
    ap (λ (n : ℕ). with_rights footprint (on_rows tables right table (keys_from n (first + done)))) e
    ∙ ap (λ (k : ℕ). with_rights footprint (on_rows tables right table ((first + done) ∷ keys_from (count - (done + 1)) k))) f

pub all_done : (footprint : FootprintOf) (tables : List TableShape) (right : Right) (table count first done : ℕ) → count ≤ done
    → with_rights footprint (rows_left tables right table count first done) ≡ footprint
all_done footprint tables right table count first done most =
    let e : count - done ≡ 0 = omega (arith, most) in
    ap (λ (n : ℕ). with_rights footprint (on_rows tables right table (keys_from n (first + done)))) e

-- ---- how many there are

keys_counted : (count first : ℕ) → length (keys_from count first) ≡ count
keys_counted zero first = refl
keys_counted (suc count) first = ap suc (keys_counted count (suc first))

rows_counted : (tables : List TableShape) (right : Right) (table : ℕ) (keys : List ℕ) → length (on_rows tables right table keys) ≡ length keys
rows_counted tables right table [] = refl
rows_counted tables right table (key ∷ keys) = ap suc (rows_counted tables right table keys)

-- a grant is on as many resources as are counted
pub size_granted : (tables : List TableShape) (grant : Grant) → length (granted tables grant) ≡ size_of grant
size_granted tables (grants.OnOne right resource) = refl
size_granted tables (grants.OnRows right table first count) = rows_counted tables right table (keys_from count first) ∙ keys_counted count first
