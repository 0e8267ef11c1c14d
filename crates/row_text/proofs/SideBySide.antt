-- Digests that are made side by side.
use Rattle.std.proofs.Common.{◌≡◌, ◌<◌, ◌+◌, ◌⊎◌, inl, inr, ◌&&◌, ◌==◌, ℕ, Bool, true, false, if◌then◌else◌, All, List, ◌++◌, take, Option, Some, None, Result, Ok, Err, OnOk, map, length, slice_index_or, refl, sym, ap, ◌∙◌, subst, arith}
use Rattle.std.proofs.lemmas.Bool.Decides.{nat_tests}
use Rattle.std.proofs.lemmas.List.{ext_get_or, get_or-map, get_or_default, length-map}
use Rattle.std.proofs.Math.Nat.{eq-or-lt_of_le}
use Rattle.std.proofs.Math.Seq.{take-append_seam}
use Rattle.catalogue.specs.Shapes.{TableShape}
use Rattle.values.specs.Database.{Database}
use Rattle.row_text.specs.declared.kept.KeptDigests.{KeptDigests}
use Rattle.row_text.specs.declared.side_by_side.Hashing.{Hashing}
use Rattle.row_text.specs.Kept.{kept_at, AreKept, IsKept}
use Rattle.row_text.specs.Partitions.{partition_digest}
use Rattle.row_text.specs.SideBySide.{partition_of}

-- what is kept of a partition without rows
pub none_of : (tables : List TableShape) (db : Database) (kept : KeptDigests) (table part : ℕ) → AreKept tables db kept
    → None ≡ partition_digest tables table part db → kept_at kept table part ≡ None
none_of tables db kept table part are none = by (kept_at kept table part) refl
  where
    by : (o : Option (List ℕ)) → kept_at kept table part ≡ o → o ≡ None
    by None h = refl
    by (Some d) h = let clash : None ≡ Some d = none ∙ are.digests table part d h in absurd (cc)

-- a partition whose digest is kept has it still where the right digest of another one, or of itself, is kept then
pub kept_still : (tables : List TableShape) (db : Database) (old new : KeptDigests) (table part : ℕ) (d : List ℕ)
    → Some d ≡ partition_digest tables table part db
    → ((t p : ℕ) → kept_at new t p ≡ (if (table == t) && (part == p) then Some d else kept_at old t p))
    → (x : ℕ × ℕ) → IsKept tables db old x → IsKept tables db new x
kept_still tables db old new table part d right put x was = by ((table == x.0) && (part == x.1)) refl
  where
    by : (b : Bool) → ((table == x.0) && (part == x.1)) ≡ b → IsKept tables db new x
    by true h =
        let one : table ≡ x.0 = grind (arith, nat_tests) in
        let two : part ≡ x.1 = grind (arith, nat_tests) in
        put x.0 x.1 ∙ ap (λ b. if b then Some d else kept_at old x.0 x.1) h ∙ right
        ∙ ap (λ t. partition_digest tables t part db) one ∙ ap (λ p. partition_digest tables x.0 p db) two
    by false h = put x.0 x.1 ∙ ap (λ b. if b then Some d else kept_at old x.0 x.1) h ∙ was

many : (hashings : List Hashing) (parts : List (ℕ × ℕ)) → map partition_of hashings ≡ parts → length parts ≡ length hashings
many hashings parts same = ap length (sym same) ∙ length-map hashings partition_of

-- what holds of each of the partitions holds of each hashing's partition
pub each_of : (P : ℕ × ℕ → Type 0) (hashings : List Hashing) (parts : List (ℕ × ℕ)) → map partition_of hashings ≡ parts
    → All P parts → All (λ hashing. P (partition_of hashing)) hashings
each_of P hashings parts same all = λ k e h.
    let inside : k < length parts = subst (λ n. k < n) (sym (many hashings parts same)) h in
    let at : slice_index_or parts k (partition_of e) ≡ partition_of (slice_index_or hashings k e) =
    ap (λ ps. slice_index_or ps k (partition_of e)) (sym same) ∙ get_or-map partition_of hashings k e (partition_of e) h in
    subst P at (all k (partition_of e) inside)

-- what holds of each hashing's partition holds of each of the partitions
pub all_of : (P : ℕ × ℕ → Type 0) (hashings : List Hashing) (parts : List (ℕ × ℕ)) → map partition_of hashings ≡ parts
    → All (λ hashing. P (partition_of hashing)) hashings → All P parts
all_of P hashings parts same each = λ k d h.
    let e : Hashing = record { table = d.0; part = d.1; made = Ok None } in
    let inside : k < length hashings = subst (λ n. k < n) (many hashings parts same) h in
    let at : slice_index_or parts k d ≡ partition_of (slice_index_or hashings k e) =
    ap (λ ps. slice_index_or ps k d) (sym same) ∙ get_or-map partition_of hashings k e d inside in
    subst P (sym at) (each k e inside)

-- lists of hashings whose partitions are the same one by one
pub same_partitions : (xs ys : List Hashing) → length ys ≡ length xs
    → ((i : ℕ) (d : Hashing) → i < length xs → partition_of (slice_index_or ys i d) ≡ partition_of (slice_index_or xs i d))
    → map partition_of ys ≡ map partition_of xs
same_partitions xs ys long each = ext_get_or (0, 0) (map partition_of ys) (map partition_of xs)
    (length-map ys partition_of ∙ long ∙ sym (length-map xs partition_of))
    (λ i h.
    let e : Hashing = record { table = 0; part = 0; made = Ok None } in
    let there : i < length ys = subst (λ n. i < n) (length-map ys partition_of) h in
    let here : i < length xs = subst (λ n. i < n) long there in
    get_or-map partition_of ys i e (0, 0) there ∙ each i e here ∙ sym (get_or-map partition_of xs i e (0, 0) here))

-- what holds of the hashings before a place, and of the one there, after a step that keeps it
pub one_more : (P Q : Hashing → Type 0) (xs : List Hashing) (i : ℕ) (item : Hashing) → item ≡ slice_index_or xs i item
    → i < length xs → ((x : Hashing) → P x → Q x) → ((k : ℕ) (d : Hashing) → k < i → P (slice_index_or xs k d)) → Q item
    → (k : ℕ) (d : Hashing) → k < i + 1 → Q (slice_index_or xs k d)
one_more P Q xs i item is within still before this k d h = by (eq-or-lt_of_le {n = k} {m = i} (omega arith))
  where
    by : (k ≡ i) ⊎ (k < i) → Q (slice_index_or xs k d)
    by (inl e) = subst (λ n. Q (slice_index_or xs n d)) (sym e) (subst Q (is ∙ get_or_default xs i item d within) this)
    by (inr l) = still (slice_index_or xs k d) (before k d l)

-- the whole of a list, before what a vector has room for
pub whole : (n : ℕ) (xs ys zs : List Hashing) → zs ≡ take n (xs ++ ys) → length xs ≡ n → zs ≡ xs
whole n xs ys zs is long = is ∙ ap (λ m. take m (xs ++ ys)) (sym long) ∙ take-append_seam xs ys

-- what follows of an Ok
pub on_ok : {T E : Type 0} (P Q : Type 0) (result : Result T E) → (P → Q) → OnOk result P → OnOk result Q
on_ok P Q (Ok x) follows p = follows p
on_ok P Q (Err e) follows p = tt
