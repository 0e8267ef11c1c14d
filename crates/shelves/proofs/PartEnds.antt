-- The ends of partitions: a partition with a name has a last one, or names that are no resource's.
use Rattle.std.proofs.Common.{◌≡◌, ℕ, zero, suc, ◌+◌, ◌-◌, ◌*◌, ◌^◌, ◌⊎◌, ◌<◌, ◌≤◌, Bool, true, false, cond, nat_le, count_by, length, ◌&&◌, ◌||◌, ◌==◌, List, [], ◌∷◌, refl, sym, ap, subst, ◌∙◌, inl, inr, Option, Some, None, option_map, unwrap_or, slice_get, arith}
use Rattle.std.specs.Prelude.{nat_lt}
use Rattle.std.specs.List.{AllByRecursion, list_any}
use Rattle.std.proofs.lemmas.Bool.Decides.{nat_tests}
use Rattle.std.proofs.lemmas.Bool.{cases_lt}
use Rattle.std.proofs.lemmas.List.Sums.{sum_by-cons}
use Rattle.std.proofs.Math.Nat.{add-mul-mod_self_right, le-mul_of_pos_right}
use Rattle.values.specs.declared.name.RowName.{RowName}
use Rattle.catalogue.specs.Shapes.{SplitShape, by_remainder, at_bounds, part_with, is_end_with, TableShape}
use Rattle.catalogue.specs.Rules.{AreRising, IsSplit, IsCatalogue, IsTable}
use Rattle.catalogue.specs.Places.{partition_of}
use Rattle.workspace.specs.Scan.{is_in_part}
use Rattle.shelves.specs.Shelving.{is_end, HasEnds}
use Rattle.shelves.proofs.Booleans.{itself, second}

table_at : (ts : List TableShape) (i : ℕ) (s : TableShape) → AllByRecursion IsTable ts → slice_get ts i ≡ Some s → IsTable s
table_at [] i s all h = absurd (cc)
table_at (t ∷ ts) zero s all h = let same : t ≡ s = cc in subst IsTable same all.0
table_at (t ∷ ts) (suc i) s all h = table_at ts i s all.1 h

past : (k x m : ℕ) → x ≤ m → nat_lt (k + m) x ≡ false
past k x m h = grind (arith, nat_tests)

or_true : (b : Bool) → b || true ≡ true
or_true true = refl
or_true false = refl

both : (a b : Bool) → a ≡ true → b ≡ true → a && b ≡ true
both true b h k = k
both false b h k = absurd (cc)

-- ---- in one split

-- what a key has passed in a list of bounds
abbrev passed : ℕ → List ℕ → ℕ
passed k bounds = count_by (λ bound. nat_le bound k) bounds

passed-one : (k b : ℕ) (bs : List ℕ) → passed k (b ∷ bs) ≡ cond (nat_le b k) 1 0 + passed k bs
passed-one k b bs = sum_by-cons (λ bound. cond (nat_le bound k) 1 0) b bs

passed-yes : (k b : ℕ) (bs : List ℕ) → b ≤ k → passed k (b ∷ bs) ≡ suc (passed k bs)
passed-yes k b bs low =
    let yes : nat_le b k ≡ true = grind (arith, nat_tests, low) in
    passed-one k b bs ∙ ap (λ t. cond t 1 0 + passed k bs) yes ∙ omega arith

passed-none : (k least : ℕ) (bs : List ℕ) → AreRising least bs → k ≤ least → passed k bs ≡ 0
passed-none k least [] rising low = refl
passed-none k least (b ∷ bs) rising low =
    let up = rising.0 in
    let no : nat_le b k ≡ false = grind (arith, nat_tests, up, low) in
    passed-one k b bs ∙ ap (λ t. cond t 1 0 + passed k bs) no ∙ omega (arith, passed-none k b bs rising.1 (omega (arith, up, low)))

passed-all : (k : ℕ) (bs : List ℕ) → AllByRecursion (λ b. b < 2 ^ 63) bs → 2 ^ 63 ≤ k → passed k bs ≡ length bs
passed-all k [] signed high = refl
passed-all k (b ∷ bs) signed high = let s = signed.0 in passed-yes k b bs (omega (arith, s, high)) ∙ ap suc (passed-all k bs signed.1 high)

-- whether the number after a key is a bound
abbrev is_next : ℕ → List ℕ → Bool
is_next k bounds = list_any (λ bound. bound == k + 1) bounds

next_in_more : (b k : ℕ) (bs : List ℕ) → is_next k bs ≡ true → is_next k (b ∷ bs) ≡ true
next_in_more b k bs h = ap (λ t. (b == k + 1) || t) h ∙ or_true (b == k + 1)

-- a key that has passed as many as q: the last before a bound, or one past them all
abbrev IsEnd : (q : ℕ) (bs : List ℕ) (k : ℕ) → Type 0
IsEnd q bs k = (passed k bs ≡ passed q bs) × ((is_next k bs ≡ true) ⊎ (2 ^ 63 ≤ k))

end_of : (q least : ℕ) (bs : List ℕ) → AreRising least bs → AllByRecursion (λ b. b < 2 ^ 63) bs → (k : ℕ) × (least ≤ k) × IsEnd q bs k
end_of q least [] rising signed = (least + 2 ^ 63, omega arith, (refl, inr (omega arith)))
end_of q least (b ∷ bs) rising signed = elim (cases_lt q b) [
  | inl before ↦
      let up = rising.0 in
      let k : ℕ = b - 1 in
      let is : passed k (b ∷ bs) ≡ 0 = passed-none k k (b ∷ bs) (omega (arith, up), rising.1) (omega arith) in
      let same : passed q (b ∷ bs) ≡ 0 = passed-none q q (b ∷ bs) (before, rising.1) (omega arith) in
      let next : (b == k + 1) ≡ true = grind (arith, nat_tests, up) in
      (k, omega (arith, up), (is ∙ sym same, inl (ap (λ t. t || is_next k bs) next)))
  | inr past ↦
      let rest = end_of q b bs rising.1 signed.1 in
      let k : ℕ = rest.0 in
      let up = rising.0 in
      let from = rest.1 in
      let is = passed-yes k b bs from in
      let same = passed-yes q b bs past in
      let as_many = rest.2.0 in (
        k,
        omega (arith, up, from),
        (
          is ∙ ap suc as_many ∙ sym same,
          elim rest.2.1 [
            | inl more ↦ inl (next_in_more b k bs more)
            | inr high ↦ inr high
          ],
        ),
      )
]

-- a key in the same partition that is the last there, or is no key of a row
split_end : (split : SplitShape) (q : ℕ) → IsSplit split → (k : ℕ) × (part_with split k ≡ part_with split q) × ((is_end_with split k ≡ true) ⊎ (nat_lt k (2 ^ 63) ≡ false))
split_end (by_remainder n) q is =
    let some = is.0 in
    (q + 2 ^ 63 * n, add-mul-mod_self_right q (2 ^ 63) n, inr (past q (2 ^ 63) (2 ^ 63 * n) (le-mul_of_pos_right (2 ^ 63) (omega (arith, some)))))
split_end (at_bounds bounds) q is =
    let end = end_of q 0 bounds is.rising is.signed in
    let k : ℕ = end.0 in (
      k,
      end.2.0,
      elim end.2.1 [
        | inl more ↦ inl more
        | inr high ↦ inr (grind (arith, nat_tests, high))
      ],
    )

-- ---- in a catalogue

no_part_is : (o : Option TableShape) (k l : ℕ) → o ≡ None
    → unwrap_or (option_map (λ (t : TableShape). part_with t.split k) o) 0 ≡ unwrap_or (option_map (λ (t : TableShape). part_with t.split l) o) 0
no_part_is None k l h = refl
no_part_is (Some t) k l h = absurd (cc)

in_same_part : (tables : List TableShape) (table part : ℕ) (q : RowName) (key : ℕ) → unwrap_or (partition_of tables table key) 0 ≡ unwrap_or (partition_of tables table q.key) 0
    → is_in_part tables table part q ≡ true → is_in_part tables table part (record { table = table; key = key }) ≡ true
in_same_part tables table part q key same h =
    both (table == table) (unwrap_or (partition_of tables table key) 0 == part) (itself table)
    (ap (λ n. n == part) same ∙ second (q.table == table) (unwrap_or (partition_of tables table q.key) 0 == part) h)

abbrev EndIn : List TableShape → ℕ → ℕ → Type 0
EndIn tables table part = (end : RowName) × (is_in_part tables table part end ≡ true) × ((is_end tables end ≡ true) ⊎ (nat_lt end.key (2 ^ 63) ≡ false))

pub part_ends : (tables : List TableShape) → IsCatalogue tables → HasEnds tables
part_ends tables sound = λ table part q h.
    elim (slice_get tables table) as (λ (o : Option TableShape). slice_get tables table ≡ o → EndIn tables table part) [
      | None ↦ λ is. (
        record { table = table; key = q.key + 2 ^ 63 },
        in_same_part tables table part q (q.key + 2 ^ 63) (no_part_is (slice_get tables table) (q.key + 2 ^ 63) q.key is) h,
        inr (past q.key (2 ^ 63) (2 ^ 63) (omega arith)),
      )
      | Some s ↦ λ is.
          let end = split_end s.split q.key (table_at tables table s sound.tables is).split in
          let k : ℕ = end.0 in (
            record { table = table; key = k },
            in_same_part tables table part q k
                (ap (λ (o : Option TableShape). unwrap_or (option_map (λ (t : TableShape). part_with t.split k) o) 0) is ∙ end.1
                ∙ ap (λ (o : Option TableShape). unwrap_or (option_map (λ (t : TableShape). part_with t.split q.key) o) 0) (sym is)) h,
            elim end.2 [
              | inl last ↦ inl (ap (λ (o : Option TableShape). unwrap_or (option_map (λ (t : TableShape). is_end_with t.split k) o) false) is ∙ last)
              | inr long ↦ inr long
            ],
          )
    ] refl
