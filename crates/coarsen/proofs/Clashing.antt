-- Plans that clash have requests that are not compatible, and the other way round.
use Rattle.std.proofs.Common.{◌≡◌, ℕ, ◌<◌, ◌≤◌, nat_lt, nat_le, Bool, true, false, not, ◌&&◌, ◌||◌, ◌==◌, List, refl, ap, ◌∙◌, arith, ◌⊎◌, inl, inr}
use Rattle.std.proofs.lemmas.Bool.Decides.{nat_tests}
use Rattle.std.specs.List.{Contains}
use Rattle.catalogue.specs.Shapes.{TableShape}
use Rattle.catalogue.specs.Rules.{IsCatalogue}
use Rattle.footprint.specs.declared.resource.Resource.{Resource}
use Rattle.footprint.specs.Tree.{row_resource}
use Rattle.modes.specs.declared.mode.Mode.{Mode}
use Rattle.modes.specs.declared.mode.Mode.TheVariants.{IntentionShared, IntentionExclusive, Shared, SharedIntentionExclusive, Exclusive}
use Rattle.modes.specs.Rights.{rights_clash}
use Rattle.modes.specs.Modes.{own, subtree, are_compatible}
use Rattle.coarsen.specs.Subtrees.{Requests, holds, own_over}
use Rattle.coarsen.specs.Plans.{IsWellFormed, IsPlanOver, serves}
use Rattle.coarsen.specs.Clashes.{Clash, ModesClash}
use Rattle.coarsen.specs.Laws.{LockedRowsConflict}
use Rattle.coarsen.proofs.Tree.{both, and, holds_on, holds_chain}
use Rattle.coarsen.proofs.Greatest.{has_greatest, some_greatest, greatest_least}
use Rattle.coarsen.proofs.OfTables.{has_name}

own_small : (m : Mode) → own m ≤ 2
own_small IntentionShared = omega arith
own_small IntentionExclusive = omega arith
own_small Shared = omega arith
own_small SharedIntentionExclusive = omega arith
own_small Exclusive = omega arith

subtree_small : (m : Mode) → subtree m ≤ 2
subtree_small IntentionShared = omega arith
subtree_small IntentionExclusive = omega arith
subtree_small Shared = omega arith
subtree_small SharedIntentionExclusive = omega arith
subtree_small Exclusive = omega arith

pub own_within : (m : Mode) → own m ≤ subtree m
own_within IntentionShared = omega arith
own_within IntentionExclusive = omega arith
own_within Shared = omega arith
own_within SharedIntentionExclusive = omega arith
own_within Exclusive = omega arith

clash_parts : (x y : ℕ) → rights_clash x y ≡ true → (0 < x) × (0 < y) × ((x == 2) || (y == 2) ≡ true)
clash_parts x y h =
    let a = both (nat_lt 0 x) (nat_lt 0 y && ((x == 2) || (y == 2))) h in
    let b = both (nat_lt 0 y) ((x == 2) || (y == 2)) a.1 in
    (grind (arith, nat_tests), grind (arith, nat_tests), b.1)

either_more : (a b c d : Bool) → (a ≡ true → c ≡ true) → (b ≡ true → d ≡ true) → a || b ≡ true → c || d ≡ true
either_more true b c d f g h = ap (λ v. v || d) (f refl)
either_more false b true d f g h = refl
either_more false b false d f g h = g h

clash_more : (x y u v : ℕ) → rights_clash x y ≡ true → x ≤ u → u ≤ 2 → y ≤ v → v ≤ 2 → rights_clash u v ≡ true
clash_more x y u v h a b c d =
    let p = clash_parts x y h in
    and (nat_lt 0 u) (nat_lt 0 v && ((u == 2) || (v == 2))) (grind (arith, nat_tests, p.0))
    (and (nat_lt 0 v) ((u == 2) || (v == 2)) (grind (arith, nat_tests, p.1))
    (either_more (x == 2) (y == 2) (u == 2) (v == 2) (λ e. grind (arith, nat_tests)) (λ e. grind (arith, nat_tests)) p.2))

turned : (a b : Bool) → a || b ≡ true → b || a ≡ true
turned true true h = refl
turned true false h = refl
turned false true h = refl
turned false false h = h

and_false : (a : Bool) → a && false ≡ false
and_false true = refl
and_false false = refl

clash_turned : (x y : ℕ) → rights_clash x y ≡ true → rights_clash y x ≡ true
clash_turned x y h =
    let p = clash_parts x y h in
    and (nat_lt 0 y) (nat_lt 0 x && ((y == 2) || (x == 2))) (grind (arith, nat_tests, p.1))
    (and (nat_lt 0 x) ((y == 2) || (x == 2)) (grind (arith, nat_tests, p.0)) (turned (x == 2) (y == 2) p.2))

apart_first : (m n : Mode) → rights_clash (own m) (subtree n) ≡ true → are_compatible m n ≡ false
apart_first m n h = ap (λ b. not b && not (rights_clash (own n) (subtree m))) h

apart_second : (m n : Mode) → rights_clash (own n) (subtree m) ≡ true → are_compatible m n ≡ false
apart_second m n h = ap (λ b. not (rights_clash (own m) (subtree n)) && not b) h ∙ and_false (not (rights_clash (own m) (subtree n)))

apart_parts : (a b : Bool) → not a && not b ≡ false → (a ≡ true) ⊎ (b ≡ true)
apart_parts true b h = inl refl
apart_parts false true h = inr refl
apart_parts false false h = absurd (cc)

serves_subtree : (n m : Mode) → serves n m ≡ true → own m ≤ subtree n
serves_subtree IntentionShared IntentionShared h = omega arith
serves_subtree IntentionShared Shared h = omega arith
serves_subtree IntentionShared IntentionExclusive h = absurd (cc)
serves_subtree IntentionShared SharedIntentionExclusive h = absurd (cc)
serves_subtree IntentionShared Exclusive h = absurd (cc)
serves_subtree Shared IntentionShared h = omega arith
serves_subtree Shared Shared h = omega arith
serves_subtree Shared IntentionExclusive h = absurd (cc)
serves_subtree Shared SharedIntentionExclusive h = absurd (cc)
serves_subtree Shared Exclusive h = absurd (cc)
serves_subtree IntentionExclusive m h = own_small m
serves_subtree SharedIntentionExclusive m h = own_small m
serves_subtree Exclusive m h = own_small m

-- a request over another plan's, where each has rights of its own: the other plan has one there too, and the two clash
meet : (b : Requests) → IsWellFormed b → (x y : ℕ) → rights_clash x y ≡ true
    → (e : Resource × Mode) → x ≤ own e.1 → (f : Resource × Mode) → Contains b f → y ≤ own f.1 → holds e.0 f.0 ≡ true
    → (n : Mode) × Contains b (e.0, n) × (rights_clash (own e.1) (subtree n) ≡ true)
meet b s x y h e l f i j over =
    let n = s.protocol e.0 f.0 f.1 over i in
    let w = serves_subtree n.0 f.1 n.2 in
    (n.0, n.1, clash_more x y (own e.1) (subtree n.0) h l (own_small e.1) (omega (arith, j, w)) (subtree_small n.0))

pub conflict_over : (a b : Requests) → IsWellFormed a → IsWellFormed b → (n : Resource) → rights_clash (own_over a n) (own_over b n) ≡ true → ModesClash a b
conflict_over a b s t n h =
    let p = clash_parts (own_over a n) (own_over b n) h in
    let e = some_greatest own (λ q. holds q n) a (own_over a n) p.0 (omega arith) in
    let f = some_greatest own (λ q. holds q n) b (own_over b n) p.1 (omega arith) in
    elim (holds_chain e.0.0 f.0.0 n e.2 f.2) [
      | inl i ↦
          let m = meet b t (own_over a n) (own_over b n) h e.0 e.3 f.0 f.1 f.3 i in
          (e.0.0, e.0.1, m.0, e.1, m.1, apart_first e.0.1 m.0 m.2)
      | inr i ↦
          let m = meet a s (own_over b n) (own_over a n) (clash_turned (own_over a n) (own_over b n) h) f.0 f.3 e.0 e.1 e.3 i in
          (f.0.0, m.0, f.0.1, m.1, f.1, apart_second m.0 f.0.1 m.2)
    ]

pub conflict_from_clash : (tables : List TableShape) (a b : Requests) → IsWellFormed a → IsWellFormed b → Clash tables a b → ModesClash a b
conflict_from_clash tables a b s t (name, is, h) = conflict_over a b s t (row_resource tables name) h

le_of : (x y : ℕ) → nat_le x y ≡ true → x ≤ y
le_of x y h = grind (arith, nat_tests)

over_small : (a : Requests) (n : Resource) → own_over a n ≤ 2
over_small a n = greatest_least own (λ q. holds q n) a 2 (λ e k t. own_small e.1)

-- one side of a conflict: a row name under it
name_under : (tables : List TableShape) → IsCatalogue tables → (a b : Requests) → IsWellFormed b → IsPlanOver tables b
    → (r : Resource) (m n : Mode) → Contains a (r, m) → Contains b (r, n) → rights_clash (own m) (subtree n) ≡ true → Clash tables a b
name_under tables is a b s of r m n i j h =
    let f = s.backed (r, n) j in
    let name = has_name tables is f.0.0 (of f.0 f.1) in
    let row = row_resource tables name.0 in
    let u = holds_on r f.0.0 row f.2 name.2 in
    let x = has_greatest own (λ q. holds q row) a (r, m) i u in
    let y = has_greatest own (λ q. holds q row) b f.0 f.1 name.2 in
    let z = f.3 in
    (name.0, name.1, clash_more (own m) (subtree n) (own_over a row) (own_over b row) h x (over_small a row) (omega (arith, y, z)) (over_small b row))

pub clash_either : (tables : List TableShape) (a b : Requests) → Clash tables a b → Clash tables b a
clash_either tables a b (name, is, h) = (name, is, clash_turned (own_over a (row_resource tables name)) (own_over b (row_resource tables name)) h)

pub clash_from_conflict : (tables : List TableShape) → IsCatalogue tables → (a b : Requests) → IsWellFormed a → IsWellFormed b → IsPlanOver tables a → IsPlanOver tables b → ModesClash a b → Clash tables a b
clash_from_conflict tables is a b s t u v (r, m, n, i, j, h) = elim (apart_parts (rights_clash (own m) (subtree n)) (rights_clash (own n) (subtree m)) h) [
  | inl c ↦ name_under tables is a b t v r m n i j c
  | inr c ↦ clash_either tables b a (name_under tables is b a s u r n m j i c)
]

-- a plan that locks a row name to write is in conflict with each that locks it
pub locked_rows : LockedRowsConflict
locked_rows tables a b s t name w r =
    let n = row_resource tables name in
    let x = le_of 2 (own_over a n) w in
    let y = le_of 1 (own_over b n) r in
    conflict_over a b s t n (clash_more 2 1 (own_over a n) (own_over b n) refl x (over_small a n) y (over_small b n))
