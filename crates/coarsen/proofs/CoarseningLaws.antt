-- What the steps of coarsening leave, resource by resource.
use Rattle.std.proofs.Common.{◌≡◌, ℕ, nat_lt, ◌&&◌, ◌||◌, not, Bool, true, false, cond, max, List, [], ◌∷◌, refl, sym, ap, ◌∙◌, arith, Option, Some, None, inl, inr}
use Rattle.std.specs.List.{filter, list_any, Contains}
use Rattle.std.specs.FinMap.{entries, get}
use Rattle.proclang_types.specs.declared.right.Right.{Right}
use Rattle.footprint.specs.declared.resource.InPart.TheVariants.{WholePart, Row}
use Rattle.footprint.specs.declared.resource.InTable.TheVariants.{WholeTable, Part}
use Rattle.footprint.specs.declared.resource.Resource.{Resource}
use Rattle.footprint.specs.declared.resource.Resource.TheVariants.{Db, Table}
use Rattle.footprint.specs.Tree.{ancestors_of}
use Rattle.footprint.specs.Rights.{FootprintOf, is_at_least}
use Rattle.modes.specs.Rights.{rank_of, rank}
use Rattle.coarsen.specs.declared.level.Level.{Level}
use Rattle.coarsen.specs.declared.level.Level.TheVariants.{Rows, Partitions}
use Rattle.coarsen.specs.Subtrees.{is_same, greatest, right_on}
use Rattle.coarsen.specs.Coarsening.{is_needed, needed, parent_at, is_parent, place, children, lifted}
use Rattle.coarsen.specs.Laws.{DropsCovered, ReplacesMany}
use Rattle.coarsen.proofs.Tree.{same_resource, is_same_itself}
use Rattle.coarsen.proofs.Greatest.{some_greatest, greatest_least, later, first_or_later}
use Rattle.coarsen.proofs.Entries.{right_on-entries, greatest_gathered, get_member}
use Rattle.coarsen.proofs.Covered.{lifted_is, kept, filter_less, some_rank}

-- ---- steps 2 and 3

-- a parent at a level isn't of the level
parent_is_above : (level : Level) (s q : Resource) → parent_at level s ≡ Some q → parent_at level q ≡ None
parent_is_above Rows Db q e = absurd (cc)
parent_is_above Rows (Table t WholeTable) q e = absurd (cc)
parent_is_above Rows (Table t (Part p WholePart)) q e = absurd (cc)
parent_is_above Rows (Table t (Part p (Row k))) q e = let is : q ≡ Table t (Part p WholePart) = cc in ap (parent_at Rows) is
parent_is_above Partitions Db q e = absurd (cc)
parent_is_above Partitions (Table t WholeTable) q e = absurd (cc)
parent_is_above Partitions (Table t (Part p WholePart)) q e = let is : q ≡ Table t WholeTable = cc in ap (parent_at Partitions) is
parent_is_above Partitions (Table t (Part p (Row k))) q e = absurd (cc)

greatest_same : (f g : Resource → Bool) (es : List (Resource × Right)) → ((s : Resource) → f s ≡ g s) → greatest rank_of f es ≡ greatest rank_of g es
greatest_same f g [] h = refl
greatest_same f g (e ∷ es) h = ap (λ b. max (cond b (rank_of e.1) 0) (greatest rank_of f es)) (h e.0) ∙ ap (λ n. max (cond (g e.0) (rank_of e.1) 0) n) (greatest_same f g es h)

one_of_two : (a b : Bool) (n x y : ℕ) → max (cond (a || b) n 0) (max x y) ≡ max (max (cond a n 0) x) (max (cond b n 0) y)
one_of_two true true n x y = omega arith
one_of_two true false n x y = omega arith
one_of_two false true n x y = omega arith
one_of_two false false n x y = omega arith

greatest_either : (f g : Resource → Bool) (es : List (Resource × Right)) → greatest rank_of (λ s. f s || g s) es ≡ max (greatest rank_of f es) (greatest rank_of g es)
greatest_either f g [] = refl
greatest_either f g (e ∷ es) =
    ap (λ n. max (cond (f e.0 || g e.0) (rank_of e.1) 0) n) (greatest_either f g es)
    ∙ one_of_two (f e.0) (g e.0) (rank_of e.1) (greatest rank_of f es) (greatest rank_of g es)

greatest_if : (b : Bool) (f : Resource → Bool) (es : List (Resource × Right)) → greatest rank_of (λ s. b && f s) es ≡ cond b (greatest rank_of f es) 0
greatest_if true f es = refl
greatest_if false f es = let h = greatest_least rank_of (λ s. false && f s) es 0 (λ e k t. absurd (cc)) in omega (arith, h)

not_true : (b : Bool) → (b ≡ true → ⊥) → b ≡ false
not_true true h = absurd (h refl)
not_true false h = refl

and_false : (a : Bool) → a && false ≡ false
and_false true = refl
and_false false = refl

or_false : (a : Bool) → a || false ≡ a
or_false true = refl
or_false false = refl

both_false : (a b : Bool) → (b ≡ true → a ≡ true) → not a && b ≡ false
both_false true b h = refl
both_false false true h = let w : false ≡ true = h refl in absurd (cc)
both_false false false h = refl

both_false' : (a b : Bool) → (b ≡ true → a ≡ false) → a && b ≡ false
both_false' true true h = h refl
both_false' true false h = refl
both_false' false b h = refl

second_alone : (a b : Bool) → (b ≡ true → a ≡ false) → not a && b ≡ b
second_alone true true h = let w : true ≡ false = h refl in absurd (cc)
second_alone true false h = refl
second_alone false b h = refl

true_false : true ≡ false → ⊥
true_false e = absurd (cc)

swapped : (b : Bool) (n : ℕ) → cond (not b) n 0 ≡ cond b 0 n
swapped true n = refl
swapped false n = refl

some_same : (p q : Resource) → Some p ≡ Some q → p ≡ q
some_same p q e = cc

none_some : (q : Resource) → None ≡ Some q → ⊥
none_some q e = absurd (cc)

turned : (a b : Resource) → is_same a b ≡ true → is_same b a ≡ true
turned a b h = let e = same_resource a b h in ap (λ q. is_same q a) (sym e) ∙ is_same_itself a

-- which entries come to a resource of the level
comes_to_child : (level : Level) (counts : Resource → ℕ) (k : ℕ) (r parent s : Resource) → parent_at level r ≡ Some parent
    → (o : Option Resource) → parent_at level s ≡ o → is_same r (place o counts k s) ≡ not (nat_lt k (counts parent)) && is_same r s
comes_to_child level counts k r parent s up None e =
    let off : is_same r s ≡ false = not_true (is_same r s) (λ t. none_some parent (sym e ∙ ap (parent_at level) (sym (same_resource r s t)) ∙ up)) in
    off ∙ sym (ap (λ b. not (nat_lt k (counts parent)) && b) off ∙ and_false (not (nat_lt k (counts parent))))
comes_to_child level counts k r parent s up (Some q) e =
    let one : is_same r s ≡ true → parent ≡ q = λ t. some_same parent q (sym up ∙ ap (parent_at level) (same_resource r s t) ∙ e) in
    elim (nat_lt k (counts q)) as (λ v. nat_lt k (counts q) ≡ v → is_same r (cond v q s) ≡ not (nat_lt k (counts parent)) && is_same r s) [
      | true ↦ λ v.
          let off : is_same r q ≡ false = not_true (is_same r q) (λ t. none_some parent (sym (parent_is_above level s q e) ∙ ap (parent_at level) (sym (same_resource r q t)) ∙ up)) in
          off ∙ sym (both_false (nat_lt k (counts parent)) (is_same r s) (λ t. ap (λ p. nat_lt k (counts p)) (one t) ∙ v))
      | false ↦ λ v. sym (second_alone (nat_lt k (counts parent)) (is_same r s) (λ t. ap (λ p. nat_lt k (counts p)) (one t) ∙ v))
    ] refl

-- and to any other resource
comes_to_other : (level : Level) (counts : Resource → ℕ) (k : ℕ) (r s : Resource) → parent_at level r ≡ None
    → (o : Option Resource) → parent_at level s ≡ o → is_same r (place o counts k s) ≡ is_same r s || (nat_lt k (counts r) && is_parent o r)
comes_to_other level counts k r s up None e = sym (ap (λ b. is_same r s || b) (and_false (nat_lt k (counts r))) ∙ or_false (is_same r s))
comes_to_other level counts k r s up (Some q) e =
    let off : is_same r s ≡ false = not_true (is_same r s) (λ t. none_some q (sym up ∙ ap (parent_at level) (same_resource r s t) ∙ e)) in
    elim (nat_lt k (counts q)) as (λ v. nat_lt k (counts q) ≡ v → is_same r (cond v q s) ≡ is_same r s || (nat_lt k (counts r) && is_same q r)) [
      | true ↦ λ v. elim (is_same r q) as (λ w. is_same r q ≡ w → w ≡ is_same r s || (nat_lt k (counts r) && is_same q r)) [
        | true ↦ λ w. sym (ap (λ b. b || (nat_lt k (counts r) && is_same q r)) off
            ∙ ap (λ b. b && is_same q r) (ap (λ p. nat_lt k (counts p)) (same_resource r q w) ∙ v) ∙ turned r q w)
        | false ↦ λ w.
            let other : is_same q r ≡ false = not_true (is_same q r) (λ t. true_false (sym (turned q r t) ∙ w)) in
            sym (ap (λ b. b || (nat_lt k (counts r) && is_same q r)) off ∙ ap (λ b. nat_lt k (counts r) && b) other ∙ and_false (nat_lt k (counts r)))
      ] refl
      | false ↦ λ v. off ∙ sym (ap (λ b. b || (nat_lt k (counts r) && is_same q r)) off
          ∙ both_false' (nat_lt k (counts r)) (is_same q r) (λ t. ap (λ p. nat_lt k (counts p)) (sym (same_resource q r t)) ∙ v))
    ] refl

pub replaces_many : ReplacesMany
replaces_many = record {
  children_go = λ level k f r parent up.
      right_on-entries (lifted level k f) r ∙ lifted_is (is_same r) level k f
      ∙ greatest_same _ (λ s. not (nat_lt k (children level f parent)) && is_same r s) (entries f) (λ s. comes_to_child level (children level f) k r parent s up (parent_at level s) refl)
      ∙ greatest_if (not (nat_lt k (children level f parent))) (is_same r) (entries f)
      ∙ ap (λ n. cond (not (nat_lt k (children level f parent))) n 0) (sym (right_on-entries f r))
      ∙ swapped (nat_lt k (children level f parent)) (right_on f r);
  parent_comes = λ level k f r up.
      right_on-entries (lifted level k f) r ∙ lifted_is (is_same r) level k f
      ∙ greatest_same _ (λ s. is_same r s || (nat_lt k (children level f r) && is_parent (parent_at level s) r)) (entries f) (λ s. comes_to_other level (children level f) k r s up (parent_at level s) refl)
      ∙ greatest_either (is_same r) (λ s. nat_lt k (children level f r) && is_parent (parent_at level s) r) (entries f)
      ∙ ap (λ n. max n (greatest rank_of (λ s. nat_lt k (children level f r) && is_parent (parent_at level s) r) (entries f))) (sym (right_on-entries f r))
      ∙ ap (λ n. max (right_on f r) n) (greatest_if (nat_lt k (children level f r)) (λ s. is_parent (parent_at level s) r) (entries f));
}

-- ---- steps 1 and 4

filter_passes : (p : Resource × Right → Bool) (es : List (Resource × Right)) (d : Resource × Right) → Contains (filter p es) d → (p d ≡ true) × Contains es d
filter_passes p [] d k = absurd (let l = k.1 in omega (arith, l))
filter_passes p (e ∷ es) d k = elim (p e) as (λ v. p e ≡ v → Contains (cond v (e ∷ filter p es) (filter p es)) d → (p d ≡ true) × Contains (e ∷ es) d) [
  | true ↦ λ on k. elim (first_or_later e (filter p es) d k) [
    | inl same ↦ (ap p (sym same) ∙ on, (0, omega arith, same))
    | inr l ↦ let r = filter_passes p es d l in (r.0, later e es d r.1)
  ]
  | false ↦ λ off k. let r = filter_passes p es d k in (r.0, later e es d r.1)
] refl k

some_right : (x y : Right) → Some x ≡ Some y → x ≡ y
some_right x y e = cc

no_right : (x : Right) → None ≡ Some x → ⊥
no_right x e = absurd (cc)

-- the right of a resource's entry is that of each entry there
pub same_entry : (f : FootprintOf) (r : Resource) (x : Right) (d : Resource × Right) → get f r ≡ Some x → Contains (entries f) d → is_same r d.0 ≡ true → d ≡ (r, x)
same_entry f r x d h k t =
    let at : r ≡ d.0 = same_resource r d.0 t in
    let right : d.1 ≡ x = some_right d.1 x (sym (get_member f d k) ∙ ap (get f) (sym at) ∙ h) in
    ap (λ (q : Resource). (q, d.1)) (sym at) ∙ ap (λ (y : Right). (r, y)) right

needed_entry : (f : FootprintOf) (r : Resource) (x : Right) → get f r ≡ Some x
    → (b : Bool) → list_any (λ a. is_at_least x (get f a)) (ancestors_of r) ≡ b → right_on (needed f) r ≡ cond b 0 (rank_of x)
needed_entry f r x h true covered =
    let here = right_on-entries (needed f) r in
    let g = greatest_gathered (is_same r) (filter (is_needed f) (entries f)) in
    let none = greatest_least rank_of (is_same r) (filter (is_needed f) (entries f)) 0 (λ d k t.
    let p = filter_passes (is_needed f) (entries f) d k in
    let is = same_entry f r x d h p.1 t in
    absurd (true_false (sym p.0 ∙ ap (is_needed f) is ∙ ap not covered))) in
    omega (arith, here, g, none)
needed_entry f r x h false free =
    let here = right_on-entries (needed f) r in
    let g = greatest_gathered (is_same r) (filter (is_needed f) (entries f)) in
    let was = right_on-entries f r in
    let is : right_on f r ≡ rank_of x = ap rank h in
    let high = filter_less (is_needed f) (is_same r) (entries f) in
    let d = some_greatest rank_of (is_same r) (entries f) (rank_of x) (some_rank x) (omega (arith, was, is)) in
    let same = same_entry f r x d.0 h d.1 d.2 in
    let low = kept (is_needed f) (is_same r) (entries f) d.0 d.1 (ap (is_needed f) same ∙ ap not free) d.2 in
    let right = d.3 in
    omega (arith, here, g, was, is, high, low, right)

needed_none : (f : FootprintOf) (r : Resource) → get f r ≡ None → right_on (needed f) r ≡ 0
needed_none f r h =
    let here = right_on-entries (needed f) r in
    let g = greatest_gathered (is_same r) (filter (is_needed f) (entries f)) in
    let high = filter_less (is_needed f) (is_same r) (entries f) in
    let was = right_on-entries f r in
    let is : right_on f r ≡ 0 = ap rank h in
    omega (arith, here, g, high, was, is)

pub drops_covered : DropsCovered
drops_covered = record {
  entry = λ f r x h. needed_entry f r x h (list_any (λ a. is_at_least x (get f a)) (ancestors_of r)) refl;
  none = needed_none;
}
