-- What coarsening as a whole keeps and leaves out.
use Rattle.std.proofs.Common.{◌≡◌, ℕ, ◌≤◌, nat_lt, ◌||◌, Bool, true, false, cond, max, List, [], ◌∷◌, refl, sym, ap, ◌∙◌, arith, Option, Some, None, inl, inr, suc}
use Rattle.std.proofs.lemmas.Bool.Decides.{nat_tests}
use Rattle.std.specs.List.{filter, list_any, Contains}
use Rattle.std.specs.FinMap.{entries, get}
use Rattle.proclang_types.specs.declared.right.Right.{Right}
use Rattle.proclang_types.specs.declared.right.Right.TheVariants.{Read, Write}
use Rattle.footprint.specs.declared.resource.InPart.TheVariants.{WholePart, Row}
use Rattle.footprint.specs.declared.resource.InTable.TheVariants.{WholeTable, Part}
use Rattle.footprint.specs.declared.resource.Resource.{Resource}
use Rattle.footprint.specs.declared.resource.Resource.TheVariants.{Db, Table}
use Rattle.footprint.specs.Tree.{ancestors_of}
use Rattle.footprint.specs.Rights.{FootprintOf, is_at_least, covers}
use Rattle.modes.specs.Rights.{rank_of, rank}
use Rattle.coarsen.specs.declared.level.Level.{Level}
use Rattle.coarsen.specs.declared.level.Level.TheVariants.{Rows, Partitions}
use Rattle.coarsen.specs.Subtrees.{holds, is_same, greatest, right_on}
use Rattle.coarsen.specs.Coarsening.{is_needed, needed, parent_at, is_parent, children, lifted, coarsened}
use Rattle.coarsen.specs.Laws.{CoversWithoutExcess}
use Rattle.coarsen.proofs.Greatest.{some_greatest, greatest_least}
use Rattle.coarsen.proofs.Entries.{right_on-entries, at_least_rank, greatest_gathered, get_member}
use Rattle.coarsen.proofs.Covered.{right_over, some_rank, filter_less, covers_over, coarsened_over, coarsened_under}
use Rattle.coarsen.proofs.TreeLaws.{holds_descendants, any_of}
use Rattle.coarsen.proofs.CoarseningLaws.{drops_covered, replaces_many}
use Rattle.coarsen.proofs.Children.{fewer, no_children, the_parent}

-- ---- rights

rank_at_least : (x : Right) (o : Option Right) → rank_of x ≤ rank o → is_at_least x o ≡ true
rank_at_least Read None h = absurd (omega (arith, h))
rank_at_least Read (Some Read) h = refl
rank_at_least Read (Some Write) h = refl
rank_at_least Write None h = absurd (omega (arith, h))
rank_at_least Write (Some Read) h = absurd (omega (arith, h))
rank_at_least Write (Some Write) h = refl

pub same_right : (o p : Option Right) → rank o ≡ rank p → o ≡ p
same_right None None h = refl
same_right None (Some Read) h = absurd (omega (arith, h))
same_right None (Some Write) h = absurd (omega (arith, h))
same_right (Some Read) None h = absurd (omega (arith, h))
same_right (Some Read) (Some Read) h = refl
same_right (Some Read) (Some Write) h = absurd (omega (arith, h))
same_right (Some Write) None h = absurd (omega (arith, h))
same_right (Some Write) (Some Read) h = absurd (omega (arith, h))
same_right (Some Write) (Some Write) h = refl

-- ---- what was covered is covered

among : (a r : Resource) → holds a r ≡ true → Contains (r ∷ ancestors_of r) a
among a r h = elim (holds_descendants.only a r h) [
  | inl same ↦ (0, omega arith, sym same)
  | inr k ↦ (suc k.0, (let m = k.1 in omega (arith, m)), k.2)
]

-- what the entries on a resource and its ancestors reach is covered
over_covers : (f : FootprintOf) (r : Resource) (x : Right) → rank_of x ≤ right_over f r → covers f r x ≡ true
over_covers f r x h =
    let d = some_greatest rank_of (λ s. holds s r) (entries f) (rank_of x) (some_rank x) h in
    let at : is_at_least x (get f d.0.0) ≡ true = ap (is_at_least x) (get_member f d.0 d.1) ∙ rank_at_least x (Some d.0.1) d.3 in
    any_of (λ q. is_at_least x (get f q)) (r ∷ ancestors_of r) d.0.0 (among d.0.0 r d.2) at

still_covered : (k : ℕ) (f : FootprintOf) (r : Resource) (x : Right) → covers f r x ≡ true → covers (coarsened k f) r x ≡ true
still_covered k f r x h =
    let a = covers_over f r x h in
    let b = coarsened_over k f r in
    over_covers (coarsened k f) r x (omega (arith, a, b))

-- ---- no entry is covered by another

not_true : (b : Bool) → (b ≡ true → ⊥) → b ≡ false
not_true true h = absurd (h refl)
not_true false h = refl

true_false : true ≡ false → ⊥
true_false e = absurd (cc)

some_right : (x y : Right) → Some x ≡ Some y → x ≡ y
some_right x y e = cc

either_less : (a b c d : Bool) → (a ≡ true → c ≡ true) → (d ≡ false → b ≡ false) → c || d ≡ false → a || b ≡ false
either_less a b true d f g h = absurd (cc)
either_less true b false d f g h = let w : false ≡ true = f refl in absurd (cc)
either_less false b false d f g h = g h

-- where fewer pass a test, none does where none did
none_passes : (t u : Resource → Bool) (rs : List Resource) → ((a : Resource) → t a ≡ true → u a ≡ true) → list_any u rs ≡ false → list_any t rs ≡ false
none_passes t u [] m h = refl
none_passes t u (a ∷ rs) m h = either_less (t a) (list_any t rs) (u a) (list_any u rs) (m a) (none_passes t u rs m) h

none_of : (test : Resource → Bool) (rs : List Resource) (a : Resource) → list_any test rs ≡ false → Contains rs a → test a ≡ false
none_of test rs a h k = not_true (test a) (λ t. true_false (sym (any_of test rs a k t) ∙ h))

-- no right is added
needed_on : (f : FootprintOf) (r : Resource) → right_on (needed f) r ≤ right_on f r
needed_on f r =
    let here = right_on-entries (needed f) r in
    let g = greatest_gathered (is_same r) (filter (is_needed f) (entries f)) in
    let m = filter_less (is_needed f) (is_same r) (entries f) in
    let was = right_on-entries f r in
    omega (arith, here, g, m, was)

left_free : (f : FootprintOf) (r : Resource) (x y : Right) → get f r ≡ Some y → right_on (needed f) r ≡ rank_of x
    → (b : Bool) → list_any (λ a. is_at_least y (get f a)) (ancestors_of r) ≡ b → list_any (λ a. is_at_least x (get f a)) (ancestors_of r) ≡ false
left_free f r x y e is true c =
    let n : right_on (needed f) r ≡ 0 = drops_covered.entry f r y e ∙ ap (λ b. cond b 0 (rank_of y)) c in
    let s = some_rank x in
    absurd (omega (arith, n, s, is))
left_free f r x y e is false c =
    let n : right_on (needed f) r ≡ rank_of y = drops_covered.entry f r y e ∙ ap (λ b. cond b 0 (rank_of y)) c in
    let same : x ≡ y = some_right x y (same_right (Some x) (Some y) (sym is ∙ n)) in
    ap (λ (z : Right). list_any (λ a. is_at_least z (get f a)) (ancestors_of r)) same ∙ c

-- an entry that is left has no ancestor that had at least its right
left : (f : FootprintOf) (r : Resource) (x : Right) → get (needed f) r ≡ Some x → (o : Option Right) → get f r ≡ o → list_any (λ a. is_at_least x (get f a)) (ancestors_of r) ≡ false
left f r x h None e =
    let n = drops_covered.none f r e in
    let is : right_on (needed f) r ≡ rank_of x = ap rank h in
    let s = some_rank x in
    absurd (omega (arith, n, is, s))
left f r x h (Some y) e = left_free f r x y e (ap rank h) (list_any (λ a. is_at_least y (get f a)) (ancestors_of r)) refl

free_above : (f : FootprintOf) (r above : Resource) (x : Right) → get (needed f) r ≡ Some x → Contains (ancestors_of r) above → is_at_least x (get (needed f) above) ≡ false
free_above f r above x h k = not_true (is_at_least x (get (needed f) above)) (λ t.
    let low = at_least_rank x (get (needed f) above) t in
    let on = needed_on f above in
    let had = rank_at_least x (get f above) (omega (arith, low, on)) in
    true_false (sym had ∙ none_of (λ a. is_at_least x (get f a)) (ancestors_of r) above (left f r x h (get f r) refl) k))

-- ---- few children

not_more : (k c : ℕ) → nat_lt k c ≡ false → c ≤ k
not_more k c h = grind (arith, nat_tests)

not_above : (k c : ℕ) → c ≤ k → nat_lt k c ≡ false
not_above k c h = grind (arith, nat_tests, h)

few_by : (level : Level) (k : ℕ) (f : FootprintOf) (q : Resource) (b : Bool) → nat_lt k (children level f q) ≡ b → children level (lifted level k f) q ≤ k
few_by level k f q true many =
    let none = no_children level (lifted level k f) q (λ r t.
    replaces_many.children_go level k f r q (the_parent (parent_at level r) q t) ∙ ap (λ b. cond b 0 (right_on f r)) many) in
    omega (arith, none)
few_by level k f q false few =
    let m = fewer level (lifted level k f) f q (λ r t there.
    let is : right_on (lifted level k f) r ≡ right_on f r = replaces_many.children_go level k f r q (the_parent (parent_at level r) q t) ∙ ap (λ b. cond b 0 (right_on f r)) few in
    omega (arith, is, there)) in
    let n = not_more k (children level f q) few in
    omega (arith, m, n)

lifted_few : (level : Level) (k : ℕ) (f : FootprintOf) (q : Resource) → children level (lifted level k f) q ≤ k
lifted_few level k f q = few_by level k f q (nat_lt k (children level f q)) refl

needed_fewer : (level : Level) (f : FootprintOf) (q : Resource) → children level (needed f) q ≤ children level f q
needed_fewer level f q = fewer level (needed f) f q (λ r t there. let n = needed_on f r in omega (arith, n, there))

-- no resource is the child of a row
no_child_of_row : (s : Resource) (t p n : ℕ) → is_parent (parent_at Partitions s) (Table t (Part p (Row n))) ≡ true → ⊥
no_child_of_row Db t p n h = absurd (cc)
no_child_of_row (Table u WholeTable) t p n h = absurd (cc)
no_child_of_row (Table u (Part q WholePart)) t p n h = let e = the_parent (Some (Table u WholeTable)) (Table t (Part p (Row n))) h in absurd (cc)
no_child_of_row (Table u (Part q (Row m))) t p n h = absurd (cc)

not_raised : (was now more : ℕ) (b : Bool) → now ≡ max was (cond b more 0) → more ≤ 0 → now ≡ was
not_raised was now more true e z = omega (arith, e, z)
not_raised was now more false e z = omega (arith, e)

-- rows keep their entries where partitions are lifted
rows_stay : (k : ℕ) (f : FootprintOf) (q r : Resource) → is_parent (parent_at Rows r) q ≡ true → right_on (lifted Partitions k f) r ≡ right_on f r
rows_stay k f q Db h = absurd (cc)
rows_stay k f q (Table t WholeTable) h = absurd (cc)
rows_stay k f q (Table t (Part p WholePart)) h = absurd (cc)
rows_stay k f q (Table t (Part p (Row n))) h =
    let is = replaces_many.parent_comes Partitions k f (Table t (Part p (Row n))) refl in
    let none = greatest_least rank_of (λ s. is_parent (parent_at Partitions s) (Table t (Part p (Row n)))) (entries f) 0 (λ e c u. absurd (no_child_of_row e.0 t p n u)) in
    not_raised (right_on f (Table t (Part p (Row n)))) _ _ (nat_lt k (children Partitions f (Table t (Part p (Row n))))) is none

rows_fewer : (k : ℕ) (f : FootprintOf) (q : Resource) → children Rows (lifted Partitions k f) q ≤ children Rows f q
rows_fewer k f q = fewer Rows (lifted Partitions k f) f q (λ r t there. let is = rows_stay k f q r t in omega (arith, is, there))

coarsened_few : (k : ℕ) (f : FootprintOf) (level : Level) (q : Resource) → children level (coarsened k f) q ≤ k
coarsened_few k f Rows q =
    let a = lifted_few Rows k (needed f) q in
    let b = rows_fewer k (lifted Rows k (needed f)) q in
    let c = needed_fewer Rows (lifted Partitions k (lifted Rows k (needed f))) q in
    omega (arith, a, b, c)
coarsened_few k f Partitions q =
    let a = lifted_few Partitions k (lifted Rows k (needed f)) q in
    let b = needed_fewer Partitions (lifted Partitions k (lifted Rows k (needed f))) q in
    omega (arith, a, b)

-- ---- where there are few, nothing is lifted

lifted_same_by : (level : Level) (k : ℕ) (f : FootprintOf) → ((q : Resource) → children level f q ≤ k) → (r : Resource) (o : Option Resource) → parent_at level r ≡ o → right_on (lifted level k f) r ≡ right_on f r
lifted_same_by level k f few r (Some q) e =
    replaces_many.children_go level k f r q e ∙ ap (λ b. cond b 0 (right_on f r)) (not_above k (children level f q) (few q))
lifted_same_by level k f few r None e =
    let is : right_on (lifted level k f) r ≡ max (right_on f r) 0 =
    replaces_many.parent_comes level k f r e ∙ ap (λ b. max (right_on f r) (cond b (greatest rank_of (λ s. is_parent (parent_at level s) r) (entries f)) 0)) (not_above k (children level f r) (few r)) in
    omega (arith, is)

pub lifted_same : (level : Level) (k : ℕ) (f : FootprintOf) → ((q : Resource) → children level f q ≤ k) → (r : Resource) → right_on (lifted level k f) r ≡ right_on f r
lifted_same level k f few r = lifted_same_by level k f few r (parent_at level r) refl

-- once the entries that are covered are gone, they are gone
needed_same_by : (g f : FootprintOf) → ((r : Resource) → right_on g r ≡ right_on (needed f) r) → (r : Resource) (o : Option Right) → get g r ≡ o → right_on (needed g) r ≡ right_on g r
needed_same_by g f same r None e =
    let is : right_on g r ≡ 0 = ap rank e in
    drops_covered.none g r e ∙ sym is
needed_same_by g f same r (Some x) e =
    let there : get (needed f) r ≡ Some x = sym (same_right (get g r) (get (needed f) r) (same r)) ∙ e in
    let free : list_any (λ a. is_at_least x (get g a)) (ancestors_of r) ≡ false =
    none_passes (λ a. is_at_least x (get g a)) (λ a. is_at_least x (get f a)) (ancestors_of r) (λ a t.
    let low = at_least_rank x (get g a) t in
    let at = same a in
    let on = needed_on f a in
    rank_at_least x (get f a) (omega (arith, low, at, on))) (left f r x there (get f r) refl) in
    let is : right_on g r ≡ rank_of x = ap rank e in
    drops_covered.entry g r x e ∙ ap (λ b. cond b 0 (rank_of x)) free ∙ sym is

needed_same : (g f : FootprintOf) → ((r : Resource) → right_on g r ≡ right_on (needed f) r) → (r : Resource) → right_on (needed g) r ≡ right_on (needed f) r
needed_same g f same r = needed_same_by g f same r (get g r) refl ∙ same r

left_alone : (k : ℕ) (f : FootprintOf) → ((level : Level) (parent : Resource) → children level (needed f) parent ≤ k) → (r : Resource) → right_on (coarsened k f) r ≡ right_on (needed f) r
left_alone k f few r =
    let first : (s : Resource) → right_on (lifted Rows k (needed f)) s ≡ right_on (needed f) s = lifted_same Rows k (needed f) (few Rows) in
    let still : (q : Resource) → children Partitions (lifted Rows k (needed f)) q ≤ k = λ q.
    (let m = fewer Partitions (lifted Rows k (needed f)) (needed f) q (λ s t there. let e = first s in omega (arith, e, there)) in
    let n = few Partitions q in
    omega (arith, m, n)) in
    let second : (s : Resource) → right_on (lifted Partitions k (lifted Rows k (needed f))) s ≡ right_on (needed f) s = λ s.
    lifted_same Partitions k (lifted Rows k (needed f)) still s ∙ first s in
    needed_same (lifted Partitions k (lifted Rows k (needed f))) f second r

pub covers_without_excess : CoversWithoutExcess
covers_without_excess = record {
  covered = still_covered;
  none_covered = λ k f r above x h c. free_above (lifted Partitions k (lifted Rows k (needed f))) r above x h c;
  nothing_new = coarsened_under;
  few = coarsened_few;
  left_alone = left_alone;
}
