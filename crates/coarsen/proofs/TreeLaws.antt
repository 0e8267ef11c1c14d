-- Subtrees and ancestors, and footprints of a catalogue.
use Rattle.std.proofs.Common.{◌≡◌, ℕ, ◌<◌, ◌%◌, ◌||◌, suc, zero, Bool, true, false, cond, List, [], ◌∷◌, length, refl, sym, ap, ◌∙◌, subst, arith, Option, Some, None, ◌⊎◌, inl, inr, is_some, option_map, unwrap_or, slice_get}
use Rattle.std.specs.List.{Contains, list_any}
use Rattle.std.specs.FinMap.{get, get-empty, get-insert}
use Rattle.std.specs.Ordering.{eq_by_cmp}
use Rattle.std.proofs.lemmas.Option.{slice_get_cases}
use Rattle.catalogue.specs.Shapes.{TableShape, part_with}
use Rattle.proclang_types.specs.declared.right.Right.{Right}
use Rattle.footprint.specs.declared.resource.Resource.{Resource}
use Rattle.footprint.specs.Tree.{resource_cmp, parent_of, ancestors_of}
use Rattle.footprint.specs.Rights.{FootprintOf, greater, with_right}
use Rattle.footprint.specs.OfCatalogue.{IsResourceOf, IsFootprintOf}
use Rattle.coarsen.specs.Subtrees.{holds, is_same}
use Rattle.coarsen.specs.Laws.{HoldsDescendants, FootprintsAreOf}
use Rattle.footprint.proofs.Resources.{resources_total}
use Rattle.coarsen.proofs.Tree.{holds_itself, same_resource, is_same_itself, ties_same, and}
use Rattle.coarsen.proofs.Parents.{depth, parent_depth, same_or_up, over_up, some_ancestor, ancestors_by_parent}

or_right : (a b : Bool) → b ≡ true → a || b ≡ true
or_right true b h = refl
or_right false b h = h

pub any_of : (test : Resource → Bool) (rs : List Resource) (a : Resource) → Contains rs a → test a ≡ true → list_any test rs ≡ true
any_of test [] a k t = absurd (let l = k.1 in omega (arith, l))
any_of test (r ∷ rs) a (zero, l, is) t = let same : r ≡ a = is in ap (λ q. test q || list_any test rs) same ∙ ap (λ b. b || list_any test rs) t
any_of test (r ∷ rs) a (suc n, l, is) t = or_right (test r) (list_any test rs) (any_of test rs a (n, omega (arith, l), is) t)

descendants : (a b : Resource) → Contains (ancestors_of b) a → holds a b ≡ true
descendants a b k =
    let f = some_ancestor (is_same a) b (any_of (is_same a) (ancestors_of b) a k (is_same_itself a)) in
    ap (λ q. holds q b) (same_resource a f.0 f.3) ∙ f.1

only : (n : ℕ) (a b : Resource) → depth b < n → holds a b ≡ true → (a ≡ b) ⊎ Contains (ancestors_of b) a
only zero a b l h = absurd (omega (arith, l))
only (suc n) a b l h = elim (same_or_up b a h) [
  | inl i ↦ inl (same_resource a b (and (holds a b) (holds b a) h i))
  | inr i ↦ elim (parent_of b) as (λ o. parent_of b ≡ o → over_up a o ≡ true → (a ≡ b) ⊎ Contains (ancestors_of b) a) [
    | None ↦ λ e j. absurd (cc)
    | Some p ↦ λ e j.
        let d = parent_depth b p e in
        let all : ancestors_of b ≡ p ∷ ancestors_of p = ancestors_by_parent b p e in
        elim (only n a p (omega (arith, d, l)) j) [
          | inl same ↦ inr (subst (λ q. Contains q a) (sym all) (0, omega arith, sym same))
          | inr k ↦ inr (subst (λ q. Contains q a) (sym all) (suc k.0, (let m = k.1 in omega (arith, m)), k.2))
        ]
  ] refl i
]

pub holds_descendants : HoldsDescendants
holds_descendants = record {
  itself = holds_itself;
  descendants = descendants;
  only = λ a b h. only (suc (depth b)) a b (omega arith) h;
}

added : (tables : List TableShape) (f : FootprintOf) (r q : Resource) (x : Right) → IsFootprintOf tables f → IsResourceOf tables r
    → is_some (get (with_right f r x) q) ≡ true → IsResourceOf tables q
added tables f r q x of is there =
    let got = get-insert resources_total f r (greater (get f r) x) q in
    elim (eq_by_cmp resource_cmp q r) as (λ b. eq_by_cmp resource_cmp q r ≡ b → get (with_right f r x) q ≡ cond b (Some (greater (get f r) x)) (get f q) → IsResourceOf tables q) [
      | true ↦ λ e g. subst (IsResourceOf tables) (sym (same_resource q r (sym (ties_same q r) ∙ e))) is
      | false ↦ λ e g. of q (sym (ap is_some g) ∙ there)
    ] refl got

key_there : (o : Option TableShape) (k : ℕ) → is_some o ≡ true → option_map (λ s. part_with s.split k) o ≡ Some (unwrap_or (option_map (λ s. part_with s.split k) o) 0)
key_there None k h = absurd (cc)
key_there (Some s) k h = refl

table_there : (tables : List TableShape) (t : ℕ) → t < length tables → is_some (slice_get tables t) ≡ true
table_there tables t h = elim ((slice_get_cases tables t).1) [
  | inl (s, l, is, at) ↦ ap is_some is
  | inr (l, is) ↦ absurd (omega (arith, l, h))
]

pub footprints_are_of : FootprintsAreOf
footprints_are_of = record {
  nothing = λ tables r there. let w : false ≡ true = sym (ap is_some (get-empty {X = Right} resource_cmp r)) ∙ there in absurd (cc);
  more = λ tables f r x of is q there. added tables f r q x of is there;
  row = λ tables name is. (is.1, key_there (slice_get tables name.table) name.key (table_there tables name.table is.0));
}
