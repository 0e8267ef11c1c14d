-- The footprint of a list of accesses, resource by resource.
use Rattle.std.proofs.Common.{◌≡◌, ℕ, ◌<◌, Bool, true, false, cond, ◌&&◌, ◌||◌, List, [], ◌∷◌, ◌++◌, map, length, refl, sym, ap, ◌∙◌, subst, Option, Some, None}
use Rattle.std.specs.Prelude.{slice_index_or, if◌then◌else◌}
use Rattle.std.proofs.lemmas.List.Folds.{list_any-append, list_any_at, Any-from_list_any}
use Rattle.std.specs.List.{list_any, Contains}
use Rattle.std.specs.FinMap.{get, find, get-insert, get-from_entries, same_map}
use Rattle.std.specs.Cmp.{eq_by_cmp_equiv}
use Rattle.std.specs.Ordering.{eq_by_cmp}
use Rattle.proclang_types.specs.declared.right.Right.{Right}
use Rattle.proclang_types.specs.declared.right.Right.TheVariants.{Read, Write}
use Rattle.footprint.specs.declared.resource.Resource.{Resource}
use Rattle.footprint.specs.Tree.{resource_cmp}
use Rattle.footprint.specs.Rights.{is_at_least, greater, with_right, covers}
use Rattle.footprint.proofs.Resources.{resources_total, exact_resources}
use Rattle.meaning.specs.Runs.{Access}
use Rattle.meaning.specs.Reconnaissance.{is_access_of, greatest_right, greatest_rights, HasGreatestRights}
use Rattle.meaning.proofs.Frame.{is_equal}

same_resource : (r q : Resource) → eq_by_cmp resource_cmp r q ≡ true → r ≡ q
same_resource r q e = exact_resources r q (is_equal (resource_cmp r q) e)

itself : (r : Resource) → eq_by_cmp resource_cmp r r ≡ true
itself r = (eq_by_cmp_equiv resources_total).refl r

-- one of the accesses is of the resource, and one of them writes it
abbrev has : List Access → Resource → Bool
has accesses r = list_any (is_access_of r) accesses

abbrev writes : List Access → Resource → Bool
writes accesses r = list_any (λ access. is_access_of r access && is_at_least Write (Some access.1)) accesses

abbrev greatest : Bool → Right
greatest b = if b then Write else Read

-- what the footprint has at a resource
found_by : (f : Resource → Right) (accesses : List Access) (r : Resource) → find resource_cmp r (map (λ (access : Access). (access.0, f access.0)) accesses) ≡ cond (has accesses r) (Some (f r)) None
found_by f [] r = refl
found_by f (a ∷ accesses) r =
    elim (eq_by_cmp resource_cmp r a.0) as (λ b. eq_by_cmp resource_cmp r a.0 ≡ b
    → cond b (Some (f a.0)) (find resource_cmp r (map (λ (access : Access). (access.0, f access.0)) accesses)) ≡ cond (b || has accesses r) (Some (f r)) None) [
      | true ↦ λ e. ap (λ (q : Resource). Some (f q)) (sym (same_resource r a.0 e))
      | false ↦ λ e. found_by f accesses r
    ] refl

pub at_resource : (accesses : List Access) (r : Resource) → get (greatest_rights accesses) r ≡ cond (has accesses r) (Some (greatest (writes accesses r))) None
at_resource accesses r =
    get-from_entries resources_total (map (λ (access : Access). (access.0, greatest_right accesses access.0)) accesses) r ∙ found_by (greatest_right accesses) accesses r

-- ---- one access more

or_more : (a b c d : Bool) → (a ≡ true → c ≡ true) → (b ≡ true → d ≡ true) → (a || b) ≡ true → (c || d) ≡ true
or_more true b c d f g e = ap (λ x. x || d) (f refl)
or_more false b true d f g e = refl
or_more false b false d f g e = g e

and_left : (a b : Bool) → (a && b) ≡ true → a ≡ true
and_left true b e = refl
and_left false b e = e

and_right : (a b : Bool) → (a && b) ≡ true → b ≡ true
and_right true b e = e
and_right false b e = absurd (cc)

written_is_had : (accesses : List Access) (r : Resource) → writes accesses r ≡ true → has accesses r ≡ true
written_is_had [] r e = e
written_is_had (a ∷ accesses) r e =
    or_more (is_access_of r a && is_at_least Write (Some a.1)) (writes accesses r) (is_access_of r a) (has accesses r) (and_left (is_access_of r a) (is_at_least Write (Some a.1))) (written_is_had accesses r) e

new_right : (x : Right) → greatest (is_at_least Write (Some x) || false) ≡ x
new_right Read = refl
new_right Write = refl

-- what is there, what is written, whether the new access is of the resource, its right, and what the resource of the access has
one_step : (h w e : Bool) (x : Right) (o : Option Right) → (w ≡ true → h ≡ true) → (e ≡ true → o ≡ cond h (Some (greatest w)) None)
    → cond (h || (e || false)) (Some (greatest (w || ((e && is_at_least Write (Some x)) || false)))) None ≡ cond e (Some (greater o x)) (cond h (Some (greatest w)) None)
one_step true true true x o f g = ap (λ (p : Option Right). Some (greater p x)) (sym (g refl))
one_step true true false x o f g = refl
one_step true false true x o f g = ap (λ (y : Right). Some y) (new_right x) ∙ ap (λ (p : Option Right). Some (greater p x)) (sym (g refl))
one_step true false false x o f g = refl
one_step false true e x o f g = absurd (let k = f refl in cc)
one_step false false true x o f g = ap (λ (y : Right). Some y) (new_right x) ∙ ap (λ (p : Option Right). Some (greater p x)) (sym (g refl))
one_step false false false x o f g = refl

pub one_more : (accesses : List Access) (access : Access) → greatest_rights (accesses ++ access ∷ []) ≡ with_right (greatest_rights accesses) access.0 access.1
one_more accesses a = same_map resources_total exact_resources _ _ (λ q.
    at_resource (accesses ++ a ∷ []) q
    ∙ ap (λ (b : Bool). cond b (Some (greatest (writes (accesses ++ a ∷ []) q))) None) (list_any-append (is_access_of q) accesses (a ∷ []))
    ∙ ap (λ (b : Bool). cond (has accesses q || (is_access_of q a || false)) (Some (greatest b)) None) (list_any-append (λ access. is_access_of q access && is_at_least Write (Some access.1)) accesses (a ∷ []))
    ∙ one_step (has accesses q) (writes accesses q) (is_access_of q a) a.1 (get (greatest_rights accesses) a.0) (written_is_had accesses q)
    (λ e. ap (get (greatest_rights accesses)) (sym (same_resource q a.0 e)) ∙ at_resource accesses q)
    ∙ ap (cond (is_access_of q a) (Some (greater (get (greatest_rights accesses) a.0) a.1))) (sym (at_resource accesses q))
    ∙ sym (get-insert resources_total (greatest_rights accesses) a.0 (greater (get (greatest_rights accesses) a.0) a.1) q))

-- ---- the greatest rights

abbrev AtLeast : List Access → Resource → Right → Type 0
AtLeast accesses r x = is_at_least x (get (greatest_rights accesses) r) ≡ true

one_of : (accesses : List Access) (r : Resource) (x : Right) → Contains accesses (r, x) → has accesses r ≡ true
one_of accesses r x c = list_any_at (is_access_of r) accesses c.0 (r, x) c.1 (ap (is_access_of r) c.2 ∙ itself r)

one_writes : (accesses : List Access) (r : Resource) → Contains accesses (r, Write) → writes accesses r ≡ true
one_writes accesses r c = list_any_at (λ access. is_access_of r access && is_at_least Write (Some access.1)) accesses c.0 (r, Write) c.1
    (ap (λ (access : Access). is_access_of r access && is_at_least Write (Some access.1)) c.2 ∙ ap (λ b. b && true) (itself r))

at_least : (accesses : List Access) (r : Resource) (x : Right) → Contains accesses (r, x) → AtLeast accesses r x
at_least accesses r Read c = ap (is_at_least Read) (at_resource accesses r ∙ ap (λ b. cond b (Some (greatest (writes accesses r))) None) (one_of accesses r Read c))
at_least accesses r Write c = ap (is_at_least Write) (at_resource accesses r
    ∙ ap (λ b. cond b (Some (greatest (writes accesses r))) None) (one_of accesses r Write c)
    ∙ ap (λ (b : Bool). Some (greatest b)) (one_writes accesses r c))

or_left : (a b : Bool) → a ≡ true → (a || b) ≡ true
or_left true b e = refl
or_left false b e = absurd (cc)

is_covered : (accesses : List Access) (a : Access) → Contains accesses a → covers (greatest_rights accesses) a.0 a.1 ≡ true
is_covered accesses a c = or_left (is_at_least a.1 (get (greatest_rights accesses) a.0)) _ (at_least accesses a.0 a.1 c)

is_read : (x : Right) → is_at_least Write (Some x) ≡ false → x ≡ Read
is_read Read e = refl
is_read Write e = absurd (cc)

is_write : (x : Right) → is_at_least Write (Some x) ≡ true → x ≡ Write
is_write Read e = absurd (cc)
is_write Write e = refl

pair_of : (a : Access) (r : Resource) (x : Right) → is_access_of r a ≡ true → a.1 ≡ x → a ≡ (r, x)
pair_of a r x e is = λ i. (sym (same_resource r a.0 e) i, is i)

-- an access at a place of the list is one of its accesses
contains : (accesses : List Access) (k : ℕ) (a b : Access) → k < length accesses → slice_index_or accesses k a ≡ a → a ≡ b → Contains accesses b
contains accesses k a b less is same = (k, less, subst (λ (x : Access). slice_index_or accesses k x ≡ x) same is)

a_write : (accesses : List Access) (r : Resource) → writes accesses r ≡ true → Contains accesses (r, Write)
a_write accesses r e =
    let any = Any-from_list_any (λ access. is_access_of r access && is_at_least Write (Some access.1)) accesses e in
    let w = is_at_least Write (Some any.1.1) in
    contains accesses any.0 any.1 (r, Write) any.2 any.3
    (pair_of any.1 r Write (and_left (is_access_of r any.1) w any.4) (is_write any.1.1 (and_right (is_access_of r any.1) w any.4)))

a_read : (accesses : List Access) (r : Resource) → has accesses r ≡ true → writes accesses r ≡ false → Contains accesses (r, Read)
a_read accesses r e n =
    let any = Any-from_list_any (is_access_of r) accesses e in
    let written = λ (access : Access). is_access_of r access && is_at_least Write (Some access.1) in
    contains accesses any.0 any.1 (r, Read) any.2 any.3
    (elim (is_at_least Write (Some any.1.1)) as (λ b. is_at_least Write (Some any.1.1) ≡ b → any.1 ≡ (r, Read)) [
      | true ↦ λ w.
          let found : writes accesses r ≡ true = list_any_at written accesses any.0 any.1 any.2 (ap written any.3 ∙ ap (λ b. b && is_at_least Write (Some any.1.1)) any.4 ∙ w) in
          let clash : true ≡ false = sym found ∙ n in
          absurd (cc)
      | false ↦ λ w. pair_of any.1 r Read any.4 (is_read any.1.1 w)
    ] refl)

by_right : (accesses : List Access) (r : Resource) (x : Right) (w : Bool) → has accesses r ≡ true → writes accesses r ≡ w → greatest w ≡ x → Contains accesses (r, x)
by_right accesses r x true h e is = subst (λ (y : Right). Contains accesses (r, y)) is (a_write accesses r e)
by_right accesses r x false h e is = subst (λ (y : Right). Contains accesses (r, y)) is (a_read accesses r h e)

inside : (x y : Right) → Some x ≡ Some y → x ≡ y
inside x y e = cc

was_accessed : (accesses : List Access) (r : Resource) (x : Right) (h : Bool) → has accesses r ≡ h → cond h (Some (greatest (writes accesses r))) None ≡ Some x → Contains accesses (r, x)
was_accessed accesses r x true h is = by_right accesses r x (writes accesses r) h refl (inside (greatest (writes accesses r)) x is)
was_accessed accesses r x false h is = absurd (cc)

pub has_greatest_rights : (accesses : List Access) → HasGreatestRights accesses (greatest_rights accesses)
has_greatest_rights accesses = record {
  covered = is_covered accesses;
  accessed = λ r x e. was_accessed accesses r x (has accesses r) refl (sym (at_resource accesses r) ∙ e);
  greatest = at_least accesses;
}
