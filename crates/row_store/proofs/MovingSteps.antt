-- Steps of loops that move rows.
use Rattle.std.proofs.Common.{◌≡◌, Bool, true, false, ◌&&◌, ◌||◌, if◌then◌else◌, List, Option, Some, None, refl, sym, ap, ◌∙◌}
use Rattle.values.specs.declared.name.RowName.{RowName}
use Rattle.catalogue.specs.Shapes.{TableShape}
use Rattle.footprint.specs.declared.resource.Resource.{Resource}
use Rattle.values.specs.Database.{RowOf}
use Rattle.shelves.specs.Places.{PlaceOf, full, is_same_shelf, is_same_name}
use Rattle.shelves.specs.Shelving.{shelf_of}
use Rattle.shelves.proofs.Exact.{same_name, same_shelf, own_place}
use Rattle.shelves.proofs.Steps.{step_over}

both : (a b : Bool) → a && b ≡ true → (a ≡ true) × (b ≡ true)
both true b e = (refl, e)
both false b e = absurd (cc)

-- the place that a test is about
pub same_place : {A : Type 0} (f : Resource → RowName → A) (at d : Resource) (name q : RowName) → (is_same_shelf at d && is_same_name name q) ≡ true → f at name ≡ f d q
same_place f at d name q h =
    let t = both (is_same_shelf at d) (is_same_name name q) h in
    ap (λ x. f x name) (same_shelf at d t.0) ∙ ap (f d) (same_name name q t.1)

pub if_alike : {A : Type 0} (b : Bool) (x y o : A) → (b ≡ true → x ≡ y) → (if b then x else o) ≡ (if b then y else o)
if_alike true x y o h = h refl
if_alike false x y o h = refl

-- what is done at the place of one more name
pub name_step : {A : Type 0} (tables : List TableShape) (n q : RowName) (b : Bool) (f : A → A) (x : A) → f (f x) ≡ f x
    → (if is_same_shelf (shelf_of tables n) (shelf_of tables q) && is_same_name n q then f (if b then f x else x) else (if b then f x else x)) ≡ (if b || is_same_name n q then f x else x)
name_step tables n q b f x again =
    ap (λ c. if c then f (if b then f x else x) else (if b then f x else x)) (own_place tables n q) ∙ step_over b (is_same_name n q) f x again

-- a row is moved, where both have its place
pub some_if : (b : Bool) (v r : Option RowOf) → Some r ≡ (if b then Some v else None) → (b ≡ true) × (r ≡ v)
some_if true v r h = (refl, cc)
some_if false v r h = absurd (cc)

pub none_if : (b : Bool) (v : Option RowOf) → None ≡ (if b then Some v else None) → b ≡ false
none_if true v h = absurd (cc)
none_if false v h = refl

pub put_some : (a b s f : Bool) (r : Option RowOf) (p o : PlaceOf) → (a && b ≡ true → (f ≡ true) × (r ≡ p.row)) → (if a && (b && s) then full r else o) ≡ (if a && (b && (s && f)) then full p.row else o)
put_some true true true f r p o h = ap full (h refl).1 ∙ ap (λ (z : Bool). if z then full p.row else o) (sym (h refl).0)
put_some true true false f r p o h = refl
put_some true false s f r p o h = refl
put_some false b s f r p o h = refl

pub put_none : (a b s f : Bool) (p o : PlaceOf) → (a && b ≡ true → f ≡ false) → o ≡ (if a && (b && (s && f)) then full p.row else o)
put_none true true true f p o h = ap (λ (z : Bool). if z then full p.row else o) (sym (h refl))
put_none true true false f p o h = refl
put_none true false s f p o h = refl
put_none false b s f p o h = refl

no_more : {A : Type 0} (x n m : Bool) (p o : A) → (if x && (n && (m && false)) then p else o) ≡ o
no_more true true true p o = refl
no_more true true false p o = refl
no_more true false m p o = refl
no_more false n m p o = refl

-- a row is moved once
pub row_step : (b x n s s0 f0 : Bool) (p p0 o : PlaceOf) → x && n ≡ n → (b ≡ false → s ≡ s0) → (b ≡ false → p ≡ p0)
    → (if x && (n && (s && (if b then false else f0))) then full p.row else (if b && (s0 && f0) then full p0.row else o)) ≡ (if (b || n) && (s0 && f0) then full p0.row else o)
row_step true x n s s0 f0 p p0 o own hs hp = no_more x n s (full p.row) (if s0 && f0 then full p0.row else o)
row_step false true true s s0 f0 p p0 o own hs hp =
    ap (λ (z : Bool). if z && f0 then full p.row else o) (hs refl) ∙ ap (λ (z : PlaceOf). if s0 && f0 then full z.row else o) (hp refl)
row_step false false true s s0 f0 p p0 o own hs hp = absurd (cc)
row_step false true false s s0 f0 p p0 o own hs hp = refl
row_step false false false s s0 f0 p p0 o own hs hp = refl

pub left_step : (b x n f now next : Bool) → x && n ≡ n → (x && n ≡ true → next ≡ false) → (x && n ≡ false → next ≡ now) → now ≡ (if b then false else f) → next ≡ (if b || n then false else f)
left_step true x true f now next own gone same is = gone own
left_step false x true f now next own gone same is = gone own
left_step true x false f now next own gone same is = same own ∙ is
left_step false x false f now next own gone same is = same own ∙ is

pub kept_step : {A : Type 0} (b x n : Bool) (old now next : A) → x && n ≡ n → (x && n ≡ false → next ≡ now) → (b ≡ false → now ≡ old) → b || n ≡ false → next ≡ old
kept_step true x n old now next own same was h = absurd (cc)
kept_step false x true old now next own same was h = absurd (cc)
kept_step false x false old now next own same was h = same own ∙ was refl

-- what has no place cannot be emptied
pub emptied_twice : {A : Type 0} (h : Bool) (f : A → A) (x : A) → f (f x) ≡ f x → (if h then f (if h then f x else x) else (if h then f x else x)) ≡ (if h then f x else x)
emptied_twice true f x again = again
emptied_twice false f x again = refl

pub and_then : {A : Type 0} (a b : Bool) (x o : A) → (if a then (if b then x else o) else o) ≡ (if a && b then x else o)
and_then true b x o = refl
and_then false b x o = refl

pub and_all : {A : Type 0} (a b c : Bool) (x o : A) → (if a && (b && c) then x else o) ≡ (if a && b then (if c then x else o) else o)
and_all true true c x o = refl
and_all true false c x o = refl
and_all false b c x o = refl
