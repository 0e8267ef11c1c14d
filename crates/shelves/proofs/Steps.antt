-- Steps of loops that move shelves and put writes in place.
use Rattle.std.proofs.Common.{◌≡◌, Bool, true, false, not, ◌&&◌, ◌||◌, if◌then◌else◌, Option, Some, None, option_map, is_some, refl, sym, ap, ◌∙◌}
use Rattle.values.specs.Database.{RowOf}
use Rattle.shelves.specs.Places.{PlaceOf, full, written}

-- a shelf that went out isn't ready any more
pub ready_step : (b s h w : Bool) → (s && (h && not ((b && (s && (h && not w))) || w))) ≡ (not b && (s && (h && not w)))
ready_step false s h w = refl
ready_step true false h w = refl
ready_step true true false w = refl
ready_step true true true true = refl
ready_step true true true false = refl

-- a shelf goes out once
pub once : {A : Type 0} (b x r : Bool) (p o : A) → (if x && (not b && r) then p else (if b && r then p else o)) ≡ (if (b || x) && r then p else o)
once true true r p o = refl
once true false r p o = refl
once false true r p o = refl
once false false r p o = refl

pub once_from : {A : Type 0} (b x r : Bool) (now p o : A) → (b && r ≡ false → now ≡ p) → (if x && (not b && r) then now else (if b && r then p else o)) ≡ (if (b || x) && r then p else o)
once_from true true r now p o h = refl
once_from true false r now p o h = refl
once_from false true r now p o h = ap (λ z. if r then z else o) (h refl)
once_from false false r now p o h = refl

pub still_once : {A : Type 0} (b x r : Bool) (old now next : A) → (x && (not b && r) ≡ false → next ≡ now) → (b && r ≡ false → now ≡ old) → (b || x) && r ≡ false → next ≡ old
still_once true x true old now next f g h = absurd (cc)
still_once true true false old now next f g h = f refl ∙ g refl
still_once true false false old now next f g h = f refl ∙ g refl
still_once false true r old now next f g h = f h ∙ g refl
still_once false false r old now next f g h = f refl ∙ g refl

pub done_once : {A : Type 0} (b x r : Bool) (f : A → A) (o : A)
    → (if x && (not b && r) then f (if b && r then f o else o) else (if b && r then f o else o)) ≡ (if (b || x) && r then f o else o)
done_once true true r f o = refl
done_once true false r f o = refl
done_once false true r f o = refl
done_once false false r f o = refl

pub away_once : (b x r w : Bool) → ((x && (not b && r)) || ((b && r) || w)) ≡ (((b || x) && r) || w)
away_once true true r w = refl
away_once true false r w = refl
away_once false true r w = refl
away_once false false r w = refl

pub or_if : (b o : Bool) → (if b then true else o) ≡ (b || o)
or_if true o = refl
or_if false o = refl

pub if_or : (b o : Bool) → o ≡ true → (if b then true else o) ≡ true
if_or true o h = refl
if_or false o h = h

pub some_if_not : {A : Type 0} (b : Bool) (o : Option A) → is_some (if b then None else o) ≡ (if b then false else is_some o)
some_if_not true o = refl
some_if_not false o = refl

pub put_there : {A : Type 0} (b : Bool) (o p : Option A) → is_some (if b && (is_some o && is_some p) then p else o) ≡ is_some o
put_there true None p = refl
put_there true (Some x) None = refl
put_there true (Some x) (Some y) = refl
put_there false o p = refl

-- a shelf is shared once
pub share_once : {A : Type 0} (b x h : Bool) (p o : A) → (if x && not (b || h) then p else (if b && not h then p else o)) ≡ (if (b || x) && not h then p else o)
share_once true true h p o = refl
share_once true false h p o = refl
share_once false true h p o = refl
share_once false false h p o = refl

pub or_more : (b x h : Bool) → (x || (b || h)) ≡ ((b || x) || h)
or_more true true h = refl
or_more true false h = refl
or_more false true h = refl
or_more false false h = refl

-- a shelf is moved once
pub shelf_step : {A : Type 0} (b x s f : Bool) (none p o : A)
    → (if x && (s && (if b then false else f)) then (if b then none else p) else (if b && (s && f) then p else o)) ≡ (if (b || x) && (s && f) then p else o)
shelf_step true true true f none p o = refl
shelf_step true true false f none p o = refl
shelf_step true false s f none p o = refl
shelf_step false true s f none p o = refl
shelf_step false false s f none p o = refl

pub step_over : {A : Type 0} (b n : Bool) (f : A → A) (x : A) → f (f x) ≡ f x
    → (if n then f (if b then f x else x) else (if b then f x else x)) ≡ (if b || n then f x else x)
step_over true true f x again = again
step_over true false f x again = refl
step_over false true f x again = refl
step_over false false f x again = refl

-- a write is put in place once
pub write_step : (x n : Bool) (w : Option (Option RowOf)) (r : Option RowOf) (s : PlaceOf) → x && n ≡ n → (n ≡ true → w ≡ Some r)
    → written (if n then None else w) (if x && n then full r else s) ≡ written w s
write_step true true w r s h is = ap (λ z. written z s) (sym (is refl))
write_step false true w r s h is = absurd (cc)
write_step true false w r s h is = refl
write_step false false w r s h is = refl

pub map_cond : {A B : Type 0} (f : A → B) (b : Bool) (o : Option A) → option_map f (if b then None else o) ≡ (if b then None else option_map f o)
map_cond f true o = refl
map_cond f false o = refl

pub some_left : {A : Type 0} (b : Bool) (o : Option A) → is_some (if b then None else o) ≡ true → is_some o ≡ true
some_left true o h = absurd (cc)
some_left false o h = h

-- a row is put where its place is there
pub fill_there : {A : Type 0} (n k : Bool) (p o : A) → (n ≡ true → k ≡ true) → (if n && k then p else o) ≡ (if n then p else o)
fill_there true true p o h = refl
fill_there true false p o h = let clash : false ≡ true = h refl in absurd (cc)
fill_there false k p o h = refl
