-- Lists of named rows, and steps of loops over them.
use Rattle.std.proofs.Common.{◌≡◌, Bool, true, false, ◌&&◌, ◌||◌, if◌then◌else◌, List, [], ◌∷◌, ◌++◌, refl, sym, Option, Some, None, is_some}
use Rattle.std.specs.Option.{option_or}
use Rattle.values.specs.declared.name.RowName.{RowName}
use Rattle.values.specs.Database.{RowOf}
use Rattle.shelves.specs.declared.named.NamedRow.{NamedRow}
use Rattle.shelves.specs.Places.{PlaceOf, full, written, shared_row, is_same_name}
use Rattle.shelves.specs.Named.{listed, is_listed}

some_if : (b c : Bool) (x : Option RowOf) (o : Option (Option RowOf)) → is_some o ≡ c → is_some (if b then Some x else o) ≡ (b || c)
some_if true c x o h = refl
some_if false c x o h = h

pub listed_names : (es : List NamedRow) (q : RowName) → is_some (listed es q) ≡ is_listed es q
listed_names [] q = refl
listed_names (e ∷ es) q = some_if (is_same_name e.name q) (is_listed es q) (shared_row e.row) (listed es q) (listed_names es q)

or_step : (b : Bool) (x : Option RowOf) (o p r : Option (Option RowOf)) → o ≡ option_or p r → (if b then Some x else o) ≡ option_or (if b then Some x else p) r
or_step true x o p r h = refl
or_step false x o p r h = h

pub listed_push : (es : List NamedRow) (x : NamedRow) (q : RowName)
    → listed (es ++ x ∷ []) q ≡ option_or (listed es q) (if is_same_name x.name q then Some (shared_row x.row) else None)
listed_push [] x q = refl
listed_push (e ∷ es) x q =
    or_step (is_same_name e.name q) (shared_row e.row) (listed (es ++ x ∷ []) q) (listed es q) (if is_same_name x.name q then Some (shared_row x.row) else None) (listed_push es x q)

pub write_listed : (b : Bool) (o l : Option (Option RowOf)) (r : Option RowOf) → (b ≡ true → l ≡ Some r)
    → option_or (option_or o (if b then Some r else None)) (if b then None else l) ≡ option_or o l
write_listed true None l r h = sym (h refl)
write_listed true (Some x) l r h = refl
write_listed false None l r h = refl
write_listed false (Some x) l r h = refl

pub some_or : (o p : Option (Option RowOf)) → is_some o ≡ true → is_some (option_or o p) ≡ true
some_or None p h = absurd (cc)
some_or (Some x) p h = refl

pub or_some : (o p : Option (Option RowOf)) → is_some p ≡ true → is_some (option_or o p) ≡ true
or_some None p h = h
or_some (Some x) p h = refl

-- a row is put in place once
pub fill_step : (x n : Bool) (l : Option (Option RowOf)) (r : Option RowOf) (s : PlaceOf) → x && n ≡ n
    → written l (if x && n then full r else s) ≡ written (option_or l (if n then Some r else None)) s
fill_step true true None r s own = refl
fill_step true true (Some y) r s own = refl
fill_step true false None r s own = refl
fill_step true false (Some y) r s own = refl
fill_step false true l r s own = absurd (cc)
fill_step false false None r s own = refl
fill_step false false (Some y) r s own = refl

-- what holds of the names so far, and of one name, holds of both
pub either : (b x p : Bool) → (b ≡ true → p ≡ true) → (x ≡ true → p ≡ true) → b || x ≡ true → p ≡ true
either true x p f g h = f refl
either false true p f g h = g refl
either false false p f g h = absurd (cc)
