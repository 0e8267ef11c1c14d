-- Lists of named rows.
use Rattle.std.proofs.Common.{◌≡◌, ℕ, zero, suc, ◌<◌, Bool, true, false, ◌&&◌, ◌||◌, if◌then◌else◌, List, [], ◌∷◌, ◌++◌, take, set, length, get_or, refl, sym, ap, ◌∙◌, Option, Some, None, is_some, arith}
use Rattle.std.specs.Option.{option_or}
use Rattle.std.specs.Cmp.{eq_by_cmp_equiv}
use Rattle.values.specs.declared.name.RowName.{RowName}
use Rattle.values.specs.Database.{RowOf}
use Rattle.shelves.specs.declared.named.NamedRow.{NamedRow}
use Rattle.shelves.specs.Places.{PlaceOf, full, written, shared_row, is_same_name, is_named}
use Rattle.row_store.specs.Named.{AreDistinct}
use Rattle.shelves.specs.Named.{listed, names_listed, is_listed}
use Rattle.shelves.proofs.Exact.{names_total, same_name}
use Rattle.shelves.proofs.Lists.{listed_names}
use Rattle.shelves.proofs.Rows.{named_append}

pub turned_name : (a b : RowName) → is_same_name a b ≡ is_same_name b a
turned_name a b = (eq_by_cmp_equiv names_total).symm a b

pub some_test : (b : Bool) (r : Option RowOf) → is_some (if b then Some r else None) ≡ b
some_test true r = refl
some_test false r = refl

no_some : {A : Type 0} (o : Option A) → is_some o ≡ false → o ≡ None
no_some None h = refl
no_some (Some x) h = absurd (cc)

pub none_listed : (es : List NamedRow) (q : RowName) → is_listed es q ≡ false → listed es q ≡ None
none_listed es q h = no_some (listed es q) (listed_names es q ∙ h)

neither_now : (a b : Bool) → a ≡ false → b ≡ false → a || (b || false) ≡ false
neither_now true b h k = absurd (cc)
neither_now false true h k = absurd (cc)
neither_now false false h k = refl

or_split : (a b : Bool) → a || b ≡ false → (a ≡ false) × (b ≡ false)
or_split true b h = absurd (cc)
or_split false b h = (refl, h)

pub distinct_push : (ns : List RowName) (n : RowName) → AreDistinct ns → is_named ns n ≡ false → AreDistinct (ns ++ n ∷ [])
distinct_push [] n d f = (refl, tt)
distinct_push (m ∷ ms) n d f =
    let both = or_split (is_same_name m n) (is_named ms n) f in
    (named_append ms (n ∷ []) m ∙ neither_now (is_named ms m) (is_same_name n m) d.0 (turned_name n m ∙ both.0), distinct_push ms n d.1 both.1)

-- the first entry of a name
pub found_at : (es : List NamedRow) (i : ℕ) (e : NamedRow) (q : RowName) → i < length es → e ≡ get_or es i e
    → is_listed (take i es) q ≡ false → is_same_name e.name q ≡ true → Some (shared_row e.row) ≡ listed es q
found_at [] i e q l is none here = absurd (omega (arith, l))
found_at (x ∷ es) zero e q l is none here =
    ap (λ (y : NamedRow). Some (shared_row y.row)) is
    ∙ ap (λ b. if b then Some (shared_row x.row) else listed es q) (sym here ∙ ap (λ (y : NamedRow). is_same_name y.name q) is)
found_at (x ∷ es) (suc i) e q l is none here =
    let both = or_split (is_same_name x.name q) (is_listed (take i es) q) none in
    found_at es i e q (omega (arith, l)) is both.1 here
    ∙ ap (λ b. if b then Some (shared_row x.row) else listed es q) (sym both.0)

pub set_names : (es : List NamedRow) (i : ℕ) (e : NamedRow) (row : _) → i < length es → e ≡ get_or es i e
    → names_listed (set es i (record { name = e.name; row = row })) ≡ names_listed es
set_names [] i e row l is = absurd (omega (arith, l))
set_names (x ∷ es) zero e row l is = ap (λ (y : NamedRow). y.name ∷ names_listed es) is
set_names (x ∷ es) (suc i) e row l is = ap (λ ns. x.name ∷ ns) (set_names es i e row (omega (arith, l)) is)

set_first : (b c : Bool) (r : Option RowOf) (x : Option RowOf) (o : Option (Option RowOf))
    → (if b then Some r else o) ≡ (if b && (b || c) then Some r else (if b then Some x else o))
set_first true c r x o = refl
set_first false c r x o = refl

set_later : (n m c : Bool) (r x : Option RowOf) (o : Option (Option RowOf)) (s : Option (Option RowOf)) → (m ≡ true → n ≡ false) → s ≡ (if n && c then Some r else o)
    → (if m then Some x else s) ≡ (if n && (m || c) then Some r else (if m then Some x else o))
set_later n true c r x o s other h = ap (λ b. if b then Some r else Some x) (sym (ap (λ b. b && true) (other refl)))
set_later n false c r x o s other h = h

pub set_listed : (es : List NamedRow) (i : ℕ) (e : NamedRow) (row : _) (n q : RowName) → i < length es → e ≡ get_or es i e
    → is_listed (take i es) n ≡ false → is_same_name e.name n ≡ true
    → listed (set es i (record { name = e.name; row = row })) q ≡ (if is_same_name n q && is_listed es q then Some (shared_row row) else listed es q)
set_listed [] i e row n q l is none here = absurd (omega (arith, l))
set_listed (x ∷ es) zero e row n q l is none here =
    let same : e.name ≡ n = same_name e.name n here in
    let mine : x.name ≡ n = ap (λ (y : NamedRow). y.name) (sym is) ∙ same in
    ap (λ m. if is_same_name m q then Some (shared_row row) else listed es q) same
    ∙ set_first (is_same_name n q) (is_listed es q) (shared_row row) (shared_row x.row) (listed es q)
    ∙ ap (λ m. if is_same_name n q && (is_same_name m q || is_listed es q) then Some (shared_row row) else (if is_same_name m q then Some (shared_row x.row) else listed es q)) (sym mine)
set_listed (x ∷ es) (suc i) e row n q l is none here =
    let both = or_split (is_same_name x.name n) (is_listed (take i es) n) none in
    set_later (is_same_name n q) (is_same_name x.name q) (is_listed es q) (shared_row row) (shared_row x.row) (listed es q) (listed (set es i (record { name = e.name; row = row })) q)
    (λ h. turned_name n q ∙ ap (λ m. is_same_name m n) (sym (same_name x.name q h)) ∙ both.0)
    (set_listed es i e row n q (omega (arith, l)) is both.1 here)

-- ---- steps of loops

pub put_step : (b k : Bool) (o l : Option (Option RowOf)) (r : Option RowOf) → (b ≡ true → k ≡ true)
    → option_or o (if b && k then Some r else l) ≡ option_or (option_or o (if b then Some r else None)) l
put_step true true None l r h = refl
put_step true true (Some x) l r h = refl
put_step true false o l r h = let clash : false ≡ true = h refl in absurd (cc)
put_step false k None l r h = refl
put_step false k (Some x) l r h = refl

pub list_step : (a b : Bool) (v r : Option RowOf) → (b ≡ true → r ≡ v)
    → option_or (if a then Some v else None) (if b then Some r else None) ≡ (if a || b then Some v else None)
list_step true b v r h = refl
list_step false true v r h = ap (λ x. Some x) (h refl)
list_step false false v r h = refl

pub there_step : {A : Type 0} (x b k : Bool) (p o : A) → x && b ≡ b → (b ≡ true → k ≡ true) → (if x && (b && k) then p else o) ≡ (if b then p else o)
there_step true true true p o own h = refl
there_step true true false p o own h = let clash : false ≡ true = h refl in absurd (cc)
there_step true false k p o own h = refl
there_step false true k p o own h = absurd (cc)
there_step false false k p o own h = refl

pub back_step : (b : Bool) (l : Option (Option RowOf)) (r : Option RowOf) (s : PlaceOf) → (b ≡ true → l ≡ None)
    → written l (if b then full r else s) ≡ written (if b then Some r else l) s
back_step true l r s h = ap (λ w. written w (full r)) (h refl)
back_step false l r s h = refl
