-- What is at each name after writes.
use Rattle.std.proofs.Common.{◌≡◌, Bool, true, false, cond, List, [], ◌∷◌, refl, sym, ap, ◌∙◌, Option, Some, None, Ordering, Less, Equal, Greater}
use Rattle.std.specs.Ordering.{is_eq, eq_by_cmp}
use Rattle.std.specs.Cmp.{eq_by_cmp_equiv}
use Rattle.std.specs.BTreeMap.{is_at}
use Rattle.std.specs.Map.{lookup}
use Rattle.std.specs.FinMap.{get, get-insert, get-remove, same_map}
use Rattle.values.specs.declared.name.RowName.{RowName}
use Rattle.values.specs.Database.{Database, RowOf, name_cmp}
use Rattle.proclang_types.specs.declared.right.Right.TheVariants.{Write}
use Rattle.workspace.specs.declared.permit.Permit.{Permit}
use Rattle.workspace.specs.Coverage.{OnlyCovered, permits}
use Rattle.workspace.specs.Overlay.{applied, with_write}
use Rattle.meaning.proofs.Names.{names_total, exact_names}

-- what is at a name after a write of it, or else what was there
abbrev pub after_write : Option (Option RowOf) → Option RowOf → Option RowOf
after_write None before = before
after_write (Some now) before = now

after_cond : (b : Bool) (now : Option RowOf) (o : Option (Option RowOf)) (before : Option RowOf)
    → after_write (cond b (Some now) o) before ≡ cond b now (after_write o before)
after_cond true now o before = refl
after_cond false now o before = refl

get-write : (db : Database) (name : RowName) (now : Option RowOf) (q : RowName)
    → get (with_write db (name, now)) q ≡ cond (eq_by_cmp name_cmp q name) now (get db q)
get-write db name None q = get-remove names_total db name q
get-write db name (Some row) q = get-insert names_total db name row q

-- the write of a name decides what is there
pub get_applied : (ws : List (RowName × Option RowOf)) (db : Database) (q : RowName)
    → get (applied ws db) q ≡ after_write (lookup (is_at (name_cmp q)) ws) (get db q)
get_applied [] db q = refl
get_applied (w ∷ ws) db q =
    get-write (applied ws db) w.0 w.1 q
    ∙ ap (cond (eq_by_cmp name_cmp q w.0) w.1) (get_applied ws db q)
    ∙ sym (after_cond (eq_by_cmp name_cmp q w.0) w.1 (lookup (is_at (name_cmp q)) ws) (get db q))

-- one more write
pub one_written : (old new : List (RowName × Option RowOf)) (name : RowName) (now : Option RowOf)
    → ((q : RowName) → lookup (is_at (name_cmp q)) new ≡ cond (is_at (name_cmp name) q) (Some now) (lookup (is_at (name_cmp q)) old))
    → (db : Database) → applied new db ≡ with_write (applied old db) (name, now)
one_written old new name now h db = same_map names_total exact_names _ _ (λ q.
    get_applied new db q
    ∙ ap (λ o. after_write o (get db q)) (h q)
    ∙ after_cond (is_at (name_cmp name) q) now (lookup (is_at (name_cmp q)) old) (get db q)
    ∙ ap (λ b. cond b now (after_write (lookup (is_at (name_cmp q)) old) (get db q))) ((eq_by_cmp_equiv names_total).symm name q)
    ∙ ap (cond (eq_by_cmp name_cmp q name) now) (sym (get_applied old db q))
    ∙ sym (get-write (applied old db) name now q))

pub is_equal : (o : Ordering) → is_eq o ≡ true → o ≡ Equal
is_equal Less e = absurd (cc)
is_equal Equal e = refl
is_equal Greater e = absurd (cc)

-- one more write of a covered name
pub one_covered : (permit : Permit) (old new : List (RowName × Option RowOf)) (name : RowName) (now : Option RowOf)
    → ((q : RowName) → lookup (is_at (name_cmp q)) new ≡ cond (is_at (name_cmp name) q) (Some now) (lookup (is_at (name_cmp q)) old))
    → permits permit name Write ≡ true → OnlyCovered permit old → OnlyCovered permit new
one_covered permit old new name now h w k = record {
  others = λ q n. h q ∙ elim (is_at (name_cmp name) q) as (λ t. is_at (name_cmp name) q ≡ t → cond t (Some now) (lookup (is_at (name_cmp q)) old) ≡ None) [
    | true ↦ λ is.
        let same : name ≡ q = exact_names name q (is_equal (name_cmp name q) is) in
        let clash : true ≡ false = sym w ∙ ap (λ (x : RowName). permits permit x Write) same ∙ n in
        absurd (cc)
    | false ↦ λ is. k.others q n
  ] refl;
}
