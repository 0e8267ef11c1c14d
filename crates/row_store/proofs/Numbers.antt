-- The plans that are lent, by their numbers.
use Rattle.std.proofs.Common.{◌≡◌, ◌⊎◌, inl, inr, ℕ, Bool, true, false, cond, List, [], ◌∷◌, map, refl, sym, ap, ◌∙◌, Option, Some, None, option_map, arith}
use Rattle.std.proofs.lemmas.Grind.{common_steps}
use Rattle.std.specs.Ordering.{nat_cmp, eq_by_cmp}
use Rattle.std.specs.Cmp.{nat_cmp_total, eq_by_cmp_equiv}
use Rattle.std.specs.BTreeMap.{BTreeMap, is_at}
use Rattle.std.specs.BTreeMap as tree
use Rattle.std.specs.Map.{lookup}
use Rattle.std.specs.FinMap.{FinMap, get, insert, remove, find, get-insert, get-remove, get-from_entries, same_map, nat_cmp-IsAntisymmetric}
use Rattle.std.specs.declared.snapshot.Snapshot.{Snapshot}
use Rattle.coarsen.specs.Subtrees.{Requests}
use Rattle.row_store.specs.Views.{lent_at, lent_of}

map_cond : {A B : Type 0} (f : A → B) (b : Bool) (x o : Option A) → option_map f (cond b x o) ≡ cond b (option_map f x) (option_map f o)
map_cond f true x o = refl
map_cond f false x o = refl

some_cond : {A B : Type 0} (f : A → B) (b : Bool) (x : A) (o : Option A) → cond b (Some (f x)) (option_map f o) ≡ option_map f (cond b (Some x) o)
some_cond f true x o = refl
some_cond f false x o = refl

found_plans : (es : List (ℕ × Snapshot Requests)) (i : ℕ) → find nat_cmp i (map {B = ℕ × Requests} (λ e. (e.0, e.1.value)) es) ≡ option_map (λ (p : Snapshot Requests). p.value) (lookup (is_at (nat_cmp i)) es)
found_plans [] i = refl
found_plans (e ∷ es) i = ap (cond (eq_by_cmp nat_cmp i e.0) (Some e.1.value)) (found_plans es i) ∙ some_cond (λ (p : Snapshot Requests). p.value) (eq_by_cmp nat_cmp i e.0) e.1 _

pub get-lent_of : (lent : BTreeMap ℕ (Snapshot Requests)) (i : ℕ) → get (lent_of lent) i ≡ lent_at lent i
get-lent_of lent i = get-from_entries nat_cmp_total _ i ∙ found_plans lent.entries i

-- what is lent once a number was put in or taken out
pub lent_put : (old new : BTreeMap ℕ (Snapshot Requests)) (number : ℕ) (s : Option (Snapshot Requests))
    → ((i : ℕ) → tree.get nat_cmp new i ≡ cond (is_at (nat_cmp number) i) s (tree.get nat_cmp old i))
    → (i : ℕ) → lent_at new i ≡ cond (is_at (nat_cmp number) i) (option_map (λ (p : Snapshot Requests). p.value) s) (lent_at old i)
lent_put old new number s h i = ap (option_map (λ (p : Snapshot Requests). p.value)) (h i) ∙ map_cond (λ (p : Snapshot Requests). p.value) (is_at (nat_cmp number) i) s (tree.get nat_cmp old i)

same_lent : (a b : FinMap nat_cmp Requests) → ((i : ℕ) → get a i ≡ get b i) → a ≡ b
same_lent = same_map nat_cmp_total nat_cmp-IsAntisymmetric

turned : (number i : ℕ) → is_at (nat_cmp number) i ≡ eq_by_cmp nat_cmp i number
turned number i = (eq_by_cmp_equiv nat_cmp_total).symm number i

pub lent_inserted : (old new : BTreeMap ℕ (Snapshot Requests)) (number : ℕ) (plan : Requests)
    → ((i : ℕ) → lent_at new i ≡ cond (is_at (nat_cmp number) i) (Some plan) (lent_at old i)) → lent_of new ≡ insert (lent_of old) number plan
lent_inserted old new number plan h = same_lent _ _ (λ i.
    get-lent_of new i ∙ h i ∙ ap (λ b. cond b (Some plan) (lent_at old i)) (turned number i)
    ∙ ap (cond (eq_by_cmp nat_cmp i number) (Some plan)) (sym (get-lent_of old i)) ∙ sym (get-insert nat_cmp_total (lent_of old) number plan i))

pub lent_removed : (old new : BTreeMap ℕ (Snapshot Requests)) (number : ℕ)
    → ((i : ℕ) → lent_at new i ≡ cond (is_at (nat_cmp number) i) None (lent_at old i)) → lent_of new ≡ remove (lent_of old) number
lent_removed old new number h = same_lent _ _ (λ i.
    get-lent_of new i ∙ h i ∙ ap (λ b. cond b None (lent_at old i)) (turned number i)
    ∙ ap (cond (eq_by_cmp nat_cmp i number) None) (sym (get-lent_of old i)) ∙ sym (get-remove nat_cmp_total (lent_of old) number i))

same_number : (a b : ℕ) → is_at (nat_cmp a) b ≡ true → a ≡ b
same_number a b h = grind (arith, common_steps)

is_here : (a : ℕ) → is_at (nat_cmp a) a ≡ true
is_here a = grind (arith, common_steps)

if_here : {A : Type 0} (b : Bool) (x y : A) → b ≡ true → cond b x y ≡ x
if_here true x y h = refl
if_here false x y h = absurd (cc)

if_not : {A : Type 0} (b : Bool) (x y : A) → b ≡ false → cond b x y ≡ y
if_not true x y h = absurd (cc)
if_not false x y h = refl

some_same : (x y : Requests) → Some x ≡ Some y → x ≡ y
some_same x y h = cc

-- a plan that is lent afterwards is the new one, or was lent before under another number
pub lent_after : (old new : BTreeMap ℕ (Snapshot Requests)) (number : ℕ) (plan : Requests)
    → ((i : ℕ) → lent_at new i ≡ cond (is_at (nat_cmp number) i) (Some plan) (lent_at old i))
    → (i : ℕ) (p : Requests) → lent_at new i ≡ Some p → ((number ≡ i) × (plan ≡ p)) ⊎ (lent_at old i ≡ Some p)
lent_after old new number plan h i p e = elim (is_at (nat_cmp number) i) as (λ (b : Bool). is_at (nat_cmp number) i ≡ b → ((number ≡ i) × (plan ≡ p)) ⊎ (lent_at old i ≡ Some p)) [
  | true ↦ λ is. inl (same_number number i is, some_same plan p (sym (if_here (is_at (nat_cmp number) i) (Some plan) (lent_at old i) is) ∙ sym (h i) ∙ e))
  | false ↦ λ is. inr (sym (if_not (is_at (nat_cmp number) i) (Some plan) (lent_at old i) is) ∙ sym (h i) ∙ e)
] refl

pub lent_new : (old new : BTreeMap ℕ (Snapshot Requests)) (number : ℕ) (plan : Requests)
    → ((i : ℕ) → lent_at new i ≡ cond (is_at (nat_cmp number) i) (Some plan) (lent_at old i)) → lent_at new number ≡ Some plan
lent_new old new number plan h = h number ∙ if_here (is_at (nat_cmp number) number) (Some plan) (lent_at old number) (is_here number)

pub lent_still : (old new : BTreeMap ℕ (Snapshot Requests)) (number : ℕ) (plan : Requests)
    → ((i : ℕ) → lent_at new i ≡ cond (is_at (nat_cmp number) i) (Some plan) (lent_at old i)) → lent_at old number ≡ None
    → (i : ℕ) (p : Requests) → lent_at old i ≡ Some p → lent_at new i ≡ Some p
lent_still old new number plan h none i p e = elim (is_at (nat_cmp number) i) as (λ (b : Bool). is_at (nat_cmp number) i ≡ b → lent_at new i ≡ Some p) [
  | true ↦ λ is. let clash : None ≡ Some p = sym none ∙ ap (lent_at old) (same_number number i is) ∙ e in absurd (cc)
  | false ↦ λ is. h i ∙ if_not (is_at (nat_cmp number) i) (Some plan) (lent_at old i) is ∙ e
] refl

-- a plan that is still lent was lent under another number
pub lent_left : (old new : BTreeMap ℕ (Snapshot Requests)) (number : ℕ)
    → ((i : ℕ) → lent_at new i ≡ cond (is_at (nat_cmp number) i) None (lent_at old i))
    → (i : ℕ) (p : Requests) → lent_at new i ≡ Some p → (number ≡ i → ⊥) × (lent_at old i ≡ Some p)
lent_left old new number h i p e = elim (is_at (nat_cmp number) i) as (λ (b : Bool). is_at (nat_cmp number) i ≡ b → (number ≡ i → ⊥) × (lent_at old i ≡ Some p)) [
  | true ↦ λ is. let clash : None ≡ Some p = sym (if_here (is_at (nat_cmp number) i) None (lent_at old i) is) ∙ sym (h i) ∙ e in absurd (cc)
  | false ↦ λ is. (
    λ same. let clash : true ≡ false = sym (is_here number) ∙ ap (is_at (nat_cmp number)) same ∙ is in cc,
    sym (if_not (is_at (nat_cmp number) i) None (lent_at old i) is) ∙ sym (h i) ∙ e,
  )
] refl

-- a plan that was lent is the one given back, or is still lent
pub lent_before : (old new : BTreeMap ℕ (Snapshot Requests)) (number : ℕ)
    → ((i : ℕ) → lent_at new i ≡ cond (is_at (nat_cmp number) i) None (lent_at old i))
    → (i : ℕ) (p : Requests) → lent_at old i ≡ Some p → (number ≡ i) ⊎ (lent_at new i ≡ Some p)
lent_before old new number h i p e = elim (is_at (nat_cmp number) i) as (λ (b : Bool). is_at (nat_cmp number) i ≡ b → (number ≡ i) ⊎ (lent_at new i ≡ Some p)) [
  | true ↦ λ is. inl (same_number number i is)
  | false ↦ λ is. inr (h i ∙ if_not (is_at (nat_cmp number) i) None (lent_at old i) is ∙ e)
] refl
