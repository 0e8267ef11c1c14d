-- Requests on one resource, in two lists in tree order that are gone through side by side.
use Rattle.std.proofs.Common.{◌≡◌, zero, suc, true, false, [], ◌∷◌, length, refl, sym, ap, ◌∙◌, subst, arith, ◌⊎◌, inl, inr, Less, Equal, Greater}
use Rattle.std.specs.List.{Contains, AllByRecursion}
use Rattle.std.specs.Map.{keys_of}
use Rattle.std.specs.List.Sorted.{IsStrictlySortedBy}
use Rattle.std.proofs.lemmas.Cmp.{tied_itself}
use Rattle.std.specs.Ordering.{ordering_reverse}
use Rattle.footprint.specs.declared.resource.Resource.{Resource}
use Rattle.footprint.specs.Tree.{resource_cmp}
use Rattle.modes.specs.declared.mode.Mode.{Mode}
use Rattle.modes.specs.declared.mode.Mode.TheVariants.{IntentionShared, IntentionExclusive, Shared, SharedIntentionExclusive, Exclusive}
use Rattle.modes.specs.Modes.{are_compatible}
use Rattle.coarsen.specs.Subtrees.{Requests}
use Rattle.coarsen.specs.Clashes.{ModesClash}
use Rattle.footprint.proofs.Resources.{resources_total, exact_resources}
use Rattle.footprint.specs.InTreeOrder.{IsInTreeOrder}

either_way : (a b : Mode) → are_compatible a b ≡ are_compatible b a
either_way IntentionShared IntentionShared = refl
either_way IntentionShared IntentionExclusive = refl
either_way IntentionShared Shared = refl
either_way IntentionShared SharedIntentionExclusive = refl
either_way IntentionShared Exclusive = refl
either_way IntentionExclusive IntentionShared = refl
either_way IntentionExclusive IntentionExclusive = refl
either_way IntentionExclusive Shared = refl
either_way IntentionExclusive SharedIntentionExclusive = refl
either_way IntentionExclusive Exclusive = refl
either_way Shared IntentionShared = refl
either_way Shared IntentionExclusive = refl
either_way Shared Shared = refl
either_way Shared SharedIntentionExclusive = refl
either_way Shared Exclusive = refl
either_way SharedIntentionExclusive IntentionShared = refl
either_way SharedIntentionExclusive IntentionExclusive = refl
either_way SharedIntentionExclusive Shared = refl
either_way SharedIntentionExclusive SharedIntentionExclusive = refl
either_way SharedIntentionExclusive Exclusive = refl
either_way Exclusive IntentionShared = refl
either_way Exclusive IntentionExclusive = refl
either_way Exclusive Shared = refl
either_way Exclusive SharedIntentionExclusive = refl
either_way Exclusive Exclusive = refl

-- a conflict is one either way
pub conflict_turned : (a b : Requests) → ModesClash a b → ModesClash b a
conflict_turned a b (r, m, n, i, j, h) = (r, n, m, j, i, sym (either_way m n) ∙ h)

contains_cases : (e : Resource × Mode) (es : Requests) (x : Resource × Mode) → Contains (e ∷ es) x → (e ≡ x) ⊎ Contains es x
contains_cases e es x (zero, l, is) = inl is
contains_cases e es x (suc k, l, is) = inr (k, omega (arith, l), is)

pub contains_head : (s rest : Requests) (e : Resource × Mode) → s ≡ e ∷ rest → Contains s e
contains_head s rest e is = subst (λ l. Contains l e) (sym is) (0, omega arith, refl)

pub contains_tail : (s rest : Requests) (e x : Resource × Mode) → s ≡ e ∷ rest → Contains rest x → Contains s x
contains_tail s rest e x is (k, l, at) = subst (λ q. Contains q x) (sym is) (suc k, omega (arith, l), at)

pub ordered_tail : (s rest : Requests) (e : Resource × Mode) → s ≡ e ∷ rest → IsInTreeOrder s → IsInTreeOrder rest
unfolding IsStrictlySortedBy
ordered_tail s rest e is o = let p = subst (λ (q : Requests). IsInTreeOrder q) is o in p.1

all_keys : (P : Resource → Type 0) (es : Requests) (x : Resource × Mode) → AllByRecursion P (keys_of es) → Contains es x → P x.0
all_keys P [] x h k = absurd (let l = k.1 in omega (arith, l))
all_keys P (e ∷ es) x h k = elim (contains_cases e es x k) [
  | inl same ↦ let at : e.0 ≡ x.0 = ap (λ (y : Resource × Mode). y.0) same in subst P at h.0
  | inr l ↦ all_keys P es x h.1 l
]

-- the first request is before the others
pub less_than_later : (s rest : Requests) (e x : Resource × Mode) → s ≡ e ∷ rest → IsInTreeOrder s → Contains rest x → resource_cmp e.0 x.0 ≡ Less
unfolding IsStrictlySortedBy
less_than_later s rest e x is o k =
    let p = subst (λ (q : Requests). IsInTreeOrder q) is o in
    all_keys (λ y. resource_cmp e.0 y ≡ Less) rest x p.0 k

pub not_itself : (a b : Resource) → resource_cmp a b ≡ Less → a ≡ b → ⊥
not_itself a b h e =
    let w : Equal ≡ Less = sym (tied_itself resources_total a) ∙ ap (λ q. resource_cmp a q) e ∙ h in
    absurd (cc)

-- a request that is before all requests of the other list is in no conflict
pub past_first : (s t rest more : Requests) (e f : Resource × Mode) → s ≡ e ∷ rest → t ≡ f ∷ more
    → IsInTreeOrder t → resource_cmp e.0 f.0 ≡ Less → ModesClash s t → ModesClash rest t
past_first s t rest more e f is it o less (r, m, n, i, j, h) =
    elim (contains_cases e rest (r, m) (subst (λ l. Contains l (r, m)) is i)) [
      | inr k ↦ (r, m, n, k, j, h)
      | inl same ↦
          let at : e.0 ≡ r = ap (λ (y : Resource × Mode). y.0) same in
          elim (contains_cases f more (r, n) (subst (λ l. Contains l (r, n)) it j)) [
            | inl there ↦ absurd (not_itself e.0 f.0 less (at ∙ sym (ap (λ (y : Resource × Mode). y.0) there)))
            | inr k ↦ absurd (not_itself e.0 r (resources_total.trans e.0 f.0 r less (less_than_later t more f (r, n) it o k)) at)
          ]
    ]

pub past_second : (s t rest more : Requests) (e f : Resource × Mode) → s ≡ e ∷ rest → t ≡ f ∷ more
    → IsInTreeOrder s → resource_cmp e.0 f.0 ≡ Greater → ModesClash s t → ModesClash s more
past_second s t rest more e f is it o greater c =
    conflict_turned more s (past_first t s more rest f e it is o (resources_total.antisymm f.0 e.0 ∙ ap ordering_reverse greater) (conflict_turned s t c))

-- nor are two on one resource whose modes are compatible
pub past_both : (s t rest more : Requests) (e f : Resource × Mode) → s ≡ e ∷ rest → t ≡ f ∷ more
    → IsInTreeOrder s → IsInTreeOrder t → resource_cmp e.0 f.0 ≡ Equal → are_compatible e.1 f.1 ≡ true
    → ModesClash s t → ModesClash rest more
past_both s t rest more e f is it o p equal fine (r, m, n, i, j, h) =
    let one = exact_resources e.0 f.0 equal in
    elim (contains_cases e rest (r, m) (subst (λ l. Contains l (r, m)) is i)) [
      | inl same ↦
          let at : e.0 ≡ r = ap (λ (y : Resource × Mode). y.0) same in
          elim (contains_cases f more (r, n) (subst (λ l. Contains l (r, n)) it j)) [
            | inl there ↦
                let w : true ≡ false = sym fine ∙ ap (λ (y : Resource × Mode). are_compatible y.1 f.1) same ∙ ap (λ (y : Resource × Mode). are_compatible m y.1) there ∙ h in
                absurd (cc)
            | inr k ↦ absurd (not_itself f.0 r (less_than_later t more f (r, n) it p k) (sym one ∙ at))
          ]
      | inr k ↦
          elim (contains_cases f more (r, n) (subst (λ l. Contains l (r, n)) it j)) [
            | inl there ↦ absurd (not_itself e.0 r (less_than_later s rest e (r, m) is o k) (one ∙ ap (λ (y : Resource × Mode). y.0) there))
            | inr l ↦ (r, m, n, k, l, h)
          ]
    ]

-- and a list that is empty has none
pub no_conflict_first : (s t : Requests) → length s ≡ 0 → ModesClash s t → ⊥
no_conflict_first s t e (r, m, n, (k, l, at), j, h) = absurd (omega (arith, e, l))

pub no_conflict_second : (s t : Requests) → length t ≡ 0 → ModesClash s t → ⊥
no_conflict_second s t e (r, m, n, i, (k, l, at), h) = absurd (omega (arith, e, l))

pub conflict_here : (s t rest more : Requests) (e f : Resource × Mode) → s ≡ e ∷ rest → t ≡ f ∷ more → resource_cmp e.0 f.0 ≡ Equal → are_compatible e.1 f.1 ≡ false → ModesClash s t
conflict_here s t rest more e f is it equal h =
    let one = exact_resources e.0 f.0 equal in
    let at : f ≡ (e.0, f.1) = ap (λ (q : Resource). (q, f.1)) (sym one) in
    (e.0, e.1, f.1, contains_head s rest e is, subst (Contains t) at (contains_head t more f it), h)

-- what is left of a list is of the list
pub conflict_within : (s t a b : Requests) → ((x : Resource × Mode) → Contains s x → Contains a x) → ((x : Resource × Mode) → Contains t x → Contains b x) → ModesClash s t → ModesClash a b
conflict_within s t a b f g (r, m, n, i, j, h) = (r, m, n, f (r, m) i, g (r, n) j, h)
