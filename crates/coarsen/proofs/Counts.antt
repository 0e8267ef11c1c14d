-- Counting the entries that a resource has as its children.
use Rattle.std.proofs.Common.{◌≡◌, ℕ, ◌+◌, ◌≤◌, Bool, true, false, cond, List, [], ◌∷◌, length, refl, sym, ap, ◌∙◌, arith, Option, Some, None, unwrap_or}
use Rattle.std.specs.List.{filter}
use Rattle.std.specs.BTreeMap.{BTreeMap, get, is_at}
use Rattle.proclang_types.specs.declared.right.Right.{Right}
use Rattle.footprint.specs.declared.resource.Resource.{Resource}
use Rattle.footprint.specs.Tree.{resource_cmp}
use Rattle.coarsen.specs.declared.level.Level.{Level}
use Rattle.coarsen.specs.Subtrees.{is_same}
use Rattle.coarsen.specs.Coarsening.{parent_at, is_parent}
use Rattle.coarsen.proofs.Tree.{same_resource, is_same_itself, ties_same}

-- how many entries of a list have this parent
abbrev pub count : Level → List (Resource × Right) → Resource → ℕ
count level es parent = length (filter (λ e. is_parent (parent_at level e.0) parent) es)

one_counted : (b : Bool) (e : Resource × Right) (es : List (Resource × Right)) → length (cond b (e ∷ es) es) ≡ cond b (length es + 1) (length es)
one_counted true e es = omega arith
one_counted false e es = refl

unwrap_cond : (b : Bool) (n : ℕ) (o : Option ℕ) → unwrap_or (cond b (Some n) o) 0 ≡ cond b n (unwrap_or o 0)
unwrap_cond true n o = refl
unwrap_cond false n o = refl

counted : (b : Bool) (n o c total : ℕ) → (b ≡ true → n ≡ o) → o + cond b (c + 1) c ≡ total → cond b (n + 1) o + c ≡ total
counted true n o c total h k = let i = h refl in omega (arith, i, k)
counted false n o c total h k = k

pub count_on : (level : Level) (new old : BTreeMap Resource ℕ) (parent : Resource) (s rest : List (Resource × Right)) (e : Resource × Right) (n total : ℕ) (q : Resource)
    → s ≡ e ∷ rest → parent_at level e.0 ≡ Some parent → n ≡ unwrap_or (get resource_cmp old parent) 0
    → get resource_cmp new q ≡ cond (is_at (resource_cmp parent) q) (Some (n + 1)) (get resource_cmp old q)
    → unwrap_or (get resource_cmp old q) 0 + count level s q ≡ total
    → unwrap_or (get resource_cmp new q) 0 + count level rest q ≡ total
count_on level new old parent s rest e n total q is ups num got k =
    let now : unwrap_or (get resource_cmp new q) 0 ≡ cond (is_same parent q) (n + 1) (unwrap_or (get resource_cmp old q) 0) =
    ap (λ o. unwrap_or o 0) got ∙ unwrap_cond (is_at (resource_cmp parent) q) (n + 1) (get resource_cmp old q) ∙ ap (λ b. cond b (n + 1) (unwrap_or (get resource_cmp old q) 0)) (ties_same parent q) in
    let was : count level s q ≡ cond (is_same parent q) (count level rest q + 1) (count level rest q) =
    ap (λ l. count level l q) is ∙ one_counted (is_parent (parent_at level e.0) q) e _ ∙ ap (λ o. cond (is_parent o q) (count level rest q + 1) (count level rest q)) ups in
    ap (λ m. m + count level rest q) now
    ∙ counted (is_same parent q) n (unwrap_or (get resource_cmp old q) 0) (count level rest q) total
    (λ t. num ∙ ap (λ x. unwrap_or (get resource_cmp old x) 0) (same_resource parent q t))
    (sym (ap (λ m. unwrap_or (get resource_cmp old q) 0 + m) was) ∙ k)

other_counted : (o : Option Resource) (e : Resource × Right) (es : List (Resource × Right)) (q : Resource) → o ≡ None → length (cond (is_parent o q) (e ∷ es) es) ≡ length es
other_counted o e es q h = ap (λ p. length (cond (is_parent p q) (e ∷ es) es)) h

pub count_other : (level : Level) (s rest : List (Resource × Right)) (e : Resource × Right) (c total : ℕ) (q : Resource)
    → s ≡ e ∷ rest → parent_at level e.0 ≡ None → c + count level s q ≡ total → c + count level rest q ≡ total
count_other level s rest e c total q is none k =
    let was : count level s q ≡ count level rest q = ap (λ l. count level l q) is ∙ other_counted (parent_at level e.0) e _ q none in
    omega (arith, was, k)

one_more : (b : Bool) (e : Resource × Right) (es : List (Resource × Right)) (m : ℕ) → length es ≤ m → length (cond b (e ∷ es) es) ≤ m + 1
one_more true e es m h = omega (arith, h)
one_more false e es m h = omega (arith, h)

pub count_within : (level : Level) (es : List (Resource × Right)) (q : Resource) → count level es q ≤ length es
count_within level [] q = omega arith
count_within level (e ∷ es) q =
    let h = one_more (is_parent (parent_at level e.0) q) e (filter (λ e. is_parent (parent_at level e.0) q) es) (length es) (count_within level es q) in omega (arith, h)

first_counted : (b : Bool) (e : Resource × Right) (es : List (Resource × Right)) → b ≡ true → 1 ≤ length (cond b (e ∷ es) es)
first_counted true e es h = omega arith
first_counted false e es h = absurd (cc)

pub count_first : (level : Level) (s rest : List (Resource × Right)) (e : Resource × Right) (parent : Resource)
    → s ≡ e ∷ rest → parent_at level e.0 ≡ Some parent → 1 ≤ count level s parent
count_first level s rest e parent is up =
    let c : count level s parent ≡ length (cond (is_parent (parent_at level e.0) parent) (e ∷ filter (λ e. is_parent (parent_at level e.0) parent) rest) (filter (λ e. is_parent (parent_at level e.0) parent) rest)) = ap (λ l. count level l parent) is in
    let h = first_counted (is_parent (parent_at level e.0) parent) e (filter (λ e. is_parent (parent_at level e.0) parent) rest) (ap (λ o. is_parent o parent) up ∙ is_same_itself parent) in
    omega (arith, c, h)
