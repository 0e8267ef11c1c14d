-- What is said to a client, where what is said to others was set apart before.
use Rattle.std.proofs.Common.{◌≡◌, ◌≢◌, ℕ, ◌+◌, ◌==◌, not, Bool, true, false, eqb, List, [], ◌∷◌, ◌++◌, length, map, filter, Vec, Global, refl, sym, ap, ◌∙◌, ⊎_elim, arith}
use Rattle.std.proofs.lemmas.Bool.Decides.{eqb_tells}
use Rattle.std.proofs.lemmas.Bool.{ne_eqb}
use Rattle.example_serving.specs.declared.told.Told.{Told}
use Rattle.example_serving.specs.Serving.{Said, said_in, said_to_client, said_to_others, AreToClients}

filter-keeps : (p : Said → Bool) (x : Said) (xs : List Said) → p x ≡ true → filter p (x ∷ xs) ≡ x ∷ filter p xs
filter-keeps p x xs e = rw e refl

filter-skips : (p : Said → Bool) (x : Said) (xs : List Said) → p x ≡ false → filter p (x ∷ xs) ≡ filter p xs
filter-skips p x xs e = rw e refl

same_on : (p : Said → Bool) (x : Said) (xs ys : List Said) (b : Bool) → p x ≡ b → filter p xs ≡ filter p ys → filter p (x ∷ xs) ≡ filter p (x ∷ ys)
same_on p x xs ys true e same = filter-keeps p x xs e ∙ ap (λ l. x ∷ l) same ∙ sym (filter-keeps p x ys e)
same_on p x xs ys false e same = filter-skips p x xs e ∙ same ∙ sym (filter-skips p x ys e)

-- what is said to one client is there still where what is said to another was taken out
pub others_keep : (client other : ℕ) → (client ≡ other → ⊥) → (xs : List Said) → said_to_client client (said_to_others other xs) ≡ said_to_client client xs
others_keep client other apart [] = refl
others_keep client other apart (x ∷ xs) =
    let rest = others_keep client other apart xs in
    ⊎_elim
    (λ (t : (eqb x.client other ≡ true) × (x.client ≡ other)).
    ap (said_to_client client) (filter-skips (λ s. not (s.client == other)) x xs (ap not t.0)) ∙ rest
    ∙ sym (filter-skips (λ s. s.client == client) x xs (ne_eqb x.client client (λ e. apart (sym e ∙ t.1)))))
    (λ (t : (eqb x.client other ≡ false) × (x.client ≢ other)).
    ap (said_to_client client) (filter-keeps (λ s. not (s.client == other)) x xs (ap not t.0))
    ∙ same_on (λ s. s.client == client) x (said_to_others other xs) xs (x.client == client) refl rest)
    (eqb_tells x.client other)

-- one client's list more
pub lists_more : (client : ℕ) (lists : List (Vec Told Global)) (list : Vec Told Global) (all : List Said) → AreToClients client lists all → map said_in list.items ≡ said_to_client (client + length lists) all
    → AreToClients client (lists ++ list ∷ []) all
lists_more client [] list all h is = (is ∙ ap (λ k. said_to_client k all) (omega arith), tt)
lists_more client (l ∷ ls) list all h is = (h.0, lists_more (client + 1) ls list all h.1 (is ∙ ap (λ k. said_to_client k all) (omega arith)))
