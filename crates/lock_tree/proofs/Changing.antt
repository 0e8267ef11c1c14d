-- The queue of one resource that changes.
use Rattle.std.proofs.Common.{◌≡◌, ℕ, true, false, cond, Option, None, Some, refl, sym, ◌∙◌, ap, subst}
use Rattle.std.specs.HashMap.{get}
use Rattle.footprint.specs.declared.resource.Resource.{Resource}
use Rattle.lock_tree.specs.Queues.{Queue}
use Rattle.lock_tree.specs.Keys.{resource_eq}
use Rattle.lock_tree.specs.Lines.{Lines, line, number_of, numbered, in_order, is_same}
use Rattle.lock_tree.proofs.Resources.{same_resource, itself}

module _ (was now : Lines) (r : Resource) (q : ℕ) (f : Queue → Queue) (numbers : now.numbers ≡ was.numbers) (named : number_of was r ≡ Some q)
    (unique : (s : Resource) (n : ℕ) → number_of was s ≡ Some n → number_of was r ≡ Some n → s ≡ r) (here : in_order now.nodes q ≡ f (in_order was.nodes q))
    (elsewhere : (n : ℕ) → (n ≡ q → ⊥) → in_order now.nodes n ≡ in_order was.nodes n) where
  same_number : (s : Resource) → number_of now s ≡ number_of was s
  same_number s = ap (λ m. get resource_eq m s) numbers

  line_there : line now r ≡ f (line was r)
  line_there = ap (numbered now.nodes) (same_number r ∙ named) ∙ here ∙ ap f (sym (ap (numbered was.nodes) named))

  other_line : (s : Resource) → (s ≡ r → ⊥) → (o : Option ℕ) → number_of was s ≡ o → numbered now.nodes o ≡ numbered was.nodes o
  other_line s other None is = refl
  other_line s other (Some n) is = elsewhere n (λ e. other (unique s n is (named ∙ ap Some (sym e))))

  pub line_changed : (s : Resource) → line now s ≡ cond (is_same s r) (f (line was s)) (line was s)
  line_changed s = elim (is_same s r) as (λ v. is_same s r ≡ v → line now s ≡ cond v (f (line was s)) (line was s)) [
    | true ↦ λ e. subst (λ (t : Resource). line now t ≡ f (line was t)) (sym (same_resource s r e)) line_there
    | false ↦ λ e. ap (numbered now.nodes) (same_number s) ∙ other_line s (λ same. let yes_same : is_same s r ≡ true = ap (λ t. is_same t r) same ∙ itself r in cc) (number_of was s) refl
  ] refl
