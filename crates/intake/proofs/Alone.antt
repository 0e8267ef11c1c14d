-- A client that has the histories of all others, which have sent nothing.
use Rattle.std.proofs.Common.{◌≡◌, ◌≢◌, ℕ, zero, suc, ◌+◌, ◌≤◌, Bool, true, false, eqb, List, [], ◌∷◌, ◌++◌, length, refl, sym, ap, ◌∙◌, inl, inr, ⊎_elim, length-append, arith}
use Rattle.std.proofs.lemmas.Bool.{eq-eqb}
use Rattle.std.proofs.lemmas.Bool.Decides.{eqb_tells}
use Rattle.batch_items.specs.declared.item.Item.{Item}
use Rattle.crossbeam_queue.specs.Fifo.{Held}
use Rattle.intake.specs.declared.view.View.{View}
use Rattle.intake.specs.Histories.{from_client, numbered, history, view, HasAll}
use Rattle.intake.specs.Rule.{IsStranger, IsAccounted}

module _ {Q : Type 0} where
  from_client-keeps : (k : ℕ) (x : Item Q) (xs : List (Item Q)) → x.client ≡ k → from_client k (x ∷ xs) ≡ x ∷ from_client k xs
  from_client-keeps k x xs e = rw (eq-eqb x.client k e)

  from_client-skips : (k : ℕ) (x : Item Q) (xs : List (Item Q)) → eqb x.client k ≡ false → from_client k (x ∷ xs) ≡ from_client k xs
  from_client-skips k x xs e = rw e

  from_client-rest : (k : ℕ) (x : Item Q) (xs : List (Item Q)) → from_client k (x ∷ xs) ≡ [] → from_client k xs ≡ []
  from_client-rest k x xs h =
      ⊎_elim (λ (t : (eqb x.client k ≡ true) × (x.client ≡ k)). let e : x ∷ from_client k xs ≡ [] = sym (from_client-keeps k x xs t.1) ∙ h in cc)
      (λ (t : (eqb x.client k ≡ false) × (x.client ≢ k)). sym (from_client-skips k x xs t.0) ∙ h) (eqb_tells x.client k)

  -- where no one else sent anything, all items are the one client's
  one_client : (p : ℕ) (log : List (Item Q)) → ((k : ℕ) → (k ≡ p → ⊥) → from_client k log ≡ []) → length (from_client p log) ≡ length log
  one_client p [] none = refl
  one_client p (x ∷ xs) none =
      let rest = one_client p xs (λ k apart. from_client-rest k x xs (none k apart)) in
      ⊎_elim (λ (t : (eqb x.client p ≡ true) × (x.client ≡ p)). ap length (from_client-keeps p x xs t.1) ∙ ap suc rest)
      (λ (t : (eqb x.client p ≡ false) × (x.client ≢ p)). let e : x ∷ from_client x.client xs ≡ [] = sym (from_client-keeps x.client x xs refl) ∙ none x.client t.1 in cc) (eqb_tells x.client p)

  length-numbered : (p n : ℕ) (s : List Q) → length (numbered p n s) ≡ length s
  length-numbered p n [] = refl
  length-numbered p n (x ∷ xs) = ap suc (length-numbered p (n + 1) xs)

  -- what the pass of the one client knows
  abbrev knowing : Bool → List (Item Q) → List Q → View Q
  knowing draws drawn s = view (history 1 s ∷ history 2 [] ∷ history 3 [] ∷ history 4 [] ∷ []) draws drawn

  -- all that was drawn and all that the queue holds is what the client sent
  accounted : (draws : Bool) (drawn : List (Item Q)) (s : List Q) (items : List (Item Q)) → (h : IsAccounted (knowing draws drawn s) items) → length s ≡ length h.drawn + length items
  accounted draws drawn s items h =
      let log = h.drawn ++ items in
      let none : (k : ℕ) → (k ≡ 1 → ⊥) → from_client k log ≡ [] = λ k apart. others k apart h.whole h.strangers in
      let e = one_client 1 log none in
      let m = ap length h.whole.0 ∙ length-numbered 1 0 s in
      let a = length-append h.drawn items in
      omega arith
    where
      others : (k : ℕ) → (k ≡ 1 → ⊥) → HasAll (h.drawn ++ items) (knowing draws drawn s).histories → ((client : ℕ) → IsStranger client → from_client client (h.drawn ++ items) ≡ []) → from_client k (h.drawn ++ items) ≡ []
      others zero apart whole none = none zero (inl refl)
      others (suc zero) apart whole none = absurd (apart refl)
      others (suc (suc zero)) apart whole none = whole.1.0
      others (suc (suc (suc zero))) apart whole none = whole.1.1.0
      others (suc (suc (suc (suc zero)))) apart whole none = whole.1.1.1.0
      others (suc (suc (suc (suc (suc k))))) apart whole none = none (suc (suc (suc (suc (suc k))))) (inr (omega arith))

  pub held_alone : (s : List Q) (n : ℕ) → Held n (IsAccounted (knowing false [] s)) → n ≤ length s
  held_alone s n h = let a = accounted false [] s h.0 h.2 in let e : length h.0 ≡ n = h.1 in omega arith

  pub held_drawing : (s : List Q) (drawn : List (Item Q)) (n : ℕ) → Held n (IsAccounted (knowing true drawn s)) → length s ≡ length drawn + n
  held_drawing s drawn n h =
      let a = accounted true drawn s h.0 h.2 in
      let e : length h.0 ≡ n = h.1 in
      let d : drawn ≡ h.2.drawn = h.2.known refl in
      let l : length drawn ≡ length h.2.drawn = ap length d in
      omega arith
