-- Items of one client, in their order.
use Rattle.std.proofs.Common.{◌≡◌, ◌≢◌, ℕ, ◌+◌, true, false, eqb, cond, List, [], ◌∷◌, ◌++◌, length, refl, sym, ap, ◌∙◌, subst, ⊎_elim, arith}
use Rattle.std.proofs.lemmas.Bool.Decides.{eqb_tells}
use Rattle.std.proofs.lemmas.Bool.{eq-eqb, ne_eqb}
use Rattle.std.proofs.lemmas.List.{append-nil}
use Rattle.std.proofs.lemmas.List.Elements.{filter-append}
use Rattle.batch_items.specs.declared.item.Item.{Item}
use Rattle.intake.specs.Histories.{from_client, numbered, IsNumbered}

module _ {Q : Type 0} where
  abbrev pub item : ℕ → ℕ → Q → Item Q
  item client number request = record { client = client; number = number; request = request }

  pub from_client-append : (k : ℕ) (xs ys : List (Item Q)) → from_client k (xs ++ ys) ≡ from_client k xs ++ from_client k ys
  from_client-append k xs ys = filter-append (λ (x : Item Q). eqb x.client k) xs ys

  from_client-own : (k n : ℕ) (q : Q) → from_client k (item k n q ∷ []) ≡ item k n q ∷ []
  from_client-own k n q = rw (eq-eqb k k refl)

  from_client-other : (k p n : ℕ) (q : Q) → (p ≡ k → ⊥) → from_client k (item p n q ∷ []) ≡ []
  from_client-other k p n q apart = rw (ne_eqb p k apart)

  pub numbered-append : (p n : ℕ) (xs ys : List Q) → numbered p n (xs ++ ys) ≡ numbered p n xs ++ numbered p (n + length xs) ys
  numbered-append p n [] ys = let e : n ≡ n + 0 = omega arith in ap (λ k. numbered p k ys) e
  numbered-append p n (x ∷ xs) ys = let e : (n + 1) + length xs ≡ n + length (x ∷ xs) = omega arith in
      ap (λ l. item p n x ∷ l) (numbered-append p (n + 1) xs ys ∙ ap (λ k. numbered p (n + 1) xs ++ numbered p k ys) e)

  -- a beginning of numbered items is numbered
  numbered-beginning : (p n : ℕ) (xs ys : List (Item Q)) (qs : List Q) → xs ++ ys ≡ numbered p n qs → (rs : List Q) × (xs ≡ numbered p n rs)
  numbered-beginning p n [] ys qs e = ([], refl)
  numbered-beginning p n (x ∷ xs) ys [] e = cc
  numbered-beginning p n (x ∷ xs) ys (q ∷ qs) e =
      let e' : xs ++ ys ≡ numbered p (n + 1) qs = cc in
      let r = numbered-beginning p (n + 1) xs ys qs e' in
      let first : x ≡ item p n q = cc in
      let rest : xs ≡ numbered p (n + 1) r.0 = r.1 in
      (q ∷ r.0, cc)

  -- what is a beginning of the log is numbered, client by client
  pub log_beginning : (drawn items : List (Item Q)) (sent : ℕ → List Q) → ((k : ℕ) → from_client k (drawn ++ items) ≡ numbered k 0 (sent k)) → IsNumbered drawn
  log_beginning drawn items sent logged k = numbered-beginning k 0 (from_client k drawn) (from_client k items) (sent k) (sym (from_client-append k drawn items) ∙ logged k)

  -- the client's history after one more request
  abbrev pub sent_more : (ℕ → List Q) → ℕ → Q → ℕ → List Q
  sent_more sent p q k = cond (eqb k p) (sent p ++ q ∷ []) (sent k)

  pub sent_more-own : (sent : ℕ → List Q) (p : ℕ) (q : Q) → sent_more sent p q p ≡ sent p ++ q ∷ []
  sent_more-own sent p q = rw (eq-eqb p p refl)

  pub sent_more-other : (sent : ℕ → List Q) (p : ℕ) (q : Q) (k : ℕ) → (k ≡ p → ⊥) → sent_more sent p q k ≡ sent k
  sent_more-other sent p q k apart = rw (ne_eqb k p apart)

  -- the log after one more request
  pub log_more : (log : List (Item Q)) (sent : ℕ → List Q) (p : ℕ) (q : Q) → ((k : ℕ) → from_client k log ≡ numbered k 0 (sent k))
      → (k : ℕ) → from_client k (log ++ item p (length (sent p)) q ∷ []) ≡ numbered k 0 (sent_more sent p q k)
  log_more log sent p q logged k =
      let x = item p (length (sent p)) q in
      ⊎_elim
      (λ (t : (eqb k p ≡ true) × (k ≡ p)).
      let P : ℕ → Type 0 = λ m. from_client m (log ++ x ∷ []) ≡ numbered m 0 (sent_more sent p q m) in
      let zero_first : 0 + length (sent p) ≡ length (sent p) = omega arith in
      let here : P p = from_client-append p log (x ∷ []) ∙ ap (λ l. l ++ from_client p (x ∷ [])) (logged p) ∙ ap (λ l. numbered p 0 (sent p) ++ l) (from_client-own p (length (sent p)) q)
      ∙ sym (numbered-append p 0 (sent p) (q ∷ []) ∙ ap (λ m. numbered p 0 (sent p) ++ item p m q ∷ []) zero_first)
      ∙ ap (λ l. numbered p 0 l) (sym (sent_more-own sent p q)) in
      subst P (sym t.1) here)
      (λ (t : (eqb k p ≡ false) × (k ≢ p)).
      from_client-append k log (x ∷ []) ∙ ap (λ l. from_client k log ++ l) (from_client-other k p (length (sent p)) q (λ e. t.1 (sym e))) ∙ append-nil (from_client k log) ∙ logged k
      ∙ ap (λ l. numbered k 0 l) (sym (sent_more-other sent p q k t.1)))
      (eqb_tells k p)
