-- The passes of a new intake.
use Rattle.std.proofs.Common.{◌≡◌, ℕ, zero, suc, ◌+◌, ◌-◌, ◌≤◌, ◌<◌, false, List, [], ◌∷◌, ◌++◌, length, drop, refl, sym, ap, ◌∙◌, subst, ⊎_elim, get_or, length-append, cond, arith}
use Rattle.std.proofs.lemmas.Bool.{cases_lt, eq-eqb, ne_eqb}
use Rattle.std.proofs.Math.ListN.{get_or-append}
use Rattle.std.proofs.Math.Seq.{get_or-append_seam}
use Rattle.intake.specs.declared.view.History.{History}
use Rattle.intake.specs.declared.intake.Intake.{Intake}
use Rattle.intake.specs.declared.passes.ClientPass.{ClientPass}
use Rattle.crossbeam_queue.specs.Passes.{IsPassOf}
use Rattle.crossbeam_queue.specs.Passes.{view as known}
use Rattle.intake.specs.declared.view.View.{View}
use Rattle.intake.specs.Histories.{view, history, no_history, without_first, only_first, sent_first, rest_of, spare_for}
use Rattle.intake.specs.Passes.{IsNewClient, AreNewClients, sent_by, spare_of, histories_of}

module _ {Q : Type 0} where
  pub next_history : (k : ℕ) → 0 < k → k ≤ 4 → drop (k - 1) (no_history {Q = Q}) ≡ history k [] ∷ drop k no_history
  next_history zero low high = absurd (omega arith)
  next_history (suc zero) low high = refl
  next_history (suc (suc zero)) low high = refl
  next_history (suc (suc (suc zero))) low high = refl
  next_history (suc (suc (suc (suc zero)))) low high = refl
  next_history (suc (suc (suc (suc (suc k))))) low high = absurd (omega arith)

  pub new_clients-nil : (intake : Intake Q) (clients : ℕ) → AreNewClients intake clients []
  new_clients-nil intake clients k d h = absurd (omega arith)

  pub new_clients-push : (intake : Intake Q) (clients : ℕ) (ps : List (ClientPass Q)) (p : ClientPass Q) (n : ℕ) → n ≡ length ps + 1 → AreNewClients intake clients ps → IsNewClient intake clients n p → AreNewClients intake clients (ps ++ p ∷ [])
  new_clients-push intake clients ps p n is old new k d h =
      ⊎_elim
      (λ (t : k < length ps). subst (λ x. IsNewClient intake clients (k + 1) x) (sym (get_or-append ps (p ∷ []) d k t)) (old k d t))
      (λ (t : length ps ≤ k).
      let e : k ≡ length ps = omega (arith, length-append ps (p ∷ [])) in
      let P : ℕ → Type 0 = λ j. IsNewClient intake clients (j + 1) (get_or (ps ++ p ∷ []) j d) in
      subst P (sym e) (subst (λ x. IsNewClient intake clients (length ps + 1) x) (sym (get_or-append_seam ps p [] d)) (subst (λ (m : ℕ). IsNewClient intake clients m p) is new)))
      (cases_lt k (length ps))

  -- the first history goes to the next client
  pub splits_next : (k : ℕ) (v l r : View Q) → 0 < k → k ≤ 4 → v ≡ view (drop (k - 1) no_history) false [] → l ≡ without_first v → r ≡ only_first v
      → (l ≡ view (drop ((k + 1) - 1) no_history) false []) × (r ≡ view (history k [] ∷ []) false [])
  splits_next k v l r low high is left right =
      let e : v ≡ view (history k [] ∷ drop k no_history) false [] = is ∙ ap (λ hs. view hs false []) (next_history k low high) in
      let n : k ≡ (k + 1) - 1 = omega arith in
      (left ∙ ap without_first e ∙ ap (λ m. view (drop m no_history) false []) n, right ∙ ap only_first e)

  pub new_client : (intake : Intake Q) (clients k : ℕ) (p : ClientPass Q) (rest : List (History Q)) → rest ≡ spare_for clients k → p.client ≡ k → p.sent ≡ 0 → IsPassOf intake.queue p.pass
      → known p.pass ≡ view (history k [] ∷ rest) false [] → IsNewClient intake clients k p
  new_client intake clients k p rest left client count pass is =
      let sent : sent_by p ≡ [] = ap (λ (v : View Q). sent_first v.histories) is in
      let spare : spare_of p ≡ rest = ap (λ (v : View Q). rest_of v.histories) is in
      let same : view (history k [] ∷ rest) false [] ≡ view (history p.client (sent_by p) ∷ spare_of p) false [] = λ i. view (history (sym client i) (sym sent i) ∷ sym spare i) false [] in
      record { client = client; pass = record { submits = record { pass = pass; view = is ∙ same ∙ sym (ap (λ (v : View Q). view (histories_of p) v.draws v.drawn) is); count = count ∙ ap length (sym sent) }; view = is ∙ same }; sent = sent; spare = spare ∙ left }

  pub spare_none : (clients k : ℕ) → k < clients → [] ≡ spare_for {Q = Q} clients k
  spare_none clients k h = sym (ap (λ b. cond b (drop k (no_history {Q = Q})) []) (ne_eqb k clients (λ e. omega arith)))

  pub spare_last : (k : ℕ) → drop k no_history ≡ spare_for {Q = Q} k k
  spare_last k = sym (ap (λ b. cond b (drop k (no_history {Q = Q})) []) (eq-eqb k k refl))
