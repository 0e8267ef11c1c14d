-- Each move keeps the rule.
use Rattle.std.proofs.Common.{◌≡◌, ℕ, ◌≤◌, ◌<◌, Bool, true, List, [], ◌∷◌, ◌++◌, length, set, refl, sym, ap, ◌∙◌, subst, ⊎_elim, append_assoc, arith}
use mathlib.Core.Option.{some}
use lib.ListN.{get_elem?}
use Rattle.std.proofs.lemmas.Bool.Decides.{nat_tests}
use Rattle.crossbeam_queue.specs.Fifo.{Pushes, Pops, Forks, Merges, Learns}
use Rattle.crossbeam_queue.proofs.Lists.{at_set}
use Rattle.batch_items.specs.declared.item.Item.{Item}
use Rattle.intake.specs.declared.view.History.{History}
use Rattle.intake.specs.declared.view.View.{View}
use Rattle.intake.specs.Histories.{from_client, numbered, IsNumbered, view, history, first_view, spent, without_drawing, only_drawing, without_first, only_first, joined, after_submit, after_draw}
use Rattle.intake.specs.Rule.{times, total, rights, drawers, AreTrue, IsStranger, IsWhole, IsInOrder, IsAccounted}
use Rattle.intake.proofs.Items.{item, log_beginning, log_more, sent_more, sent_more-own, sent_more-other}
use Rattle.intake.proofs.Places.{AllAt, total_set, total_at, total_two, all_set, all_snoc, total_snoc, times-append, times-split, times-alone, times-other, two_drawers, all_one, true-more, true-append, true-first, true-rest, true_has}

-- a stranger isn't a client whose history stands here
known_client : (p k : ℕ) → 0 < p → p ≤ 4 → IsStranger k → k ≡ p → ⊥
known_client p k low high s e = ⊎_elim (λ (z : k ≡ 0). absurd (omega arith)) (λ (z : 4 < k). absurd (omega arith)) s

begins_once : (Q : Type 0) (k : ℕ) → total (rights {Q = Q} k) (first_view ∷ []) ≤ 1
begins_once Q k = grind (arith, nat_tests)

module _ {Q : Type 0} where
  submits_next : (n pass : ℕ) (v : View Q) (p : ℕ) (s : List Q) (rest : List (History Q)) (b : Bool) (ds : List (Item Q)) (q : Q) → v ≡ view (history p s ∷ rest) b ds
      → Pushes IsInOrder n pass v (item p (length s) q) (λ w. w ≡ after_submit v q)
  submits_next n pass v p s rest b ds q is items views room h at =
      let own : View Q = view (history p s ∷ rest) b ds in
      let here : get_elem? views pass ≡ some own = at ∙ ap some is in
      let mine : AreTrue h.sent (history p s ∷ rest) = h.histories pass own here in
      let sent : ℕ → List Q = sent_more h.sent p q in
      let w : View Q = after_submit own q in
      let x : Item Q = item p (length s) q in
      let other : (k : ℕ) → (k ≡ p → ⊥) → sent k ≡ h.sent k = sent_more-other h.sent p q in
      let alone : times p rest ≡ 0 = times-alone p (history p s) rest (total (rights p) views) refl (total_at (rights p) views pass own here) (h.one_place p) in (
        after_submit v q,
        subst (λ (u : View Q). IsInOrder (items ++ x ∷ []) (set views pass u)) (ap (λ (u : View Q). after_submit u q) (sym is)) (record {
          sent = sent;
          drawn = h.drawn;
          logged = (λ k. ap (λ l. from_client k l) (sym (append_assoc h.drawn items (x ∷ []))) ∙ ap (λ l. from_client k ((h.drawn ++ items) ++ item p (length l) q ∷ [])) mine.2 ∙ log_more (h.drawn ++ items) h.sent p q h.logged k);
          strangers = (λ k s'. other k (known_client p k mine.0 mine.1 s') ∙ h.strangers k s');
          one_place = (λ k. let t = total_set (rights k) views pass own w here in let one = h.one_place k in omega arith);
          one_drawer = (let t = total_set drawers views pass own w here in let one = h.one_drawer in omega arith);
          histories = all_set (λ u. AreTrue sent u.histories) views pass w
              (mine.0, mine.1, ap (λ l. l ++ q ∷ []) mine.2 ∙ sym (sent_more-own h.sent p q), true-more h.sent sent p rest alone other mine.3)
              (λ j u apart at'.
              let none = times-other p (history p s) rest (times p u.histories) (total (rights p) views) refl (total_two (rights p) views pass j own u here at' apart) (h.one_place p) in
              true-more h.sent sent p u.histories none other (h.histories j u at'));
          draws = all_set (λ u. u.draws ≡ true → u.drawn ≡ h.drawn) views pass w (h.draws pass own here) (λ j u apart at'. h.draws j u at');
        }),
        refl,
      )

  pub submits : (n pass : ℕ) (v : View Q) (p m : ℕ) (s : List Q) (rest : List (History Q)) (b : Bool) (ds : List (Item Q)) (q : Q) → v ≡ view (history p s ∷ rest) b ds → m ≡ length s
      → Pushes IsInOrder n pass v (item p m q) (λ w. w ≡ after_submit v q)
  submits n pass v p m s rest b ds q is count = subst (λ (k : ℕ). Pushes IsInOrder n pass v (item p k q) (λ w. w ≡ after_submit v q)) (sym count) (submits_next n pass v p s rest b ds q is)

  pub refuses : (pass : ℕ) (v : View Q) → Learns IsInOrder pass v (λ items. IsAccounted v items)
  refuses pass v items views h at = record {
    drawn = h.drawn;
    known = h.draws pass v at;
    whole = true_has h.sent (h.drawn ++ items) v.histories h.logged (h.histories pass v at);
    strangers = λ k s. h.logged k ∙ ap (λ l. numbered k 0 l) (h.strangers k s);
  }

  pub draws : (pass : ℕ) (v : View Q) → v.draws ≡ true → Pops IsInOrder pass v (λ x w. (w ≡ after_draw v x) × IsNumbered w.drawn)
  draws pass v may x items views h at =
      let w : View Q = after_draw v x in
      let drawn : List (Item Q) = h.drawn ++ x ∷ [] in
      let same : v.drawn ≡ h.drawn = h.draws pass v at may in
      let log : (h.drawn ++ x ∷ []) ++ items ≡ h.drawn ++ (x ∷ items) = append_assoc h.drawn (x ∷ []) items in
      let logged : (k : ℕ) → from_client k (drawn ++ items) ≡ numbered k 0 (h.sent k) = λ k. ap (λ l. from_client k l) log ∙ h.logged k in
      let grown : w.drawn ≡ drawn = ap (λ l. l ++ x ∷ []) same in (
        w,
        record {
          sent = h.sent;
          drawn = drawn;
          logged = logged;
          strangers = h.strangers;
          one_place = (λ k. let t = total_set (rights k) views pass v w at in let b = h.one_place k in omega arith);
          one_drawer = (let t = total_set drawers views pass v w at in let b = h.one_drawer in omega arith);
          histories = all_set (λ u. AreTrue h.sent u.histories) views pass w (h.histories pass v at) (λ j u apart at'. h.histories j u at');
          draws = all_set (λ u. u.draws ≡ true → u.drawn ≡ drawn) views pass w (λ _. grown)
              (λ j u apart at' theirs.
              absurd (two_drawers v u (total drawers views) may theirs (total_two drawers views pass j v u at at' apart) h.one_drawer));
        },
        (refl, subst IsNumbered (sym grown) (log_beginning drawn items h.sent logged)),
      )

  pub finds : (pass : ℕ) (v : View Q) → v.draws ≡ true → Learns IsInOrder pass v (λ items. IsWhole (v.drawn ++ items) v.histories)
  finds pass v may items views h at =
      let same : v.drawn ≡ h.drawn = h.draws pass v at may in
      subst (λ (l : List (Item Q)). IsWhole (l ++ items) v.histories) (sym same)
      (true_has h.sent (h.drawn ++ items) v.histories h.logged (h.histories pass v at), λ k s. h.logged k ∙ ap (λ l. numbered k 0 l) (h.strangers k s))

  pub begins : IsInOrder {Q = Q} [] (first_view ∷ [])
  begins = record {
    sent = λ k. [];
    drawn = [];
    logged = (λ k. refl);
    strangers = (λ k s. refl);
    one_place = begins_once Q;
    one_drawer = omega arith;
    histories = all_one (λ v. AreTrue (λ k. []) v.histories) first_view (omega arith, omega arith, refl, (omega arith, omega arith, refl, (omega arith, omega arith, refl, (omega arith, omega arith, refl, tt))));
    draws = all_one (λ v. v.draws ≡ true → v.drawn ≡ []) first_view (λ e. refl);
  }

  pub parts_drawing : (pass : ℕ) (v : View Q) → Forks IsInOrder pass v (without_drawing v) (only_drawing v)
  parts_drawing pass v items views h at =
      let l : View Q = without_drawing v in
      let r : View Q = only_drawing v in
      let vs : List (View Q) = set views pass l in
      record {
        sent = h.sent;
        drawn = h.drawn;
        logged = h.logged;
        strangers = h.strangers;
        one_place = (λ k. let t = total_set (rights k) views pass v l at in let u = total_snoc (rights k) vs r in let b = h.one_place k in omega arith);
        one_drawer = (let t = total_set drawers views pass v l at in let u = total_snoc drawers vs r in let b = h.one_drawer in omega arith);
        histories = all_snoc (λ u. AreTrue h.sent u.histories) vs r (all_set (λ u. AreTrue h.sent u.histories) views pass l (h.histories pass v at) (λ j u _ at'. h.histories j u at')) tt;
        draws = all_snoc (λ u. u.draws ≡ true → u.drawn ≡ h.drawn) vs r (all_set (λ u. u.draws ≡ true → u.drawn ≡ h.drawn) views pass l (λ e. cc) (λ j u _ at'. h.draws j u at')) (h.draws pass v at);
      }

  pub parts_first : (pass : ℕ) (v : View Q) → Forks IsInOrder pass v (without_first v) (only_first v)
  parts_first pass v items views h at =
      let l : View Q = without_first v in
      let r : View Q = only_first v in
      let vs : List (View Q) = set views pass l in
      record {
        sent = h.sent;
        drawn = h.drawn;
        logged = h.logged;
        strangers = h.strangers;
        one_place = (λ k. let t = total_set (rights k) views pass v l at in let u = total_snoc (rights k) vs r in let b = h.one_place k in let s = times-split k v.histories in omega arith);
        one_drawer = (let t = total_set drawers views pass v l at in let u = total_snoc drawers vs r in let b = h.one_drawer in omega arith);
        histories = all_snoc (λ u. AreTrue h.sent u.histories) vs r
            (all_set (λ u. AreTrue h.sent u.histories) views pass l (true-rest h.sent v.histories (h.histories pass v at)) (λ j u _ at'. h.histories j u at'))
            (true-first h.sent v.histories (h.histories pass v at));
        draws = all_snoc (λ u. u.draws ≡ true → u.drawn ≡ h.drawn) vs r (all_set (λ u. u.draws ≡ true → u.drawn ≡ h.drawn) views pass l (h.draws pass v at) (λ j u _ at'. h.draws j u at')) (λ e. cc);
      }

  pub joins : (pass : ℕ) (v : View Q) (other : ℕ) (w : View Q) → Merges IsInOrder pass v other w (joined v w) spent
  joins pass v other w items views h at apart at' =
      let b : View Q = joined v w in
      let vs : List (View Q) = set views pass b in
      let was : get_elem? views other ≡ some w = ⊎_elim (λ t. absurd (apart t.0)) (λ t. t.1) (at_set views pass other b w at') in
      let told : AllAt (λ u. AreTrue h.sent u.histories) vs =
      all_set (λ u. AreTrue h.sent u.histories) views pass b (true-append h.sent w.histories v.histories (h.histories other w was) (h.histories pass v at)) (λ j u _ e. h.histories j u e) in
      let drew : AllAt (λ u. u.draws ≡ true → u.drawn ≡ h.drawn) vs = all_set (λ u. u.draws ≡ true → u.drawn ≡ h.drawn) views pass b (h.draws pass v at) (λ j u _ e. h.draws j u e) in
      record {
        sent = h.sent;
        drawn = h.drawn;
        logged = h.logged;
        strangers = h.strangers;
        one_place = (λ k. let t = total_set (rights k) views pass v b at in let u = total_set (rights k) vs other w spent at' in let m = h.one_place k in let s = times-append k w.histories v.histories in omega arith);
        one_drawer = (let t = total_set drawers views pass v b at in let u = total_set drawers vs other w spent at' in let m = h.one_drawer in omega arith);
        histories = all_set (λ u. AreTrue h.sent u.histories) vs other spent tt (λ j u _ e. told j u e);
        draws = all_set (λ u. u.draws ≡ true → u.drawn ≡ h.drawn) vs other spent (λ e. cc) (λ j u _ e. drew j u e);
      }
