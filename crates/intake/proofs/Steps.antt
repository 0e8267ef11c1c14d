-- What a step of its pass leaves of a drawer.
use Rattle.std.proofs.Common.{◌≡◌, List, [], ◌∷◌, ◌++◌, refl, sym, ap, ◌∙◌, subst, append_assoc, false, length}
use Rattle.crossbeam_queue.specs.Passes.{IsPassOf, IsSamePass}
use Rattle.crossbeam_queue.specs.Passes.{view as known}
use Rattle.batch_items.specs.declared.item.Item.{Item}
use Rattle.intake.specs.declared.view.View.{View}
use Rattle.intake.specs.declared.intake.Intake.{Intake}
use Rattle.intake.specs.declared.passes.DrawPass.{DrawPass}
use Rattle.intake.specs.declared.passes.ClientPass.{ClientPass}
use Rattle.intake.specs.declared.view.History.{History}
use Rattle.intake.specs.Histories.{IsNumbered, after_draw, view, history, sent_first, first_of, rest_of, joined, only_first, without_first}
use Rattle.intake.specs.Draining.{all_items, AreBatches, Appends, IsLentBy, IsBackWith}
use Rattle.intake.specs.Passes.{IsDrawerOf, IsClientOf, drawn_by, held_by, sent_by, spare_of, histories_of, own_history}

module _ {Q B : Type 0} (items_of : B → List (Item Q)) where
  all_items-append : (xs ys : List B) → all_items items_of (xs ++ ys) ≡ all_items items_of xs ++ all_items items_of ys
  all_items-append [] ys = refl
  all_items-append (x ∷ xs) ys = ap (λ l. items_of x ++ l) (all_items-append xs ys) ∙ sym (append_assoc (items_of x) (all_items items_of xs) (all_items items_of ys))

  more_batches : (xs ys : List B) → AreBatches items_of xs → AreBatches items_of ys → AreBatches items_of (xs ++ ys)
  more_batches [] ys h k = k
  more_batches (x ∷ xs) ys h k = (h.0, h.1, more_batches xs ys h.2 k)

  -- one batch more, unless it was empty
  pub appends_more : (a b c e : List B) (x y z d : List (Item Q)) → Appends items_of a b x y → e ≡ b → ((more : List B) × (c ≡ e ++ more) × (all_items items_of more ≡ d) × AreBatches items_of more) → z ≡ y ++ d
      → Appends items_of a c x z
  appends_more a b c e x y z d h same k drawn = let all = all_items items_of h.0 in (
    h.0 ++ k.0,
    k.1 ∙ ap (λ l. l ++ k.0) (same ∙ h.1) ∙ append_assoc a h.0 k.0,
    drawn ∙ ap (λ l. l ++ d) h.2 ∙ append_assoc x all d ∙ ap (λ l. x ++ (all ++ l)) (sym k.2) ∙ ap (λ l. x ++ l) (sym (all_items-append h.0 k.0)),
    more_batches h.0 k.0 h.3 k.3,
  )

module _ {Q : Type 0} where
  pub drawer_stays : (intake : Intake Q) (p q : DrawPass Q) → IsSamePass p.pass q.pass → known q.pass ≡ known p.pass → IsDrawerOf intake p
      → IsDrawerOf intake q × (held_by q ≡ held_by p) × (drawn_by q ≡ drawn_by p)
  drawer_stays intake p q same is h =
      let drawn : drawn_by q ≡ drawn_by p = ap (λ (v : View Q). v.drawn) is in (
        record { pass = (same.0 ∙ h.pass.0, same.2 ∙ h.pass.1); draws = ap (λ (v : View Q). v.draws) is ∙ h.draws; numbered = subst IsNumbered (sym drawn) h.numbered },
        ap (λ (v : View Q). v.histories) is,
        drawn,
      )

  pub drawer_draws : (intake : Intake Q) (p q : DrawPass Q) (x : Item Q) → IsSamePass p.pass q.pass → known q.pass ≡ after_draw (known p.pass) x → IsNumbered (drawn_by q) → IsDrawerOf intake p
      → IsDrawerOf intake q × (held_by q ≡ held_by p) × (drawn_by q ≡ drawn_by p ++ x ∷ [])
  drawer_draws intake p q x same is numbered h = (
    record { pass = (same.0 ∙ h.pass.0, same.2 ∙ h.pass.1); draws = ap (λ (v : View Q). v.draws) is ∙ h.draws; numbered = numbered },
    ap (λ (v : View Q). v.histories) is,
    ap (λ (v : View Q). v.drawn) is,
  )

  -- the history is back where it was
  pub client_back : (intake : Intake Q) (old lent new : ClientPass Q) (hs : List (History Q)) → IsClientOf intake old → IsLentBy intake old lent → IsBackWith intake hs lent new → hs ≡ own_history old ∷ []
      → IsClientOf intake new × (histories_of new ≡ histories_of old) × (own_history new ≡ own_history old)
  client_back intake old lent new hs h l b is =
      let back : known new.pass ≡ view (own_history old ∷ spare_of old) false [] = b.view ∙ ap (λ (v : View Q). view (hs ++ v.histories) v.draws v.drawn) l.view ∙ ap (λ ks. view (ks ++ spare_of old) false []) is in
      let client : new.client ≡ old.client = b.client ∙ l.client in
      let sent : sent_by new ≡ sent_by old = ap (λ (v : View Q). sent_first v.histories) back in
      let spare : spare_of new ≡ spare_of old = ap (λ (v : View Q). rest_of v.histories) back in
      let same : view (own_history old ∷ spare_of old) false [] ≡ view (own_history new ∷ spare_of new) false [] = λ i. view (history (sym client i) (sym sent i) ∷ sym spare i) false [] in (
        record { submits = record { pass = b.pass; view = back ∙ same ∙ sym (ap (λ (v : View Q). view (histories_of new) v.draws v.drawn) back); count = b.count ∙ l.count ∙ ap length (sym sent) }; view = back ∙ same },
        (λ i. history (client i) (sent i) ∷ spare i),
        (λ i. history (client i) (sent i)),
      )

  pub drawer_takes : (intake : Intake Q) (p q : DrawPass Q) (from : ClientPass Q) → IsDrawerOf intake p → IsClientOf intake from → IsPassOf intake.queue q.pass → known q.pass ≡ joined (known p.pass) (only_first (known from.pass))
      → IsDrawerOf intake q × (held_by q ≡ own_history from ∷ held_by p) × (drawn_by q ≡ drawn_by p)
  drawer_takes intake p q from h client pass is =
      let drawn : drawn_by q ≡ drawn_by p = ap (λ (v : View Q). v.drawn) is in (
        record { pass = pass; draws = ap (λ (v : View Q). v.draws) is ∙ h.draws; numbered = subst IsNumbered (sym drawn) h.numbered },
        ap (λ (v : View Q). v.histories) is ∙ ap (λ (v : View Q). first_of v.histories ++ held_by p) client.view,
        drawn,
      )

  pub drawer_gives : (intake : Intake Q) (p q : DrawPass Q) → IsDrawerOf intake p → IsPassOf intake.queue q.pass → known q.pass ≡ without_first (known p.pass)
      → IsDrawerOf intake q × (held_by q ≡ rest_of (held_by p)) × (drawn_by q ≡ drawn_by p)
  drawer_gives intake p q h pass is =
      let drawn : drawn_by q ≡ drawn_by p = ap (λ (v : View Q). v.drawn) is in (
        record { pass = pass; draws = ap (λ (v : View Q). v.draws) is ∙ h.draws; numbered = subst IsNumbered (sym drawn) h.numbered },
        ap (λ (v : View Q). v.histories) is,
        drawn,
      )

  -- the pass takes in all that a client's pass knows
  pub drawer_takes_all : (intake : Intake Q) (p q : DrawPass Q) (from : ClientPass Q) → IsDrawerOf intake p → IsClientOf intake from → IsPassOf intake.queue q.pass → known q.pass ≡ joined (known p.pass) (known from.pass)
      → IsDrawerOf intake q × (held_by q ≡ histories_of from ++ held_by p) × (drawn_by q ≡ drawn_by p)
  drawer_takes_all intake p q from h client pass is =
      let drawn : drawn_by q ≡ drawn_by p = ap (λ (v : View Q). v.drawn) is in (
        record { pass = pass; draws = ap (λ (v : View Q). v.draws) is ∙ h.draws; numbered = subst IsNumbered (sym drawn) h.numbered },
        ap (λ (v : View Q). v.histories) is ∙ ap (λ (v : View Q). v.histories ++ held_by p) client.view,
        drawn,
      )
