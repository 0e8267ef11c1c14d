-- Each of the six kinds of step keeps the rule of the lanes, and tells what it says.
use Rattle.std.proofs.Common.{◌≡◌, ◌≢◌, ℕ, zero, suc, ◌<◌, eqb, List, [], ◌∷◌, ◌++◌, length, get_or, set, sym, refl, ap, ◌∙◌, subst, ⊎_elim, arith, suc-ne-zero, Bool, length-set, length-append, get_or-set_other, get_or-set_same, replicate, true, false}
use Rattle.std.proofs.lemmas.Option.{none-some, same_Some, slice_get_within}
use mathlib.Core.Option.{none, some}
use mathlib.Core.Logic.{dite}
use native.Mathlib.Decide.{ℕ_discrete}
use prog.Atomic.{either}
use lib.ListN.{length-replicate}
use Rattle.std.specs.Prelude.{Option, Some, None, slice_get}
use Rattle.atomic_table.specs.Table.{Act, step, keeps, takes, gives, Valid, stepped, carried_after, rest, Allows, Splits}
use Rattle.atomic_table.proofs.Lists.{set_here, set_else, set_again, at_snoc, exchanged}
use Rattle.hand_off.specs.declared.state.LaneState.TheVariants as state
use Rattle.hand_off.specs.declared.view.Claim.{Claim}
use Rattle.hand_off.specs.declared.view.Known.TheVariants as known
use Rattle.hand_off.specs.declared.view.Load.TheVariants.{Job, Done}
use Rattle.hand_off.specs.Views.{knowing, with_note, putting, claiming, delivering, newcomer}
use Rattle.hand_off.specs.Rule.{Phase, idle, filling, waiting, taken, finished, draining, Claimant, nobody, by, state_of, known_of, Seated, Laned}
use Rattle.hand_off.specs.Steps.{Seat, fills, posts, drains, clears, claims, delivers}
use Rattle.hand_off.proofs.Phases.{put_at, at_put, put_here, put_other, holder, awaited, job_in, times_claimed, not_idle, at_filling, at_draining, other_state, at_idle, at_waiting, at_finished}
use Rattle.hand_off.proofs.Lists.{at_longer, at_end, at_either}
use Rattle.hand_off.proofs.Stands.{shown_at, stands_after}
use Rattle.hand_off.proofs.Keeps.{stays, S, V, St, waits_on, unmoved, scheduled, worked}

abbrev flag : Bool → ℕ
flag true = 1
flag false = 0

module _ {J D : Type 0} (comes_of : J → D → Type 0) where
  abbrev Rule : St comes_of → Type 0
  Rule = Laned comes_of

  abbrev Goes : St comes_of → ℕ → ℕ → Seat J D → (ℕ → Seat J D → Type 0) → ℕ → Type 0
  Goes s i id me then x = (w : V comes_of) × (a : Act (S comes_of)) × Valid s.homes me.1 a × Rule (stepped s i x id me.1 w a) × then (get_or s.words i 0) (w, carried_after me.1 a)

  pub may_fill : (n id : ℕ) (me : Seat J D) (i : ℕ) → i < n → me.0.schedules ≡ true → Allows Rule n id me i (λ y. either (eqb y 0) 1 y) (fills (step n i 0 1 none) me)
  may_fill n id me i close sch s r wide at _ =
      let y : ℕ = get_or s.words i 0 in let told = fills (step n i 0 1 none) me in let near : i < length s.homes = omega arith in let ok = r.each_lane i near in let k = (r.each_seat id me.0 at).schedules sch in
      exchanged y 0 1 (Goes s i id me told)
      (λ hit. let is = at_idle comes_of s.homes i (r.phases i) (sym ok.shows ∙ hit) ok.lies in (
        knowing me.0 i known.Filling,
        takes i None,
        is.1,
        scheduled comes_of s r i id filling (set s.homes i none) r.puts me.0 (knowing me.0 i known.Filling) at sch
            (record { near = near; as_long = length-set s.homes i none; homes = λ j o. set_else s.homes i j none o; lies = tt; waits = waits_on comes_of r.phases r.puts r.claimants i filling refl r.waits; fresh = r.fresh; grows = stays r.puts r.claimants })
            (ap holder is.0) refl k.all_puts refl refl,
        ((λ _. (k.knows i near ∙ ap known_of is.0, refl)), λ miss. absurd (miss hit)),
      ))
      (λ miss. (
        me.0,
        keeps,
        tt,
        unmoved comes_of s r i id me.1 me.0 me.0 at refl refl refl refl refl,
        ((λ hit. absurd (miss hit)), λ _. ((λ e. not_idle (r.phases i) (λ z. miss (ok.shows ∙ z)) (sym (k.knows i near) ∙ e)), refl)),
      ))

  job_front : J → List (ℕ × S comes_of) → J
  job_front j [] = j
  job_front j (x ∷ xs) = inside x.1
    where
      inside : S comes_of → J
      inside None = j
      inside (Some (Job k)) = k
      inside (Some (Done d)) = j

  pub may_post : (n id : ℕ) (me : Seat J D) (i : ℕ) (job : J) (more : List (ℕ × S comes_of)) → i < n → me.0.schedules ≡ true → get_or me.0.known i known.Idle ≡ known.Filling → me.1 ≡ (i, Some (Job job)) ∷ more
      → Allows Rule n id me i (λ _. 2) (λ _. posts comes_of (step n i 2 0 none) me)
  unfolding job_front
  may_post n id me i job more close sch note has s r wide at _ =
      let near : i < length s.homes = omega arith in let k = (r.each_seat id me.0 at).schedules sch in let is = at_filling (r.phases i) (sym (k.knows i near) ∙ note) in
      let q : ℕ = length r.puts in let p : Phase J = waiting q job in let puts' : List (ℕ × J) = r.puts ++ (i, job) ∷ [] in let homes' = set s.homes i (some (Some (Job job))) in
      let grown : length puts' ≡ suc q = length-append r.puts ((i, job) ∷ []) ∙ (omega arith) in
      let kept = scheduled comes_of s r i id p homes' puts' me.0 (putting me.0 i job) at sch
      (record {
        near = near;
        as_long = length-set s.homes i (some (Some (Job job)));
        homes = λ j o. set_else s.homes i j (some (Some (Job job))) o;
        lies = set_here s.homes i (some (Some (Job job))) near;
        waits = λ j put x e. at_put r.phases i p (λ l y. l ≡ j → y ≡ waiting put x → (slice_get puts' put ≡ Some (j, x)) × (r.claimants put ≡ nobody)) j
            (λ here l_is y_is. let same : suc q ≡ suc put = ap awaited y_is in let put_is : q ≡ put = omega arith in (
              subst (λ (m : ℕ). slice_get puts' m ≡ Some (j, x)) put_is (at_end r.puts (i, job) ∙ ap (λ (z : ℕ × J). Some z) (λ t. (l_is t, ap (job_in job) y_is t))),
              r.fresh put (omega arith),
            ))
            (λ other _ y_is. let had = r.waits j put x y_is in (at_longer r.puts ((i, job) ∷ []) put (j, x) had.0, had.1)) refl e;
        fresh = λ put le. r.fresh put (omega arith);
        grows = record { all_puts = λ m x e. at_longer r.puts ((i, job) ∷ []) m x e; claimants = λ m a b e. e };
      })
      (ap holder is) refl (ap (λ ps. ps ++ (i, job) ∷ []) k.all_puts) refl refl in
      subst (λ (c : List (ℕ × S comes_of)). Goes s i id (me.0, c) (λ _. posts comes_of (step n i 2 0 none) (me.0, c)) 2) (sym has) (
        putting me.0 i job,
        gives,
        tt,
        kept,
        ((λ j more' e. (λ t. (putting me.0 i (job_front job (e t)), rest (e t)))), stands_after comes_of s id me.0 (putting me.0 i job) _ _ at kept),
      )

  pub may_drain : (n id : ℕ) (me : Seat J D) (i : ℕ) → i < n → me.0.schedules ≡ true → Allows Rule n id me i (λ y. either (eqb y 4) 5 y) (drains comes_of (step n i 4 5 none) me)
  may_drain n id me i close sch s r wide at _ =
      let y : ℕ = get_or s.words i 0 in let told = drains comes_of (step n i 4 5 none) me in let near : i < length s.homes = omega arith in let ok = r.each_lane i near in let k = (r.each_seat id me.0 at).schedules sch in
      exchanged y 4 5 (Goes s i id me told)
      (λ hit. let is = at_finished comes_of s.homes i (r.phases i) (sym ok.shows ∙ hit) ok.lies in let job : J = is.0 in let done : D = is.2.0 in let w : V comes_of = knowing (with_note me.0 i state.Finished) i (known.Draining job) in (
        w,
        takes i (Some (Done done)),
        is.2.2,
        scheduled comes_of s r i id (draining job) (set s.homes i none) r.puts me.0 w at sch
            (record { near = near; as_long = length-set s.homes i none; homes = λ j o. set_else s.homes i j none o; lies = tt; waits = waits_on comes_of r.phases r.puts r.claimants i (draining job) refl r.waits; fresh = r.fresh; grows = stays r.puts r.claimants })
            (ap holder is.1) refl k.all_puts refl refl,
        ((λ _. (job, done, k.knows i near ∙ ap known_of is.1, is.2.1, refl, shown_at comes_of s id i me.0 state.Finished r at near hit)), λ miss. absurd (miss hit)),
      ))
      (λ miss. let found = state_of (r.phases i) in let w : V comes_of = with_note me.0 i found in (
        w,
        keeps,
        tt,
        unmoved comes_of s r i id me.1 me.0 w at refl refl refl refl refl,
        ((λ hit. absurd (miss hit)), λ _. (found, other_state (r.phases i) state.Finished (λ z. miss (ok.shows ∙ z)), refl, shown_at comes_of s id i me.0 found r at near ok.shows)),
      ))

  pub may_clear : (n id : ℕ) (me : Seat J D) (i : ℕ) (job : J) (more : List (ℕ × S comes_of)) → i < n → me.0.schedules ≡ true → get_or me.0.known i known.Idle ≡ known.Draining job → me.1 ≡ (i, None) ∷ more
      → Allows Rule n id me i (λ _. 0) (λ _. clears comes_of (step n i 0 0 none) me)
  may_clear n id me i job more close sch note has s r wide at _ =
      let near : i < length s.homes = omega arith in let k = (r.each_seat id me.0 at).schedules sch in
      let kept = scheduled comes_of s r i id idle (set s.homes i (some None)) r.puts me.0 (knowing me.0 i known.Idle) at sch
      (record { near = near; as_long = length-set s.homes i (some None); homes = λ j o. set_else s.homes i j (some None) o; lies = set_here s.homes i (some None) near; waits = waits_on comes_of r.phases r.puts r.claimants i idle refl r.waits; fresh = r.fresh; grows = stays r.puts r.claimants })
      (at_draining (r.phases i) job (sym (k.knows i near) ∙ note)) refl k.all_puts refl refl in
      subst (λ (c : List (ℕ × S comes_of)). Goes s i id (me.0, c) (λ _. clears comes_of (step n i 0 0 none) (me.0, c)) 0) (sym has) (
        knowing me.0 i known.Idle,
        gives,
        tt,
        kept,
        (refl, stands_after comes_of s id me.0 (knowing me.0 i known.Idle) _ _ at kept),
      )

  pub may_claim : (n id : ℕ) (me : Seat J D) (i : ℕ) → i < n → Allows Rule n id me i (λ y. either (eqb y 2) 3 y) (claims comes_of (step n i 2 3 none) me)
  may_claim n id me i close s r wide at _ =
      let y : ℕ = get_or s.words i 0 in let told = claims comes_of (step n i 2 3 none) me in let near : i < length s.homes = omega arith in let ok = r.each_lane i near in let k = r.each_seat id me.0 at in
      exchanged y 2 3 (Goes s i id me told)
      (λ hit. let is = at_waiting comes_of s.homes i (r.phases i) (sym ok.shows ∙ hit) ok.lies in let put : ℕ = is.0 in let job : J = is.1 in let p : Phase J = taken id job in let w : V comes_of = claiming me.0 i put job in
      let had = r.waits i put job is.2 in let place : ℕ = length me.0.claims in let cl' : ℕ → Claimant = put_at r.claimants put (by id place) in
      let others : (q : ℕ) → q ≢ put → cl' q ≡ r.claimants q = λ q o. put_other r.claimants put (by id place) q o in
      let free : get_or me.0.claimed i None ≡ None = unclaimed (get_or me.0.claimed i None) (λ x e. suc-ne-zero id (sym (ap holder (k.claimed i x e)) ∙ ap holder is.2)) in
      let long : length me.0.claimed ≡ length s.homes = k.wide in
      let kept = worked comes_of s r i id p (set s.homes i none) cl' me.0 w at
      (record {
        near = near;
        as_long = length-set s.homes i none;
        homes = λ j o. set_else s.homes i j none o;
        lies = tt;
        waits = λ j q x e. let old = waits_on comes_of r.phases r.puts r.claimants i p refl r.waits j q x e in (
          old.0,
          others q (λ same. at_put r.phases i p (λ l z. l ≡ j → z ≡ waiting q x → ⊥) j
              (λ _ _ z_is. suc-ne-zero q (sym (ap awaited z_is))) (λ o _ _. o (lane_of r.puts put q j i x job same old.0 had.0)) refl e) ∙ old.1,
        );
        fresh = λ q le. others q (λ same. let within : put < length r.puts = slice_get_within r.puts put (i, job) had.0 in absurd (omega arith)) ∙ r.fresh q le;
        grows = record { all_puts = λ m x e. e; claimants = λ m a b e. others m (λ same. suc-ne-zero 0 (sym (ap times_claimed (sym had.1 ∙ ap r.claimants (sym same) ∙ e)))) ∙ e };
      })
      (λ other _ e. suc-ne-zero other (sym e ∙ ap holder is.2)) (sym (ap known_of is.2)) refl refl refl
      (length-set me.0.claimed i (Some job) ∙ k.wide)
      (λ l x e. dite (ℕ_discrete l i)
      (λ here. subst (λ (z : ℕ). put_at r.phases i p z ≡ taken id x) (sym here) (put_here r.phases i p ∙ ap (λ (z : J). taken id z)
      (same_Some job x (sym (get_or-set_same me.0.claimed i (Some job) None (omega arith)) ∙ subst (λ (z : ℕ). get_or (set me.0.claimed i (Some job)) z None ≡ Some x) here e))))
      (λ o. put_other r.phases i p l o ∙ k.claimed l x (sym (get_or-set_other me.0.claimed i l (Some job) None o) ∙ e)))
      (λ m c e. at_either me.0.claims record { put = put; lane = i; job = job } c m ((slice_get r.puts c.put ≡ Some (c.lane, c.job)) × (cl' c.put ≡ by id m)) e
      (λ before. let old = k.claims m c before in (old.0, others c.put (λ same. suc-ne-zero 0 (sym (ap times_claimed (sym had.1 ∙ ap r.claimants (sym same) ∙ old.1)))) ∙ old.1))
      (λ last new. subst (λ (z : Claim J). (slice_get r.puts z.put ≡ Some (z.lane, z.job)) × (cl' z.put ≡ by id m)) new (had.0, put_here r.claimants put (by id place) ∙ ap (by id) (sym last)))) in (
        w,
        takes i (Some (Job job)),
        is.3,
        kept,
        ((λ _. (put, job, free, refl, shown_at comes_of s id i me.0 state.Waiting r at near hit, stands_after comes_of s id me.0 w _ _ at kept)), λ miss. absurd (miss hit)),
      ))
      (λ miss. let found = state_of (r.phases i) in let w : V comes_of = with_note me.0 i found in (
        w,
        keeps,
        tt,
        unmoved comes_of s r i id me.1 me.0 w at refl refl refl refl refl,
        ((λ hit. absurd (miss hit)), λ _. (found, other_state (r.phases i) state.Waiting (λ z. miss (ok.shows ∙ z)), refl, shown_at comes_of s id i me.0 found r at near ok.shows)),
      ))
    where
      unclaimed : (x : Option J) → ((j : J) → x ≡ Some j → ⊥) → x ≡ None
      unclaimed None h = refl
      unclaimed (Some j) h = absurd (h j refl)

      lane_of : (puts : List (ℕ × J)) (put q j i : ℕ) (x job : J) → q ≡ put → slice_get puts q ≡ Some (j, x) → slice_get puts put ≡ Some (i, job) → j ≡ i
      lane_of puts put q j i x job same a b = ap (λ (z : ℕ × J). z.0) (same_Some (j, x) (i, job) (sym a ∙ ap (slice_get puts) same ∙ b))

  pub may_deliver : (n id : ℕ) (me : Seat J D) (i : ℕ) (job : J) (done : D) (more : List (ℕ × S comes_of)) → i < n → get_or me.0.claimed i None ≡ Some job → comes_of job done → me.1 ≡ (i, Some (Done done)) ∷ more
      → Allows Rule n id me i (λ _. 4) (λ _. delivers comes_of (step n i 4 0 none) me)
  may_deliver n id me i job done more close mine came has s r wide at _ =
      let near : i < length s.homes = omega arith in let k = r.each_seat id me.0 at in let is : r.phases i ≡ taken id job = k.claimed i job mine in let p : Phase J = finished job in
      let long : length me.0.claimed ≡ length s.homes = k.wide in
      let kept = worked comes_of s r i id p (set s.homes i (some (Some (Done done)))) r.claimants me.0 (delivering me.0 i) at
      (record { near = near; as_long = length-set s.homes i (some (Some (Done done))); homes = λ j o. set_else s.homes i j (some (Some (Done done))) o; lies = (done, came, set_here s.homes i (some (Some (Done done))) near); waits = waits_on comes_of r.phases r.puts r.claimants i p refl r.waits; fresh = r.fresh; grows = stays r.puts r.claimants })
      (λ other o e. let same : suc id ≡ suc other = ap holder (sym is) ∙ e in o (omega arith)) (sym (ap known_of is)) refl refl refl
      (length-set me.0.claimed i None ∙ k.wide)
      (λ l x e. dite (ℕ_discrete l i)
      (λ here. absurd (none-some x (sym (get_or-set_same me.0.claimed i None None (omega arith)) ∙ subst (λ (z : ℕ). get_or (set me.0.claimed i None) z None ≡ Some x) here e)))
      (λ o. put_other r.phases i p l o ∙ k.claimed l x (sym (get_or-set_other me.0.claimed i l None None o) ∙ e)))
      k.claims in
      subst (λ (c : List (ℕ × S comes_of)). Goes s i id (me.0, c) (λ _. delivers comes_of (step n i 4 0 none) (me.0, c)) 4) (sym has) (
        delivering me.0 i,
        gives,
        tt,
        kept,
        (refl, stands_after comes_of s id me.0 (delivering me.0 i) _ _ at kept),
      )

  pub may_hire : (id : ℕ) (v : V comes_of) → v.schedules ≡ true → Splits Rule id v v (newcomer v)
  may_hire id v sch s r at = subst (λ (vs : List (V comes_of)). Rule record { words = s.words; homes = s.homes; views = vs ++ newcomer v ∷ [] }) (sym (set_again s.views id v at))
      (record {
        phases = r.phases;
        puts = r.puts;
        claimants = r.claimants;
        wide = r.wide;
        each_lane = r.each_lane;
        waits = r.waits;
        fresh = r.fresh;
        each_seat = λ j u e. ⊎_elim (r.each_seat j u) (λ (x : newcomer v ≡ u). subst (Seated j (length s.homes) r.phases r.puts r.claimants) x (fresh_seat j)) (at_snoc s.views (newcomer v) u j e);
      })
    where
      fresh_seat : (j : ℕ) → Seated j (length s.homes) r.phases r.puts r.claimants (newcomer v)
      fresh_seat j = record {
        schedules = λ t. absurd (suc-ne-zero 0 (ap flag (sym t)));
        wide = length-replicate (length v.known) None ∙ ((r.each_seat id v at).schedules sch).wide;
        claimed = λ l job e. absurd (none-some job (sym (nothing l (length v.known)) ∙ e));
        claims = λ place c e. absurd (none-some c e);
      }
        where
          nothing : (l m : ℕ) → get_or (replicate {A = Option J} m None) l None ≡ None
          nothing l zero = refl
          nothing zero (suc m) = refl
          nothing (suc l) (suc m) = nothing l m
