-- One lane goes on by one seat's step, and the rule of the lanes still holds.
use Rattle.std.proofs.Common.{◌≡◌, ◌≢◌, ℕ, suc, ◌<◌, ◌≤◌, List, length, get_or, set, sym, refl, ap, ◌∙◌, subst, inl, inr, ◌⊎◌, ⊎_elim, arith, suc-ne-zero, length-set, get_or-set_other, get_or-set_same, true}
use Rattle.std.proofs.lemmas.List.{set-get_or}
use mathlib.Core.Option.{some}
use mathlib.Core.Option as maybe
use lib.ListN.{get_elem?}
use Rattle.std.specs.Prelude.{Option, Some, None, slice_get}
use Rattle.atomic_table.specs.Table.{State, keeps, stepped}
use Rattle.atomic_table.proofs.Lists.{at_set}
use Rattle.hand_off.specs.declared.view.Claim.{Claim}
use Rattle.hand_off.specs.declared.view.Known.TheVariants as known
use Rattle.hand_off.specs.declared.view.Load.{Load}
use Rattle.hand_off.specs.declared.view.View.{View}
use Rattle.hand_off.specs.Words.{word_of}
use Rattle.hand_off.specs.Rule.{Phase, taken, waiting, Claimant, nobody, by, state_of, known_of, Seated, Lies, LaneOk, Laned}
use Rattle.hand_off.proofs.Phases.{put_at, at_put, holder, awaited, lies_stay}

module _ {J : Type 0} where
  -- no put is lost, and no claimant
  pub record Grows (puts puts' : List (ℕ × J)) (cl cl' : ℕ → Claimant) : Type 0 where
    pub all_puts : (k : ℕ) (x : ℕ × J) → slice_get puts k ≡ Some x → slice_get puts' k ≡ Some x
    pub claimants : (k id place : ℕ) → cl k ≡ by id place → cl' k ≡ by id place

  pub stays : (puts : List (ℕ × J)) (cl : ℕ → Claimant) → Grows puts puts cl cl
  stays puts cl = record { all_puts = λ k x e. e; claimants = λ k id place e. e }

  -- what another seat knows stays, where it is not of the lane that goes on
  pub seated_stays : (id n : ℕ) (phases : ℕ → Phase J) (i : ℕ) (p : Phase J) (puts puts' : List (ℕ × J)) (cl cl' : ℕ → Claimant) (v : View J)
      → ((known_of p ≡ known_of (phases i)) × (puts' ≡ puts)) ⊎ (id ≢ 0) → holder (phases i) ≢ suc id → Grows puts puts' cl cl' → Seated id n phases puts cl v → Seated id n (put_at phases i p) puts' cl' v
  seated_stays id n phases i p puts puts' cl cl' v same free grows k = record {
    schedules = λ schedules. let s = k.schedules schedules in ⊎_elim
        (λ (x : (known_of p ≡ known_of (phases i)) × (puts' ≡ puts)). record {
          first = s.first;
          wide = s.wide;
          knows = λ l near. at_put phases i p (λ q y. get_or v.known q known.Idle ≡ known_of y) l
              (λ e. subst (λ (q : ℕ). get_or v.known q known.Idle ≡ known_of (phases q)) e (s.knows l near) ∙ sym x.0) (λ _. s.knows l near);
          all_puts = s.all_puts ∙ sym x.1;
        })
        (λ (x : id ≢ 0). absurd (x s.first)) same;
    wide = k.wide;
    claimed = λ l job e. at_put phases i p (λ q y. q ≡ l → y ≡ taken id job) l (λ is. absurd (free (ap holder (ap phases (sym is) ∙ k.claimed l job e)))) (λ _ _. k.claimed l job e) refl;
    claims = λ place c e. (grows.all_puts c.put (c.lane, c.job) (k.claims place c e).0, grows.claimants c.put id place (k.claims place c e).1);
  }

module _ {J D : Type 0} (comes_of : J → D → Type 0) where
  abbrev pub S : Type 0
  S = Option (Load J D)

  abbrev pub V : Type 0
  V = View J

  abbrev pub St : Type 0
  St = State S V

  abbrev pub Holds : St → Type 0
  Holds = Laned comes_of

  -- a waiting lane's put is its own, and nobody's yet
  abbrev pub Waits : (ℕ → Phase J) → List (ℕ × J) → (ℕ → Claimant) → Type 0
  Waits phases puts cl = (i put : ℕ) (job : J) → phases i ≡ waiting put job → (slice_get puts put ≡ Some (i, job)) × (cl put ≡ nobody)

  -- a lane that goes on to no waiting leaves this so
  pub waits_on : (phases : ℕ → Phase J) (puts : List (ℕ × J)) (cl : ℕ → Claimant) (i : ℕ) (p : Phase J) → awaited p ≡ 0 → Waits phases puts cl → Waits (put_at phases i p) puts cl
  waits_on phases puts cl i p none w j put job e = at_put phases i p (λ q y. q ≡ j → y ≡ waiting put job → (slice_get puts put ≡ Some (j, job)) × (cl put ≡ nobody)) j
      (λ _ _ is. absurd (suc-ne-zero put (sym (ap awaited is) ∙ none))) (λ _ _ is. w j put job is) refl e

  seats_stay : (n : ℕ) (phases : ℕ → Phase J) (puts : List (ℕ × J)) (cl : ℕ → Claimant) (vs : List V) (me : ℕ) (w : V) → Seated me n phases puts cl w
      → ((id : ℕ) (v : V) → id ≢ me → get_elem? vs id ≡ some v → Seated id n phases puts cl v) → (id : ℕ) (v : V) → get_elem? (set vs me w) id ≡ some v → Seated id n phases puts cl v
  seats_stay n phases puts cl vs me w mine others id v e = ⊎_elim (λ (x : (id ≡ me) × (w ≡ v)). subst (λ (y : ℕ × V). Seated y.0 n phases puts cl y.1) (λ k. (sym x.0 k, x.1 k)) mine)
      (λ (x : (id ≢ me) × (get_elem? vs id ≡ some v)). others id v x.0 x.1) (at_set vs me id w v e)

  -- the lane i goes on to the phase p, by the seat me
  pub record Moves (s : St) (r : Holds s) (i me : ℕ) (p : Phase J) (homes' : List (maybe.Option S)) (puts' : List (ℕ × J)) (cl' : ℕ → Claimant) : Type 0 where
    pub near : i < length s.homes
    pub as_long : length homes' ≡ length s.homes
    pub homes : (j : ℕ) → j ≢ i → get_elem? homes' j ≡ get_elem? s.homes j
    pub lies : Lies comes_of homes' i p
    pub waits : Waits (put_at r.phases i p) puts' cl'
    pub fresh : (put : ℕ) → length puts' ≤ put → cl' put ≡ nobody
    pub grows : Grows r.puts puts' r.claimants cl'

  moved : (s : St) (r : Holds s) (i me : ℕ) (p : Phase J) (homes' : List (maybe.Option S)) (puts' : List (ℕ × J)) (cl' : ℕ → Claimant) (w : V) → Moves s r i me p homes' puts' cl'
      → ((id : ℕ) → id ≢ me → (((known_of p ≡ known_of (r.phases i)) × (puts' ≡ r.puts)) ⊎ (id ≢ 0)) × (holder (r.phases i) ≢ suc id)) → Seated me (length s.homes) (put_at r.phases i p) puts' cl' w
      → Holds record { words = set s.words i (word_of (state_of p)); homes = homes'; views = set s.views me w }
  moved s r i me p homes' puts' cl' w m loose mine =
      let words' : List ℕ = set s.words i (word_of (state_of p)) in let phases' : ℕ → Phase J = put_at r.phases i p in let wide : length s.words ≡ length s.homes = r.wide in let near : i < length s.homes = m.near in
      let lanes : (j : ℕ) → j < length s.homes → LaneOk comes_of words' homes' j (phases' j) = λ j l. at_put r.phases i p (LaneOk comes_of words' homes') j
      (λ _. record { shows = get_or-set_same s.words i (word_of (state_of p)) 0 (omega arith); lies = m.lies })
      (λ other. let ok = r.each_lane j l in record { shows = get_or-set_other s.words i j (word_of (state_of p)) 0 other ∙ ok.shows; lies = lies_stay comes_of s.homes homes' j (r.phases j) (m.homes j other) ok.lies }) in
      record {
        phases = phases';
        puts = puts';
        claimants = cl';
        wide = length-set s.words i (word_of (state_of p)) ∙ wide ∙ sym m.as_long;
        each_lane = subst (λ (n : ℕ). (j : ℕ) → j < n → LaneOk comes_of words' homes' j (phases' j)) (sym m.as_long) lanes;
        waits = m.waits;
        fresh = m.fresh;
        each_seat = subst (λ (n : ℕ). (id : ℕ) (v : V) → get_elem? (set s.views me w) id ≡ some v → Seated id n phases' puts' cl' v) (sym m.as_long) (seats_stay (length s.homes) phases' puts' cl' s.views me w mine
            (λ id v other e. seated_stays id (length s.homes) r.phases i p r.puts puts' r.claimants cl' v (loose id other).0 (loose id other).1 m.grows (r.each_seat id v e)));
      }

  -- a step that changes no word and no slot, and of the view nothing but its notes
  pub unmoved : (s : St) (r : Holds s) (i me : ℕ) (cs : List (ℕ × S)) (v w : V) → get_elem? s.views me ≡ some v → w.schedules ≡ v.schedules → w.known ≡ v.known → w.puts ≡ v.puts → w.claimed ≡ v.claimed → w.claims ≡ v.claims
      → Holds (stepped s i (get_or s.words i 0) me cs w keeps)
  unmoved s r i me cs v w at sch kn pu cd cs' = subst (λ (ws : List ℕ). Holds record { words = ws; homes = s.homes; views = set s.views me w }) (sym (set-get_or s.words i 0))
      (record {
        phases = r.phases;
        puts = r.puts;
        claimants = r.claimants;
        wide = r.wide;
        each_lane = r.each_lane;
        waits = r.waits;
        fresh = r.fresh;
        each_seat = seats_stay (length s.homes) r.phases r.puts r.claimants s.views me w (retold me (length s.homes) r.phases r.puts r.claimants v w sch kn pu cd cs' (r.each_seat me v at)) (λ id u _. r.each_seat id u);
      })
    where
      retold : (id n : ℕ) (phases : ℕ → Phase J) (puts : List (ℕ × J)) (cl : ℕ → Claimant) (v w : V) → w.schedules ≡ v.schedules → w.known ≡ v.known → w.puts ≡ v.puts → w.claimed ≡ v.claimed → w.claims ≡ v.claims
          → Seated id n phases puts cl v → Seated id n phases puts cl w
      retold id n phases puts cl v w sch kn pu cd cs' k = record {
        schedules = λ t. let q = k.schedules (sym sch ∙ t) in record { first = q.first; wide = ap length kn ∙ q.wide; knows = λ l near. ap (λ ks. get_or ks l known.Idle) kn ∙ q.knows l near; all_puts = pu ∙ q.all_puts };
        wide = ap length cd ∙ k.wide;
        claimed = λ l job e. k.claimed l job (ap (λ ks. get_or ks l None) (sym cd) ∙ e);
        claims = λ place c e. k.claims place c (ap (λ ks. slice_get ks place) (sym cs') ∙ e);
      }

  -- a step of the scheduler's, on a lane that no worker has
  pub scheduled : (s : St) (r : Holds s) (i me : ℕ) (p : Phase J) (homes' : List (maybe.Option S)) (puts' : List (ℕ × J)) (v w : V) → get_elem? s.views me ≡ some v → v.schedules ≡ true → Moves s r i me p homes' puts' r.claimants
      → holder (r.phases i) ≡ 0 → w.known ≡ set v.known i (known_of p) → w.puts ≡ puts' → w.claimed ≡ v.claimed → w.claims ≡ v.claims
      → Holds record { words = set s.words i (word_of (state_of p)); homes = homes'; views = set s.views me w }
  scheduled s r i me p homes' puts' v w at sch m free kn pu cd cs' =
      let k = r.each_seat me v at in let q = k.schedules sch in let n : ℕ = length s.homes in let long : length v.known ≡ n = q.wide in let near : i < n = m.near in
      moved s r i me p homes' puts' r.claimants w m (λ id other. (inr (λ z. other (z ∙ sym q.first)), λ e. suc-ne-zero id (sym e ∙ free))) record {
        schedules = λ _. record {
          first = q.first;
          wide = ap length kn ∙ length-set v.known i (known_of p) ∙ q.wide;
          knows = λ l close. at_put r.phases i p (λ j x. j ≡ l → get_or w.known l known.Idle ≡ known_of x) l
              (λ e _. ap (λ ks. get_or ks l known.Idle) kn ∙ subst (λ (j : ℕ). get_or (set v.known i (known_of p)) j known.Idle ≡ known_of p) (sym e) (get_or-set_same v.known i (known_of p) known.Idle (omega arith)))
              (λ o _. ap (λ ks. get_or ks l known.Idle) kn ∙ get_or-set_other v.known i l (known_of p) known.Idle o ∙ q.knows l close) refl;
          all_puts = pu;
        };
        wide = ap length cd ∙ k.wide;
        claimed = λ l job e. let had : r.phases l ≡ taken me job = k.claimed l job (ap (λ ks. get_or ks l None) (sym cd) ∙ e) in
            at_put r.phases i p (λ j y. j ≡ l → y ≡ taken me job) l (λ is. absurd (suc-ne-zero me (sym (ap holder (ap r.phases (sym is) ∙ had)) ∙ free))) (λ _ _. had) refl;
        claims = λ place c e. let had = k.claims place c (ap (λ ks. slice_get ks place) (sym cs') ∙ e) in (m.grows.all_puts c.put (c.lane, c.job) had.0, had.1);
      }

  -- a step of a worker's, which the scheduler's knowledge doesn't tell
  pub worked : (s : St) (r : Holds s) (i me : ℕ) (p : Phase J) (homes' : List (maybe.Option S)) (cl' : ℕ → Claimant) (v w : V) → get_elem? s.views me ≡ some v → Moves s r i me p homes' r.puts cl'
      → ((id : ℕ) → id ≢ me → holder (r.phases i) ≢ suc id) → known_of p ≡ known_of (r.phases i) → w.schedules ≡ v.schedules → w.known ≡ v.known → w.puts ≡ v.puts
      → length w.claimed ≡ length s.homes → ((l : ℕ) (job : J) → get_or w.claimed l None ≡ Some job → put_at r.phases i p l ≡ taken me job)
      → ((k : ℕ) (c : Claim J) → slice_get w.claims k ≡ Some c → (slice_get r.puts c.put ≡ Some (c.lane, c.job)) × (cl' c.put ≡ by me k))
      → Holds record { words = set s.words i (word_of (state_of p)); homes = homes'; views = set s.views me w }
  worked s r i me p homes' cl' v w at m free same sch kn pu wide claimed claims =
      let k = r.each_seat me v at in
      moved s r i me p homes' r.puts cl' w m (λ id other. (inl (same, refl), free id other)) record {
        schedules = λ t. let q = k.schedules (sym sch ∙ t) in record {
          first = q.first;
          wide = ap length kn ∙ q.wide;
          knows = λ l close. at_put r.phases i p (λ j x. j ≡ l → get_or w.known l known.Idle ≡ known_of x) l
              (λ e _. ap (λ ks. get_or ks l known.Idle) kn ∙ subst (λ (j : ℕ). get_or v.known l known.Idle ≡ known_of (r.phases j)) e (q.knows l close) ∙ sym same)
              (λ _ _. ap (λ ks. get_or ks l known.Idle) kn ∙ q.knows l close) refl;
          all_puts = pu ∙ q.all_puts;
        };
        wide = wide;
        claimed = claimed;
        claims = claims;
      }
