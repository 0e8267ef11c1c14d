-- The scheduler's view between two calls.
use Rattle.std.proofs.Common.{◌≡◌, ◌≢◌, ℕ, ◌<◌, List, ◌∷◌, ◌++◌, [], length, get_or, set, sym, refl, ap, ◌∙◌, subst, arith, length-set, get_or-set_other, get_or-set_same, set-set}
use native.Mathlib.Decide.{ℕ_discrete}
use mathlib.Core.Logic.{dite}
use Rattle.std.specs.Prelude.{Option, Some, None}
use Rattle.hand_off.specs.declared.view.Known.{Known}
use Rattle.hand_off.specs.declared.view.Known.TheVariants.{Idle, Filling, Put, Draining}
use Rattle.hand_off.specs.declared.view.Load.{Load}
use Rattle.hand_off.specs.declared.view.Load.TheVariants.{Job, Done}
use Rattle.hand_off.specs.declared.view.View.{View}
use Rattle.hand_off.specs.Views.{knowing, putting}
use Rattle.hand_off.specs.Seats.{IsPut, Rests, AllRest, AtRest}

module _ {J : Type 0} where
  pub rests_set : (known : List (Known J)) (i : ℕ) (x : Known J) → Rests x → AllRest known → AllRest (set known i x)
  rests_set known i x r all j l = let l' : j < length known = omega (arith, length-set known i x) in dite (ℕ_discrete j i)
      (λ e. subst Rests (sym (ap (λ (k : ℕ). get_or (set known i x) k Idle) e ∙ get_or-set_same known i x Idle (omega arith))) r)
      (λ o. subst Rests (sym (get_or-set_other known i j x Idle o)) (all j l'))

  pub rests_put : (x : Known J) → Rests x → x ≢ Idle → IsPut x
  rests_put Idle r n = absurd (n refl)
  rests_put Filling r n = absurd r
  rests_put (Put j) r n = tt
  rests_put (Draining j) r n = absurd r

  -- a view that rests still does after one lane was put into or collected from
  pub still_rests : (n : ℕ) (v w : View J) (i : ℕ) (x : Known J) → Rests x → w.schedules ≡ v.schedules → w.known ≡ set v.known i x → AtRest n v → AtRest n w
  still_rests n v w i x r sch kn a = record {
    schedules = sch ∙ a.schedules;
    wide = ap length kn ∙ length-set v.known i x ∙ a.wide;
    rests = subst AllRest (sym kn) (rests_set v.known i x r a.rests);
  }

  -- what was known of a lane on the way is known no more
  pub known_twice : (v : View J) (i : ℕ) (x y : Known J) → knowing (knowing v i x) i y ≡ knowing v i y
  known_twice v i x y = ap (λ (ks : List (Known J)). record v { known = ks }) (set-set v.known i x y)

  pub put_after_filling : (v : View J) (i : ℕ) (job : J) → putting (knowing v i Filling) i job ≡ putting v i job
  put_after_filling v i job = ap (λ (ks : List (Known J)). record v { known = ks; puts = v.puts ++ (i, job) ∷ [] }) (set-set v.known i Filling (Put job))

module _ {J D : Type 0} where
  -- what lies in the slot in front
  abbrev pub done_of : D → List (ℕ × Option (Load J D)) → D
  done_of d [] = d
  done_of d (x ∷ xs) = inside x.1
    where
      inside : Option (Load J D) → D
      inside None = d
      inside (Some (Job j)) = d
      inside (Some (Done e)) = e

  abbrev pub job_of : J → List (ℕ × Option (Load J D)) → J
  job_of j [] = j
  job_of j (x ∷ xs) = inside x.1
    where
      inside : Option (Load J D) → J
      inside None = j
      inside (Some (Job k)) = k
      inside (Some (Done e)) = j
