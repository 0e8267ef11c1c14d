use Rattle.std.proofs.Common.{◌≡◌, ℕ, ◌∙◌, ap, subst, arith, Option, Some, None, unwrap_or, Bor}
use Rattle.std.specs.Prelude.{option_copied}
use Rattle.footprint.specs.Rights.{FootprintOf}
use Rattle.coarsen.specs.Subtrees.{Requests}
use Rattle.coarsen.specs.Coarsening.{coarsened, on_database}
use Rattle.coarsen.specs.Plans.{IsPlanOf}
use Rattle.coarsen.proofs.Planning.{covers_full, covers_whole, over_full, over_whole, none_full, none_whole, whole_length, sound_of}
use Rattle.coarsen.proofs.plan.Plan.new.Goals as goal

-- what was made, or else the footprint itself
made_is : (o : Option (Bor FootprintOf)) (f coarse : Bor FootprintOf) (made : Option FootprintOf) (x : FootprintOf)
    → coarse ≡ unwrap_or o f → option_copied o ≡ made → unwrap_or made f.now ≡ x → coarse.now ≡ x
made_is None f coarse made x e copied is = ap (λ (b : Bor FootprintOf). b.now) e ∙ ap (λ (m : Option FootprintOf). unwrap_or m f.now) copied ∙ is
made_is (Some new) f coarse made x e copied is = ap (λ (b : Bor FootprintOf). b.now) e ∙ ap (λ (m : Option FootprintOf). unwrap_or m f.now) copied ∙ is

-- the plan is one of the coarsened footprint
full_is : (k : ℕ) (f coarse : FootprintOf) (plan : Requests) → coarse ≡ coarsened k f → IsPlanOf coarse plan → IsPlanOf (coarsened k f) plan
full_is k f coarse plan e is = subst (λ (d : FootprintOf). IsPlanOf d plan) e is

-- the plan is one of an entry on the database
whole_is : (k : ℕ) (f coarse whole : FootprintOf) (plan : Requests) → coarse ≡ coarsened k f → whole ≡ on_database coarse → IsPlanOf whole plan → IsPlanOf (on_database (coarsened k f)) plan
whole_is k f coarse whole plan e d is = subst (λ (d : FootprintOf). IsPlanOf d plan) (d ∙ ap (λ (d : FootprintOf). on_database d) e) is

pub returns-then-requests-arena-clause-covers : goal.returns-then-requests-arena-clause-covers
returns-then-requests-arena-clause-covers c = covers_full c.args.threshold c.args.footprint.now c.in_ok-full.full (full_is _ _ c.unwrap_or-coarse.result.now _ (made_is c.as_ref.result c.args.footprint c.unwrap_or-coarse.result c.in_ok-made.made _ c.unwrap_or-coarse.ensures c.as_ref.ensures.value c.in_ok-made.ensures) c.in_ok-full.ensures)

pub returns-then-requests-arena-clause-protocol : goal.returns-then-requests-arena-clause-protocol
returns-then-requests-arena-clause-protocol c = (sound_of c.unwrap_or-coarse.result.now c.in_ok-full.full c.in_ok-full.ensures).protocol

pub returns-then-requests-arena-clause-empty : goal.returns-then-requests-arena-clause-empty
returns-then-requests-arena-clause-empty c = none_full c.args.threshold c.args.footprint.now c.in_ok-full.full (full_is _ _ c.unwrap_or-coarse.result.now _ (made_is c.as_ref.result c.args.footprint c.unwrap_or-coarse.result c.in_ok-made.made _ c.unwrap_or-coarse.ensures c.as_ref.ensures.value c.in_ok-made.ensures) c.in_ok-full.ensures)

pub returns-then-requests-arena-clause-over : goal.returns-then-requests-arena-clause-over
returns-then-requests-arena-clause-over c = over_full c.args.threshold c.args.footprint.now c.in_ok-full.full (full_is _ _ c.unwrap_or-coarse.result.now _ (made_is c.as_ref.result c.args.footprint c.unwrap_or-coarse.result c.in_ok-made.made _ c.unwrap_or-coarse.ensures c.as_ref.ensures.value c.in_ok-made.ensures) c.in_ok-full.ensures)

pub returns-clause-covers : goal.returns-clause-covers
returns-clause-covers c = covers_whole c.args.threshold c.args.footprint.now c.in_ok-plan.plan
    (whole_is _ _ c.unwrap_or-coarse.result.now c.in_ok-whole.whole _ (made_is c.as_ref.result c.args.footprint c.unwrap_or-coarse.result c.in_ok-made.made _ c.unwrap_or-coarse.ensures c.as_ref.ensures.value c.in_ok-made.ensures) c.in_ok-whole.ensures c.in_ok-plan.ensures)

pub returns-clause-size : goal.returns-clause-size
returns-clause-size c =
    let is = whole_is c.args.threshold c.args.footprint.now c.unwrap_or-coarse.result.now c.in_ok-whole.whole c.in_ok-plan.plan (made_is c.as_ref.result c.args.footprint c.unwrap_or-coarse.result c.in_ok-made.made _ c.unwrap_or-coarse.ensures c.as_ref.ensures.value c.in_ok-made.ensures) c.in_ok-whole.ensures c.in_ok-plan.ensures in
    let l = whole_length (coarsened c.args.threshold c.args.footprint.now) c.in_ok-plan.plan is in
    omega (arith, l, c.requires)

pub returns-clause-protocol : goal.returns-clause-protocol
returns-clause-protocol c = (sound_of c.in_ok-whole.whole c.in_ok-plan.plan c.in_ok-plan.ensures).protocol

pub returns-clause-empty : goal.returns-clause-empty
returns-clause-empty c = none_whole c.args.threshold c.args.footprint.now c.in_ok-plan.plan
    (whole_is _ _ c.unwrap_or-coarse.result.now c.in_ok-whole.whole _ (made_is c.as_ref.result c.args.footprint c.unwrap_or-coarse.result c.in_ok-made.made _ c.unwrap_or-coarse.ensures c.as_ref.ensures.value c.in_ok-made.ensures) c.in_ok-whole.ensures c.in_ok-plan.ensures)

pub returns-clause-over : goal.returns-clause-over
returns-clause-over c = over_whole c.args.threshold c.args.footprint.now c.in_ok-plan.plan
    (whole_is _ _ c.unwrap_or-coarse.result.now c.in_ok-whole.whole _ (made_is c.as_ref.result c.args.footprint c.unwrap_or-coarse.result c.in_ok-made.made _ c.unwrap_or-coarse.ensures c.as_ref.ensures.value c.in_ok-made.ensures) c.in_ok-whole.ensures c.in_ok-plan.ensures)
