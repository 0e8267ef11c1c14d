-- What the tests of phases say.
use Rattle.std.proofs.Common.{◌≡◌, true, false, Option, None, Some, refl}
use Rattle.scheduler_core.specs.declared.phase.Phase.{Phase}
use Rattle.scheduler_core.specs.declared.phase.Phase.TheVariants.{Idle, Out, Ran, Settled}
use Rattle.scheduler_core.specs.Phases.{is_idle, is_lent, was_run, is_out, is_open, is_settled, has_begun}

pub idle_is : (o : Option Phase) → is_idle o ≡ true → o ≡ Some Idle
idle_is None h = absurd (cc)
idle_is (Some Idle) h = refl
idle_is (Some Out) h = absurd (cc)
idle_is (Some Ran) h = absurd (cc)
idle_is (Some Settled) h = absurd (cc)

pub lent_is : (o : Option Phase) → is_lent o ≡ true → o ≡ Some Out
lent_is None h = absurd (cc)
lent_is (Some Idle) h = absurd (cc)
lent_is (Some Out) h = refl
lent_is (Some Ran) h = absurd (cc)
lent_is (Some Settled) h = absurd (cc)

pub ran_is : (o : Option Phase) → was_run o ≡ true → o ≡ Some Ran
ran_is None h = absurd (cc)
ran_is (Some Idle) h = absurd (cc)
ran_is (Some Out) h = absurd (cc)
ran_is (Some Ran) h = refl
ran_is (Some Settled) h = absurd (cc)

-- what is out is there, and isn't settled
pub out_is : (o : Option Phase) → is_out o ≡ true → (p : Phase) × (o ≡ Some p) × (is_settled (Some p) ≡ false) × (is_out (Some p) ≡ true)
out_is None h = absurd (cc)
out_is (Some Idle) h = absurd (cc)
out_is (Some Out) h = (Out, refl, refl, refl)
out_is (Some Ran) h = (Ran, refl, refl, refl)
out_is (Some Settled) h = absurd (cc)

pub open_is : (o : Option Phase) → is_open o ≡ true → (p : Phase) × (o ≡ Some p) × (is_settled (Some p) ≡ false)
open_is None h = absurd (cc)
open_is (Some Idle) h = (Idle, refl, refl)
open_is (Some Out) h = (Out, refl, refl)
open_is (Some Ran) h = (Ran, refl, refl)
open_is (Some Settled) h = absurd (cc)

pub unsettled_open : (p : Phase) → is_settled (Some p) ≡ false → is_open (Some p) ≡ true
unsettled_open Idle h = refl
unsettled_open Out h = refl
unsettled_open Ran h = refl
unsettled_open Settled h = absurd (cc)

pub unmarked_idle : (p : Phase) → is_settled (Some p) ≡ false → is_out (Some p) ≡ false → p ≡ Idle
unmarked_idle Idle h k = refl
unmarked_idle Out h k = absurd (cc)
unmarked_idle Ran h k = absurd (cc)
unmarked_idle Settled h k = absurd (cc)

pub out_begun : (o : Option Phase) → is_out o ≡ true → has_begun o ≡ true
out_begun None h = absurd (cc)
out_begun (Some Idle) h = absurd (cc)
out_begun (Some Out) h = refl
out_begun (Some Ran) h = refl
out_begun (Some Settled) h = absurd (cc)

pub settled_begun : (o : Option Phase) → is_settled o ≡ true → has_begun o ≡ true
settled_begun None h = absurd (cc)
settled_begun (Some Idle) h = absurd (cc)
settled_begun (Some Out) h = absurd (cc)
settled_begun (Some Ran) h = absurd (cc)
settled_begun (Some Settled) h = refl

pub out_unsettled : (o : Option Phase) → is_out o ≡ true → is_settled o ≡ false
out_unsettled None h = refl
out_unsettled (Some Idle) h = refl
out_unsettled (Some Out) h = refl
out_unsettled (Some Ran) h = refl
out_unsettled (Some Settled) h = absurd (cc)
