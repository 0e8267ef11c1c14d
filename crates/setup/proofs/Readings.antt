-- What comes of a reading, by other words and of a fault.
use Rattle.std.proofs.Common.{◌≡◌, false, Result, Ok, Err, sym, ◌∙◌, subst}
use Rattle.std.specs.Result.{IsErrAnd}
use Rattle.setup.specs.declared.document.SetupDocument.{SetupDocument}
use Rattle.setup.specs.declared.fault.SetupFault.{SetupFault}
use Rattle.setup.specs.Faults.{is_memory}
use Rattle.setup.specs.Readings.{IsReading}
use Rattle.setup.specs.Setups.{SetupShape, setup_view}
use Rattle.setup.proofs.SaidSetups.{unbroken}

-- what says the same setups, and breaks the same rules, is read so, too
pub IsReading-as : (says says2 : SetupShape → Type 0) (breaks breaks2 : SetupFault → Type 0) (said said2 : Result SetupShape SetupFault) (r : Result SetupDocument SetupFault)
    → ((s : SetupShape) → says s → says2 s) → ((s : SetupShape) → says2 s → says s) → ((e : SetupFault) → breaks e → breaks2 e) → ((e : SetupFault) → breaks2 e → breaks e) → said2 ≡ said
    → IsReading says breaks said r → IsReading says2 breaks2 said2 r
IsReading-as says says2 breaks breaks2 said said2 (Ok x) to from breaks_to breaks_from same h = record {
  found = to (setup_view x) h.found;
  over = h.over;
  only = λ s is. h.only s (from s is);
  first = tt;
  unbroken = λ e b. h.unbroken e (breaks_from e b);
  none = λ never. tt;
  exact = same ∙ h.exact;
}
IsReading-as says says2 breaks breaks2 said said2 (Err e) to from breaks_to breaks_from same h = record {
  found = tt;
  over = tt;
  only = λ s is. h.only s (from s is);
  first = λ known. breaks_to e (h.first known);
  unbroken = tt;
  none = λ never. h.none (λ x b. never x (breaks_to x b));
  exact = λ known. same ∙ h.exact known;
}

-- a fault that isn't of memory, where nothing says a setup and it is the first that is broken
pub IsReading-fault : (says : SetupShape → Type 0) (breaks : SetupFault → Type 0) (said : Result SetupShape SetupFault) (r : Result SetupDocument SetupFault) (fault : SetupFault) → IsErrAnd r (λ x. x ≡ fault)
    → ((s : SetupShape) → says s → is_memory fault ≡ false → ⊥) → (is_memory fault ≡ false → breaks fault) → (is_memory fault ≡ false → said ≡ Err fault) → IsReading says breaks said r
IsReading-fault says breaks said (Ok x) fault is never first exact = absurd is
IsReading-fault says breaks said (Err x) fault is never first exact = subst (λ (y : SetupFault). IsReading says breaks said (Err y)) (sym is) (record {
  found = tt;
  over = tt;
  only = λ s h known. absurd (never s h known);
  first = first;
  unbroken = tt;
  none = λ no. unbroken fault first (no fault);
  exact = exact;
})
