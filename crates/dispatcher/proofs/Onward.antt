-- Published lists that go on.
use Rattle.std.proofs.Common.{◌≡◌, List, [], ◌∷◌, ◌++◌, append-nil, append_assoc, Option, None, Some, refl, sym, ap, ◌∙◌, subst}
use Rattle.meaning.specs.Entries.{Reply}
use Rattle.progress.specs.declared.tally.Tally.{Tally}
use Rattle.progress.specs.Tallies.{latest}
use Rattle.progress.proofs.Pushed.{last_from, latest_append}
use Rattle.progress.specs.Accounts.{Account}
use Rattle.dispatcher.specs.Tallies.{counted, RiseByOne, GainsTallies}
use Rattle.scheduler.specs.Schedules.{Schedule, phases_of}
use Rattle.dispatcher.specs.Runs.{StaysSettled}
use Rattle.dispatcher.specs.Listeners.{Hears, HearsOn, AreCounted, settled_in}
use Rattle.dispatcher.specs.Dispatched.{RunsOn}
use Rattle.dispatcher.proofs.Told.{same_counted}

rise_append : (t : Tally) (us vs : List Tally) → RiseByOne t us → RiseByOne (last_from t us) vs → RiseByOne t (us ++ vs)
rise_append t [] vs one two = two
rise_append t (u ∷ us) vs one two = (one.0, rise_append u us vs one.1 two)

pub goes_nowhere : (list : List Tally) → GainsTallies list list
goes_nowhere list = ([], sym (append-nil list), tt)

pub goes_on : (a b c : List Tally) → GainsTallies a b → GainsTallies b c → GainsTallies a c
goes_on a b c one two = (
  one.0 ++ two.0,
  two.1 ∙ ap (λ (xs : List Tally). xs ++ two.0) one.1 ∙ append_assoc a one.0 two.0,
  rise_append (latest a) one.0 two.0 one.2 (subst (λ t. RiseByOne t two.0) (ap latest one.1 ∙ latest_append a one.0) two.2),
)

pub goes_on_by_one : (list : List Tally) (r : Reply) → GainsTallies list (list ++ counted (latest list) r ∷ [])
goes_on_by_one list r = (counted (latest list) r ∷ [], refl, ((r, refl), tt))

pub hears_nothing : (a : Option Account) → HearsOn a a
hears_nothing None = refl
hears_nothing (Some account) = (refl, record { place = refl; list = goes_nowhere account.published })

pub hears_on : (a b c : Option Account) → HearsOn a b → HearsOn b c → HearsOn a c
hears_on None b c one two = subst (λ (o : Option Account). HearsOn o c) one two
hears_on (Some a) None c one two = absurd one
hears_on (Some a) (Some b) None one two = absurd two
hears_on (Some a) (Some b) (Some c) one two = (
  two.0 ∙ one.0,
  record { place = two.1.place ∙ one.1.place; list = goes_on a.published b.published c.published one.1.list two.1.list },
)

pub hears_one : (a b : Option Account) (r : Reply) → Hears a r b → HearsOn a b
hears_one None b r h = h
hears_one (Some a) b r h =
    subst (λ (o : Option Account). HearsOn (Some a) o) (sym h) (refl, record { place = refl; list = goes_on_by_one a.published r })

-- ---- runs that go on

-- no more is settled
pub runs_unheard : (s new : Schedule) (a : Option Account) → new.work ≡ s.work → StaysSettled (phases_of s) (phases_of new) → settled_in new ≡ settled_in s
    → AreCounted s a → RunsOn s a new a
runs_unheard s new a work settled none told = record { work = work; settled = settled; told = same_counted s new a work none told; onward = hears_nothing a }

pub runs_twice : (s t u : Schedule) (a b c : Option Account) → RunsOn s a t b → RunsOn t b u c → RunsOn s a u c
runs_twice s t u a b c one two = record {
  work = two.work ∙ one.work;
  settled = λ place is. two.settled place (one.settled place is);
  told = two.told;
  onward = hears_on a b c one.onward two.onward;
}
