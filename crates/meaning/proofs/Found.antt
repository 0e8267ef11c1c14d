-- A run that tests its accesses against a footprint does as one that notes them, up to the first that is not covered.
use Rattle.std.proofs.Common.{◌≡◌, Bool, true, false, ◌&&◌, List, [], ◌∷◌, ◌++◌, refl, sym, ap, ◌∙◌, subst, Result, Ok, Err, arith, suc}
use Rattle.std.specs.List.{list_all, Contains}
use Rattle.std.proofs.lemmas.List.Folds.{list_all-append, list_all_at}
use Rattle.std.specs.FinMap.{get, insert, remove}
use Rattle.values.specs.declared.value.Value.{Value}
use Rattle.catalogue.specs.Shapes.{TableShape}
use Rattle.values.specs.Database.{Database}
use Rattle.proclang_types.specs.declared.right.Right.{Right}
use Rattle.proclang_types.specs.Syntax.{StmtSyntax, block_of}
use Rattle.footprint.specs.declared.abort_code.AbortCode.{AbortCode}
use Rattle.footprint.specs.declared.resource.Resource.{Resource}
use Rattle.footprint.specs.Rights.{FootprintOf, covers}
use Rattle.meaning.specs.declared.outcome.Ending.{Ending}
use Rattle.meaning.specs.declared.outcome.Ending.TheVariants as endings
use Rattle.meaning.specs.Runs.{Access, State, Ran, continued, and_then, ok, abort, look, alter, passing, tested, covered, recorded, recording}
use Rattle.meaning.specs.Partitions.{part_rows}
use Rattle.meaning.specs.Entries.{Reply, stale, start, finished, end_of, nothing}
use Rattle.meaning.specs.Frame.{Agree}
use Rattle.meaning.specs.Reconnaissance.{accesses_of, found_footprint, reconnaissance_reply, found_entry, HoldsAsFound, NeedsEachAccess}
use Rattle.meaning.proofs.Frame.{stays}
use Rattle.meaning.proofs.Greatest.{has_greatest_rights}
use Rattle.meaning.proofs.Related.{Any, HangsOnTheRest, ChangesTheRest, Relation, block_related}

-- without what was recorded
abbrev bare : State → State
bare s = record s { accesses = [] }

abbrev bared : {A : Type 0} → Result A Ending × State → Result A Ending × State
bared (r, s) = (r, bare s)

-- a value of Q, or an abort
abbrev Gives : {A : Type 0} → (A → Type 0) → Result A Ending → Type 0
Gives Q (Ok x) = Q x
Gives Q (Err (endings.Abort code)) = Unit {0}
Gives Q (Err endings.Stale) = ⊥

-- How the second run stands beside the first, by whether all was covered that the first had recorded before, and after: it does the
-- same up to the first access that is not covered, and there it ends as stale. What was left uncovered stays so.
abbrev Beside : {A : Type 0} → Bool → Bool → Result A Ending × State → Result A Ending × State → Type 0
Beside true true r q = q ≡ bared r
Beside true false r q = q.0 ≡ Err endings.Stale
Beside false after r q = after ≡ false

unmoved : {A : Type 0} (b : Bool) (r : Result A Ending × State) → Beside b b r (bared r)
unmoved true r = refl
unmoved false r = refl

stays_stale : {A B : Type 0} (q : Result A Ending × State) (k : A → Ran B) → q.0 ≡ Err endings.Stale → (continued q k).0 ≡ Err endings.Stale
stays_stale (Ok x, t) k e = absurd (cc)
stays_stale (Err f, t) k e = cc

then_ended : {A B : Type 0} (before after : Bool) (code : AbortCode) (t : State) (q : Result A Ending × State) (k : A → Ran B)
    → Beside before after (Err (endings.Abort code), t) q → Beside before after (Err (endings.Abort code), t) (continued q k)
then_ended true true code t q k e = ap (λ p. continued p k) e
then_ended true false code t q k e = stays_stale q k e
then_ended false after code t q k e = e

then_more : {A B : Type 0} (before now after : Bool) (x : A) (t : State) (q : Result A Ending × State) (r : Result B Ending × State) (k : A → Ran B)
    → Beside before now (Ok x, t) q → Beside now after r (k x (bare t)) → Beside before after r (continued q k)
then_more true true true x t q r k e m = ap (λ p. continued p k) e ∙ m
then_more true true false x t q r k e m = ap (λ p. (continued p k).0) e ∙ m
then_more true false true x t q r k e m = absurd (cc)
then_more true false false x t q r k e m = stays_stale q k e
then_more false true after x t q r k e m = absurd (cc)
then_more false false after x t q r k e m = m

access_beside : (before passes : Bool) (s t : State) → bare t ≡ bare s → Beside before (before && (passes && true)) (Ok tt, t) (passing passes endings.Stale (bare s))
access_beside true true s t e = ap (λ (z : State). (Ok tt, z)) (sym e)
access_beside true false s t e = refl
access_beside false passes s t e = refl

module _ (tables : List TableShape) (fo : FootprintOf) where
  abbrev passes : Access → Bool
  passes access = covers fo access.0 access.1

  -- all that was recorded is covered
  abbrev within : State → Bool
  within s = list_all passes s.accesses

  abbrev FollowsFrom : {A : Type 0} → (A → Type 0) → State → Result A Ending × State → Result A Ending × State → Type 0
  FollowsFrom Q s r q = Gives Q r.0 × Beside (within s) (within r.1) r q

  -- the second run, from a state where nothing was recorded, beside the first
  abbrev Follows : {A : Type 0} → (A → Type 0) → Ran A → Ran A → Type 0
  Follows Q f g = (s : State) → FollowsFrom Q s (f s) (g (bare s))

  then_follows : {A B : Type 0} (Q : A → Type 0) (P : B → Type 0) (s : State) (r q : Result A Ending × State) (h k : A → Ran B)
      → FollowsFrom Q s r q → ((x : A) → Q x → Follows P (h x) (k x)) → FollowsFrom P s (continued r h) (continued q k)
  then_follows Q P s (Ok x, t) q h k a n =
      let later = n x a.0 t in
      (later.0, then_more (within s) (within t) (within (h x t).1) x t q (h x t) k a.1 later.1)
  then_follows Q P s (Err (endings.Abort code), t) q h k a n = (tt, then_ended (within s) (within t) code t q k a.1)
  then_follows Q P s (Err endings.Stale, t) q h k a n = absurd a.0

  chain : {A B : Type 0} (Q : A → Type 0) (P : B → Type 0) (f g : Ran A) (h k : A → Ran B) → Follows Q f g → ((x : A) → Q x → Follows P (h x) (k x)) → Follows P (and_then f h) (and_then g k)
  unfolding and_then
  chain Q P f g h k a n s = then_follows Q P s (f s) (g (bare s)) h k (a s) n

  go_on : {A : Type 0} (Q : A → Type 0) (x : A) → Q x → Follows Q (ok x) (ok x)
  go_on Q x is s = (is, unmoved (within s) (Ok x, s))

  aborted : (A : Type 0) (code : AbortCode) → Follows {A = A} Any (abort code) (abort code)
  aborted A code s = (tt, unmoved {A = A} (within s) (Err (endings.Abort code), s))

  looked : {A : Type 0} (f : State → A) → HangsOnTheRest f → Follows Any (look f) (look f)
  looked {A} f h s = (tt, subst (λ (x : A). Beside (within s) (within s) (Ok (f s), s) (Ok x, bare s)) (sym (h s s.rows [])) (unmoved (within s) (Ok (f s), s)))

  altered : (f : State → State) → ChangesTheRest f → Follows Any (alter f) (alter f)
  altered f h s =
      let kept : f s ≡ record (f s) { rows = s.rows; accesses = s.accesses } = h s s.rows s.accesses in
      let rest : f (bare s) ≡ bare (f s) = h s s.rows [] ∙ ap bare (sym kept) in (
        tt,
        subst (λ (z : State). Beside (within s) (within (f s)) (Ok tt, f s) (Ok tt, z)) (sym rest)
            (subst (λ (b : Bool). Beside b (within (f s)) (Ok tt, f s) (Ok tt, bare (f s))) (ap within kept) (unmoved (within (f s)) (Ok tt, f s))),
      )

  access : (resource : Resource) (right : Right) → Follows Any (recorded resource right) (tested fo endings.Stale resource right)
  access resource right s =
      let left : State = record s { accesses = s.accesses ++ (resource, right) ∷ [] } in (
        tt,
        subst (λ (b : Bool). Beside (within s) b (Ok tt, left) (tested fo endings.Stale resource right (bare s))) (sym (list_all-append passes s.accesses ((resource, right) ∷ [])))
            (access_beside (within s) (covers fo resource right) s left refl),
      )

  abbrev following : Relation tables recorded (tested fo endings.Stale)
  following = record {
    Related = Follows;
    Passed = λ resource right. Unit {0};
    chain = chain;
    go_on = go_on;
    aborted = λ {A} code. aborted A code;
    looked = looked;
    altered = altered;
    access = access;
    part_seen = λ table part passed s. (tt, unmoved (within s) (Ok (part_rows tables table part s.rows), s));
    row_seen = λ right name passed s. (tt, unmoved (within s) (Ok (get s.rows name), s));
    row_set = λ name row passed s. (tt, unmoved (within s) (Ok tt, record s { rows = insert s.rows name row }));
    row_removed = λ name passed s. (tt, unmoved (within s) (Ok tt, record s { rows = remove s.rows name }));
  }

-- ---- entries

same_finish : (db : Database) (r : Result (Unit {0}) Ending × State) → finished db (bared r) ≡ finished db r
same_finish db (Ok x, s) = refl
same_finish db (Err e, s) = refl

isnt_stale : (db : Database) (r : Result (Unit {0}) Ending × State) → Gives Any r.0 → ¬ ((finished db r).0 ≡ stale)
isnt_stale db (Ok x, s) a e = absurd (cc)
isnt_stale db (Err (endings.Abort code), s) a e = absurd (cc)
isnt_stale db (Err endings.Stale, s) a e = a

is_stale : (db : Database) (q : Result (Unit {0}) Ending × State) → q.0 ≡ Err endings.Stale → (finished db q).0 ≡ stale
is_stale db (Ok x, s) e = absurd (cc)
is_stale db (Err (endings.Abort code), s) e = absurd (cc)
is_stale db (Err endings.Stale, s) e = refl

all_pass : (p : Access → Bool) (accesses : List Access) → ((a : Access) → Contains accesses a → p a ≡ true) → list_all p accesses ≡ true
all_pass p [] h = refl
all_pass p (a ∷ accesses) h =
    ap (λ b. b && list_all p accesses) (h a (0, omega arith, refl)) ∙ all_pass p accesses (λ b c. h b (suc c.0, (let less = c.1 in omega (arith, less)), c.2))

module _ (tables : List TableShape) (body : List StmtSyntax) (arguments : List Value) (read : Database) where
  abbrev run : Result (Unit {0}) Ending × State
  run = end_of nothing (recording tables) body arguments read

  -- the run of an entry that finds the footprint
  abbrev again : FootprintOf → Result (Unit {0}) Ending × State
  again fo = end_of nothing (covered tables fo endings.Stale) body arguments read

  follows : (fo : FootprintOf) → Gives Any run.0 × Beside true (within tables fo run.1) run (again fo)
  follows fo = block_related (following tables fo) nothing (block_of body) (start arguments read)

  needed : (fo : FootprintOf) (access : Access) → Contains (accesses_of tables body arguments read) access → covers fo access.0 access.1 ≡ false → (finished read (again fo)).0 ≡ stale
  needed fo access there e =
      let left_out : within tables fo run.1 ≡ false = list_all_at (passes tables fo) run.1.accesses there.0 access there.1 (ap (passes tables fo) there.2 ∙ e) in
      is_stale read (again fo) (subst (λ (b : Bool). Beside true b run (again fo)) left_out (follows fo).1)

  enough : (fo : FootprintOf) → ((access : Access) → Contains (accesses_of tables body arguments read) access → covers fo access.0 access.1 ≡ true)
      → (finished read (again fo)).0 ≡ reconnaissance_reply tables body arguments read
  enough fo h =
      let same : again fo ≡ bared run = subst (λ (b : Bool). Beside true b run (again fo)) (all_pass (passes tables fo) run.1.accesses h) (follows fo).1 in
      ap (λ (r : Reply × Database). r.0) (ap (finished read) same ∙ same_finish read run)

pub needs_each_access : (tables : List TableShape) (body : List StmtSyntax) (arguments : List Value) (read : Database) (footprint : FootprintOf) → NeedsEachAccess tables body arguments read footprint
needs_each_access tables body arguments read footprint = record { needed = needed tables body arguments read footprint; enough = enough tables body arguments read footprint }

pub holds_as_found : (tables : List TableShape) (body : List StmtSyntax) (arguments : List Value) (read db : Database)
    → Agree (found_entry tables body arguments read) read db → HoldsAsFound tables body arguments read db
holds_as_found tables body arguments read db h =
    let fo = found_footprint tables body arguments read in
    let outcome = (stays (found_entry tables body arguments read) read db h).outcome ∙ enough tables body arguments read fo (has_greatest_rights (accesses_of tables body arguments read)).covered in
    record {
      outcome = outcome;
      not_stale = λ e. isnt_stale read (run tables body arguments read) (follows tables body arguments read fo).0 (sym outcome ∙ e);
    }
