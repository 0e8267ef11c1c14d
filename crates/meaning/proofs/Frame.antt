-- The frame law: two runs from states that agree on what the footprint covers go on alike.
use Rattle.std.proofs.Common.{◌≡◌, ℕ, Bool, true, false, cond, ◌||◌, List, [], ◌∷◌, refl, sym, ap, ◌∙◌, subst, Option, Some, None, Result, Ok, Err, Ordering, Less, Equal, Greater}
use Rattle.std.specs.List.{list_any}
use Rattle.std.specs.FinMap.{get, insert, get-insert, remove, get-remove}
use Rattle.std.specs.Ordering.{eq_by_cmp, is_eq}
use Rattle.values.specs.declared.name.RowName.{RowName}
use Rattle.values.specs.declared.value.Value.{Value}
use Rattle.catalogue.specs.Shapes.{TableShape}
use Rattle.values.specs.Database.{Database, RowOf, name_cmp}
use Rattle.proclang_types.specs.declared.right.Right.{Right}
use Rattle.proclang_types.specs.declared.right.Right.TheVariants.{Read, Write}
use Rattle.proclang_types.specs.Syntax.{StmtSyntax, block_of}
use Rattle.footprint.specs.declared.abort_code.AbortCode.TheVariants.{Uncovered}
use Rattle.footprint.specs.declared.resource.Resource.{Resource}
use Rattle.footprint.specs.declared.resource.Resource.TheVariants.{Table}
use Rattle.footprint.specs.declared.resource.InTable.TheVariants.{Part}
use Rattle.footprint.specs.declared.resource.InPart.TheVariants.{WholePart}
use Rattle.footprint.specs.Tree.{row_resource, ancestors_of}
use Rattle.footprint.specs.Rights.{FootprintOf, covers, covers_row, is_at_least}
use Rattle.meaning.specs.declared.outcome.Ending.{Ending}
use Rattle.meaning.specs.declared.outcome.Ending.TheVariants as endings
use Rattle.meaning.specs.Runs.{State, Ran, continued, and_then, look, alter, passing, tested, covered, row_now, set_row, remove_row}
use Rattle.meaning.specs.Partitions.{part_rows}
use Rattle.meaning.specs.Meaning.{StandIn}
use Rattle.meaning.specs.Entries.{EntryShape, Footing, declares, faults, finds, Reply, commit, start, reply_of, finished, run_of, nothing}
use Rattle.meaning.specs.Frame.{Agree, StaysInFootprint}
use Rattle.meaning.proofs.Names.{names_total, exact_names}
use Rattle.meaning.proofs.Partitions.{alike_in_part}
use Rattle.meaning.proofs.Related.{Any, ChangesTheRest, Relation, block_related}

pub is_equal : (o : Ordering) → is_eq o ≡ true → o ≡ Equal
is_equal Less e = absurd (cc)
is_equal Equal e = refl
is_equal Greater e = absurd (cc)

weaker : (o : Option Right) → is_at_least Write o ≡ true → is_at_least Read o ≡ true
weaker None e = absurd (cc)
weaker (Some right) e = refl

or_more : (a b c d : Bool) → (a ≡ true → c ≡ true) → (b ≡ true → d ≡ true) → (a || b) ≡ true → (c || d) ≡ true
or_more true b c d f g e = ap (λ x. x || d) (f refl)
or_more false b true d f g e = refl
or_more false b false d f g e = g e

-- what is covered with Write is covered with Read
any_weaker : (fo : FootprintOf) (rs : List Resource) → list_any (λ r. is_at_least Write (get fo r)) rs ≡ true → list_any (λ r. is_at_least Read (get fo r)) rs ≡ true
any_weaker fo [] e = absurd (cc)
any_weaker fo (r ∷ rs) e = or_more (is_at_least Write (get fo r)) _ (is_at_least Read (get fo r)) _ (weaker (get fo r)) (any_weaker fo rs) e

-- a change of a covered name changes no name that isn't covered
apart : (tables : List TableShape) (fo : FootprintOf) (s : Database) (name q : RowName) (now got : Option RowOf)
    → covers_row tables fo name Write ≡ true → covers_row tables fo q Write ≡ false → got ≡ cond (eq_by_cmp name_cmp q name) now (get s q) → got ≡ get s q
apart tables fo s name q now got e n is =
    is ∙ elim (eq_by_cmp name_cmp q name) as (λ t. eq_by_cmp name_cmp q name ≡ t → cond t now (get s q) ≡ get s q) [
      | true ↦ λ is.
          let same : q ≡ name = exact_names q name (is_equal (name_cmp q name) is) in
          let clash : true ≡ false = sym e ∙ ap (λ (x : RowName). covers_row tables fo x Write) (sym same) ∙ n in
          absurd (cc)
      | false ↦ λ is. refl
    ] refl

module _ (tables : List TableShape) (fo : FootprintOf) (uncovered : Ending) (one : Database) where
  -- two states that differ in their rows alone, and agree on the rows that are covered with Read; the first has the rows of
  -- one at each name that isn't covered with Write
  pub record Same (s t : State) : Type 0 where
    pub agree : (q : RowName) → covers_row tables fo q Read ≡ true → get t.rows q ≡ get s.rows q
    pub others : (q : RowName) → covers_row tables fo q Write ≡ false → get s.rows q ≡ get one q
    pub rest : t ≡ record s { rows = t.rows }

  -- both end alike, or both go on with one value, of Q
  abbrev pub Alike : {A : Type 0} → (A → Type 0) → Result A Ending × State → Result A Ending × State → Type 0
  Alike Q (Ok x, s) (Ok y, t) = Q x × (y ≡ x) × Same s t
  Alike Q (Err e, s) (Err f, t) = f ≡ e
  Alike Q (Ok x, s) (Err f, t) = ⊥
  Alike Q (Err e, s) (Ok y, t) = ⊥

  abbrev GoAlike : {A : Type 0} → (A → Type 0) → Ran A → Ran A → Type 0
  GoAlike Q f g = (s t : State) → Same s t → Alike Q (f s) (g t)

  then_alike : {A B : Type 0} (Q : A → Type 0) (P : B → Type 0) (r q : Result A Ending × State) (h k : A → Ran B)
      → Alike Q r q → ((v : A) → Q v → GoAlike P (h v) (k v)) → Alike P (continued r h) (continued q k)
  then_alike Q P (Ok x, s) (Ok y, t) h k a n = subst (λ v. Alike P (h x s) (k v t)) (sym a.1) (n x a.0 s t a.2)
  then_alike Q P (Err e, s) (Err f, t) h k a n = a
  then_alike Q P (Ok x, s) (Err f, t) h k a n = absurd a
  then_alike Q P (Err e, s) (Ok y, t) h k a n = absurd a

  chain : {A B : Type 0} (Q : A → Type 0) (P : B → Type 0) (f g : Ran A) (h k : A → Ran B) → GoAlike Q f g → ((v : A) → Q v → GoAlike P (h v) (k v)) → GoAlike P (and_then f h) (and_then g k)
  unfolding and_then
  chain Q P f g h k a n s t same = then_alike Q P (f s) (g t) h k (a s t same) n

  altered : (f : State → State) → ChangesTheRest f → GoAlike Any (alter f) (alter f)
  altered f h s t same =
      let kept : f s ≡ record (f s) { rows = s.rows; accesses = s.accesses } = h s s.rows s.accesses in
      let rest : f t ≡ record (f s) { rows = t.rows } = ap f same.rest ∙ h s t.rows s.accesses ∙ ap (λ (z : State). record z { rows = t.rows }) (sym kept) in (
        tt,
        refl,
        subst (Same (f s)) (sym rest) (record {
          agree = λ q c. same.agree q c ∙ ap (λ (z : State). get z.rows q) (sym kept);
          others = λ q n. ap (λ (z : State). get z.rows q) kept ∙ same.others q n;
          rest = refl;
        }),
      )

  abbrev Covered : Resource → Right → Type 0
  Covered resource right = covers fo resource right ≡ true

  access_tested : (b : Bool) → GoAlike (λ u. b ≡ true) (passing b uncovered) (passing b uncovered)
  access_tested true s t same = (refl, refl, same)
  access_tested false s t same = refl

  part_seen : (table part : ℕ) → Covered (Table table (Part part WholePart)) Read → GoAlike Any (look (λ st. part_rows tables table part st.rows)) (look (λ st. part_rows tables table part st.rows))
  part_seen table part c s t same = (tt, alike_in_part tables fo table part s.rows t.rows same.agree c, same)

  covers_read : (right : Right) (name : RowName) → covers_row tables fo name right ≡ true → covers_row tables fo name Read ≡ true
  covers_read Read name c = c
  covers_read Write name c = any_weaker fo (row_resource tables name ∷ ancestors_of (row_resource tables name)) c

  row_seen : (right : Right) (name : RowName) → covers_row tables fo name right ≡ true → GoAlike Any (row_now name) (row_now name)
  row_seen right name c s t same = (tt, same.agree name (covers_read right name c), same)

  row_set : (name : RowName) (row : RowOf) → covers_row tables fo name Write ≡ true → GoAlike Any (set_row name row) (set_row name row)
  row_set name row c s t same = (
    tt,
    refl,
    record {
      agree = λ q h.
          get-insert names_total t.rows name row q
          ∙ ap (cond (eq_by_cmp name_cmp q name) (Some row)) (same.agree q h)
          ∙ sym (get-insert names_total s.rows name row q);
      others = λ q n. apart tables fo s.rows name q (Some row) (get (insert s.rows name row) q) c n (get-insert names_total s.rows name row q) ∙ same.others q n;
      rest = ap (λ (z : State). record z { rows = insert t.rows name row }) same.rest;
    },
  )

  row_removed : (name : RowName) → covers_row tables fo name Write ≡ true → GoAlike Any (remove_row name) (remove_row name)
  row_removed name c s t same = (
    tt,
    refl,
    record {
      agree = λ q h.
          get-remove names_total t.rows name q
          ∙ ap (cond (eq_by_cmp name_cmp q name) None) (same.agree q h)
          ∙ sym (get-remove names_total s.rows name q);
      others = λ q n. apart tables fo s.rows name q None (get (remove s.rows name) q) c n (get-remove names_total s.rows name q) ∙ same.others q n;
      rest = ap (λ (z : State). record z { rows = remove t.rows name }) same.rest;
    },
  )

  abbrev going_alike : Relation tables (tested fo uncovered) (tested fo uncovered)
  going_alike = record {
    Related = GoAlike;
    Passed = Covered;
    chain = chain;
    go_on = λ Q x q s t same. (q, refl, same);
    aborted = λ code s t same. refl;
    looked = λ f h s t same. (tt, ap f same.rest ∙ h s t.rows s.accesses, same);
    altered = altered;
    access = λ resource right. access_tested (covers fo resource right);
    part_seen = part_seen;
    row_seen = row_seen;
    row_set = row_set;
    row_removed = row_removed;
  }

same_start : (tables : List TableShape) (fo : FootprintOf) (uncovered : Ending) (arguments : List Value) (one two : Database)
    → ((q : RowName) → covers_row tables fo q Read ≡ true → get two q ≡ get one q) → Same tables fo uncovered one (start arguments one) (start arguments two)
same_start tables fo uncovered arguments one two h = record { agree = h; others = λ q n. refl; rest = refl }

-- what two runs that went on alike leave
abbrev LeavesAlike : List TableShape → FootprintOf → Database → (Reply × Database) → (Reply × Database) → Type 0
LeavesAlike tables fo one a b =
    (b.0 ≡ a.0)
    × ((q : RowName) → covers_row tables fo q Read ≡ true → get b.1 q ≡ get a.1 q)
    × ((q : RowName) → covers_row tables fo q Write ≡ false → get a.1 q ≡ get one q)

left_alike : (tables : List TableShape) (fo : FootprintOf) (uncovered : Ending) (one two : Database) (r q : Result (Unit {0}) Ending × State)
    → ((n : RowName) → covers_row tables fo n Read ≡ true → get two n ≡ get one n)
    → Alike tables fo uncovered one Any r q → LeavesAlike tables fo one (finished one r) (finished two q)
left_alike tables fo uncovered one two (Ok x, s) (Ok y, t) h a = (ap (λ (z : State). commit z.reply) a.2.rest, a.2.agree, a.2.others)
left_alike tables fo uncovered one two (Err e, s) (Err f, t) h a = (ap reply_of a, h, λ n c. refl)
left_alike tables fo uncovered one two (Ok x, s) (Err f, t) h a = absurd a
left_alike tables fo uncovered one two (Err e, s) (Ok y, t) h a = absurd a

run_alike : (d : StandIn) (tables : List TableShape) (fo : FootprintOf) (uncovered : Ending) (body : List StmtSyntax) (arguments : List Value) (one two : Database)
    → ((q : RowName) → covers_row tables fo q Read ≡ true → get two q ≡ get one q)
    → LeavesAlike tables fo one (run_of d (covered tables fo uncovered) body arguments one) (run_of d (covered tables fo uncovered) body arguments two)
run_alike d tables fo uncovered body arguments one two h =
    left_alike tables fo uncovered one two _ _ h
    (block_related (going_alike tables fo uncovered one) d (block_of body) (start arguments one) (start arguments two) (same_start tables fo uncovered arguments one two h))

abbrev Stays : List TableShape → List StmtSyntax → List Value → Footing → Database → Database → Type 0
Stays tables body arguments footing one two =
    StaysInFootprint (record { tables = tables; body = body; arguments = arguments; footing = footing }) one two

by_footing : (tables : List TableShape) (body : List StmtSyntax) (arguments : List Value) (footing : Footing) (one two : Database)
    → Agree (record { tables = tables; body = body; arguments = arguments; footing = footing }) one two → Stays tables body arguments footing one two
by_footing tables body arguments (declares fo) one two h =
    let left = run_alike nothing tables fo (endings.Abort Uncovered) body arguments one two h in
    record { outcome = left.0; agree = left.1; others = left.2 }
by_footing tables body arguments (faults code) one two h = record { outcome = refl; agree = h; others = λ q n. refl }
by_footing tables body arguments (finds fo) one two h =
    let left = run_alike nothing tables fo endings.Stale body arguments one two h in
    record { outcome = left.0; agree = left.1; others = left.2 }

pub stays : (entry : EntryShape) (one two : Database) → Agree entry one two → StaysInFootprint entry one two
stays entry one two h = by_footing entry.tables entry.body entry.arguments entry.footing one two h
