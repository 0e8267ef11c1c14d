-- The lines of a log with their newlines, and those of them that say a call or a cut.
use Rattle.std.proofs.Common.{◌≡◌, ℕ, ◌<◌, ◌&&◌, List, filter, [], ◌∷◌, ◌++◌, append_assoc, append-nil, length, Bool, true, false, cond, Option, Some, None, Result, Ok, Err, inl, inr, refl, sym, ◌∙◌, ap, arith, subst, ◌||◌}
use Rattle.std.specs.Prelude.{is_ok, Vec}
use Rattle.std.specs.declared.alloc.Global.{Global}
use Rattle.std.specs.List.{concat, list_all}
use Rattle.std.specs.Option.{IfSome}
use Rattle.std.specs.Io.KnownBytes.{Appends, Consumes, IsAtEnd, prepend_known}
use Rattle.std.proofs.KnownBytes.{Appends-nil, Appends-trans, Consumes-nil, Consumes-trans}
use Rattle.std.proofs.lemmas.List.Folds.{concat-append, list_all-append}
use Rattle.devices.specs.Devices.{AppendsFront, Passes}
use Rattle.devices.specs.Lines.{has_newline, newline}
use Rattle.devices.specs.LineReader.{Position, TakesLine}
use Rattle.devices.proofs.Lines.{first_not, rest_not}
use Rattle.devices.proofs.Passing.{Passes-at_end, Passes-first, Passes-from_consumes, Passes-refl, Passes-trans, left_at_end}
use Rattle.proclang_types.specs.Procedures.{ProcParts}
use Rattle.batch_log.specs.declared.fault.LogFault.{LogFault}
use Rattle.batch_log.specs.declared.fault.LogFaultKind.{LogFaultKind}
use Rattle.batch_log.specs.declared.fault.LogFaultKind.TheVariants.{Io}
use Rattle.batch_log.specs.declared.filter.LookedAt.TheVariants.{Taken, Refused}
use Rattle.batch_log.specs.declared.line.LogLine.{LogLine}
use Rattle.batch_log.specs.Faults.{is_io, IsOfLine}
use Rattle.batch_log.specs.Filters.{all_taken, filtered, HasFiltered, IsFilterOf, is_taken, taken_of, whole_lines, without_newline}
use Rattle.batch_log.specs.FilterSteps.{FilteredSoFar, IsLooked, LosesLine, newline_of}
use Rattle.batch_log.specs.Lines.{line_said}

-- ---- one line

pub whole_lines-newline : (line rest : List ℕ) → has_newline line ≡ false → whole_lines (line ++ newline ∷ rest) ≡ (line ++ newline ∷ []) ∷ whole_lines rest
whole_lines-newline [] rest h = refl
whole_lines-newline (b ∷ line) rest h = rw (first_not b line h, whole_lines-newline line rest (rest_not b line h)) refl

pub whole_lines-last : (b : ℕ) (line : List ℕ) → has_newline (b ∷ line) ≡ false → whole_lines (b ∷ line) ≡ (b ∷ line) ∷ []
whole_lines-last b [] h = rw (first_not b [] h) refl
whole_lines-last b (x ∷ line) h = rw (first_not b (x ∷ line) h, whole_lines-last x line (rest_not b (x ∷ line) h)) refl

pub whole_lines-some : (line : List ℕ) → has_newline line ≡ false → 0 < length line → whole_lines line ≡ line ∷ []
whole_lines-some [] h some = absurd (omega arith)
whole_lines-some (b ∷ line) h some = whole_lines-last b line h

pub bare_line : (line : List ℕ) → has_newline line ≡ false → without_newline line ≡ line
bare_line [] h = refl
bare_line (b ∷ line) h = rw (first_not b line h, bare_line line (rest_not b line h)) refl

pub ended_line : (line : List ℕ) → has_newline line ≡ false → without_newline (line ++ newline ∷ []) ≡ line
ended_line [] h = refl
ended_line (b ∷ line) h = rw (first_not b line h, ended_line line (rest_not b line h)) refl

-- a line that a reader takes, with what stands after it
abbrev pub IsNextLine : Option (List ℕ) → Option (List ℕ) → List ℕ → List ℕ → Type 0
IsNextLine a b whole line =
    Consumes a b whole × Passes (λ xs ys. whole_lines xs ≡ whole ∷ whole_lines ys) a b × (without_newline whole ≡ line)

next_ended : (a b : Option (List ℕ)) (line : List ℕ) → has_newline line ≡ false → Consumes a b (line ++ newline ∷ []) → IsNextLine a b (line ++ newline ∷ []) line
next_ended a b line h taken = (
  taken,
  Passes-from_consumes (λ xs ys. whole_lines xs ≡ (line ++ newline ∷ []) ∷ whole_lines ys) a b (line ++ newline ∷ [])
      (λ ys. ap whole_lines (append_assoc line (newline ∷ []) ys) ∙ whole_lines-newline line ys h) taken,
  ended_line line h,
)

next_bare : (a b : Option (List ℕ)) (line whole : List ℕ) → whole ≡ line → has_newline line ≡ false → 0 < length line → Consumes a b line → IsAtEnd b → IsNextLine a b whole line
next_bare a b line whole e h some taken end = rw e (
  taken,
  Passes-at_end (λ xs ys. whole_lines xs ≡ line ∷ whole_lines ys) a b line (whole_lines-some line h some) taken end,
  bare_line line h,
)

pub next_line : (a b : Option (List ℕ)) (p q : Position) (bare : Bool) (line : List ℕ) → TakesLine a b p q bare line → IsNextLine a b (line ++ newline_of bare) line
next_line a b p q bare line t = elim t.1 [
  | inl takes ↦ rw takes.0 (next_ended a b line t.0 takes.1.0)
  | inr last ↦ next_bare a b line (line ++ newline_of bare) (ap (λ c. line ++ newline_of c) last.0 ∙ append-nil line) t.0 last.1 last.2.0 last.3
]

pub is_taken_of : (procs : List ProcParts) (whole line : List ℕ) (said : Result LogLine LogFaultKind) → without_newline whole ≡ line → line_said procs line ≡ said → is_taken procs whole ≡ is_ok said
is_taken_of procs whole line said e s = ap (λ l. is_ok (line_said procs l)) e ∙ ap is_ok s

and_true : (b : Bool) → (b && true) ≡ b
and_true true = refl
and_true false = refl

and_false : (b : Bool) → (b && false) ≡ false
and_false true = refl
and_false false = refl

-- ---- the lines so far

taken_of-append : (procs : List ProcParts) (xs ys : List (List ℕ)) → taken_of procs (xs ++ ys) ≡ taken_of procs xs ++ taken_of procs ys
taken_of-append procs [] ys = refl
taken_of-append procs (x ∷ xs) ys = elim (is_taken procs x) as (λ b. concat (cond b (x ∷ filter (is_taken procs) (xs ++ ys)) (filter (is_taken procs) (xs ++ ys)))
    ≡ concat (cond b (x ∷ filter (is_taken procs) xs) (filter (is_taken procs) xs)) ++ taken_of procs ys) [
      | true ↦ ap (λ rest. x ++ rest) (taken_of-append procs xs ys) ∙ sym (append_assoc x (taken_of procs xs) (taken_of procs ys))
      | false ↦ taken_of-append procs xs ys
    ]

taken_alone : (procs : List ProcParts) (line : List ℕ) → is_taken procs line ≡ true → taken_of procs (line ∷ []) ≡ line
taken_alone procs line is = ap (λ b. concat (cond b (line ∷ []) [])) is ∙ append-nil line

refused_alone : (procs : List ProcParts) (line : List ℕ) → is_taken procs line ≡ false → taken_of procs (line ∷ []) ≡ []
refused_alone procs line is = ap (λ b. concat (cond b (line ∷ []) [])) is

pub so_far-none : (procs : List ProcParts) (old sink : Option (List ℕ)) → FilteredSoFar procs true old old sink sink
so_far-none procs old sink = record {
  lines = [];
  first = Passes-refl _ old (λ x. refl);
  read = Consumes-nil old;
  written = Appends-nil sink;
  all_taken = refl;
}

further : (procs : List ProcParts) (all now : Bool) (old mid new sink filled given : Option (List ℕ)) (line text : List ℕ) → (s : FilteredSoFar procs all old mid sink filled) →
    Consumes mid new line → Passes (λ xs ys. whole_lines xs ≡ line ∷ whole_lines ys) mid new → taken_of procs (line ∷ []) ≡ text → Appends filled given text →
    now ≡ list_all (is_taken procs) (s.lines ++ line ∷ []) → FilteredSoFar procs now old new sink given
further procs all now old mid new sink filled given line text s read first is written each = record {
  lines = s.lines ++ line ∷ [];
  first = Passes-trans _ _ _ old mid new s.first first
      (λ x y z e f. e ∙ ap (λ ls. s.lines ++ ls) f ∙ sym (append_assoc s.lines (line ∷ []) (whole_lines z)));
  read = rw (concat-append s.lines (line ∷ []), append-nil line) (Consumes-trans old mid new (concat s.lines) line s.read read);
  written = rw (taken_of-append procs s.lines (line ∷ []), is) (Appends-trans sink filled given (taken_of procs s.lines) text s.written written);
  all_taken = each;
}

pub so_far-taken : (procs : List ProcParts) (all : Bool) (old mid new sink filled given : Option (List ℕ)) (line : List ℕ) → FilteredSoFar procs all old mid sink filled →
    Consumes mid new line → Passes (λ xs ys. whole_lines xs ≡ line ∷ whole_lines ys) mid new → is_taken procs line ≡ true → Appends filled given line →
    FilteredSoFar procs all old new sink given
so_far-taken procs all old mid new sink filled given line s read first is written =
    further procs all all old mid new sink filled given line line s read first (taken_alone procs line is) written
    (s.all_taken ∙ sym (list_all-append (is_taken procs) s.lines (line ∷ []) ∙ ap (λ b. list_all (is_taken procs) s.lines && (b && true)) is ∙ and_true (list_all (is_taken procs) s.lines)))

pub so_far-refused : (procs : List ProcParts) (all : Bool) (old mid new sink filled : Option (List ℕ)) (line : List ℕ) → FilteredSoFar procs all old mid sink filled →
    Consumes mid new line → Passes (λ xs ys. whole_lines xs ≡ line ∷ whole_lines ys) mid new → is_taken procs line ≡ false →
    FilteredSoFar procs false old new sink filled
so_far-refused procs all old mid new sink filled line s read first is =
    further procs all false old mid new sink filled filled line [] s read first (refused_alone procs line is) (Appends-nil filled)
    (sym (list_all-append (is_taken procs) s.lines (line ∷ []) ∙ ap (λ b. list_all (is_taken procs) s.lines && (b && true)) is ∙ and_false (list_all (is_taken procs) s.lines)))

-- ---- how it ends

abbrev First : List (List ℕ) → List ℕ → List ℕ → Type 0
First lines xs ys = whole_lines xs ≡ lines ++ whole_lines ys

-- the end was read
pub ends_all : (procs : List ProcParts) (all : Bool) (old mid new sink filled : Option (List ℕ)) → FilteredSoFar procs all old mid sink filled →
    Passes (λ xs ys. (xs ≡ []) × (ys ≡ [])) mid new →
    Passes (λ x y. (all ≡ all_taken procs x) × Appends sink filled (filtered procs x) × (y ≡ [])) old new
ends_all procs all old mid new sink filled s end = Passes-trans _ _ _ old mid new s.first end
    (λ x y z e f.
    let whole : whole_lines x ≡ s.lines = e ∙ ap (λ ls. s.lines ++ whole_lines ls) f.0 ∙ append-nil s.lines in
    (s.all_taken ∙ ap (list_all (is_taken procs)) (sym whole), rw whole s.written, f.1))

-- what was written is a beginning of what is filtered, and so is a beginning of one more line after it
pub front_so_far : (procs : List ProcParts) (all : Bool) (old mid sink filled : Option (List ℕ)) → FilteredSoFar procs all old mid sink filled →
    IfSome old (λ log. AppendsFront sink filled (filtered procs log))
front_so_far procs all old mid sink filled s = Passes-first (First s.lines) _ old mid s.first
    (λ x y e. (taken_of procs s.lines, taken_of procs (whole_lines y), ap (taken_of procs) e ∙ taken_of-append procs s.lines (whole_lines y), s.written))

pub front_further : (procs : List ProcParts) (all : Bool) (old mid new sink filled given : Option (List ℕ)) (line : List ℕ) → FilteredSoFar procs all old mid sink filled →
    Passes (λ xs ys. whole_lines xs ≡ line ∷ whole_lines ys) mid new → is_taken procs line ≡ true → AppendsFront filled given line →
    IfSome old (λ log. AppendsFront sink given (filtered procs log))
front_further procs all old mid new sink filled given line s first is front = Passes-first _ _ old new
    (Passes-trans _ _ (λ x z. whole_lines x ≡ s.lines ++ line ∷ whole_lines z) old mid new s.first first (λ x y z e f. e ∙ ap (λ ls. s.lines ++ ls) f))
    (λ x z e. (
      taken_of procs s.lines ++ front.0,
      front.1 ++ taken_of procs (whole_lines z),
      ap (taken_of procs) e ∙ taken_of-append procs s.lines (line ∷ whole_lines z)
          ∙ ap (λ b. taken_of procs s.lines ++ concat (cond b (line ∷ filter (is_taken procs) (whole_lines z)) (filter (is_taken procs) (whole_lines z)))) is
          ∙ ap (λ l. taken_of procs s.lines ++ (l ++ taken_of procs (whole_lines z))) front.2
          ∙ ap (λ l. taken_of procs s.lines ++ l) (append_assoc front.0 front.1 (taken_of procs (whole_lines z)))
          ∙ sym (append_assoc (taken_of procs s.lines) front.0 (front.1 ++ taken_of procs (whole_lines z))),
      Appends-trans sink filled given (taken_of procs s.lines) front.0 s.written front.3,
    ))

prepend_none : (left : Option (List ℕ)) → prepend_known [] left ≡ left
prepend_none None = refl
prepend_none (Some x) = refl

nothing_came : (mid left : Option (List ℕ)) (came lost : List ℕ) → came ≡ [] → Consumes mid (prepend_known came left) lost → Consumes mid left lost
nothing_came mid left came lost none h = subst (λ l. Consumes mid l lost) (ap (λ c. prepend_known c left) none ∙ prepend_none left) h

-- a read failed, and the lines before it were written
pub stopped_so_far : (procs : List ProcParts) (all : Bool) (old mid left sink filled : Option (List ℕ)) (came : List ℕ) (s : FilteredSoFar procs all old mid sink filled) →
    came ≡ [] → (l : LosesLine true mid (prepend_known came left)) →
    (lines : List (List ℕ)) × (lost : List ℕ) × (has_newline lost ≡ false) × HasFiltered procs lines lost old left sink filled
stopped_so_far procs all old mid left sink filled came s none l = (
  s.lines,
  l.lost,
  l.broken refl,
  record {
    first = Passes-first (First s.lines) _ old mid s.first (λ x y e. (whole_lines y, e));
    read = Consumes-trans old mid left (concat s.lines) l.lost s.read (nothing_came mid left came l.lost none l.read);
    written = s.written;
  },
)

-- ---- what is found of a line

pub looked_taken : (procs : List ProcParts) (old new : Option (List ℕ)) (number : ℕ) (p q : Position) (bare given : Bool) (line : List ℕ) (v : Vec ℕ Global) (said : LogLine) →
    TakesLine old new p q bare line → given ≡ bare → v.items ≡ line ++ newline_of given → line_said procs line ≡ Ok said → IsLooked procs old new number (Taken v)
looked_taken procs old new number p q bare given line v said t same is says =
    let n = next_line old new p q bare line t in
    let whole : v.items ≡ line ++ newline_of bare = is ∙ ap (λ b. line ++ newline_of b) same in
    record {
      line = line ++ newline_of bare;
      read = n.0;
      first = n.1;
      is_found = (sym whole, is_taken_of procs (line ++ newline_of bare) line (Ok said) n.2 says);
    }

pub looked_refused : (procs : List ProcParts) (old new : Option (List ℕ)) (number : ℕ) (p q : Position) (bare : Bool) (line : List ℕ) (fault : LogFault) →
    TakesLine old new p q bare line → fault.line ≡ number → line_said procs line ≡ Err fault.kind → IsLooked procs old new number (Refused fault)
looked_refused procs old new number p q bare line fault t at says =
    let n = next_line old new p q bare line t in
    record {
      line = line ++ newline_of bare;
      read = n.0;
      first = n.1;
      is_found = (ap (line_said procs) n.2 ∙ says, at, is_taken_of procs (line ++ newline_of bare) line (Err fault.kind) n.2 says);
    }

-- ---- how filtering ends

or_none : (k : Bool) → (k || false) ≡ k
or_none true = refl
or_none false = refl

-- no read failed
pub same_failed : (now was old : Bool) → now ≡ (was || false) → was ≡ old → now ≡ old
same_failed now was old e f = e ∙ or_none was ∙ f

none_failed : {A : Type 0} (now old : Bool) → now ≡ old → old ≡ false → now ≡ true → A
none_failed now old same was is = let bad : true ≡ false = sym is ∙ same ∙ was in absurd cc

front_of_whole : (old sink filled : Option (List ℕ)) (text : List ℕ → List ℕ) → IfSome old (λ log. Appends sink filled (text log)) → IfSome old (λ log. AppendsFront sink filled (text log))
front_of_whole None sink filled text h = tt
front_of_whole (Some log) sink filled text h = (text log, [], sym (append-nil (text log)), h)

-- at the end of the log
pub filter_ends : (procs : List ProcParts) (all : Bool) (old mid left sink filled : Option (List ℕ)) (bytes : List ℕ) (was is : Bool) → FilteredSoFar procs all old mid sink filled →
    Passes (λ xs ys. (xs ≡ []) × (ys ≡ [])) mid (prepend_known bytes left) → IsFilterOf procs old left sink filled was is (Ok all)
filter_ends procs all old mid left sink filled bytes was is s end =
    let P : List ℕ → List ℕ → Type 0 = λ x y. (all ≡ all_taken procs x) × Appends sink filled (filtered procs x) × (y ≡ []) in
    let known : Passes P old (prepend_known bytes left) = ends_all procs all old mid (prepend_known bytes left) sink filled s end in
    let ok : IfSome old (λ log. Appends sink filled (filtered procs log)) = Passes-first P _ old _ known (λ x y g. g.1) in
    record {
      all = Passes-first P _ old _ known (λ x y g. g.0);
      read = left_at_end P old left bytes known (λ x y g. g.2);
      ok = ok;
      front = front_of_whole old sink filled (filtered procs) ok;
      machine = tt;
      stop = λ a b. tt;
    }

-- at a write that failed
pub filter_breaks : (procs : List ProcParts) (all : Bool) (old mid new left sink filled given : Option (List ℕ)) (was is : Bool) (number line_no : ℕ) (v : Vec ℕ Global) →
    FilteredSoFar procs all old mid sink filled → IsLooked procs mid new number (Taken v) → AppendsFront filled given v.items → is ≡ was →
    IsFilterOf procs old left sink given was is (Err (record { kind = Io; line = line_no }))
filter_breaks procs all old mid new left sink filled given was is number line_no v s looked front same = record {
  all = tt;
  read = tt;
  ok = tt;
  front = front_further procs all old mid new sink filled given looked.line s looked.first looked.is_found.1 (rw looked.is_found.0 front);
  machine = λ of. absurd cc;
  stop = λ a b. none_failed is was same a b;
}

-- at a fault of a read, or of memory
pub filter_stops : (procs : List ProcParts) (all : Bool) (old mid left sink filled : Option (List ℕ)) (bytes : List ℕ) (was mid_failed is : Bool) (fault : LogFault) →
    FilteredSoFar procs all old mid sink filled → (IsOfLine fault.kind → ⊥) → LosesLine (is_io fault.kind) mid (prepend_known bytes left) →
    (is_io fault.kind ≡ true → bytes ≡ []) → is ≡ (mid_failed || is_io fault.kind) → mid_failed ≡ was → IsFilterOf procs old left sink filled was is (Err fault)
filter_stops procs all old mid left sink filled bytes was mid_failed is fault s machine lost spent fails same = record {
  all = tt;
  read = tt;
  ok = tt;
  front = front_so_far procs all old mid sink filled s;
  machine = machine;
  stop = λ a b.
      let io : is_io fault.kind ≡ true = sym (fails ∙ ap (λ k. k || is_io fault.kind) (same ∙ a)) ∙ b in
      stopped_so_far procs all old mid left sink filled bytes s (spent io) (rw io at lost);
}
