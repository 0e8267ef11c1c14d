-- The batches of a log that is cut in two after a cut.
use Rattle.std.proofs.Common.{◌≡◌, ◌≤◌, ℕ, ◌+◌, Bool, true, false, nat_lt, List, [], ◌∷◌, ◌++◌, map, Option, None, Result, Ok, Err, refl, sym, ap, ◌∙◌, subst, arith, append_assoc}
use Rattle.std.specs.Prelude.{⊤, if◌then◌else◌}
use Rattle.std.specs.List.{AllByRecursion}
use Rattle.std.proofs.lemmas.Bool.{and_from, and_parts, lt-ltb, ltb-true}
use Rattle.devices.specs.Lines.{has_newline, joined, lines_of, newline, next_number, numbered}
use Rattle.devices.proofs.Lines.{lines_of-newline}
use Rattle.proclang_types.specs.Procedures.{ProcParts}
use Rattle.requests.specs.Requests as requests
use Rattle.batch_log.specs.declared.fault.LogFault.{LogFault}
use Rattle.batch_log.specs.declared.fault.LogFaultKind.{LogFaultKind}
use Rattle.batch_log.specs.declared.fault.LogFaultKind.TheVariants.{BatchTooLong}
use Rattle.batch_log.specs.declared.line.LogLine.{LogLine}
use Rattle.batch_log.specs.declared.line.LogLine.TheVariants.{Call, Cut}
use Rattle.batch_log.specs.Lines.{Lines, line_said, lines_said}
use Rattle.batch_log.specs.Log.{batches_of, before_batches, calls_after, cut_apart, first_fault, into_first, is_room, limited, log_said, most_calls, or_fault, total_after, whole_batches, within}
use Rattle.moved_rows.specs.CutLogs.{EndsWithCut}

abbrev Said : Type 0
Said = Result LogLine LogFaultKind

abbrev Batches : Type 0
Batches = List (List requests.Call)

-- ---- lines without their numbers

abbrev said_of : Lines → List Said
said_of lines = map (λ line. line.1) lines

-- the lines by the rule of how many calls there may be
abbrev room : ℕ → ℕ → ℕ → List Said → List Said
room retries calls total [] = []
room retries calls total (r ∷ rs) = within retries calls total r ∷ room retries (calls_after calls r) (total_after total r) rs

abbrev cut : List Said → Batches
cut [] = [] ∷ []
cut (r ∷ rs) = before_batches r (cut rs)

abbrev Fine : List Said → Type 0
Fine [] = ⊤
Fine (Ok said ∷ rs) = Fine rs
Fine (Err kind ∷ rs) = ⊥

limited_said : (retries calls total : ℕ) (lines : Lines) → said_of (limited retries calls total lines) ≡ room retries calls total (said_of lines)
limited_said retries calls total [] = refl
limited_said retries calls total (line ∷ rest) = ap (λ rs. within retries calls total line.1 ∷ rs) (limited_said retries (calls_after calls line.1) (total_after total line.1) rest)

cut_said : (lines : Lines) → cut_apart lines ≡ cut (said_of lines)
cut_said [] = refl
cut_said (line ∷ rest) = ap (before_batches line.1) (cut_said rest)

numbered_said : (procs : List ProcParts) (n : ℕ) (ls : List (List ℕ)) → said_of (map (λ line. (line.0, line_said procs line.1)) (numbered n ls)) ≡ map (line_said procs) ls
numbered_said procs n [] = refl
numbered_said procs n (l ∷ ls) = ap (λ rs. line_said procs l ∷ rs) (numbered_said procs (next_number n) ls)

-- without a fault
fine_said : (lines : Lines) → first_fault lines ≡ None → Fine (said_of lines)
fine_said [] e = tt
fine_said (line ∷ rest) e = by line.1 e (fine_said rest)
  where
    by : (r : Said) → or_fault line.0 r (first_fault rest) ≡ None → (first_fault rest ≡ None → Fine (said_of rest)) → Fine (r ∷ said_of rest)
    by (Ok said) e later = later e
    by (Err kind) e later = absurd cc

none_said : (lines : Lines) → Fine (said_of lines) → first_fault lines ≡ None
none_said [] h = refl
none_said (line ∷ rest) h = by line.1 h (none_said rest)
  where
    by : (r : Said) → Fine (r ∷ said_of rest) → (Fine (said_of rest) → first_fault rest ≡ None) → or_fault line.0 r (first_fault rest) ≡ None
    by (Ok said) h later = later h
    by (Err kind) h later = absurd h

batches_said : (lines : Lines) → first_fault lines ≡ None → batches_of lines ≡ whole_batches None (cut (said_of lines))
batches_said lines e = ap (λ (fault : Option LogFault). whole_batches fault (cut_apart lines)) e ∙ ap (whole_batches None) (cut_said lines)

-- what lines say, from the start of a log
abbrev says : List ProcParts → List (List ℕ) → List Said
says procs ls = map (line_said procs) ls

log_lines : (procs : List ProcParts) (retries : ℕ) (log : List ℕ) → said_of (log_said retries procs 0 0 log) ≡ room retries 0 0 (says procs (lines_of log))
log_lines procs retries log = limited_said retries 0 0 (lines_said procs 0 log) ∙ ap (room retries 0 0) (numbered_said procs 0 (lines_of log))

-- ---- room for calls

room_less : (retries calls total less : ℕ) → less ≤ total → is_room retries calls total ≡ true → is_room retries calls less ≡ true
room_less retries calls total less h e =
    let both = and_parts (nat_lt calls 4096) (nat_lt total (most_calls retries)) e in
    let few = ltb-true total (most_calls retries) both.1 in
    and_from (nat_lt calls 4096) (nat_lt less (most_calls retries)) both.0 (lt-ltb less (most_calls retries) (omega (arith, few, h)))

-- where no line is a fault, there is room for each call, also after fewer
room_all : (retries calls total less : ℕ) (rs : List Said) → less ≤ total → Fine (room retries calls total rs) → room retries calls less rs ≡ rs
room_all retries calls total less [] h fine = refl
room_all retries calls total less (Ok (Call call) ∷ rs) h fine = by (is_room retries calls total) refl fine (room_all retries (calls + 1) (total + 1) (less + 1) rs (omega (arith, h)))
  where
    by : (b : Bool) → is_room retries calls total ≡ b → Fine ((if b then Ok (Call call) else Err BatchTooLong) ∷ room retries (calls + 1) (total + 1) rs)
        → (Fine (room retries (calls + 1) (total + 1) rs) → room retries (calls + 1) (less + 1) rs ≡ rs) → room retries calls less (Ok (Call call) ∷ rs) ≡ Ok (Call call) ∷ rs
    by true e fine later = ap (λ (b : Bool). (if b then Ok (Call call) else Err BatchTooLong) ∷ room retries (calls + 1) (less + 1) rs) (room_less retries calls total less h e) ∙ ap (λ rest. Ok (Call call) ∷ rest) (later fine)
    by false e fine later = absurd fine
room_all retries calls total less (Ok Cut ∷ rs) h fine = ap (λ rest. Ok Cut ∷ rest) (room_all retries 0 total less rs h fine)
room_all retries calls total less (Err kind ∷ rs) h fine = absurd fine

fine_front : (xs ys : List Said) → Fine (xs ++ ys) → Fine xs
fine_front [] ys h = tt
fine_front (Ok said ∷ xs) ys h = fine_front xs ys h
fine_front (Err kind ∷ xs) ys h = absurd h

fine_back : (xs ys : List Said) → Fine (xs ++ ys) → Fine ys
fine_back [] ys h = h
fine_back (Ok said ∷ xs) ys h = fine_back xs ys h
fine_back (Err kind ∷ xs) ys h = absurd h

-- after lines that end with a cut a batch begins
abbrev Later : ℕ → ℕ → ℕ → List Said → List Said → Type 0
Later retries calls total xs ys = (m : ℕ) × (room retries calls total (xs ++ Ok Cut ∷ ys) ≡ room retries calls total (xs ++ Ok Cut ∷ []) ++ room retries 0 m ys)

room_later : (retries calls total : ℕ) (xs ys : List Said) → Later retries calls total xs ys
room_later retries calls total [] ys = (total, refl)
room_later retries calls total (r ∷ xs) ys =
    let later = room_later retries (calls_after calls r) (total_after total r) xs ys in
    (later.0, ap (λ rs. within retries calls total r ∷ rs) later.1)

-- ---- batches

-- more than one list
abbrev AreMore : Batches → Type 0
AreMore [] = ⊥
AreMore (b ∷ []) = ⊥
AreMore (b ∷ c ∷ bs) = ⊤

cut_some : (rs : List Said) → (b : List requests.Call) × (bs : Batches) × (cut rs ≡ b ∷ bs)
cut_some [] = ([], [], refl)
cut_some (Ok (Call call) ∷ rs) = let some = cut_some rs in (call ∷ some.0, some.1, ap (into_first call) some.2)
cut_some (Ok Cut ∷ rs) = ([], cut rs, refl)
cut_some (Err kind ∷ rs) = ([], [], refl)

whole_into : (call : requests.Call) (bs : Batches) → AreMore bs → whole_batches None (into_first call bs) ≡ into_first call (whole_batches None bs)
whole_into call [] h = absurd h
whole_into call (b ∷ []) h = absurd h
whole_into call (b ∷ c ∷ bs) h = refl

into_more : (call : requests.Call) (bs : Batches) → AreMore bs → AreMore (into_first call bs)
into_more call [] h = absurd h
into_more call (b ∷ []) h = absurd h
into_more call (b ∷ c ∷ bs) h = tt

cut_more : (xs ys : List Said) → Fine xs → AreMore (cut (xs ++ Ok Cut ∷ ys))
cut_more [] ys h = let some = cut_some ys in subst (λ (bs : Batches). AreMore ([] ∷ bs)) (sym some.2) tt
cut_more (Ok (Call call) ∷ xs) ys h = into_more call (cut (xs ++ Ok Cut ∷ ys)) (cut_more xs ys h)
cut_more (Ok Cut ∷ xs) ys h = let some = cut_some (xs ++ Ok Cut ∷ ys) in subst (λ (bs : Batches). AreMore ([] ∷ bs)) (sym some.2) tt
cut_more (Err kind ∷ xs) ys h = absurd h

whole_cut : (rs : List Said) → whole_batches None ([] ∷ cut rs) ≡ [] ∷ whole_batches None (cut rs)
whole_cut rs =
    let some = cut_some rs in
    ap (λ (bs : Batches). whole_batches None ([] ∷ bs)) some.2 ∙ ap (λ (bs : Batches). [] ∷ whole_batches None bs) (sym some.2)

into_append : (call : requests.Call) (bs cs : Batches) → (b : List requests.Call) × (rest : Batches) × (bs ≡ b ∷ rest) → into_first call bs ++ cs ≡ into_first call (bs ++ cs)
into_append call bs cs some = ap (λ (x : Batches). into_first call x ++ cs) some.2 ∙ ap (λ (x : Batches). into_first call (x ++ cs)) (sym some.2)

whole_some : (bs : Batches) → AreMore bs → (b : List requests.Call) × (rest : Batches) × (whole_batches None bs ≡ b ∷ rest)
whole_some [] h = absurd h
whole_some (b ∷ []) h = absurd h
whole_some (b ∷ c ∷ bs) h = (b, whole_batches None (c ∷ bs), refl)

whole_append : (xs ys : List Said) → Fine xs → whole_batches None (cut (xs ++ Ok Cut ∷ ys)) ≡ whole_batches None (cut (xs ++ Ok Cut ∷ [])) ++ whole_batches None (cut ys)
whole_append [] ys h = whole_cut ys
whole_append (Ok (Call call) ∷ xs) ys h =
    whole_into call (cut (xs ++ Ok Cut ∷ ys)) (cut_more xs ys h) ∙ ap (into_first call) (whole_append xs ys h)
    ∙ sym (into_append call (whole_batches None (cut (xs ++ Ok Cut ∷ []))) (whole_batches None (cut ys)) (whole_some (cut (xs ++ Ok Cut ∷ [])) (cut_more xs [] h)))
    ∙ ap (λ (bs : Batches). bs ++ whole_batches None (cut ys)) (sym (whole_into call (cut (xs ++ Ok Cut ∷ [])) (cut_more xs [] h)))
whole_append (Ok Cut ∷ xs) ys h =
    whole_cut (xs ++ Ok Cut ∷ ys) ∙ ap (λ (bs : Batches). [] ∷ bs) (whole_append xs ys h)
    ∙ ap (λ (bs : Batches). bs ++ whole_batches None (cut ys)) (sym (whole_cut (xs ++ Ok Cut ∷ [])))
whole_append (Err kind ∷ xs) ys h = absurd h

-- ---- lines of two texts

lines_append : (ls : List (List ℕ)) (rest : List ℕ) → AllByRecursion (λ line. has_newline line ≡ false) ls → lines_of (joined ls ++ rest) ≡ ls ++ lines_of rest
lines_append [] rest h = refl
lines_append (l ∷ ls) rest h =
    ap lines_of (append_assoc (l ++ newline ∷ []) (joined ls) rest ∙ append_assoc l (newline ∷ []) (joined ls ++ rest))
    ∙ lines_of-newline l (joined ls ++ rest) h.0 ∙ ap (λ (rest : List (List ℕ)). l ∷ rest) (lines_append ls rest h.1)

append_none : (ls : List (List ℕ)) → ls ++ [] ≡ ls
append_none [] = refl
append_none (l ∷ ls) = ap (λ (rest : List (List ℕ)). l ∷ rest) (append_none ls)

bytes_none : (text : List ℕ) → text ++ [] ≡ text
bytes_none [] = refl
bytes_none (b ∷ text) = ap (λ (rest : List ℕ). b ∷ rest) (bytes_none text)

-- ---- a log that is cut in two

-- a whole log without a fault, of a beginning that ends with a cut and a rest
pub record IsInTwo (procs : List ProcParts) (retries : ℕ) (first rest : List ℕ) : Type 0 where
  pub batches : batches_of (log_said retries procs 0 0 (first ++ rest)) ≡ batches_of (log_said retries procs 0 0 first) ++ batches_of (log_said retries procs 0 0 rest)
  pub first_fine : first_fault (log_said retries procs 0 0 first) ≡ None
  pub rest_fine : first_fault (log_said retries procs 0 0 rest) ≡ None

says_append : (procs : List ProcParts) (lines : List (List ℕ)) (last : List ℕ) (more : List (List ℕ)) → line_said procs last ≡ Ok Cut → says procs ((lines ++ last ∷ []) ++ more) ≡ says procs lines ++ Ok Cut ∷ says procs more
says_append procs [] last more e = ap (λ r. r ∷ says procs more) e
says_append procs (l ∷ lines) last more e = ap (λ rs. line_said procs l ∷ rs) (says_append procs lines last more e)

pub in_two : (procs : List ProcParts) (retries : ℕ) (first rest : List ℕ) → EndsWithCut procs first → first_fault (log_said retries procs 0 0 (first ++ rest)) ≡ None → IsInTwo procs retries first rest
in_two procs retries first rest ends none =
    let xs = says procs ends.lines in
    let ys = says procs (lines_of rest) in
    let all_lines : lines_of (first ++ rest) ≡ (ends.lines ++ ends.last ∷ []) ++ lines_of rest = ap (λ (x : List ℕ). lines_of (x ++ rest)) ends.is ∙ lines_append (ends.lines ++ ends.last ∷ []) rest ends.whole in
    let first_lines : lines_of first ≡ (ends.lines ++ ends.last ∷ []) ++ [] =
    ap lines_of (ends.is ∙ sym (bytes_none (joined (ends.lines ++ ends.last ∷ [])))) ∙ lines_append (ends.lines ++ ends.last ∷ []) [] ends.whole in
    let all_is : said_of (log_said retries procs 0 0 (first ++ rest)) ≡ room retries 0 0 (xs ++ Ok Cut ∷ ys) =
    log_lines procs retries (first ++ rest) ∙ ap (λ ls. room retries 0 0 (says procs ls)) all_lines ∙ ap (room retries 0 0) (says_append procs ends.lines ends.last (lines_of rest) ends.cut) in
    let first_is : said_of (log_said retries procs 0 0 first) ≡ room retries 0 0 (xs ++ Ok Cut ∷ []) =
    log_lines procs retries first ∙ ap (λ ls. room retries 0 0 (says procs ls)) first_lines ∙ ap (room retries 0 0) (says_append procs ends.lines ends.last [] ends.cut) in
    let later = room_later retries 0 0 xs ys in
    let fine : Fine (room retries 0 0 (xs ++ Ok Cut ∷ ys)) = subst Fine all_is (fine_said (log_said retries procs 0 0 (first ++ rest)) none) in
    let parts : Fine (room retries 0 0 (xs ++ Ok Cut ∷ []) ++ room retries 0 later.0 ys) = subst Fine later.1 fine in
    let front = fine_front (room retries 0 0 (xs ++ Ok Cut ∷ [])) (room retries 0 later.0 ys) parts in
    let back = fine_back (room retries 0 0 (xs ++ Ok Cut ∷ [])) (room retries 0 later.0 ys) parts in
    let all_same : room retries 0 0 (xs ++ Ok Cut ∷ ys) ≡ xs ++ Ok Cut ∷ ys = room_all retries 0 0 0 (xs ++ Ok Cut ∷ ys) (omega arith) fine in
    let first_same : room retries 0 0 (xs ++ Ok Cut ∷ []) ≡ xs ++ Ok Cut ∷ [] = room_all retries 0 0 0 (xs ++ Ok Cut ∷ []) (omega arith) front in
    let rest_same : room retries 0 0 ys ≡ ys = room_all retries 0 later.0 0 ys (omega arith) back in
    let ys_fine : Fine ys = subst Fine (room_all retries 0 later.0 later.0 ys (omega arith) back) back in
    let xs_fine : Fine xs = fine_front xs (Ok Cut ∷ []) (subst Fine first_same front) in
    let rest_is : said_of (log_said retries procs 0 0 rest) ≡ ys = log_lines procs retries rest ∙ rest_same in
    let first_fine : first_fault (log_said retries procs 0 0 first) ≡ None = none_said (log_said retries procs 0 0 first) (subst Fine (sym first_is) front) in
    let rest_fine : first_fault (log_said retries procs 0 0 rest) ≡ None = none_said (log_said retries procs 0 0 rest) (subst Fine (sym rest_is) ys_fine) in
    record {
      batches =
          batches_said (log_said retries procs 0 0 (first ++ rest)) none ∙ ap (λ rs. whole_batches None (cut rs)) (all_is ∙ all_same) ∙ whole_append xs ys xs_fine
          ∙ ap (λ rs. whole_batches None (cut rs) ++ whole_batches None (cut ys)) (sym (first_is ∙ first_same))
          ∙ ap (λ rs. whole_batches None (cut (said_of (log_said retries procs 0 0 first))) ++ whole_batches None (cut rs)) (sym rest_is)
          ∙ ap (λ (bs : Batches). bs ++ whole_batches None (cut (said_of (log_said retries procs 0 0 rest)))) (sym (batches_said (log_said retries procs 0 0 first) first_fine))
          ∙ ap (λ (bs : Batches). batches_of (log_said retries procs 0 0 first) ++ bs) (sym (batches_said (log_said retries procs 0 0 rest) rest_fine));
      first_fine = first_fine;
      rest_fine = rest_fine;
    }
