-- What is filtered, cut into lines again.
use Rattle.std.proofs.Common.{◌≡◌, ℕ, ◌<◌, ◌⊎◌, List, [], ◌∷◌, ◌++◌, append_assoc, append-nil, length, map, filter, Bool, true, false, cond, ◌&&◌, Option, Some, Result, Ok, Err, inl, inr, refl, sym, ◌∙◌, ap, arith}
use Rattle.std.specs.Prelude.{is_ok, ⊤}
use Rattle.std.specs.List.{concat, list_all}
use Rattle.std.proofs.lemmas.Bool.{eqb-true}
use Rattle.devices.specs.Lines.{has_newline, is_newline, lines_of, newline, next_number, numbered, onto_first}
use Rattle.proclang_types.specs.Procedures.{ProcParts}
use Rattle.batch_log.specs.declared.fault.LogFault.{LogFault}
use Rattle.batch_log.specs.declared.fault.LogFaultKind.{LogFaultKind}
use Rattle.batch_log.specs.declared.fault.LogFaultKind.TheVariants.{BatchTooLong}
use Rattle.batch_log.specs.declared.line.LogLine.{LogLine}
use Rattle.batch_log.specs.declared.line.LogLine.TheVariants.{Call, Cut}
use Rattle.batch_log.specs.Filters.{filtered, is_taken, whole_lines, without_newline}
use Rattle.batch_log.specs.Lines.{line_said}
use Rattle.batch_log.specs.Log.{calls_after, first_fault, is_room, limited, log_said, or_fault, total_after, within}
use Rattle.batch_log.proofs.Filters.{whole_lines-newline, whole_lines-some}

-- ---- the lines of a text

onto_all : (b : ℕ) (lines : List (List ℕ)) → concat (onto_first b lines) ≡ b ∷ concat lines
onto_all b [] = refl
onto_all b (line ∷ lines) = refl

cut_all : (b : ℕ) (v : Bool) (lines : List (List ℕ)) → concat (cond v ((b ∷ []) ∷ lines) (onto_first b lines)) ≡ b ∷ concat lines
cut_all b true lines = refl
cut_all b false lines = onto_all b lines

pub all_bytes : (text : List ℕ) → concat (whole_lines text) ≡ text
all_bytes [] = refl
all_bytes (b ∷ rest) = cut_all b (is_newline b) (whole_lines rest) ∙ ap (λ t. b ∷ t) (all_bytes rest)

onto_bare : (b : ℕ) (lines : List (List ℕ)) → is_newline b ≡ false → map without_newline (onto_first b lines) ≡ onto_first b (map without_newline lines)
onto_bare b [] h = rw h refl
onto_bare b (line ∷ lines) h = rw h refl

cut_bare : (b : ℕ) (v : Bool) (lines : List (List ℕ)) → is_newline b ≡ v → map without_newline (cond v ((b ∷ []) ∷ lines) (onto_first b lines)) ≡ cond v ([] ∷ map without_newline lines) (onto_first b (map without_newline lines))
cut_bare b true lines h = rw h refl
cut_bare b false lines h = onto_bare b lines h

pub bare_lines : (text : List ℕ) → map without_newline (whole_lines text) ≡ lines_of text
bare_lines [] = refl
bare_lines (b ∷ rest) = cut_bare b (is_newline b) (whole_lines rest) refl ∙ ap (λ ls. cond (is_newline b) ([] ∷ ls) (onto_first b ls)) (bare_lines rest)

-- ---- lines that are cut as a text is

abbrev Ended : List ℕ → Type 0
Ended whole = (line : List ℕ) × (has_newline line ≡ false) × (whole ≡ line ++ newline ∷ [])

abbrev Bare : List ℕ → Type 0
Bare whole = (has_newline whole ≡ false) × (0 < length whole)

-- each ends with a newline, but the last, which may have none
abbrev AreCut : List (List ℕ) → Type 0
AreCut [] = ⊤
AreCut (line ∷ lines) = (Ended line × AreCut lines) ⊎ (Bare line × (lines ≡ []))

more_ended : (b : ℕ) (line : List ℕ) → is_newline b ≡ false → Ended line → Ended (b ∷ line)
more_ended b line h e = (b ∷ e.0, rw (h, e.1) refl, ap (λ l. b ∷ l) e.2)

more_bare : (b : ℕ) (line : List ℕ) → is_newline b ≡ false → Bare line → Bare (b ∷ line)
more_bare b line h e = (rw (h, e.0) refl, omega arith)

onto_cut : (b : ℕ) (lines : List (List ℕ)) → is_newline b ≡ false → AreCut lines → AreCut (onto_first b lines)
onto_cut b [] h c = inr ((rw h refl, omega arith), refl)
onto_cut b (line ∷ lines) h (inl e) = inl (more_ended b line h e.0, e.1)
onto_cut b (line ∷ lines) h (inr e) = inr (more_bare b line h e.0, e.1)

cut_cut : (b : ℕ) (v : Bool) (lines : List (List ℕ)) → is_newline b ≡ v → AreCut lines → AreCut (cond v ((b ∷ []) ∷ lines) (onto_first b lines))
cut_cut b true lines h c = inl (([], refl, ap (λ x. x ∷ []) (eqb-true b newline h)), c)
cut_cut b false lines h c = onto_cut b lines h c

text_cut : (text : List ℕ) → AreCut (whole_lines text)
text_cut [] = tt
text_cut (b ∷ rest) = cut_cut b (is_newline b) (whole_lines rest) refl (text_cut rest)

kept_cut : (P : List ℕ → Bool) (lines : List (List ℕ)) → AreCut lines → AreCut (filter P lines)
kept_cut P [] c = tt
kept_cut P (line ∷ lines) (inl e) = elim (P line) as (λ b. AreCut (cond b (line ∷ filter P lines) (filter P lines))) [ true ↦ inl (e.0, kept_cut P lines e.1) | false ↦ kept_cut P lines e.1 ]
kept_cut P (line ∷ lines) (inr e) = rw e.1 (elim (P line) as (λ b. AreCut (cond b (line ∷ []) [])) [ true ↦ inr (e.0, refl) | false ↦ tt ])

cut_again : (lines : List (List ℕ)) → AreCut lines → whole_lines (concat lines) ≡ lines
cut_again [] c = refl
cut_again (whole ∷ lines) (inl e) =
    let l = e.0 in
    ap (λ w. whole_lines (w ++ concat lines)) l.2 ∙ ap whole_lines (append_assoc l.0 (newline ∷ []) (concat lines)) ∙ whole_lines-newline l.0 (concat lines) l.1
    ∙ ap (λ w. w ∷ whole_lines (concat lines)) (sym l.2) ∙ ap (λ ls. whole ∷ ls) (cut_again lines e.1)
cut_again (whole ∷ lines) (inr e) =
    ap (λ ls. whole_lines (whole ++ concat ls)) e.1 ∙ ap whole_lines (append-nil whole) ∙ whole_lines-some whole e.0.0 e.0.1 ∙ ap (λ ls. whole ∷ ls) (sym e.1)

lines_filtered : (procs : List ProcParts) (log : List ℕ) → lines_of (filtered procs log) ≡ map without_newline (filter (is_taken procs) (whole_lines log))
lines_filtered procs log =
    sym (bare_lines (filtered procs log)) ∙ ap (map without_newline) (cut_again (filter (is_taken procs) (whole_lines log)) (kept_cut (is_taken procs) (whole_lines log) (text_cut log)))

-- ---- no line of them has a fault

all_kept : (P : List ℕ → Bool) (lines : List (List ℕ)) → list_all P (filter P lines) ≡ true
all_kept P [] = refl
all_kept P (line ∷ lines) = elim (P line) as (λ b. P line ≡ b → list_all P (cond b (line ∷ filter P lines) (filter P lines)) ≡ true) [ true ↦ λ h. rw h (all_kept P lines) | false ↦ λ h. all_kept P lines ] refl

both_first : (a b : Bool) → (a && b) ≡ true → a ≡ true
both_first true b h = refl
both_first false b h = cc

both_second : (a b : Bool) → (a && b) ≡ true → b ≡ true
both_second true b h = h
both_second false b h = cc

same_kind : (a b : LogFault) → Some a ≡ Some b → b.kind ≡ a.kind
same_kind a b e = cc

abbrev IsTooLong : Option LogFault → Type 0
IsTooLong found = (fault : LogFault) → found ≡ Some fault → fault.kind ≡ BatchTooLong

line_too_long : (n : ℕ) (room : Bool) (said : LogLine) (later : Option LogFault) → IsTooLong later → IsTooLong (or_fault n (cond room (Ok said) (Err BatchTooLong)) later)
line_too_long n true said later h = h
line_too_long n false said later h = λ fault e. same_kind (record { kind = BatchTooLong; line = n }) fault e

or_long : (retries calls total n : ℕ) (said : Result LogLine LogFaultKind) (later : Option LogFault) → is_ok said ≡ true → IsTooLong later → IsTooLong (or_fault n (within retries calls total said) later)
or_long retries calls total n (Ok (Call call)) later ok h = line_too_long n (is_room retries calls total) (Call call) later h
or_long retries calls total n (Ok Cut) later ok h = h
or_long retries calls total n (Err kind) later ok h = absurd cc

abbrev said : List ProcParts → ℕ → List (List ℕ) → List (ℕ × Result LogLine LogFaultKind)
said procs n lines = map (λ line. (line.0, line_said procs line.1)) (numbered n lines)

taken_long : (procs : List ProcParts) (retries calls total n : ℕ) (lines : List (List ℕ)) → list_all (is_taken procs) lines ≡ true → IsTooLong (first_fault (limited retries calls total (said procs n (map without_newline lines))))
taken_long procs retries calls total n [] h = λ fault e. cc
taken_long procs retries calls total n (line ∷ lines) h =
    let s : Result LogLine LogFaultKind = line_said procs (without_newline line) in
    or_long retries calls total (next_number n) s _ (both_first (is_taken procs line) (list_all (is_taken procs) lines) h)
    (taken_long procs retries (calls_after calls s) (total_after total s) (next_number n) lines (both_second (is_taken procs line) (list_all (is_taken procs) lines) h))

pub filtered_too_long : (procs : List ProcParts) (retries : ℕ) (log : List ℕ) (fault : LogFault) → first_fault (log_said retries procs 0 0 (filtered procs log)) ≡ Some fault → fault.kind ≡ BatchTooLong
filtered_too_long procs retries log fault e =
    taken_long procs retries 0 0 0 (filter (is_taken procs) (whole_lines log)) (all_kept (is_taken procs) (whole_lines log)) fault
    (ap (λ ls. first_fault (limited retries 0 0 (said procs 0 ls))) (sym (lines_filtered procs log)) ∙ e)
