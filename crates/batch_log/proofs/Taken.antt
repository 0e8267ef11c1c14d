-- The bytes that the calls of a batch take.
use Rattle.std.proofs.Common.{◌≡◌, ℕ, ◌+◌, ◌<◌, ◌≤◌, ◌⊎◌, List, [], ◌∷◌, ◌++◌, append_assoc, append-nil, length, length-append, Bool, true, false, Option, Ok, inl, inr, refl, sym, ◌∙◌, ap, arith}
use Rattle.std.specs.List.{AllByRecursion}
use Rattle.devices.specs.Devices.{Passes}
use Rattle.devices.specs.Lines.{has_newline, joined, lines_of, newline}
use Rattle.devices.specs.LineReader.{LosesLine, Position, TakesLine}
use Rattle.devices.proofs.Lines.{lines_of-last, lines_of-newline}
use Rattle.devices.proofs.Passing.{Passes-at_end, Passes-from_consumes, Passes-weaken}
use Rattle.proclang_types.specs.Procedures.{ProcParts}
use Rattle.requests.specs.Requests as requests
use Rattle.batch_log.specs.declared.line.LogLine.TheVariants.{Call}
use Rattle.batch_log.specs.Lines.{line_said}
use Rattle.batch_log.specs.Log.{most_calls}
use Rattle.batch_log.specs.Taken.{IsFirstLine, LosesFirst, SaysCall, TakesCalls}
use Rattle.batch_log.proofs.Batches.{each_push}

-- ---- one line

no_newline_one : (line : List ℕ) → has_newline line ≡ false → length (lines_of line) ≤ 1
no_newline_one [] h = omega arith
no_newline_one (b ∷ line) h = rw (lines_of-last b line h) (omega arith)

newline_one : (line : List ℕ) → has_newline line ≡ false → length (lines_of (line ++ newline ∷ [])) ≤ 1
newline_one line h = rw (lines_of-newline line [] h) (omega arith)

pub first_line : (a b : Option (List ℕ)) (p q : Position) (bare : Bool) (line : List ℕ) → TakesLine a b p q bare line → Passes (IsFirstLine line) a b
first_line a b p q bare line t = elim t.1 [
  | inl takes ↦ Passes-from_consumes (IsFirstLine line) a b (line ++ newline ∷ []) (λ ys. (t.0, inl (append_assoc line (newline ∷ []) ys))) takes.1.0
  | inr last ↦ Passes-at_end (IsFirstLine line) a b line (t.0, inr (last.1, refl, refl)) last.2.0 last.3
]

pub lost_line : (failed : Bool) (a b : Option (List ℕ)) (p q : Position) → LosesLine a b p q → Passes (LosesFirst failed) a b
lost_line failed a b p q t = Passes-from_consumes (LosesFirst failed) a b t.0 (λ ys. (t.0, refl, no_newline_one t.0 t.1, λ _. t.1)) t.2.0

lost_first : (line text rest : List ℕ) → IsFirstLine line text rest → LosesFirst false text rest
lost_first line text rest h = elim h.1 [
  | inl e ↦ (line ++ newline ∷ [], e ∙ sym (append_assoc line (newline ∷ []) rest), newline_one line h.0, λ f. absurd cc)
  | inr e ↦ (line, e.1 ∙ sym (append-nil line) ∙ ap (λ l. line ++ l) (sym e.2), no_newline_one line h.0, λ f. absurd cc)
]

pub lost_whole : (failed : Bool) (a b : Option (List ℕ)) (p q : Position) (bare : Bool) (line : List ℕ) → failed ≡ false → TakesLine a b p q bare line → Passes (LosesFirst failed) a b
lost_whole failed a b p q bare line e t = rw e (Passes-weaken _ _ a b (first_line a b p q bare line t) (λ x y h. lost_first line x y h))

-- ---- the lines of calls so far

-- whole lines that are calls, and perhaps a last one without its newline
pub record CallsSoFar (procs : List ProcParts) (calls : ℕ) (text rest : List ℕ) : Type 0 where
  pub lines : List (List ℕ)
  pub last : List ℕ
  pub taken : text ≡ joined lines ++ (last ++ rest)
  pub calls_said : AllByRecursion (SaysCall procs) lines
  pub count : length lines ≤ calls
  pub whole : has_newline last ≡ false
  pub open_end : (last ≡ []) ⊎ (rest ≡ [])

pub CallsSoFar-none : (procs : List ProcParts) (text : List ℕ) → CallsSoFar procs 0 text text
CallsSoFar-none procs text = record { lines = []; last = []; taken = refl; calls_said = tt; count = omega arith; whole = refl; open_end = inl refl }

joined-push : (lines : List (List ℕ)) (line rest : List ℕ) → joined (lines ++ line ∷ []) ++ rest ≡ joined lines ++ (line ++ newline ∷ rest)
joined-push [] line rest = rw (append-nil, append_assoc) refl
joined-push (l ∷ lines) line rest =
    append_assoc (l ++ newline ∷ []) (joined (lines ++ line ∷ [])) rest ∙ ap (λ x. (l ++ newline ∷ []) ++ x) (joined-push lines line rest)
    ∙ sym (append_assoc (l ++ newline ∷ []) (joined lines) (line ++ newline ∷ rest))

no_line : (line rest : List ℕ) → [] ≡ line ++ newline ∷ rest → ⊥
no_line [] rest e = cc
no_line (b ∷ line) rest e = cc

none_first : (line text rest : List ℕ) → text ≡ [] → IsFirstLine line text rest → ⊥
none_first line text rest e h = elim h.1 [
  | inl f ↦ no_line line rest (sym e ∙ f)
  | inr f ↦ let none : line ≡ [] = sym f.1 ∙ e in absurd (empty line none f.0)
]
  where
    empty : (l : List ℕ) → l ≡ [] → 0 < length l → ⊥
    empty l n some = let less : 0 < length {A = ℕ} [] = rw n at some in omega (arith, less)

more_calls : (a b c : ℕ) → a ≤ b → c ≡ b + 1 → a ≤ c
more_calls a b c h e = omega arith

push_call : (procs : List ProcParts) (calls : ℕ) (line text mid rest : List ℕ) (c : requests.Call) (s : CallsSoFar procs calls text mid) → s.last ≡ [] →
    IsFirstLine line mid rest → line_said procs line ≡ Ok (Call c) → CallsSoFar procs (calls + 1) text rest
push_call procs calls line text mid rest c s none h said = elim h.1 [
  | inl e ↦ record {
    lines = s.lines ++ line ∷ [];
    last = [];
    taken = s.taken ∙ ap (λ l. joined s.lines ++ (l ++ mid)) none ∙ ap (λ x. joined s.lines ++ x) e ∙ sym (joined-push s.lines line rest);
    calls_said = each_push (SaysCall procs) s.lines line s.calls_said (h.0, c, said);
    count = rw length-append (one_more (length s.lines) calls s.count);
    whole = refl;
    open_end = inl refl;
  }
  | inr e ↦ record {
    lines = s.lines;
    last = line;
    taken = s.taken ∙ ap (λ l. joined s.lines ++ (l ++ mid)) none ∙ ap (λ x. joined s.lines ++ x) (e.1 ∙ sym (append-nil line) ∙ ap (λ l. line ++ l) (sym e.2));
    calls_said = s.calls_said;
    count = more_calls (length s.lines) calls (calls + 1) s.count refl;
    whole = h.0;
    open_end = inr e.2;
  }
]
  where
    one_more : (a b : ℕ) → a ≤ b → a + 1 ≤ b + 1
    one_more a b h = omega arith

pub CallsSoFar-push : (procs : List ProcParts) (calls more : ℕ) (line text mid rest : List ℕ) (c : requests.Call) → more ≡ calls + 1 → CallsSoFar procs calls text mid →
    IsFirstLine line mid rest → line_said procs line ≡ Ok (Call c) → CallsSoFar procs more text rest
CallsSoFar-push procs calls more line text mid rest c e s h said = rw e (elim s.open_end [
  | inl none ↦ push_call procs calls line text mid rest c s none h said
  | inr none ↦ absurd (none_first line mid rest none h)
])

-- ---- how a call ends

ends_with : {retries : ℕ} (procs : List ProcParts) (total calls : ℕ) (failed : Bool) (text mid rest last : List ℕ) (s : CallsSoFar procs calls text mid) →
    s.last ++ mid ≡ last ++ rest → length (lines_of last) ≤ 1 → (failed ≡ true → has_newline last ≡ false) → calls ≤ 4096 → total + calls ≤ most_calls retries → TakesCalls retries procs total failed text rest
ends_with {retries = retries} procs total calls failed text mid rest last s e one broken few room = record {
  lines = s.lines;
  last = last;
  taken = s.taken ∙ ap (λ x. joined s.lines ++ x) e;
  calls = s.calls_said;
  few = below (length s.lines) calls s.count few;
  room = below_sum total (length s.lines) calls s.count room;
  one = one;
  broken = broken;
}
  where
    below : (a b : ℕ) → a ≤ b → b ≤ 4096 → a ≤ 4096
    below a b h k = omega arith

    below_sum : (t a b : ℕ) → a ≤ b → t + b ≤ most_calls retries → t + a ≤ most_calls retries
    below_sum t a b h k = omega arith

-- with all or a beginning of one more line
pub TakesCalls-lost : {retries : ℕ} (procs : List ProcParts) (total calls : ℕ) (failed : Bool) (text mid rest : List ℕ) → calls ≤ 4096 → total + calls ≤ most_calls retries →
    CallsSoFar procs calls text mid → LosesFirst failed mid rest → TakesCalls retries procs total failed text rest
TakesCalls-lost {retries = retries} procs total calls failed text mid rest few room s l = elim s.open_end [
  | inl none ↦ ends_with procs total calls failed text mid rest l.0 s (ap (λ x. x ++ mid) none ∙ l.1) l.2 l.3 few room
  | inr none ↦
      let gone : rest ≡ [] = nothing_after l.0 rest (sym l.1 ∙ none) in
      ends_with procs total calls failed text mid rest s.last s (ap (λ x. s.last ++ x) (none ∙ sym gone)) (no_newline_one s.last s.whole) (λ _. s.whole) few room
]
  where
    nothing_after : (xs ys : List ℕ) → xs ++ ys ≡ [] → ys ≡ []
    nothing_after [] ys e = e
    nothing_after (x ∷ xs) ys e = absurd cc

-- with one more line
pub TakesCalls-line : {retries : ℕ} (procs : List ProcParts) (total calls : ℕ) (line text mid rest : List ℕ) → calls ≤ 4096 → total + calls ≤ most_calls retries →
    CallsSoFar procs calls text mid → IsFirstLine line mid rest → TakesCalls retries procs total false text rest
TakesCalls-line {retries = retries} procs total calls line text mid rest few room s h = TakesCalls-lost procs total calls false text mid rest few room s (lost_first line mid rest h)

-- with nothing
pub TakesCalls-end : {retries : ℕ} (procs : List ProcParts) (total calls : ℕ) (text mid rest : List ℕ) → calls ≤ 4096 → total + calls ≤ most_calls retries →
    CallsSoFar procs calls text mid → mid ≡ [] → rest ≡ [] → TakesCalls retries procs total false text rest
TakesCalls-end {retries = retries} procs total calls text mid rest few room s e f =
    ends_with procs total calls false text mid rest s.last s (ap (λ x. s.last ++ x) (e ∙ sym f)) (no_newline_one s.last s.whole) (λ _. s.whole) few room

-- a call that answers its fault again takes nothing
pub TakesCalls-none : {retries : ℕ} (procs : List ProcParts) (total : ℕ) (failed : Bool) (text : List ℕ) → total ≤ most_calls retries → TakesCalls retries procs total failed text text
TakesCalls-none {retries = retries} procs total failed text room = record { lines = []; last = []; taken = refl; calls = tt; few = omega arith; room = omega arith; one = omega arith; broken = λ _. refl }

pub room_for : (retries : ℕ) (a b t : ℕ) → t ≡ a + b → t ≤ most_calls retries → a + b ≤ most_calls retries
room_for retries a b t e h = omega arith
