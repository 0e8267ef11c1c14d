-- How the batches of a log follow from its lines, one at a time.
use Rattle.std.proofs.Common.{◌≡◌, ℕ, ◌+◌, ◌<◌, List, [], ◌∷◌, ◌++◌, append-nil, length, true, false, Option, None, Some, Result, Ok, Err, refl, sym, ◌∙◌, ap, arith}
use Rattle.std.specs.List.{AllByRecursion}
use Rattle.std.proofs.lemmas.List.{nil_from_length}
use Rattle.requests.specs.Requests as requests
use Rattle.batch_log.specs.declared.fault.LogFaultKind.{LogFaultKind}
use Rattle.batch_log.specs.declared.fault.LogFaultKind.TheVariants.{BatchTooLong}
use Rattle.batch_log.specs.declared.fault.LogFault.{LogFault}
use Rattle.batch_log.specs.declared.line.LogLine.{LogLine}
use Rattle.batch_log.specs.declared.line.LogLine.TheVariants.{Call, Cut}
use Rattle.batch_log.specs.Lines.{Lines}
use Rattle.batch_log.specs.Log.{batches_of, before_batches, cut_apart, first_fault, into_first, is_room, last_batch, limited, or_fault, whole_batches, within, IsEnd, IsFault, IsNextBatch}

abbrev Calls : Type 0
Calls = List requests.Call

-- ---- calls before batches

-- calls go into the first batch
abbrev pub into : List requests.Call → List (List requests.Call) → List (List requests.Call)
into [] batches = batches
into (c ∷ calls) batches = into_first c (into calls batches)

into-append : (calls : Calls) (c : requests.Call) (batches : List Calls) → into (calls ++ c ∷ []) batches ≡ into calls (into_first c batches)
into-append [] c batches = refl
into-append (d ∷ calls) c batches = ap (into_first d) (into-append calls c batches)

into-first : (calls first : Calls) (batches : List Calls) → into calls (first ∷ batches) ≡ (calls ++ first) ∷ batches
into-first [] first batches = refl
into-first (c ∷ calls) first batches = ap (into_first c) (into-first calls first batches)

into-cut : (calls : Calls) (batches : List Calls) → into calls ([] ∷ batches) ≡ calls ∷ batches
into-cut calls batches = into-first calls [] batches ∙ ap (λ first. first ∷ batches) (append-nil calls)

-- there is one list more than there are cuts
record Some_batches (batches : List Calls) : Type 0 where
  first : Calls
  rest : List Calls
  are : batches ≡ first ∷ rest

into_some : (c : requests.Call) (batches : List Calls) → Some_batches batches → Some_batches (into_first c batches)
into_some c batches s = record { first = c ∷ s.first; rest = s.rest; are = ap (into_first c) s.are }

before_some : (said : Result LogLine LogFaultKind) (batches : List Calls) → Some_batches batches → Some_batches (before_batches said batches)
before_some (Ok (Call c)) batches s = into_some c batches s
before_some (Ok Cut) batches s = record { first = []; rest = batches; are = refl }
before_some (Err kind) batches s = record { first = []; rest = []; are = refl }

cut_some : (lines : Lines) → Some_batches (cut_apart lines)
cut_some [] = record { first = []; rest = []; are = refl }
cut_some (line ∷ rest) = before_some line.1 (cut_apart rest) (cut_some rest)

whole_first : (fault : Option LogFault) (calls : Calls) (batches : List Calls) → Some_batches batches → whole_batches fault (calls ∷ batches) ≡ calls ∷ whole_batches fault batches
whole_first fault calls batches s = rw s.are refl

-- ---- from one place of a log to another

-- from one place of a log to another only these calls stand
pub record Reads (es : Lines) (calls : List requests.Call) (rest : Lines) : Type 0 where
  pub calls_read : cut_apart es ≡ into calls (cut_apart rest)
  pub fault : first_fault es ≡ first_fault rest

pub Reads-none : (es : Lines) → Reads es [] es
Reads-none es = record { calls_read = refl; fault = refl }

pub Reads-step : (es mid rest : Lines) (calls : List requests.Call) (n : ℕ) (c : requests.Call) (said : Result LogLine LogFaultKind) →
    said ≡ Ok (Call c) → Reads es calls mid → mid ≡ (n, said) ∷ rest → Reads es (calls ++ c ∷ []) rest
Reads-step es mid rest calls n c said e r q = record {
  calls_read = r.calls_read ∙ ap (λ x. into calls (cut_apart x)) q ∙ ap (λ x. into calls (before_batches x (cut_apart rest))) e ∙ sym (into-append calls c (cut_apart rest));
  fault = r.fault ∙ ap first_fault q ∙ ap (λ x. or_fault n x (first_fault rest)) e;
}

pub Reads-call : (retries : ℕ) (es mid rest : Lines) (calls more : List requests.Call) (n k total : ℕ) (c : requests.Call) → is_room retries (length calls) total ≡ true →
    more ≡ calls ++ c ∷ [] → k ≡ length calls + 1 →
    Reads es calls (limited retries (length calls) total mid) → mid ≡ (n, Ok (Call c)) ∷ rest → Reads es more (limited retries k (total + 1) rest)
Reads-call retries es mid rest calls more n k total c room pushed one r q =
    rw (pushed, one) (Reads-step es (limited retries (length calls) total mid) (limited retries (length calls + 1) (total + 1) rest) calls n c
    (within retries (length calls) total (Ok (Call c))) (rw room refl) r (ap (λ x. limited retries (length calls) total x) q))

pub NextBatch-step : (es mid rest : Lines) (calls : List requests.Call) (n : ℕ) →
    Reads es calls mid → mid ≡ (n, Ok Cut) ∷ rest → IsNextBatch es calls rest
NextBatch-step es mid rest calls n r q =
    let fault : first_fault es ≡ first_fault rest = r.fault ∙ ap first_fault q in
    let apart : cut_apart es ≡ calls ∷ cut_apart rest = r.calls_read ∙ ap (λ x. into calls (cut_apart x)) q ∙ into-cut calls (cut_apart rest) in
    record {
      batches = ap (λ f. whole_batches f (cut_apart es)) fault ∙ ap (whole_batches (first_fault rest)) apart ∙ whole_first (first_fault rest) calls (cut_apart rest) (cut_some rest);
      fault = fault;
    }

pub NextBatch-cut : (retries : ℕ) (es mid rest : Lines) (calls : List requests.Call) (n k total : ℕ) →
    Reads es calls (limited retries k total mid) → mid ≡ (n, Ok Cut) ∷ rest → IsNextBatch es calls (limited retries 0 total rest)
NextBatch-cut retries es mid rest calls n k total r q = NextBatch-step es (limited retries k total mid) (limited retries 0 total rest) calls n r (ap (λ x. limited retries k total x) q)

pub Fault-step : (es mid rest : Lines) (calls : List requests.Call) (n : ℕ) (kind : LogFaultKind) (said : Result LogLine LogFaultKind) →
    said ≡ Err kind → Reads es calls mid → mid ≡ (n, said) ∷ rest → IsFault es (record { kind = kind; line = n })
Fault-step es mid rest calls n kind said e r q =
    let first : first_fault es ≡ Some (record { kind = kind; line = n }) = r.fault ∙ ap first_fault q ∙ ap (λ x. or_fault n x (first_fault rest)) e in
    let apart : cut_apart es ≡ calls ∷ [] = r.calls_read ∙ ap (λ x. into calls (cut_apart x)) q ∙ ap (λ x. into calls (before_batches x (cut_apart rest))) e ∙ into-cut calls [] in
    record { batches = ap (λ f. whole_batches f (cut_apart es)) first ∙ ap (whole_batches (Some (record { kind = kind; line = n }))) apart; first = first }

pub Fault-of_line : (retries : ℕ) (es mid rest : Lines) (calls : List requests.Call) (n k total : ℕ) (kind : LogFaultKind) →
    Reads es calls (limited retries k total mid) → mid ≡ (n, Err kind) ∷ rest → IsFault es (record { kind = kind; line = n })
Fault-of_line retries es mid rest calls n k total kind r q =
    Fault-step es (limited retries k total mid) (limited retries k total rest) calls n kind (Err kind) refl r (ap (λ x. limited retries k total x) q)

pub Fault-too_long : (retries : ℕ) (es mid rest : Lines) (calls : List requests.Call) (n k total : ℕ) (c : requests.Call) → is_room retries k total ≡ false →
    Reads es calls (limited retries k total mid) → mid ≡ (n, Ok (Call c)) ∷ rest → IsFault es (record { kind = BatchTooLong; line = n })
Fault-too_long retries es mid rest calls n k total c room r q =
    Fault-step es (limited retries k total mid) (limited retries (k + 1) (total + 1) rest) calls n BatchTooLong (within retries k total (Ok (Call c))) (rw room refl) r (ap (λ x. limited retries k total x) q)

-- ---- the end

last_some : (calls : Calls) → 0 < length calls → last_batch None calls ≡ calls ∷ []
last_some [] h = absurd (omega arith)
last_some (c ∷ calls) h = refl

at_end : (es mid : Lines) (calls : Calls) → Reads es calls mid → mid ≡ [] → (first_fault es ≡ None) × (batches_of es ≡ last_batch None calls)
at_end es mid calls r q =
    let fault : first_fault es ≡ None = r.fault ∙ ap first_fault q in
    let apart : cut_apart es ≡ calls ∷ [] = r.calls_read ∙ ap (λ x. into calls (cut_apart x)) q ∙ into-cut calls [] in
    (fault, ap (λ f. whole_batches f (cut_apart es)) fault ∙ ap (whole_batches None) apart)

pub NextBatch-last : (es mid : Lines) (calls : List requests.Call) → 0 < length calls → Reads es calls mid → mid ≡ [] → IsNextBatch es calls []
NextBatch-last es mid calls some r q =
    let end = at_end es mid calls r q in
    record { batches = end.1 ∙ last_some calls some; fault = end.0 }

pub NextBatch-end : (retries : ℕ) (es mid : Lines) (calls : List requests.Call) (k total : ℕ) → 0 < length calls →
    Reads es calls (limited retries k total mid) → mid ≡ [] → IsNextBatch es calls []
NextBatch-end retries es mid calls k total some r q = NextBatch-last es (limited retries k total mid) calls some r (ap (λ x. limited retries k total x) q)

pub IsEnd-here : (retries : ℕ) (es mid : Lines) (calls : List requests.Call) (k total : ℕ) → length calls ≡ 0 →
    Reads es calls (limited retries k total mid) → mid ≡ [] → IsEnd es
IsEnd-here retries es mid calls k total none r q =
    let end = at_end es (limited retries k total mid) calls r (ap (λ x. limited retries k total x) q) in
    record { batches = end.1 ∙ ap (last_batch None) (nil_from_length calls none); fault = end.0 }

-- what holds of each call so far and of one more
pub each_push : {X : Type 0} (P : X → Type 0) (xs : List X) (x : X) → AllByRecursion P xs → P x → AllByRecursion P (xs ++ x ∷ [])
each_push P [] x h p = (p, tt)
each_push P (y ∷ ys) x h p = (h.0, each_push P ys x h.1 p)
