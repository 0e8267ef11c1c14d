-- What a log says to procedures that differ as values of the code, and have the same syntax.
use Rattle.std.proofs.Common.{◌≡◌, ℕ, Bool, true, false, cond, List, [], ◌∷◌, map, Option, Some, None, Result, Ok, Err, refl, sym, ap, ◌∙◌, subst}
use Rattle.std.specs.Prelude.{⊤, if◌then◌else◌}
use Rattle.std.specs.Str.{bytes_eq, is_utf8}
use Rattle.serde_json.specs.Data.{Data}
use Rattle.serde_json.specs.Read.{read}
use Rattle.documents.specs.Reading.{◌>>=◌, formed, rule}
use Rattle.devices.specs.Lines.{numbered_lines}
use Rattle.values.specs.declared.value.Value.{Value}
use Rattle.catalogue.specs.Said.{values_said}
use Rattle.catalogue.specs.Shapes.{TableShape}
use Rattle.proclang_types.specs.Procedures.{ProcParts, proc_syntax}
use Rattle.proclang_types.specs.Syntax.{ProcSyntax}
use Rattle.requests.specs.ProcLists.{AreOver, proc_named}
use Rattle.requests.specs.Requests as requests
use Rattle.batch_log.specs.declared.fault.LogFault.{LogFault}
use Rattle.batch_log.specs.declared.fault.LogFaultKind.{LogFaultKind}
use Rattle.batch_log.specs.declared.fault.LogFaultKind.TheVariants.{Args, BatchTooLong, NotJson, Shape, UnknownProc}
use Rattle.batch_log.specs.declared.line.LogLine.{LogLine}
use Rattle.batch_log.specs.declared.line.LogLine.TheVariants.{Call, Cut}
use Rattle.batch_log.specs.Forms.{Form, call_form, cut_form, line_form}
use Rattle.batch_log.specs.Lines.{Lines, all_fit, call_said, document_said, form_said, line_said, lines_said}
use Rattle.batch_log.specs.Log.{batches_of, before_batches, calls_after, cut_apart, first_fault, into_first, is_room, last_batch, limited, log_said, or_fault, total_after, whole_batches, within}
use Rattle.moved_rows.proofs.Pairs.{Pairs}

-- ---- procedures and calls

-- over the same tables, and of the same syntax
pub record AreSameProc (p q : ProcParts) : Type 0 where
  pub tables : p.tables ≡ q.tables
  pub syntax : proc_syntax p ≡ proc_syntax q

-- of such procedures, with the same values
pub record AreSameCall (c d : requests.Call) : Type 0 where
  pub proc : AreSameProc c.proc d.proc
  pub args : c.args ≡ d.args

head_is : {A : Type 0} (x y : A) (xs ys : List A) → x ∷ xs ≡ y ∷ ys → x ≡ y
head_is x y xs ys e = cc

tail_is : {A : Type 0} (x y : A) (xs ys : List A) → x ∷ xs ≡ y ∷ ys → xs ≡ ys
tail_is x y xs ys e = cc

pub same_procs : (tables : List TableShape) (ps qs : List ProcParts) → AreOver tables ps → AreOver tables qs → map proc_syntax ps ≡ map proc_syntax qs → Pairs AreSameProc ps qs
same_procs tables [] [] h k e = tt
same_procs tables [] (q ∷ qs) h k e = absurd cc
same_procs tables (p ∷ ps) [] h k e = absurd cc
same_procs tables (p ∷ ps) (q ∷ qs) h k e = (
  record { tables = h.0 ∙ sym k.0; syntax = head_is (proc_syntax p) (proc_syntax q) (map proc_syntax ps) (map proc_syntax qs) e },
  same_procs tables ps qs h.1 k.1 (tail_is (proc_syntax p) (proc_syntax q) (map proc_syntax ps) (map proc_syntax qs) e),
)

-- ---- lines

abbrev Said : Type 0
Said = Result LogLine LogFaultKind

abbrev AreSameLine : LogLine → LogLine → Type 0
AreSameLine (Call c) (Call d) = AreSameCall c d
AreSameLine (Call c) Cut = ⊥
AreSameLine Cut (Call d) = ⊥
AreSameLine Cut Cut = ⊤

abbrev AreSameSaid : Said → Said → Type 0
AreSameSaid (Ok a) (Ok b) = AreSameLine a b
AreSameSaid (Ok a) (Err l) = ⊥
AreSameSaid (Err k) (Ok b) = ⊥
AreSameSaid (Err k) (Err l) = k ≡ l

abbrev AreSameFound : Option ProcParts → Option ProcParts → Type 0
AreSameFound (Some p) (Some q) = AreSameProc p q
AreSameFound (Some p) None = ⊥
AreSameFound None (Some q) = ⊥
AreSameFound None None = ⊤

found_same : (name : List ℕ) (ps qs : List ProcParts) → Pairs AreSameProc ps qs → AreSameFound (proc_named ps name) (proc_named qs name)
found_same name [] [] h = tt
found_same name [] (q ∷ qs) h = absurd h
found_same name (p ∷ ps) [] h = absurd h
found_same name (p ∷ ps) (q ∷ qs) h = by (bytes_eq name p.name) (bytes_eq name q.name) (ap (λ (s : ProcSyntax). bytes_eq name s.name) h.0.syntax) (found_same name ps qs h.1)
  where
    by : (b c : Bool) → b ≡ c → AreSameFound (proc_named ps name) (proc_named qs name) → AreSameFound (cond b (Some p) (proc_named ps name)) (cond c (Some q) (proc_named qs name))
    by true true e rest = h.0
    by false false e rest = rest
    by true false e rest = absurd cc
    by false true e rest = absurd cc

-- a call of the procedure that was found with the values that were said, where they fit
abbrev call_where : Bool → ProcParts → List Value → Result requests.Call LogFaultKind
call_where fit proc args = do
  _ ← rule fit Args
  Ok (record { proc = proc; args = args })

abbrev call_in : Option ProcParts → Option (List Value) → Result requests.Call LogFaultKind
call_in found said = do
  proc ← formed UnknownProc found
  args ← formed Args said
  call_where (all_fit proc.params args) proc args

call_is : (procs : List ProcParts) (name : List ℕ) (ds : List Data) → call_said procs name ds ≡ call_in (proc_named procs name) (values_said ds)
unfolding call_said
call_is procs name ds = refl

abbrev line_of : Result requests.Call LogFaultKind → Said
line_of r = r >>= (λ call. Ok (Call call))

where_same : (b c : Bool) (p q : ProcParts) (args : List Value) → b ≡ c → AreSameProc p q → AreSameSaid (line_of (call_where b p args)) (line_of (call_where c q args))
where_same true true p q args e h = record { proc = h; args = refl }
where_same false false p q args e h = refl
where_same true false p q args e h = absurd cc
where_same false true p q args e h = absurd cc

in_same : (o p : Option ProcParts) (said : Option (List Value)) → AreSameFound o p → AreSameSaid (line_of (call_in o said)) (line_of (call_in p said))
in_same None None said h = refl
in_same None (Some q) said h = absurd h
in_same (Some p) None said h = absurd h
in_same (Some p) (Some q) None h = refl
in_same (Some p) (Some q) (Some args) h = where_same (all_fit p.params args) (all_fit q.params args) p q args (ap (λ (s : ProcSyntax). all_fit s.params args) h.syntax) h

module _ (ps qs : List ProcParts) (same : Pairs AreSameProc ps qs) where
  form_same : (form : Form) → AreSameSaid (form_said ps form) (form_said qs form)
  form_same (call_form name ds) =
      subst (λ (r : Result requests.Call LogFaultKind). AreSameSaid (line_of r) (line_of (call_said qs name ds))) (sym (call_is ps name ds))
      (subst (λ (r : Result requests.Call LogFaultKind). AreSameSaid (line_of (call_in (proc_named ps name) (values_said ds))) (line_of r)) (sym (call_is qs name ds))
      (in_same (proc_named ps name) (proc_named qs name) (values_said ds) (found_same name ps qs same)))
  form_same cut_form = tt

  document_same : (o : Option Data) → AreSameSaid (document_said ps o) (document_said qs o)
  document_same None = refl
  document_same (Some d) = by (line_form d)
    where
      by : (form : Option Form) → AreSameSaid (formed Shape form >>= form_said ps) (formed Shape form >>= form_said qs)
      by None = refl
      by (Some form) = form_same form

  line_same : (line : List ℕ) → AreSameSaid (line_said ps line) (line_said qs line)
  unfolding line_said
  line_same line = by (is_utf8 line)
    where
      by : (b : Bool) → AreSameSaid (if b then document_said ps (read line) else Err NotJson) (if b then document_said qs (read line) else Err NotJson)
      by true = document_same (read line)
      by false = refl

  -- lines with the same numbers that say the same
  abbrev AreSameLines : Lines → Lines → Type 0
  AreSameLines xs ys = Pairs (λ x y. (x.0 ≡ y.0) × AreSameSaid x.1 y.1) xs ys

  lines_same : (numbered : List (ℕ × List ℕ)) → AreSameLines (map (λ line. (line.0, line_said ps line.1)) numbered) (map (λ line. (line.0, line_said qs line.1)) numbered)
  lines_same [] = tt
  lines_same (line ∷ rest) = ((refl, line_same line.1), lines_same rest)

  within_same : (retries calls total : ℕ) (r s : Said) → AreSameSaid r s → AreSameSaid (within retries calls total r) (within retries calls total s)
  within_same retries calls total (Ok (Call c)) (Ok (Call d)) h = by (is_room retries calls total)
    where
      by : (b : Bool) → AreSameSaid (if b then Ok (Call c) else Err BatchTooLong) (if b then Ok (Call d) else Err BatchTooLong)
      by true = h
      by false = refl
  within_same retries calls total (Ok (Call c)) (Ok Cut) h = absurd h
  within_same retries calls total (Ok Cut) (Ok (Call d)) h = absurd h
  within_same retries calls total (Ok Cut) (Ok Cut) h = tt
  within_same retries calls total (Ok a) (Err l) h = absurd h
  within_same retries calls total (Err k) (Ok b) h = absurd h
  within_same retries calls total (Err k) (Err l) h = h

  calls_same : (calls : ℕ) (r s : Said) → AreSameSaid r s → calls_after calls r ≡ calls_after calls s
  calls_same calls (Ok (Call c)) (Ok (Call d)) h = refl
  calls_same calls (Ok (Call c)) (Ok Cut) h = absurd h
  calls_same calls (Ok Cut) (Ok (Call d)) h = absurd h
  calls_same calls (Ok Cut) (Ok Cut) h = refl
  calls_same calls (Ok a) (Err l) h = absurd h
  calls_same calls (Err k) (Ok b) h = absurd h
  calls_same calls (Err k) (Err l) h = refl

  total_same : (total : ℕ) (r s : Said) → AreSameSaid r s → total_after total r ≡ total_after total s
  total_same total (Ok (Call c)) (Ok (Call d)) h = refl
  total_same total (Ok (Call c)) (Ok Cut) h = absurd h
  total_same total (Ok Cut) (Ok (Call d)) h = absurd h
  total_same total (Ok Cut) (Ok Cut) h = refl
  total_same total (Ok a) (Err l) h = absurd h
  total_same total (Err k) (Ok b) h = absurd h
  total_same total (Err k) (Err l) h = refl

  limited_same : (retries calls total : ℕ) (xs ys : Lines) → AreSameLines xs ys → AreSameLines (limited retries calls total xs) (limited retries calls total ys)
  limited_same retries calls total [] [] h = tt
  limited_same retries calls total [] (y ∷ ys) h = absurd h
  limited_same retries calls total (x ∷ xs) [] h = absurd h
  limited_same retries calls total (x ∷ xs) (y ∷ ys) h =
      let rest = limited retries (calls_after calls x.1) (total_after total x.1) xs in (
        (h.0.0, within_same retries calls total x.1 y.1 h.0.1),
        subst (λ (n : ℕ). AreSameLines rest (limited retries n (total_after total y.1) ys)) (calls_same calls x.1 y.1 h.0.1)
            (subst (λ (n : ℕ). AreSameLines rest (limited retries (calls_after calls x.1) n ys)) (total_same total x.1 y.1 h.0.1)
            (limited_same retries (calls_after calls x.1) (total_after total x.1) xs ys h.1)),
      )

  -- ---- faults and batches

  or_same : (m n : ℕ) (r s : Said) (later other : Option LogFault) → m ≡ n → AreSameSaid r s → later ≡ other → or_fault m r later ≡ or_fault n s other
  or_same m n (Ok a) (Ok b) later other e h k = k
  or_same m n (Ok a) (Err l) later other e h k = absurd h
  or_same m n (Err l) (Ok b) later other e h k = absurd h
  or_same m n (Err a) (Err b) later other e h k = λ i. Some (record { kind = h i; line = e i })

  fault_same : (xs ys : Lines) → AreSameLines xs ys → first_fault xs ≡ first_fault ys
  fault_same [] [] h = refl
  fault_same [] (y ∷ ys) h = absurd h
  fault_same (x ∷ xs) [] h = absurd h
  fault_same (x ∷ xs) (y ∷ ys) h = or_same x.0 y.0 x.1 y.1 (first_fault xs) (first_fault ys) h.0.0 h.0.1 (fault_same xs ys h.1)

  abbrev AreSameBatches : List (List requests.Call) → List (List requests.Call) → Type 0
  AreSameBatches bs cs = Pairs (Pairs AreSameCall) bs cs

  into_same : (c d : requests.Call) (bs cs : List (List requests.Call)) → AreSameCall c d → AreSameBatches bs cs → AreSameBatches (into_first c bs) (into_first d cs)
  into_same c d [] [] h k = ((h, tt), tt)
  into_same c d [] (y ∷ ys) h k = absurd k
  into_same c d (x ∷ xs) [] h k = absurd k
  into_same c d (x ∷ xs) (y ∷ ys) h k = ((h, k.0), k.1)

  before_same : (r s : Said) (bs cs : List (List requests.Call)) → AreSameSaid r s → AreSameBatches bs cs → AreSameBatches (before_batches r bs) (before_batches s cs)
  before_same (Ok (Call c)) (Ok (Call d)) bs cs h k = into_same c d bs cs h k
  before_same (Ok (Call c)) (Ok Cut) bs cs h k = absurd h
  before_same (Ok Cut) (Ok (Call d)) bs cs h k = absurd h
  before_same (Ok Cut) (Ok Cut) bs cs h k = (tt, k)
  before_same (Ok a) (Err l) bs cs h k = absurd h
  before_same (Err l) (Ok b) bs cs h k = absurd h
  before_same (Err a) (Err b) bs cs h k = (tt, tt)

  cut_same : (xs ys : Lines) → AreSameLines xs ys → AreSameBatches (cut_apart xs) (cut_apart ys)
  cut_same [] [] h = (tt, tt)
  cut_same [] (y ∷ ys) h = absurd h
  cut_same (x ∷ xs) [] h = absurd h
  cut_same (x ∷ xs) (y ∷ ys) h = before_same x.1 y.1 (cut_apart xs) (cut_apart ys) h.0.1 (cut_same xs ys h.1)

  last_same : (fault : Option LogFault) (b c : List requests.Call) → Pairs AreSameCall b c → AreSameBatches (last_batch fault b) (last_batch fault c)
  last_same (Some fault) b c h = tt
  last_same None [] [] h = tt
  last_same None [] (y ∷ ys) h = absurd h
  last_same None (x ∷ xs) [] h = absurd h
  last_same None (x ∷ xs) (y ∷ ys) h = (h, tt)

  whole_same : (fault : Option LogFault) (bs cs : List (List requests.Call)) → AreSameBatches bs cs → AreSameBatches (whole_batches fault bs) (whole_batches fault cs)
  whole_same fault [] [] h = tt
  whole_same fault [] (c ∷ cs) h = absurd h
  whole_same fault (b ∷ bs) [] h = absurd h
  whole_same fault (b ∷ []) (c ∷ []) h = last_same fault b c h.0
  whole_same fault (b ∷ []) (c ∷ e ∷ cs) h = absurd h.1
  whole_same fault (b ∷ d ∷ bs) (c ∷ []) h = absurd h.1
  whole_same fault (b ∷ d ∷ bs) (c ∷ e ∷ cs) h = (h.0, whole_same fault (d ∷ bs) (e ∷ cs) h.1)

  batches_same : (xs ys : Lines) → AreSameLines xs ys → AreSameBatches (batches_of xs) (batches_of ys)
  batches_same xs ys h =
      subst (λ (fault : Option LogFault). AreSameBatches (batches_of xs) (whole_batches fault (cut_apart ys))) (fault_same xs ys h)
      (whole_same (first_fault xs) (cut_apart xs) (cut_apart ys) (cut_same xs ys h))

  -- ---- logs

  log_lines_same : (retries : ℕ) (log : List ℕ) → AreSameLines (log_said retries ps 0 0 log) (log_said retries qs 0 0 log)
  log_lines_same retries log = limited_same retries 0 0 (lines_said ps 0 log) (lines_said qs 0 log) (lines_same (numbered_lines 0 log))

  pub log_fault_same : (retries : ℕ) (log : List ℕ) → first_fault (log_said retries ps 0 0 log) ≡ first_fault (log_said retries qs 0 0 log)
  log_fault_same retries log = fault_same (log_said retries ps 0 0 log) (log_said retries qs 0 0 log) (log_lines_same retries log)

  pub log_batches_same : (retries : ℕ) (log : List ℕ) → Pairs (Pairs AreSameCall) (batches_of (log_said retries ps 0 0 log)) (batches_of (log_said retries qs 0 0 log))
  log_batches_same retries log = batches_same (log_said retries ps 0 0 log) (log_said retries qs 0 0 log) (log_lines_same retries log)
