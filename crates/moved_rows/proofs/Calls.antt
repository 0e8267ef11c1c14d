-- Calls that a log's lines say are calls of the procedures, with values that columns can hold.
use Rattle.std.proofs.Common.{◌≡◌, ℕ, Bool, true, false, cond, List, [], ◌∷◌, length, map, find, zip, Option, Some, None, Result, Ok, Err, refl, sym, ap, ◌∙◌, subst}
use Rattle.std.specs.Prelude.{⊤, nat_eq, if◌then◌else◌}
use Rattle.std.specs.List.{AllByRecursion, list_all}
use Rattle.std.proofs.lemmas.Bool.{and_parts, eqb-true}
use Rattle.serde_json.specs.Data.{Data}
use Rattle.devices.specs.Lines.{numbered_lines}
use Rattle.values.specs.declared.value.ColType.{ColType}
use Rattle.values.specs.declared.value.ColType.TheVariants as types
use Rattle.values.specs.declared.value.Value.{Value}
use Rattle.values.specs.declared.value.Value.TheVariants as values
use Rattle.values.specs.Database.{Database}
use Rattle.values.specs.Rows.{type_of}
use Rattle.catalogue.specs.Shapes.{TableShape}
use Rattle.proclang_types.specs.Procedures.{ProcParts, proc_syntax}
use Rattle.proclang_types.specs.Syntax.{ParamShape, ProcSyntax, block_of}
use Rattle.proclang_types.specs.Typing.{ProcFits, kinds_of}
use Rattle.requests.specs.ProcLists.{AreOver}
use Rattle.requests.specs.Requests as requests
use Rattle.requests.specs.Requests.{fits}
use Rattle.row_text.specs.Calls.{IsCallOver}
use Rattle.sequencer.specs.Entries.{prepared}
use Rattle.batch_log.specs.declared.fault.LogFault.{LogFault}
use Rattle.batch_log.specs.declared.fault.LogFaultKind.{LogFaultKind}
use Rattle.batch_log.specs.declared.fault.LogFaultKind.TheVariants.{BatchTooLong}
use Rattle.batch_log.specs.declared.line.LogLine.{LogLine}
use Rattle.batch_log.specs.declared.line.LogLine.TheVariants.{Call, Cut}
use Rattle.batch_log.specs.Forms.{Form, call_form, cut_form}
use Rattle.batch_log.specs.LineRules.{SaysForm, SaysLine, SpellsLine}
use Rattle.batch_log.specs.Lines.{Lines, all_fit, line_said, lines_said}
use Rattle.batch_log.specs.Log.{batches_of, before_batches, calls_after, cut_apart, first_fault, into_first, is_room, last_batch, limited, log_said, total_after, whole_batches, within}
use Rattle.batch_log.proofs.LineLaws.{line_is_exact}
use Rattle.rows_document.specs.Said.{IsValue}
use Rattle.moved_rows.specs.Stored.{AllStoreValues, IsValueCall}
use Rattle.moved_rows.proofs.Documents.{each_sound, said_values}
use Rattle.moved_rows.proofs.JsonData.{IsSound, read_sound}

-- ---- procedures and calls

-- a procedure of the tables
pub record IsSaidProc (tables : List TableShape) (p : ProcParts) : Type 0 where
  pub over : p.tables ≡ tables
  pub fits : ProcFits tables (proc_syntax p)
  pub stores : AllStoreValues (block_of (proc_syntax p).body)

-- a call of such a procedure
pub record IsSaidCall (tables : List TableShape) (call : requests.Call) : Type 0 where
  pub proc : IsSaidProc tables call.proc
  pub kinds : map type_of call.args ≡ kinds_of call.proc.params
  pub args : AllByRecursion IsValue call.args

pub said_procs : (tables : List TableShape) (ps : List ProcParts) → AreOver tables ps → AllByRecursion (ProcFits tables) (map proc_syntax ps) → AllByRecursion (λ (p : ProcSyntax). AllStoreValues (block_of p.body)) (map proc_syntax ps)
    → AllByRecursion (IsSaidProc tables) ps
said_procs tables [] over fit store = tt
said_procs tables (p ∷ ps) over fit store = (record { over = over.0; fits = fit.0; stores = store.0 }, said_procs tables ps over.1 fit.1 store.1)

-- its entry on any database
pub call_over : (tables : List TableShape) (db : Database) (call : requests.Call) → IsSaidCall tables call → IsCallOver tables (prepared db call)
call_over tables db call h = record {
  over = h.proc.over;
  proc = proc_syntax call.proc;
  call = record { fits = subst (λ (ts : List TableShape). ProcFits ts (proc_syntax call.proc)) (sym h.proc.over) h.proc.fits; body = refl; arguments = h.kinds };
}

pub call_value : (tables : List TableShape) (db : Database) (call : requests.Call) → IsSaidCall tables call → IsValueCall (prepared db call)
call_value tables db call h = record { arguments = h.args; body = h.proc.stores }

found_holds : {A : Type 0} (P : A → Type 0) (test : A → Bool) (xs : List A) (x : A) → AllByRecursion P xs → find test xs ≡ Some x → P x
found_holds P test [] x h e = absurd cc
found_holds P test (y ∷ ys) x h e = by (test y) refl e (found_holds P test ys x h.1)
  where
    by : (b : Bool) → test y ≡ b → cond b (Some y) (find test ys) ≡ Some x → (find test ys ≡ Some x → P x) → P x
    by true is k later = let same : y ≡ x = cc in subst P same h.0
    by false is k later = later k

-- ---- arguments

one_fits : (kind : ColType) (v : Value) → fits kind v ≡ true → type_of v ≡ kind
one_fits types.Int (values.Int z) e = refl
one_fits types.Text (values.Text s) e = refl
one_fits types.Int (values.Text s) e = absurd cc
one_fits types.Text (values.Int z) e = absurd cc

kinds_fit : (ps : List ParamShape) (vs : List Value) → length vs ≡ length ps → list_all (λ p. fits p.0.kind p.1) (zip ps vs) ≡ true → map type_of vs ≡ kinds_of ps
kinds_fit [] [] long e = refl
kinds_fit [] (v ∷ vs) long e = absurd cc
kinds_fit (p ∷ ps) [] long e = absurd cc
kinds_fit (p ∷ ps) (v ∷ vs) long e =
    let both = and_parts (fits p.kind v) (list_all (λ p. fits p.0.kind p.1) (zip ps vs)) e in
    ap (λ (k : ColType). k ∷ map type_of vs) (one_fits p.kind v both.0) ∙ ap (λ (ks : List ColType). p.kind ∷ ks) (kinds_fit ps vs (cc) both.1)

kinds_of_args : (ps : List ParamShape) (vs : List Value) → all_fit ps vs ≡ true → map type_of vs ≡ kinds_of ps
kinds_of_args ps vs e =
    let both = and_parts (nat_eq (length vs) (length ps)) (list_all (λ p. fits p.0.kind p.1) (zip ps vs)) e in
    kinds_fit ps vs (eqb-true (length vs) (length ps) both.0) both.1

-- ---- lines

-- what a line says, if it is a call, is such a call
abbrev pub IsSaidLine : List TableShape → LogLine → Type 0
IsSaidLine tables (Call call) = IsSaidCall tables call
IsSaidLine tables Cut = ⊤

abbrev pub IsSaid : List TableShape → Result LogLine LogFaultKind → Type 0
IsSaid tables (Ok said) = IsSaidLine tables said
IsSaid tables (Err kind) = ⊤

module _ (tables : List TableShape) (procs : List ProcParts) (are : AllByRecursion (IsSaidProc tables) procs) where
  form_is : (form : Form) (d : Data) (said : LogLine) → IsSound d → SpellsLine d form → SaysForm procs form said → IsSaidLine tables said
  form_is (call_form name ds) d said sound spells h =
      let parts = subst IsSound spells sound in
      let call : IsSaidCall tables h.0 = record {
        proc = found_holds (IsSaidProc tables) _ procs h.0.proc are h.1.is_proc;
        kinds = kinds_of_args h.0.proc.params h.0.args h.1.fit;
        args = said_values ds h.0.args (each_sound ds parts.1.1.0) h.1.are_values;
      } in
      subst (IsSaidLine tables) (sym h.2) call
  form_is cut_form d said sound spells h = subst (IsSaidLine tables) (sym h) tt

  says_line : (line : List ℕ) (said : LogLine) → SaysLine procs line said → IsSaidLine tables said
  says_line line said h = form_is h.form h.document said (read_sound line h.document h.utf8 h.json) h.is_form h.says

  pub line_is : (line : List ℕ) → IsSaid tables (line_said procs line)
  line_is line = by (line_said procs line) refl
    where
      by : (r : Result LogLine LogFaultKind) → line_said procs line ≡ r → IsSaid tables r
      by (Ok said) e = says_line line said ((line_is_exact procs line).found said e)
      by (Err kind) e = tt

  abbrev AreSaid : Lines → Type 0
  AreSaid lines = AllByRecursion (λ line. IsSaid tables line.1) lines

  all_lines : (numbered : List (ℕ × List ℕ)) → AreSaid (map (λ line. (line.0, line_said procs line.1)) numbered)
  all_lines [] = tt
  all_lines (line ∷ rest) = (line_is line.1, all_lines rest)

  within_said : (retries calls total : ℕ) (r : Result LogLine LogFaultKind) → IsSaid tables r → IsSaid tables (within retries calls total r)
  within_said retries calls total (Ok (Call call)) h = by (is_room retries calls total)
    where
      by : (b : Bool) → IsSaid tables (if b then Ok (Call call) else Err BatchTooLong)
      by true = h
      by false = tt
  within_said retries calls total (Ok Cut) h = tt
  within_said retries calls total (Err kind) h = tt

  limited_said : (retries calls total : ℕ) (lines : Lines) → AreSaid lines → AreSaid (limited retries calls total lines)
  limited_said retries calls total [] h = tt
  limited_said retries calls total (line ∷ rest) h =
      (within_said retries calls total line.1 h.0, limited_said retries (calls_after calls line.1) (total_after total line.1) rest h.1)

  -- ---- batches

  abbrev AreSaidBatches : List (List requests.Call) → Type 0
  AreSaidBatches batches = AllByRecursion (λ calls. AllByRecursion (IsSaidCall tables) calls) batches

  into_said : (call : requests.Call) (batches : List (List requests.Call)) → IsSaidCall tables call → AreSaidBatches batches → AreSaidBatches (into_first call batches)
  into_said call [] h k = ((h, tt), tt)
  into_said call (calls ∷ batches) h k = ((h, k.0), k.1)

  before_said : (r : Result LogLine LogFaultKind) (batches : List (List requests.Call)) → IsSaid tables r → AreSaidBatches batches → AreSaidBatches (before_batches r batches)
  before_said (Ok (Call call)) batches h k = into_said call batches h k
  before_said (Ok Cut) batches h k = (tt, k)
  before_said (Err kind) batches h k = (tt, tt)

  cut_said : (lines : Lines) → AreSaid lines → AreSaidBatches (cut_apart lines)
  cut_said [] h = (tt, tt)
  cut_said (line ∷ rest) h = before_said line.1 (cut_apart rest) h.0 (cut_said rest h.1)

  last_said : (fault : Option LogFault) (calls : List requests.Call) → AllByRecursion (IsSaidCall tables) calls → AreSaidBatches (last_batch fault calls)
  last_said (Some fault) calls h = tt
  last_said None [] h = tt
  last_said None (call ∷ calls) h = (h, tt)

  whole_said : (fault : Option LogFault) (batches : List (List requests.Call)) → AreSaidBatches batches → AreSaidBatches (whole_batches fault batches)
  whole_said fault [] h = tt
  whole_said fault (calls ∷ []) h = last_said fault calls h.0
  whole_said fault (calls ∷ next ∷ batches) h = (h.0, whole_said fault (next ∷ batches) h.1)

  -- the batches of a log
  pub log_batches : (retries newlines total : ℕ) (log : List ℕ) → AreSaidBatches (batches_of (log_said retries procs newlines total log))
  log_batches retries newlines total log =
      let lines = log_said retries procs newlines total log in
      whole_said (first_fault lines) (cut_apart lines) (cut_said lines (limited_said retries 0 total (lines_said procs newlines log) (all_lines (numbered_lines newlines log))))
