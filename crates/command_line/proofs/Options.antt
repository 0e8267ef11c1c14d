-- What the getters read of a command's arguments.
use Rattle.std.proofs.Common.{◌≡◌, ℕ, ◌<◌, ◌^◌, List, Bool, true, false, codes, string_bytes, Option, None, Some, Result, Ok, Err, refl, sym, ◌∙◌, ap, ap₂, subst}
use Rattle.std.specs.Option.{IfSome, IsNone, option_map}
use Rattle.std.specs.Result.{IfOk, IsOk, result_ok}
use Rattle.std.specs.Str.Parse.{digits_value, without_leading_plus, ExplainsUnsignedError, HasUnsignedDigitsIfOk, ParsesUnsigned}
use Rattle.std.specs.declared.num.ParseIntError.{ParseIntError}
use Rattle.clap.specs.Words.{ReadsOne, Row, Text, first_of, first_value, one_of, one_text, rows_of}
use Rattle.clap.specs.declared.parser.matches.Found.{Found}
use Rattle.clap.proofs.WalkLemmas.{first_value-rows, one_text-rows}
use Rattle.command_line.specs.CommandLine.{AreSettings, IsCommand, IsFlag, IsNumber}
use Rattle.dispatcher.specs.Ranges.{AreInRange}
use Rattle.command_line.specs.declared.command.Command.{Command}
use Rattle.command_line.specs.declared.command.Command.TheVariants.{Check, Filter, Locks, Replicas, Rows, Run}
use Rattle.dispatcher.specs.declared.settings.Settings.{Settings}

-- what reading a number from a text gives
abbrev Gives : List ℕ → Result ℕ ParseIntError → Type 0
Gives text r = ParsesUnsigned 64 10 text r × ExplainsUnsignedError 10 text r × HasUnsignedDigitsIfOk text r

-- a number that was read stands in the rows
number_at : (rows : List Row) (id : Text) (r : Option ℕ) (n : ℕ) (o : Option Text) → one_of id rows ≡ o →
    (o ≡ None → r ≡ None) → ((t : List ℕ) → o ≡ Some t → ReadsOne Gives t r) → r ≡ Some n → IsNumber rows id n
number_at rows id r n None at none value is =
    let bad : None ≡ Some n = sym (none refl) ∙ is in absurd cc
number_at rows id r n (Some t) at none value is =
    let read : Gives t (Ok n) = rw is at (value t refl) in
    record { text = t; given = at; numeral = read.0.0.0; value = read.0.1 }

pub number_read : (f : Found) (id : Text) (r : Option ℕ) (n : ℕ) →
    (one_text f id ≡ None → r ≡ None) → ((t : List ℕ) → one_text f id ≡ Some t → ReadsOne Gives t r) → r ≡ Some n → IsNumber (rows_of f) id n
number_read f id r n none value is =
    number_at (rows_of f) id r n (one_text f id) (sym (one_text-rows f id)) none value is

-- settings that were made of numbers that stand in the rows
pub settings_made : {E : Type 0} (rows : List Row) (r : Result Settings E) (o : Option Settings) (workers lanes threshold arena : ℕ) → o ≡ result_ok r →
    IfOk r (λ s. (s.workers ≡ workers) × (s.lanes ≡ lanes) × (s.threshold ≡ threshold) × (s.arena ≡ arena)) →
    IsNumber rows (codes "workers") workers → IsNumber rows (codes "lanes") lanes → IsNumber rows (codes "coarsen") threshold → IsNumber rows (codes "arena") arena →
    IfSome o (AreSettings rows)
settings_made rows (Ok s) o workers lanes threshold arena e same a b c d =
    let number : Text → ℕ → Type 0 = IsNumber rows in
    let made : AreSettings rows s = record {
      workers = subst (number (codes "workers")) (sym same.0) a;
      lanes = subst (number (codes "lanes")) (sym same.1) b;
      threshold = subst (number (codes "coarsen")) (sym same.2) c;
      arena = subst (number (codes "arena")) (sym same.3) d;
    } in
    rw e made
settings_made rows (Err x) o workers lanes threshold arena e same a b c d = rw e tt

-- a flag that was read stands in the rows
pub flag_read : (f : Found) (id : Text) (flag : Bool) → (one_text f id ≡ Some (codes "true") → flag ≡ true) → (one_text f id ≡ Some (codes "false") → flag ≡ false) →
    IsFlag (rows_of f) id flag
flag_read f id flag set unset = record {
  set = λ h. set (one_text-rows f id ∙ h);
  unset = λ h. unset (one_text-rows f id ∙ h);
}

-- a text that was read stands in the rows
pub text_read : (f : Found) (id path text : Text) → Some text ≡ first_value f id → path ≡ text → first_of id (rows_of f) ≡ Some path
text_read f id path text e same = sym (first_value-rows f id) ∙ sym e ∙ ap Some (sym same)

-- a name and rows that were each read stand together
pub name_with_rows : {B : Type 0} (both : B → Text × List Row) (o : Option B) (name : Text) (rows : List Row) →
    option_map (λ (b : B). (both b).0) o ≡ Some name → option_map (λ (p : Text × List Row). p.1) (option_map both o) ≡ Some rows →
    option_map both o ≡ Some (name, rows)
name_with_rows both None name rows e f = cc
name_with_rows both (Some b) name rows e f =
    let named : (both b).0 ≡ name = cc in
    let held : (both b).1 ≡ rows = cc in
    let pair : Text → List Row → Text × List Row = λ word all. (word, all) in
    ap Some (ap₂ pair named held)

-- ---- where a getter reads nothing

-- where no number was read, none stands in the rows
pub no_number : (f : Found) (id : Text) (r : Option ℕ) (n : ℕ) → ((t : List ℕ) → one_text f id ≡ Some t → ReadsOne Gives t r) → r ≡ None →
    n < 2 ^ 64 → IsNumber (rows_of f) id n → ⊥
no_number f id r n value none fits is =
    let unread : ReadsOne Gives is.text None = rw none at (value is.text (one_text-rows f id ∙ is.given)) in
    unread.1.0 (is.numeral, subst (λ (m : ℕ). m < 2 ^ 64) is.value fits)

-- an argument is one number
same_number : (rows : List Row) (id : Text) (n m : ℕ) → IsNumber rows id n → IsNumber rows id m → n ≡ m
same_number rows id n m p q =
    let number : Text → ℕ = λ t. digits_value 10 (without_leading_plus t) in
    let same : p.text ≡ q.text = cc (p.given, q.given) in
    p.value ∙ ap number same ∙ sym q.value

-- numbers that are settings are in range
in_range : (rows : List Row) (s : Settings) (workers lanes threshold arena : ℕ) →
    IsNumber rows (codes "workers") workers → IsNumber rows (codes "lanes") lanes → IsNumber rows (codes "coarsen") threshold → IsNumber rows (codes "arena") arena →
    AreSettings rows s → AreInRange workers lanes threshold arena
in_range rows s workers lanes threshold arena a b c d given =
    let e : workers ≡ s.workers = same_number _ _ _ _ a given.workers in
    let f : lanes ≡ s.lanes = same_number _ _ _ _ b given.lanes in
    let g : threshold ≡ s.threshold = same_number _ _ _ _ c given.threshold in
    let h : arena ≡ s.arena = same_number _ _ _ _ d given.arena in
    record {
      some_workers = rw e s.some_workers;
      few_workers = rw e s.few_workers;
      some_lanes = rw f s.some_lanes;
      few_lanes = rw f s.few_lanes;
      few_entries = rw g s.few_entries;
      some_requests = rw h s.some_requests;
      few_requests = rw h s.few_requests;
    }

not_made : {E : Type 0} (r : Result Settings E) (o : Option Settings) → o ≡ result_ok r → IsNone o → IsOk r → ⊥
not_made (Ok s) o e none ok = let bad : IsNone (Some s) = rw e at none in cc
not_made (Err x) o e none ok = cc

-- where no settings were made of the numbers, the rows give none
pub no_settings : {E : Type 0} (rows : List Row) (r : Result Settings E) (o : Option Settings) (workers lanes threshold arena : ℕ) → o ≡ result_ok r →
    (AreInRange workers lanes threshold arena → IsOk r) →
    IsNumber rows (codes "workers") workers → IsNumber rows (codes "lanes") lanes → IsNumber rows (codes "coarsen") threshold → IsNumber rows (codes "arena") arena →
    IsNone o → (s : Settings) → AreSettings rows s → ⊥
no_settings rows r o workers lanes threshold arena e accepted a b c d none s given =
    not_made r o e none (accepted (in_range rows s workers lanes threshold arena a b c d given))

-- an argument has one text or none
pub no_value : (rows : List Row) (id text : Text) → first_of id rows ≡ None → first_of id rows ≡ Some text → ⊥
no_value rows id text none is =
    let bad : None ≡ Some text = sym none ∙ is in absurd cc

-- where no text was read, the rows say none
pub none_read : (f : Found) (id : Text) → None ≡ first_value f id → first_of id (rows_of f) ≡ None
none_read f id none = sym (first_value-rows f id) ∙ sym none

-- where the rows have no setup they give no command
pub no_setup : (rows : List Row) (word : Text) (command : Command) → first_of (codes "setup") rows ≡ None → IsCommand word rows command → ⊥
no_setup rows word (Run input running) none asks = no_value rows (codes "setup") _ none asks.input_is.setup_is
no_setup rows word (Rows input running listing) none asks = no_value rows (codes "setup") _ none asks.input_is.setup_is
no_setup rows word (Filter setup) none asks = no_value rows (codes "setup") _ none asks.setup_is
no_setup rows word (Locks input) none asks = no_value rows (codes "setup") _ none asks.input_is.setup_is
no_setup rows word (Check input) none asks = no_value rows (codes "setup") _ none asks.input_is.setup_is
no_setup rows word (Replicas input progress report) none asks = no_value rows (codes "setup") _ none asks.input_is.setup_is

run_for_replicas : codes "replicas" ≡ codes "run" → ⊥
run_for_replicas e = cc

rows_for_replicas : codes "replicas" ≡ codes "rows" → ⊥
rows_for_replicas e = cc

filter_for_replicas : codes "replicas" ≡ codes "filter" → ⊥
filter_for_replicas e = cc

locks_for_replicas : codes "replicas" ≡ codes "locks" → ⊥
locks_for_replicas e = cc

check_for_replicas : codes "replicas" ≡ codes "check" → ⊥
check_for_replicas e = cc

-- where the rows have no report they give no comparison
pub no_report : (rows : List Row) (command : Command) → first_of (codes "report") rows ≡ None → IsCommand (codes "replicas") rows command → ⊥
no_report rows (Run input running) none asks = run_for_replicas asks.name
no_report rows (Rows input running listing) none asks = rows_for_replicas asks.name
no_report rows (Filter setup) none asks = filter_for_replicas asks.name
no_report rows (Locks input) none asks = locks_for_replicas asks.name_is
no_report rows (Check input) none asks = check_for_replicas asks.name_is
no_report rows (Replicas input progress report) none asks = no_value rows (codes "report") _ none asks.report_is

-- a word that is no command's name
pub no_command : (rows : List Row) (word : Text) (command : Command) → (word ≡ codes "run" → ⊥) → (word ≡ codes "rows" → ⊥) → (word ≡ codes "filter" → ⊥) → (word ≡ codes "replicas" → ⊥) → (word ≡ codes "locks" → ⊥) → (word ≡ codes "check" → ⊥) → IsCommand word rows command → ⊥
no_command rows word (Run input running) run lists filter replicas locks check asks = run asks.name
no_command rows word (Rows input running listing) run lists filter replicas locks check asks = lists asks.name
no_command rows word (Filter setup) run lists filter replicas locks check asks = filter asks.name
no_command rows word (Replicas input progress report) run lists filter replicas locks check asks = replicas asks.name
no_command rows word (Locks input) run lists filter replicas locks check asks = locks asks.name_is
no_command rows word (Check input) run lists filter replicas locks check asks = check asks.name_is
