use Rattle.std.proofs.Common.{◌≡◌, inl, inr, List, [], Option, map, string_bytes, true, refl, sym, ◌∙◌, ap, subst}
use Rattle.clap.specs.Faults.{is_simple_and_free}
use Rattle.clap.specs.Words.{App, HasKind, Kinds, Row, Text, app_of, fault_of, is_simple, kind_of, subcommand_of, subcommand_rows_of}
use Rattle.clap.specs.declared.error.Error.{Error}
use Rattle.clap.specs.declared.error.kind.ErrorKind.TheVariants.{OutOfMemory}
use Rattle.clap.proofs.OnLiterals.{clap_on_literals}
use Rattle.command_line.specs.CommandLine.{AsksFor, IsRefused}
use Rattle.command_line.specs.Words.{calvin_app, check_app, filter_app, locks_app, replicas_app, rows_app, run_app}
use Rattle.command_line.specs.declared.line.LineFault.{LineFault}
use Rattle.command_line.specs.declared.line.LineFault.TheVariants.{NoMemory}
use Rattle.command_line.proofs.line.read_line.Goals as goal

is_plain : is_simple calvin_app ≡ true
unfolding calvin_app run_app rows_app filter_app replicas_app locks_app check_app clap_on_literals
is_plain = refl

is_free : is_simple_and_free calvin_app ≡ true
unfolding calvin_app run_app rows_app filter_app replicas_app locks_app check_app clap_on_literals
is_free = refl

only_memory : (kinds : Kinds) (e : Error) (fault : LineFault) → HasKind kinds e → kinds ≡ [] → (kind_of e ≡ OutOfMemory → fault ≡ NoMemory) → IsRefused fault → ⊥
only_memory kinds e fault has none memory refused =
    let ran_out : HasKind [] e = rw none at has in
    elim ran_out [
      | inl h ↦ subst IsRefused (memory h) refused
      | inr h ↦ h
    ]

pub returns-in-Err-clause-refused : goal.returns-in-Err-clause-refused
returns-in-Err-clause-refused c = λ refused line asked.
    let app : app_of c.in_ok-command.command ≡ calvin_app = c.in_ok-command.ensures in
    let words : List Text = map string_bytes c.args.words.now in
    only_memory _ c.in-Err.error _ (c.in-Err.ensures.kinds (ap is_simple_and_free app ∙ is_free)) (ap (λ (a : App). fault_of a words) app ∙ asked.0) c.fault_in.ensures refused

pub returns-in-Some-clause-line : goal.returns-in-Some-clause-line
returns-in-Some-clause-line c =
    let app : app_of c.in_ok-command.command ≡ calvin_app = c.in_ok-command.ensures in
    let words : List Text = map string_bytes c.args.words.now in
    let taken : fault_of calvin_app words ≡ [] = ap (λ (a : App). fault_of a words) (sym app) ∙ c.in-Ok.ensures.kinds (ap is_simple_and_free app ∙ is_free) in
    let cut : subcommand_rows_of c.in-Ok.matches ≡ subcommand_of calvin_app words =
    (c.in-Ok.ensures.matches (ap is_simple app ∙ is_plain)).1 ∙ ap (λ (a : App). subcommand_of a words) app in
    (taken, subst (λ (o : Option (Text × List Row)). AsksFor o c.in-Some.line) cut (rw c.in-Some.is at c.in_ok-line.ensures.some))

pub returns-clause-refused : goal.returns-clause-refused
returns-clause-refused c = λ _ line asked.
    let app : app_of c.in_ok-command.command ≡ calvin_app = c.in_ok-command.ensures in
    let words : List Text = map string_bytes c.args.words.now in
    let cut : subcommand_rows_of c.in-Ok.matches ≡ subcommand_of calvin_app words =
    (c.in-Ok.ensures.matches (ap is_simple app ∙ is_plain)).1 ∙ ap (λ (a : App). subcommand_of a words) app in
    (rw c.in-None.is at c.in_ok-line.ensures.none) refl line (subst (λ (o : Option (Text × List Row)). AsksFor o line) (sym cut) asked.1)
