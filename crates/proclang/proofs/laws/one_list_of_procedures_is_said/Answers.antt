use Rattle.std.proofs.Common.{◌≡◌, Ok, sym, ◌∙◌}
use Rattle.proclang.proofs.SaidProcs.{procs_read}
use Rattle.proclang.proofs.laws.one_list_of_procedures_is_said.Goals as goal

pub returns : goal.returns
returns c = λ tables d ps qs says says_too.
    let one : Ok ps ≡ Ok qs = sym (procs_read tables d ps says) ∙ procs_read tables d qs says_too in cc
