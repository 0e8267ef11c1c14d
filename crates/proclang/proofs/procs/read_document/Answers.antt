use Rattle.std.proofs.Common.{[], ◌∷◌, map}
use Rattle.serde_json.specs.View.{view}
use Rattle.proclang.proofs.TypedProcs.{procs_sound}
use Rattle.proclang.proofs.procs.read_document.Goals as goal

pub returns-clause-sound : goal.returns-clause-sound
returns-clause-sound c = rw c.in_ok-procs.ensures.tables (procs_sound c.args.catalogue.now (2 ∷ []) (map view c.in-Some.values.now) c.in_ok-procs.procs.procs c.in_ok-procs.ensures.exact c.in_ok-procs.ensures.over)
