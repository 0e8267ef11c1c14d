-- Commands without global arguments.
use Rattle.std.proofs.Common.{◌≡◌, ◌||◌, false, ap₂, ◌∙◌}
use Rattle.clap.specs.Words.{AddsArg}
use Rattle.clap.specs.declared.builder.arg.Arg.{Arg}
use Rattle.clap.specs.declared.builder.command.Command.{Command}
use Rattle.clap.specs.declared.builder.command.Command.TheViews.{out-Command as fields_of}

-- an argument that isn't global leaves a command without such an argument
pub stays_local : (old new : Command) (arg : Arg) → (fields_of old).has_globals ≡ false → arg.global ≡ false → AddsArg old arg new → (fields_of new).has_globals ≡ false
stays_local old new arg e f adds = adds.globals ∙ ap₂ (λ a b. a || b) e f
