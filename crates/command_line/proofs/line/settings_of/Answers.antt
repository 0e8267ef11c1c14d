use Rattle.std.proofs.Common.{arith, rules, codes}
use Rattle.clap.specs.Words.{found_of}
use Rattle.command_line.proofs.Options.{no_number, no_settings, number_read, settings_made}
use Rattle.command_line.proofs.line.settings_of.Goals as goal

pub returns-clause-some : goal.returns-clause-some
returns-clause-some c =
    settings_made _ c.new.result c.ok.result c.in_ok-workers.workers c.in_ok-lanes.lanes c.in_ok-threshold.threshold c.in_ok-arena.arena c.ok.ensures.value c.new.ensures.same
    (number_read (found_of c.args.matches.now) (codes "workers") c.get_one.result _ c.get_one.ensures.none c.get_one.ensures.value (search rules))
    (number_read (found_of c.args.matches.now) (codes "lanes") c.get_one-2.result _ c.get_one-2.ensures.none c.get_one-2.ensures.value (search rules))
    (number_read (found_of c.args.matches.now) (codes "coarsen") c.get_one-3.result _ c.get_one-3.ensures.none c.get_one-3.ensures.value (search rules))
    (number_read (found_of c.args.matches.now) (codes "arena") c.get_one-4.result _ c.get_one-4.ensures.none c.get_one-4.ensures.value (search rules))

pub returns-in_err-workers-clause-none : goal.returns-in_err-workers-clause-none
returns-in_err-workers-clause-none c = λ _ s given.
    no_number (found_of c.args.matches.now) (codes "workers") c.get_one.result s.workers c.get_one.ensures.value (search rules) (omega arith) given.workers

pub returns-in_err-lanes-clause-none : goal.returns-in_err-lanes-clause-none
returns-in_err-lanes-clause-none c = λ _ s given.
    no_number (found_of c.args.matches.now) (codes "lanes") c.get_one-2.result s.lanes c.get_one-2.ensures.value (search rules) (omega arith) given.lanes

pub returns-in_err-threshold-clause-none : goal.returns-in_err-threshold-clause-none
returns-in_err-threshold-clause-none c = λ _ s given.
    no_number (found_of c.args.matches.now) (codes "coarsen") c.get_one-3.result s.threshold c.get_one-3.ensures.value (search rules) (omega arith) given.threshold

pub returns-in_err-arena-clause-none : goal.returns-in_err-arena-clause-none
returns-in_err-arena-clause-none c = λ _ s given.
    no_number (found_of c.args.matches.now) (codes "arena") c.get_one-4.result s.arena c.get_one-4.ensures.value (search rules) (omega arith) given.arena

pub returns-clause-none : goal.returns-clause-none
returns-clause-none c =
    no_settings _ c.new.result c.ok.result c.in_ok-workers.workers c.in_ok-lanes.lanes c.in_ok-threshold.threshold c.in_ok-arena.arena c.ok.ensures.value c.new.ensures.accepted.1
    (number_read (found_of c.args.matches.now) (codes "workers") c.get_one.result _ c.get_one.ensures.none c.get_one.ensures.value (search rules))
    (number_read (found_of c.args.matches.now) (codes "lanes") c.get_one-2.result _ c.get_one-2.ensures.none c.get_one-2.ensures.value (search rules))
    (number_read (found_of c.args.matches.now) (codes "coarsen") c.get_one-3.result _ c.get_one-3.ensures.none c.get_one-3.ensures.value (search rules))
    (number_read (found_of c.args.matches.now) (codes "arena") c.get_one-4.result _ c.get_one-4.ensures.none c.get_one-4.ensures.value (search rules))
