-- Claimed: what contracts promise to a reader rests on these words.
-- What is published, as those see it who publish and those who watch.
use Rattle.std.specs.Prelude.{List, Option, refl}
use Rattle.std.specs.Coded.{Coded, code_by, coded×, coded_list, coded_option}
use Rattle.atomic_table.specs.Seated.{TableId, table_id_coded}
use Rattle.progress.specs.declared.tally.Tally.{Tally}
use Rattle.progress.specs.contracts.tally.Tally as tally

-- where tallies are published
abbrev pub ListPlace : Type 0
ListPlace = Option TableId

-- the tally with which the last part of the run ended, the list of all tallies that were published, and where it is
-- published
pub record Account : Type 0 where
  pub ended : Tally
  pub published : List Tally
  pub place : ListPlace

abbrev pub account_code : Coded Account
account_code =
    code_by (Tally × (List Tally × ListPlace))
    (coded× tally.the_row.coded (coded× (coded_list tally.the_row.coded) (coded_option table_id_coded)))
    (λ a. (a.ended, (a.published, a.place)))
    (λ p. record { ended = p.0; published = p.1.0; place = p.1.1 })
    (λ _. refl)

-- the beginning of a published list, and where that is published: what a watcher knows
pub record Watched : Type 0 where
  pub seen : List Tally
  pub place : ListPlace

abbrev pub watched_code : Coded Watched
watched_code =
    code_by (List Tally × ListPlace) (coded× (coded_list tally.the_row.coded) (coded_option table_id_coded))
    (λ w. (w.seen, w.place))
    (λ p. record { seen = p.0; place = p.1 })
    (λ _. refl)
