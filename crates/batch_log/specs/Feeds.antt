-- Claimed: what contracts promise to a reader rests on these words.
-- What a clause sees of a feed.
use Rattle.batch_log.specs.declared.feed.LogFeed.{LogFeed}
use Rattle.batch_log.specs.Places.{Place}

-- the place that a feed has reached
abbrev pub place_of : LogFeed → Place
place_of feed = record
    { retries = feed.retries; calls = feed.calls.items; total = feed.total; lines = feed.lines; line = feed.line.items }
