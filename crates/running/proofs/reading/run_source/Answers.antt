use Rattle.std.proofs.Common.{rules}
use Rattle.running.proofs.EngineRuns.{of_reader}
use Rattle.running.proofs.reading.run_source.Goals as goal

pub returns-clause-run : goal.returns-clause-run
returns-clause-run g c =
    of_reader g.S.Source.left g.S.Source.failed g.K.Sink.taken g.K.Sink.broken c.args.reading c.args.engine.now.core c.run_reader-result.new.engine.core c.args.source.now c.source-1.given.0
    c.reader_of-reader.result c.run_reader-result.new.reader _ c.args.sink.now c.run_reader-result.new.sink c.run_reader-result.result c.feed_end-feed.result
    c.reader_of-reader.ensures.same c.reader_of-reader.ensures.source c.reader_of-reader.ensures.unread c.reader_of-reader.ensures.nothing.goes_on c.run_reader-result.ensures.same.0 (search rules) c.feed_end-feed.ensures
    c.run_reader-result.ensures.run c.run_reader-result.ensures.same.1 c.run_reader-result.ensures.ended c.run_reader-result.ensures.rows c.run_reader-result.ensures.followed c.run_reader-result.ensures.feed
