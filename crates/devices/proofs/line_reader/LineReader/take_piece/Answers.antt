use Rattle.std.proofs.Common.{rules}
use Rattle.devices.proofs.Pieces.{ended_piece, lost_piece}
use Rattle.devices.proofs.line_reader.LineReader.take_piece.Goals as goal

pub returns-in_err-push_piece-clause-lost : goal.returns-in_err-push_piece-clause-lost
returns-in_err-push_piece-clause-lost g c =
    let lost = lost_piece c.args.self.now.buffer c.args.self.now.start c.args.self.now.end c.line_end-count.result (search rules) c.line_end-count.ensures.before c.in_err-push_piece.ensures.some in
    search rules

pub returns-clause-piece : goal.returns-clause-piece
returns-clause-piece g c =
    ended_piece c.args.self.now.buffer c.args.self.now.start c.args.self.now.end c.line_end-count.result c.args.line.now.items c.push_piece.new.line.items
    (search rules) (search rules) c.line_end-count.ensures.before c.line_end-count.ensures.at (search rules)
