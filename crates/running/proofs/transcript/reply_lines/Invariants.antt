use Rattle.std.proofs.Common.{◌≡◌, ◌++◌, drop, string_bytes}
use Rattle.running.specs.Transcripts.{said_lines}
use Rattle.running.proofs.transcript.reply_lines.Given as goal

-- the lines so far, and after them those of the rest, are the lines of all
abbrev pub invariant-loop-reply : goal.invariant-loop-reply
invariant-loop-reply l = string_bytes l.lines ++ said_lines (drop l.reply-index l.replies) ≡ said_lines l.replies
