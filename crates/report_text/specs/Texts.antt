-- Claimed: what contracts promise to a reader rests on these words.
-- The lines of a report. Words are separated by one space, and each line ends with a newline byte.
use Rattle.std.specs.Prelude.{ℕ, List, [], ◌++◌, codes, Option, Some, None}
use Rattle.std.specs.Fmt.{decimal}
use Rattle.footprint.specs.AbortCodes.{number_of}
use Rattle.meaning.specs.Entries.{Reply, commit, aborted, stale}
use Rattle.row_text.specs.Texts.{line_end, values_text}

-- what comes after a transaction's number: `commit V1 .. Vn`, `abort CODE` or `stale`
unfoldable pub reply_words : Reply → List ℕ
reply_words (commit values) = codes " commit" ++ values_text values
reply_words (aborted code) = codes " abort " ++ decimal (number_of code)
reply_words stale = codes " stale"

-- after a later attempt's number: the number of the request's first attempt
abbrev pub of_words : Option ℕ → List ℕ
of_words None = []
of_words (Some first) = codes " of " ++ decimal first

-- rule: report.reply, report.later
-- NO, for a later attempt `of FIRST`, and its reply
unfoldable pub reply_line : ℕ → Option ℕ → Reply → List ℕ
reply_line number of reply = decimal number ++ of_words of ++ reply_words reply ++ line_end

-- rule: report.batch
-- batch B rows R replies Q
unfoldable pub batch_line : ℕ → List ℕ → List ℕ → List ℕ
batch_line batch rows replies =
    codes "batch " ++ decimal batch ++ codes " rows " ++ rows ++ codes " replies " ++ replies ++ line_end

-- rule: report.end
-- end N rows R replies A
unfoldable pub end_line : ℕ → List ℕ → List ℕ → List ℕ
end_line count rows replies =
    codes "end " ++ decimal count ++ codes " rows " ++ rows ++ codes " replies " ++ replies ++ line_end
