-- Claimed: what contracts promise to a reader rests on these words.
-- The report of a run: for each batch its reply lines in log order and its batch line, and then the end line.
use Rattle.std.specs.Prelude.{ℕ, ◌+◌, ◌-◌, ◌^◌, min, List, [], ◌∷◌, ◌++◌, length, map, Option, Bool, true, false}
use Rattle.catalogue.specs.Shapes.{TableShape}
use Rattle.values.specs.Database.{Database}
use Rattle.meaning.specs.Entries.{EntryShape, Reply}
use Rattle.meaning.specs.Serial.{serial_end, serial_replies}
use Rattle.row_text.specs.declared.form.DigestForm.{DigestForm}
use Rattle.row_text.specs.Partitions.{digested_text}
use Rattle.row_text.specs.Texts.{digest}
use Rattle.report_text.specs.Texts.{reply_line, batch_line, end_line}

-- a transaction: its entry and, where it is a later attempt of a request, the number of the first attempt
pub record Transaction : Type 0 where
  pub entry : EntryShape
  pub of : Option ℕ

-- the entries of transactions
abbrev pub entries_in : List Transaction → List EntryShape
entries_in transactions = map (λ t. t.entry) transactions

-- the reply lines of transactions numbered from a first one
abbrev pub reply_lines : ℕ → List Transaction → List Reply → List ℕ
reply_lines number [] replies = []
reply_lines number (t ∷ ts) [] = []
reply_lines number (t ∷ ts) (reply ∷ replies) = reply_line number t.of reply ++ reply_lines (number + 1) ts replies

-- the transactions of all batches, in log order
abbrev pub all_transactions : List (List Transaction) → List Transaction
all_transactions [] = []
all_transactions (batch ∷ batches) = batch ++ all_transactions batches

-- the number of the next batch; it stops rising at 2^64 - 1
abbrev pub next_batch : ℕ → ℕ
next_batch batch = min (batch + 1) (2 ^ 64 - 1)

-- rule: report.replies
-- the text of a batch that runs on a database: its reply lines, and its batch line with the digests of the rows after
-- it, in this form, and of those lines
unfoldable pub batch_text : DigestForm → List TableShape → ℕ → ℕ → Database → List Transaction → List ℕ
batch_text form tables batch number db transactions =
    reply_lines number transactions (serial_replies (entries_in transactions) db)
    ++ batch_line batch (digest (digested_text form tables (serial_end (entries_in transactions) db)))
    (digest (reply_lines number transactions (serial_replies (entries_in transactions) db)))

-- the texts of batches, each from the database that the one before it left
abbrev pub batch_texts : DigestForm → List TableShape → ℕ → ℕ → Database → List (List Transaction) → List ℕ
batch_texts form tables batch number db [] = []
batch_texts form tables batch number db (transactions ∷ rest) =
    batch_text form tables batch number db transactions
    ++ batch_texts form tables (next_batch batch) (number + length transactions)
    (serial_end (entries_in transactions) db) rest

-- the end line over all transactions at once; nothing after a fault
abbrev pub end_text : Bool → DigestForm → List TableShape → Database → List Transaction → List ℕ
end_text true form tables db transactions = []
end_text false form tables db transactions =
    end_line (length transactions) (digest (digested_text form tables (serial_end (entries_in transactions) db)))
    (digest (reply_lines 0 transactions (serial_replies (entries_in transactions) db)))

-- the report of batches on starting rows, where the input ended with a fault or without one
unfoldable pub report : DigestForm → List TableShape → Database → List (List Transaction) → Bool → List ℕ
report form tables db batches faulty =
    batch_texts form tables 1 0 db batches ++ end_text faulty form tables db (all_transactions batches)
