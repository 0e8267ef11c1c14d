-- The report of one more batch.
use Rattle.std.proofs.Common.{◌≡◌, ℕ, suc, ◌+◌, false, List, [], ◌∷◌, ◌++◌, append_assoc, append-nil, length, arith, sym, ◌∙◌, ap}
use Rattle.std.proofs.lemmas.List.{length-map}
use Rattle.catalogue.specs.Shapes.{TableShape}
use Rattle.values.specs.Database.{Database}
use Rattle.requests.specs.Requests.{Call}
use Rattle.meaning.specs.Serial.{serial_end, serial_replies}
use Rattle.report_text.specs.Report.{Transaction, entries_in, reply_lines, batch_text, batch_texts, end_text, next_batch}
use Rattle.report_text.specs.Texts.{end_line}
use Rattle.row_text.specs.declared.form.DigestForm.{DigestForm}
use Rattle.row_text.specs.Partitions.{digested_text}
use Rattle.row_text.specs.Texts.{digest}
use Rattle.retries.specs.Standings.{Standing, start_of, attempts_at, transaction_of, transactions_at, transactions_in, after_batch, after_batches, in_turn}
use Rattle.retries.proofs.Serial.{next_is, rows_are}

number_next : (n : ℕ) → next_batch (next_batch n) ≡ next_batch (n + 1)
number_next n = omega arith

first_number : next_batch 0 ≡ 1
first_number = omega arith

-- the text of a batch from a standing
abbrev text_of : DigestForm → List TableShape → ℕ → Standing → List Call → List ℕ
text_of form tables number s calls = batch_text form tables number s.next s.rows (transactions_at s calls)

-- the texts of batches from a standing
abbrev texts_of : DigestForm → List TableShape → ℕ → ℕ → Standing → List (List Call) → List ℕ
texts_of form tables retries number s batches = batch_texts form tables number s.next s.rows (in_turn retries s batches)

first_text : (form : DigestForm) (tables : List TableShape) (retries number : ℕ) (s : Standing) (calls : List Call) (rest : List (List Call)) →
    texts_of form tables retries number s (calls ∷ rest) ≡ text_of form tables number s calls ++ texts_of form tables retries (next_batch number) (after_batch retries s calls) rest
first_text form tables retries number s calls rest =
    ap (λ k. text_of form tables number s calls ++ batch_texts form tables (next_batch number) (s.next + k) (after_batch retries s calls).rows (in_turn retries (after_batch retries s calls) rest))
    (length-map (attempts_at s calls) (transaction_of s.rows))

more_texts : (form : DigestForm) (tables : List TableShape) (retries number : ℕ) (s : Standing) (batches : List (List Call)) (calls : List Call) →
    texts_of form tables retries (next_batch number) s (batches ++ calls ∷ []) ≡
    texts_of form tables retries (next_batch number) s batches ++ text_of form tables (next_batch (number + length batches)) (after_batches retries s batches) calls
more_texts form tables retries number s [] calls =
    append-nil (text_of form tables (next_batch number) s calls) ∙ ap (λ k. text_of form tables (next_batch k) s calls) (none_more number)
  where
    none_more : (k : ℕ) → k ≡ k + 0
    none_more k = omega arith
more_texts form tables retries number s (first ∷ batches) calls =
    let mine : List ℕ = text_of form tables (next_batch number) s first in
    let next : Standing = after_batch retries s first in
    let last : Standing = after_batches retries next batches in
    first_text form tables retries (next_batch number) s first (batches ++ calls ∷ [])
    ∙ ap (λ k. mine ++ texts_of form tables retries k next (batches ++ calls ∷ [])) (number_next number)
    ∙ ap (λ text. mine ++ text) (more_texts form tables retries (number + 1) next batches calls)
    ∙ sym (append_assoc mine (texts_of form tables retries (next_batch (number + 1)) next batches) (text_of form tables (next_batch (number + 1 + length batches)) last calls))
    ∙ ap (λ k. (mine ++ texts_of form tables retries k next batches) ++ text_of form tables (next_batch (number + 1 + length batches)) last calls) (sym (number_next number))
    ∙ ap (λ k. (mine ++ texts_of form tables retries (next_batch (next_batch number)) next batches) ++ text_of form tables (next_batch k) last calls) (further number (length batches))
    ∙ ap (λ text. text ++ text_of form tables (next_batch (number + suc (length batches))) last calls) (sym (first_text form tables retries (next_batch number) s first batches))
  where
    further : (a b : ℕ) → a + 1 + b ≡ a + suc b
    further a b = omega arith

pub texts_grown : (form : DigestForm) (tables : List TableShape) (retries : ℕ) (db : Database) (batches : List (List Call)) (calls : List Call) →
    texts_of form tables retries 1 (start_of db) (batches ++ calls ∷ []) ≡
    texts_of form tables retries 1 (start_of db) batches ++ text_of form tables (next_batch (length batches)) (after_batches retries (start_of db) batches) calls
texts_grown form tables retries db batches calls =
    let last : Standing = after_batches retries (start_of db) batches in
    ap (λ k. texts_of form tables retries k (start_of db) (batches ++ calls ∷ [])) (sym first_number)
    ∙ more_texts form tables retries 0 (start_of db) batches calls
    ∙ ap (λ k. texts_of form tables retries k (start_of db) batches ++ text_of form tables (next_batch (0 + length batches)) last calls) first_number
    ∙ ap (λ k. texts_of form tables retries 1 (start_of db) batches ++ text_of form tables (next_batch k) last calls) (none_before (length batches))
  where
    none_before : (k : ℕ) → 0 + k ≡ k
    none_before k = omega arith

-- the end line from what the batches leave
pub end_is : (form : DigestForm) (tables : List TableShape) (retries : ℕ) (db : Database) (batches : List (List Call)) →
    end_text false form tables db (transactions_in retries db batches) ≡
    end_line (after_batches retries (start_of db) batches).next (digest (digested_text form tables (after_batches retries (start_of db) batches).rows))
    (digest (reply_lines 0 (transactions_in retries db batches) (serial_replies (entries_in (transactions_in retries db batches)) db)))
end_is form tables retries db batches =
    let ts : List Transaction = transactions_in retries db batches in
    let lines : List ℕ = reply_lines 0 ts (serial_replies (entries_in ts) db) in
    ap (λ n. end_line n (digest (digested_text form tables (serial_end (entries_in ts) db))) (digest lines)) (sym (next_is retries db batches))
    ∙ ap (λ (rows : Database). end_line (after_batches retries (start_of db) batches).next (digest (digested_text form tables rows)) (digest lines)) (sym (rows_are retries db batches))
